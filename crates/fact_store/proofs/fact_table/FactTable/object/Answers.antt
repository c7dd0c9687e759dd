use Rattle.std.proofs.Common.{◌∙◌, ap, sym, slice_get}
use Rattle.task_model.specs.Known.{objects_of}
use Rattle.fact_store.proofs.LookupLemmas.{object_at, no_object_at}
use Rattle.fact_store.proofs.fact_table.FactTable.object.Goals as goal

pub returns-in_err-fact : goal.returns-in_err-fact
returns-in_err-fact c =
    c.from_residual.ensures ∙ no_object_at c.args.sort c.as_slice.result.now c.args.number (sym c.in_err-fact.ensures)
    ∙ ap (λ fs. slice_get (objects_of fs c.args.sort) c.args.number) (c.as_slice.ensures.keys ∙ c.self.view_is)

pub returns : goal.returns
returns c =
    c.copied.ensures ∙ c.first.ensures.value ∙ ap (λ xs. slice_get xs 0) c.args-2.ensures
    ∙ object_at c.args.sort c.as_slice.result.now c.args.number c.in_ok-fact.fact.now (sym c.in_ok-fact.ensures)
    ∙ ap (λ fs. slice_get (objects_of fs c.args.sort) c.args.number) (c.as_slice.ensures.keys ∙ c.self.view_is)
