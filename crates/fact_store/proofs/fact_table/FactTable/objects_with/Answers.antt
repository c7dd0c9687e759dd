use Rattle.std.proofs.Common.{◌∙◌, ◌++◌, ◌∷◌, [], ap, sym}
use Rattle.task_model.specs.Known.{objects_of}
use Rattle.fact_store.proofs.fact_table.FactTable.objects_with.Goals as goal
use Rattle.lemmas.proofs.Members.{next_taken}

pub loop-number-preserved : goal.loop-number-preserved
loop-number-preserved c =
    c.in_ok-push-in-Some.ensures.items ∙ ap (λ xs. xs ++ c.in-Some.object ∷ []) c.loop-number.invariant
    ∙ sym (next_taken (objects_of c.args.self.now c.args.sort) c.loop-number.number c.in-Some.object (sym c.in-Some.ensures))
