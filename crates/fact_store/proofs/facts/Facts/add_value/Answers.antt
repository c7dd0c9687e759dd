use Rattle.std.proofs.Common.{ap, ◌∙◌, refl}
use Rattle.fact_store.proofs.StoreLemmas.{grown, value_kept, stays}
use Rattle.task_model.specs.Known.{with_value}
use Rattle.fact_store.proofs.facts.Facts.add_value.Goals as goal
use Rattle.std.proofs.lemmas.Result.{on_err_weaker}

pub invariant_of-self-inside : goal.invariant_of-self-inside
invariant_of-self-inside c = (
  value_kept (record { names = c.self.inside.names.keys; facts = c.self.inside.facts; values = c.self.inside.values }) c.insert.new.self
      (record { func = c.args.func; args = c.args.args; value = c.args.value })
      c.requires.cost
      (grown c.insert.result c.self.inside.values _
      (with_value c.self.inside.values (record { func = c.args.func; args = c.args.args; value = c.args.value })) c.insert.new.self refl
      c.insert.ensures.values c.insert.ensures.err) c.self.inside.coherent,
  tt,
)

pub returns-clause-err : goal.returns-clause-err
returns-clause-err c =
    on_err_weaker c.insert.result (λ same.
    stays _ c.args.self.now (ap (λ s. s.known.names) c.self.view_is)
    (ap (λ s. s.known.facts) c.self.view_is) (same ∙ ap (λ s. s.known.values) c.self.view_is)) c.insert.ensures.err
