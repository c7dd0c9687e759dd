use Rattle.std.proofs.Common.{ap, sym, subst, ◌∙◌, All, refl}
use Rattle.fact_store.proofs.StoreLemmas.{grown, fact_kept, stays}
use Rattle.task_model.specs.Known.{IsIn, with_fact}
use Rattle.fact_store.proofs.facts.Facts.add_uncovered.Goals as goal
use Rattle.std.proofs.lemmas.Result.{on_err_weaker}

pub invariant_of-self-inside : goal.invariant_of-self-inside
invariant_of-self-inside c = (
  fact_kept (record { names = c.self.inside.names.keys; facts = c.self.inside.facts; values = c.self.inside.values }) c.insert_uncovered.new.self
      c.args.fact
      (subst (λ ns. All (IsIn ns) c.args.fact.args) (sym (ap (λ s. s.known.names) c.self.view_is)) c.requires)
      (grown c.insert_uncovered.result c.self.inside.facts _
      (with_fact c.self.inside.facts c.args.fact) c.insert_uncovered.new.self refl c.insert_uncovered.ensures.facts c.insert_uncovered.ensures.err)
      c.self.inside.coherent,
  tt,
)

pub returns-clause-err : goal.returns-clause-err
returns-clause-err c =
    on_err_weaker c.insert_uncovered.result (λ same.
    stays _ c.args.self.now (ap (λ s. s.known.names) c.self.view_is)
    (same ∙ ap (λ s. s.known.facts) c.self.view_is) (ap (λ s. s.known.values) c.self.view_is)) c.insert_uncovered.ensures.err
