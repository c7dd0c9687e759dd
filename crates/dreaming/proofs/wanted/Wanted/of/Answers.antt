use Rattle.std.proofs.Common.{ℕ, List, inl, inr, sym, subst, Contains}
use Rattle.std.specs.List.{flat_map}
use Rattle.lemmas.proofs.Ascending.{in_flat_map}
use Rattle.task_model.specs.Known.{IsCoherent}
use Rattle.task_model.specs.declared.task.GroundAction.{GroundAction}
use Rattle.dreaming.proofs.WantedLemmas.{step_essential}
use Rattle.dreaming.proofs.wanted.Wanted.of.Goals as goal

pub loop-step-preserved : goal.loop-step-preserved
loop-step-preserved c object wanted =
    elim (c.want.ensures object wanted) [
      | inl old ↦ c.loop-step.invariant object old
      | inr arg ↦
          in_flat_map (λ (s : GroundAction). s.args) c.as_slice-step-items.result.now c.step-item.result object
          (c.loop-step.step-index, c.loop-step-test.true, sym c.step-item.is)
          (subst (λ (os : List ℕ). Contains os object) c.as_slice.ensures arg)
    ]

pub returns : goal.returns
returns c task h =
    let coherent = subst IsCoherent c.facts-facts.ensures c.facts-facts.result.now.coherent in
    c.want_inputs.ensures task c.args.plan.now.steps h coherent
    (λ object wanted.
    step_essential task c.args.supposed.now h coherent c.args.plan.now.steps object
    (subst (λ (steps : List GroundAction). Contains (flat_map (λ (s : GroundAction). s.args) steps) object)
    c.as_slice-step-items.ensures (c.loop-step.invariant object wanted)))
