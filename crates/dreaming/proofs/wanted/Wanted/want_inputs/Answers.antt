use Rattle.std.proofs.Common.{ℕ, List, inl, inr, ap, subst, ◌∙◌, Contains}
use Rattle.task_model.specs.declared.stream.Instance.{Instance}
use Rattle.dreaming.proofs.WantedLemmas.{input_essential}
use Rattle.dreaming.proofs.wanted.Wanted.want_inputs.Goals as goal

pub loop-place-preserved-then-has_some : goal.loop-place-preserved-then-has_some
loop-place-preserved-then-has_some c task steps h coherent first object wanted place e at out =
    let d = c.args.supposed.now in
    let before = c.loop-place.invariant task steps h coherent first in
    elim (c.want.ensures object wanted) [
      | inl old ↦ before object old place e at out
      | inr input ↦
          let some = c.has_some.ensures c.if-has_some.true in
          let user = c.entry-entry.result.now in
          let essential = before some.0 some.2 _ user c.entry-entry.ensures
          (subst (λ (os : List ℕ). Contains os some.0) c.outputs.ensures some.1) in
          input_essential task d h coherent steps _ user c.entry-entry.ensures essential object
          (subst (λ (os : List ℕ). Contains os object)
          (c.as_slice.ensures ∙ ap (λ (i : Instance). i.inputs) c.instance.ensures) input) place e at out
    ]
