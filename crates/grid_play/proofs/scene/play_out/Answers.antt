use Rattle.std.proofs.Common.{◌≡◌, ◌≤◌, ◌+◌, ◌++◌, length, take_all, slice_get, Some, sym, subst, ap, ◌∙◌, arith}
use Rattle.lemmas.proofs.ListTests.{get_some}
use Rattle.grid_play.specs.Faults.{mark_in, marks_from}
use Rattle.grid_play.specs.Steps.{IsClashVerdict, IsStepVerdict, marks_for}
use Rattle.grid_play.specs.Worlds.{home_world, move_of}
use Rattle.grid_play.specs.declared.play.PlayVerdict.TheVariants.{Safe}
use Rattle.grid_play.proofs.PlayLemmas.{fault_here, marks_here, marks_next, none_at_home, none_next, safe_here}
use Rattle.grid_play.proofs.StepLemmas.{world_next}
use Rattle.grid_play.proofs.scene.play_out.Goals as goal

pub loop-place-init : goal.loop-place-init
loop-place-init c =
    let grid = c.args.grid.now in
    let at_home : c.as_slice.result.now ≡ home_world grid = c.as_slice.ensures.value ∙ c.requires.world in
    let clear : IsClashVerdict grid (home_world grid) 0 Safe =
    subst (λ w. IsClashVerdict grid w 0 Safe) at_home
    (subst (IsClashVerdict grid c.as_slice.result.now 0) c.in-Safe.is c.in_ok-fault.ensures) in
    record {
      world = ap Some (sym c.requires.world);
      marks = c.requires.marks;
      none = none_at_home grid c.args.steps.now clear;
    }

pub returns-in_default-2 : goal.returns-in_default-2
returns-in_default-2 c =
    let grid = c.args.grid.now in
    let steps = c.args.steps.now in
    let k = c.loop-place.place in
    let call = c.index-steps-place.result in
    let world = c.loop-place.scene.world.items in
    let fault = c.in_ok-fault-2.fault in
    let at : slice_get steps k ≡ Some call = get_some steps k call c.loop-place-test.true c.index-steps-place.is in
    let before = c.loop-place.invariant.world in
    record {
      verdict = fault_here grid steps k call world at before c.loop-place.invariant.none fault c.in_ok-fault-2.ensures.verdict
          c.in_default-2.not-Safe;
      marks =
          c.in_ok-fault-2.ensures.marks
          ∙ ap (λ ms. ms ++ marks_for grid (k + 1) call fault) c.loop-place.invariant.marks
          ∙ marks_here grid steps k call world at before fault c.in_ok-fault-2.ensures.verdict c.in_default-2.not-Safe;
    }

pub loop-place-preserved : goal.loop-place-preserved
loop-place-preserved c =
    let grid = c.args.grid.now in
    let steps = c.args.steps.now in
    let k = c.loop-place.place in
    let call = c.index-steps-place.result in
    let world = c.loop-place.scene.world.items in
    let at : slice_get steps k ≡ Some call = get_some steps k call c.loop-place-test.true c.index-steps-place.is in
    let before = c.loop-place.invariant.world in
    let safe = subst (IsStepVerdict grid world (k + 1) call) c.in-Safe-2.is c.in_ok-fault-2.ensures.verdict in
    record {
      world =
          world_next grid (home_world grid) world steps k call at before
          ∙ c.in_ok-fault-2.ensures.world c.in-Safe-2.is;
      marks =
          c.in_ok-fault-2.ensures.marks
          ∙ ap (λ v. c.loop-place.scene.marks.items ++ marks_for grid (k + 1) call v) c.in-Safe-2.is
          ∙ ap (λ ms. ms ++ mark_in grid (k + 1) (move_of grid call)) c.loop-place.invariant.marks
          ∙ sym (marks_next grid steps k call at);
      none = none_next grid steps k call world at before c.loop-place.invariant.none safe;
    }

pub returns : goal.returns
returns c =
    let grid = c.args.grid.now in
    let steps = c.args.steps.now in
    let k = c.loop-place.place in
    let all : length steps ≤ k = c.loop-place-test.false in
    record {
      verdict = safe_here grid steps k all c.loop-place.invariant.none;
      marks =
          c.loop-place.invariant.marks
          ∙ ap (marks_from grid 1) (take_all k steps all ∙ sym (take_all (length steps) steps (omega arith)));
    }
