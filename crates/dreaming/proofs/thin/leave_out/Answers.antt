use Rattle.std.proofs.Common.{◌≡◌, ◌+◌, subst, arith, Option}
use Rattle.std.specs.Prelude.{IfNone}
use Rattle.dreaming.proofs.KeptLemmas.{needed_next}
use Rattle.dreaming.specs.Thinning.{TrialNeeds}
use Rattle.dreaming.specs.declared.trial.Kept.{Kept}
use Rattle.dreaming.proofs.thin.leave_out.Goals as goal

pub loop-from-preserved : goal.loop-from-preserved
loop-from-preserved c =
    let trial = c.args.trial.now in
    let places = c.loop-from.kept.places.items in
    let from = c.loop-from.from in
    let to = c.min-to.result in
    record {
      kept = c.loop-from.invariant.kept;
      most = c.loop-from.invariant.most;
      fewer = c.loop-from.invariant.fewer;
      needed = λ none one.
          let next : to ≡ from + 1 =
          omega (
            arith,
            one,
            c.loop-from-test.true,
            c.len.ensures,
            c.len-in-loop-from.ensures,
            c.saturating_add.ensures,
            c.min-to.ensures,
          ) in
          needed_next trial.listing.task.now trial.listing.supposed.now trial.plan.now.steps places from to next
          (c.loop-from.invariant.needed none one)
          (subst (λ (o : Option Kept). IfNone o (TrialNeeds trial places from to)) c.in-None.is c.in_ok-fewer.ensures.needed);
    }

pub returns-clause-needed : goal.returns-clause-needed
returns-clause-needed c none one place lt =
    c.loop-from.invariant.needed none one place (omega (arith, lt, c.loop-from-test.false, c.len.ensures))
