use Rattle.std.proofs.Common.{◌∙◌, sym, ap, subst}
use Rattle.dreaming.proofs.PartLemmas.{part_known}
use Rattle.dream_check.proofs.ListedLemmas.{steps_miss, steps_reach}
use Rattle.dream_check.specs.Listed.{IsFollowed}
use Rattle.dream_check.specs.declared.steps.Followed.TheVariants.{Stops, Misses, Reaches}
use Rattle.shown_steps.specs.Runs.{IsRan}
use Rattle.task_model.specs.Known.{Known}
use Rattle.dream_check.proofs.steps.follow.Goals as goal

pub look-look-requires : goal.look-look-requires
look-look-requires c = (c.args.listing.now.task.now, c.requires.part.part)

pub run_steps-requires-clause-fit : goal.run_steps-requires-clause-fit
run_steps-requires-clause-fit c = c.requires.listing.plain.base.fit

pub run_steps-requires-clause-names : goal.run_steps-requires-clause-names
run_steps-requires-clause-names c =
    let l = c.args.listing.now in
    let p = c.args.part.now in
    c.requires.names ∙ ap (λ (k : Known). k.names) (c.requires.listing.known)
    ∙ sym (ap (λ (k : Known). k.names) (c.look-look.ensures ∙ part_known l.task.now l.supposed.now p.places p c.requires.part))

pub reaches_goal-requires : goal.reaches_goal-requires
reaches_goal-requires c = c.requires.listing.plain.base.fit

pub returns-in-Stops : goal.returns-in-Stops
returns-in-Stops c =
    let task = c.args.listing.now.task.now in
    subst (λ (k : Known). IsFollowed task k c.args.steps.now (Stops c.in-Stops.place)) c.look-look.ensures
    (subst (IsRan task c.look-look.result.known c.args.steps.now) c.in-Stops.is c.in_ok-place.ensures)

pub returns-then-reaches_goal : goal.returns-then-reaches_goal
returns-then-reaches_goal c =
    let task = c.args.listing.now.task.now in
    let run = subst (IsRan task c.look-look.result.known c.args.steps.now) c.in-Ends.is c.in_ok-place.ensures in
    subst (λ (k : Known). IsFollowed task k c.args.steps.now Reaches) c.look-look.ensures
    (steps_reach task c.requires.listing.plain.base.fit c.look-look.result.known c.look-look.result.coherent c.args.steps.now
    c.in-Ends.run' run c.reaches_goal.result c.reaches_goal.ensures c.if-reaches_goal.true)

pub returns : goal.returns
returns c =
    let task = c.args.listing.now.task.now in
    let run = subst (IsRan task c.look-look.result.known c.args.steps.now) c.in-Ends.is c.in_ok-place.ensures in
    subst (λ (k : Known). IsFollowed task k c.args.steps.now Misses) c.look-look.ensures
    (steps_miss task c.requires.listing.plain.base.fit c.look-look.result.known c.look-look.result.coherent c.args.steps.now
    c.in-Ends.run' run c.reaches_goal.result c.reaches_goal.ensures c.if-reaches_goal.false)
