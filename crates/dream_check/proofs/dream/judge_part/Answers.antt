use Rattle.std.proofs.Common.{◌<◌, ℕ, List, length, All, sym, subst}
use Rattle.std.specs.Prelude.{IfOk}
use Rattle.dreaming.proofs.PartLemmas.{part_known}
use Rattle.shown_steps.specs.Plans.{IsPlan}
use Rattle.task_model.specs.Known.{Known}
use Rattle.dream_check.specs.Listed.{IsFollowed, IsPartJudged, known_at}
use Rattle.dream_check.specs.declared.steps.Followed.TheVariants.{Stops, Misses, Reaches}
use Rattle.dream_check.proofs.dream.judge_part.Goals as goal

pub returns-in-Stops : goal.returns-in-Stops
returns-in-Stops c =
    let l = c.args.listing.now in
    let p = c.args.part.now in
    subst (λ (k : Known). IsFollowed l.task.now k c.args.steps.now (Stops c.in-Stops.place))
    (part_known l.task.now l.supposed.now p.places p c.requires.part)
    (subst (IsFollowed l.task.now p.known c.args.steps.now) c.in-Stops.is c.in_ok-place.ensures)

pub returns-in-Misses : goal.returns-in-Misses
returns-in-Misses c =
    let l = c.args.listing.now in
    let p = c.args.part.now in
    let missed =
    subst (λ (k : Known). IsFollowed l.task.now k c.args.steps.now Misses) (part_known l.task.now l.supposed.now p.places p c.requires.part)
    (subst (IsFollowed l.task.now p.known c.args.steps.now) c.in-Misses.is c.in_ok-place.ensures) in
    (missed.0, λ thin. missed.1 thin.0.0 thin.0.1)

pub judge_plan-requires-clause-below : goal.judge_plan-requires-clause-below
judge_plan-requires-clause-below c =
    let l = c.args.listing.now in
    let p = c.args.part.now in
    let here = subst (λ list. All (λ place. place < length list) p.places) c.requires.part.list c.requires.part.part.below in
    subst (All (λ place. place < length l.supposed.now.list)) (sym c.places.ensures) here

pub judge_plan-requires-clause-plan : goal.judge_plan-requires-clause-plan
judge_plan-requires-clause-plan c =
    let l = c.args.listing.now in
    let p = c.args.part.now in
    let plan =
    subst (λ (k : Known). IsFollowed l.task.now k c.args.steps.now Reaches)
    (part_known l.task.now l.supposed.now p.places p c.requires.part)
    (subst (IsFollowed l.task.now p.known c.args.steps.now) c.in-Reaches.is c.in_ok-place.ensures) in
    subst (λ (ps : List ℕ). (cost : ℕ) × IsPlan l.task.now (known_at l.task.now l.supposed.now ps) c.args.steps.now cost)
    (sym c.places.ensures) plan

pub returns-in-Reaches : goal.returns-in-Reaches
returns-in-Reaches c =
    let l = c.args.listing.now in
    subst (λ (ps : List ℕ). IfOk c.judge_plan.result (IsPartJudged l.task.now l.supposed.now ps c.args.steps.now))
    c.places.ensures c.judge_plan.ensures
