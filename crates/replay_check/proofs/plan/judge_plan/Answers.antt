use Rattle.std.proofs.Common.{◌≡◌, ◌<◌, ◌^◌, sym, subst, true, false, rules, tests}
use Rattle.shown_steps.proofs.PlansLemmas.{costs_other, goal_reached, plan_at_end, plan_run, run_can}
use Rattle.shown_steps.specs.Runs.{IsRan, IsRunOf}
use Rattle.task_model.specs.Known.{IsCoherent, Known}
use Rattle.task_model.specs.Plans.{IsGoal}
use Rattle.transcript_model.specs.Transcript.{known_of}
use Rattle.replay_check.proofs.plan.judge_plan.Goals as goal

pub returns-in-Stops-clause-said : goal.returns-in-Stops-clause-said
returns-in-Stops-clause-said c =
    let task = c.args.bounds.now.task.now in
    let p = c.args.plan.now in
    rw c.in-Stops.is at
    (subst (λ (k : Known). IsRan task k p.calls.now c.in_ok-place.field-0) c.requires.knowledge.known c.in_ok-place.ensures)

pub returns-then-not-reaches_goal-clause-said : goal.returns-then-not-reaches_goal-clause-said
returns-then-not-reaches_goal-clause-said c =
    let task = c.args.bounds.now.task.now in
    let p = c.args.plan.now in
    let known = known_of task p.entries.now in
    let coherent = subst IsCoherent c.requires.knowledge.known c.args.knowledge.now.facts.coherent in
    let run : IsRunOf task known p.calls.now c.in-Ends.run' =
    rw c.in-Ends.is at
    (subst (λ (k : Known). IsRan task k p.calls.now c.in_ok-place.field-0) c.requires.knowledge.known c.in_ok-place.ensures) in
    let over : c.reaches_goal.result ≡ false = search (rules, tests) in (
      run_can task c.requires.bounds.fit known coherent p.calls.now c.in-Ends.run' run,
      λ other plan.
          let there = goal_reached task c.requires.bounds.fit known coherent p.calls.now c.in-Ends.run' run other plan in
          let yes : c.reaches_goal.result ≡ true =
          c.reaches_goal.ensures.1 (subst (λ (k : Known). IsGoal task k c.in-Ends.run'.state) (sym c.requires.knowledge.known) there) in
          absurd (cc),
    )

pub returns-then-not-costs-clause-said : goal.returns-then-not-costs-clause-said
returns-then-not-costs-clause-said c =
    let task = c.args.bounds.now.task.now in
    let p = c.args.plan.now in
    let known = known_of task p.entries.now in
    let coherent = subst IsCoherent c.requires.knowledge.known c.args.knowledge.now.facts.coherent in
    let run : IsRunOf task known p.calls.now c.in-Ends.run' =
    rw c.in-Ends.is at
    (subst (λ (k : Known). IsRan task k p.calls.now c.in_ok-place.field-0) c.requires.knowledge.known c.in_ok-place.ensures) in
    let yes : c.reaches_goal.result ≡ true = search (rules, tests) in
    let reached = subst (λ (k : Known). IsGoal task k c.in-Ends.run'.state) c.requires.knowledge.known (c.reaches_goal.ensures.0 yes) in
    let few : p.cost < 2 ^ 64 = search (rules, tests) in (
      (run.total, plan_at_end task c.requires.bounds.fit known coherent p.calls.now c.in-Ends.run' run reached),
      costs_other task c.requires.bounds.fit known coherent p.calls.now c.in-Ends.run' run p.cost few (λ same.
          let right : c.costs.result ≡ true = c.costs.ensures.1 same in
          let wrong : c.costs.result ≡ false = search (rules, tests) in
          absurd (cc)),
    )

pub judge_origins-requires-clause-plan : goal.judge_origins-requires-clause-plan
judge_origins-requires-clause-plan c =
    let task = c.args.bounds.now.task.now in
    let p = c.args.plan.now in
    let known = known_of task p.entries.now in
    let coherent = subst IsCoherent c.requires.knowledge.known c.args.knowledge.now.facts.coherent in
    let run : IsRunOf task known p.calls.now c.in-Ends.run' =
    rw c.in-Ends.is at
    (subst (λ (k : Known). IsRan task k p.calls.now c.in_ok-place.field-0) c.requires.knowledge.known c.in_ok-place.ensures) in
    let yes : c.reaches_goal.result ≡ true = search (rules, tests) in
    let reached = subst (λ (k : Known). IsGoal task k c.in-Ends.run'.state) c.requires.knowledge.known (c.reaches_goal.ensures.0 yes) in
    let same : c.costs.result ≡ true = search (rules, tests) in
    plan_run task c.requires.bounds.fit known coherent p.calls.now c.in-Ends.run' run p.cost reached (c.costs.ensures.0 same)
