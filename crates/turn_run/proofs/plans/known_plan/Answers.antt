use Rattle.std.proofs.Common.{◌^◌, ◌<◌, sym, subst, rules, tests}
use Rattle.std.proofs.lemmas.Result.{IfOk-weaker}
use Rattle.shown_plan.specs.Shown.{AreNamedSteps, ShowsPlan}
use Rattle.transcript_model.specs.Transcript.{names_of}
use Rattle.turn_run.proofs.TurnsOutcomeLemmas.{plan_settled, steps_named, valid_there}
use Rattle.turn_run.proofs.plans.known_plan.Goals as goal

pub plan_outcome-requires-clause-steps : goal.plan_outcome-requires-clause-steps
plan_outcome-requires-clause-steps c =
    let task = c.args.situation.now.task.now in
    let s = c.args.situation.now.session.now in
    let may = c.requires.may in
    let known = c.facts-facts.result.now.known in
    subst (λ es. AreNamedSteps task (names_of task es) c.as_slice-steps.result.now) (sym c.entries.ensures)
    (subst (λ ss. AreNamedSteps task (names_of task s.entries) ss) (sym c.as_slice-steps.ensures)
    (steps_named task s may.working may.learnt may.session known c.facts-facts.ensures c.facts-facts.result.now.coherent
    c.args.plan.now.steps c.args.cost
    (valid_there task s may.working may.learnt may.session known c.facts-facts.ensures c.args.plan.now.steps c.args.cost
    c.requires.valid)))

pub returns : goal.returns
returns c =
    let task = c.args.situation.now.task.now in
    let s = c.args.situation.now.session.now in
    let head = c.args.situation.now.head.now in
    let may = c.requires.may in
    let known = c.facts-facts.result.now.known in
    let small : c.args.cost < 2 ^ 64 = search (rules, tests) in
    IfOk-weaker c.plan_outcome.result _ _ (λ o shows.
    plan_settled task s may.working may.learnt may.session known c.facts-facts.ensures head may.head c.args.plan.now.steps c.args.cost o
    (subst (λ es. ShowsPlan head.version task es c.args.plan.now.steps c.args.cost o) c.entries.ensures
    (subst (λ ss. ShowsPlan head.version task c.entries.result.now ss c.args.cost o) c.as_slice-steps.ensures shows))
    (valid_there task s may.working may.learnt may.session known c.facts-facts.ensures c.args.plan.now.steps c.args.cost
    c.requires.valid) c.requires.few c.requires.least small)
    c.plan_outcome.ensures
