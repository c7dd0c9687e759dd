use Rattle.std.proofs.Common.{◌∙◌, subst, sym}
use Rattle.std.proofs.lemmas.Bool.{false≢true}
use Rattle.task_model.specs.Plans.{IsReached, MoreThan}
use Rattle.turn_run.proofs.TurnsOutcomeLemmas.{all_known, closed_there, few_there, no_plan_settled, past_where_none, states_settled}
use Rattle.turn_run.specs.Deciding.{known_in}
use Rattle.turn_run.proofs.decide.end_of_hopeless.Goals as goal

pub returns-then-branch : goal.returns-then-branch
returns-then-branch c =
    let situation = c.args.situation.now in
    let task = situation.task.now in
    let s = situation.session.now in
    let head = situation.head.now in
    let may = c.requires.may in
    let known = all_known task s may.working may.learnt may.session c.facts-facts.result.now.known c.facts-facts.ensures in
    let more = subst (λ k. MoreThan head.states (IsReached task k)) known (c.in_ok-exceeds.ensures.0 c.if-branch.true) in
    states_settled task s may.working may.learnt may.session head may.head
    (past_where_none head.optimal task (known_in situation) head.states c.requires.none more)
    (λ _. closed_there task s may.working may.learnt may.session head may.head c.requires.settled)

pub returns-else-branch : goal.returns-else-branch
returns-else-branch c =
    let situation = c.args.situation.now in
    let task = situation.task.now in
    let s = situation.session.now in
    let head = situation.head.now in
    let may = c.requires.may in
    no_plan_settled task s may.working may.learnt may.session head may.head c.requires.none
    (few_there task s may.working may.learnt may.session c.facts-facts.result.now.known c.facts-facts.ensures head.states
    (λ more. false≢true (sym c.if-branch.false ∙ c.in_ok-exceeds.ensures.1 more)))
    c.requires.settled
