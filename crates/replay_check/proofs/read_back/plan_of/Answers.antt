use Rattle.std.proofs.Common.{◌≡◌, ℕ, ◌∷◌, [], ◌++◌, ◌∙◌, sym, ap, subst, take, length, arith}
use Rattle.std.proofs.lemmas.Option.{same_Some}
use Rattle.lemmas.proofs.ListTests.{get_some}
use Rattle.lemmas.proofs.Members.{next_taken}
use Rattle.replay_check.proofs.ReadBackLemmas.{all_steps, read_at, stands_for_one}
use Rattle.shown_steps.specs.Plans.{IsPlan, ShowsSteps}
use Rattle.task_model.specs.Plans.{IsValid}
use Rattle.replay_check.proofs.read_back.plan_of.Goals as goal
use Rattle.replay_check.proofs.read_back.plan_of.Goals.{After-from_vec-steps}

pub step_of-requires-clause-distinct : goal.step_of-requires-clause-distinct
step_of-requires-clause-distinct c = c.args.facts.now.coherent.names

pub unreachable-requires : goal.unreachable-requires
unreachable-requires c =
    let facts = c.args.facts.now in
    let calls = c.args.calls.now in
    let index = c.loop-call.call-index in
    let call = c.call-item.result in
    stands_for_one c.args.task.now c.requires.fit facts.known facts.coherent calls c.requires.plan.0 c.requires.plan.1 index call
    (get_some calls index call c.loop-call-test.true c.call-item.is) (sym c.in_ok-step.ensures ∙ c.in_default.is)

pub loop-call-preserved : goal.loop-call-preserved
loop-call-preserved c cost plan =
    let facts = c.args.facts.now in
    let calls = c.args.calls.now in
    let index = c.loop-call.call-index in
    let call = c.call-item.result in
    let there = read_at c.args.task.now c.requires.fit facts.known facts.coherent calls cost plan index call
    (get_some calls index call c.loop-call-test.true c.call-item.is) in
    let same : c.in-Some.step ≡ there.0 =
    same_Some c.in-Some.step there.0 (sym c.in-Some.is ∙ c.in_ok-step.ensures ∙ there.2) in
    c.in_ok-push.ensures.items ∙ (λ i. c.loop-call.invariant cost plan i ++ same i ∷ [])
    ∙ sym (next_taken plan.steps index there.0 there.1)

module _ (c : After-from_vec-steps) (cost : ℕ) (plan : IsPlan c.args.task.now c.args.facts.now.known c.args.calls.now cost) where
  all : c.from_vec-steps.result ≡ plan.steps
  all =
      let facts = c.args.facts.now in
      let calls = c.args.calls.now in
      let ended : c.loop-call.call-index ≡ length calls = omega (arith, c.loop-call-test.false, c.loop-call.auto.call-index-end) in
      c.from_vec-steps.ensures ∙ c.loop-call.invariant cost plan ∙ ap (λ n. take n plan.steps) ended
      ∙ all_steps c.args.task.now c.requires.fit facts.known facts.coherent calls cost plan

pub returns-clause-shown : goal.returns-clause-shown
returns-clause-shown c =
    let plan = c.requires.plan.1 in
    subst (ShowsSteps c.args.task.now c.args.facts.now.known c.args.calls.now) (sym (all c c.requires.plan.0 plan)) plan.shown

pub returns-clause-valid : goal.returns-clause-valid
returns-clause-valid c cost plan =
    subst (λ steps. IsValid c.args.task.now c.args.facts.now.known steps cost) (sym (all c cost plan)) plan.valid
