use Rattle.std.proofs.Common.{◌+◌, sym, ap, refl, subst, ◌∙◌, arith, take, take_all, add-one}
use Rattle.formula_eval.proofs.ReadableLemmas.{fit_readable}
use Rattle.lemmas.proofs.Bools.{not_both}
use Rattle.lemmas.proofs.ListTests.{get_some}
use Rattle.task_model.specs.Truth.{is_true}
use Rattle.validate_app.proofs.VerdictsLemmas.{is_plan, none_lead, one_more}
use Rattle.validate_app.specs.Steps.{IsTakenStep}
use Rattle.validate_app.specs.Verdicts.{CallsLeadTo}
use Rattle.validate_app.proofs.step.Scene.judge_from.Goals as goal

pub loop-place-init : goal.loop-place-init
loop-place-init g c =
    let facts = c.args.self.now.facts.now in
    record {
      leads = none_lead c.args.self.now.task.now c.requires.fit facts.known facts.coherent _ c.requires.initial;
      small = omega arith;
    }

pub loop-place-preserved : goal.loop-place-preserved
loop-place-preserved g c =
    let task = c.args.self.now.task.now in
    let facts = c.args.self.now.facts.now in
    let place = c.loop-place.place in
    let call = c.index-calls-place.result in
    let there = get_some c.args.calls.now place call c.loop-place-test.true c.index-calls-place.is in
    let taken = subst (IsTakenStep task facts.known (g.B.Board.atoms c.loop-place.board) call
    (g.B.Board.atoms c.take.new.board)) c.in-Costs.is c.in_ok-more.ensures.taken in
    let next = one_more task c.requires.fit facts.known facts.coherent c.args.calls.now place call
    (g.B.Board.atoms c.loop-place.board)
    (g.B.Board.atoms c.take.new.board) c.loop-place.cost c.in-Costs.more there c.loop-place.invariant.leads taken in
    record {
      leads = subst (λ n. CallsLeadTo task facts.known (take n c.args.calls.now) (g.B.Board.atoms c.take.new.board)
          (c.loop-place.cost + c.in-Costs.more))
          (sym (add-one place)) next;
      small = omega (arith, c.loop-place.invariant.small, rw c.in-Costs.is at c.in_ok-more.ensures.small);
    }

pub returns-in-Fails : goal.returns-in-Fails
returns-in-Fails g c =
    let call = c.index-calls-place.result in
    let taken = subst (IsTakenStep c.args.self.now.task.now c.args.self.now.facts.now.known
    (g.B.Board.atoms c.loop-place.board) call (g.B.Board.atoms c.take.new.board))
    c.in-Fails.is c.in_ok-more.ensures.taken in
    record {
      place = c.loop-place.place;
      numbered = refl;
      state = (g.B.Board.atoms c.loop-place.board);
      cost = c.loop-place.cost;
      before = c.loop-place.invariant.leads;
      call = call;
      there = get_some c.args.calls.now c.loop-place.place call c.loop-place-test.true c.index-calls-place.is;
      fails = taken.0;
    }

pub holds_once-requires-clause-readable : goal.holds_once-requires-clause-readable
holds_once-requires-clause-readable g c =
    let task = c.args.self.now.task.now in
    fit_readable task.domain c.requires.fit.domain _ 0 (omega arith) task.problem.goal c.requires.fit.problem.goal

pub returns-then-holds_once : goal.returns-then-holds_once
returns-then-holds_once g c =
    let task = c.args.self.now.task.now in
    let known = c.args.self.now.facts.now.known in
    let all = take_all c.loop-place.place c.args.calls.now (omega (arith, c.loop-place-test.false)) in
    let leads : CallsLeadTo task known c.args.calls.now c.in_ok-state.state c.loop-place.cost =
    subst (λ state. CallsLeadTo task known c.args.calls.now state c.loop-place.cost) (sym c.in_ok-state.ensures)
    (subst (λ calls. CallsLeadTo task known calls (g.B.Board.atoms c.loop-place.board) c.loop-place.cost) all
    c.loop-place.invariant.leads) in
    is_plan task c.requires.fit known c.args.self.now.facts.now.coherent c.args.calls.now c.in_ok-state.state
    c.loop-place.cost
    leads
    (ap (is_true task.domain known c.in_ok-state.state task.problem.goal) (sym c.new-env.ensures)
    ∙ sym c.holds_once.ensures.value
    ∙ c.if-holds_once.true)

pub returns : goal.returns
returns g c =
    let task = c.args.self.now.task.now in
    let known = c.args.self.now.facts.now.known in
    let all = take_all c.loop-place.place c.args.calls.now (omega (arith, c.loop-place-test.false)) in
    let leads : CallsLeadTo task known c.args.calls.now c.in_ok-state.state c.loop-place.cost =
    subst (λ state. CallsLeadTo task known c.args.calls.now state c.loop-place.cost) (sym c.in_ok-state.ensures)
    (subst (λ calls. CallsLeadTo task known calls (g.B.Board.atoms c.loop-place.board) c.loop-place.cost) all
    c.loop-place.invariant.leads) in
    record {
      state = c.in_ok-state.state;
      cost = c.loop-place.cost;
      runs = leads;
      missed = λ reached. not_both _ reached
          (ap (is_true task.domain known c.in_ok-state.state task.problem.goal) (sym c.new-env.ensures)
          ∙ sym c.holds_once.ensures.value ∙ c.if-holds_once.false);
      told = c.in_ok-part.ensures;
    }

pub false_text-requires-clause-readable : goal.false_text-requires-clause-readable
false_text-requires-clause-readable g c =
    let task = c.args.self.now.task.now in
    fit_readable task.domain c.requires.fit.domain _ 0 (omega arith) task.problem.goal c.requires.fit.problem.goal
