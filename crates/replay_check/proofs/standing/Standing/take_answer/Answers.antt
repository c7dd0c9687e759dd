use Rattle.std.proofs.Common.{◌≡◌, ◌∙◌, ◌↔◌, IsTrue, Some, IfSome, slice_get, take, sym, subst}
use Rattle.transcript_model.specs.Legal.{MayFollow, answered_number}
use Rattle.replay_check.proofs.WalksLemmas.{Answers, answer_keeps, answer_out_of_order, answer_refused, answer_taken, entry_formed}
use Rattle.replay_check.proofs.standing.Standing.take_answer.Goals as goal
use Rattle.replay_check.proofs.standing.Standing.take_answer.Goals.{After-may_answer}
use Rattle.std.proofs.lemmas.Bool.{false≢true}
use Rattle.lemmas.proofs.ListTests.{get_some}

module _ (c : After-may_answer) where
  there : slice_get c.args.entries.now c.args.place ≡ Some c.index-entries-place.result
  there = get_some c.args.entries.now c.args.place c.index-entries-place.result c.requires.can.within c.index-entries-place.is

  is_number : answered_number c.index-entries-place.result ≡ Some c.args.number
  is_number =
      subst (λ o. IfSome o (λ e. answered_number e ≡ Some c.args.number)) there c.requires.here

  decides : IsTrue c.may_answer.result
      ↔ MayFollow c.args.bounds.now.version c.args.bounds.now.task.now (take c.args.place c.args.entries.now) c.index-entries-place.result
  decides = c.may_answer.ensures c.args.bounds.now.version (take c.args.place c.args.entries.now) c.requires.can.standing.stands.knowledge
      (entry_formed c.args.bounds.now c.args.entries.now c.args.place c.args.self.now c.index-entries-place.result c.requires.can there)
      is_number

pub returns-then-not-may_answer : goal.returns-then-not-may_answer
returns-then-not-may_answer c =
    let a = (goal.at.returns-then-not-may_answer c).After-may_answer in
    answer_refused c.args.bounds.now c.args.entries.now c.args.place c.args.self.now c.requires.can c.args.number
    c.index-entries-place.result (there a) (is_number a)
    (λ may. false≢true (sym c.if-not-may_answer.true ∙ (decides a).1 may))

pub returns-in_default : goal.returns-in_default
returns-in_default c =
    let a = (goal.at.returns-in_default c).After-may_answer in
    answer_out_of_order c.args.bounds.now c.args.entries.now c.args.place c.args.self.now c.requires.can c.args.number
    c.index-entries-place.result (there a) (is_number a)
    ((decides a).0 c.if-not-may_answer.false) (λ t. c.if-next-number.false (c.in-Some.ensures.some.0 ∙ sym t.0))

pub returns-in_default-2 : goal.returns-in_default-2
returns-in_default-2 c =
    let a = (goal.at.returns-in_default-2 c).After-may_answer in
    answer_out_of_order c.args.bounds.now c.args.entries.now c.args.place c.args.self.now c.requires.can c.args.number
    c.index-entries-place.result (there a) (is_number a)
    ((decides a).0 c.if-not-may_answer.false) (λ t. c.in_default.ensures.none (t.1, t.2))

pub answer-requires-clause-there : goal.answer-requires-clause-there
answer-requires-clause-there c =
    let a = (goal.at.answer-requires-clause-there c).After-may_answer in
    (c.index-entries-place.result, there a, is_number a, (decides a).0 c.if-not-may_answer.false)

pub settle-requires-clause-run : goal.settle-requires-clause-run
settle-requires-clause-run c =
    let a = (goal.at.settle-requires-clause-run c).After-may_answer in
    let answers : Answers c.args.bounds.now c.args.entries.now c.args.place c.args.self.now c.requires.can c.args.number
    c.index-entries-place.result (there a) (is_number a) c.answer-2.new.self = record {
      may = (decides a).0 c.if-not-may_answer.false;
      next = sym c.if-next-number.true ∙ c.in-Some.ensures.some.0;
      none = c.in-Some.ensures.some.1;
      some = c.in-Some.ensures.some.2;
      batch = c.answer-2.ensures.batch;
      rest = c.answer-2.ensures.rest;
    } in
    answer_keeps c.args.bounds.now c.args.entries.now c.args.place c.args.self.now c.requires.can c.args.number
    c.index-entries-place.result (there a) (is_number a) c.answer-2.new.self answers

pub returns : goal.returns
returns c =
    let a = (goal.at.returns c).After-may_answer in
    let answers : Answers c.args.bounds.now c.args.entries.now c.args.place c.args.self.now c.requires.can c.args.number
    c.index-entries-place.result (there a) (is_number a) c.answer-2.new.self = record {
      may = (decides a).0 c.if-not-may_answer.false;
      next = sym c.if-next-number.true ∙ c.in-Some.ensures.some.0;
      none = c.in-Some.ensures.some.1;
      some = c.in-Some.ensures.some.2;
      batch = c.answer-2.ensures.batch;
      rest = c.answer-2.ensures.rest;
    } in
    answer_taken c.args.bounds.now c.args.entries.now c.args.place c.args.self.now c.requires.can c.args.number
    c.index-entries-place.result (there a) (is_number a) c.answer-2.new.self answers c.answer.new.self c.settle.new.self
    c.in_ok-answer.ensures c.in_ok-settle.ensures
