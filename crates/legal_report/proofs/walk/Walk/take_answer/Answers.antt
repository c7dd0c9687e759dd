use Rattle.std.proofs.Common.{◌≡◌, ◌∙◌, ◌↔◌, IsTrue, Some, IfSome, slice_get, get_or, take, sym, ap, subst}
use Rattle.std.proofs.lemmas.Bool.{false≢true}
use Rattle.lemmas.proofs.ListTests.{get_some}
use Rattle.transcript_model.specs.Legal.{MayFollow, answered_number}
use Rattle.transcript_model.specs.declared.entry.Entry.{Entry}
use Rattle.legal_report.proofs.WalksLemmas.{answer_refused, answer_taken, entry_formed}
use Rattle.legal_report.proofs.walk.Walk.take_answer.Goals as goal
use Rattle.legal_report.proofs.walk.Walk.take_answer.Goals.{After-may_answer}

module _ (c : After-may_answer) where
  abbrev e : Entry
  e = get_or c.args.self.now.entries.now c.args.place c.index-self-place.result

  there : slice_get c.args.self.now.entries.now c.args.place ≡ Some e
  there = get_some c.args.self.now.entries.now c.args.place c.index-self-place.result c.requires.within c.index-self-place.is
      ∙ ap Some c.index-self-place.is

  is_number : answered_number e ≡ Some c.args.number
  is_number =
      subst (λ o. IfSome o (λ e. answered_number e ≡ Some c.args.number)) there c.requires.here

  decides : IsTrue c.may_answer.result
      ↔ MayFollow c.args.self.now.version c.args.self.now.task.now (take c.args.place c.args.self.now.entries.now)
      e
  decides = c.may_answer.ensures c.args.self.now.version (take c.args.place c.args.self.now.entries.now) c.requires.stands.knowledge
      (entry_formed c.args.self.now c.requires.readable c.args.place e there) is_number

pub returns-then-not-may_answer : goal.returns-then-not-may_answer
returns-then-not-may_answer c =
    let a = (goal.at.returns-then-not-may_answer c).After-may_answer in
    answer_refused c.args.self.now c.args.place c.args.knowledge.now c.requires.stands (e a) (there a) c.args.number
    (is_number a) (λ may. false≢true (sym c.if-not-may_answer.true ∙ (decides a).1 may))

pub answer-requires-clause-there : goal.answer-requires-clause-there
answer-requires-clause-there c =
    let a = (goal.at.answer-requires-clause-there c).After-may_answer in
    (e a, there a, is_number a, (decides a).0 c.if-not-may_answer.false)

pub returns : goal.returns
returns c =
    let a = (goal.at.returns c).After-may_answer in
    answer_taken c.args.self.now c.args.place c.args.knowledge.now c.requires.stands (e a) (there a) c.args.number
    (is_number a) c.answer.new.self c.in_ok-answer.ensures
