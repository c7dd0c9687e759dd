use Rattle.std.proofs.Common.{◌≡◌, ◌∙◌, List, Bool, Option, Some, None, take, true, false, refl, sym, ap, subst}
use Rattle.std.proofs.lemmas.Bool.{false≢true}
use Rattle.course_check.specs.Agendas.{ModeAgenda}
use Rattle.dream_check.specs.Judged.{IsNoneJudged}
use Rattle.task_model.specs.declared.stream.Instance.{Instance}
use Rattle.replay_check.proofs.WalksTurnLemmas.{none_false, none_open, none_refused, none_taken}
use Rattle.replay_check.specs.Breaches.{BeginsTurn}
use Rattle.replay_check.specs.Standings.{limits_by}
use Rattle.replay_check.proofs.standing.Standing.take_none.Goals as goal
use Rattle.replay_check.proofs.standing.Standing.take_none.Goals.{In_ok-is_true}

pub returns-then-not-branch : goal.returns-then-not-branch
returns-then-not-branch c =
    let same = c.in_ok-may_dream.ensures (take c.args.place c.args.entries.now) c.requires.can.standing.stands in
    none_refused c.args.bounds.now c.args.entries.now c.args.place c.args.self.now c.requires.can c.requires.here
    (λ begins. false≢true (sym c.if-not-branch.true ∙ same.1 begins))

module _ (c : In_ok-is_true) where
  begins : BeginsTurn (limits_by c.args.bounds.now) c.args.bounds.now.task.now (take c.args.place c.args.entries.now)
  begins =
      (c.in_ok-may_dream.ensures (take c.args.place c.args.entries.now) c.requires.can.standing.stands).0 c.if-not-branch.false

  -- what is said of what was tried
  said : (o : Option Bool) → c.in_ok-is_true.is_true ≡ o
      → IsNoneJudged (limits_by c.args.bounds.now) c.args.bounds.now.task.now (take c.args.place c.args.entries.now)
      c.args.self.now.course.kept.tried c.args.bounds.now.limit o
  said o is =
      let b = c.args.bounds.now in
      let before = take c.args.place c.args.entries.now in
      let judged = c.in_ok-is_true.ensures (limits_by b) before refl refl c.requires.can.standing.stands.knowledge in
      subst (IsNoneJudged (limits_by b) b.task.now before c.args.self.now.course.kept.tried b.limit) is
      (subst (λ (ts : List Instance). IsNoneJudged (limits_by b) b.task.now before ts b.limit c.in_ok-is_true.is_true)
      c.tried-tried.ensures judged)

pub returns-in-Some-true : goal.returns-in-Some-true
returns-in-Some-true c =
    let at = (goal.at.returns-in-Some-true c).In_ok-is_true in
    let there = said at (Some true) (c.in-Some-true.is ∙ ap Some c.in-Some-true.field-0-test) in
    none_taken c.args.bounds.now c.args.entries.now c.args.place c.args.self.now c.requires.can (begins at) c.requires.here
    (record { knowledge = c.args.self.now.knowledge; course = c.say_none.new.self }) there.0 there.1 refl (ap (λ (a : ModeAgenda). a.batch) c.say_none.ensures)
    (ap (λ (a : ModeAgenda). a.phase) c.say_none.ensures) (ap (λ (a : ModeAgenda). a.kept) c.say_none.ensures)

pub returns-in-Some-false : goal.returns-in-Some-false
returns-in-Some-false c =
    let at = (goal.at.returns-in-Some-false c).In_ok-is_true in
    let there = said at (Some false) (c.in-Some-false.is ∙ ap Some c.in-Some-false.field-0-test) in
    none_false c.args.bounds.now c.args.entries.now c.args.place c.args.self.now c.requires.can (begins at) c.requires.here
    there.0 there.1

pub returns-in-None : goal.returns-in-None
returns-in-None c =
    let at = (goal.at.returns-in-None c).In_ok-is_true in
    none_open c.args.bounds.now c.args.entries.now c.args.place c.args.self.now c.requires.can (begins at) c.requires.here
    (said at None c.in-None.is)
