use Rattle.std.proofs.Common.{◌≡◌, ◌∙◌, ◌+◌, ◌<◌, ◌≤◌, List, length, take, refl, sym, subst, arith, eqb-true}
use Rattle.std.proofs.lemmas.Bool.{false≢true}
use Rattle.std.proofs.lemmas.Grind.{common_steps}
use Rattle.dream_check.specs.Judged.{IsDreamJudged}
use Rattle.dream_check.specs.declared.dream.Dreamed.{Dreamed}
use Rattle.dream_check.specs.declared.dream.Dreamed.TheVariants as dreamed
use Rattle.task_model.specs.declared.stream.Instance.{Instance}
use Rattle.transcript_model.specs.declared.entry.Entry.TheVariants as entry
use Rattle.replay_check.proofs.LinesLemmas.{wrong_line_few}
use Rattle.replay_check.proofs.WalksLemmas.{entry_formed}
use Rattle.replay_check.proofs.WalksTurnLemmas.{dream_refused, dream_taken, dream_wrong}
use Rattle.replay_check.specs.Breaches.{BeginsTurn}
use Rattle.replay_check.specs.Standings.{limits_by}
use Rattle.replay_check.proofs.standing.Standing.take_dream.Goals as goal
use Rattle.replay_check.proofs.standing.Standing.take_dream.Goals.{In_ok-dreamed, then-is_empty-via-then-is_empty, then-is_empty-via-else-is_empty+in_ok-may_dream+then-not-branch}

pub returns-then-is_empty : goal.returns-then-is_empty
returns-then-is_empty c =
    dream_refused c.args.bounds.now c.args.entries.now c.args.place c.args.self.now c.requires.can c.args.uses.now c.args.steps.now
    c.requires.here
    (λ both. elim c.then-is_empty.branch [
      | then-is_empty-via-then-is_empty w ↦
          let none : length c.args.uses.now ≡ 0 = eqb-true (length c.args.uses.now) 0 (sym c.is_empty.ensures ∙ w.if-is_empty.true) in
          omega (arith, both.1, none)
      | then-is_empty-via-else-is_empty+in_ok-may_dream+then-not-branch w ↦
          let same = w.in_ok-may_dream.ensures (take c.args.place c.args.entries.now) c.requires.can.standing.stands in
          false≢true (sym w.if-not-branch.true ∙ same.1 both.0)
    ])

module _ (c : In_ok-dreamed) where
  begins : BeginsTurn (limits_by c.args.bounds.now) c.args.bounds.now.task.now (take c.args.place c.args.entries.now)
  begins =
      (c.in_ok-may_dream.ensures (take c.args.place c.args.entries.now) c.requires.can.standing.stands).0 c.if-not-branch.false

  some : 0 < length c.args.uses.now
  some = grind (arith, common_steps)

  -- what is said of what was tried
  said : (d : Dreamed) → c.in_ok-dreamed.dreamed ≡ d
      → IsDreamJudged (limits_by c.args.bounds.now) c.args.bounds.now.task.now (take c.args.place c.args.entries.now)
      c.args.self.now.course.kept.tried c.args.uses.now c.args.steps.now d
  said d is =
      let b = c.args.bounds.now in
      let before = take c.args.place c.args.entries.now in
      let judged = c.in_ok-dreamed.ensures (limits_by b) before refl c.requires.can.standing.stands.knowledge in
      subst (IsDreamJudged (limits_by b) b.task.now before c.args.self.now.course.kept.tried c.args.uses.now c.args.steps.now) is
      (subst (λ (ts : List Instance).
      IsDreamJudged (limits_by b) b.task.now before ts c.args.uses.now c.args.steps.now c.in_ok-dreamed.dreamed) c.tried-tried.ensures
      judged)

  -- the dream has fewer lines than numbers go to
  short : (length c.args.uses.now ≤ 4294967295) × (length c.args.steps.now ≤ 4294967295)
  short =
      let f = entry_formed c.args.bounds.now c.args.entries.now c.args.place c.args.self.now
      (entry.Dream c.args.uses.now c.args.steps.now) c.requires.can c.requires.here in
      (f.0, f.1)

pub go_on-requires-clause-left : goal.go_on-requires-clause-left
go_on-requires-clause-left c =
    let may = begins (goal.at.go_on-requires-clause-left c).In_ok-dreamed in
    let left = may.1.left in
    let counted = c.requires.can.standing.stands.knowledge.counted in
    omega (arith, left, counted)

pub returns-in-Right : goal.returns-in-Right
returns-in-Right c =
    let b = c.args.bounds.now in
    let at = (goal.at.returns-in-Right c).In_ok-dreamed in
    let dream = said at (dreamed.Right c.in-Right.dream) c.in-Right.is in
    dream_taken b c.args.entries.now c.args.place c.args.self.now c.requires.can (begins at) c.args.uses.now
    c.args.steps.now c.requires.here c.in-Right.dream.items dream.0 c.go_on.new.self c.in_ok-go_on-in-Right.ensures

pub overflow_add-line : goal.overflow_add-line
overflow_add-line c =
    let b = c.args.bounds.now in
    let at = (goal.at.overflow_add-line c).In_ok-dreamed in
    let wrong = said at (dreamed.Use c.in-Use.used) c.in-Use.is in
    let few = wrong_line_few (limits_by b) b.task.now (take c.args.place c.args.entries.now) c.args.self.now.course.kept.tried
    c.args.uses.now c.args.steps.now (c.in-Use.used + 1) wrong.0 in
    let all = short at in
    omega (arith, few, all.0, all.1)

pub overflow_add-line-in-Step : goal.overflow_add-line-in-Step
overflow_add-line-in-Step c =
    let b = c.args.bounds.now in
    let at = (goal.at.overflow_add-line-in-Step c).In_ok-dreamed in
    let wrong = said at (dreamed.Step c.in-Step.step) c.in-Step.is in
    let few = wrong_line_few (limits_by b) b.task.now (take c.args.place c.args.entries.now) c.args.self.now.course.kept.tried
    c.args.uses.now c.args.steps.now (length c.args.uses.now + c.in-Step.step + 1) wrong.0 in
    let all = short at in
    omega (arith, few, all.0, all.1)

pub overflow_add-line-in-Step-2 : goal.overflow_add-line-in-Step-2
overflow_add-line-in-Step-2 c =
    let b = c.args.bounds.now in
    let at = (goal.at.overflow_add-line-in-Step-2 c).In_ok-dreamed in
    let wrong = said at (dreamed.Step c.in-Step.step) c.in-Step.is in
    let few = wrong_line_few (limits_by b) b.task.now (take c.args.place c.args.entries.now) c.args.self.now.course.kept.tried
    c.args.uses.now c.args.steps.now (length c.args.uses.now + c.in-Step.step + 1) wrong.0 in
    let all = short at in
    omega (arith, few, all.0, all.1)

pub returns-in-Use : goal.returns-in-Use
returns-in-Use c =
    let at = (goal.at.returns-in-Use c).In_ok-dreamed in
    dream_wrong c.args.bounds.now c.args.entries.now c.args.place c.args.self.now c.requires.can (begins at) c.args.uses.now
    c.args.steps.now c.requires.here (c.in-Use.used + 1) (some at) (said at (dreamed.Use c.in-Use.used) c.in-Use.is)

pub returns-in-Step : goal.returns-in-Step
returns-in-Step c =
    let at = (goal.at.returns-in-Step c).In_ok-dreamed in
    dream_wrong c.args.bounds.now c.args.entries.now c.args.place c.args.self.now c.requires.can (begins at) c.args.uses.now
    c.args.steps.now c.requires.here (length c.args.uses.now + c.in-Step.step + 1) (some at)
    (said at (dreamed.Step c.in-Step.step) c.in-Step.is)

pub returns-in-Last : goal.returns-in-Last
returns-in-Last c =
    let at = (goal.at.returns-in-Last c).In_ok-dreamed in
    dream_wrong c.args.bounds.now c.args.entries.now c.args.place c.args.self.now c.requires.can (begins at) c.args.uses.now
    c.args.steps.now c.requires.here (length c.args.uses.now + length c.args.steps.now) (some at)
    (said at dreamed.Last c.in-Last.is)
