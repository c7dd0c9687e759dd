use Rattle.std.proofs.Common.{◌≡◌, ◌∙◌, ◌+◌, ◌<◌, ◌^◌, List, length, sym, ap, subst, arith}
use Rattle.std.proofs.lemmas.List.{take_all}
use Rattle.std.specs.List.{flat_map}
use Rattle.report_text.specs.Texts.{entry_lines}
use Rattle.transcript_model.specs.declared.entry.Entry.{Entry}
use Rattle.replay_check.proofs.VerdictsLemmas.{end_line_few, open_end, right_end, wrong_end}
use Rattle.replay_check.specs.Findings.{IsRightFinding}
use Rattle.replay_check.specs.Judgings.{IsEnded}
use Rattle.replay_check.specs.Lines.{outcome_line}
use Rattle.replay_check.specs.Standings.{IsStanding, limits_by}
use Rattle.replay_check.specs.declared.finding.Finding.TheVariants as finding
use Rattle.replay_check.specs.declared.judging.Ended.TheVariants.{Invalid}
use Rattle.replay_check.specs.declared.standing.Standing.{Standing}
use Rattle.replay_check.proofs.judging.judge_end.Goals as goal
use Rattle.replay_check.proofs.judging.judge_end.Goals.{In-Breaks}

pub line_of-first-requires-clause-within : goal.line_of-first-requires-clause-within
line_of-first-requires-clause-within c = omega (arith, c.len.ensures)

pub judge_outcome-requires-clause-standing : goal.judge_outcome-requires-clause-standing
judge_outcome-requires-clause-standing c =
    subst (λ (s : Standing). IsStanding c.args.bounds.now c.as_slice-entries.result.now s) (sym c.deref.ensures)
    (subst (λ (es : List Entry). IsStanding c.args.bounds.now es c.args.standing.value) (sym c.as_slice-entries.ensures)
    c.requires.standing)

pub returns-in-Holds : goal.returns-in-Holds
returns-in-Holds c =
    let b = c.args.bounds.now in
    let r = c.args.report.now in
    let found =
    subst (IsRightFinding (limits_by b) b.limit b.task.now c.as_slice-entries.result.now r.outcome) c.in-Holds.is
    c.in_ok-judge_outcome.ensures in (
      right_end b r c.requires.bounds c.requires.head c.requires.limits c.args.standing.value c.requires.standing
          (subst (λ (es : List Entry). IsRightFinding (limits_by b) b.limit b.task.now es r.outcome finding.Holds)
          c.as_slice-entries.ensures
          found),
      c.requires.standing.stands.knowledge.known,
    )

pub returns-in-Open : goal.returns-in-Open
returns-in-Open c =
    let b = c.args.bounds.now in
    let r = c.args.report.now in
    let found =
    subst (IsRightFinding (limits_by b) b.limit b.task.now c.as_slice-entries.result.now r.outcome) c.in-Open.is
    c.in_ok-judge_outcome.ensures in
    open_end b r c.requires.bounds c.requires.head c.requires.limits c.args.standing.value c.requires.standing
    (subst (λ (es : List Entry). IsRightFinding (limits_by b) b.limit b.task.now es r.outcome finding.Open) c.as_slice-entries.ensures
    found)

module _ (c : In-Breaks) where
  found : IsRightFinding (limits_by c.args.bounds.now) c.args.bounds.now.limit c.args.bounds.now.task.now c.args.report.now.entries
      c.args.report.now.outcome
      (finding.Breaks c.in-Breaks.line c.in-Breaks.kind)
  found =
      let b = c.args.bounds.now in
      let r = c.args.report.now in
      let here = subst (IsRightFinding (limits_by b) b.limit b.task.now c.as_slice-entries.result.now r.outcome) c.in-Breaks.is
      c.in_ok-judge_outcome.ensures in
      subst (λ (es : List Entry).
      IsRightFinding (limits_by b) b.limit b.task.now es r.outcome (finding.Breaks c.in-Breaks.line c.in-Breaks.kind))
      c.as_slice-entries.ensures here

  first_is : c.line_of-first.result ≡ outcome_line c.args.report.now
  first_is =
      let all = take_all c.len.result c.args.report.now.entries (omega (arith, c.len.ensures)) in
      c.line_of-first.ensures
      ∙ ap (λ (es : List Entry). length c.args.report.now.pools + 3 + length (flat_map entry_lines es)) all

  few : c.line_of-first.result + c.in-Breaks.line < 2 ^ 31
  few =
      let most = end_line_few c.args.bounds.now c.args.report.now c.requires.bounds c.requires.head c.requires.limits
      c.args.standing.value c.requires.standing c.in-Breaks.line c.in-Breaks.kind found c.requires.lines in
      let is = first_is in
      omega (arith, most, is)

  line_is : c.line_of-first.result + c.in-Breaks.line ≡ outcome_line c.args.report.now + c.in-Breaks.line
  line_is = ap (λ n. n + c.in-Breaks.line) first_is

pub invalid_behind-requires : goal.invalid_behind-requires
invalid_behind-requires c = few c

pub returns-in-Breaks : goal.returns-in-Breaks
returns-in-Breaks c =
    let b = c.args.bounds.now in
    let r = c.args.report.now in
    let at = (goal.at.returns-in-Breaks c).In-Breaks in
    let wrong =
    wrong_end b r c.requires.bounds c.requires.head c.requires.limits c.args.standing.value c.requires.standing
    c.in-Breaks.line c.in-Breaks.kind (found at) in
    subst (IsEnded b.limit b.task.now r) (sym (c.invalid_behind.ensures ∙ ap (λ n. Invalid n c.in-Breaks.kind) (line_is at))) wrong
