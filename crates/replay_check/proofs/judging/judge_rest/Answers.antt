use Rattle.std.proofs.Common.{◌∙◌, ◌+◌, ◌<◌, ◌^◌, ℕ, [], List, sym, ap, subst, arith}
use Rattle.std.proofs.lemmas.Option.{slice_get_within}
use Rattle.legal_report.specs.Lines.{line_of}
use Rattle.report_text.specs.Forms.{IsFormedEntry}
use Rattle.std.specs.Prelude.{All}
use Rattle.transcript_model.specs.Rounds.{Limits}
use Rattle.transcript_model.specs.declared.entry.Entry.{Entry}
use Rattle.replay_check.proofs.VerdictsLemmas.{entry_found, entry_line_few, open_found}
use Rattle.replay_check.proofs.LinesLemmas.{report_count}
use Rattle.replay_check.specs.Judgings.{IsEnded}
use Rattle.replay_check.specs.Standings.{IsStanding}
use Rattle.replay_check.specs.Walks.{IsOpenAt, IsWalked, IsWrongAt}
use Rattle.replay_check.specs.declared.judging.Ended.TheVariants.{Invalid}
use Rattle.replay_check.proofs.judging.judge_rest.Goals as goal
use Rattle.replay_check.proofs.judging.judge_rest.Goals.{In-Breaks}

pub walk-requires-clause-standing : goal.walk-requires-clause-standing
walk-requires-clause-standing c =
    subst (IsStanding c.args.bounds.now []) (sym (c.deref_mut.ensures.value ∙ c.in_ok-standing.ensures.ok)) c.in_ok-new.ensures

pub walk-requires-clause-formed : goal.walk-requires-clause-formed
walk-requires-clause-formed c =
    let r = c.args.report.now in
    let formed : All (IsFormedEntry r.version) c.as_slice-entries.result.now =
    subst (λ (es : List Entry). All (IsFormedEntry r.version) es) (sym c.as_slice-entries.ensures) c.requires.formed.entries in
    subst (λ (n : ℕ). All (IsFormedEntry n) c.as_slice-entries.result.now) (ap (λ (l : Limits). l.version) c.requires.limits) formed

pub judge_end-requires-clause-standing : goal.judge_end-requires-clause-standing
judge_end-requires-clause-standing c =
    let b = c.args.bounds.now in
    let s = c.walk.new.standing in
    let here = subst (IsWalked b c.as_slice-entries.result.now s) c.in-Ends.is c.in_ok-walk.ensures in
    subst (λ (es : List Entry). IsStanding b es s) c.as_slice-entries.ensures here

module _ (c : In-Breaks) where
  wrong : IsWrongAt c.args.bounds.now c.args.report.now.entries c.in-Breaks.place c.in-Breaks.line c.in-Breaks.kind
  wrong =
      let here = subst (IsWalked c.args.bounds.now c.as_slice-entries.result.now c.walk.new.standing) c.in-Breaks.is
      c.in_ok-walk.ensures in
      subst (λ (es : List Entry). IsWrongAt c.args.bounds.now es c.in-Breaks.place c.in-Breaks.line c.in-Breaks.kind)
      c.as_slice-entries.ensures here

  few : line_of c.args.report.now c.in-Breaks.place + c.in-Breaks.line < 2 ^ 31
  few =
      let most = entry_line_few c.args.bounds.now c.args.report.now c.requires.bounds c.requires.head c.requires.limits
      c.in-Breaks.place c.in-Breaks.line c.in-Breaks.kind wrong in
      let count = report_count c.args.report.now in
      omega (arith, most, count, c.requires.lines)

pub line_of-requires-clause-within : goal.line_of-requires-clause-within
line_of-requires-clause-within c =
    let here = wrong (goal.at.line_of-requires-clause-within c).In-Breaks in
    let within = slice_get_within c.args.report.now.entries c.in-Breaks.place here.e here.there in
    omega (arith, within)

pub invalid_behind-requires : goal.invalid_behind-requires
invalid_behind-requires c =
    subst (λ n. n + c.in-Breaks.line < 2 ^ 31) (sym c.line_of.ensures) (few (goal.at.invalid_behind-requires c).In-Breaks)

pub returns-in-Open : goal.returns-in-Open
returns-in-Open c =
    let b = c.args.bounds.now in
    let here = subst (IsWalked b c.as_slice-entries.result.now c.walk.new.standing) c.in-Open.is c.in_ok-walk.ensures in
    open_found b c.args.report.now c.requires.bounds c.requires.head c.requires.limits c.in-Open.field-0
    (subst (λ (es : List Entry). IsOpenAt b es c.in-Open.field-0) c.as_slice-entries.ensures here)

pub returns-in-Breaks : goal.returns-in-Breaks
returns-in-Breaks c =
    let b = c.args.bounds.now in
    let r = c.args.report.now in
    let broken = (goal.at.returns-in-Breaks c).In-Breaks in
    let found = entry_found b r c.requires.bounds c.requires.head c.requires.limits c.in-Breaks.place c.in-Breaks.line
    c.in-Breaks.kind (wrong broken) in
    subst (IsEnded b.limit b.task.now r)
    (sym (c.invalid_behind.ensures ∙ ap (λ n. Invalid (n + c.in-Breaks.line) c.in-Breaks.kind) c.line_of.ensures)) found
