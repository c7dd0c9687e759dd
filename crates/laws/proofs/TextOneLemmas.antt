-- Runs that write the same text.
use Rattle.std.proofs.Common.{◌≡◌, ℕ, List, Some, sym, ap, subst, ◌∙◌, arith}
use Rattle.command_line.proofs.RangesLemmas.{in_range}
use Rattle.command_line.specs.Words.{SolveWords, command_of, solve}
use Rattle.laws.proofs.GridProgramLemmas.{program_runs}
use Rattle.turn_run.specs.Reports.{report_of}
use Rattle.run_command.specs.Heads.{IsHeadOf}
use Rattle.command_files.specs.Outside.{Outside}
use Rattle.run_command.specs.Runs.{HasOutcome, shown_text}
use Rattle.run_command.specs.Works.{files_of, solving, words_of_work}
use Rattle.command_files.specs.declared.status.Status.{Status}
use Rattle.laws.proofs.ReplayMapPoolLemmas.{served_shown}
use Rattle.report_text.specs.Forms.{IsFormed}
use Rattle.report_text.specs.Texts.{text_of_report}
use Rattle.laws.proofs.RunFormedReportLemmas.{formed}
use Rattle.laws.specs.TextLaws.{OneTextOneRun}
use Rattle.transcript_model.specs.declared.report.Report.{Report}
use Rattle.laws.proofs.SolvedLemmas.{same_work}
use Rattle.report_text.proofs.ReportsReadBack.{same_report}

-- words that mean a task is to be solved have no other work
module _ (words : List (List ℕ)) (outside : Outside) (status : Status) (text : List ℕ) (asked : SolveWords)
    (meant : command_of words ≡ Some (solve asked)) (has : HasOutcome words outside status text) where
  abbrev report : Report
  report = report_of has.run.task has.run.head has.run.entries has.outcome

  work : has.run.work ≡ solving asked
  work = same_work words asked has.run.work has.run.meant meant

  headed : IsHeadOf outside.files.told asked has.run.task has.run.head
  headed = subst (λ w. IsHeadOf (files_of outside.files.told w) (words_of_work w) has.run.task has.run.head) work has.run.headed

  report_formed : IsFormed report
  report_formed =
      let within = in_range words (solve asked) meant in
      formed has.run.task has.run.head has.run.entries has.outcome has.run.fit
      (record {
        runnable = program_runs has.run;
        some_depth = omega (arith, headed.depth, within.depth.0);
        depth = omega (arith, headed.depth, within.depth.1);
        pools = served_shown outside.files.told asked has.run.task has.run.head.pools headed.pools;
      })
      has.turns

  text_is : text ≡ text_of_report report
  text_is = subst (λ w. text ≡ shown_text w has.run.task has.run.head has.run.entries has.outcome) work has.is

-- reports in the forms with equal texts are one
pub one_run : OneTextOneRun
one_run words others outside after status end text asked again meant also first second =
    let one = report words outside status text asked meant first in
    let two = report others after end text again also second in
    let are : one ≡ two =
    same_report one two (report_formed words outside status text asked meant first)
    (report_formed others after end text again also second)
    (sym (text_is words outside status text asked meant first) ∙ text_is others after end text again also second) in
    record {
      transcript = ap (λ (r : Report). r.entries) are;
      outcome = ap (λ (r : Report). r.outcome) are;
      version = ap (λ (r : Report). r.version) are;
      mode = ap (λ (r : Report). r.mode) are;
      calls = ap (λ (r : Report). r.calls) are;
      states = ap (λ (r : Report). r.states) are;
      depth = ap (λ (r : Report). r.depth) are;
    }
