-- What the program writes of a run with an outcome, it finds valid where it judges it.
use Rattle.std.proofs.Common.{◌≡◌, ◌⊎◌, ℕ, ◌≤◌, Bool, false, true, List, refl, sym, subst, ap, ◌∙◌, arith, Option, Some, inl, inr}
use Rattle.io_world.specs.FileMap.{FileMap}
use Rattle.turn_run.specs.Reports.{whole_text}
use Rattle.command_line.proofs.RangesLemmas.{in_range}
use Rattle.command_line.specs.Ranges.{AreInRange}
use Rattle.command_line.specs.Words.{ReplayWords, SolveWords, TaskFiles, command_of, replay, solve}
use Rattle.run_command.proofs.HeadsLemmas.{head_runs}
use Rattle.turn_run.proofs.ReportsLemmas.{whole_is}
use Rattle.turn_run.specs.Turns.{IsSure}
use Rattle.optimal_check.specs.Verdicts.{IsOutcomeSaid}
use Rattle.pddlstream_app.specs.AnswerOf.{HasAnswer, IsVerdictFor}
use Rattle.command_files.specs.Files.{FileHolds}
use Rattle.run_command.specs.Heads.{IsHeadOf}
use Rattle.command_files.specs.Inputs.{IsTaskOf}
use Rattle.pddlstream_app.specs.Replays.{kind_of_verdict, verdict_text}
use Rattle.turn_run.specs.Reports.{report_of}
use Rattle.command_files.specs.Outside.{Outside}
use Rattle.run_command.specs.Runs.{HasOutcome, ProgramRun, shown_text}
use Rattle.command_files.specs.declared.status.Status.{Status}
use Rattle.command_files.specs.declared.status.Status.TheVariants as status
use Rattle.report_text.proofs.ReportsReadBack.{same_report}
use Rattle.run_command.specs.Works.{Work, command_for, files_of, making, solving, words_of_work}
use Rattle.report_text.specs.Texts.{text_of_report}
use Rattle.task_reader.proofs.SpelledLemmas.{one_task}
use Rattle.replay_check.specs.declared.verdict.Verdict.{Verdict}
use Rattle.replay_check.specs.declared.verdict.Verdict.TheVariants as verdict
use Rattle.task_model.specs.declared.task.Task.{Task}
use Rattle.task_reader.specs.Tasks.{SpellsTask}
use Rattle.transcript_model.specs.declared.entry.Entry.{Entry}
use Rattle.transcript_model.specs.declared.head.Head.{Head}
use Rattle.transcript_model.specs.declared.outcome.Outcome.{Outcome}
use Rattle.transcript_model.specs.declared.outcome.Outcome.TheVariants as outcome
use Rattle.transcript_model.specs.declared.report.Report.{Report}
use Rattle.laws.proofs.ReplayJudgedLemmas.{IsJudged, answer_judged}
use Rattle.laws.proofs.ReplayMapPoolLemmas.{served_shown}
use Rattle.laws.proofs.WrittenLemmas.{written_formed, written_valid}
use Rattle.laws.specs.Solved.{AreSameTexts, CheapestReportsAreNotWrong, SolvedReportsAreValid}
use Rattle.laws.specs.Reports.{IsHeadOfReports}

-- ---- the head of a run

shown_head : (told : Option FileMap) (task : Task) (w : SolveWords) (head : Head) → IsHeadOf told w task head
    → AreInRange w → IsHeadOfReports task head
shown_head told task w head headed within = record {
  runnable = head_runs task told w head headed within;
  some_depth = omega (arith, headed.depth, within.depth.0);
  depth = omega (arith, headed.depth, within.depth.1);
  pools = served_shown told w task head.pools headed.pools;
}

-- ---- the task of both

-- one text stands under both paths
same_bytes : (files later : FileMap) (path other a b : List ℕ) → files path ≡ later other
    → files path ≡ Some a → later other ≡ Some b
    → b ≡ a
same_bytes files later path other a b same first second =
    let both : Some b ≡ Some a = sym second ∙ sym same ∙ first in cc

pub same_task : (files later : FileMap) (paths others : TaskFiles) (t u : Task)
    → AreSameTexts files later paths others
    → IsTaskOf (Some files) paths t → IsTaskOf (Some later) others u → u ≡ t
same_task files later paths others t u same x y =
    let domain : y.domain ≡ x.domain =
    same_bytes files later paths.domain others.domain x.domain y.domain same.domain x.are.0.held y.are.0.held in
    let problem : y.problem ≡ x.problem =
    same_bytes files later paths.problem others.problem x.problem y.problem same.problem x.are.1.0.held y.are.1.0.held in
    let streams : y.streams ≡ x.streams =
    same_bytes files later paths.streams others.streams x.streams y.streams same.streams x.are.1.1.0.held y.are.1.1.0.held in
    one_task x.domain x.problem x.streams u t
    (subst (λ b. SpellsTask x.domain x.problem b u) streams
    (subst (λ b. SpellsTask x.domain b y.streams u) problem
    (subst (λ b. SpellsTask b y.problem y.streams u) domain y.spelled)))
    x.spelled

-- ---- the verdict

-- words that mean a task is to be solved have no other work
pub same_work : (words : List (List ℕ)) (asked : SolveWords) (work : Work) → command_of words ≡ Some (command_for work)
    → command_of words ≡ Some (solve asked) → work ≡ solving asked
same_work words asked (solving w) one two = let both = sym one ∙ two in ap solving (let e : w ≡ asked = cc in e)
same_work words asked (making n) one two = let both = sym one ∙ two in absurd (cc)

-- of a report that a run wrote, whose head asked for the cheapest plan, the cost is not told to be wrong
cost_right : (limit : ℕ) (task : Task) (head : Head) (entries : List Entry) (o : Outcome) (v : Verdict)
    → IsSure head task entries o → head.optimal ≡ true
    → IsOutcomeSaid limit task (report_of task head entries o) o v → (v ≡ verdict.Valid) ⊎ (v ≡ verdict.Limit)
cost_right limit task head entries (outcome.Plan steps cost from) verdict.Valid sure asked said = inl refl
cost_right limit task head entries (outcome.Plan steps cost from) (verdict.Invalid line kind) sure asked said =
    let cheaper = said.2 in
    let least = (sure.least asked).least cheaper.0 cheaper.1 cheaper.2 in
    let less = cheaper.3 in absurd (omega (arith, least, less))
cost_right limit task head entries (outcome.Plan steps cost from) verdict.Limit sure asked said = inr refl
cost_right limit task head entries outcome.NoPlan v sure asked said = inl said
cost_right limit task head entries (outcome.Limit kind) v sure asked said = inl said

module _ (files later : FileMap) (words others : List (List ℕ)) (outside after : Outside) (kind end : Status)
    (text said : List ℕ) (asked : SolveWords) (judging : ReplayWords) (meant : command_of words ≡ Some (solve asked))
    (judges : command_of others ≡ Some (replay judging)) (solved : HasOutcome words outside kind text)
    (answer : HasAnswer others after end said) (first : outside.files.told ≡ Some files)
    (second : after.files.told ≡ Some later) (same : AreSameTexts files later asked.files judging.files)
    (report : later judging.report ≡ Some text) (le : asked.limits.states ≤ judging.states) where
  abbrev run : ProgramRun words outside.files.told
  run = solved.run

  abbrev whole : List ℕ
  whole = whole_text run.task run.head run.entries solved.outcome

  judged : IsJudged after.files.told judging end said
  judged = answer_judged others after end said judging judges answer

  work : run.work ≡ solving asked
  work = same_work words asked run.work run.meant meant

  headed : IsHeadOf outside.files.told asked run.task run.head
  headed = subst (λ w. IsHeadOf (files_of outside.files.told w) (words_of_work w) run.task run.head) work run.headed

  can : IsHeadOfReports run.task run.head
  can = shown_head outside.files.told run.task asked run.head headed (in_range words (solve asked) meant)

  -- what was read is what the run wrote
  wrote : judged.bytes ≡ whole
  wrote =
      let held : FileHolds (Some later) judging.report judged.bytes = subst
      (λ told. FileHolds told judging.report judged.bytes) second judged.held in
      let both : Some judged.bytes ≡ Some text = sym held ∙ report in
      let read : judged.bytes ≡ text = cc in
      let shows : text ≡ text_of_report (report_of run.task run.head run.entries solved.outcome) = subst
      (λ w. text ≡ shown_text w run.task run.head run.entries solved.outcome) work solved.is in
      read ∙ shows ∙ sym (whole_is run.task run.head run.entries solved.outcome)

  -- and it is judged by the run's task
  task_is : judged.task ≡ run.task
  task_is =
      let spelled : IsTaskOf outside.files.told asked.files run.task = subst
      (λ w. IsTaskOf (files_of outside.files.told w) (words_of_work w).files run.task) work run.spelled in
      same_task files later asked.files judging.files run.task judged.task same
      (subst (λ told. IsTaskOf told asked.files run.task) first spelled)
      (subst (λ told. IsTaskOf told judging.files judged.task) second judged.spelled)

  states : run.head.states ≤ judging.states
  states = omega (arith, le, headed.states)

  abbrev IsSaid : Bool → Verdict → Type 0
  IsSaid optimal = IsVerdictFor optimal judging.states run.task whole

  so : (optimal : Bool) → judging.optimal ≡ optimal → IsSaid optimal judged.verdict
  so optimal is =
      subst (λ b. IsSaid b judged.verdict) is
      (subst (λ b. IsVerdictFor judging.optimal judging.states run.task b judged.verdict) wrote
      (subst (λ t. IsVerdictFor judging.optimal judging.states t judged.bytes judged.verdict) task_is judged.so))

  told_valid : (v : Verdict) → IsSaid false v → v ≡ verdict.Valid
  told_valid v is =
      written_valid run.task run.head run.entries solved.outcome run.fit can solved.turns judging.states v states
      is

  -- by the cost it is valid too, or not decided
  told_cheap : (v : Verdict) → asked.optimal ≡ true → IsSaid true v → (v ≡ verdict.Valid) ⊎ (v ≡ verdict.Limit)
  told_cheap v cheapest (inl (is, not)) = absurd (not (told_valid v is))
  told_cheap v cheapest (inr h) =
      let wrote_it : h.report ≡ report_of run.task run.head run.entries solved.outcome = same_report h.report
      (report_of run.task run.head run.entries solved.outcome) h.formed
      (written_formed run.task run.head run.entries solved.outcome run.fit can solved.turns)
      (h.spelled ∙ whole_is run.task run.head run.entries solved.outcome) in
      cost_right judging.states run.task run.head run.entries solved.outcome v solved.turns.sure
      (headed.optimal ∙ cheapest)
      (subst (λ (r : Report). IsOutcomeSaid judging.states run.task r r.outcome v) wrote_it h.said)

  pub ends_valid : judging.optimal ≡ false → (end ≡ status.Done) × (said ≡ verdict_text verdict.Valid)
  ends_valid off =
      let valid = told_valid judged.verdict (so false off) in
      (sym judged.kind ∙ ap kind_of_verdict valid, judged.is ∙ ap verdict_text valid)

  pub ends_cheap : asked.optimal ≡ true → judging.optimal ≡ true
      → ((end ≡ status.Done) × (said ≡ verdict_text verdict.Valid))
      ⊎ ((end ≡ status.Limit) × (said ≡ verdict_text verdict.Limit))
  ends_cheap cheapest on = by (told_cheap judged.verdict cheapest (so true on))
    where
      by : (judged.verdict ≡ verdict.Valid) ⊎ (judged.verdict ≡ verdict.Limit)
          → ((end ≡ status.Done) × (said ≡ verdict_text verdict.Valid))
          ⊎ ((end ≡ status.Limit) × (said ≡ verdict_text verdict.Limit))
      by (inl valid) = inl (sym judged.kind ∙ ap kind_of_verdict valid, judged.is ∙ ap verdict_text valid)
      by (inr limit) = inr (sym judged.kind ∙ ap kind_of_verdict limit, judged.is ∙ ap verdict_text limit)

pub solved_valid : SolvedReportsAreValid
solved_valid files later words others outside after status end text said asked judging meant judges solved answer first second same report le off =
    ends_valid files later words others outside after status end text said asked judging meant judges solved answer first second same
    report le off

pub cheapest_not_wrong : CheapestReportsAreNotWrong
cheapest_not_wrong files later words others outside after status end text said asked judging meant judges solved answer first second same report le cheapest on =
    ends_cheap files later words others outside after status end text said asked judging meant judges solved answer first second same
    report le cheapest on
