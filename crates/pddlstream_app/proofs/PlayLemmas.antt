-- A true report is acted out on its grid without a fault, as `play` tells it.
use Rattle.std.proofs.Common.{◌≡◌, arith, ℕ, List, [], ◌∷◌, refl, sym, subst, ap, ◌∙◌, inl, inr, Some}
use Rattle.command_line.specs.Words.{Command, PlayWords, command_of, play}
use Rattle.grid_play.specs.declared.play.PlayVerdict.TheVariants.{Safe}
use Rattle.grid_text.specs.Files.{IsGridOf}
use Rattle.grid_text.specs.Grids.{GridFile}
use Rattle.io_world.specs.FileMap.{FileMap}
use Rattle.pddlstream_app.proofs.RunsLemmas.{taken_all}
use Rattle.pddlstream_app.specs.AnswerOf.{AnswerOf, HasAnswer, IsCommandAnswer}
use Rattle.command_files.specs.Files.{AreBytes}
use Rattle.command_files.specs.Inputs.{files_named}
use Rattle.command_files.specs.Outside.{Outside, Written}
use Rattle.pddlstream_app.specs.Plans.{SaysBy, SaysOfReport, SaysPlay, SaysPlayBy, play_status}
use Rattle.pddlstream_app.specs.Plays.{HasTruePlay, PlaysSafely}
use Rattle.pddlstream_app.specs.Runs.{Ends, RunHasFault, RunWrites}
use Rattle.run_command.specs.Runs.{outcome_status}
use Rattle.command_files.specs.declared.status.Status.{Status}
use Rattle.command_files.specs.declared.status.Status.TheVariants.{Done, Invalid, Limit}
use Rattle.play_laws.proofs.SafeLemmas.{true_reports_play_safely}
use Rattle.play_laws.specs.Problems.{AreTrueYields, IsGridProblem}
use Rattle.replay_check.proofs.RightReportLemmas.{no_breach}
use Rattle.replay_check.specs.Heads.{reported_limits}
use Rattle.replay_check.specs.Verdicts.{IsReportVerdict, IsRightReport, IsVerdict}
use Rattle.replay_check.specs.declared.verdict.Verdict.{Verdict}
use Rattle.replay_check.specs.declared.verdict.Verdict.TheVariants as verdict
use Rattle.report_text.proofs.ReportsReadBack.{same_report}
use Rattle.report_text.specs.Forms.{IsFormed}
use Rattle.report_text.specs.Texts.{text_of_report}
use Rattle.task_model.specs.Fit.{IsFit}
use Rattle.task_model.specs.declared.task.Task.{Task}
use Rattle.task_reader.proofs.SpelledLemmas.{one_task}
use Rattle.task_reader.specs.Tasks.{SpellsTask}
use Rattle.transcript_model.specs.Outcomes.{IsTrueOutcome}
use Rattle.transcript_model.specs.declared.outcome.Outcome.{Outcome}
use Rattle.transcript_model.specs.declared.outcome.Outcome.TheVariants as outcome
use Rattle.transcript_model.specs.declared.report.Report.{Report}

-- ---- ends of a run

outcome_not_invalid : (o : Outcome) → ¬ (outcome_status o ≡ Invalid)
outcome_not_invalid (outcome.Plan calls cost from) is = absurd (cc)
outcome_not_invalid outcome.NoPlan is = absurd (cc)
outcome_not_invalid (outcome.Limit kind) is = absurd (cc)

module _ (words : List (List ℕ)) (outside : Outside) (text : List ℕ) where
  fault_not_invalid : RunHasFault words outside Invalid text → ⊥
  fault_not_invalid h = let kind = h.kind in grind (arith, kind)

-- ---- what is said of a right report

module _ (task : Task) (grid : GridFile) (r : Report) (fit : IsFit task) (is : IsGridProblem task grid) (formed : IsFormed r)
    (right : IsRightReport task r) (yielded : AreTrueYields grid r.entries) where
  outcome_safe : (o : Outcome) → IsTrueOutcome (reported_limits task r) task r.entries o
      → (status : Status) (text : List ℕ) → SaysPlayBy grid o status text → ¬ (status ≡ Invalid)
  outcome_safe (outcome.Plan calls cost from) plan status text s invalid =
      let safe : s.play.verdict ≡ Safe =
      true_reports_play_safely r.version task grid r.entries calls cost from s.play fit is right.legal.legal yielded plan s.played in
      let both : Invalid ≡ Done = sym invalid ∙ s.kind ∙ ap play_status safe in absurd (cc)
  outcome_safe outcome.NoPlan none status text s invalid = let both : Invalid ≡ Done = sym invalid ∙ s.0 in absurd (cc)
  outcome_safe (outcome.Limit kind) limit status text s invalid =
      let both : Invalid ≡ Done = sym invalid ∙ s.0 in absurd (cc)

  -- no line of it is wrong, and so it is acted out, or a claim isn't decided
  verdict_safe : (states : ℕ) (bytes : List ℕ) → text_of_report r ≡ bytes → (v : Verdict) → IsVerdict states task bytes v
      → (status : Status) (text : List ℕ) → SaysBy (SaysPlay grid) bytes v status text → ¬ (status ≡ Invalid)
  verdict_safe states bytes spelled verdict.Valid said status text s invalid =
      let same : s.0 ≡ r = same_report s.0 r s.1 formed (s.2 ∙ sym spelled) in
      outcome_safe r.outcome right.true status text (subst (λ other. SaysPlay grid other status text) same s.3) invalid
  verdict_safe states bytes spelled (verdict.Invalid line kind) (inl (other, is_other, refused)) status text s invalid =
      absurd (refused.none (r, formed, spelled))
  verdict_safe states bytes spelled (verdict.Invalid line kind) (inr of) status text s invalid =
      let same : of.report ≡ r = same_report of.report r of.formed formed (of.spelled ∙ sym spelled) in
      let first = subst (λ other. IsReportVerdict states task other (verdict.Invalid line kind)) same of.said in
      absurd (no_breach task r line kind right first.breach)
  verdict_safe states bytes spelled verdict.Limit said status text s invalid =
      let both : Limit ≡ Invalid = s.0 ∙ invalid in absurd (cc)

-- ---- the answer

-- one file has one text
one_text : (files : FileMap) (path a b : List ℕ) → files path ≡ Some a → files path ≡ Some b → a ≡ b
one_text files path a b first second = let both : Some a ≡ Some b = sym first ∙ second in cc

-- one text has one grid
one_grid : (a b : List ℕ) (g h : GridFile) → a ≡ b → IsGridOf a g → IsGridOf b h → g ≡ h
one_grid a b g h same first second =
    first.says ∙ sym (subst (λ bytes. IsGridOf bytes h) (sym same) second).says

module _ (files : FileMap) (asked : PlayWords) (has : HasTruePlay files asked) (status : Status) (text : List ℕ) where
  texts_safe : (texts : List (List ℕ)) → AreBytes (Some files) (files_named (play asked)) texts
      → AnswerOf (play asked) texts status text → ¬ (status ≡ Invalid)
  texts_safe (domain ∷ problem ∷ streams ∷ report ∷ drawn ∷ []) are a =
      let x = has.spelled in
      let first : domain ≡ x.domain = one_text files asked.files.domain domain x.domain are.0.held x.are.0.held in
      let second : problem ≡ x.problem = one_text files asked.files.problem problem x.problem are.1.0.held x.are.1.0.held in
      let third : streams ≡ x.streams = one_text files asked.files.streams streams x.streams are.1.1.0.held x.are.1.1.0.held in
      let task : a.0 ≡ has.task =
      one_task x.domain x.problem x.streams a.0 has.task
      (subst (λ b. SpellsTask x.domain x.problem b a.0) third
      (subst (λ b. SpellsTask x.domain b streams a.0) second
      (subst (λ b. SpellsTask b problem streams a.0) first a.1)))
      x.spelled in
      let read : report ≡ text_of_report has.report =
      one_text files asked.report report (text_of_report has.report) are.1.1.1.0.held has.held in
      let seen : drawn ≡ has.bytes = one_text files asked.grid drawn has.bytes are.1.1.1.1.0.held has.drawn in
      let grid : a.3.0 ≡ has.grid = one_grid drawn has.bytes a.3.0 has.grid seen a.3.1 has.read in
      let fit : IsFit has.task = subst IsFit task a.2 in
      let said : SaysOfReport asked.states has.task report (SaysPlay has.grid) status text =
      subst (λ t. SaysOfReport asked.states t report (SaysPlay has.grid) status text) task
      (subst (λ g. SaysOfReport asked.states a.0 report (SaysPlay g) status text) grid a.3.2) in
      verdict_safe has.task has.grid has.report fit has.problem has.formed has.right has.answers asked.states report
      (sym read) said.0 said.1 status text said.2
  texts_safe texts are a = absurd a

-- ---- the run

module _ (words : List (List ℕ)) (outside : Outside) (files : FileMap) (asked : PlayWords) where
  answer_safe : outside.files.told ≡ Some files → command_of words ≡ Some (play asked) → HasTruePlay files asked
      → (status : Status) (text : List ℕ) → HasAnswer words outside status text → ¬ (status ≡ Invalid)
  answer_safe told meant has status text h =
      let both : Some h.command ≡ Some (play asked) = sym h.meant ∙ meant in
      let same : h.command ≡ play asked = cc in
      let answer : IsCommandAnswer (play asked) (Some files) status text =
      subst (λ t. IsCommandAnswer (play asked) t status text) told
      (subst (λ (c : Command). IsCommandAnswer c outside.files.told status text) same h.answer) in
      texts_safe files asked has status text answer.texts answer.are answer.so

  writes_safe : outside.files.told ≡ Some files → command_of words ≡ Some (play asked) → HasTruePlay files asked
      → (text : List ℕ) → RunWrites words outside Invalid text → ⊥
  writes_safe told meant has text (inl h) = outcome_not_invalid h.outcome h.kind
  writes_safe told meant has text (inr (inl h)) = answer_safe told meant has Invalid text h refl
  writes_safe told meant has text (inr (inr h)) = fault_not_invalid words outside text h

-- however a run ends that ends as it says
pub plays_safely : (words : List (List ℕ)) (outside : Outside) (Same : Type 0) (written : Written) (status : Status)
    → Ends words outside Same written status → PlaysSafely words outside.files.told status
plays_safely words outside Same written status ends files asked told meant has invalid =
    let all = taken_all words outside Same written Invalid refl (subst (Ends words outside Same written) invalid ends) in
    writes_safe words outside files asked told meant has all.text all.writes
