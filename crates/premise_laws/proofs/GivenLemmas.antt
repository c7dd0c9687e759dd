-- Each run of these words over these files is one of the first worked task, and the table is the one of its child.
use Rattle.std.proofs.Common.{◌≡◌, ℕ, ◌≤◌, [], ◌∷◌, codes, false, refl, sym, ap, subst, ◌∙◌, arith, None, Some}
use Rattle.std.proofs.lemmas.Option.{same_Some}
use Rattle.clap.proofs.OnLiterals.{clap_on_literals}
use Rattle.command_line.specs.Apps.{is_taken, solve_app}
use Rattle.command_line.specs.Numbers.{is_number}
use Rattle.command_line.specs.Words.{Command, SolveWords, command_of, generate, read_by, solve}
use Rattle.io_world.specs.Talks.{silence, spelled}
use Rattle.pddlstream_app.specs.Complete.{AreGivenAnswers}
use Rattle.command_files.specs.Inputs.{IsTaskOf}
use Rattle.run_command.specs.Runs.{ProgramRun}
use Rattle.run_command.specs.Works.{Work, command_for, files_of, making, solving, words_of_work}
use Rattle.table_runs.specs.Asking.{SpeaksBy}
use Rattle.task_model.specs.declared.task.Task.{Task}
use Rattle.task_reader.proofs.SpelledLemmas.{one_task}
use Rattle.task_reader.specs.Tasks.{SpellsTask}
use Rattle.transcript_model.specs.Legal.{asks_of}
use Rattle.transcript_model.specs.Tables.{IsBounded}
use Rattle.transcript_model.specs.declared.head.Mode.TheVariants.{Incremental}
use Rattle.witness_laws.proofs.SpelledLemmas.{first_task_spelled}
use Rattle.witness_laws.proofs.TranscriptLemmas.{bounded}
use Rattle.witness_laws.specs.Fetch.{fetch, fetch_answers}
use Rattle.witness_laws.specs.Texts.{fetch_domain_text, fetch_problem_text, fetch_streams_text}
use Rattle.premise_laws.proofs.TalkLemmas.{speaks}
use Rattle.premise_laws.specs.Run.{cup_events, cup_files, cup_outside, cup_words}

-- ---- the words

abbrev pub cup_asked : SolveWords
cup_asked = record {
  files = record { domain = codes "domain"; problem = codes "problem"; streams = codes "streams" };
  path = None;
  program = codes "grip" ∷ [];
  workers = 1;
  mode = Incremental;
  limits = record { calls = 10000; states = 100000; depth = 3 };
  protocol = 1;
  optimal = false;
  restarts = 0;
}

pub cup_meant : command_of cup_words ≡ Some (solve cup_asked)
unfolding clap_on_literals command_of read_by is_taken solve_app is_number
cup_meant = refl

abbrev asked_in : Command → SolveWords
asked_in (solve w) = w
asked_in command = cup_asked

-- the work of these words is to solve
work_is : (work : Work) → command_of cup_words ≡ Some (command_for work) → work ≡ solving cup_asked
work_is (solving w) meant =
    let same : solve cup_asked ≡ solve w = same_Some (solve cup_asked) (solve w) (sym cup_meant ∙ meant) in
    ap solving (sym (ap asked_in same))
work_is (making n) meant =
    let same : solve cup_asked ≡ generate n = same_Some (solve cup_asked) (generate n) (sym cup_meant ∙ meant) in
    absurd (cc)

-- ---- the task

module _ (task : Task) (of : IsTaskOf (Some cup_files) cup_asked.files task) where
  domain_is : of.domain ≡ fetch_domain_text
  domain_is = sym (same_Some fetch_domain_text of.domain of.are.0.held)

  problem_is : of.problem ≡ fetch_problem_text
  problem_is = sym (same_Some fetch_problem_text of.problem of.are.1.0.held)

  streams_is : of.streams ≡ fetch_streams_text
  streams_is = sym (same_Some fetch_streams_text of.streams of.are.1.1.0.held)

  -- the texts spell no other
  only_task : task ≡ fetch
  only_task =
      one_task fetch_domain_text fetch_problem_text fetch_streams_text task fetch
      (subst (λ d. SpellsTask d fetch_problem_text fetch_streams_text task) domain_is
      (subst (λ p. SpellsTask of.domain p fetch_streams_text task) problem_is
      (subst (λ s. SpellsTask of.domain of.problem s task) streams_is of.spelled)))
      first_task_spelled

abbrev CupRun : Type 0
CupRun = ProgramRun cup_words (Some cup_files)

pub work_of : (run : CupRun) → run.work ≡ solving cup_asked
work_of run = work_is run.work run.meant

pub task_of : (run : CupRun) → run.task ≡ fetch
task_of run =
    only_task run.task
    (subst (λ w. IsTaskOf (files_of (Some cup_files) w) (words_of_work w).files run.task) (work_of run) run.spelled)

-- it speaks protocol 1
pub version_of : (run : CupRun) → run.head.version ≡ 1
version_of run = run.headed.version ∙ ap (λ w. (words_of_work w).protocol) (work_of run)

-- ---- the limits

-- the limits of the words are wide
wide : IsBounded 1 fetch fetch_answers 10000 100000
wide entries agrees =
    let b = bounded entries agrees in
    let asks = b.0 in
    let fewer : asks_of entries ≤ 10000 = omega (arith, asks) in
    (fewer, λ many. b.1 (many.0, omega (arith, many.1), many.2, many.3))

bounded_at : (version calls states : ℕ) (task : Task) → version ≡ 1 → task ≡ fetch → calls ≡ 10000 → states ≡ 100000
    → IsBounded version task fetch_answers calls states
bounded_at version calls states task v t c s =
    subst (λ n. IsBounded n task fetch_answers calls states) (sym v)
    (subst (λ u. IsBounded 1 u fetch_answers calls states) (sym t)
    (subst (λ n. IsBounded 1 fetch fetch_answers n states) (sym c)
    (subst (λ n. IsBounded 1 fetch fetch_answers 10000 n) (sym s) wide)))

pub table_given : AreGivenAnswers cup_words cup_outside fetch_answers
table_given = record {
  said = λ run o is talks child some. (
    spelled child silence cup_events,
    refl,
    subst (λ v. SpeaksBy v run.task fetch_answers (spelled child silence cup_events)) (sym (version_of run))
        (subst (λ t. SpeaksBy 1 t fetch_answers (spelled child silence cup_events)) (sym (task_of run)) (speaks child)),
  );
  few = λ run.
      bounded_at run.head.version run.head.calls run.head.states run.task (version_of run) (task_of run)
      (run.headed.calls ∙ ap (λ w. (words_of_work w).limits.calls) (work_of run))
      (run.headed.states ∙ ap (λ w. (words_of_work w).limits.states) (work_of run));
}
