-- What the program writes where it solves, it finds valid where it judges. Each law is the contract of a public function
-- of `replays.rt`.
use Rattle.std.specs.Prelude.{◌≡◌, ◌⊎◌, ℕ, ◌≤◌, List, Some, false, true}
use Rattle.command_line.specs.Words.{ReplayWords, SolveWords, TaskFiles, command_of, replay, solve}
use Rattle.io_world.specs.FileMap.{FileMap}
use Rattle.pddlstream_app.specs.AnswerOf.{HasAnswer}
use Rattle.command_files.specs.Outside.{Outside}
use Rattle.pddlstream_app.specs.Replays.{verdict_text}
use Rattle.run_command.specs.Runs.{HasOutcome}
use Rattle.command_files.specs.declared.status.Status.{Status}
use Rattle.command_files.specs.declared.status.Status.TheVariants as status
use Rattle.replay_check.specs.declared.verdict.Verdict.TheVariants as verdict

-- Under these paths of the first files stand the same three texts as under those of the later files.
pub record AreSameTexts (files later : FileMap) (paths others : TaskFiles) : Type 0 where
  pub domain : files paths.domain ≡ later others.domain
  pub problem : files paths.problem ≡ later others.problem
  pub streams : files paths.streams ≡ later others.streams

-- A run for words that mean a task is to be solved has an outcome and writes this text. A later run, for words that mean
-- a report is to be judged, answers: its task has the same three texts, its report is what was written, and its limit is
-- at least the run's. Then this is so of both words, of how it ends and of what it says.
abbrev pub JudgedLater : (SolveWords → ReplayWords → Status → List ℕ → Type 0) → Type 0
JudgedLater IsSo =
    (files later : FileMap) (words others : List (List ℕ)) (outside after : Outside) (status end : Status)
    (text said : List ℕ) (asked : SolveWords) (judging : ReplayWords) → command_of words ≡ Some (solve asked)
    → command_of others ≡ Some (replay judging) → HasOutcome words outside status text → HasAnswer others after end said
    → outside.files.told ≡ Some files → after.files.told ≡ Some later
    → AreSameTexts files later asked.files judging.files → later judging.report ≡ Some text
    → asked.limits.states ≤ judging.states → IsSo asked judging end said

-- Where the cost isn't judged, a later run says that the report is valid, and ends so.
abbrev pub SolvedReportsAreValid : Type 0
SolvedReportsAreValid = JudgedLater (λ asked judging end said.
    judging.optimal ≡ false → (end ≡ status.Done) × (said ≡ verdict_text verdict.Valid))

-- Where the cheapest plan was asked for and the cost is judged too, a later run says that the report is valid, or that
-- its limit doesn't decide it, and ends so.
abbrev pub CheapestReportsAreNotWrong : Type 0
CheapestReportsAreNotWrong = JudgedLater (λ asked judging end said.
    asked.optimal ≡ true → judging.optimal ≡ true
    → ((end ≡ status.Done) × (said ≡ verdict_text verdict.Valid))
    ⊎ ((end ≡ status.Limit) × (said ≡ verdict_text verdict.Limit)))
