-- What the dialogue with one child names. Each law is the contract of a public function of `texts.rt`, and so is proved.
use Rattle.std.specs.Prelude.{◌≡◌, ℕ, ◌<◌, List, [], ◌∷◌, Option, Some}
use Rattle.command_line.specs.Words.{command_of, generate}
use Rattle.io_world.specs.Talks.{Talk}
use Rattle.turn_run.specs.Reports.{IsRun}
use Rattle.command_files.specs.Outside.{Outside}
use Rattle.run_command.specs.Runs.{HasOutcome}
use Rattle.command_files.specs.declared.status.Status.{Status}
use Rattle.pools.specs.Pools.{AreFitPools}
use Rattle.round_run.specs.Dialogue.{Dialogue, workers_in}
use Rattle.task_model.specs.Fit.{IsFit}
use Rattle.task_model.specs.declared.task.Task.{Task}
use Rattle.transcript_model.specs.Legal.{asks_of}
use Rattle.transcript_model.specs.Plain.{end_of}
use Rattle.transcript_model.specs.Rounds.{limits_of}
use Rattle.transcript_model.specs.declared.entry.Entry.{Entry}
use Rattle.transcript_model.specs.declared.head.Head.{Head}
use Rattle.transcript_model.specs.declared.head.Mode.TheVariants.{Incremental}
use Rattle.transcript_model.specs.declared.head.Pool.{Pool}
use Rattle.transcript_model.specs.declared.outcome.LimitKind.TheVariants.{States}
use Rattle.transcript_model.specs.declared.outcome.Outcome.{Outcome}
use Rattle.transcript_model.specs.declared.outcome.Outcome.TheVariants as outcome
use Rattle.stream_map.specs.declared.pools.TheConstants.{GRID_CHILD}

-- ---- runs

-- A run in incremental mode whose head has this pool alone, with one worker; its dialogue, of which this child tells
-- this talk. If it ended with the limit of states then something was asked: else no child tells anything of it.
pub record IsSpelledRun (task : Task) (head : Head) (pool : Pool) (talk : Talk) (entries : List Entry)
    (o : Outcome) (spoken : ℕ → Option Talk) : Type 0 where
  pub mode : head.mode ≡ Incremental
  pub pools : head.pools ≡ pool ∷ []
  pub one : pool.workers ≡ 1
  pub run : IsRun task head entries o
  pub talks : Dialogue task head.version (workers_in head) entries spoken
  pub told : spoken pool.first ≡ Some talk
  pub begun : o ≡ outcome.Limit States → 0 < asks_of entries

-- The same entries, and the same kind of end, unless one of them is the limit of states.
pub record SpellsOne (entries others : List Entry) (o p : Outcome) : Type 0 where
  pub transcript : entries ≡ others
  pub end : ¬ (o ≡ outcome.Limit States) → ¬ (p ≡ outcome.Limit States) → end_of o ≡ end_of p

-- With one pool of one worker the task, the head and what was said with this child spell one transcript: two such runs
-- of which the same talk is told have the same entries.
abbrev pub OneWorkerSpellsOneRun : Type 0
OneWorkerSpellsOneRun =
    (task : Task) (head : Head) (pool : Pool) (talk : Talk) (entries others : List Entry) (o p : Outcome)
    (spoken told : ℕ → Option Talk) → IsFit task → AreFitPools task (workers_in head)
    → IsSpelledRun task head pool talk entries o spoken → IsSpelledRun task head pool talk others p told
    → SpellsOne entries others o p

-- ---- runs of the program

-- The heads differ in nothing but the words that start their children.
pub record AreAlike (head other : Head) : Type 0 where
  pub limits : limits_of head ≡ limits_of other
  pub optimal : head.optimal ≡ other.optimal
  pub workers : workers_in head ≡ workers_in other

-- In incremental mode no other child can be asked than this: it is the one worker of the one pool.
pub record AsksOneChild (head : Head) (child : ℕ) : Type 0 where
  pub mode : head.mode ≡ Incremental
  pub pool : Pool
  pub pools : head.pools ≡ pool ∷ []
  pub alone : pool.workers ≡ 1
  pub first : pool.first ≡ child

-- This is told of what was said with the child. If the run ended with the limit of states then something was asked:
-- else nothing was said with any child, whatever is told.
pub record HasTold {words : List (List ℕ)} {outside : Outside} {status : Status} {text : List ℕ}
    (has : HasOutcome words outside status text) (child : ℕ) (talk : Talk) : Type 0 where
  pub told : outside.spoken child ≡ Some talk
  pub begun : has.outcome ≡ outcome.Limit States → 0 < asks_of has.run.entries

-- Two runs of the program with outcomes, over one task and with heads that are alike, ask one child alone, and the same
-- talk is told of it. Then they have the same entries, whatever their words, files and texts were.
abbrev pub OneTalkOneRun : Type 0
OneTalkOneRun =
    (words others : List (List ℕ)) (outside after : Outside) (status end : Status) (text line : List ℕ) (child : ℕ)
    (talk : Talk) (first : HasOutcome words outside status text) (second : HasOutcome others after end line)
    → first.run.task ≡ second.run.task → AreAlike first.run.head second.run.head → AsksOneChild first.run.head child
    → HasTold first child talk → HasTold second child talk
    → SpellsOne first.run.entries second.run.entries first.outcome second.outcome

-- So it is with two runs of `generate` for one number, of whose child GRID_CHILD, the grid's generator, the same talk
-- is told.
abbrev pub OneTalkOneMadeRun : Type 0
OneTalkOneMadeRun =
    (words others : List (List ℕ)) (outside after : Outside) (status end : Status) (text line : List ℕ) (n : ℕ)
    (talk : Talk) → command_of words ≡ Some (generate n) → command_of others ≡ Some (generate n)
    → (first : HasOutcome words outside status text) (second : HasOutcome others after end line)
    → HasTold first GRID_CHILD talk → HasTold second GRID_CHILD talk
    → SpellsOne first.run.entries second.run.entries first.outcome second.outcome
