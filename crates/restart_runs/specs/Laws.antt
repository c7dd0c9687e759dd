-- Laws of runs whose children are started again. Each is the contract of a public function of `laws.rt`, and so is
-- proved.
use Rattle.std.specs.Prelude.{◌≡◌, ℕ, ◌≤◌, true, List, [], ◌++◌, All, Contains, Option, Some}
use Rattle.io_world.specs.Logs.{Calls, said_of, told_of}
use Rattle.io_world.specs.Talks.{Event, LogGrows, Talk, silence, spelled}
use Rattle.pools.specs.Pools.{AreFitPools}
use Rattle.restart_host.specs.Leads.{AreDoneBelow}
use Rattle.restart_host.specs.Uses.{AreDone}
use Rattle.restart_runs.specs.Again.{FollowsAgain, LogRanAgain}
use Rattle.restart_runs.specs.Broken.{LogBrokenAgain}
use Rattle.restart_runs.specs.Tabled.{AnsweredAgain, IsAgainRun, IsRanAgain, IsTabledAgain, SpeakAgain}
use Rattle.round_run.specs.Breaking.{LogBroken}
use Rattle.round_run.specs.Calls.{LogRan}
use Rattle.round_run.specs.Dialogue.{BrokenOff, Dialogue, workers_in}
use Rattle.round_run.specs.Rolling.{Blames}
use Rattle.round_run.specs.declared.fault.RunFault.{RunFault}
use Rattle.table_runs.specs.Asking.{AnsweredBy, AreAskedInTurn, GoToPools}
use Rattle.table_runs.specs.Tabled.{IsTabled, IsTalkedRun}
use Rattle.task_model.specs.Fit.{IsFit}
use Rattle.task_model.specs.declared.task.Task.{Task}
use Rattle.transcript_model.specs.Legal.{IsLegal, asks_of}
use Rattle.transcript_model.specs.Plain.{SaysSame, end_of}
use Rattle.transcript_model.specs.Tables.{AgreesWith, Answers}
use Rattle.transcript_model.specs.Transcript.{known_of}
use Rattle.transcript_model.specs.Turns.{Stage}
use Rattle.transcript_model.specs.declared.entry.Entry.{Entry}
use Rattle.transcript_model.specs.declared.head.Head.{Head}
use Rattle.transcript_model.specs.declared.head.Mode.TheVariants.{Incremental}
use Rattle.transcript_model.specs.declared.limits.TheConstants.{MOST_CALLS}
use Rattle.transcript_model.specs.declared.outcome.LimitKind.TheVariants.{States}
use Rattle.transcript_model.specs.declared.outcome.Outcome.{Outcome}
use Rattle.transcript_model.specs.declared.outcome.Outcome.TheVariants as outcome

-- Where each child speaks by some answers in each of its lives, as those of a table, the answers of the transcript are
-- these, in any mode.
abbrev pub AgainDialoguesAgree : Type 0
AgainDialoguesAgree =
    (task : Task) (head : Head) (answers : Answers) (entries : List Entry) (past events : List Event) → IsFit task
    → IsLegal head.version task entries → asks_of entries ≤ MOST_CALLS
    → FollowsAgain task head past [] entries events → SpeakAgain head.version task answers past events
    → AgreesWith head.version task answers entries

-- A run over a host that starts its children again leaves such a log on the host below: where its calls were done by those
-- that came there, as such a host says of them, each request goes to a child of the pools, and stands behind the answers
-- to all earlier ones of its child, the log below has the calls of the run, whose children are started again.
abbrev pub OuterCallsAreBrought : Type 0
OuterCallsAreBrought =
    (task : Task) (head : Head) (entries : List Entry) (calls past os events : List Event) → IsFit task
    → AreFitPools task (workers_in head) → IsLegal head.version task entries → asks_of entries ≤ MOST_CALLS
    → GoToPools task (workers_in head) entries → AreAskedInTurn task (workers_in head) entries
    → LogRan task head entries (Some calls) (Some (calls ++ os))
    → Dialogue task head.version (workers_in head) entries (λ child. Some (spelled child silence (calls ++ os)))
    → AreDone calls past os events → LogRanAgain task head entries (Some past) (Some (past ++ events))

-- Few requests, each of which goes to a child of the pools, and stands behind the answers to all earlier ones of its
-- child.
pub record AreWellAsked (task : Task) (head : Head) (entries : List Entry) : Type 0 where
  pub few : asks_of entries ≤ MOST_CALLS
  pub served : GoToPools task (workers_in head) entries
  pub in_turn : AreAskedInTurn task (workers_in head) entries

-- So does a run over such a host that stops before it has an outcome, whose transcript is one of these, as the one with
-- the next request is, if one was begun: each has such requests. Where its dialogue was broken off, the log below has the
-- calls of such a run, up to where it broke off.
abbrev pub BrokenCallsAreBrought : Type 0
BrokenCallsAreBrought =
    (task : Task) (head : Head) (fronts : List (List Entry)) (entries : List Entry) (fault : RunFault)
    (calls past os events : List Event) → IsFit task → AreFitPools task (workers_in head)
    → IsLegal head.version task entries → Contains fronts entries → All (AreWellAsked task head) fronts
    → LogBroken task head (Contains fronts) entries fault (Some calls) (Some (calls ++ os))
    → BrokenOff task head.version (workers_in head) (Contains fronts) fault entries
    (λ child. Some (spelled child silence (calls ++ os)))
    → Blames head.version task (workers_in head) (λ child. Some (spelled child silence (calls ++ os))) fault entries
    → AreDone calls past os events
    → LogBrokenAgain task head (Contains fronts) entries fault (Some past) (Some (past ++ events))

-- So a run over such a host, whose log is whole, is one whose children are started again, and comes to what such runs do,
-- where its calls were done by those that came to the log of the host below, which is told or isn't.
abbrev pub OuterRunsAreTabled : Type 0
OuterRunsAreTabled =
    (task : Task) (head : Head) (entries : List Entry) (stage : Stage) (o : Outcome) (old new : Calls)
    (was now : Option (List Event)) (events : List Event) → IsFit task → AreFitPools task (workers_in head)
    → head.calls ≤ MOST_CALLS → IsTalkedRun task head entries stage o (said_of new)
    → LogRan task head entries (told_of old) (told_of new) → old.whole ≡ true → new.whole ≡ true
    → LogGrows was now events → AreDoneBelow old.events new.events was now events
    → IsRanAgain task head entries was now o

-- A run whose children are started again is as the plain run over the answers by which they speak in each of their
-- lives, and ends with a plan or with none where all transcripts that agree with them stay within its limits.
abbrev pub AgainRunsAreTabled : Type 0
AgainRunsAreTabled =
    (task : Task) (head : Head) (entries : List Entry) (stage : Stage) (o : Outcome) (old new : Option (List Event))
    → IsFit task → head.calls ≤ MOST_CALLS → IsAgainRun task head entries stage o old new
    → IsTabledAgain task head entries old new o

-- A run whose children are started again and one whose children aren't, of one task with the same limit of calls and
-- the same answers, say the same, know the same in the end and end in the same way, whatever their pools and their
-- workers, unless one of them ends with the limit of states.
abbrev pub RestartsDoNotMatter : Type 0
RestartsDoNotMatter =
    (task : Task) (head other : Head) (answers : Answers) (xs ys : List Entry) (old new : Option (List Event))
    (spoken : ℕ → Option Talk) (o p : Outcome) → head.mode ≡ Incremental → other.mode ≡ Incremental
    → head.calls ≡ other.calls → IsTabledAgain task head xs old new o → IsTabled task other ys spoken p
    → AnsweredAgain head.version task answers old new
    → AnsweredBy other.version task (workers_in other) answers ys spoken → ¬ (o ≡ outcome.Limit States)
    → ¬ (p ≡ outcome.Limit States) → SaysSame xs ys × (known_of task xs ≡ known_of task ys) × (end_of o ≡ end_of p)

-- Two such runs of one head are one, entry by entry: what is asked, in which order, and what is answered, is that of
-- the run without faults.
abbrev pub RestartsChangeNothing : Type 0
RestartsChangeNothing =
    (task : Task) (head : Head) (answers : Answers) (xs ys : List Entry) (s t : Stage) (old new : Option (List Event))
    (spoken : ℕ → Option Talk) (o p : Outcome) → IsFit task → head.calls ≤ MOST_CALLS → head.mode ≡ Incremental
    → IsAgainRun task head xs s o old new → IsTalkedRun task head ys t p spoken
    → AnsweredAgain head.version task answers old new
    → AnsweredBy head.version task (workers_in head) answers ys spoken → ¬ (o ≡ outcome.Limit States)
    → ¬ (p ≡ outcome.Limit States) → xs ≡ ys
