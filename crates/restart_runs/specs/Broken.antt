-- The calls of a run that stops before it has an outcome, whose children are started again where they fail.
use Rattle.std.specs.Prelude.{◌≡◌, ◌⊎◌, ℕ, suc, ◌<◌, List, [], ◌∷◌, ◌++◌, length, replicate, slice_get, take, Option, None, Some, ⊤}
use Rattle.std.specs.List.{All}
use Rattle.gen_lines.specs.declared.answer.Why.{Why}
use Rattle.io_world.specs.Talks.{Event}
use Rattle.restart_host.specs.Lives.{AreBringing, AreFetching, IsAskedAt, moment_of}
use Rattle.restart_runs.specs.Again.{AreBegunAtLast, FollowsAgain, refused_start, words_for}
use Rattle.round_run.specs.Calls.{IsStop, starts_of}
use Rattle.round_run.specs.Dialogue.{IsBadLine, Request, replies_of, requests_of, text_of_request, wanted_by, workers_in}
use Rattle.round_run.specs.declared.fault.RunFault.{RunFault}
use Rattle.round_run.specs.declared.fault.RunFault.TheVariants.{Answer, Generator, Memory, Write}
use Rattle.task_model.specs.declared.task.Task.{Task}
use Rattle.transcript_model.specs.Legal.{IsLegal, asks_of}
use Rattle.transcript_model.specs.declared.entry.Entry.{Entry}
use Rattle.transcript_model.specs.declared.head.Head.{Head}

-- The first of these starts, and then tries of the next one, all of which failed.
pub record AreRefused (starts events : List Event) : Type 0 where
  pub place : ℕ
  pub next : Event
  pub at : slice_get starts place ≡ Some next
  pub done : List Event
  pub begun : AreBegunAtLast (take place starts) done
  pub more : ℕ
  pub is : events ≡ done ++ replicate (suc more) (refused_start next)

module _ (task : Task) (head : Head) (past : List Event) (before : List Entry) (calls : List Event) where
  -- Tries to bring the next request, with which the transcript is such a front.
  pub record BringsNext (Front : List Entry → Type 0) : Type 0 where
    pub entry : Entry
    pub legal : IsLegal head.version task (before ++ entry ∷ [])
    pub front : Front (before ++ entry ∷ [])
    pub request : Request
    pub next : requests_of task (workers_in head) (before ++ entry ∷ [])
        ≡ requests_of task (workers_in head) before ++ request ∷ []
    pub bringing : AreBringing request.child (words_for head.pools request.child) [] (text_of_request request)
        (moment_of request.child past) calls

  -- Tries to fetch what is said to the next request that has no answer.
  pub record FetchesNext : Type 0 where
    pub request : Request
    pub next : slice_get (requests_of task (workers_in head) before) (length (replies_of before)) ≡ Some request
    pub fetching : AreFetching request.child (words_for head.pools request.child) (text_of_request request)
        (moment_of request.child past) calls

  -- It was fetched, and is no answer, for this cause: it stands at the place of its request in one life of the child.
  pub record FetchesBad (number : ℕ) (why : Why) : Type 0 where
    pub fetches : FetchesNext
    pub numbered : fetches.request.number ≡ number
    pub place : ℕ
    pub asked : IsAskedAt (text_of_request fetches.request) place (moment_of fetches.request.child (past ++ calls))
    pub bad : IsBadLine (moment_of fetches.request.child (past ++ calls)).talk.heard place
        (wanted_by task head.version fetches.request) why

  -- The calls, behind those of the entries, of one entry that doesn't stand in the transcript: none where the sink
  -- failed. Where memory was wanting nothing is said of them.
  abbrev pub IsBegunAgain : RunFault → (List Entry → Type 0) → Type 0
  IsBegunAgain Write Front = calls ≡ []
  IsBegunAgain Generator Front = BringsNext Front ⊎ FetchesNext
  IsBegunAgain (Answer number why) Front = FetchesBad number why
  IsBegunAgain Memory Front = ⊤

-- The workers were started, if the run has a request, and the calls of its entries came, up to where it broke off.
pub record UnderwayAgain (task : Task) (head : Head) (past : List Event) (entries : List Entry) (fault : RunFault)
    (events : List Event) (Front : List Entry → Type 0) : Type 0 where
  pub starts : List Event
  pub begun : AreBegunAtLast (starts_of head.pools) starts
  pub done : List Event
  pub calls : List Event
  pub cut : events ≡ starts ++ done ++ calls
  pub needed : fault ≡ Write → 0 < asks_of entries
  pub follows : FollowsAgain task head (past ++ starts) [] entries done
  pub more : IsBegunAgain task head ((past ++ starts) ++ done) entries calls fault Front

-- The run broke off before the first request was written: no call was made, or a start was refused.
pub record UnstartedAgain (head : Head) (entries : List Entry) (fault : RunFault) (events : List Event) : Type 0 where
  pub none : asks_of entries ≡ 0
  pub were : (events ≡ []) ⊎ ((fault ≡ Generator) × AreRefused (starts_of head.pools) events)

-- The calls that came to the log, where it is told, are those of the run up to where it broke off, and then stops. Where
-- memory was wanting nothing is said.
abbrev pub LogBrokenAgain : Task → Head → (List Entry → Type 0) → List Entry → RunFault → Option (List Event)
    → Option (List Event) → Type 0
LogBrokenAgain task head Front entries fault old None = ⊤
LogBrokenAgain task head Front entries fault old (Some after) =
    ¬ (fault ≡ Memory) → (past : List Event) × (events : List Event) × (stops : List Event) × (old ≡ Some past)
    × (after ≡ past ++ events ++ stops) × All IsStop stops
    × (UnstartedAgain head entries fault events ⊎ UnderwayAgain task head past entries fault events Front)
