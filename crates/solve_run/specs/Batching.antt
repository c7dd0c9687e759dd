-- The batches of a dream, one after another.
use Rattle.std.specs.Prelude.{◌≡◌, ℕ, ◌+◌, ◌<◌, ◌≤◌, List, [], ◌∷◌, ◌++◌, length, Bool, true, Option, None, Some, Result}
use Rattle.dream_asks.specs.Progress.{IsProgress, Progress}
use Rattle.io_world.specs.Talks.{Event}
use Rattle.turn_run.specs.Turns.{IsSure, cut_by}
use Rattle.round_run.specs.TurnLines.{opens_requests}
use Rattle.round_run.specs.Breaking.{RunBreaks}
use Rattle.round_run.specs.Calls.{Runs}
use Rattle.round_run.specs.Desk.{AtDesk, HasDone, RestsAt}
use Rattle.round_run.specs.Rolling.{IsFrontPart}
use Rattle.round_run.specs.Told.{Stretch}
use Rattle.round_run.specs.declared.ending.Batch.{Batch}
use Rattle.round_run.specs.declared.ending.Batch.TheVariants.{CallsSpent, Done}
use Rattle.round_run.specs.declared.fault.RunFault.{RunFault}
use Rattle.session_core.specs.State.{State}
use Rattle.task_model.specs.Dreams as dreams
use Rattle.task_model.specs.declared.stream.Instance.{Instance}
use Rattle.task_model.specs.declared.task.Task.{Task}
use Rattle.transcript_model.specs.Dreaming.{Sent, next_sent, sent_instances}
use Rattle.transcript_model.specs.Legal.{asks_of, is_mark}
use Rattle.transcript_model.specs.Rounds.{IsBatch, limits_of}
use Rattle.transcript_model.specs.Turns.{AreBatches, is_cut}
use Rattle.transcript_model.specs.declared.entry.Entry.{Entry}
use Rattle.transcript_model.specs.declared.head.Head.{Head}
use Rattle.transcript_model.specs.declared.outcome.LimitKind.TheVariants.{Calls}
use Rattle.transcript_model.specs.declared.outcome.Outcome.TheVariants as outcome

-- The transcript has requests that this progress tells of, and each that was tried since stands behind the others.
abbrev pub HasProgress : Task → List Entry → Progress → Type 0
HasProgress task entries p = (sent : List Sent) × IsProgress task entries p sent

-- the entries that a dream's next batch asks, where these were asked of it
abbrev pub nexts : Task → List Entry → ℕ → List dreams.SupposedEntry → List Sent → List Sent
nexts task before real entries sent =
    next_sent task before real sent (asks_of before + 1) (sent_instances sent) entries

-- the first entries of what would be the rest of a dream's batches, where these were asked of it
abbrev pub IsFrontOfBatches : Head → Task → ℕ → List dreams.SupposedEntry → List Sent → List Entry → List Entry → Type 0
IsFrontOfBatches head task real entries sent before =
    IsFrontPart before (λ now. (after : List Sent) × (cut : Bool)
    × AreBatches (limits_of head) task real entries sent before now after cut)

-- The next batch of a dream may be run: the transcript has its requests so far, and no more were made than calls are
-- given.
pub record MayGoOn (head : Head) (task : Task) (p : Progress) (s : State) : Type 0 where
  pub progress : HasProgress task s.entries p
  pub within : length s.asked ≤ head.calls

-- ---- one batch

-- A batch was run, and ended so. Where it is whole the asks joined the dream's requests and those that were tried.
pub record RanSome (head : Head) (task : Task) (real : ℕ) (entries : List dreams.SupposedEntry) (old new : State)
    (later : Progress) (tried joined : List Instance) (sent : List Sent) (b : Batch) : Type 0 where
  pub some : 0 < length (nexts task old.entries real entries sent)
  pub now : List Entry
  pub pushed : new.entries ≡ old.entries ++ now
  pub batch : IsBatch (limits_of head) task old.entries (sent_instances (nexts task old.entries real entries sent)) now
  pub stays : later.real ≡ real
  pub cut : cut_by b ≡ is_cut (limits_of head) old.entries (nexts task old.entries real entries sent)
  pub noted : b ≡ Done → IsProgress task new.entries later (sent ++ nexts task old.entries real entries sent)
  pub joins : b ≡ Done → joined ≡ tried ++ sent_instances (nexts task old.entries real entries sent)

-- Nothing was left to ask, and nothing has changed; or a batch was run.
abbrev pub RanNext : Head → Task → ℕ → List dreams.SupposedEntry → (old new : State) → Progress
    → (tried joined : List Instance) → List Sent → Option Batch → Type 0
RanNext head task real entries old new later tried joined sent None =
    (nexts task old.entries real entries sent ≡ []) × (new ≡ old) × (joined ≡ tried)
RanNext head task real entries old new later tried joined sent (Some b) =
    RanSome head task real entries old new later tried joined sent b

-- How many requests were made, or that no call was: some, where a call was left, and all, where none was wanting. Where
-- calls were wanting the limit of calls is sure.
abbrev pub Called : Head → Task → (old new : State) → (was now : Option (List Event)) → Option Batch → Type 0
Called head task old new was now None = (new ≡ old) × (now ≡ was)
Called head task old new was now (Some Done) = (length old.asked < length new.asked) × (length new.asked ≤ head.calls)
Called head task old new was now (Some CallsSpent) =
    (length old.asked ≤ length new.asked) × (length old.asked < head.calls → length old.asked < length new.asked)
    × IsSure head task new.entries (outcome.Limit Calls)

-- The next batch was run, whichever requests were made of the dream before.
pub record RanNextBatch (head : Head) (task : Task) (entries : List dreams.SupposedEntry) (old new : State) (p later : Progress)
    (tried joined : List Instance) (was now : Option (List Event)) (b : Option Batch) : Type 0 where
  pub ran : (sent : List Sent) → IsProgress task old.entries p sent
      → RanNext head task p.real entries old new later tried joined sent b
  pub asks : Called head task old new was now b

-- the first entries of what would be the rest of the dream's batches, whichever these were
abbrev pub IsFrontOfNext : Head → Task → List dreams.SupposedEntry → Progress → List Entry → List Entry → Type 0
IsFrontOfNext head task entries p before es =
    (sent : List Sent) → IsProgress task before p sent → IsFrontOfBatches head task p.real entries sent before es

-- ---- all batches

-- All batches of a dream were run, nothing of which was asked before, as far as calls were left. What was asked joined
-- those that were tried, where no calls were wanting.
pub record RanBatches (head : Head) (task : Task) (real : ℕ) (entries : List dreams.SupposedEntry) (old new : State)
    (tried joined : List Instance) (b : Batch) : Type 0 where
  pub now : List Entry
  pub pushed : new.entries ≡ old.entries ++ now
  pub after : List Sent
  pub batches : AreBatches (limits_of head) task real entries [] old.entries now after (cut_by b)
  pub joins : b ≡ Done → joined ≡ tried ++ sent_instances after
  pub sure : b ≡ CallsSpent → IsSure head task new.entries (outcome.Limit Calls)

-- Entries came by the calls that came to the log. Where no request came no call was made.
pub record RunsOn (task : Task) (head : Head) (before after : List Entry) (was now : Option (List Event)) : Type 0 where
  pub runs : Runs task head before after was now
  pub still : asks_of after ≡ asks_of before → now ≡ was

-- a stretch of batches that entries came by so
abbrev pub OnBatches : {T : Type 0} → AtDesk → AtDesk → Stretch → (T → Type 0) → (List Entry → Type 0)
    → Result T RunFault → Type 0
OnBatches old new c What Front result =
    HasDone old.task old.head old new c RestsAt (RunsOn old.task old.head) (RunBreaks old.task old.head) What Front
    result

-- ---- behind a line

-- Batches may stand behind this entry, which is neither a request nor an answer nor a level; and a call is left.
pub record MayRunBehind (head : Head) (line : Entry) (s : State) : Type 0 where
  pub mark : is_mark line ≡ true
  pub opens : opens_requests head.mode line ≡ true
  pub left : length s.asked < head.calls

-- this entry, and behind it all batches of a dream
pub record AreBatchesBehind (head : Head) (task : Task) (real : ℕ) (entries : List dreams.SupposedEntry) (before : List Entry)
    (line : Entry) (now : List Entry) (after : List Sent) (cut : Bool) : Type 0 where
  pub rest : List Entry
  pub is : now ≡ line ∷ rest
  pub batches : AreBatches (limits_of head) task real entries [] (before ++ line ∷ []) rest after cut

-- the first entries of what would be that
abbrev pub IsFrontBehindLine : Head → Task → ℕ → List dreams.SupposedEntry → List Entry → Entry → List Entry → Type 0
IsFrontBehindLine head task real entries before line =
    IsFrontPart before (λ now. (after : List Sent) × (cut : Bool)
    × AreBatchesBehind head task real entries before line now after cut)

-- The entry was put behind the transcript, and all batches behind it, as far as calls were left.
pub record RanBehindLine (head : Head) (task : Task) (real : ℕ) (entries : List dreams.SupposedEntry) (line : Entry)
    (old new : State) (tried joined : List Instance) (b : Batch) : Type 0 where
  pub now : List Entry
  pub pushed : new.entries ≡ old.entries ++ now
  pub after : List Sent
  pub batches : AreBatchesBehind head task real entries old.entries line now after (cut_by b)
  pub joins : b ≡ Done → joined ≡ tried ++ sent_instances after
  pub sure : b ≡ CallsSpent → IsSure head task new.entries (outcome.Limit Calls)
