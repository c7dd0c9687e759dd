-- How many calls of a run failed: one, where a generator is at fault, and else none, unless memory was wanting.
use Rattle.std.proofs.Common.{◌≡◌, ◌⊎◌, ℕ, zero, suc, ◌+◌, ◌≤◌, arith, true, false, cond, drop, map, string_bytes, take, List, [], ◌∷◌, ◌++◌, append_assoc, Option, Some, None, Result, Ok, Err, IfErr, IfOk, IsErrOf, refl, sym, subst, ap, ◌∙◌, inl, inr}
use Rattle.std.specs.List.{find, flat_map}
use Rattle.io_world.specs.Talks.{Event, IsGiven, IsTaken, LogGrows, Talk, heard, started, stopped, wrote}
use Rattle.io_world.specs.declared.host.HostFault.{HostFault}
use Rattle.io_world.specs.declared.host.HostFault.TheVariants as host
use Rattle.lemmas.proofs.Counts.{count_front, count_joined, count_one}
use Rattle.lemmas.specs.Lists.{numbers_from}
use Rattle.restart_host.proofs.TriesLemmas.{given_done, none_failed, taken_done}
use Rattle.restart_host.specs.Tries.{failures, has_failed, is_failed}
use Rattle.pools.specs.Pools.{Workers, child_for}
use Rattle.round_run.proofs.StartsLemmas.{starts_whole}
use Rattle.round_run.specs.Breaking.{IsBegun, LogBroken, Tells, Underway, Unstarted, WereStarts, refusal, starts_after}
use Rattle.round_run.specs.Calls.{AreCallsOf, Follows, IsStop, LogRan, answers_by, has_child, lines_read, start_at, start_in, starts_before, starts_of}
use Rattle.round_run.specs.Dialogue.{called_stream, last_round, text_of_request, workers_in}
use Rattle.round_run.specs.declared.fault.RunFault.{RunFault}
use Rattle.round_run.specs.declared.fault.RunFault.TheVariants.{Answer, Generator, Memory, Write}
use Rattle.task_model.specs.declared.task.Task.{Task}
use Rattle.transcript_model.specs.Legal.{asks_of}
use Rattle.transcript_model.specs.declared.entry.Entry.{Entry}
use Rattle.transcript_model.specs.declared.entry.Entry.TheVariants as entry
use Rattle.transcript_model.specs.declared.head.Head.{Head}
use Rattle.transcript_model.specs.declared.head.Pool.{Pool}
use Rattle.turn_run.specs.Reports.{IsBroken, IsReported, WasToWrite}
use Rattle.turn_run.specs.Turns.{IsFrontOfRun}
use Rattle.turn_run.specs.declared.whole_run.Ran.{Ran}

-- ---- lists of calls

joined : (xs ys : List Event) (m n : ℕ) → failures xs ≡ m → failures ys ≡ n → failures (xs ++ ys) ≡ m + n
joined xs ys m n first second =
    count_joined has_failed xs ys ∙ ap (λ k. k + failures ys) first ∙ ap (λ k. m + k) second

quiet_joined : (xs ys : List Event) → failures xs ≡ 0 → failures ys ≡ 0 → failures (xs ++ ys) ≡ 0
quiet_joined xs ys first second = joined xs ys 0 0 first second

one_failed : (e : Event) → has_failed e ≡ true → failures (e ∷ []) ≡ 1
one_failed e bad = count_one has_failed e ∙ ap (λ b. cond {A = ℕ} b 1 0) bad

stop_quiet : (e : Event) → IsStop e → has_failed e ≡ false
stop_quiet (started k words answer) is = absurd is
stop_quiet (wrote k bytes answer) is = absurd is
stop_quiet (heard k room answer) is = absurd is
stop_quiet (stopped k answer) is = refl

-- ---- starts that were done

start_quiet : (child : ℕ) (pool : Option Pool) → failures (start_in child pool) ≡ 0
start_quiet child None = refl
start_quiet child (Some pool) = count_one has_failed (started child (map string_bytes pool.argv) (Ok tt))

all_quiet : (pools : List Pool) (numbers : List ℕ) → failures (flat_map (start_at pools) numbers) ≡ 0
all_quiet pools [] = refl
all_quiet pools (n ∷ numbers) =
    quiet_joined (start_at pools n) (flat_map (start_at pools) numbers) (start_quiet n (find (has_child n) pools))
    (all_quiet pools numbers)

starts_quiet : (pools : List Pool) → failures (starts_of pools) ≡ 0
starts_quiet pools = subst (λ es. failures es ≡ 0) (starts_whole pools 17 refl) (all_quiet pools (numbers_from 0 17))

front_quiet : (pools : List Pool) (n : ℕ) → failures (take n (starts_of pools)) ≡ 0
front_quiet pools n =
    let most = count_front has_failed (starts_of pools) n in
    let all = starts_quiet pools in
    omega (arith, most, all)

before_quiet : (pools : List Pool) (asks : ℕ) → failures (starts_before pools 0 asks) ≡ 0
before_quiet pools zero = refl
before_quiet pools (suc more) = starts_quiet pools

after_quiet : (pools : List Pool) (asked : ℕ) → failures (starts_after pools asked) ≡ 0
after_quiet pools zero = starts_quiet pools
after_quiet pools (suc asked) = refl

-- ---- the calls of entries

module _ (task : Task) (pools : List Workers) where
  calls_quiet : (past : List Event) (before : List Entry) (e : Entry) (events : List Event)
      → AreCallsOf task pools past before e events → failures events ≡ 0
  calls_quiet past before (entry.Ask number turn call) events calls =
      let child : ℕ = child_for pools (last_round task [] before) (called_stream task call) in
      none_failed (IsTaken child) (taken_done child) events calls.each
  calls_quiet past before (entry.Got number tuples values) events calls =
      none_failed (IsGiven calls.request.child) (given_done calls.request.child) events calls.reads.each
  calls_quiet past before (entry.Value number value) events calls =
      none_failed (IsGiven calls.request.child) (given_done calls.request.child) events calls.reads.each
  calls_quiet past before (entry.End number) events calls =
      none_failed (IsGiven calls.request.child) (given_done calls.request.child) events calls.reads.each
  calls_quiet past before e events calls = ap failures calls

  follows_quiet : (past : List Event) (before es : List Entry) (events : List Event)
      → Follows task pools past before es events → failures events ≡ 0
  follows_quiet past before [] events follows = ap failures follows
  follows_quiet past before (e ∷ es) events follows =
      ap failures follows.2
      ∙ quiet_joined follows.0 follows.1 (calls_quiet past before e follows.0 follows.3)
      (follows_quiet (past ++ follows.0) (before ++ e ∷ []) es follows.1 follows.4)

-- ---- a call that was refused

-- it failed, where it was refused so
failed_so : (T : Type 0) (cause : HostFault) → Some cause ≡ Some host.Failed
    → is_failed (let r : Result T HostFault = Err cause in r) ≡ true
failed_so T host.Failed is = refl
failed_so T host.Memory is = absurd (cc)

-- an event that is alone in a list is the one that was told
alone : (e f : Event) (refused : List Event) → refused ≡ e ∷ [] → refused ≡ f ∷ [] → f ≡ e
alone e f refused one two = let both : f ∷ [] ≡ e ∷ [] = sym two ∙ one in cc

wrote_failed : (child : ℕ) (bytes : List ℕ) (cause : HostFault) (e : Event) → wrote child bytes (Err cause) ≡ e
    → refusal e ≡ Some host.Failed → has_failed e ≡ true
wrote_failed child bytes cause e same told =
    subst (λ x. has_failed x ≡ true) same (failed_so ℕ cause (ap refusal same ∙ told))

heard_failed : (child room : ℕ) (cause : HostFault) (e : Event) → heard child room (Err cause) ≡ e
    → refusal e ≡ Some host.Failed → has_failed e ≡ true
heard_failed child room cause e same told =
    subst (λ x. has_failed x ≡ true) same (failed_so (List ℕ) cause (ap refusal same ∙ told))

module _ (task : Task) (version : ℕ) (pools : List Workers) (past : List Event) (before : List Entry)
    (calls refused : List Event) (Front : List Entry → Type 0) (e : Event) (one : refused ≡ e ∷ [])
    (told : refusal e ≡ Some host.Failed) where
  never : (P : Type 0) → refused ≡ [] → P
  never P empty = absurd (let is : e ∷ [] ≡ [] = sym one ∙ empty in cc)

  -- the call of one entry more that was refused
  begun_failed : IsBegun task version pools past before Generator calls refused Front → has_failed e ≡ true
  begun_failed (inl nothing) = never (has_failed e ≡ true) nothing.1
  begun_failed (inr (inl (may, w))) = of w.last
    where
      of : (refused ≡ [])
          ⊎ ((cause : HostFault) × (refused ≡ wrote w.request.child (drop w.count (text_of_request w.request)) (Err cause) ∷ []))
          → has_failed e ≡ true
      of (inl empty) = never (has_failed e ≡ true) empty
      of (inr (cause, is)) = wrote_failed w.request.child (drop w.count (text_of_request w.request)) cause e
          (alone e (wrote w.request.child (drop w.count (text_of_request w.request)) (Err cause)) refused one is) told
  begun_failed (inr (inr (may, l))) = of l.last
    where
      of : (refused ≡ [])
          ⊎ ((cause : HostFault) × (room : ℕ) × (refused ≡ heard l.request.child room (Err cause) ∷ [])
          × (lines_read l.request.child (past ++ calls) ≤ answers_by task pools before l.request.child))
          → has_failed e ≡ true
      of (inl empty) = never (has_failed e ≡ true) empty
      of (inr (cause, room, is, few)) = heard_failed l.request.child room cause e
          (alone e (heard l.request.child room (Err cause)) refused one is) told

-- how many calls of a run failed that ends with this fault, or so, unless memory was wanting
abbrev pub failures_by : RunFault → ℕ
failures_by Generator = 1
failures_by fault = 0

abbrev pub failures_in : {T : Type 0} → Result T RunFault → ℕ
failures_in (Ok value) = 0
failures_in (Err fault) = failures_by fault

module _ (task : Task) (version : ℕ) (pools : List Workers) (past : List Event) (before : List Entry)
    (calls refused : List Event) (Front : List Entry → Type 0) where
  -- the calls of one entry more that were done
  begun_quiet : (fault : RunFault) → IsBegun task version pools past before fault calls refused Front → failures calls ≡ 0
  begun_quiet fault (inl nothing) = ap failures nothing.0
  begun_quiet fault (inr (inl (may, w))) =
      none_failed (IsTaken w.request.child) (taken_done w.request.child) calls w.taken.each
  begun_quiet fault (inr (inr (may, l))) =
      none_failed (IsGiven l.request.child) (given_done l.request.child) calls l.reads.each

  -- and the one that was refused, if one was
  refused_by : (Free : Type 0) (fault : RunFault) → ¬ (fault ≡ Memory) → Tells Free fault refused
      → IsBegun task version pools past before fault calls refused Front → failures refused ≡ failures_by fault
  refused_by Free Generator some told begun =
      ap failures told.1
      ∙ one_failed told.0 (begun_failed task version pools past before calls refused Front told.0 told.1 told.2 begun)
  refused_by Free Write some told begun = ap failures told
  refused_by Free (Answer number why) some told begun = ap failures told
  refused_by Free Memory some told begun = absurd (some refl)

-- ---- whole logs

-- So many of the calls failed that came to a log that is told.
pub record HasFailed (old new : Option (List Event)) (count : ℕ) : Type 0 where
  pub events : List Event
  pub log : LogGrows old new events
  pub failed : failures events ≡ count

module _ (task : Task) (head : Head) where
  ran_failed : (entries : List Entry) (old new : Option (List Event)) → LogRan task head entries old new → HasFailed old new 0
  ran_failed entries old None ran = record { events = []; log = tt; failed = refl }
  ran_failed entries old (Some after) (past, events, stops, told, is, follows, all) =
      let starts : List Event = starts_before head.pools 0 (asks_of entries) in
      record {
        events = starts ++ (events ++ stops);
        log = (past, told, is ∙ append_assoc (past ++ starts) events stops ∙ append_assoc past starts (events ++ stops));
        failed = quiet_joined starts (events ++ stops) (before_quiet head.pools (asks_of entries))
            (quiet_joined events stops
            (follows_quiet task (workers_in head) (past ++ starts) [] entries events follows)
            (none_failed IsStop stop_quiet stops all));
      }

  -- before the first request
  were_failed : (fault : RunFault) → ¬ (fault ≡ Memory) → (entries : List Entry) (events : List Event)
      → WereStarts head entries fault events → failures events ≡ failures_by fault
  were_failed Generator some entries events (inl (none, told)) = absurd (let is : [] ≡ told.0 ∷ [] = told.1 in cc)
  were_failed Generator some entries events (inr (n, child, words, cause, at, is, told)) =
      let same = alone told.0 (started child words (Err cause)) (started child words (Err cause) ∷ []) told.1 refl in
      ap failures is
      ∙ joined (take n (starts_of head.pools)) (started child words (Err cause) ∷ []) 0 1 (front_quiet head.pools n)
      (one_failed (started child words (Err cause)) (failed_so (Unit {0}) cause (ap refusal same ∙ told.2)))
  were_failed Write some entries events (inl (none, told)) = ap failures none
  were_failed Write some entries events (inr (n, child, words, cause, at, is, told)) = absurd (cc (told))
  were_failed (Answer number why) some entries events (inl (none, told)) = ap failures none
  were_failed (Answer number why) some entries events (inr (n, child, words, cause, at, is, told)) = absurd (cc (told))
  were_failed Memory some entries events were = absurd (some refl)

  module _ (Front : List Entry → Type 0) (fault : RunFault) (some : ¬ (fault ≡ Memory)) where
    -- behind it
    underway_failed : (past : List Event) (before more : List Entry) (events : List Event)
        → Underway task head past before more fault events Front → failures events ≡ failures_by fault
    underway_failed past before more events u =
        let b = u.breaks in
        let starts : List Event = starts_after head.pools (asks_of before) in
        let quiet : failures (b.done ++ b.calls) ≡ 0 =
        quiet_joined b.done b.calls (follows_quiet task (workers_in head) (past ++ starts) before more b.done b.follows)
        (begun_quiet task head.version (workers_in head) ((past ++ starts) ++ b.done) (before ++ more) b.calls b.refused Front fault
        b.begun) in
        let refused : failures b.refused ≡ failures_by fault =
        refused_by task head.version (workers_in head) ((past ++ starts) ++ b.done) (before ++ more) b.calls b.refused Front _ fault
        some b.told b.begun in
        let later : failures u.later ≡ 0 + failures_by fault =
        ap failures b.cut ∙ joined (b.done ++ b.calls) b.refused 0 (failures_by fault) quiet refused in
        let all : failures events ≡ 0 + failures u.later =
        ap failures u.cut ∙ joined starts u.later 0 (failures u.later) (after_quiet head.pools (asks_of before)) refl in
        omega (arith, all, later)

    log_failed : (entries : List Entry) (old new : Option (List Event)) → LogBroken task head Front entries fault old new
        → HasFailed old new (failures_by fault)
    log_failed entries old None broken = untold fault
      where
        untold : (f : RunFault) → HasFailed old None (failures_by f)
        untold Generator = record {
          events = started 0 [] (Err host.Failed) ∷ [];
          log = tt;
          failed = one_failed (started 0 [] (Err host.Failed)) refl;
        }
        untold Write = record { events = []; log = tt; failed = refl }
        untold Memory = record { events = []; log = tt; failed = refl }
        untold (Answer number why) = record { events = []; log = tt; failed = refl }
    log_failed entries old (Some after) (events, stops, is, all, (past, done, told, cut, parts)) =
        let count = joined done stops (failures_by fault) 0 (of parts) (none_failed IsStop stop_quiet stops all) in
        record {
          events = done ++ stops;
          log = (past, told, is ∙ ap (λ es. es ++ stops) cut ∙ append_assoc past done stops);
          failed = omega (arith, count);
        }
      where
        of : Unstarted head [] entries fault done ⊎ Underway task head past [] entries fault done Front
            → failures done ≡ failures_by fault
        of (inl u) = were_failed fault some ([] ++ entries) done u.were
        of (inr u) = underway_failed past [] entries done u

  -- a run that broke off
  broken_failed : (spoken : ℕ → Option Talk) (was now : Option (List Event)) (old new : Option (List ℕ)) (fault : RunFault)
      → ¬ (fault ≡ Memory) → IsBroken task head spoken was now old new fault → HasFailed was now (failures_by fault)
  broken_failed spoken was now old new fault some b = of b.form
    where
      of : WasToWrite task head fault spoken was now b.text → HasFailed was now (failures_by fault)
      of (inl x) = absurd (some x.0)
      of (inr (inl p)) = log_failed (IsFrontOfRun head task) fault some p.entries was now p.calls
      of (inr (inr (is, whole))) =
          subst (λ f. HasFailed was now (failures_by f)) (sym is) (ran_failed whole.entries was now whole.calls)

  pub run_failed : (spoken : ℕ → Option Talk) (was now : Option (List Event)) (old new : Option (List ℕ))
      (r : Result Ran RunFault) → ¬ (IsErrOf r Memory) → IfOk r (IsReported task head spoken was now old new)
      → IfErr r (IsBroken task head spoken was now old new) → HasFailed was now (failures_in r)
  run_failed spoken was now old new (Ok ran) some reported broken = ran_failed reported.entries was now reported.calls
  run_failed spoken was now old new (Err fault) some reported broken =
      broken_failed spoken was now old new fault (λ is. some (ap Err is)) broken
