-- Starts, and the calls of a whole run.
use Rattle.std.proofs.Common.{◌≡◌, true, ℕ, zero, suc, ◌+◌, ◌<◌, ◌≤◌, arith, List, [], ◌∷◌, ◌++◌, length, take, map, string_bytes, Option, Some, None, Ok, Err, refl, sym, subst, ap, ◌∙◌, append_assoc, slice_get, Result}
use Rattle.std.specs.List.{find, flat_map}
use Rattle.std.proofs.Math.Seq.{take-append-add}
use Rattle.std.proofs.lemmas.List.{append-nil, take-append-le}
use Rattle.std.proofs.lemmas.List.Elements.{All-append}
use Rattle.std.proofs.lemmas.Option.{slice_get_within}
use Rattle.lemmas.proofs.Members.{get_append}
use Rattle.lemmas.proofs.ListTests.{all_one}
use Rattle.lemmas.specs.Lists.{numbers_from}
use Rattle.io_world.specs.Faults.{Extends}
use Rattle.io_world.specs.Talks.{Event, started, stopped, Logs}
use Rattle.io_world.specs.declared.host.HostFault.{HostFault}
use Rattle.io_world.proofs.TalksLemmas.{extends_more, extends_none}
use Rattle.lemmas.proofs.Counts.{count_joined, count_one}
use Rattle.task_model.specs.declared.task.Task.{Task}
use Rattle.transcript_model.specs.Legal.{asks_of, is_ask, is_mark}
use Rattle.transcript_model.specs.declared.entry.Entry.{Entry}
use Rattle.transcript_model.specs.declared.entry.Entry.TheVariants as entry
use Rattle.transcript_model.specs.declared.head.Head.{Head}
use Rattle.transcript_model.specs.declared.head.Pool.{Pool}
use Rattle.pools.specs.Pools.{Workers}
use Rattle.transcript_model.proofs.LegalStepLemmas.{mark_no_ask}
use Rattle.round_run.proofs.DialogueMarkLemmas.{asks_behind, calls_marked}
use Rattle.round_run.proofs.StartsLemmas.{starts_cut, starts_more}
use Rattle.round_run.proofs.TalkingLemmas.{none_asked}
use Rattle.round_run.specs.Calls.{AreCallsOf, AddsCalls, Follows, Hearing, IsStop, LogRuns, LogStartsPart, LogStops, Runs, has_child, start_at, start_in, starts_before, starts_of}
use Rattle.round_run.specs.Dialogue.{replies_of, workers_in}
use Rattle.round_run.specs.Rolling.{IsHostFault}
use Rattle.round_run.specs.Batches.{EndsBatch}
use Rattle.round_run.specs.declared.ending.Batch.{Batch}
use Rattle.round_run.specs.declared.ending.Batch.TheVariants.{Done, CallsSpent}
use Rattle.round_run.specs.declared.fault.RunFault.{RunFault}
use Rattle.transcript_model.proofs.LegalNumberLemmas.{asks_marked}

-- ---- the starts of all children

get_behind : {A : Type 0} (xs ys : List A) (n : ℕ)
    → slice_get (xs ++ ys) (length xs + n) ≡ slice_get ys n
get_behind [] ys n = ap (slice_get ys) (let e : 0 + n ≡ n = omega arith in e)
get_behind (x ∷ xs) ys n =
    ap (slice_get (x ∷ (xs ++ ys))) (let e : suc (length xs) + n ≡ suc (length xs + n) = omega arith in e) ∙ get_behind xs ys n

-- a start was refused, behind these
pub part_behind : (front starts rest all : List Event) (fault : RunFault) (old mid new : Option (List Event))
    → all ≡ front ++ (starts ++ rest) → Extends old mid front → LogStartsPart starts fault mid new → LogStartsPart all fault old new
part_behind front starts rest all fault old mid new whole first (n, child, words, cause, at, is, grows) = (
  length front + n,
  child,
  words,
  cause,
  ap (λ es. slice_get es (length front + n)) whole ∙ get_behind front (starts ++ rest) n
      ∙ get_append starts rest n (started child words (Ok tt)) at,
  is,
  subst (Extends old new) (sym both) (extends_more old mid new front (take n starts ++ started child words (Err cause) ∷ []) first grows),
)
  where
    both : take (length front + n) all ++ started child words (Err cause) ∷ []
        ≡ front ++ (take n starts ++ started child words (Err cause) ∷ [])
    both =
        ap (λ es. take (length front + n) es ++ started child words (Err cause) ∷ []) whole
        ∙ ap (λ es. es ++ started child words (Err cause) ∷ [])
        (take-append-add front (starts ++ rest) n
        ∙ ap (λ es. front ++ es)
        (take-append-le n starts rest (omega (arith, slice_get_within starts n (started child words (Ok tt)) at))))
        ∙ append_assoc front (take n starts) (started child words (Err cause) ∷ [])

part_first : (child : ℕ) (words : List (List ℕ)) (cause : HostFault) (fault : RunFault) (rest : List Event) (mid new : Option (List Event))
    → IsHostFault cause fault → Logs mid new (started child words (Err cause))
    → LogStartsPart (started child words (Ok tt) ∷ rest) fault mid new
part_first child words cause fault rest mid new is log = (0, child, words, cause, refl, is, log)

-- one child more was started, or no pool has it
pub child_started : (pools : List Pool) (child : ℕ) (old mid new : Option (List Event))
    → Extends old mid (flat_map (start_at pools) (numbers_from 0 child))
    → Extends mid new (start_at pools child)
    → Extends old new (flat_map (start_at pools) (numbers_from 0 (child + 1)))
child_started pools child old mid new before log =
    subst (Extends old new) (sym (starts_more pools child))
    (extends_more old mid new (flat_map (start_at pools) (numbers_from 0 child)) (start_at pools child) before log)

-- the next child's start was refused
pub child_refused : (pools : List Pool) (child : ℕ) (pool : Pool) (fault : RunFault) (old mid new : Option (List Event))
    → child < 17 → find (has_child child) pools ≡ Some pool
    → Extends old mid (flat_map (start_at pools) (numbers_from 0 child))
    → (cause : HostFault) × IsHostFault cause fault
    × Logs mid new (started child (map string_bytes pool.argv) (Err cause))
    → LogStartsPart (starts_of pools) fault old new
child_refused pools child pool fault old mid new below found before (cause, is, log) =
    let words = map string_bytes pool.argv in
    let cut = starts_cut pools child below in
    part_behind (flat_map (start_at pools) (numbers_from 0 child)) (start_at pools child) cut.0
    (starts_of pools) fault old mid new cut.1 before
    (subst (λ o. LogStartsPart (start_in child o) fault mid new) (sym found)
    (part_first child words cause fault [] mid new is log))

-- ---- before a batch

pub starts_idle : (pools : List Pool) (before : ℕ) → starts_before pools before 0 ≡ []
starts_idle pools zero = refl
starts_idle pools (suc before) = refl

pub starts_first : (pools : List Pool) (before more : ℕ) → before ≡ 0 → 0 < more
    → starts_before pools before more ≡ starts_of pools
starts_first pools zero zero first some = absurd (omega (arith, some))
starts_first pools zero (suc more) first some = refl
starts_first pools (suc before) more first some = absurd (omega (arith, first))

same_starts : (pools : List Pool) (before many more : ℕ) → (before ≡ 0 → many ≡ 0 → more ≡ 0)
    → (before ≡ 0 → 0 < many → 0 < more)
    → starts_before pools before many ≡ starts_before pools before more
same_starts pools zero zero more none some = sym (ap (starts_before pools 0) (none refl refl))
same_starts pools zero (suc many) more none some =
    sym (starts_first pools 0 more refl (some refl (omega arith)))
same_starts pools (suc before) many more none some = refl

-- ---- the calls of batches

runs_from : (task : Task) (head : Head) (before : List Entry) (more : List Entry) (starts : List Event) (old mid new : Option (List Event))
    → starts ≡ starts_before head.pools (asks_of before) (asks_of more) → Extends old mid starts
    → Rattle.round_run.specs.Calls.LogFollows task (workers_in head) before more mid new → LogRuns task head before more old new
runs_from task head before more starts old mid None is first second = tt
runs_from task head before more starts old None (Some after) is first (later, events, was, grown, follows) =
    absurd (cc)
runs_from task head before more starts old (Some middle) (Some after) is (past, was, came) (later, events, told, grown, follows) =
    let same : middle ≡ later = cc in
    let reached : later ≡ past ++ starts_before head.pools (asks_of before) (asks_of more) = sym same ∙ came ∙ ap (λ es. past ++ es) is in (
      past,
      events,
      was,
      grown ∙ ap (λ es. es ++ events) reached,
      subst (λ es. Follows task (workers_in head) es before more events) reached follows,
    )

-- a batch: its starts, and then its rounds
pub batch_runs : (task : Task) (head : Head) (before after : List Entry) (asked asks many : ℕ)
    (b : Batch) (old mid new : Option (List Event))
    → asked ≡ asks_of before → asks ≡ asks_of after → 1 ≤ head.calls → EndsBatch task after asked asks head.calls many b
    → Extends old mid (starts_before head.pools asked many) → AddsCalls task (workers_in head) before after mid new
    → Runs task head before after old new
batch_runs task head before after asked asks many b old mid new counted of_after some ends first calls =
    record {
      more = calls.more;
      pushed = calls.pushed;
      log = runs_from task head before calls.more (starts_before head.pools asked many) old mid new starts first calls.log;
    }
  where
    grown : asks ≡ asked + asks_of calls.more
    grown =
        of_after ∙ ap asks_of calls.pushed ∙ count_joined is_ask before calls.more
        ∙ ap (λ n. n + asks_of calls.more) (sym counted)

    none : (c : Batch) → EndsBatch task after asked asks head.calls many c → asked ≡ 0 → many ≡ 0
        → asks_of calls.more ≡ 0
    none Done e is zero_many = omega (arith, e.0, grown, is, zero_many)
    none CallsSpent e is zero_many = absurd (omega (arith, e.1, some, is, zero_many))

    filled : (c : Batch) → EndsBatch task after asked asks head.calls many c → asked ≡ 0 → 0 < many
        → 0 < asks_of calls.more
    filled Done e is more = omega (arith, e.0, grown, is, more)
    filled CallsSpent e is more = omega (arith, e.0, grown, is, some)

    starts : starts_before head.pools asked many ≡ starts_before head.pools (asks_of before) (asks_of calls.more)
    starts =
        same_starts head.pools asked many (asks_of calls.more) (none b ends) (filled b ends)
        ∙ ap (λ n. starts_before head.pools n (asks_of calls.more)) counted

-- ---- marks

-- a mark needs no call
pub runs_marked : (task : Task) (head : Head) (e : Entry) → is_mark e ≡ true → (before mid after : List Entry)
    (old new : Option (List Event))
    → mid ≡ before ++ e ∷ [] → Runs task head mid after old new → Runs task head before after old new
runs_marked task head e mark before mid after old new marked runs = record {
  more = e ∷ runs.more;
  pushed = runs.pushed ∙ ap (λ es. es ++ runs.more) marked ∙ append_assoc before (e ∷ []) runs.more;
  log = by new (subst (λ es. LogRuns task head es runs.more old new) marked runs.log);
}
  where
    starts : starts_before head.pools (asks_of (before ++ e ∷ [])) (asks_of runs.more)
        ≡ starts_before head.pools (asks_of before) (asks_of (e ∷ runs.more))
    starts =
        ap (λ n. starts_before head.pools n (asks_of runs.more)) (asks_marked before e (mark_no_ask e mark))
        ∙ ap (starts_before head.pools (asks_of before)) (sym (asks_behind e runs.more mark))

    by : (log : Option (List Event))
        → LogRuns task head (before ++ e ∷ []) runs.more old log
        → LogRuns task head before (e ∷ runs.more) old log
    by None l = tt
    by (Some now) (past, events, was, came, follows) =
        subst (λ es. (p : List Event) × (later : List Event) × (old ≡ Some p) × (now ≡ p ++ es ++ later)
        × Follows task (workers_in head) (p ++ es) before (e ∷ runs.more) later) starts (
          past,
          events,
          was,
          came,
          (
            [],
            events,
            refl,
            calls_marked task (workers_in head) e mark
                (past ++ starts_before head.pools (asks_of (before ++ e ∷ [])) (asks_of runs.more)) before,
            subst (λ es. Follows task (workers_in head) es (before ++ e ∷ []) runs.more events)
                (sym (append-nil (past ++ starts_before head.pools (asks_of (before ++ e ∷ [])) (asks_of runs.more)))) follows,
          ),
        )

-- no entry came
pub runs_still : (task : Task) (head : Head) (before : List Entry) (log : Option (List Event))
    → Runs task head before before log log
runs_still task head before log = record { more = []; pushed = sym (append-nil before); log = by log }
  where
    still : (es : List Event) → es ≡ es ++ starts_before head.pools (asks_of before) 0 ++ []
    still es = sym (ap (λ xs. es ++ xs ++ []) (starts_idle head.pools (asks_of before)) ∙ append-nil (es ++ []) ∙ append-nil es)

    by : (o : Option (List Event)) → LogRuns task head before [] o o
    by None = tt
    by (Some events) = (events, [], refl, still events, refl)

-- a mark alone
pub runs_mark : (task : Task) (head : Head) (e : Entry) → is_mark e ≡ true → (before after : List Entry)
    (log : Option (List Event))
    → after ≡ before ++ e ∷ [] → Runs task head before after log log
runs_mark task head e mark before after log marked =
    runs_marked task head e mark before after after log log marked (runs_still task head after log)

-- the empty transcript
pub runs_none : (task : Task) (head : Head) (before : List Entry) (log : Option (List Event))
    → before ≡ []
    → Runs task head [] before log log
runs_none task head before log is = subst (λ es. Runs task head [] es log log) (sym is) (runs_still task head [] log)

-- entries without a request need no call
pub unasked : (task : Task) (pools : List Workers) (past : List Event) (before es : List Entry) (events : List Event)
    → asks_of before ≡ 0
    → asks_of es ≡ 0 → Follows task pools past before es events → (events ≡ []) × ((p : List Event) → Follows task pools p before es [])
unasked task pools past before [] events none no_more follows = (follows, λ p. refl)
unasked task pools past before (e ∷ es) events none no_more (now, later, cut, calls, follows) =
    let quiet = of e one calls in
    let rest = unasked task pools (past ++ now) (before ++ e ∷ []) es later longer less follows in (
      cut ∙ ap (λ xs. xs ++ later) quiet.0 ∙ rest.0,
      λ p. ([], [], refl, quiet.1 p, rest.1 (p ++ [])),
    )
  where
    one : asks_of (e ∷ []) ≡ 0
    one = omega (arith, no_more, count_joined is_ask (e ∷ []) es)

    less : asks_of es ≡ 0
    less = omega (arith, no_more, count_joined is_ask (e ∷ []) es)

    longer : asks_of (before ++ e ∷ []) ≡ 0
    longer = omega (arith, none, one, count_joined is_ask before (e ∷ []))

    no_hearing : Hearing task pools past before now → ⊥
    no_hearing h =
        absurd (let bad : None ≡ Some h.request =
        ap (λ rs. slice_get rs (length (replies_of before))) (sym (none_asked task 0 pools before none)) ∙ h.next in
        cc)

    of : (x : Entry) → asks_of (x ∷ []) ≡ 0 → AreCallsOf task pools past before x now
        → (now ≡ []) × ((p : List Event) → AreCallsOf task pools p before x [])
    of (entry.Ask number turn call) free h =
        absurd (omega (arith, free, count_one is_ask (entry.Ask number turn call)))
    of (entry.Got number tuples values) free h = absurd (no_hearing h)
    of (entry.Value number value) free h = absurd (no_hearing h)
    of (entry.End number) free h = absurd (no_hearing h)
    of x free h = (h, λ p. refl)

-- ---- stops

pub stops_none : (log : Option (List Event)) → LogStops log log
stops_none log = ([], λ k d below. absurd (omega (arith, below)), extends_none log)

pub stops_more : (child : ℕ) (answer : Result (Unit {0}) HostFault) (old mid new : Option (List Event))
    → LogStops old mid
    → Logs mid new (stopped child answer) → LogStops old new
stops_more child answer old mid new (stops, each, grows) log = (
  stops ++ stopped child answer ∷ [],
  All-append IsStop stops (stopped child answer ∷ []) each (all_one IsStop (stopped child answer) tt),
  extends_more old mid new stops (stopped child answer ∷ []) grows log,
)
