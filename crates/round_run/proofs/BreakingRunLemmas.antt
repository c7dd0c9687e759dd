-- The calls of a run that stops: with its starts.
use Rattle.std.proofs.Common.{◌≡◌, true, ℕ, zero, suc, ◌<◌, arith, List, [], ◌∷◌, ◌++◌, take, Option, Some, None, Err, refl, sym, subst, ap, ◌∙◌, append_assoc, inl, inr, ◌⊎◌}
use Rattle.std.proofs.lemmas.List.{append-nil, append_cancel_left}
use Rattle.io_world.specs.Faults.{Extends}
use Rattle.io_world.specs.Talks.{Event, started}
use Rattle.task_model.specs.declared.task.Task.{Task}
use Rattle.transcript_model.specs.Legal.{HasNoneOpen, IsLegal, asks_of, is_mark}
use Rattle.transcript_model.specs.declared.entry.Entry.{Entry}
use Rattle.transcript_model.specs.declared.entry.Entry.TheVariants as entry
use Rattle.transcript_model.specs.declared.head.Head.{Head}
use Rattle.transcript_model.specs.declared.head.Pool.{Pool}
use Rattle.transcript_model.proofs.LegalStepLemmas.{mark_no_ask}
use Rattle.round_run.proofs.BreakingLemmas.{breaks_join, breaks_wider, tells_map, tells_of}
use Rattle.round_run.proofs.DialogueMarkLemmas.{asks_behind, follows_marked, mark_waits}
use Rattle.std.proofs.lemmas.List.Elements.{All-append}
use Rattle.io_world.proofs.TalksLemmas.{extends_more}
use Rattle.round_run.specs.Breaking.{Breaks, LogBreaks, LogBroken, RunBreaks, Tells, Underway, Unstarted, WereStarts, starts_after}
use Rattle.round_run.specs.Calls.{Follows, IsStop, LogStartsPart, LogStops, starts_before, starts_of}
use Rattle.round_run.specs.Dialogue.{workers_in}
use Rattle.round_run.specs.declared.fault.RunFault.{RunFault}
use Rattle.round_run.specs.declared.fault.RunFault.TheVariants.{Write}
use Rattle.transcript_model.proofs.LegalNumberLemmas.{asks_marked, asks_more}

-- the starts that came before a batch of some asks
pub same_after : (pools : List Pool) (asked many : ℕ) → 0 < many
    → starts_before pools asked many ≡ starts_after pools asked
same_after pools zero zero some = absurd (omega (arith, some))
same_after pools zero (suc many) some = refl
same_after pools (suc asked) many some = refl

pub some_after : (pools : List Pool) (asked : ℕ) → 0 < asked → starts_after pools asked ≡ []
some_after pools zero some = absurd (omega (arith, some))
some_after pools (suc asked) some = refl

pub none_after : (pools : List Pool) (asked : ℕ) → asked ≡ 0
    → starts_after pools asked ≡ starts_of pools
none_after pools zero none = refl
none_after pools (suc asked) none = absurd (omega (arith, none))

-- ---- batches

-- a start was refused
pub start_refused : (task : Task) (head : Head) (Front : List Entry → Type 0) (before : List Entry) (fault : RunFault)
    (old new : Option (List Event))
    → asks_of before ≡ 0 → LogStartsPart (starts_of head.pools) fault old new → RunBreaks task head before fault old new Front []
start_refused task head Front before fault old None first log = tt
start_refused task head Front before fault old (Some after) first (n, child, words, cause, at, is, (past, was, came)) = (
  past,
  take n (starts_of head.pools) ++ started child words (Err cause) ∷ [],
  was,
  came,
  inl (record {
    first = first;
    none = refl;
    were = inr (
      n,
      child,
      words,
      cause,
      at,
      refl,
      tells_of (HasNoneOpen (before ++ [])) cause fault (started child words (Err cause)) is refl,
    );
  }),
)

-- all workers run, and the rounds broke off
pub rounds_broken : (task : Task) (head : Head) (Front : List Entry → Type 0) (before : List Entry) (starts : List Event)
    (fault : RunFault) (old mid new : Option (List Event))
    → starts ≡ starts_after head.pools (asks_of before) → Extends old mid starts → (more : List Entry)
    → (fault ≡ Write → 0 < asks_of (before ++ more))
    → LogBreaks task head.version (workers_in head) before fault mid new Front more
    → RunBreaks task head before fault old new Front more
rounds_broken task head Front before starts fault old mid None is first more needed broken = tt
rounds_broken task head Front before starts fault old None (Some after) is first more needed (reached, events, was, came, b) =
    absurd (cc)
rounds_broken task head Front before starts fault old (Some now) (Some after) is (past, was, came) more needed
    (reached, events, told, grown, b) =
    let both : now ≡ reached = cc in
    let here : reached ≡ past ++ starts_after head.pools (asks_of before) = sym both ∙ came ∙ ap (λ es. past ++ es) is in (
      past,
      starts_after head.pools (asks_of before) ++ events,
      was,
      grown ∙ ap (λ es. es ++ events) here ∙ append_assoc past (starts_after head.pools (asks_of before)) events,
      inr (record {
        later = events;
        cut = refl;
        needed = needed;
        breaks = subst (λ p. Breaks task head.version (workers_in head) p before more fault events Front) here b;
      }),
    )

-- ---- marks

-- a mark opens no request
none_marked : (e : Entry) → is_mark e ≡ true → (before more : List Entry) → (more ≡ []) ⊎ (more ≡ e ∷ [])
    → HasNoneOpen before → HasNoneOpen (before ++ more)
none_marked e mark before more (inl is) none =
    subst (λ es. HasNoneOpen (before ++ es)) (sym is) (subst HasNoneOpen (sym (append-nil before)) none)
none_marked e mark before more (inr is) none =
    subst (λ es. HasNoneOpen (before ++ es)) (sym is) (λ n. mark_waits before e mark n ∙ none n)

-- no call was made
pub quiet_breaks : (task : Task) (head : Head) (Front : List Entry → Type 0) (e : Entry) → is_mark e ≡ true
    → (before : List Entry) (fault : RunFault) (log : Option (List Event))
    → Tells (HasNoneOpen before) fault [] → (more : List Entry) → (more ≡ []) ⊎ (more ≡ e ∷ [])
    → RunBreaks task head before fault log log Front more
quiet_breaks task head Front e mark before fault None tells more is = tt
quiet_breaks task head Front e mark before fault (Some log) tells more is =
    (log, [], refl, sym (append-nil log), by (asks_of before) refl)
  where
    still : Tells (HasNoneOpen (before ++ more)) fault []
    still = tells_map (HasNoneOpen before) (HasNoneOpen (before ++ more)) fault [] (none_marked e mark before more is) tells

    none : (es : List Entry) → (es ≡ []) ⊎ (es ≡ e ∷ []) → asks_of es ≡ 0
    none es (inl same) = ap asks_of same
    none es (inr same) = ap asks_of same ∙ asks_behind e [] mark

    follows : (past : List Event) (es : List Entry) → (es ≡ []) ⊎ (es ≡ e ∷ [])
        → Follows task (workers_in head) past before es []
    follows past es (inl same) =
        subst (λ xs. Follows task (workers_in head) past before xs []) (sym same) refl
    follows past es (inr same) =
        subst (λ xs. Follows task (workers_in head) past before xs []) (sym same)
        (follows_marked task (workers_in head) e mark past before)

    by : (n : ℕ) → asks_of before ≡ n
        → Unstarted head before more fault [] ⊎ Underway task head log before more fault [] Front
    by zero none_asked = inl (record { first = none_asked; none = none more is; were = inl (refl, still) })
    by (suc n) some =
        let no : starts_after head.pools (asks_of before) ≡ [] = some_after head.pools (asks_of before) (omega (arith, some)) in
        inr (record {
          later = [];
          cut = sym (append-nil (starts_after head.pools (asks_of before)) ∙ no);
          needed = λ failed. omega (arith, some, asks_more before more);
          breaks = record {
            done = [];
            calls = [];
            refused = [];
            cut = refl;
            follows = follows (log ++ starts_after head.pools (asks_of before)) more is;
            begun = inl (refl, refl);
            told = still;
          };
        })

-- the same where no entry came
pub still_breaks : (task : Task) (head : Head) (Front : List Entry → Type 0) (before : List Entry) (fault : RunFault)
    (log : Option (List Event))
    → Tells (HasNoneOpen before) fault [] → RunBreaks task head before fault log log Front []
still_breaks task head Front before fault log tells =
    quiet_breaks task head Front entry.Level refl before fault log tells [] (inl refl)

-- a mark stands before
pub marked_breaks : (task : Task) (head : Head) (Front : List Entry → Type 0) (e : Entry) → is_mark e ≡ true
    → (before mid front : List Entry) (fault : RunFault) (old new : Option (List Event))
    → mid ≡ before ++ e ∷ [] → mid ≡ before ++ front → (more : List Entry) → RunBreaks task head mid fault old new Front more
    → RunBreaks task head before fault old new Front (front ++ more)
marked_breaks task head Front e mark before mid front fault old new marked pushed more broken =
    subst (λ xs. RunBreaks task head before fault old new Front (xs ++ more)) same
    (by new (subst (λ es. RunBreaks task head es fault old new Front more) marked broken))
  where
    same : e ∷ [] ≡ front
    same = append_cancel_left before (e ∷ []) front (sym marked ∙ pushed)

    starts : starts_after head.pools (asks_of (before ++ e ∷ [])) ≡ starts_after head.pools (asks_of before)
    starts = ap (starts_after head.pools) (asks_marked before e (mark_no_ask e mark))

    joined : (past later : List Event)
        → Breaks task head.version (workers_in head) past (before ++ e ∷ []) more fault later Front
        → Breaks task head.version (workers_in head) past before (e ∷ more) fault later Front
    joined past later b =
        breaks_join task head.version (workers_in head) Front past before
        (e ∷ []) more [] later fault (follows_marked task (workers_in head) e mark past before)
        (subst (λ p. Breaks task head.version (workers_in head) p (before ++ e ∷ []) more fault later Front)
        (sym (append-nil past)) b)

    told : (events : List Event)
        → WereStarts head ((before ++ e ∷ []) ++ more) fault events
        → WereStarts head (before ++ e ∷ more) fault events
    told events were = subst (λ es. WereStarts head es fault events) (append_assoc before (e ∷ []) more) were

    by : (log : Option (List Event))
        → RunBreaks task head (before ++ e ∷ []) fault old log Front more
        → RunBreaks task head before fault old log Front (e ∷ more)
    by None x = tt
    by (Some after) (past, events, was, came, inl u) = (
      past,
      events,
      was,
      came,
      inl (record {
        first = sym (asks_marked before e (mark_no_ask e mark)) ∙ u.first;
        none = asks_behind e more mark ∙ u.none;
        were = told events u.were;
      }),
    )
    by (Some after) (past, events, was, came, inr u) = (
      past,
      events,
      was,
      came,
      inr (record {
        later = u.later;
        cut = u.cut ∙ ap (λ es. es ++ u.later) starts;
        needed = λ failed. subst (λ es. 0 < asks_of es) (append_assoc before (e ∷ []) more) (u.needed failed);
        breaks = joined (past ++ starts_after head.pools (asks_of before)) u.later
            (subst (λ es. Breaks task head.version (workers_in head) (past ++ es) (before ++ e ∷ []) more fault u.later Front)
            starts u.breaks);
      }),
    )

-- the front of one is the front of another
pub run_breaks_as : (task : Task) (head : Head) (Other Front : List Entry → Type 0)
    → ((es : List Entry) → IsLegal head.version task es → Other es → Front es)
    → (before : List Entry) (fault : RunFault) (old new : Option (List Event)) (more : List Entry)
    → RunBreaks task head before fault old new Other more → RunBreaks task head before fault old new Front more
run_breaks_as task head Other Front wider before fault old None more b = tt
run_breaks_as task head Other Front wider before fault old (Some after) more (past, events, was, came, inl u) =
    (past, events, was, came, inl u)
run_breaks_as task head Other Front wider before fault old (Some after) more (past, events, was, came, inr u) = (
  past,
  events,
  was,
  came,
  inr (record {
    later = u.later;
    cut = u.cut;
    needed = u.needed;
    breaks = breaks_wider task head.version (workers_in head) Other Front wider
        (past ++ starts_after head.pools (asks_of before)) before more fault u.later u.breaks;
  }),
)

-- ---- with stops

pub broken_of : (task : Task) (head : Head) (Front : List Entry → Type 0) (entries : List Entry) (fault : RunFault)
    (old new : Option (List Event))
    → RunBreaks task head [] fault old new Front entries → LogBroken task head Front entries fault old new
broken_of task head Front entries fault old None b = tt
broken_of task head Front entries fault old (Some after) b =
    (after, [], sym (append-nil after), λ k d below. absurd (omega (arith, below)), b)

pub broken_more : (task : Task) (head : Head) (Front : List Entry → Type 0) (entries : List Entry) (fault : RunFault)
    (old mid new : Option (List Event))
    → LogBroken task head Front entries fault old mid → LogStops mid new → LogBroken task head Front entries fault old new
broken_more task head Front entries fault old mid None b stops = tt
broken_more task head Front entries fault old None (Some after) b (more, each, (before, is, grown)) =
    absurd (cc)
broken_more task head Front entries fault old (Some now) (Some after) (events, stops, cut, all, b) (more, each, (before, is, grown)) =
    let same : now ≡ before = cc in (
      events,
      stops ++ more,
      grown ∙ ap (λ es. es ++ more) (sym same ∙ cut) ∙ append_assoc events stops more,
      All-append IsStop stops more all each,
      b,
    )

pub stops_then_stops : (old mid new : Option (List Event)) → LogStops old mid → LogStops mid new
    → LogStops old new
stops_then_stops old mid new (first, all, grown) (second, each, grows) =
    (first ++ second, All-append IsStop first second all each, extends_more old mid new first second grown grows)
