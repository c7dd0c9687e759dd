-- Stretches of a run, one after another, from any entry on: the calls on children.
use Rattle.std.proofs.Common.{◌≡◌, ◌⊎◌, inl, inr, ℕ, zero, suc, ◌+◌, ◌<◌, arith, List, [], ◌++◌, Option, Some, None, refl, sym, subst, ap, ◌∙◌, append_assoc}
use Rattle.std.proofs.lemmas.List.{append-nil, append_cancel_left}
use Rattle.io_world.specs.Talks.{Event}
use Rattle.round_run.proofs.BreakingLemmas.{breaks_join}
use Rattle.round_run.proofs.BreakingRunLemmas.{none_after, some_after}
use Rattle.round_run.proofs.CallsLemmas.{follows_join}
use Rattle.round_run.proofs.CallsRunLemmas.{starts_first, starts_idle, unasked}
use Rattle.round_run.specs.Breaking.{Breaks, RunBreaks, Underway, Unstarted, WereStarts, starts_after}
use Rattle.round_run.specs.Calls.{Follows, LogRuns, Runs, starts_before}
use Rattle.round_run.specs.Dialogue.{workers_in}
use Rattle.round_run.specs.declared.fault.RunFault.{RunFault}
use Rattle.task_model.specs.declared.task.Task.{Task}
use Rattle.transcript_model.proofs.LegalNumberLemmas.{asks_more}
use Rattle.transcript_model.specs.Legal.{asks_of}
use Rattle.transcript_model.specs.declared.entry.Entry.{Entry}
use Rattle.transcript_model.specs.declared.head.Head.{Head}
use Rattle.transcript_model.specs.declared.head.Pool.{Pool}

-- ---- starts

none_or_some : (n : ℕ) → (n ≡ 0) ⊎ (0 < n)
none_or_some zero = inl refl
none_or_some (suc n) = inr (omega arith)

starts_some : (pools : List Pool) (before more : ℕ) → 0 < before → starts_before pools before more ≡ []
starts_some pools zero more some = absurd (omega (arith, some))
starts_some pools (suc before) more some = refl

module _ (pools : List Pool) (x k l : ℕ) where
  -- where something was asked all starts stand before
  starts_front : 0 < x + k → starts_before pools x k ≡ starts_before pools x (k + l)
  starts_front some = by (none_or_some x)
    where
      by : (x ≡ 0) ⊎ (0 < x) → starts_before pools x k ≡ starts_before pools x (k + l)
      by (inl none) =
          starts_first pools x k none (omega (arith, some, none))
          ∙ sym (starts_first pools x (k + l) none (omega (arith, some, none)))
      by (inr more) = starts_some pools x k more ∙ sym (starts_some pools x (k + l) more)

  -- and else all stand behind
  starts_back : x ≡ 0 → k ≡ 0 → starts_before pools (x + k) l ≡ starts_before pools x (k + l)
  starts_back none none_more =
      let left : x + k ≡ x = omega (arith, none_more) in
      let right : l ≡ k + l = omega (arith, none_more) in
      (λ i. starts_before pools (left i) (right i))

  starts_again : 0 < x + k → starts_before pools x k ≡ starts_after pools x
  starts_again some = by (none_or_some x)
    where
      by : (x ≡ 0) ⊎ (0 < x) → starts_before pools x k ≡ starts_after pools x
      by (inl none) = starts_first pools x k none (omega (arith, some, none)) ∙ sym (none_after pools x none)
      by (inr more) = starts_some pools x k more ∙ sym (some_after pools x more)

-- ---- calls

module _ (task : Task) (head : Head) (base first second : List Entry) where
  abbrev Followed : List Event → List Entry → List Entry → List Event → Type 0
  Followed = Follows task (workers_in head)

  -- something was asked before, or by the first
  some_first : (past es fs after : List Event) (one two all : List Event) → one ≡ all → two ≡ []
      → Followed (past ++ one) base first es → Followed (((past ++ one) ++ es) ++ two) (base ++ first) second fs
      → after ≡ (((past ++ one) ++ es) ++ two) ++ fs
      → (after ≡ (past ++ all) ++ (es ++ fs)) × Followed (past ++ all) base (first ++ second) (es ++ fs)
  some_first past es fs after one two all same none begins goes grown = (
    grown ∙ (λ i. (((past ++ same i) ++ es) ++ none i) ++ fs) ∙ ap (λ xs. xs ++ fs) (append-nil ((past ++ all) ++ es))
        ∙ append_assoc (past ++ all) es fs,
    follows_join task (workers_in head) (past ++ all) base first second es fs
        (subst (λ xs. Followed (past ++ xs) base first es) same begins)
        (subst (λ xs. Followed xs (base ++ first) second fs)
        ((λ i. ((past ++ same i) ++ es) ++ none i) ∙ append-nil ((past ++ all) ++ es)) goes),
  )

  -- nothing was asked before the second
  none_first : (past es fs after : List Event) (one two all : List Event) → asks_of base ≡ 0 → asks_of first ≡ 0 → one ≡ []
      → two ≡ all → Followed (past ++ one) base first es → Followed (((past ++ one) ++ es) ++ two) (base ++ first) second fs
      → after ≡ (((past ++ one) ++ es) ++ two) ++ fs
      → (after ≡ (past ++ all) ++ fs) × Followed (past ++ all) base (first ++ second) fs
  none_first past es fs after one two all none none_more empty same begins goes grown =
      let quiet = unasked task (workers_in head) (past ++ one) base first es none none_more begins in
      let front : ((past ++ one) ++ es) ++ two ≡ past ++ all =
      (λ i. ((past ++ empty i) ++ quiet.0 i) ++ same i)
      ∙ ap (λ xs. xs ++ all) (append-nil (past ++ []) ∙ append-nil past) in (
        grown ∙ ap (λ xs. xs ++ fs) front,
        follows_join task (workers_in head) (past ++ all) base first second [] fs (quiet.1 (past ++ all))
            (subst (λ xs. Followed xs (base ++ first) second fs) (front ∙ sym (append-nil (past ++ all))) goes),
      )

-- one stretch after another
pub runs_on : (task : Task) (head : Head) (base a b : List Entry) (old mid new : Option (List Event))
    → Runs task head base a old mid → Runs task head a b mid new → Runs task head base b old new
runs_on task head base a b old mid new first second = record {
  more = first.more ++ second.more;
  pushed = second.pushed ∙ ap (λ es. es ++ second.more) first.pushed ∙ append_assoc base first.more second.more;
  log = by mid new first.log (subst (λ es. LogRuns task head es second.more mid new) first.pushed second.log);
}
  where
    pools : List Pool
    pools = head.pools

    x : ℕ
    x = asks_of base

    k : ℕ
    k = asks_of first.more

    l : ℕ
    l = asks_of second.more

    mid_asks : asks_of (base ++ first.more) ≡ x + k
    mid_asks = asks_more base first.more

    all_asks : asks_of (first.more ++ second.more) ≡ k + l
    all_asks = asks_more first.more second.more

    one : List Event
    one = starts_before pools x k

    two : List Event
    two = starts_before pools (asks_of (base ++ first.more)) l

    all : List Event
    all = starts_before pools x (asks_of (first.more ++ second.more))

    all_is : starts_before pools x (k + l) ≡ all
    all_is = ap (starts_before pools x) (sym all_asks)

    two_is : two ≡ starts_before pools (x + k) l
    two_is = ap (λ n. starts_before pools n l) mid_asks

    by : (middle log : Option (List Event)) → LogRuns task head base first.more old middle
        → LogRuns task head (base ++ first.more) second.more middle log
        → LogRuns task head base (first.more ++ second.more) old log
    by middle None f s = tt
    by None (Some after) f (reached, fs, told, grown, goes) = absurd (cc)
    by (Some now) (Some after) (past, es, was, came, begins) (reached, fs, told, grown, goes) =
        let same : now ≡ reached = cc in
        let here : reached ≡ (past ++ one) ++ es = sym same ∙ came in
        of (none_or_some (x + k))
        (subst (λ xs. Follows task (workers_in head) (xs ++ two) (base ++ first.more) second.more fs) here goes)
        (grown ∙ ap (λ xs. (xs ++ two) ++ fs) here)
      where
        of : (x + k ≡ 0) ⊎ (0 < x + k)
            → Follows task (workers_in head) (((past ++ one) ++ es) ++ two) (base ++ first.more) second.more fs
            → after ≡ (((past ++ one) ++ es) ++ two) ++ fs → LogRuns task head base (first.more ++ second.more) old (Some after)
        of (inl none) g e =
            let r = none_first task head base first.more second.more past es fs after one two all (omega (arith, none))
            (omega (arith, none))
            (ap (starts_before pools x) (let none_more : k ≡ 0 = omega (arith, none) in none_more) ∙ starts_idle pools x)
            (two_is ∙ starts_back pools x k l (omega (arith, none)) (omega (arith, none)) ∙ all_is) begins g e in
            (past, fs, was, r.0, r.1)
        of (inr some) g e =
            let r = some_first task head base first.more second.more past es fs after one two all (starts_front pools x k l some ∙ all_is)
            (two_is ∙ starts_some pools (x + k) l some) begins g e in
            (past, es ++ fs, was, r.0, r.1)

-- ---- what broke off behind a stretch

pub breaks_on : (task : Task) (head : Head) (Front : List Entry → Type 0) (base a front : List Entry) (fault : RunFault)
    (old mid new : Option (List Event))
    → Runs task head base a old mid → a ≡ base ++ front → (more : List Entry) → RunBreaks task head a fault mid new Front more
    → RunBreaks task head base fault old new Front (front ++ more)
breaks_on task head Front base a front fault old mid new runs pushed more broken =
    by mid new
    (subst (λ es. LogRuns task head base es old mid) (append_cancel_left base runs.more front (sym runs.pushed ∙ pushed)) runs.log)
    (subst (λ es. RunBreaks task head es fault mid new Front more) pushed broken)
  where
    pools : List Pool
    pools = head.pools

    x : ℕ
    x = asks_of base

    k : ℕ
    k = asks_of front

    mid_asks : asks_of (base ++ front) ≡ x + k
    mid_asks = asks_more base front

    one : List Event
    one = starts_before pools x k

    by : (middle log : Option (List Event)) → LogRuns task head base front old middle
        → RunBreaks task head (base ++ front) fault middle log Front more
        → RunBreaks task head base fault old log Front (front ++ more)
    by middle None f b = tt
    by None (Some after) f (reached, events, told, grown, b) = absurd (cc)
    by (Some now) (Some after) (past, es, was, came, begins) (reached, events, told, grown, b) =
        let same : now ≡ reached = cc in
        of (none_or_some (x + k)) (sym same ∙ came) b
      where
        of : (x + k ≡ 0) ⊎ (0 < x + k) → reached ≡ (past ++ one) ++ es
            → Unstarted head (base ++ front) more fault events ⊎ Underway task head reached (base ++ front) more fault events Front
            → RunBreaks task head base fault old (Some after) Front (front ++ more)
        of (inl none) here broke = still broke
          where
            quiet : (es ≡ []) × ((p : List Event) → Follows task (workers_in head) p base front [])
            quiet = unasked task (workers_in head) (past ++ one) base front es (omega (arith, none)) (omega (arith, none)) begins

            no_start : one ≡ []
            no_start = ap (starts_before pools x) (let none_more : k ≡ 0 = omega (arith, none) in none_more) ∙ starts_idle pools x

            same_past : reached ≡ past
            same_past = here ∙ (λ i. (past ++ no_start i) ++ quiet.0 i) ∙ append-nil (past ++ []) ∙ append-nil past

            same_starts : starts_after pools (asks_of (base ++ front)) ≡ starts_after pools x
            same_starts = ap (starts_after pools) (let n : asks_of (base ++ front) ≡ x = omega (arith, mid_asks, none) in n)

            still : Unstarted head (base ++ front) more fault events ⊎ Underway task head reached (base ++ front) more fault events Front
                → RunBreaks task head base fault old (Some after) Front (front ++ more)
            still (inl u) = (
              past,
              events,
              was,
              grown ∙ ap (λ xs. xs ++ events) same_past,
              inl (record {
                first = omega (arith, none);
                none = omega (arith, none, u.none, asks_more front more);
                were = subst (λ es. WereStarts head es fault events) (append_assoc base front more) u.were;
              }),
            )
            still (inr u) = (
              past,
              events,
              was,
              grown ∙ ap (λ xs. xs ++ events) same_past,
              inr (record {
                later = u.later;
                cut = u.cut ∙ ap (λ xs. xs ++ u.later) same_starts;
                needed = λ failed. subst (λ es. 0 < asks_of es) (append_assoc base front more) (u.needed failed);
                breaks = breaks_join task head.version (workers_in head) Front (past ++ starts_after pools x) base front more []
                    u.later fault (quiet.1 (past ++ starts_after pools x))
                    (subst (λ p. Breaks task head.version (workers_in head) p (base ++ front) more fault u.later Front)
                    ((λ i. same_past i ++ same_starts i) ∙ sym (append-nil (past ++ starts_after pools x))) u.breaks);
              }),
            )
        of (inr some) here broke = on broke
          where
            started : one ≡ starts_after pools x
            started = starts_again pools x k 0 some

            no_start : starts_after pools (asks_of (base ++ front)) ≡ []
            no_start = some_after pools (asks_of (base ++ front)) (omega (arith, mid_asks, some))

            on : Unstarted head (base ++ front) more fault events ⊎ Underway task head reached (base ++ front) more fault events Front
                → RunBreaks task head base fault old (Some after) Front (front ++ more)
            on (inl u) = absurd (omega (arith, u.first, mid_asks, some))
            on (inr u) = (
              past,
              starts_after pools x ++ (es ++ u.later),
              was,
              grown ∙ (λ i. here i ++ (u.cut i)) ∙ (λ i. ((past ++ started i) ++ es) ++ (no_start i ++ u.later))
                  ∙ append_assoc (past ++ starts_after pools x) es u.later
                  ∙ append_assoc past (starts_after pools x) (es ++ u.later),
              inr (record {
                later = es ++ u.later;
                cut = refl;
                needed = λ failed. subst (λ es. 0 < asks_of es) (append_assoc base front more) (u.needed failed);
                breaks = breaks_join task head.version (workers_in head) Front (past ++ starts_after pools x) base front more es
                    u.later fault (subst (λ xs. Follows task (workers_in head) (past ++ xs) base front es) started begins)
                    (subst (λ p. Breaks task head.version (workers_in head) p (base ++ front) more fault u.later Front)
                    ((λ i. here i ++ no_start i) ∙ append-nil ((past ++ one) ++ es) ∙ ap (λ xs. (past ++ xs) ++ es) started) u.breaks);
              }),
            )
