-- The starts and the stops of a run.
use Rattle.std.proofs.Common.{◌≡◌, ℕ, zero, suc, ◌+◌, ◌<◌, List, [], ◌∷◌, ◌++◌, length, map, replicate, string_bytes, Option, Some, None, Ok, Err, refl, sym, ap, subst, ◌∙◌, arith, append_assoc, All, inl, inr}
use Rattle.std.specs.List.{find, flat_map}
use Rattle.std.proofs.lemmas.Bool.{cases_lt}
use Rattle.std.proofs.lemmas.List.Elements.{All-nil, All-head, All-tail, All-append, All-cons}
use Rattle.gen_lines.specs.Lines.{lines_of, unfinished}
use Rattle.io_world.proofs.LogsLemmas.{spelled-more}
use Rattle.io_world.specs.Talks.{Event, Talk, started, wrote, heard, stopped, silence, spelled}
use Rattle.io_world.specs.declared.host.HostFault.TheVariants.{Failed}
use Rattle.lemmas.specs.Lists.{numbers_from}
use Rattle.restart_host.proofs.UsesLemmas.{part_started, said_started, waiting_started, words_started}
use Rattle.restart_host.specs.Uses.{AreDone, IsEnding, child_in}
use Rattle.restart_runs.proofs.CallsLemmas.{AreSame, others_same}
use Rattle.restart_runs.proofs.StandsLemmas.{Stands}
use Rattle.restart_runs.specs.Again.{AreBegunAtLast, words_for}
use Rattle.restart_runs.proofs.WorkersLemmas.{IsWorkerIn}
use Rattle.round_run.proofs.StartsLemmas.{starts_more, starts_whole}
use Rattle.round_run.specs.Calls.{IsStop, has_child, start_at, start_in, starts_of}
use Rattle.task_model.specs.declared.task.Task.{Task}
use Rattle.transcript_model.specs.declared.head.Head.{Head}
use Rattle.transcript_model.specs.declared.head.Pool.{Pool}

-- ---- starts

abbrev pub IsOkStart : Event → Type 0
IsOkStart (started k words (Ok u)) = Unit {0}
IsOkStart (started k words (Err fault)) = ⊥
IsOkStart (wrote k p answer) = ⊥
IsOkStart (heard k room answer) = ⊥
IsOkStart (stopped k answer) = ⊥

start_ok : (child : ℕ) (pool : Option Pool) → All IsOkStart (start_in child pool)
start_ok child None = All-nil IsOkStart
start_ok child (Some pool) = All-cons IsOkStart (started child (map string_bytes pool.argv) (Ok tt)) [] tt (All-nil IsOkStart)

all_ok : (pools : List Pool) (numbers : List ℕ) → All IsOkStart (flat_map (start_at pools) numbers)
all_ok pools [] = All-nil IsOkStart
all_ok pools (n ∷ numbers) =
    All-append IsOkStart (start_at pools n) (flat_map (start_at pools) numbers) (start_ok n (find (has_child n) pools)) (all_ok pools numbers)

pub starts_ok : (pools : List Pool) → All IsOkStart (starts_of pools)
starts_ok pools = subst (All IsOkStart) (starts_whole pools 17 refl) (all_ok pools (numbers_from 0 17))

pub starts_begun : (starts calls past is : List Event) → All IsOkStart starts → AreDone calls past starts is → AreBegunAtLast starts is
starts_begun [] calls past is each done = done
starts_begun (started k words (Ok u) ∷ starts) calls past is each done =
    let n = done.3.0 in
    let e : Event = started k words (Ok u) in (
      n,
      done.1,
      done.2 ∙ ap (λ zs. zs ++ done.1) done.3.1 ∙ append_assoc (replicate n (started k words (Err Failed))) (e ∷ []) done.1,
      starts_begun starts (calls ++ e ∷ []) (past ++ done.0) done.1 (All-tail IsOkStart e starts each) done.4,
    )
starts_begun (started k words (Err fault) ∷ starts) calls past is each done = absurd (All-head IsOkStart _ _ each)
starts_begun (wrote k p answer ∷ starts) calls past is each done = absurd (All-head IsOkStart _ _ each)
starts_begun (heard k room answer ∷ starts) calls past is each done = absurd (All-head IsOkStart _ _ each)
starts_begun (stopped k answer ∷ starts) calls past is each done = absurd (All-head IsOkStart _ _ each)

-- ---- where each child stands once all are started

module _ (task : Task) (head : Head) (calls : List Event) where
  abbrev first : ℕ → List Event
  first n = flat_map (start_at head.pools) (numbers_from 0 n)

  just_started : (before : List Event) (c : ℕ) (pool : Pool) → find (has_child c) head.pools ≡ Some pool
      → Stands task head [] (before ++ start_at head.pools c) c
  just_started before c pool found =
      let words = map string_bytes pool.argv in
      let own : start_at head.pools c ≡ started c words (Ok tt) ∷ [] = ap (start_in c) found in
      subst (λ zs. Stands task head [] (before ++ zs) c) (sym own) (record {
        named = words_started c words before ∙ (let named : words ≡ words_for head.pools c = rw found refl in named);
        lines = ap (λ (t : Talk). length (lines_of t.heard))
            (spelled-more c silence before (started c words (Ok tt)) ∙ said_started c words (spelled c silence before));
        part = part_started c words before;
        waits = inl (waiting_started c words before, refl);
      })

  still_started : (c : ℕ) (before later : List Event) → AreSame c before later → Stands task head [] before c
      → Stands task head [] later c
  still_started c before later same stands = record {
    named = same.words ∙ stands.named;
    lines = ap (λ (t : Talk). length (lines_of t.heard)) same.said ∙ stands.lines;
    part = ap (λ (t : Talk). unfinished t.heard) same.said ∙ stands.part;
    waits = elim stands.waits [
      | inl idle ↦ inl (same.waits ∙ idle.0, idle.1)
      | inr due ↦ absurd (cc (due.at))
    ];
  }

  in_start : (n : ℕ) (pool : Option Pool) → All (λ e. child_in e ≡ n) (start_in n pool)
  in_start n None = All-nil (λ e. child_in e ≡ n)
  in_start n (Some pool) =
      All-cons (λ e. child_in e ≡ n) (started n (map string_bytes pool.argv) (Ok tt)) [] refl (All-nil (λ e. child_in e ≡ n))

  stand_upto : (n c : ℕ) → c < n → IsWorkerIn head c → Stands task head [] (calls ++ first n) c
  stand_upto zero c below worker = absurd (omega (arith, below))
  stand_upto (suc n) c below worker =
      let one : suc n ≡ n + 1 = omega arith in
      let grew : first (suc n) ≡ first n ++ start_at head.pools n = ap first one ∙ starts_more head.pools n in
      let joined : calls ++ first (suc n) ≡ (calls ++ first n) ++ start_at head.pools n =
      ap (λ zs. calls ++ zs) grew ∙ sym (append_assoc calls (first n) (start_at head.pools n)) in
      subst (λ zs. Stands task head [] zs c) (sym joined) (elim (cases_lt c n) [
        | inl less ↦
            still_started c (calls ++ first n) ((calls ++ first n) ++ start_at head.pools n)
            (others_same c n (calls ++ first n) (start_at head.pools n) (in_start n (find (has_child n) head.pools))
            (λ same. absurd (omega (arith, less, same))))
            (stand_upto n c less worker)
        | inr most ↦
            let same : c ≡ n = omega (arith, below, most) in
            subst (λ m. Stands task head [] ((calls ++ first n) ++ start_at head.pools m) c) same
            (just_started (calls ++ first n) c worker.pool worker.found)
      ])

  pub all_stand : (c : ℕ) → IsWorkerIn head c → Stands task head [] (calls ++ starts_of head.pools) c
  all_stand c worker =
      subst (λ zs. Stands task head [] (calls ++ zs) c) (starts_whole head.pools 17 refl)
      (stand_upto 17 c worker.low worker)

-- ---- stops

pub stops_done : (stops calls past is : List Event) → All IsStop stops → AreDone calls past stops is → All IsStop is
stops_done [] calls past is each done = subst (All IsStop) (sym done) (All-nil IsStop)
stops_done (stopped k answer ∷ stops) calls past is each done =
    let rest = stops_done stops (calls ++ stopped k answer ∷ []) (past ++ done.0) done.1 (All-tail IsStop _ _ each) done.4 in
    subst (All IsStop) (sym done.2) (All-append IsStop done.0 done.1 (ending k done.0 done.3.1) rest)
  where
    ending : (child : ℕ) (events : List Event) → IsEnding child events → All IsStop events
    ending child events is = elim is [
      | inl none ↦ subst (All IsStop) (sym none) (All-nil IsStop)
      | inr one ↦ subst (All IsStop) (sym one.1) (All-cons IsStop (stopped child one.0) [] tt (All-nil IsStop))
    ]
stops_done (started k words answer ∷ stops) calls past is each done = absurd (All-head IsStop _ _ each)
stops_done (wrote k p answer ∷ stops) calls past is each done = absurd (All-head IsStop _ _ each)
stops_done (heard k room answer ∷ stops) calls past is each done = absurd (All-head IsStop _ _ each)
