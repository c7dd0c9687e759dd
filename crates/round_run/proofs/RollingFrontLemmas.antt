-- Fronts of rounds and batches: what was written could have gone on.
use Rattle.std.proofs.Common.{◌≡◌, ℕ, suc, ◌+◌, ◌<◌, ◌≤◌, All, List, [], ◌∷◌, ◌++◌, map, length, take, drop, Some, slice_get, refl, sym, subst, ap, ◌∙◌, append_assoc, arith}
use Rattle.std.proofs.lemmas.List.Elements.{All-nil, All-cons}
use Rattle.std.proofs.lemmas.List.{append-nil, append_cancel_left, length-map, length-take-le}
use Rattle.lemmas.proofs.Numbers.{plus_zero}
use Rattle.instance_queue.specs.Level.{due_instances}
use Rattle.instance_queue.specs.declared.due.Due.{Due}
use Rattle.transcript_model.proofs.RoundsFrontLemmas.{batch_exists}
use Rattle.pools.specs.Pools.{Workers, workers_of}
use Rattle.session_core.specs.Ready.{IsNextRound}
use Rattle.session_core.specs.Session.{IsOf, IsSession}
use Rattle.session_core.specs.State.{State}
use Rattle.task_model.specs.declared.stream.Instance.{Instance}
use Rattle.task_model.specs.declared.task.Task.{Task}
use Rattle.transcript_model.proofs.LegalNumberLemmas.{asks_more}
use Rattle.transcript_model.proofs.RoundsLemmas.{requests_asks, answers_asks}
use Rattle.transcript_model.specs.Legal.{asks_of}
use Rattle.transcript_model.specs.Rounds.{AreRounds, AreRoundsRun, IsBatch, IsRound, Limits, Share, calls_left, limits_of, requests, share_of}
use Rattle.transcript_model.specs.declared.entry.Entry.{Entry}
use Rattle.transcript_model.specs.declared.head.Head.{Head}
use Rattle.transcript_model.specs.declared.head.Pool.{Pool}
use Rattle.round_run.proofs.BatchLemmas.{SoFar, batch_step}
use Rattle.round_run.specs.Rolling.{IsFrontPart}

-- ---- fronts

-- nothing of it is there yet
pub front_first : (before now : List Entry) (Whole : List Entry → Type 0) → Whole now
    → IsFrontPart before Whole before
front_first before now Whole w =
    record { part = []; rest = now; is = sym (append-nil before); whole = w }

-- all of it is there
pub front_whole : (before after now : List Entry) (Whole : List Entry → Type 0)
    → after ≡ before ++ now → Whole now
    → IsFrontPart before Whole after
front_whole before after now Whole pushed w =
    record { part = now; rest = []; is = pushed; whole = subst Whole (sym (append-nil now)) w }

-- ---- pools with workers

pub all_work : (pools : List Pool)
    → ((k : ℕ) (p : Workers) → slice_get (map workers_of pools) k ≡ Some p → 1 ≤ p.workers)
    → All (λ (p : Share). 1 ≤ p.workers) (map share_of pools)
all_work [] some = All-nil (λ (p : Share). 1 ≤ p.workers)
all_work (p ∷ ps) some =
    All-cons (λ (q : Share). 1 ≤ q.workers) (share_of p) (map share_of ps)
    (some 0 (workers_of p) refl) (all_work ps (λ k q at. some (suc k) q at))

-- ---- how many requests a round has

round_asks : (task : Task) (before now : List Entry) (round : List Instance)
    → IsRound task before round now
    → asks_of (before ++ now) ≡ asks_of before + length round
round_asks task before now round (answers, is, are) =
    asks_more before now ∙ ap (λ n. asks_of before + n)
    (ap asks_of is ∙ asks_more (requests task before round) answers
    ∙ (λ k. requests_asks task before (asks_of before + 1) round k + answers_asks (asks_of before + 1) (length round) answers are k)
    ∙ plus_zero (length round))

-- ---- batches

-- a batch begins with a request
batch_first : (limits : Limits) (task : Task) (before : List Entry) (list : List Instance) (e : Entry) (rest : List Entry)
    → IsBatch limits task before list (e ∷ rest) → asks_of (e ∷ []) ≡ 1
batch_first limits task before list e rest b = by b.rounds b.cut b.run
  where
    by : (rounds : List (List Instance)) → AreRounds limits.pools (take (calls_left limits before) list) rounds
        → AreRoundsRun task before rounds (e ∷ rest) → asks_of (e ∷ []) ≡ 1
    by [] cut run = absurd (cc)
    by ([] ∷ rounds) (more, parts, some, fit, full, later) run = absurd (omega (arith, some))
    by ((i ∷ is) ∷ rounds) cut (now, later, all, (answers, these, are), run) =
        let first : e ∷ rest ≡ (requests task before (i ∷ is) ++ answers) ++ later = all ∙ ap (λ es. es ++ later) these in
        ap (λ es. asks_of (take 1 es)) first

-- where some of it is there, a request is
pub front_asks_some : (head : Head) (task : Task) (before : List Entry) (list : List Instance) (more : List Entry)
    → IsFrontPart before (IsBatch (limits_of head) task before list) (before ++ more)
    → (e : Entry) × (rest : List Entry) × (more ≡ e ∷ rest) → 0 < asks_of (before ++ more)
front_asks_some head task before list more f (e, rest, is) =
    let part : more ≡ f.part = append_cancel_left before more f.part f.is in
    let whole : f.part ++ f.rest ≡ e ∷ (rest ++ f.rest) = ap (λ es. es ++ f.rest) (sym part ∙ is) in
    let first =
    batch_first (limits_of head) task before list e (rest ++ f.rest) (subst (IsBatch (limits_of head) task before list) whole f.whole) in
    omega (arith, first, asks_more before more, ap asks_of is, asks_more (e ∷ []) rest)

-- a front of a batch's next round is one of the batch
pub so_far_front : (head : Head) (task : Task) (first : List Entry) (list : List Instance) (s : State) (dues : List Due)
    (count : ℕ) (es : List Entry)
    → IsOf head s → IsSession task s → IsNextRound s dues count → 0 < count → All (λ (p : Share). 1 ≤ p.workers) (map share_of head.pools)
    → SoFar head task first list s.entries (due_instances dues)
    → IsFrontPart s.entries (IsRound task s.entries (due_instances (take count dues))) es
    → IsFrontPart first (IsBatch (limits_of head) task first list) es
so_far_front head task first list s dues count es of h n some work so f = record {
  part = so.more ++ f.part;
  rest = f.rest ++ tail.0;
  is = f.is ∙ ap (λ t. t ++ f.part) so.pushed ∙ append_assoc first so.more f.part;
  whole = subst (IsBatch (limits_of head) task first list) regrouped
      (so.with_rest (now ++ tail.0) (batch_step head task s dues count of h n now tail.0 some f.whole counted tail.1));
}
  where
    now : List Entry
    now = f.part ++ f.rest

    tail : (entries : List Entry) × IsBatch (limits_of head) task (s.entries ++ now) (due_instances (drop count dues)) entries
    tail =
        batch_exists (limits_of head) task (s.entries ++ now) (due_instances (drop count dues)) work

    counted : asks_of (s.entries ++ now) ≡ asks_of s.entries + count
    counted = round_asks task s.entries now (due_instances (take count dues)) f.whole
        ∙ ap (λ m. asks_of s.entries + m) (length-map (take count dues) (λ (d : Due). d.instance) ∙ length-take-le count dues n.within)

    regrouped : so.more ++ (now ++ tail.0) ≡ (so.more ++ f.part) ++ (f.rest ++ tail.0)
    regrouped = simp append_assoc
