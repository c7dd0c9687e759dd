-- Batches, one round more at a time.
use Rattle.std.proofs.Common.{◌≡◌, ◌==◌, eqb-true, true, false, ℕ, zero, suc, ◌+◌, ◌-◌, ◌<◌, arith, List, [], ◌∷◌, ◌++◌, map, length, take, drop, refl, sym, subst, ap, ◌∙◌, append_assoc, inl, inr}
use Rattle.std.proofs.lemmas.Bool.{cases_lt}
use Rattle.std.proofs.Math.Seq.{take-add}
use Rattle.std.proofs.lemmas.List.{append-nil, take-map, drop-take, length-take, length-map, drop-map}
use Rattle.std.proofs.lemmas.Simd.{map-map}
use Rattle.lemmas.proofs.Ascending.{contains_here}
use Rattle.instance_queue.specs.Level.{due_instances}
use Rattle.instance_queue.specs.declared.due.Due.{Due}
use Rattle.pools.specs.Pools as pools
use Rattle.pools.specs.Pools.{shares_of, workers_of}
use Rattle.session_core.specs.Ready.{AreReady, IsNextRound, session_calls_left}
use Rattle.session_core.specs.Session.{IsOf, IsSession}
use Rattle.session_core.specs.State.{State}
use Rattle.task_model.specs.Streams.{IsDue}
use Rattle.task_model.specs.declared.stream.Instance.{Instance}
use Rattle.task_model.specs.declared.task.Task.{Task}
use Rattle.transcript_model.specs.Legal.{asks_of}
use Rattle.transcript_model.specs.Rounds as rounds
use Rattle.transcript_model.specs.Rounds.{IsBatch, IsRound, AreRounds, IsFull, fits, limits_of, share_of}
use Rattle.transcript_model.specs.Transcript.{known_of, notes_of}
use Rattle.transcript_model.specs.declared.entry.Entry.{Entry}
use Rattle.transcript_model.specs.declared.head.Head.{Head}

less : (a b c : ℕ) → a - (b + c) ≡ a - b - c
less a b c = omega arith

-- the pools of the head, as a session has them
pools_same : (head : Head) (s : State) → IsOf head s
    → shares_of s.pools ≡ map share_of head.pools
pools_same head s of =
    ap shares_of of.pools ∙ map-map pools.share_of_workers workers_of head.pools

pub batch_none : (head : Head) (task : Task) (before : List Entry) (list : List Instance)
    → take (rounds.calls_left (limits_of head) before) list ≡ [] → IsBatch (limits_of head) task before list []
batch_none head task before list e = record { rounds = []; cut = e; run = refl }

module _ (head : Head) (task : Task) (s : State) (dues : List Due) (count : ℕ) (of : IsOf head s)
    (h : IsSession task s) (n : IsNextRound s dues count) where
  abbrev left : ℕ
  left = head.calls - asks_of s.entries

  left_is : session_calls_left s ≡ left
  left_is = λ i. of.calls i - h.counted i

  whole : left ≡ count + (left - count)
  whole = omega (arith, sym left_is, n.left)

  list_is : take left (due_instances dues) ≡ due_instances (take count dues) ++ take (left - count) (due_instances (drop count dues))
  list_is =
      ap (λ m. take m (due_instances dues)) whole ∙ take-add count (left - count) (due_instances dues)
      ∙ (λ i. take-map (λ (d : Due). d.instance) count dues i ++ take (left - count) (drop-map (λ (d : Due). d.instance) count dues i))

  rest_is : due_instances (drop count (take (session_calls_left s) dues)) ≡ take (left - count) (due_instances (drop count dues))
  rest_is =
      ap (λ m. due_instances (drop count (take m dues))) (left_is ∙ whole)
      ∙ ap due_instances (drop-take count (left - count) dues)
      ∙ sym (take-map (λ (d : Due). d.instance) (left - count) (drop count dues))

  pub batch_step : (now rest : List Entry) → 0 < count
      → IsRound task s.entries (due_instances (take count dues)) now
      → asks_of (s.entries ++ now) ≡ asks_of s.entries + count
      → IsBatch (limits_of head) task (s.entries ++ now) (due_instances (drop count dues)) rest
      → IsBatch (limits_of head) task s.entries (due_instances dues) (now ++ rest)
  batch_step now rest some round counted b = record {
    rounds = due_instances (take count dues) ∷ b.rounds;
    cut = (
      take (left - count) (due_instances (drop count dues)),
      list_is,
      omega (arith, some, n.within, length-map (take count dues) (λ (d : Due). d.instance), length-take count dues),
      subst (λ ps. fits ps (due_instances (take count dues)) ≡ true) (pools_same head s of) n.fit,
      subst (IsFull (map share_of head.pools) (due_instances (take count dues))) rest_is
          (subst (λ ps. IsFull ps (due_instances (take count dues)) (due_instances (drop count (take (session_calls_left s) dues))))
          (pools_same head s of) n.full),
      subst (λ m. AreRounds (map share_of head.pools) (take m (due_instances (drop count dues))) b.rounds) left_after b.cut,
    );
    run = (now, rest, refl, round, b.run);
  }
    where
      left_after : head.calls - asks_of (s.entries ++ now) ≡ left - count
      left_after = ap (λ m. head.calls - m) counted ∙ less head.calls (asks_of s.entries) count

-- The batch so far: with whatever makes a batch of what is left it makes one of the whole list.
pub record SoFar (head : Head) (task : Task) (first : List Entry) (list : List Instance) (now : List Entry)
    (left : List Instance) : Type 0 where
  pub more : List Entry
  pub pushed : now ≡ first ++ more
  pub with_rest : (tail : List Entry) → IsBatch (limits_of head) task now left tail
      → IsBatch (limits_of head) task first list (more ++ tail)

pub so_far_none : (head : Head) (task : Task) (first : List Entry) (list : List Instance)
    → SoFar head task first list first list
so_far_none head task first list =
    record { more = []; pushed = sym (append-nil first); with_rest = λ tail b. b }

pub so_far_step : (head : Head) (task : Task) (first : List Entry) (list : List Instance) (s : State) (dues : List Due)
    (count : ℕ) (after : List Entry)
    → IsOf head s → IsSession task s → IsNextRound s dues count → 0 < count
    → (round : (now : List Entry) × (after ≡ s.entries ++ now) × IsRound task s.entries (due_instances (take count dues)) now)
    → asks_of after ≡ asks_of s.entries + count → SoFar head task first list s.entries (due_instances dues)
    → SoFar head task first list after (due_instances (drop count dues))
so_far_step head task first list s dues count after of h n some round counted so = record {
  more = so.more ++ round.0;
  pushed = round.1 ∙ ap (λ es. es ++ round.0) so.pushed ∙ append_assoc first so.more round.0;
  with_rest = λ tail b.
      subst (IsBatch (limits_of head) task first list) (sym (append_assoc so.more round.0 tail))
      (so.with_rest (round.0 ++ tail) (batch_step head task s dues count of h n round.0 tail some round.2
      (ap asks_of (sym round.1) ∙ counted)
      (subst (λ es. IsBatch (limits_of head) task es (due_instances (drop count dues)) tail) round.1 b)));
}

pub so_far_end : (head : Head) (task : Task) (first : List Entry) (list : List Instance) (now : List Entry) (left : List Instance)
    → take (rounds.calls_left (limits_of head) now) left ≡ [] → SoFar head task first list now left
    → (more : List Entry) × (now ≡ first ++ more) × IsBatch (limits_of head) task first list more
so_far_end head task first list now left none so = (
  so.more,
  so.pushed,
  subst (IsBatch (limits_of head) task first list) (append-nil so.more) (so.with_rest [] (batch_none head task now left none)),
)

-- ---- where a batch ends

pub none_of_none : (head : Head) (before : List Entry) (dues : List Due) → dues ≡ []
    → take (rounds.calls_left (limits_of head) before) (due_instances dues) ≡ []
none_of_none head before dues none =
    ap (λ ds. take (rounds.calls_left (limits_of head) before) (due_instances ds)) none
    ∙ take_none (rounds.calls_left (limits_of head) before)
  where
    take_none : (n : ℕ) → take n (due_instances []) ≡ []
    take_none zero = refl
    take_none (suc n) = refl

-- where no ask makes a round, the calls are spent
pub spent : (head : Head) (task : Task) (s : State) (dues : List Due) (count : ℕ) → IsOf head s
    → IsSession task s
    → IsNextRound s dues count → (0 < length dues → length s.asked < s.calls → 0 < count) → 0 < length dues → count ≡ 0
    → length s.asked ≡ head.calls
spent head task s dues count of h n some there none = elim (cases_lt (length s.asked) s.calls) [
  | inl less ↦ absurd (omega (arith, some there less, none))
  | inr more ↦ omega (arith, more, n.left, of.calls, none)
]

pub none_left : (head : Head) (task : Task) (s : State) (list : List Instance) → IsSession task s
    → length s.asked ≡ head.calls
    → take (rounds.calls_left (limits_of head) s.entries) list ≡ []
none_left head task s list h all = ap (λ n. take n list) (let e : head.calls - asks_of s.entries ≡ 0 = omega (arith, h.counted, all) in e)

-- ---- the list of what is due

pub empty_of : {A : Type 0} (xs : List A) → (length xs == 0) ≡ true → xs ≡ []
empty_of [] e = refl
empty_of (x ∷ xs) e = absurd (omega (arith, eqb-true (length (x ∷ xs)) 0 e))

pub filled_of : {A : Type 0} (xs : List A) → (length xs == 0) ≡ false → 0 < length xs
filled_of [] e = absurd (cc)
filled_of (x ∷ xs) e = omega arith

-- something is due where the list isn't empty
pub first_of : (task : Task) (entries : List Entry) (dues : List Due) → AreReady task entries dues
    → 0 < length dues
    → (i : Instance) × IsDue task (known_of task entries) (notes_of task entries) i
first_of task entries [] ready some = absurd (omega (arith, some))
first_of task entries (d ∷ ds) ready some =
    (d.instance, ready.due d.instance (contains_here d.instance (due_instances ds)))
