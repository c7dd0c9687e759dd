-- The next round of a list of asks.
use Rattle.std.proofs.Common.{◌≡◌, ℕ, zero, suc, ◌≤◌, ◌∙◌, List, [], ◌∷◌, length, take, drop, min, refl, sym, ap, subst, arith, take_all}
use Rattle.std.proofs.Math.Seq.{take-take}
use Rattle.std.proofs.lemmas.List.{length-map, length-take, take-map, drop-map}
use Rattle.instance_queue.specs.Level.{due_instances}
use Rattle.instance_queue.specs.declared.due.Due.{Due}
use Rattle.pools.specs.Pools.{IsLongestFront, shares_of}
use Rattle.task_model.specs.declared.stream.Instance.{Instance}
use Rattle.transcript_model.specs.Rounds.{IsFull, fits}
use Rattle.session_core.specs.Ready.{IsNextRound, session_calls_left}
use Rattle.session_core.specs.State.{State}

-- the round of those for which calls are left
pub next_is : (s : State) (dues : List Due) (most count : ℕ) → length s.asked ≤ s.calls
    → most ≡ min (length dues) (session_calls_left s)
    → IsLongestFront (shares_of s.pools) (due_instances (take most dues)) count → IsNextRound s dues count
next_is s dues most count few is longest =
    let name = λ (d : Due). d.instance in
    let pools = shares_of s.pools in
    let least : most ≤ length dues = omega (arith, is) in
    let left : most ≤ session_calls_left s = omega (arith, is) in
    let within : count ≤ most =
    omega (arith, longest.within, length-map (take most dues) name, length-take most dues) in
    let front : take count (due_instances (take most dues)) ≡ due_instances (take count dues) =
    take-map name count (take most dues) ∙ ap due_instances (take-take count most dues within) in
    let behind : drop count (due_instances (take most dues)) ≡ due_instances (drop count (take (session_calls_left s) dues)) =
    drop-map name count (take most dues)
    ∙ ap (λ (us : List Due). due_instances (drop count us)) (as_far dues most (session_calls_left s) is) in
    record {
      within = omega (arith, within, least);
      left = omega (arith, within, left, few);
      fit = ap (fits pools) (sym front) ∙ longest.fit;
      full = subst (IsFull pools (due_instances (take count dues))) behind
          (subst (λ (xs : List Instance). IsFull pools xs (drop count (due_instances (take most dues)))) front longest.full);
    }
  where
    as_far : {A : Type 0} (xs : List A) (n left : ℕ) → n ≡ min (length xs) left
        → take n xs ≡ take left xs
    as_far [] n zero e = take_all n [] (omega arith)
    as_far [] n (suc left) e = take_all n [] (omega arith)
    as_far (x ∷ xs) zero zero e = refl
    as_far (x ∷ xs) zero (suc left) e = absurd (omega (arith, e))
    as_far (x ∷ xs) (suc n) zero e = absurd (omega (arith, e))
    as_far (x ∷ xs) (suc n) (suc left) e = ap (λ ys. x ∷ ys) (as_far xs n left (omega (arith, e)))
