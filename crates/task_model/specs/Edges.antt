-- Edges are between streams that are there.
use Rattle.std.specs.Prelude.{◌≡◌, ℕ, zero, suc, ◌<◌, List, [], ◌∷◌, length, true, false, None, Some, slice_get, refl}
use Rattle.std.proofs.Common.{arith}
use Rattle.task_model.specs.Fit.{leads}
use Rattle.task_model.specs.declared.task.Task.{Task}

-- past the end there is nothing
pub inside : {A : Type 0} (xs : List A) (i : ℕ) → (slice_get xs i ≡ None → ⊥) → i < length xs
inside [] i some = absurd (some refl)
inside (y ∷ ys) zero some = omega arith
inside (y ∷ ys) (suc i) some = omega (arith, inside ys i some)

pub streams_within : (task : Task) (from to : ℕ) → leads task from to ≡ true
    → (from < length task.streams) × (to < length task.streams)
streams_within task from to e = (
  inside task.streams from (λ none. let h = rw none at e in let f : false ≡ true = h in absurd (cc)),
  elim (slice_get task.streams from) as (λ o. slice_get task.streams from ≡ o → to < length task.streams) [
    | None ↦ λ none. absurd (let h = rw none at e in let f : false ≡ true = h in cc)
    | Some x ↦ λ some. inside task.streams to
        (λ none. let h = rw (some, none) at e in let f : false ≡ true = h in absurd (cc))
  ] refl,
)
