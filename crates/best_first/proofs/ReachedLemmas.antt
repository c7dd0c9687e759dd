-- States that are reached within a number of steps.
use Rattle.std.proofs.Common.{◌≡◌, ℕ, ◌+◌, ◌≤◌, ◌⊎◌, inl, inr, List, [], ◌∷◌, ◌++◌, length, length-append, refl, ap, subst, arith}
use Rattle.task_model.proofs.StepsLemmas.{parts_of_whole, whole_of_parts}
use Rattle.task_model.specs.Initial.{initial_state}
use Rattle.task_model.specs.Known.{Known}
use Rattle.task_model.specs.Plans.{Executes, IsReached, IsReachedWithin}
use Rattle.task_model.specs.State.{Atoms}
use Rattle.task_model.specs.Steps.{IsStep}
use Rattle.task_model.specs.declared.task.GroundAction.{GroundAction}
use Rattle.task_model.specs.declared.task.Task.{Task}

last_of : {A : Type 0} (xs : List A)
    → (xs ≡ []) ⊎ ((front : List A) × (x : A) × (xs ≡ front ++ x ∷ []))
last_of [] = inl refl
last_of (x ∷ xs) =
    elim (last_of xs) [
      | inl e ↦ inr ([], x, ap (λ zs. x ∷ zs) e)
      | inr h ↦ inr (x ∷ h.0, h.1, ap (λ zs. x ∷ zs) h.2)
    ]

none_left : {A : Type 0} (xs : List A) → length xs ≤ 0 → xs ≡ []
none_left [] h = refl
none_left (x ∷ xs) h = absurd (omega arith)

module _ (task : Task) (known : Known) where
  pub within_more : (m n : ℕ) (s : Atoms) → m ≤ n → IsReachedWithin task known m s
      → IsReachedWithin task known n s
  within_more m n s h r = (r.0, r.1, omega (arith, r.2), r.3)

  pub within_reached : (n : ℕ) (s : Atoms) → IsReachedWithin task known n s → IsReached task known s
  within_reached n s r = (r.0, r.1, r.3)

  pub within_none : (s : Atoms) → IsReachedWithin task known 0 s → initial_state task ≡ s
  within_none s r =
      (subst (λ xs. Executes task known (initial_state task) xs s r.1) (none_left r.0 r.2) r.3).0

  pub initially : IsReachedWithin task known 0 (initial_state task)
  initially = ([], 0, omega arith, (refl, refl))

  pub within_step : (n : ℕ) (before after : Atoms) (step : GroundAction) (cost : ℕ)
      → IsReachedWithin task known n before → IsStep task known before step after cost
      → IsReachedWithin task known (n + 1) after
  within_step n before after step cost r is =
      let one : Executes task known before (step ∷ []) after cost = (after, cost, 0, is, (refl, refl), omega arith) in
      let whole = whole_of_parts task known (initial_state task) after r.0 (step ∷ []) (r.1 + cost) (before, r.1, cost, r.3, one, refl) in
      (r.0 ++ step ∷ [], r.1 + cost, omega (arith, length-append r.0 (step ∷ []), r.2), whole)

  -- what is reached within one step more is reached within as many, or by one step from what is
  pub within_last : (n : ℕ) (s : Atoms) → IsReachedWithin task known (n + 1) s
      → IsReachedWithin task known n s
      ⊎ ((before : Atoms) × (step : GroundAction) × (cost : ℕ) × IsReachedWithin task known n before
      × IsStep task known before step s cost)
  within_last n s r =
      elim (last_of r.0) [
        | inl e ↦ inl (r.0, r.1, omega (arith, ap length e), r.3)
        | inr h ↦
            let runs = subst (λ xs. Executes task known (initial_state task) xs s r.1) h.2 r.3 in
            let parts = parts_of_whole task known (initial_state task) s h.0 (h.1 ∷ []) r.1 runs in
            let last = parts.4 in
            let is = subst (λ t. IsStep task known parts.0 h.1 t last.1) last.4.0 last.3 in
            inr (parts.0, h.1, last.1, (h.0, parts.1, omega (arith, ap length h.2, length-append h.0 (h.1 ∷ []), r.2), parts.3), is)
      ]
