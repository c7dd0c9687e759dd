-- Fronts of turns of any family.
use Rattle.std.proofs.Common.{◌≡◌, ℕ, zero, suc, ◌+◌, ◌-◌, ◌<◌, ◌≤◌, ◌⊎◌, inl, inr, Bool, true, false, List, [], ◌++◌, length, take, drop, sym, ap, subst, ◌∙◌, arith, append_assoc, refl}
use Rattle.std.proofs.Math.Seq.{take-append-add}
use Rattle.std.proofs.lemmas.Bool.{cases_lt}
use Rattle.std.proofs.lemmas.List.{take-append-le, take-append-drop}
use Rattle.task_model.specs.declared.task.Task.{Task}
use Rattle.transcript_model.specs.Rounds.{Limits}
use Rattle.transcript_model.specs.Turns.{AreTurns, Stage, between, inside, cut_off, none_left, stopped, whole}
use Rattle.transcript_model.specs.declared.entry.Entry.{Entry}

take_none : (k : ℕ) → take {A = Entry} k [] ≡ []
take_none zero = refl
take_none (suc k) = refl

module _ {Carried : Type 0} (limits : Limits) (task : Task) (turn : Carried → List Entry → List Entry → Carried → Bool → Type 0) where
  -- the front of turns is turns
  pub front_turns : (kept : Carried) (before es : List Entry) (stage : Stage)
      → AreTurns limits task turn kept before es stage → (k : ℕ)
      → (s : Stage) × AreTurns limits task turn kept before (take k es) s
  front_turns kept before es stage none_left k =
      (between, subst (λ xs. AreTurns limits task turn kept before xs between) (sym (take_none k)) none_left)
  front_turns kept before es stage (whole next {now = now} {rest = rest} may this more) k =
      by (cases_lt k (length now)) (front_turns next (before ++ now) rest stage more (k - length now))
    where
      begun : k < length now → AreTurns limits task turn kept before (take k (now ++ rest)) inside
      begun lt =
          let parts : now ≡ take k now ++ drop k now = sym (take-append-drop k now) in
          subst (λ xs. AreTurns limits task turn kept before xs inside) (sym (take-append-le k now rest (omega (arith, lt))))
          (stopped next (drop k now) false may (subst (λ xs. turn kept before xs next false) parts this))

      by : (k < length now) ⊎ (length now ≤ k)
          → (s : Stage) × AreTurns limits task turn next (before ++ now) (take (k - length now) rest) s
          → (s : Stage) × AreTurns limits task turn kept before (take k (now ++ rest)) s
      by (inl lt) later = (inside, begun lt)
      by (inr ge) later =
          let sum : k ≡ length now + (k - length now) = omega (arith, ge) in
          let is : take k (now ++ rest) ≡ now ++ take (k - length now) rest =
          ap (λ n. take n (now ++ rest)) sum ∙ take-append-add now rest (k - length now) in
          (later.0, subst (λ xs. AreTurns limits task turn kept before xs later.0) (sym is) (whole next may this later.1))
  front_turns kept before es stage (cut_off next may this) k =
      (inside, stopped next (drop k es) true may (subst (λ xs. turn kept before xs next true) (sym (take-append-drop k es)) this))
  front_turns kept before es stage (stopped next more cut may this) k =
      let parts : es ++ more ≡ take k es ++ (drop k es ++ more) =
      ap (λ xs. xs ++ more) (sym (take-append-drop k es)) ∙ append_assoc (take k es) (drop k es) more in
      (inside, stopped next (drop k es ++ more) cut may (subst (λ xs. turn kept before xs next cut) parts this))
