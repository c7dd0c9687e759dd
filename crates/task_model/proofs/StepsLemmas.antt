-- Executing steps: in parts, and that it is determined.
use Rattle.std.proofs.Common.{◌≡◌, ℕ, ◌+◌, List, [], ◌∷◌, ◌++◌, refl, sym, ap, subst, ◌∙◌, arith}
use Rattle.std.proofs.lemmas.Option.{same_Some}
use Rattle.task_model.specs.Known.{Known}
use Rattle.task_model.specs.Laws.{ExecutesInParts}
use Rattle.task_model.specs.Plans.{Executes}
use Rattle.task_model.specs.State.{Atoms}
use Rattle.task_model.specs.Steps.{IsStep, cost_of, effect_of}
use Rattle.task_model.specs.declared.task.GroundAction.{GroundAction}
use Rattle.task_model.specs.declared.task.Task.{Task}

module _ (task : Task) (known : Known) where
  pub parts_of_whole : (before after : Atoms) (first second : List GroundAction) (total : ℕ)
      → Executes task known before (first ++ second) after total → ExecutesInParts task known before first second after total
  parts_of_whole before after [] second total whole =
      (before, 0, total, (refl, refl), whole, omega arith)
  parts_of_whole before after (step ∷ first) second total whole =
      let parts = parts_of_whole whole.0 after first second whole.2 whole.4 in
      let sum : total ≡ whole.1 + parts.1 + parts.2 = omega (arith, whole.5, parts.5) in
      (parts.0, whole.1 + parts.1, parts.2, (whole.0, whole.1, parts.1, whole.3, parts.3, refl), parts.4, sum)

  pub whole_of_parts : (before after : Atoms) (first second : List GroundAction) (total : ℕ)
      → ExecutesInParts task known before first second after total → Executes task known before (first ++ second) after total
  whole_of_parts before after [] second total parts =
      let here : Executes task known before second after parts.2 =
      subst (λ s. Executes task known s second after parts.2) (sym parts.3.0) parts.4 in
      let sum : parts.2 ≡ total = omega (arith, parts.5, parts.3.1) in
      subst (λ n. Executes task known before second after n) sum here
  whole_of_parts before after (step ∷ first) second total parts =
      let front = parts.3 in
      let rest = whole_of_parts front.0 after first second (front.2 + parts.2) (parts.0, front.2, parts.2, front.4, parts.4, refl) in
      let sum : total ≡ front.1 + (front.2 + parts.2) = omega (arith, parts.5, front.5) in
      (front.0, front.1, front.2 + parts.2, front.3, rest, sum)

  pub step_determined : (before a b : Atoms) (step : GroundAction) (m n : ℕ)
      → IsStep task known before step a m
      → IsStep task known before step b n → (a ≡ b) × (m ≡ n)
  step_determined before a b step m n p q =
      let action : p.action ≡ q.action = same_Some _ _ (sym p.named ∙ q.named) in
      let states : a ≡ b = p.leads ∙ ap (λ x. effect_of x step.args before) action ∙ sym q.leads in
      let costs : m ≡ n = same_Some _ _ (sym p.costs ∙ ap (λ x. cost_of task known x step.args) action ∙ q.costs) in
      (states, costs)

  pub execution_determined : (before : Atoms) (steps : List GroundAction) (a b : Atoms) (m n : ℕ)
      → Executes task known before steps a m
      → Executes task known before steps b n → (a ≡ b) × (m ≡ n)
  execution_determined before [] a b m n p q = (sym p.0 ∙ q.0, p.1 ∙ sym q.1)
  execution_determined before (step ∷ steps) a b m n p q =
      let here = step_determined before p.0 q.0 step p.1 q.1 p.3 q.3 in
      let moved : Executes task known p.0 steps b q.2 = subst (λ s. Executes task known s steps b q.2) (sym here.0) q.4 in
      let rest = execution_determined p.0 steps a b p.2 q.2 p.4 moved in
      (rest.0, p.5 ∙ (λ i. here.1 i + rest.1 i) ∙ sym q.5)
