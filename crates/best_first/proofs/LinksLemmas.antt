-- The way along the links of a tree is a plan.
use Rattle.std.proofs.Common.{◌≡◌, ℕ, zero, suc, ◌+◌, ◌<◌, ◌≤◌, inl, inr, Bool, List, [], ◌∷◌, ◌++◌, length, take, reverse, refl, sym, ap, subst, ◌∙◌, arith, Some, slice_get}
use Rattle.std.proofs.lemmas.Bool.{cases_order}
use Rattle.std.proofs.lemmas.List.{reverse-append}
use Rattle.lemmas.proofs.ListTests.{one_there}
use Rattle.task_model.proofs.StepsLemmas.{step_determined}
use Rattle.task_model.specs.Initial.{initial_state}
use Rattle.task_model.specs.Known.{Known}
use Rattle.task_model.specs.Plans.{Executes}
use Rattle.task_model.specs.State.{Atoms}
use Rattle.task_model.specs.Steps.{IsStep}
use Rattle.task_model.specs.declared.task.GroundAction.{GroundAction}
use Rattle.task_model.specs.declared.task.Task.{Task}
use Rattle.best_first.specs.Answer.{IsFoundPlan}
use Rattle.best_first.specs.Explored.{IsTree, IsMet}
use Rattle.best_first.specs.Links.{FollowsLink}
use Rattle.best_first.specs.declared.tree.Link.{Link}

-- a way is longer by the step before it
pub follows_back : (links : List Link) (n : ℕ) (link : Link) (step : GroundAction) (steps before : List GroundAction) (to total : ℕ)
    → slice_get links n ≡ Some link → step ≡ link.step → before ≡ steps ++ step ∷ []
    → FollowsLink links (n + 1) (reverse steps) to total
    → FollowsLink links link.parent (reverse before) to (total + link.cost)
follows_back links n link step steps before to total at is longer f =
    let back : reverse before ≡ step ∷ reverse steps = ap reverse longer ∙ reverse-append steps (step ∷ []) in
    let here : FollowsLink links link.parent (step ∷ reverse steps) to (total + link.cost) =
    (n, link, total, at, refl, sym is, f, omega arith) in
    subst (λ xs. FollowsLink links link.parent xs to (total + link.cost)) (sym back) here

module _ (task : Task) (known : Known) (states : List Atoms) (links : List Link) (tree : IsTree task known states links) where
  -- the first step of a way leads from the state where it begins
  record FirstStep (before : Atoms) (step : GroundAction) (from n cost : ℕ) : Type 0 where
    after : Atoms
    later : from ≤ n
    to : slice_get states (n + 1) ≡ Some after
    is : IsStep task known before step after cost

  first_step : (from : ℕ) (before : Atoms) (step : GroundAction) (n : ℕ) (link : Link)
      → slice_get states from ≡ Some before → slice_get links n ≡ Some link → link.parent ≡ from
      → link.step ≡ step → FirstStep before step from n link.cost
  first_step from before step n link here at parent is =
      let l = tree.each n link at in
      let earlier : link.parent ≤ n = tree.earlier.earlier n link at in
      let same : l.before ≡ before =
      one_there states from l.before before (subst (λ k. slice_get states k ≡ Some l.before) parent l.from) here in
      let taken : IsStep task known before link.step l.after link.cost =
      subst (λ b. IsStep task known b link.step l.after link.cost) same l.step in
      record { after = l.after; later = omega arith; to = l.to; is = subst (λ x. IsStep task known before x l.after link.cost) is taken }

  length_follows : (from : ℕ) (steps : List GroundAction) (to total : ℕ)
      → FollowsLink links from steps to total → from + length steps ≤ to
  length_follows from [] to total f = omega (arith, f.0)
  length_follows from (step ∷ steps) to total f =
      let rest = length_follows (f.0 + 1) steps to f.2 f.6 in
      let earlier = tree.earlier.earlier f.0 f.1 f.3 in
      let parent = f.4 in
      omega arith

  runs : (from : ℕ) (steps : List GroundAction) (to total : ℕ) (before : Atoms)
      → slice_get states from ≡ Some before → FollowsLink links from steps to total
      → (end : Atoms) × (slice_get states to ≡ Some end) × Executes task known before steps end total
  runs from [] to total before here f =
      (before, subst (λ n. slice_get states n ≡ Some before) f.0 here, (refl, f.1))
  runs from (step ∷ steps) to total before here f =
      let first = first_step from before step f.0 f.1 here f.3 f.4 f.5 in
      let rest = runs (f.0 + 1) steps to f.2 first.after first.to f.6 in
      (rest.0, rest.1, (first.after, f.1.cost, f.2, first.is, rest.2, f.7))

  -- the state after so many steps stands between
  place_at : (from : ℕ) (steps : List GroundAction) (to total : ℕ) (before : Atoms)
      → slice_get states from ≡ Some before → FollowsLink links from steps to total → (k : ℕ)
      → k ≤ length steps → (s : Atoms) (c : ℕ) → Executes task known before (take k steps) s c
      → (n : ℕ) × (slice_get states n ≡ Some s) × (from + k ≤ n) × (n + length steps ≤ to + k)
  place_at from steps to total before here f zero h s c e =
      (from, here ∙ ap Some e.0, omega arith, omega (arith, length_follows from steps to total f))
  place_at from [] to total before here f (suc k) h s c e = absurd (omega arith)
  place_at from (step ∷ steps) to total before here f (suc k) h s c e =
      let first = first_step from before step f.0 f.1 here f.3 f.4 f.5 in
      let same = step_determined task known before e.0 first.after step e.1 f.1.cost e.3 first.is in
      let on : Executes task known first.after (take k steps) s e.2 = subst (λ t. Executes task known t (take k steps) s e.2) same.0 e.4 in
      let rest = place_at (f.0 + 1) steps to f.2 first.after first.to f.6 k (omega arith) s e.2 on in
      (rest.0, rest.1, omega (arith, rest.2, first.later), omega (arith, rest.3))

  no_return : (from : ℕ) (steps : List GroundAction) (to total : ℕ) (before : Atoms)
      → slice_get states from ≡ Some before → FollowsLink links from steps to total → (m n : ℕ)
      → m < n → n ≤ length steps → (s : Atoms) (c d : ℕ)
      → Executes task known before (take m steps) s c
      → Executes task known before (take n steps) s d → ⊥
  no_return from steps to total before here f zero n less h s c d e g =
      let at = place_at from steps to total before here f n h s d g in
      let same : from ≡ at.0 = tree.distinct from at.0 s (here ∙ ap Some e.0) at.1 in
      omega (arith, at.2)
  no_return from steps to total before here f (suc m) zero less h s c d e g = absurd (omega arith)
  no_return from [] to total before here f (suc m) (suc n) less h s c d e g = absurd (omega arith)
  no_return from (step ∷ steps) to total before here f (suc m) (suc n) less h s c d e g =
      let first = first_step from before step f.0 f.1 here f.3 f.4 f.5 in
      let one = step_determined task known before e.0 first.after step e.1 f.1.cost e.3 first.is in
      let two = step_determined task known before g.0 first.after step g.1 f.1.cost g.3 first.is in
      no_return (f.0 + 1) steps to f.2 first.after first.to f.6 m n (omega arith) (omega arith) s e.2 g.2
      (subst (λ t. Executes task known t (take m steps) s e.2) one.0 e.4)
      (subst (λ t. Executes task known t (take n steps) s g.2) two.0 g.4)

pub found_plan : (task : Task) (known : Known) (seeks : Bool) (limit : ℕ) (states : List Atoms)
    (links : List Link) (steps : List GroundAction) (cost : ℕ)
    → IsMet task known seeks limit states links → FollowsLink links 0 steps (length links) cost
    → IsFoundPlan task known limit steps cost
found_plan task known seeks limit states links steps cost met f =
    let tree = met.tree in
    let run = runs task known states links tree 0 steps (length links) cost (initial_state task) tree.first f in
    record {
      valid = (run.0, run.2, met.goal run.0 run.1);
      few = omega (arith, length_follows task known states links tree 0 steps (length links) cost f, met.few);
      distinct = λ m n s a b.
          elim (cases_order m n) [
            | inl same ↦ same
            | inr other ↦
                elim other [
                  | inl less ↦
                      absurd (no_return task known states links tree 0 steps (length links) cost
                      (initial_state task) tree.first f m n less b.1 s a.0 b.0 a.2 b.2)
                  | inr more ↦
                      absurd (no_return task known states links tree 0 steps (length links) cost
                      (initial_state task) tree.first f n m more a.1 s b.0 a.0 b.2 a.2)
                ]
          ];
      only_last = λ n s less a.
          let at = place_at task known states links tree 0 steps (length links) cost (initial_state task) tree.first f n a.1 s a.0 a.2 in
          met.others at.0 s (omega (arith, at.3)) at.1;
    }
