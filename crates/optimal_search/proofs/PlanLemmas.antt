-- The plan along the links is the cheapest.
use Rattle.std.proofs.Common.{◌≡◌, ℕ, ◌+◌, true, List, [], ◌∷◌, length, refl, sym, ap, subst, arith, Some, slice_get}
use Rattle.std.proofs.lemmas.Option.{slice_get_within}
use Rattle.best_first.proofs.LinksLemmas.{found_plan}
use Rattle.best_first.specs.Answer.{IsFoundPlan}
use Rattle.best_first.specs.Explored.{IsMet}
use Rattle.best_first.specs.Links.{FollowsLink}
use Rattle.best_first.specs.declared.tree.Link.{Link}
use Rattle.lemmas.proofs.ListTests.{get_there, one_there}
use Rattle.task_model.specs.Initial.{initial_state}
use Rattle.task_model.specs.Known.{Known}
use Rattle.task_model.specs.Plans.{IsGoal, IsLeastCost}
use Rattle.task_model.specs.declared.task.GroundAction.{GroundAction}
use Rattle.task_model.specs.declared.task.Task.{Task}
use Rattle.optimal_search.proofs.NodesLemmas.{closed_count, state_at, way_at}
use Rattle.optimal_search.specs.Astar.{Way}
use Rattle.optimal_search.specs.Nodes.{AreClosedNodes, way_states}
use Rattle.optimal_search.specs.Searches.{IsMetLeast}

module _ (task : Task) (known : Known) where
  -- ---- the plan

  -- along the links the costs add up
  sums_along : (closed : List Way) (links : List Link) → AreClosedNodes task known closed links → (from : ℕ)
      (steps : List GroundAction) (to total : ℕ) (a b : Way) → slice_get closed from ≡ Some a
      → slice_get closed to ≡ Some b → FollowsLink links from steps to total → b.cost ≡ a.cost + total
  sums_along closed links c from [] to total a b at_a at_b f =
      let same = one_there closed to b a at_b (subst (λ n. slice_get closed n ≡ Some a) f.0 at_a) in
      omega (arith, ap (λ (w : Way). w.cost) same, f.1)
  sums_along closed links c from (step ∷ steps) to total a b at_a at_b f =
      let count = closed_count task known closed links c in
      let within = slice_get_within links f.0 f.1 f.3 in
      let middle = get_there closed (f.0 + 1) (omega (arith, within, count)) in
      let first = c.sums f.0 f.1 a middle.0 f.3 (subst (λ n. slice_get closed n ≡ Some a) (sym f.4) at_a) middle.1 in
      let rest = sums_along closed links c (f.0 + 1) steps to f.2 middle.0 b middle.1 at_b f.6 in
      omega (arith, first, rest, f.7)

  pub found_least : (limit : ℕ) (links : List Link) (steps : List GroundAction) (cost : ℕ)
      → IsMetLeast task known limit links → FollowsLink links 0 steps (length links) cost
      → IsFoundPlan task known limit steps cost × IsLeastCost task known cost
  found_least limit links steps cost m f =
      let last = state_at m.closed (length links) m.way m.last in
      let whole : IsMet task known true limit (way_states m.closed) links = record {
        sought = refl;
        tree = m.tree.tree;
        few = m.few;
        goal = λ s at. subst (IsGoal task known) (one_there (way_states m.closed) (length links) m.way.state s last at) m.goal;
        others = λ n s before at.
            let w = way_at m.closed n s at in
            subst (λ x. ¬ (IsGoal task known x)) w.2 (m.others n w.0 before w.1);
      } in
      let plan = found_plan task known true limit (way_states m.closed) links steps cost whole f in
      let first = way_at m.closed 0 (initial_state task) m.tree.tree.first in
      let sum = sums_along m.closed links m.tree 0 steps (length links) cost first.0 m.way first.1 m.last f in
      let price : m.way.cost ≡ cost = omega (arith, sum, m.tree.start first.0 first.1) in (
        plan,
        record {
          steps = steps;
          valid = plan.valid;
          least = λ others other v. omega (arith, m.lower others other v, price);
        },
      )
