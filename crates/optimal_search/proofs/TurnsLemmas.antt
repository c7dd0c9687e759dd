-- How a search for a cheapest plan begins, goes from turn to turn and ends.
use Rattle.std.proofs.Common.{◌≡◌, ℕ, ◌+◌, ◌<◌, ◌≤◌, ◌⊎◌, inl, inr, true, [], ◌∷◌, ◌++◌, length, length-append, refl, sym, ap, subst, ◌∙◌, arith, None, Some, slice_get, slice_set, Contains}
use Rattle.std.proofs.lemmas.Option.{slice_get_within}
use Rattle.best_first.proofs.TreesLemmas.{closed_all, start_tree}
use Rattle.best_first.specs.Outcome.{IsAll}
use Rattle.best_first.specs.declared.tree.Link.{Link}
use Rattle.grounder.specs.Applicable.{AreApplicable}
use Rattle.lemmas.proofs.Ascending.{contains_here}
use Rattle.lemmas.proofs.ListTests.{get_there}
use Rattle.lemmas.proofs.Members.{get_pushed, get_single, member_at}
use Rattle.lemmas.proofs.Options.{none_at}
use Rattle.task_model.proofs.StepsLemmas.{whole_of_parts}
use Rattle.task_model.specs.Initial.{initial_state}
use Rattle.task_model.specs.Known.{Known}
use Rattle.task_model.specs.Plans.{Executes, IsGoal, IsReached}
use Rattle.task_model.specs.State.{Atoms}
use Rattle.task_model.specs.Steps.{IsStep}
use Rattle.task_model.specs.declared.limits.TheConstants.{MOST_STATES}
use Rattle.task_model.specs.declared.task.GroundAction.{GroundAction}
use Rattle.task_model.specs.declared.task.Task.{Task}
use Rattle.optimal_search.proofs.AgendaLemmas.{get_set}
use Rattle.optimal_search.proofs.AstarLemmas.{IsLeastOpen, closing, least_plan, least_way, passed_all, tested_last}
use Rattle.optimal_search.proofs.NodesLemmas.{closed_count, closed_more, few_closed, length_states, nodes_closed, state_at, way_at, ways_closed}
use Rattle.optimal_search.specs.Agenda.{IsAgenda, IsOpenNodeAt, closed as closed_node}
use Rattle.optimal_search.specs.Astar.{IsClosedIn, IsSearched, PassedBefore, Way}
use Rattle.optimal_search.specs.Consistent.{IsConsistent}
use Rattle.optimal_search.specs.Nodes.{AreClosedNodes, AreNodes, IsNode, IsOpenWay, way_states}
use Rattle.optimal_search.specs.Searches.{IsBetweenTurns, IsClosedNext, IsExpanding, IsMetLeast, IsJustClosed}
use Rattle.optimal_search.specs.declared.agenda.Node.{Node}
use Rattle.optimal_search.specs.declared.relax.Expansion.{Expansion}
use Rattle.optimal_search.specs.declared.search.Search.{Search}

module _ (task : Task) (known : Known) where
  -- ---- what is reached

  initially : IsReached task known (initial_state task)
  initially = ([], 0, (refl, refl))

  pub reached_next : (before after : Atoms) (step : GroundAction) (cost : ℕ) → IsReached task known before
      → IsStep task known before step after cost → IsReached task known after
  reached_next before after step cost r e =
      let one : Executes task known before (step ∷ []) after cost = (after, cost, 0, e, (refl, refl), omega arith) in (
        r.0 ++ step ∷ [],
        r.1 + cost,
        whole_of_parts task known (initial_state task) after r.0 (step ∷ []) (r.1 + cost) (before, r.1, cost, r.2, one, refl),
      )

  -- ---- the beginning

  abbrev start : Way
  start = record { state = initial_state task; cost = 0 }

  start_closed : AreClosedNodes task known (start ∷ []) []
  start_closed = record {
    tree = start_tree task known;
    start = λ w at. ap (λ (v : Way). v.cost) (sym (get_single start w 0 at).1);
    sums = λ n link from to at. absurd (none_at n link at);
    small = λ k w at. omega (arith, ap (λ (v : Way). v.cost) (sym (get_single start w k at).1));
  }

  start_nodes : (bound : Atoms → ℕ) (node : Node) → node.last ≡ None
      → AreNodes task known bound (start ∷ []) (initial_state task ∷ []) (node ∷ [])
  start_nodes bound node none = record {
    many = refl;
    distinct = (start_tree task known).distinct;
    reached = λ n state at. subst (IsReached task known) (get_single (initial_state task) state n at).1 initially;
    stored = λ k w at. subst (λ (v : Way). Contains (initial_state task ∷ []) v.state) (get_single start w k at).1
        (contains_here (initial_state task) []);
    each = λ n state v at at_v.
        let here : IsClosedIn (start ∷ []) state = (0, start, refl, (get_single (initial_state task) state n at).1) in
        let held : IsNode task known bound (start ∷ []) state node node.last =
        subst (IsNode task known bound (start ∷ []) state node) (sym none) here in
        subst (λ (x : Node). IsNode task known bound (start ∷ []) state x x.last) (get_single node v n at_v).1 held;
  }

  pub begun : (bound : Atoms → ℕ) (limit : ℕ) (search : Search) (node : Node) → search.store ≡ initial_state task ∷ []
      → search.links.items ≡ [] → search.agenda.nodes.items ≡ node ∷ [] → node.cost ≡ 0 → node.last ≡ None
      → IsAgenda search.agenda → 1 ≤ limit → limit ≤ MOST_STATES → IsJustClosed task known bound limit search 0
  begun bound limit search node store links nodes price none queue some most =
      let empty : length search.links.items ≡ 0 = ap length links in
      record {
        sound = record {
          closed = start ∷ [];
          few = subst (λ ss. length ss ≤ limit) (sym store) some;
          most = most;
          tree = subst (AreClosedNodes task known (start ∷ [])) (sym links) start_closed;
          nodes = subst (λ ss. AreNodes task known bound (start ∷ []) ss search.agenda.nodes.items) (sym store)
              (subst (AreNodes task known bound (start ∷ []) (initial_state task ∷ [])) (sym nodes) (start_nodes bound node none));
          queue = queue;
          searched = record {
            first = (start, refl, refl);
            least = λ k w steps total at e. omega (arith, ap (λ (v : Way). v.cost) (get_single start w k at).1);
            none_meets = λ k w before at. absurd (omega (arith, before, empty));
            covered = λ k w after step cost at passed e. absurd (omega (arith, passed, empty));
          };
        };
        way = start;
        last = ap (slice_get (start ∷ [])) empty;
        here = ap (λ ss. slice_get ss 0) store;
        node = node;
        at = ap (λ ns. slice_get ns 0) nodes;
        cost = price;
        lower = λ steps total v. omega arith;
      }

  -- ---- the open state of least rank is closed

  module _ (bound : Atoms → ℕ) (limit : ℕ) (c : IsConsistent task known bound) (old new : Search) (place : ℕ)
      (is : IsBetweenTurns task known bound limit old) (closes : IsClosedNext old new place) where
    taken_at : (state : Atoms) → slice_get old.store place ≡ Some state → IsJustClosed task known bound limit new place
    taken_at state here =
        let closed = is.closed in
        let node = closes.next.node in
        let link = closes.link in
        let w : Way = record { state = state; cost = node.cost } in
        let of = subst (IsNode task known bound closed state node) closes.next.there.1
        (is.nodes.each place state node here closes.next.there.0) in
        let count = closed_count task known closed old.links.items is.tree in
        let longer : length new.links.items ≡ length old.links.items + 1 =
        omega (arith, ap length closes.links, length-append old.links.items (link ∷ [])) in
        let number : length closed ≡ length new.links.items = omega (arith, count, longer) in
        let now = slice_set old.agenda.nodes.items place (closed_node node) in
        let low : IsLeastOpen bound (IsOpenWay old.store old.agenda.nodes.items) w = λ v o.
        let other = subst (IsNode task known bound closed v.state o.1) o.4.1 (is.nodes.each o.0 v.state o.1 o.3 o.4.0) in
        omega (arith, closes.next.least o.0 o.1 o.2 o.4, of.left, other.left, o.5) in
        let tested = length old.links.items + 1 in
        let IsOpen = IsOpenWay old.store old.agenda.nodes.items in
        let IsLater = IsOpenWay new.store new.agenda.nodes.items in
        let searched =
        closing task known closed IsOpen tested is.searched IsLater w (least_way task known closed IsOpen tested is.searched bound c w of.apart low)
        (λ v o.
        elim (ways_closed old.store old.agenda.nodes.items place state node v here o) as (λ x. (state ≡ v.state) ⊎ IsLater v) [
          | inl same ↦ inl same
          | inr stays ↦
              inr (subst (λ ss. IsOpenWay ss new.agenda.nodes.items v) (sym closes.store)
              (subst (λ ns. IsOpenWay old.store ns v) (sym closes.next.nodes) stays))
        ])
        (sym count) in
        record {
          sound = record {
            closed = closed ++ w ∷ [];
            few = subst (λ ss. length ss ≤ limit) (sym closes.store) is.few;
            most = is.most;
            tree = subst (AreClosedNodes task known (closed ++ w ∷ [])) (sym closes.links)
                (closed_more task known bound closed old.links.items w node link is.tree of refl);
            nodes = subst (λ ss. AreNodes task known bound (closed ++ w ∷ []) ss new.agenda.nodes.items) (sym closes.store)
                (subst (AreNodes task known bound (closed ++ w ∷ []) old.store) (sym closes.next.nodes)
                (nodes_closed task known bound closed old.store old.agenda.nodes.items place w node is.nodes here));
            queue = closes.next.agenda;
            searched = subst (λ n. IsSearched task known (closed ++ w ∷ []) IsLater n (PassedBefore n)) number searched;
          };
          way = w;
          last = get_pushed closed w (length new.links.items) (sym number);
          here = subst (λ ss. slice_get ss place ≡ Some state) (sym closes.store) here;
          node = closed_node node;
          at = subst (λ ns. slice_get ns place ≡ Some (closed_node node)) (sym closes.next.nodes)
              (get_set old.agenda.nodes.items place node (closed_node node) closes.next.there.0);
          cost = refl;
          lower = least_plan task known closed IsOpen tested is.searched bound c (omega (arith, count)) w low;
        }

    pub taken : IsJustClosed task known bound limit new place
    taken =
        let within = slice_get_within old.agenda.nodes.items place closes.next.node closes.next.there.0 in
        let state = get_there old.store place (omega (arith, within, is.nodes.many)) in
        taken_at state.0 state.1

  module _ (bound : Atoms → ℕ) (limit : ℕ) where
    -- where none is open, all states that are reached were closed, and none meets the goal
    pub ended : (search : Search) → IsBetweenTurns task known bound limit search
        → ((place : ℕ) (node : Node) (link : Link) → ¬ (IsOpenNodeAt search.agenda.nodes.items place node link))
        → IsAll task known true limit
    ended search is none =
        let closed = is.closed in
        let links = search.links.items in
        let count = closed_count task known closed links is.tree in
        let fit = few_closed task known bound closed links search.store search.agenda.nodes.items is.tree is.nodes in
        closed_all task known true limit (way_states closed) links is.tree.tree
        (omega (arith, fit, is.few, length_states closed))
        (λ n s at ends.
        let w = way_at closed n s at in
        is.searched.none_meets n w.0 (omega (arith, slice_get_within closed n w.0 w.1, count)) w.1
        (subst (IsGoal task known) (sym w.2) ends.1))
        (λ n s after step cost at e.
        let w = way_at closed n s at in
        elim (is.searched.covered n w.0 after step cost w.1 tt (subst (λ x. IsStep task known x step after cost) (sym w.2) e)) [
          | inl d ↦
              subst (Contains (way_states closed)) d.3 (member_at (way_states closed) d.0 d.1.state (state_at closed d.0 d.1 d.2))
          | inr o ↦ absurd (none o.1.0 o.1.1 o.1.2 o.1.4)
        ])

    -- ---- the state that was closed last

    -- it meets the goal
    pub met : (search : Search) (place : ℕ) (t : IsJustClosed task known bound limit search place)
        → IsGoal task known t.way.state → IsMetLeast task known limit search.links.items
    met search place t goal =
        let closed = t.sound.closed in
        let links = search.links.items in
        let count = closed_count task known closed links t.sound.tree in
        let fit =
        few_closed task known bound closed links search.store search.agenda.nodes.items t.sound.tree t.sound.nodes in
        record {
          closed = closed;
          tree = t.sound.tree;
          few = omega (arith, count, fit, t.sound.few);
          way = t.way;
          last = t.last;
          goal = goal;
          others = t.sound.searched.none_meets;
          lower = t.lower;
        }

    -- it doesn't, and steps are to be taken from it
    pub expanding : (search : Search) (place : ℕ) (from : Expansion) (t : IsJustClosed task known bound limit search place)
        → from.number ≡ length search.links.items → slice_get search.store from.place ≡ Some from.state
        → from.state ≡ t.way.state → from.cost ≡ t.way.cost → ¬ (IsGoal task known from.state)
        → AreApplicable task known from.state from.steps.items → IsExpanding task known bound limit search from 0
    expanding search place from t number here same price none are =
        let last = length search.links.items in
        record {
          sound = record {
            closed = t.sound.closed;
            few = t.sound.few;
            most = t.sound.most;
            tree = t.sound.tree;
            nodes = t.sound.nodes;
            queue = t.sound.queue;
            searched = tested_last task known t.sound.closed (IsOpenWay search.store search.agenda.nodes.items) last t.way
                from.steps.items t.sound.searched t.last (subst (λ s. ¬ (IsGoal task known s)) same none);
          };
          number = number;
          last = t.last ∙ (λ i. Some (record { state = (sym same) i; cost = (sym price) i }));
          here = here;
          steps = are;
        }

    -- all steps were taken from it
    pub expanded : (search : Search) (from : Expansion) (done : ℕ) → IsExpanding task known bound limit search from done
        → length from.steps.items ≤ done → IsBetweenTurns task known bound limit search
    expanded search from done e end =
        let closed = e.sound.closed in
        let last = length search.links.items in
        record {
          closed = closed;
          few = e.sound.few;
          most = e.sound.most;
          tree = e.sound.tree;
          nodes = e.sound.nodes;
          queue = e.sound.queue;
          searched = passed_all task known closed (IsOpenWay search.store search.agenda.nodes.items) (last + 1) last
              from.steps.items done (record { state = from.state; cost = from.cost }) e.sound.searched
              (closed_count task known closed search.links.items e.sound.tree) e.last e.steps end;
        }

  -- there is room for one state more among the closed ones
  pub few_taken : (bound : Atoms → ℕ) (limit : ℕ) (search : Search) (place : ℕ)
      → IsJustClosed task known bound limit search place → length search.links.items < limit
  few_taken bound limit search place t =
      let closed = t.sound.closed in
      let count = closed_count task known closed search.links.items t.sound.tree in
      let fit =
      few_closed task known bound closed search.links.items search.store search.agenda.nodes.items t.sound.tree t.sound.nodes in
      omega (arith, count, fit, t.sound.few)
