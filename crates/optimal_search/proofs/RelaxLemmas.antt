-- How a step from the state that was closed last changes a search.
use Rattle.std.proofs.Common.{◌≡◌, ℕ, ◌+◌, ◌*◌, ◌<◌, ◌≤◌, inl, inr, Bool, true, false, List, [], ◌∷◌, ◌++◌, length, length-append, refl, sym, ap, subst, ◌∙◌, arith, if◌then◌else◌, Some, slice_get, Contains}
use Rattle.std.proofs.lemmas.Option.{slice_get_within}
use Rattle.best_first.specs.declared.tree.Link.{Link}
use Rattle.lemmas.proofs.ListTests.{all_by_place}
use Rattle.lemmas.proofs.Members.{distinct_push, get_append, member_at, push_cases}
use Rattle.task_model.specs.Known.{Known}
use Rattle.task_model.specs.Plans.{IsReached, MoreThan}
use Rattle.task_model.specs.State.{Atoms}
use Rattle.task_model.specs.declared.limits.TheConstants.{MOST_STATES}
use Rattle.task_model.specs.declared.task.GroundAction.{GroundAction}
use Rattle.task_model.specs.declared.task.Task.{Task}
use Rattle.optimal_search.proofs.AstarLemmas.{passed_next}
use Rattle.optimal_search.proofs.NodesLemmas.{closed_count, few_closed, lowered_known, nodes_added, nodes_lowered, way_added, ways_added, ways_lowered}
use Rattle.optimal_search.specs.Agenda.{IsAgenda, Lowers}
use Rattle.optimal_search.specs.Astar.{IsClosedIn, IsSearched, PassedTo}
use Rattle.optimal_search.specs.Nodes.{AreNodes, IsOpenNode, IsOpenWay}
use Rattle.optimal_search.specs.Searches.{Arrives, IsExpanding, Stores}
use Rattle.optimal_search.specs.declared.agenda.Agenda.{Agenda}
use Rattle.optimal_search.specs.declared.agenda.Node.{Node}
use Rattle.optimal_search.specs.declared.relax.Arrival.{Arrival}
use Rattle.optimal_search.specs.declared.relax.Expansion.{Expansion}
use Rattle.optimal_search.specs.declared.search.Search.{Search}
use Rattle.optimal_search.proofs.TurnsLemmas.{reached_next}

module _ (task : Task) (known : Known) where
  module _ (bound : Atoms → ℕ) (limit : ℕ) where
    -- ---- a step is taken from it

    module _ (search : Search) (from : Expansion) (index : ℕ) (step : GroundAction) (states : List Atoms)
        (arrival : Arrival) (link : Link) (e : IsExpanding task known bound limit search from index)
        (taken_is : slice_get from.steps.items index ≡ Some step)
        (arrives : Arrives task known search.store from.state step states arrival)
        (link_is : link ≡ record { parent = from.number; step = step; cost = arrival.cost }) where
      -- the link is the last step of a way to the state, if that isn't closed
      opened : (node : Node) → node.cost ≡ from.cost + arrival.cost → node.left ≡ bound arrives.after
          → ¬ (IsClosedIn e.sound.closed arrives.after)
          → IsOpenNode task known bound e.sound.closed arrives.after node link
      opened node price left apart =
          let one : IsOpenNode task known bound e.sound.closed arrives.after node
          (record { parent = from.number; step = step; cost = arrival.cost }) = record {
            apart = apart;
            from = record { state = from.state; cost = from.cost };
            parent = ap (slice_get e.sound.closed) e.number ∙ e.last;
            step = arrives.leads;
            small = arrives.small;
            cost = price;
            left = left;
          } in
          subst (IsOpenNode task known bound e.sound.closed arrives.after node) (sym link_is) one

      reached_after : IsReached task known arrives.after
      reached_after =
          reached_next task known from.state arrives.after step arrival.cost (e.sound.nodes.reached from.place from.state e.here) arrives.leads

      -- it was stored before
      pub relaxed_old : (agenda : Agenda) → arrival.is_new ≡ false → IsAgenda agenda
          → Lowers search.agenda.nodes.items arrival.place (from.cost + arrival.cost) link agenda.nodes.items
          → IsExpanding task known bound limit (record { store = states; agenda = agenda; links = search.links }) from (index + 1)
      relaxed_old agenda old queue low =
          let closed = e.sound.closed in
          let nodes = search.agenda.nodes.items in
          let now = agenda.nodes.items in
          let same : states ≡ search.store = subst (Stores search.store arrives.after states) old arrives.stores in
          let here = subst (λ ss. slice_get ss arrival.place ≡ Some arrives.after) same arrives.there in
          let kept = elim low as (λ x. AreNodes task known bound closed search.store now) [
            | inl lower ↦
                nodes_lowered task known bound closed search.store nodes now arrival.place (from.cost + arrival.cost) arrives.after link
                e.sound.nodes here lower opened
            | inr left ↦ subst (AreNodes task known bound closed search.store) (sym left.nodes) e.sound.nodes
          ] in
          let known_now =
          lowered_known task known bound closed search.store nodes now arrival.place (from.cost + arrival.cost) link arrives.after kept
          low here in
          let one : IsExpanding task known bound limit (record { store = search.store; agenda = agenda; links = search.links }) from (index + 1) = record {
            sound = record {
              closed = closed;
              few = e.sound.few;
              most = e.sound.most;
              tree = e.sound.tree;
              nodes = kept;
              queue = queue;
              searched = passed_next task known closed (IsOpenWay search.store nodes) (IsOpenWay search.store now)
                  (length search.links.items + 1) (length search.links.items) from.steps.items index
                  (record { state = from.state; cost = from.cost }) step arrives.after arrival.cost e.sound.searched e.last taken_is
                  arrives.leads (λ v o. ways_lowered search.store nodes now arrival.place (from.cost + arrival.cost) link v low o)
                  known_now;
            };
            number = e.number;
            last = e.last;
            here = e.here;
            steps = e.steps;
          } in
          subst (λ ss. IsExpanding task known bound limit (record { store = ss; agenda = agenda; links = search.links }) from (index + 1))
          (sym same) one

      -- it is new
      pub relaxed_new : (agenda : Agenda) (node : Node) → arrival.is_new ≡ true → arrival.place < limit
          → IsAgenda agenda → agenda.nodes.items ≡ search.agenda.nodes.items ++ node ∷ []
          → node.cost ≡ from.cost + arrival.cost → node.left ≡ bound arrives.after → node.last ≡ Some link
          → IsExpanding task known bound limit (record { store = states; agenda = agenda; links = search.links }) from (index + 1)
      relaxed_new agenda node new within queue nodes_are price left last =
          let closed = e.sound.closed in
          let nodes = search.agenda.nodes.items in
          let store = search.store in
          let after = arrives.after in
          let stored = subst (Stores store after states) new arrives.stores in
          let longer : length states ≡ length store + 1 = omega (arith, ap length stored.0, length-append store (after ∷ [])) in
          let place = elim (push_cases store after arrival.place after
          (subst (λ ss. slice_get ss arrival.place ≡ Some after) stored.0 arrives.there)) as (λ x. arrival.place ≡ length store) [
            | inl old ↦ absurd (stored.1 (member_at store arrival.place after old))
            | inr behind ↦ behind.0
          ] in
          let apart : ¬ (IsClosedIn closed after) = λ d.
          stored.1 (subst (Contains store) d.3 (e.sound.nodes.stored d.0 d.1 d.2)) in
          let many = e.sound.nodes.many in
          let all = nodes_added task known bound closed store nodes after node link e.sound.nodes stored.1 reached_after last
          (opened node price left apart) in
          let found = way_added store nodes after node link many last in
          let searched =
          passed_next task known closed (IsOpenWay store nodes) (IsOpenWay (store ++ after ∷ []) (nodes ++ node ∷ []))
          (length search.links.items + 1) (length search.links.items) from.steps.items index
          (record { state = from.state; cost = from.cost }) step after arrival.cost e.sound.searched e.last taken_is arrives.leads
          (λ v o. (v, ways_added store nodes after node v o, refl, omega arith))
          (inr (found.0, found.1, found.2, omega (arith, found.3, price))) in
          record {
            sound = record {
              closed = closed;
              few = omega (arith, longer, place, within);
              most = e.sound.most;
              tree = e.sound.tree;
              nodes = subst (λ ss. AreNodes task known bound closed ss agenda.nodes.items) (sym stored.0)
                  (subst (AreNodes task known bound closed (store ++ after ∷ [])) (sym nodes_are) all);
              queue = queue;
              searched = subst
                  (λ ss. IsSearched task known closed (IsOpenWay ss agenda.nodes.items) (length search.links.items + 1)
                  (PassedTo (length search.links.items) from.steps.items (index + 1))) (sym stored.0)
                  (subst
                  (λ ns. IsSearched task known closed (IsOpenWay (store ++ after ∷ []) ns) (length search.links.items + 1)
                  (PassedTo (length search.links.items) from.steps.items (index + 1))) (sym nodes_are) searched);
            };
            number = e.number;
            last = e.last;
            here = subst (λ ss. slice_get ss from.place ≡ Some from.state) (sym stored.0)
                (get_append store (after ∷ []) from.place from.state e.here);
            steps = e.steps;
          }

      -- it is new, and one too many
      pub relaxed_more : arrival.is_new ≡ true → limit ≤ arrival.place → MoreThan limit (IsReached task known)
      relaxed_more new past =
          let store = search.store in
          let after = arrives.after in
          let stored = subst (Stores store after states) new arrives.stores in
          let within = slice_get_within states arrival.place after arrives.there in
          let states_now = store ++ after ∷ [] in (
            states_now,
            omega (arith, within, past, ap length stored.0),
            distinct_push store after e.sound.nodes.distinct stored.1,
            all_by_place (IsReached task known) states_now (λ n s at.
                elim (push_cases store after n s at) [
                  | inl old ↦ e.sound.nodes.reached n s old
                  | inr behind ↦ subst (IsReached task known) (sym behind.1) reached_after
                ]),
          )

    -- what is asked of the store and of the cost
    pub room : (search : Search) (from : Expansion) (done : ℕ) → IsExpanding task known bound limit search from done
        → (length search.store ≤ MOST_STATES) × (from.cost ≤ 262144000000 * 200000) × (from.number < 200000)
    room search from done e =
        let closed = e.sound.closed in
        let count = closed_count task known closed search.links.items e.sound.tree in
        let fit =
        few_closed task known bound closed search.links.items search.store search.agenda.nodes.items e.sound.tree e.sound.nodes in
        let small = e.sound.tree.small (length search.links.items) (record { state = from.state; cost = from.cost }) e.last in (
          omega (arith, e.sound.few, e.sound.most),
          omega (arith, small, count, fit, e.sound.few, e.sound.most),
          omega (arith, e.number, count, fit, e.sound.few, e.sound.most),
        )

  -- the bound may be told by another function that answers the same
  pub bound_along : (limit : ℕ) (search : Search) (from : Expansion) (done : ℕ) (bound now : Atoms → ℕ)
      → ((s : Atoms) → now s ≡ bound s) → IsExpanding task known bound limit search from done
      → IsExpanding task known now limit search from done
  bound_along limit search from done bound now same e =
      subst (λ (b : Atoms → ℕ). IsExpanding task known b limit search from done) (λ i s. (sym (same s)) i) e

  -- ---- what the code asks

  pub stores_by : (before : List Atoms) (after : Atoms) (states : List Atoms) (b : Bool)
      → (b ≡ true → ¬ (Contains before after)) → states ≡ (if b then before ++ after ∷ [] else before)
      → Stores before after states b
  stores_by before after states true fresh e = (e, fresh refl)
  stores_by before after states false fresh e = e

  -- a state that was stored before has its node
  pub old_within : (bound : Atoms → ℕ) (limit : ℕ) (search : Search) (from : Expansion) (done : ℕ) (step : GroundAction)
      (states : List Atoms) (arrival : Arrival) → IsExpanding task known bound limit search from done
      → Arrives task known search.store from.state step states arrival → arrival.is_new ≡ false
      → arrival.place < length search.agenda.nodes.items
  old_within bound limit search from done step states arrival e arrives old =
      let same : states ≡ search.store = subst (Stores search.store arrives.after states) old arrives.stores in
      omega (arith, slice_get_within states arrival.place arrives.after arrives.there, ap length same, e.sound.nodes.many)
