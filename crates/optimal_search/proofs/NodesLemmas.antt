-- How stored states are closed, added and reached by cheaper ways.
use Rattle.std.proofs.Common.{◌≡◌, ℕ, ◌+◌, ◌≤◌, ◌⊎◌, inl, inr, List, [], ◌∷◌, ◌++◌, length, length-append, refl, sym, ap, subst, ◌∙◌, arith, Option, None, Some, option_map, slice_get, slice_set, Contains}
use Rattle.std.proofs.lemmas.Bool.{cases_order}
use Rattle.std.proofs.lemmas.List.{map-append, length-map}
use Rattle.std.proofs.lemmas.List.Elements.{Contains-append_left}
use Rattle.std.proofs.lemmas.Option.{slice_get-map, slice_get_within}
use Rattle.best_first.proofs.TreesLemmas.{grown_tree}
use Rattle.best_first.specs.Explored.{IsTree}
use Rattle.best_first.specs.declared.tree.Link.{Link}
use Rattle.lemmas.proofs.ListTests.{get_there, one_there}
use Rattle.lemmas.proofs.Members.{distinct_push, get_append, get_at_length, get_pushed, member_at, place_of, push_cases}
use Rattle.lemmas.proofs.Pigeonhole.{pigeons}
use Rattle.task_model.specs.Known.{Known}
use Rattle.task_model.specs.Plans.{IsReached}
use Rattle.task_model.specs.State.{Atoms}
use Rattle.task_model.specs.declared.task.Task.{Task}
use Rattle.optimal_search.proofs.AgendaLemmas.{get_set, get_set_other, length_set, set_cases}
use Rattle.optimal_search.proofs.AstarLemmas.{closed_cases, last_closed, still_closed}
use Rattle.optimal_search.specs.Agenda.{IsLowered, IsOpenNodeAt, Lowers, closed as closed_node, lowered}
use Rattle.optimal_search.specs.Astar.{IsClosedIn, IsKnownFor, Way}
use Rattle.optimal_search.specs.Nodes.{AreClosedNodes, AreNodes, IsNode, IsOpenNode, IsOpenWay, way_states}
use Rattle.optimal_search.specs.declared.agenda.Node.{Node}

-- ---- the states of ways

pub state_at : (ways : List Way) (k : ℕ) (w : Way) → slice_get ways k ≡ Some w
    → slice_get (way_states ways) k ≡ Some w.state
state_at ways k w at =
    slice_get-map (λ (v : Way). v.state) ways k ∙ ap (option_map (λ (v : Way). v.state)) at

pub length_states : (ways : List Way) → length (way_states ways) ≡ length ways
length_states ways = length-map ways (λ (v : Way). v.state)

-- the way whose state stands there
pub way_at : (ways : List Way) (k : ℕ) (state : Atoms) → slice_get (way_states ways) k ≡ Some state
    → (w : Way) × (slice_get ways k ≡ Some w) × (w.state ≡ state)
way_at ways k state at =
    let within = slice_get_within (way_states ways) k state at in
    let w = get_there ways k (omega (arith, within, length_states ways)) in
    (w.0, w.1, one_there (way_states ways) k w.0.state state (state_at ways k w.0 w.1) at)

pub closed_state : (ways : List Way) (state : Atoms) → Contains (way_states ways) state → IsClosedIn ways state
closed_state ways state c =
    let at = place_of (way_states ways) state c in
    let w = way_at ways at.0 state at.1 in
    (at.0, w.0, w.1, w.2)

module _ (task : Task) (known : Known) where
  -- ---- the tree of the closed states

  pub closed_count : (closed : List Way) (links : List Link) → AreClosedNodes task known closed links
      → length closed ≡ length links + 1
  closed_count closed links c = omega (arith, c.tree.linked, length_states closed)

  pub closed_more : (bound : Atoms → ℕ) (closed : List Way) (links : List Link) (w : Way) (node : Node) (link : Link)
      → AreClosedNodes task known closed links → IsOpenNode task known bound closed w.state node link → node.cost ≡ w.cost
      → AreClosedNodes task known (closed ++ w ∷ []) (links ++ link ∷ [])
  closed_more bound closed links w node link c n price =
      let many = closed_count closed links c in
      let within = slice_get_within closed link.parent n.from n.parent in
      let grown =
      grown_tree task known (way_states closed) links n.from.state w.state link c.tree (state_at closed link.parent n.from n.parent)
      n.step n.small (λ there. n.apart (closed_state closed w.state there)) in
      record {
        tree = subst (λ ss. IsTree task known ss (links ++ link ∷ [])) (sym (map-append (λ (v : Way). v.state) closed (w ∷ []))) grown;
        start = λ v at.
            elim (push_cases closed w 0 v at) [
              | inl h ↦ c.start v h
              | inr new ↦ absurd (omega (arith, new.0, many))
            ];
        sums = λ k l from to at at_from at_to.
            elim (push_cases links link k l at) [
              | inl old ↦
                  let before = slice_get_within links k l old in
                  elim (push_cases closed w (k + 1) to at_to) [
                    | inl to_old ↦
                        elim (push_cases closed w l.parent from at_from) [
                          | inl from_old ↦ c.sums k l from to old from_old to_old
                          | inr from_new ↦ absurd (omega (arith, from_new.0, c.tree.earlier.earlier k l old, before, many))
                        ]
                    | inr to_new ↦ absurd (omega (arith, to_new.0, before, many))
                  ]
              | inr new ↦
                  elim (push_cases closed w (k + 1) to at_to) [
                    | inl to_old ↦ absurd (omega (arith, slice_get_within closed (k + 1) to to_old, new.0, many))
                    | inr to_new ↦
                        let parent = subst (λ (m : Link). slice_get (closed ++ w ∷ []) m.parent ≡ Some from) new.1 at_from in
                        let same = one_there (closed ++ w ∷ []) link.parent from n.from parent
                        (get_append closed (w ∷ []) link.parent n.from n.parent) in
                        omega (
                          arith,
                          n.cost,
                          price,
                          ap (λ (v : Way). v.cost) to_new.1,
                          ap (λ (v : Way). v.cost) same,
                          ap (λ (m : Link). m.cost) new.1,
                        )
                  ]
            ];
        small = λ k v at.
            elim (push_cases closed w k v at) [
              | inl h ↦ c.small k v h
              | inr new ↦
                  omega (
                    arith,
                    new.0,
                    ap (λ (x : Way). x.cost) new.1,
                    price,
                    n.cost,
                    n.small,
                    c.small link.parent n.from n.parent,
                    within,
                  )
            ];
      }

  module _ (bound : Atoms → ℕ) where
    -- there are no more closed states than stored ones
    pub few_closed : (closed : List Way) (links : List Link) (states : List Atoms) (nodes : List Node)
        → AreClosedNodes task known closed links → AreNodes task known bound closed states nodes → length closed ≤ length states
    few_closed closed links states nodes c ns =
        let fit = pigeons (way_states closed) states c.tree.distinct (λ s there.
        let w = closed_state closed s there in subst (Contains states) w.3 (ns.stored w.0 w.1 w.2)) in
        omega (arith, fit, length_states closed)

    -- ---- a state is closed

    node_kept : (closed : List Way) (w : Way) (state : Atoms) (node : Node) (last : Option Link)
        → ¬ (w.state ≡ state) → IsNode task known bound closed state node last
        → IsNode task known bound (closed ++ w ∷ []) state node last
    node_kept closed w state node None other n = still_closed closed w state n
    node_kept closed w state node (Some link) other n = record {
      apart = λ d. elim (closed_cases closed w state d) [ inl h ↦ n.apart h | inr same ↦ other same ];
      from = n.from;
      parent = get_append closed (w ∷ []) link.parent n.from n.parent;
      step = n.step;
      small = n.small;
      cost = n.cost;
      left = n.left;
    }

    pub nodes_closed : (closed : List Way) (states : List Atoms) (nodes : List Node) (place : ℕ) (w : Way) (node : Node)
        → AreNodes task known bound closed states nodes → slice_get states place ≡ Some w.state
        → AreNodes task known bound (closed ++ w ∷ []) states (slice_set nodes place (closed_node node))
    nodes_closed closed states nodes place w node ns here = record {
      many = length_set nodes place (closed_node node) ∙ ns.many;
      distinct = ns.distinct;
      reached = ns.reached;
      stored = λ k v at.
          elim (push_cases closed w k v at) [
            | inl h ↦ ns.stored k v h
            | inr new ↦ subst (λ (x : Way). Contains states x.state) (sym new.1) (member_at states place w.state here)
          ];
      each = λ n state v at at_v.
          elim (set_cases nodes place (closed_node node) n v at_v) [
            | inl same ↦
                let there = subst (λ k. slice_get states k ≡ Some state) same.0 at in
                let is = last_closed closed w state (one_there states place w.state state here there) in
                subst (λ (x : Node). IsNode task known bound (closed ++ w ∷ []) state x x.last) (sym same.1) is
            | inr other ↦
                node_kept closed w state v v.last
                (λ same. other.0 (ns.distinct n place state at (subst (λ s. slice_get states place ≡ Some s) same here)))
                (ns.each n state v at other.1)
          ];
    }

    -- ---- a state is added

    pub nodes_added : (closed : List Way) (states : List Atoms) (nodes : List Node) (after : Atoms) (node : Node) (link : Link)
        → AreNodes task known bound closed states nodes → ¬ (Contains states after) → IsReached task known after
        → node.last ≡ Some link → IsOpenNode task known bound closed after node link
        → AreNodes task known bound closed (states ++ after ∷ []) (nodes ++ node ∷ [])
    nodes_added closed states nodes after node link ns fresh reached last is = record {
      many = omega (arith, ns.many, length-append states (after ∷ []), length-append nodes (node ∷ []));
      distinct = distinct_push states after ns.distinct fresh;
      reached = λ n state at.
          elim (push_cases states after n state at) [
            | inl h ↦ ns.reached n state h
            | inr new ↦ subst (IsReached task known) (sym new.1) reached
          ];
      stored = λ k w at. Contains-append_left states (after ∷ []) w.state (ns.stored k w at);
      each = λ n state v at at_v.
          elim (push_cases states after n state at) [
            | inl old ↦
                elim (push_cases nodes node n v at_v) [
                  | inl v_old ↦ ns.each n state v old v_old
                  | inr v_new ↦ absurd (omega (arith, slice_get_within states n state old, v_new.0, ns.many))
                ]
            | inr new ↦
                elim (push_cases nodes node n v at_v) [
                  | inl v_old ↦ absurd (omega (arith, slice_get_within nodes n v v_old, new.0, ns.many))
                  | inr v_new ↦
                      let here : IsNode task known bound closed after node node.last =
                      subst (IsNode task known bound closed after node) (sym last) is in
                      subst (λ s. IsNode task known bound closed s v v.last) (sym new.1)
                      (subst (λ (x : Node). IsNode task known bound closed after x x.last) (sym v_new.1) here)
                ]
          ];
    }

    -- ---- a cheaper way is found

    pub nodes_lowered : (closed : List Way) (states : List Atoms) (nodes now : List Node) (place cost : ℕ) (after : Atoms)
        (link : Link) → AreNodes task known bound closed states nodes → slice_get states place ≡ Some after
        → IsLowered nodes place cost link now
        → ((node : Node) → node.cost ≡ cost → node.left ≡ bound after → ¬ (IsClosedIn closed after)
        → IsOpenNode task known bound closed after node link)
        → AreNodes task known bound closed states now
    nodes_lowered closed states nodes now place cost after link ns here low is =
        let node = lowered low.was cost link in
        let was = subst (IsNode task known bound closed after low.was) low.there.1 (ns.each place after low.was here low.there.0) in
        let all : AreNodes task known bound closed states (slice_set nodes place node) = record {
          many = length_set nodes place node ∙ ns.many;
          distinct = ns.distinct;
          reached = ns.reached;
          stored = ns.stored;
          each = λ n state v at at_v.
              elim (set_cases nodes place node n v at_v) [
                | inl same ↦
                    let there = subst (λ k. slice_get states k ≡ Some state) same.0 at in
                    let held : IsNode task known bound closed after node (Some link) = is node refl was.left was.apart in
                    subst (λ s. IsNode task known bound closed s v v.last) (one_there states place after state here there)
                    (subst (λ (x : Node). IsNode task known bound closed after x x.last) (sym same.1) held)
                | inr other ↦ ns.each n state v at other.1
              ];
        } in
        subst (AreNodes task known bound closed states) (sym low.nodes) all

-- ---- the ways to open states

-- where a state is closed, the others stay open
pub ways_closed : (states : List Atoms) (nodes : List Node) (place : ℕ) (state : Atoms) (node : Node) (v : Way)
    → slice_get states place ≡ Some state → IsOpenWay states nodes v
    → (state ≡ v.state) ⊎ IsOpenWay states (slice_set nodes place (closed_node node)) v
ways_closed states nodes place state node v here o =
    elim (cases_order o.0 place) [
      | inl same ↦ inl (one_there states place state v.state here (subst (λ k. slice_get states k ≡ Some v.state) same o.3))
      | inr other ↦
          let apart : ¬ (o.0 ≡ place) = λ e. elim other [ inl less ↦ absurd (omega (arith, less, e)) | inr more ↦ absurd (omega (arith, more, e)) ] in
          inr (o.0, o.1, o.2, o.3, (get_set_other nodes place o.0 (closed_node node) apart ∙ o.4.0, o.4.1), o.5)
    ]

-- where a state is added, all stay open
pub ways_added : (states : List Atoms) (nodes : List Node) (after : Atoms) (node : Node) (v : Way)
    → IsOpenWay states nodes v → IsOpenWay (states ++ after ∷ []) (nodes ++ node ∷ []) v
ways_added states nodes after node v o =
    (o.0, o.1, o.2, get_append states (after ∷ []) o.0 v.state o.3, (get_append nodes (node ∷ []) o.0 o.1 o.4.0, o.4.1), o.5)

-- and it is open
pub way_added : (states : List Atoms) (nodes : List Node) (after : Atoms) (node : Node) (link : Link)
    → length nodes ≡ length states → node.last ≡ Some link
    → IsKnownFor (IsOpenWay (states ++ after ∷ []) (nodes ++ node ∷ [])) after node.cost
way_added states nodes after node link many last = (
  record { state = after; cost = node.cost },
  (length states, node, link, get_at_length states after, (get_pushed nodes node (length states) (sym many), last), refl),
  refl,
  omega arith,
)

-- where a cheaper way is found, all stay open, by ways that are no dearer
pub ways_lowered : (states : List Atoms) (nodes now : List Node) (place cost : ℕ) (link : Link) (v : Way)
    → Lowers nodes place cost link now → IsOpenWay states nodes v → IsKnownFor (IsOpenWay states now) v.state v.cost
ways_lowered states nodes now place cost link v (inr left) o =
    (v, subst (λ ns. IsOpenWay states ns v) (sym left.nodes) o, refl, omega arith)
ways_lowered states nodes now place cost link v (inl low) o =
    let node = lowered low.was cost link in
    elim (cases_order o.0 place) [
      | inl same ↦
          let there = subst (λ k. slice_get nodes k ≡ Some o.1) same o.4.0 in
          let was = ap (λ (x : Node). x.cost) (one_there nodes place low.was o.1 low.there.0 there) in
          let here = subst (λ k. slice_get states k ≡ Some v.state) same o.3 in
          let at = subst (λ ns. slice_get ns place ≡ Some node) (sym low.nodes) (get_set nodes place low.was node low.there.0) in (
            record { state = v.state; cost = cost },
            (place, node, link, here, (at, refl), refl),
            refl,
            omega (arith, low.dearer, was, o.5),
          )
      | inr other ↦
          let apart : ¬ (o.0 ≡ place) = λ e. elim other [ inl less ↦ absurd (omega (arith, less, e)) | inr more ↦ absurd (omega (arith, more, e)) ] in
          let at = subst (λ ns. slice_get ns o.0 ≡ Some o.1) (sym low.nodes) (get_set_other nodes place o.0 node apart ∙ o.4.0) in
          (v, (o.0, o.1, o.2, o.3, (at, o.4.1), o.5), refl, omega arith)
    ]

-- what is open at this place then costs no more than the way
no_dearer : (nodes now : List Node) (place cost : ℕ) (link : Link) (node : Node) (l : Link)
    → Lowers nodes place cost link now → IsOpenNodeAt now place node l → node.cost ≤ cost
no_dearer nodes now place cost link node l (inr left) is =
    left.cheap node l (subst (λ ns. IsOpenNodeAt ns place node l) left.nodes is)
no_dearer nodes now place cost link node l (inl low) is =
    let at = subst (λ ns. slice_get ns place ≡ Some node) low.nodes is.0 in
    let same = one_there (slice_set nodes place (lowered low.was cost link)) place node (lowered low.was cost link) at
    (get_set nodes place low.was (lowered low.was cost link) low.there.0) in
    omega (arith, ap (λ (x : Node). x.cost) same)

-- the state at this place is closed then, or known by a way that costs no more
module _ (task : Task) (known : Known) (bound : Atoms → ℕ) (closed : List Way) (states : List Atoms)
    (nodes now : List Node) (place cost : ℕ) (link : Link) (after : Atoms)
    (ns : AreNodes task known bound closed states now) (low : Lowers nodes place cost link now)
    (here : slice_get states place ≡ Some after) where
  reached_by : (node : Node) → slice_get now place ≡ Some node → (last : Option Link) → node.last ≡ last
      → IsNode task known bound closed after node last
      → IsClosedIn closed after ⊎ IsKnownFor (IsOpenWay states now) after cost
  reached_by node at None e is = inl is
  reached_by node at (Some l) e is =
      inr (
        record { state = after; cost = node.cost },
        (place, node, l, here, (at, e), refl),
        refl,
        no_dearer nodes now place cost link node l low (at, e),
      )

  pub lowered_known : IsClosedIn closed after ⊎ IsKnownFor (IsOpenWay states now) after cost
  lowered_known =
      let node = get_there now place (omega (arith, slice_get_within states place after here, ns.many)) in
      reached_by node.0 node.1 node.0.last refl (ns.each place after node.0 here node.1)
