-- How a frontier grows.
use Rattle.std.proofs.Common.{◌≡◌, ℕ, ◌+◌, ◌<◌, ◌≤◌, ◌⊎◌, inl, inr, Bool, true, false, List, [], ◌∷◌, ◌++◌, length, length-append, refl, sym, ap, subst, ◌∙◌, arith, Some, slice_get, Contains}
use Rattle.std.proofs.lemmas.Bool.{false≢true}
use Rattle.std.proofs.lemmas.List.Elements.{Contains-append_left}
use Rattle.std.proofs.lemmas.List.Sorted.{Contains-permutation, IsPermutation-sym, length_permutation}
use Rattle.std.specs.List.Sorted.{IsPermutation}
use Rattle.std.specs.declared.cmp.Reverse.{Reverse}
use Rattle.grounder.specs.Applicable.{AreApplicable}
use Rattle.lemmas.proofs.Ascending.{contains_cases, contains_here, contains_later}
use Rattle.lemmas.proofs.ListTests.{one_there}
use Rattle.lemmas.proofs.Members.{get_single, member_at, push_cases}
use Rattle.task_model.specs.Initial.{initial_state}
use Rattle.task_model.specs.Known.{Known}
use Rattle.task_model.specs.Plans.{IsGoal}
use Rattle.task_model.specs.State.{Atoms}
use Rattle.task_model.specs.Steps.{IsStep}
use Rattle.task_model.specs.declared.task.GroundAction.{GroundAction}
use Rattle.task_model.specs.declared.task.Task.{Task}
use Rattle.best_first.proofs.TreesLemmas.{AreTaken, all_taken, closed_all, grown_tree, met_last, start_tree, still_there, taken_next}
use Rattle.best_first.specs.Explored.{IsAdded, IsMet, IsTree, LeadsToState}
use Rattle.best_first.specs.Frontiers.{IsExpanded, IsFrontier, IsOpen, IsWidened, in_heap}
use Rattle.best_first.specs.Outcome.{IsAll}
use Rattle.best_first.specs.declared.best.Open.{Open}
use Rattle.best_first.specs.declared.tree.Link.{Link}

-- ---- open states

-- in the place of an open state may stand its equal
open_into : (n : ℕ) (queue now : List (Reverse Open))
    → ((entry : Reverse Open) → Contains queue entry → Contains now entry) → IsOpen n queue → IsOpen n now
open_into n queue now into is = (is.0, into is.0 is.1, is.2)

-- what was pushed may stand behind the one that is expanded
pushed_into : (from entry : Reverse Open) (queue now : List (Reverse Open)) → IsPermutation (entry ∷ queue) now
    → (other : Reverse Open) → Contains (entry ∷ from ∷ queue) other → Contains (from ∷ now) other
pushed_into from entry queue now p other c =
    elim (contains_cases entry (from ∷ queue) other c) [
      | inl same ↦
          contains_later from now other
          (Contains-permutation (entry ∷ queue) now other p (subst (Contains (entry ∷ queue)) same (contains_here entry queue)))
      | inr rest ↦
          elim (contains_cases from queue other rest) [
            | inl same ↦ subst (Contains (from ∷ now)) same (contains_here from now)
            | inr k ↦ contains_later from now other (Contains-permutation (entry ∷ queue) now other p (contains_later entry queue other k))
          ]
    ]

pushed_from : (from entry : Reverse Open) (queue now : List (Reverse Open)) → IsPermutation (entry ∷ queue) now
    → (other : Reverse Open) → Contains (from ∷ now) other → Contains (entry ∷ from ∷ queue) other
pushed_from from entry queue now p other c =
    elim (contains_cases from now other c) [
      | inl same ↦ contains_later entry (from ∷ queue) other (subst (Contains (from ∷ queue)) same (contains_here from queue))
      | inr rest ↦
          elim
          (contains_cases entry queue other
          (Contains-permutation now (entry ∷ queue) other (IsPermutation-sym (entry ∷ queue) now p) rest)) [
            | inl same ↦ subst (Contains (entry ∷ from ∷ queue)) same (contains_here entry (from ∷ queue))
            | inr k ↦ contains_later entry (from ∷ queue) other (contains_later from queue other k)
          ]
    ]

module _ (task : Task) (known : Known) where
  -- ---- a state that was added

  module _ (before : List Atoms) (earlier : List Link) (from : ℕ) (source : Atoms) (step : GroundAction)
      (states : List Atoms) (links : List Link) (id cost : ℕ)
      (added : IsAdded task known before earlier from source step states links id cost) where
    pub added_place : id ≡ length before
    added_place =
        elim (push_cases before added.after id added.after
        (subst (λ ss. slice_get ss id ≡ Some added.after) added.states_are added.place)) [
          | inl h ↦ absurd (added.fresh (member_at before id added.after h))
          | inr k ↦ k.0
        ]

    pub added_count : length states ≡ length before + 1
    added_count = ap length added.states_are ∙ length-append before (added.after ∷ [])

    added_tree : IsTree task known before earlier → slice_get before from ≡ Some source
        → IsTree task known (before ++ added.after ∷ []) links
    added_tree tree here =
        let link : Link = record { parent = from; step = step; cost = cost } in
        subst (IsTree task known (before ++ added.after ∷ [])) (sym added.links_are)
        (grown_tree task known before earlier source added.after link tree here added.leads added.small added.fresh)

  module _ (limit : ℕ) where
    -- ---- the same open states in another order

    frontier_moved : (states : List Atoms) (links : List Link) (queue now : List (Reverse Open))
        → ((entry : Reverse Open) → Contains queue entry → Contains now entry)
        → ((entry : Reverse Open) → Contains now entry → Contains queue entry) → length now ≡ length queue
        → IsFrontier task known limit states links queue → IsFrontier task known limit states links now
    frontier_moved states links queue now into back many f = record {
      tree = f.tree;
      few = f.few;
      once = omega (arith, many, f.once);
      none_meets = f.none_meets;
      places = λ entry c. f.places entry (back entry c);
      each = λ n s at. elim (f.each n s at) [ inl is ↦ inl (open_into n queue now into is) | inr done ↦ inr done ];
    }

    pub frontier_permuted : (states : List Atoms) (links : List Link) (queue now : List (Reverse Open)) → IsPermutation queue now
        → IsFrontier task known limit states links queue → IsFrontier task known limit states links now
    frontier_permuted states links queue now p =
        frontier_moved states links queue now (λ entry. Contains-permutation queue now entry p)
        (λ entry. Contains-permutation now queue entry (IsPermutation-sym queue now p)) (length_permutation queue now p)

    pub frontier_pushed : (states : List Atoms) (links : List Link) (from entry : Reverse Open) (queue now : List (Reverse Open))
        → IsPermutation (entry ∷ queue) now → IsFrontier task known limit states links (entry ∷ from ∷ queue)
        → IsFrontier task known limit states links (from ∷ now)
    frontier_pushed states links from entry queue now p =
        let many : length (from ∷ now) ≡ length (entry ∷ from ∷ queue) = omega (arith, length_permutation (entry ∷ queue) now p) in
        frontier_moved states links (entry ∷ from ∷ queue) (from ∷ now) (pushed_into from entry queue now p)
        (pushed_from from entry queue now p) many

    -- ---- the initial state

    pub frontier_start : (entry : Reverse Open) → 1 ≤ limit → entry.0.place ≡ 0
        → ¬ (IsGoal task known (initial_state task))
        → IsFrontier task known limit (initial_state task ∷ []) [] (entry ∷ [])
    frontier_start entry some first open_end = record {
      tree = start_tree task known;
      few = some;
      once = omega arith;
      none_meets = λ n s e. subst (λ t. ¬ (IsGoal task known t)) (get_single (initial_state task) s n e).1 open_end;
      places = λ other c.
          elim (contains_cases entry [] other c) [
            | inl same ↦ subst (λ (o : Reverse Open). o.0.place < 1) same (omega (arith, first))
            | inr none ↦ absurd (omega (arith, none.1))
          ];
      each = λ n s e. inl (entry, contains_here entry [], first ∙ sym (get_single (initial_state task) s n e).0);
    }

    pub frontier_begun : (states : List Atoms) (links : List Link) (queue now : List (Reverse Open)) (entry : Reverse Open)
        → states ≡ initial_state task ∷ [] → links ≡ [] → queue ≡ [] → IsPermutation (entry ∷ queue) now
        → entry.0.place ≡ 0 → 1 ≤ limit
        → ((s : Atoms) → slice_get states 0 ≡ Some s → ¬ (IsGoal task known s))
        → IsFrontier task known limit states links now
    frontier_begun states links queue now entry states_are links_are none p first some open_end =
        let initially : ¬ (IsGoal task known (initial_state task)) =
        open_end (initial_state task) (ap (λ ss. slice_get ss 0) states_are) in
        let one : IsFrontier task known limit states links (entry ∷ []) =
        subst (λ ss. IsFrontier task known limit ss links (entry ∷ [])) (sym states_are)
        (subst (λ ls. IsFrontier task known limit (initial_state task ∷ []) ls (entry ∷ [])) (sym links_are)
        (frontier_start entry some first initially)) in
        frontier_permuted states links (entry ∷ []) now (subst (λ qs. IsPermutation (entry ∷ qs) now) none p) one

    -- ---- one state more

    module _ (states : List Atoms) (links : List Link) (queue : List (Reverse Open)) (place cost : ℕ)
        (w : IsWidened task known limit states links queue place cost) where
      old_count : length states ≡ length w.before + 1
      old_count = added_count w.before w.earlier w.from w.source w.step states links place cost w.added

      old_place : place ≡ length w.before
      old_place = added_place w.before w.earlier w.from w.source w.step states links place cost w.added

      tree_now : IsTree task known (w.before ++ w.added.after ∷ []) links
      tree_now = added_tree w.before w.earlier w.from w.source w.step states links place cost w.added w.frontier.tree w.here

      each_now : (entry : Reverse Open) → entry.0.place ≡ place → (n : ℕ) (s : Atoms)
          → slice_get (w.before ++ w.added.after ∷ []) n ≡ Some s
          → IsOpen n (entry ∷ queue) ⊎ IsExpanded task known (w.before ++ w.added.after ∷ []) s
      each_now entry is n s at =
          elim (push_cases w.before w.added.after n s at) [
            | inl h ↦
                elim (w.frontier.each n s h) [
                  | inl o ↦ inl (open_into n queue (entry ∷ queue) (contains_later entry queue) o)
                  | inr all ↦
                      inr (λ step after c taken. Contains-append_left w.before (w.added.after ∷ []) after (all step after c taken))
                ]
            | inr k ↦ inl (entry, contains_here entry queue, is ∙ old_place ∙ sym k.0)
          ]

      pub widened_open : (entry : Reverse Open) → entry.0.place ≡ place → place < limit
          → ((s : Atoms) → slice_get states place ≡ Some s → ¬ (IsGoal task known s))
          → IsFrontier task known limit states links (entry ∷ queue)
      widened_open entry is within open_end =
          let f = w.frontier in
          let now : IsFrontier task known limit (w.before ++ w.added.after ∷ []) links (entry ∷ queue) = record {
            tree = tree_now;
            few = omega (arith, length-append w.before (w.added.after ∷ []), old_place, within);
            once = omega (arith, length-append w.before (w.added.after ∷ []), f.once);
            none_meets = λ n s at.
                elim (push_cases w.before w.added.after n s at) [
                  | inl h ↦ f.none_meets n s h
                  | inr k ↦ subst (λ t. ¬ (IsGoal task known t)) (sym k.1) (open_end w.added.after w.added.place)
                ];
            places = λ other c.
                elim (contains_cases entry queue other c) [
                  | inl same ↦
                      subst (λ (o : Reverse Open). o.0.place < length (w.before ++ w.added.after ∷ [])) same
                      (omega (arith, length-append w.before (w.added.after ∷ []), is, old_place))
                  | inr k ↦ omega (arith, length-append w.before (w.added.after ∷ []), f.places other k)
                ];
            each = each_now entry is;
          } in
          subst (λ ss. IsFrontier task known limit ss links (entry ∷ queue)) (sym w.added.states_are) now

      pub widened_met : ((s : Atoms) → slice_get states place ≡ Some s → IsGoal task known s)
          → IsMet task known true limit states links
      widened_met goal =
          let now = met_last task known true limit w.before links w.added.after refl tree_now w.frontier.few w.frontier.none_meets
          (goal w.added.after w.added.place) in
          subst (λ ss. IsMet task known true limit ss links) (sym w.added.states_are) now

    -- the state that was added is open
    pub widened_pushed : (states : List Atoms) (links : List Link) (from : Reverse Open) (heap : List (Reverse Open)) (place cost : ℕ)
        → IsWidened task known limit states links (from ∷ heap) place cost
        → (entry : Reverse Open) (now : List (Reverse Open)) → IsPermutation (entry ∷ heap) now
        → entry.0.place ≡ place → place < limit
        → ((s : Atoms) → slice_get states place ≡ Some s → ¬ (IsGoal task known s))
        → IsFrontier task known limit states links (from ∷ now)
    widened_pushed states links from heap place cost w entry now p is within open_end =
        frontier_pushed states links from entry heap now p
        (widened_open states links (from ∷ heap) place cost w entry is within open_end)

    -- ---- one state, expanded

    -- Where all steps before this place were taken, they lead to states that are there.
    pub record IsVisiting (states : List Atoms) (links : List Link) (queue : List (Reverse Open)) (from : Open)
        (state : Atoms) (steps : List GroundAction) (all : Bool) (count : ℕ) : Type 0 where
      pub frontier : IsFrontier task known limit states links (in_heap from ∷ queue)
      pub here : slice_get states from.place ≡ Some state
      pub taken : all ≡ true → AreTaken task known states state steps count

    pub visiting_start : (states : List Atoms) (links : List Link) (queue : List (Reverse Open)) (from : Open) (state : Atoms)
        (steps : List GroundAction) → IsFrontier task known limit states links (in_heap from ∷ queue)
        → slice_get states from.place ≡ Some state
        → IsVisiting states links queue from state steps true 0
    visiting_start states links queue from state steps f here =
        record { frontier = f; here = here; taken = λ is n step after cost h. absurd (omega arith) }

    -- a step is left for later
    pub visiting_past : (states : List Atoms) (links : List Link) (queue : List (Reverse Open)) (from : Open)
        (state : Atoms) (steps : List GroundAction) (all : Bool) (count : ℕ)
        → IsVisiting states links queue from state steps all count
        → IsVisiting states links queue from state steps false (count + 1)
    visiting_past states links queue from state steps all count v =
        record { frontier = v.frontier; here = v.here; taken = λ is. absurd (false≢true is) }

    pub visiting_next : (states : List Atoms) (links : List Link) (queue : List (Reverse Open)) (from : Open)
        (state : Atoms) (steps : List GroundAction) (all : Bool) (count : ℕ) (new : List Atoms) (new_links : List Link)
        (now : List (Reverse Open)) (step : GroundAction)
        → IsVisiting states links queue from state steps all count → slice_get steps count ≡ Some step
        → IsFrontier task known limit new new_links (in_heap from ∷ now)
        → LeadsToState task known states state step new
        → IsVisiting new new_links now from state steps all (count + 1)
    visiting_next states links queue from state steps all count new new_links now step v at f leads = record {
      frontier = f;
      here = still_there task known states new state step from.place state leads v.here;
      taken = λ is. taken_next task known states new state steps count step (v.taken is) at leads;
    }

    -- the state that was expanded is open still, with another rank
    pub frontier_back : (states : List Atoms) (links : List Link) (queue now : List (Reverse Open)) (from again : Open)
        → IsFrontier task known limit states links (in_heap from ∷ queue) → again.place ≡ from.place
        → IsPermutation (in_heap again ∷ queue) now → IsFrontier task known limit states links now
    frontier_back states links queue now from again f same p =
        let open_again : IsFrontier task known limit states links (in_heap again ∷ queue) = record {
          tree = f.tree;
          few = f.few;
          once = omega (arith, f.once);
          none_meets = f.none_meets;
          places = λ entry c.
              elim (contains_cases (in_heap again) queue entry c) [
                | inl is ↦
                    subst (λ (o : Reverse Open). o.0.place < length states) is
                    (subst (λ n. n < length states) (sym same) (f.places (in_heap from) (contains_here (in_heap from) queue)))
                | inr k ↦ f.places entry (contains_later (in_heap from) queue entry k)
              ];
          each = λ n s at.
              elim (f.each n s at) [
                | inr done ↦ inr done
                | inl is ↦
                    elim (contains_cases (in_heap from) queue is.0 is.1) [
                      | inr k ↦ inl (is.0, contains_later (in_heap again) queue is.0 k, is.2)
                      | inl found ↦
                          inl (
                            in_heap again,
                            contains_here (in_heap again) queue,
                            same ∙ ap (λ (o : Reverse Open). o.0.place) found ∙ is.2,
                          )
                    ]
              ];
        } in
        frontier_permuted states links (in_heap again ∷ queue) now p open_again

    pub visiting_done : (states : List Atoms) (links : List Link) (queue : List (Reverse Open)) (from : Open)
        (state : Atoms) (steps : List GroundAction) (count : ℕ)
        → IsVisiting states links queue from state steps true count → length steps ≤ count
        → AreApplicable task known state steps → IsFrontier task known limit states links queue
    visiting_done states links queue from state steps count v end are =
        let f = v.frontier in
        record {
          tree = f.tree;
          few = f.few;
          once = omega (arith, f.once);
          none_meets = f.none_meets;
          places = λ entry c. f.places entry (contains_later (in_heap from) queue entry c);
          each = λ n s at.
              elim (f.each n s at) [
                | inr done ↦ inr done
                | inl is ↦
                    elim (contains_cases (in_heap from) queue is.0 is.1) [
                      | inr k ↦ inl (is.0, k, is.2)
                      | inl same ↦
                          let place : n ≡ from.place = sym is.2 ∙ sym (ap (λ (o : Reverse Open). o.0.place) same) in
                          let found : s ≡ state =
                          one_there states from.place s state (subst (λ k. slice_get states k ≡ Some s) place at) v.here in
                          inr (λ step after cost taken.
                          all_taken task known states state steps count (v.taken refl) end are step after cost
                          (subst (λ b. IsStep task known b step after cost) found taken))
                    ]
              ];
        }

    -- ---- no state is open

    pub frontier_closed : (states : List Atoms) (links : List Link) (queue : List (Reverse Open)) → length queue ≤ 0
        → IsFrontier task known limit states links queue → IsAll task known true limit
    frontier_closed states links queue none f =
        closed_all task known true limit states links f.tree f.few (λ n s at ends. f.none_meets n s at ends.1)
        (λ n s after step cost at taken.
        elim (f.each n s at) [
          | inl is ↦ absurd (omega (arith, is.1.1, none))
          | inr done ↦ done step after cost taken
        ])
