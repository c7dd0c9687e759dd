-- How the explored states grow.
use Rattle.std.proofs.Common.{◌≡◌, ℕ, ◌+◌, ◌<◌, ◌≤◌, inl, inr, Bool, List, [], ◌∷◌, ◌++◌, length, length-append, sym, ap, subst, ◌∙◌, arith, Some, slice_get, Result, Ok, Err, OnOk}
use Rattle.std.proofs.lemmas.Bool.{cases_lt}
use Rattle.std.proofs.lemmas.List.Elements.{Contains-append_left}
use Rattle.std.proofs.lemmas.Option.{slice_get_within}
use Rattle.grounder.specs.Applicable.{AreApplicable}
use Rattle.lemmas.proofs.Members.{member_at, place_of, push_cases, get_append, get_single}
use Rattle.task_model.specs.Initial.{initial_state}
use Rattle.task_model.specs.Known.{Known}
use Rattle.task_model.specs.Plans.{IsGoal, IsReached, IsReachedWithin, MoreThan}
use Rattle.task_model.specs.State.{Atoms}
use Rattle.task_model.specs.Steps.{IsStep}
use Rattle.task_model.specs.declared.task.GroundAction.{GroundAction}
use Rattle.task_model.specs.declared.task.Task.{Task}
use Rattle.best_first.specs.Explored.{IsTree, ExploringEnds, IsExplored, IsGrown, IsMet, IsBeyond, LeadsToState}
use Rattle.best_first.specs.Outcome.{IsAll}
use Rattle.best_first.specs.declared.tree.Link.{Link}
use Rattle.lemmas.proofs.ListTests.{one_there, all_by_place}
use Rattle.best_first.proofs.TreesLemmas.{AreTaken, all_taken, closed_all, grown_tree, met_last, start_tree, still_there, taken_next}
use Rattle.best_first.proofs.ReachedLemmas.{within_more, within_reached, within_none, initially, within_step, within_last}

pub on_ok : {T E P : Type 0} (r : Result T E) → P → OnOk r P
on_ok (Ok x) p = p
on_ok (Err e) p = tt

module _ (task : Task) (known : Known) where
  -- ---- the initial state

  pub explored_start : (seeks : Bool) (limit : ℕ) → 1 ≤ limit
      → ¬ (ExploringEnds task known seeks (initial_state task))
      → IsExplored task known seeks limit (initial_state task ∷ []) [] 0
  explored_start seeks limit some open_end = record {
    level = 0;
    edge = 1;
    tree = start_tree task known;
    few = some;
    none_ends = λ n s e. subst (λ t. ¬ (ExploringEnds task known seeks t)) (get_single (initial_state task) s n e).1 open_end;
    expanded = λ n s after step cost h. absurd (omega arith);
    done_within = omega arith;
    edge_within = omega arith;
    inner = λ s r. (0, omega arith, ap Some (within_none task known s r));
    near = λ n s h e. subst (IsReachedWithin task known 0) (get_single (initial_state task) s n e).1 (initially task known);
    outer = λ n s e. within_more task known 0 (0 + 1) s
        (omega arith) (subst (IsReachedWithin task known 0) (get_single (initial_state task) s n e).1 (initially task known));
  }

  pub met_at_start : (seeks : Bool) (limit : ℕ)
      → ExploringEnds task known seeks (initial_state task)
      → IsMet task known seeks limit (initial_state task ∷ []) []
  met_at_start seeks limit ends = record {
    sought = ends.0;
    tree = start_tree task known;
    few = omega arith;
    goal = λ s e. subst (IsGoal task known) (get_single (initial_state task) s 0 e).1 ends.1;
    others = λ n s h e. absurd (omega arith);
  }

  -- ---- going on

  module _ (seeks : Bool) (limit : ℕ) where
    abbrev Ahead : List Atoms → List Link → ℕ → Type 0
    Ahead states links done =
        (e : IsExplored task known seeks limit states links done) × (done < e.edge)

    -- where a state is left to expand, the edge lies behind it
    forward : (states : List Atoms) (links : List Link) (done : ℕ)
        → IsExplored task known seeks limit states links done → done < length states
        → Ahead states links done
    forward states links done e left =
        elim (cases_lt done e.edge) [
          | inl ahead ↦ (e, ahead)
          | inr here ↦
              let next : IsExplored task known seeks limit states links done = record {
                level = e.level + 1;
                edge = length states;
                tree = e.tree;
                few = e.few;
                none_ends = e.none_ends;
                expanded = e.expanded;
                done_within = omega arith;
                edge_within = omega arith;
                inner = λ s r.
                    elim (within_last task known e.level s r) [
                      | inl w ↦ let at = e.inner s w in (at.0, omega (arith, at.1, e.edge_within), at.2)
                      | inr last ↦
                          let at = e.inner last.0 last.3 in
                          let c = e.expanded at.0 last.0 s last.1 last.2 (omega (arith, at.1, here)) at.2 last.4 in
                          let place = place_of states s c in
                          (place.0, slice_get_within states place.0 s place.1, place.1)
                    ];
                near = λ n s h at. e.outer n s at;
                outer = λ n s at. within_more task known (e.level + 1) (e.level + 1 + 1) s (omega arith) (e.outer n s at);
              } in
              (next, left)
        ]

    -- ---- one state more

    module _ (states : List Atoms) (links : List Link) (from id : ℕ) (g : IsGrown task known seeks limit states links from id) where
      was : Ahead g.before g.earlier from
      was = forward g.before g.earlier from g.explored (slice_get_within g.before from g.source g.here)

      tree_now : IsTree task known (g.before ++ g.after ∷ []) (g.earlier ++ g.link ∷ [])
      tree_now =
          grown_tree task known g.before g.earlier g.source g.after g.link g.explored.tree
          (subst (λ n. slice_get g.before n ≡ Some g.source) (sym g.parent) g.here) g.step g.small g.fresh

      -- each state is reached within one step more than the level
      each_within : (n : ℕ) (s : Atoms) → slice_get (g.before ++ g.after ∷ []) n ≡ Some s
          → IsReachedWithin task known ((was).0.level + 1) s
      unfolding was
      each_within n s e =
          let ahead = was in
          elim (push_cases g.before g.after n s e) [
            | inl h ↦ ahead.0.outer n s h
            | inr k ↦
                let source = ahead.0.near from g.source ahead.1 g.here in
                subst (IsReachedWithin task known (ahead.0.level + 1))
                (sym k.1) (within_step task known ahead.0.level g.source g.after g.link.step g.link.cost source g.step)
          ]

      grown : ¬ (ExploringEnds task known seeks g.after) → length (g.before ++ g.after ∷ []) ≤ limit
          → IsExplored task known seeks limit (g.before ++ g.after ∷ []) (g.earlier ++ g.link ∷ []) from
      grown open_end few =
          let e = (was).0 in
          record {
            level = e.level;
            edge = e.edge;
            tree = tree_now;
            few = few;
            none_ends =
                λ n s at. elim (push_cases g.before g.after n s at)
                [ inl h ↦ e.none_ends n s h | inr k ↦ subst (λ t. ¬ (ExploringEnds task known seeks t)) (sym k.1) open_end ];
            expanded = λ n s after step cost h at is.
                elim (push_cases g.before g.after n s at) [
                  | inl k ↦ Contains-append_left g.before (g.after ∷ []) after (e.expanded n s after step cost h k is)
                  | inr k ↦ absurd (omega (arith, k.0, e.done_within, e.edge_within, h))
                ];
            done_within = e.done_within;
            edge_within = omega (arith, e.edge_within, length-append g.before (g.after ∷ []));
            inner = λ s r. let at = e.inner s r in (at.0, at.1, get_append g.before (g.after ∷ []) at.0 s at.2);
            near = λ n s h at.
                elim (push_cases g.before g.after n s at) [
                  | inl k ↦ e.near n s h k
                  | inr k ↦ absurd (omega (arith, k.0, e.edge_within, h))
                ];
            outer = each_within;
          }

      -- the state was put behind the others
      pub grown_place : id + 1 ≡ length states
      grown_place =
          let place = subst (λ ss. slice_get ss id ≡ Some g.after) g.states_are g.place in
          let many = ap length g.states_are ∙ length-append g.before (g.after ∷ []) in
          elim (push_cases g.before g.after id g.after place) [
            | inl h ↦ absurd (g.fresh (member_at g.before id g.after h))
            | inr k ↦ omega (arith, k.0, many)
          ]

      pub grown_explored : ¬ (ExploringEnds task known seeks g.after) → length states ≤ limit
          → IsExplored task known seeks limit states links from
      grown_explored open_end few =
          let now = grown open_end (subst (λ ss. length ss ≤ limit) g.states_are few) in
          subst (λ ss. IsExplored task known seeks limit ss links from)
          (sym g.states_are) (subst (λ ls. IsExplored task known seeks limit (g.before ++ g.after ∷ []) ls from) (sym g.links_are) now)

      pub grown_met : ExploringEnds task known seeks g.after
          → IsMet task known seeks limit states links
      grown_met ends =
          let e = g.explored in
          let now = met_last task known seeks limit g.before (g.earlier ++ g.link ∷ []) g.after ends.0 tree_now e.few
          (λ n s at is. e.none_ends n s at (ends.0, is)) ends.1 in
          subst (λ ss. IsMet task known seeks limit ss links)
          (sym g.states_are) (subst (IsMet task known seeks limit (g.before ++ g.after ∷ [])) (sym g.links_are) now)

      pub grown_beyond : limit < length states → IsBeyond task known seeks limit
      grown_beyond more =
          let many : limit < length (g.before ++ g.after ∷ []) = subst (λ ss. limit < length ss) g.states_are more in
          let e = (was).0 in
          let reached : MoreThan limit (IsReached task known) = (
            g.before ++ g.after ∷ [],
            many,
            tree_now.distinct,
            all_by_place (IsReached task known)
                (g.before ++ g.after ∷ []) (λ n s at. within_reached task known (e.level + 1) s (each_within n s at)),
          ) in
          record {
            reached = reached;
            far = λ sought. record {
              reached = reached;
              nearer = λ steps cost valid.
                  elim (cases_lt e.level (length steps)) [
                    | inl deep ↦ (
                      g.before ++ g.after ∷ [],
                      many,
                      tree_now.distinct,
                      all_by_place (IsReachedWithin task known (length steps)) (g.before ++ g.after ∷ [])
                          (λ n s at. within_more task known (e.level + 1) (length steps) s (omega arith) (each_within n s at)),
                    )
                    | inr short ↦
                        let at = e.inner valid.0 (steps, cost, short, valid.1) in
                        absurd (e.none_ends at.0 valid.0 at.2 (sought, valid.2))
                  ];
            };
          }

    -- ---- one state, expanded

    -- The steps before this place lead to states that are there.
    pub record IsExpanding (states : List Atoms) (links : List Link) (from : ℕ) (state : Atoms) (steps : List GroundAction)
        (count : ℕ) : Type 0 where
      pub explored : IsExplored task known seeks limit states links from
      pub here : slice_get states from ≡ Some state
      pub kept : AreTaken task known states state steps count

    pub expanding_start : (states : List Atoms) (links : List Link) (from : ℕ) (state : Atoms) (steps : List GroundAction)
        → IsExplored task known seeks limit states links from → slice_get states from ≡ Some state
        → IsExpanding states links from state steps 0
    expanding_start states links from state steps e here =
        record { explored = e; here = here; kept = λ n step after cost h. absurd (omega arith) }

    pub expanding_next : (states : List Atoms) (links : List Link) (from : ℕ) (state : Atoms) (steps : List GroundAction)
        (count : ℕ) (new : List Atoms) (new_links : List Link) (step : GroundAction)
        → IsExpanding states links from state steps count → slice_get steps count ≡ Some step
        → IsExplored task known seeks limit new new_links from
        → LeadsToState task known states state step new
        → IsExpanding new new_links from state steps (count + 1)
    expanding_next states links from state steps count new new_links step is at e leads =
        record {
          explored = e;
          here = still_there task known states new state step from state leads is.here;
          kept = taken_next task known states new state steps count step is.kept at leads;
        }

    pub expanding_done : (states : List Atoms) (links : List Link) (from : ℕ) (state : Atoms) (steps : List GroundAction) (count : ℕ)
        → IsExpanding states links from state steps count → length steps ≤ count
        → AreApplicable task known state steps
        → IsExplored task known seeks limit states links (from + 1)
    expanding_done states links from state steps count is end are =
        let ahead = forward states links from is.explored (slice_get_within states from state is.here) in
        let e = ahead.0 in
        record {
          level = e.level;
          edge = e.edge;
          tree = e.tree;
          few = e.few;
          none_ends = e.none_ends;
          expanded = λ n s after step cost h at taken.
              elim (cases_lt n from) [
                | inl earlier ↦ e.expanded n s after step cost earlier at taken
                | inr now ↦
                    let place : n ≡ from = omega arith in
                    let same : s ≡ state = one_there states from s state (subst (λ k. slice_get states k ≡ Some s) place at) is.here in
                    let taken_here = subst (λ b. IsStep task known b step after cost) same taken in
                    all_taken task known states state steps count is.kept end are step after cost taken_here
              ];
          done_within = omega (arith, ahead.1);
          edge_within = e.edge_within;
          inner = e.inner;
          near = e.near;
          outer = e.outer;
        }

    -- ---- all states

    pub explored_all : (states : List Atoms) (links : List Link) (done : ℕ)
        → IsExplored task known seeks limit states links done → length states ≤ done
        → IsAll task known seeks limit
    explored_all states links done e all =
        closed_all task known seeks limit states links e.tree e.few e.none_ends
        (λ n s after step cost at is. e.expanded n s after step cost (omega (arith, slice_get_within states n s at, all)) at is)
