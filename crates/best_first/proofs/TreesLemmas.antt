-- Trees of states, and how they grow.
use Rattle.std.proofs.Common.{◌≡◌, ℕ, ◌+◌, ◌<◌, ◌≤◌, inl, inr, Bool, true, List, [], ◌∷◌, ◌++◌, length, length-append, refl, sym, subst, ◌∙◌, arith, Option, None, Some, slice_get, Contains}
use Rattle.std.proofs.lemmas.Bool.{cases_lt}
use Rattle.std.proofs.lemmas.List.{append-nil}
use Rattle.std.proofs.lemmas.List.Elements.{All-contains, Contains-append_left}
use Rattle.std.proofs.lemmas.Option.{slice_get_within}
use Rattle.grounder.specs.Applicable.{AreApplicable}
use Rattle.lemmas.proofs.ListTests.{one_there}
use Rattle.lemmas.proofs.Members.{distinct_push, get_append, get_pushed, get_single, member_at, place_of, push_cases}
use Rattle.lemmas.proofs.Options.{none_at}
use Rattle.lemmas.proofs.Pigeonhole.{pigeons}
use Rattle.task_model.proofs.StepsLemmas.{step_determined}
use Rattle.task_model.specs.Initial.{initial_state}
use Rattle.task_model.specs.Known.{Known}
use Rattle.task_model.specs.Plans.{Executes, IsGoal, IsReached}
use Rattle.task_model.specs.State.{Atoms}
use Rattle.task_model.specs.Steps.{IsStep}
use Rattle.task_model.specs.declared.task.GroundAction.{GroundAction}
use Rattle.task_model.specs.declared.task.Task.{Task}
use Rattle.best_first.specs.Explored.{ExploringEnds, GrowsByStep, IsLink, IsMet, IsTree, LeadsToState}
use Rattle.best_first.specs.Outcome.{IsAll}
use Rattle.best_first.specs.declared.tree.Link.{Link}

module _ (task : Task) (known : Known) where
  -- ---- trees

  pub start_tree : IsTree task known (initial_state task ∷ []) []
  start_tree = record {
    first = refl;
    distinct = λ i j x e f. (get_single (initial_state task) x i e).0 ∙ sym (get_single (initial_state task) x j f).0;
    linked = refl;
    earlier = record { earlier = λ n link e. absurd (none_at n link e); small = λ n link e. absurd (none_at n link e) };
    each = λ n link e. absurd (none_at n link e);
  }

  link_on : (states more : List Atoms) (n : ℕ) (link : Link) → IsLink task known states n link
      → IsLink task known (states ++ more) n link
  link_on states more n link l = record {
    before = l.before;
    after = l.after;
    from = get_append states more link.parent l.before l.from;
    to = get_append states more (n + 1) l.after l.to;
    step = l.step;
  }

  pub grown_tree : (states : List Atoms) (links : List Link) (source after : Atoms) (link : Link)
      → IsTree task known states links → slice_get states link.parent ≡ Some source
      → IsStep task known source link.step after link.cost → link.cost ≤ 262144000000
      → ¬ (Contains states after) → IsTree task known (states ++ after ∷ []) (links ++ link ∷ [])
  grown_tree states links source after link tree here is small fresh =
      let within = slice_get_within states link.parent source here in
      record {
        first = get_append states (after ∷ []) 0 (initial_state task) tree.first;
        distinct = distinct_push states after tree.distinct fresh;
        linked = omega (arith, length-append states (after ∷ []), length-append links (link ∷ []), tree.linked);
        earlier = record {
          earlier = λ n l e.
              elim (push_cases links link n l e) [
                | inl h ↦ tree.earlier.earlier n l h
                | inr k ↦ subst (λ (m : Link). m.parent ≤ n) (sym k.1) (omega (arith, within, tree.linked, k.0))
              ];
          small = λ n l e.
              elim (push_cases links link n l e) [
                | inl h ↦ tree.earlier.small n l h
                | inr k ↦ subst (λ (m : Link). m.cost ≤ 262144000000) (sym k.1) small
              ];
        };
        each = λ n l e.
            elim (push_cases links link n l e) [
              | inl h ↦ link_on states (after ∷ []) n l (tree.each n l h)
              | inr k ↦
                  let one : IsLink task known (states ++ after ∷ []) n link = record {
                    before = source;
                    after = after;
                    from = get_append states (after ∷ []) link.parent source here;
                    to = get_pushed states after (n + 1) (omega (arith, k.0, tree.linked));
                    step = is;
                  } in
                  subst (IsLink task known (states ++ after ∷ []) n) (sym k.1) one
            ];
      }

  -- ---- steps that were taken

  -- the steps before this place lead to states that are there
  abbrev pub AreTaken : List Atoms → Atoms → List GroundAction → ℕ → Type 0
  AreTaken states state steps count =
      (n : ℕ) (step : GroundAction) (after : Atoms) (cost : ℕ) → n < count
      → slice_get steps n ≡ Some step → IsStep task known state step after cost
      → Contains states after

  pub still_there : (states new : List Atoms) (source : Atoms) (step : GroundAction) (n : ℕ) (s : Atoms)
      → LeadsToState task known states source step new → slice_get states n ≡ Some s
      → slice_get new n ≡ Some s
  still_there states new source step n s leads here =
      subst (λ ss. slice_get ss n ≡ Some s) (sym leads.states_are) (get_append states leads.more n s here)

  pub taken_next : (states new : List Atoms) (state : Atoms) (steps : List GroundAction) (count : ℕ) (step : GroundAction)
      → AreTaken states state steps count → slice_get steps count ≡ Some step
      → LeadsToState task known states state step new → AreTaken new state steps (count + 1)
  taken_next states new state steps count step before at leads n other after cost h found taken =
      elim (cases_lt n count) [
        | inl earlier ↦
            subst (λ ss. Contains ss after) (sym leads.states_are)
            (Contains-append_left states leads.more after (before n other after cost earlier found taken))
        | inr now ↦
            let place : n ≡ count = omega arith in
            let same : other ≡ step =
            one_there steps count other step (subst (λ k. slice_get steps k ≡ Some other) place found) at in
            let there =
            step_determined task known state leads.after after step leads.cost cost leads.leads
            (subst (λ x. IsStep task known state x after cost) same taken) in
            subst (Contains new) there.0 leads.there
      ]

  pub all_taken : (states : List Atoms) (state : Atoms) (steps : List GroundAction) (count : ℕ)
      → AreTaken states state steps count → length steps ≤ count → AreApplicable task known state steps
      → (step : GroundAction) (after : Atoms) (cost : ℕ) → IsStep task known state step after cost
      → Contains states after
  all_taken states state steps count before end are step after cost taken =
      let listed = place_of steps step (are.every step (after, cost, taken)) in
      before listed.0 step after cost (omega (arith, slice_get_within steps listed.0 step listed.1, end)) listed.1 taken

  -- what a step does to the states leads there
  pub grows_leads : (before : List Atoms) (earlier : List Link) (from : ℕ) (source : Atoms) (step : GroundAction)
      (states : List Atoms) (links : List Link) (found : Option (ℕ × ℕ))
      → GrowsByStep task known before earlier from source step states links found
      → LeadsToState task known before source step states
  grows_leads before earlier from source step states links (Some found) g = record {
    more = g.after ∷ [];
    states_are = g.states_are;
    after = g.after;
    cost = found.1;
    leads = g.leads;
    there = member_at states found.0 g.after g.place;
  }
  grows_leads before earlier from source step states links None g = record {
    more = [];
    states_are = g.states_are ∙ sym (append-nil before);
    after = g.after;
    cost = g.cost;
    leads = g.leads;
    there = subst (λ ss. Contains ss g.after) (sym g.states_are) g.there;
  }

  -- ---- the goal

  -- the state behind the others is the only one that meets the goal
  pub met_last : (seeks : Bool) (limit : ℕ) (states : List Atoms) (links : List Link) (after : Atoms) → seeks ≡ true
      → IsTree task known (states ++ after ∷ []) links → length states ≤ limit
      → ((n : ℕ) (s : Atoms) → slice_get states n ≡ Some s → ¬ (IsGoal task known s))
      → IsGoal task known after → IsMet task known seeks limit (states ++ after ∷ []) links
  met_last seeks limit states links after sought tree few none goal =
      let many : length links ≡ length states = omega (arith, length-append states (after ∷ []), tree.linked) in
      record {
        sought = sought;
        tree = tree;
        few = omega (arith, many, few);
        goal = λ s at. subst (IsGoal task known)
            (one_there (states ++ after ∷ []) (length links) after s (get_pushed states after (length links) many) at)
            goal;
        others = λ n s h at is.
            elim (push_cases states after n s at) [
              | inl k ↦ none n s k is
              | inr k ↦ absurd (omega (arith, k.0, many, h))
            ];
      }

  -- ---- all states

  -- each step from each of the states leads to one of them
  abbrev pub AreClosed : List Atoms → Type 0
  AreClosed states =
      (n : ℕ) (s after : Atoms) (step : GroundAction) (cost : ℕ) → slice_get states n ≡ Some s
      → IsStep task known s step after cost → Contains states after

  closed : (states : List Atoms) → AreClosed states → (steps : List GroundAction) (before after : Atoms) (cost : ℕ)
      → Contains states before → Executes task known before steps after cost → Contains states after
  closed states all [] before after cost c x = subst (Contains states) x.0 c
  closed states all (step ∷ steps) before after cost c x =
      let at = place_of states before c in
      closed states all steps x.0 after x.2 (all at.0 before x.0 step x.1 at.1 x.3) x.4

  pub closed_all : (seeks : Bool) (limit : ℕ) (states : List Atoms) (links : List Link) → IsTree task known states links
      → length states ≤ limit
      → ((n : ℕ) (s : Atoms) → slice_get states n ≡ Some s → ¬ (ExploringEnds task known seeks s))
      → AreClosed states → IsAll task known seeks limit
  closed_all seeks limit states links tree few none all =
      let start : Contains states (initial_state task) = member_at states 0 (initial_state task) tree.first in
      record {
        few = λ more.
            let bound = pigeons more.0 states more.2 (λ x c.
            let r = All-contains (IsReached task known) more.0 x more.3 c in
            closed states all r.0 (initial_state task) x r.1 start r.2) in
            absurd (omega (arith, bound, more.1, few));
        none = λ sought solvable.
            let valid = solvable.2 in
            let c = closed states all solvable.0 (initial_state task) valid.0 solvable.1 start valid.1 in
            let at = place_of states valid.0 c in
            none at.0 valid.0 at.1 (sought, valid.2);
      }
