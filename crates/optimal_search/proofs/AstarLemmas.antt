-- The search for a cheapest plan (A*, with a consistent bound): ways out of the closed states, open states of least
-- rank, and how states are closed.
use Rattle.std.proofs.Common.{◌≡◌, ℕ, ◌+◌, ◌≤◌, ◌⊎◌, inl, inr, List, [], ◌∷◌, ◌++◌, length, refl, sym, ap, subst, ◌∙◌, arith, Some, slice_get}
use Rattle.std.proofs.lemmas.Bool.{cases_lt}
use Rattle.std.proofs.lemmas.Option.{slice_get_within}
use Rattle.grounder.specs.Applicable.{AreApplicable}
use Rattle.lemmas.proofs.ListTests.{one_there}
use Rattle.lemmas.proofs.Members.{get_append, get_pushed, place_of, push_cases}
use Rattle.task_model.proofs.StepsLemmas.{step_determined, whole_of_parts}
use Rattle.task_model.specs.Initial.{initial_state}
use Rattle.task_model.specs.Known.{Known}
use Rattle.task_model.specs.Plans.{Executes, IsGoal, IsReached, IsSolvable, IsValid}
use Rattle.task_model.specs.State.{Atoms}
use Rattle.task_model.specs.Steps.{IsStep}
use Rattle.task_model.specs.declared.task.GroundAction.{GroundAction}
use Rattle.task_model.specs.declared.task.Task.{Task}
use Rattle.optimal_search.specs.Astar.{EachPassed, IsClosedIn, IsKnownFor, IsSearched, PassedBefore, PassedTo, Way}
use Rattle.optimal_search.specs.Consistent.{IsConsistent}

-- no open way has a lesser sum of what it costs and the bound
abbrev pub IsLeastOpen : (Atoms → ℕ) → (Way → Type 0) → Way → Type 0
IsLeastOpen bound IsOpen w = (v : Way) → IsOpen v → w.cost + bound w.state ≤ v.cost + bound v.state

-- a closed state stays closed
pub still_closed : (closed : List Way) (w : Way) (state : Atoms) → IsClosedIn closed state
    → IsClosedIn (closed ++ w ∷ []) state
still_closed closed w state d = (d.0, d.1, get_append closed (w ∷ []) d.0 d.1 d.2, d.3)

-- what is closed with one way more was closed, or is its state
pub closed_cases : (closed : List Way) (w : Way) (state : Atoms) → IsClosedIn (closed ++ w ∷ []) state
    → IsClosedIn closed state ⊎ (w.state ≡ state)
closed_cases closed w state d =
    elim (push_cases closed w d.0 d.1 d.2) [
      | inl h ↦ inl (d.0, d.1, h, d.3)
      | inr k ↦ inr (sym (ap (λ (v : Way). v.state) k.1) ∙ d.3)
    ]

pub last_closed : (closed : List Way) (w : Way) (state : Atoms) → w.state ≡ state
    → IsClosedIn (closed ++ w ∷ []) state
last_closed closed w state same = (length closed, w, get_pushed closed w (length closed) refl, same)

-- what is known of open ways is known of later ones
known_later : (closed : List Way) (IsOpen IsLater : Way → Type 0)
    → ((v : Way) → IsOpen v → IsKnownFor IsLater v.state v.cost) → (state : Atoms) (most : ℕ)
    → IsClosedIn closed state ⊎ IsKnownFor IsOpen state most → IsClosedIn closed state ⊎ IsKnownFor IsLater state most
known_later closed IsOpen IsLater kept state most (inl c) = inl c
known_later closed IsOpen IsLater kept state most (inr o) =
    let r = kept o.0 o.1 in inr (r.0, r.1, r.2 ∙ o.2, omega (arith, r.3, o.3))

module _ (task : Task) (known : Known) where
  -- along any steps the bound falls by no more than they cost
  pub falls_along : (bound : Atoms → ℕ) → IsConsistent task known bound → (steps : List GroundAction)
      (before after : Atoms) (total : ℕ) → Executes task known before steps after total
      → bound before ≤ total + bound after
  falls_along bound c [] before after total e =
      subst (λ s. bound before ≤ total + bound s) e.0 (omega arith)
  falls_along bound c (step ∷ steps) before after total e =
      omega (arith, c.falls before e.0 step e.1 e.3, falls_along bound c steps e.0 after e.2 e.4, e.5)

  -- What a way to an open state and one from there to another state cost together is at most this.
  record GoesThrough (IsOpen : Way → Type 0) (to : Atoms) (most : ℕ) : Type 0 where
    way : Way
    there : IsOpen way
    steps : List GroundAction
    rest : ℕ
    goes : Executes task known way.state steps to rest
    cheap : way.cost + rest ≤ most

  -- ---- where all steps were taken from each closed state

  module _ (closed : List Way) (IsOpen : Way → Type 0) (tested : ℕ)
      (is : IsSearched task known closed IsOpen tested EachPassed) where
    -- from a closed state, to which some way leads, the further steps end at a closed one or go through an open one
    goes_on : (k : ℕ) (w : Way) → slice_get closed k ≡ Some w → (front : List GroundAction) (done : ℕ)
        → Executes task known (initial_state task) front w.state done → (steps : List GroundAction) (to : Atoms)
        (total : ℕ) → Executes task known w.state steps to total
        → IsClosedIn closed to ⊎ GoesThrough IsOpen to (done + total)
    goes_on k w at front done runs [] to total e = inl (k, w, at, e.0)
    goes_on k w at front done runs (step ∷ steps) to total e =
        elim (is.covered k w e.0 step e.1 at tt e.3) [
          | inl v ↦
              let one : Executes task known w.state (step ∷ []) e.0 e.1 = (e.0, e.1, 0, e.3, (refl, refl), omega arith) in
              let longer = whole_of_parts task known (initial_state task) e.0 front (step ∷ []) (done + e.1) (w.state, done, e.1, runs, one, refl) in
              let here = subst (λ s. Executes task known (initial_state task) (front ++ step ∷ []) s (done + e.1)) (sym v.3) longer in
              let rest = subst (λ s. Executes task known s steps to e.2) (sym v.3) e.4 in
              let sum : done + e.1 + e.2 ≡ done + total = omega (arith, e.5) in
              elim (goes_on v.0 v.1 v.2 (front ++ step ∷ []) (done + e.1) here steps to e.2 rest) [
                | inl r ↦ inl r
                | inr g ↦ inr (subst (λ n. GoesThrough IsOpen to n) sum g)
              ]
          | inr o ↦ inr (record {
            way = o.0;
            there = o.1;
            steps = steps;
            rest = e.2;
            goes = subst (λ s. Executes task known s steps to e.2) (sym o.2) e.4;
            cheap = omega (arith, o.3, is.least k w front done at runs, e.5);
          })
        ]

    -- a way from the initial state ends at a closed state, or goes through an open one, to which a way is known no dearer
    first_open : (steps : List GroundAction) (to : Atoms) (total : ℕ)
        → Executes task known (initial_state task) steps to total → IsClosedIn closed to ⊎ GoesThrough IsOpen to total
    first_open steps to total e =
        let w = is.first.0 in
        let here : Executes task known (initial_state task) [] w.state 0 = (sym is.first.2, refl) in
        let rest = subst (λ s. Executes task known s steps to total) (sym is.first.2) e in
        let sum : 0 + total ≡ total = omega arith in
        elim (goes_on 0 w is.first.1 [] 0 here steps to total rest) [
          | inl r ↦ inl r
          | inr g ↦ inr (subst (λ n. GoesThrough IsOpen to n) sum g)
        ]

    -- no way to an open state of least rank costs less than the one that is known
    pub least_way : (bound : Atoms → ℕ) → IsConsistent task known bound → (w : Way) → ¬ (IsClosedIn closed w.state)
        → IsLeastOpen bound IsOpen w → (steps : List GroundAction) (total : ℕ)
        → Executes task known (initial_state task) steps w.state total → w.cost ≤ total
    least_way bound c w off low steps total e =
        elim (first_open steps w.state total e) [
          | inl d ↦ absurd (off d)
          | inr g ↦ omega (arith, low g.way g.there, falls_along bound c g.steps g.way.state w.state g.rest g.goes, g.cheap)
        ]

    -- and no plan costs less
    pub least_plan : (bound : Atoms → ℕ) → IsConsistent task known bound → length closed ≤ tested → (w : Way)
        → IsLeastOpen bound IsOpen w → (steps : List GroundAction) (total : ℕ)
        → IsValid task known steps total → w.cost ≤ total
    least_plan bound c all w low steps total v =
        elim (first_open steps v.0 total v.1) [
          | inl d ↦
              absurd (is.none_meets d.0 d.1 (omega (arith, slice_get_within closed d.0 d.1 d.2, all)) d.2
              (subst (λ s. IsGoal task known s) (sym d.3) v.2))
          | inr g ↦
              omega (
                arith,
                low g.way g.there,
                falls_along bound c g.steps g.way.state v.0 g.rest g.goes,
                g.cheap,
                c.goal v.0 v.2,
              )
        ]

    -- where no state is open, all that are reached are closed
    pub all_closed : ((w : Way) → ¬ (IsOpen w)) → (state : Atoms) → IsReached task known state → IsClosedIn closed state
    all_closed none state r =
        elim (first_open r.0 state r.1 r.2) [
          | inl d ↦ d
          | inr g ↦ absurd (none g.way g.there)
        ]

    -- and there is no plan
    pub none_solves : ((w : Way) → ¬ (IsOpen w)) → length closed ≤ tested → ¬ (IsSolvable task known)
    none_solves none all s =
        let d = all_closed none s.2.0 (s.0, s.1, s.2.1) in
        is.none_meets d.0 d.1 (omega (arith, slice_get_within closed d.0 d.1 d.2, all)) d.2
        (subst (λ t. IsGoal task known t) (sym d.3) s.2.2)

    -- an open state is closed, to which no way costs less than the one that is known
    pub closing : (IsLater : Way → Type 0) (w : Way)
        → ((steps : List GroundAction) (total : ℕ) → Executes task known (initial_state task) steps w.state total
        → w.cost ≤ total)
        → ((v : Way) → IsOpen v → (w.state ≡ v.state) ⊎ IsLater v) → tested ≡ length closed
        → IsSearched task known (closed ++ w ∷ []) IsLater (length closed) (PassedBefore (length closed))
    closing IsLater w cheap kept all = record {
      first = (is.first.0, get_append closed (w ∷ []) 0 is.first.0 is.first.1, is.first.2);
      least = λ k v steps total at e.
          elim (push_cases closed w k v at) [
            | inl h ↦ is.least k v steps total h e
            | inr new ↦
                let runs = subst (λ (x : Way). Executes task known (initial_state task) steps x.state total) new.1 e in
                subst (λ (x : Way). x.cost ≤ total) (sym new.1) (cheap steps total runs)
          ];
      none_meets = λ k v before at.
          elim (push_cases closed w k v at) [
            | inl h ↦ is.none_meets k v (omega (arith, before, all)) h
            | inr new ↦ absurd (omega (arith, before, new.0))
          ];
      covered = λ k v after step cost at passed e.
          elim (push_cases closed w k v at) [
            | inl h ↦
                elim (is.covered k v after step cost h tt e) [
                  | inl d ↦ inl (still_closed closed w after d)
                  | inr o ↦
                      elim (kept o.0 o.1) [
                        | inl same ↦ inl (last_closed closed w after (same ∙ o.2))
                        | inr later ↦ inr (o.0, later, o.2, o.3)
                      ]
                ]
            | inr new ↦ absurd (omega (arith, passed, new.0))
          ];
    }

  -- ---- while the last closed state is expanded

  -- it doesn't meet the goal
  pub tested_last : (closed : List Way) (IsOpen : Way → Type 0) (last : ℕ) (w : Way) (steps : List GroundAction)
      → IsSearched task known closed IsOpen last (PassedBefore last) → slice_get closed last ≡ Some w
      → ¬ (IsGoal task known w.state) → IsSearched task known closed IsOpen (last + 1) (PassedTo last steps 0)
  tested_last closed IsOpen last w steps is here none = record {
    first = is.first;
    least = is.least;
    none_meets = λ k v before at.
        elim (cases_lt k last) [
          | inl earlier ↦ is.none_meets k v earlier at
          | inr late ↦
              let place : k ≡ last = omega (arith, before, late) in
              let same = one_there closed last v w (subst (λ n. slice_get closed n ≡ Some v) place at) here in
              subst (λ (x : Way). ¬ (IsGoal task known x.state)) (sym same) none
        ];
    covered = λ k v after step cost at passed e.
        elim passed [
          | inl earlier ↦ is.covered k v after step cost at earlier e
          | inr taken ↦ absurd (omega (arith, taken.2))
        ];
  }

  -- one step more is taken from it
  pub passed_next : (closed : List Way) (IsOpen IsLater : Way → Type 0) (tested last : ℕ) (steps : List GroundAction)
      (done : ℕ) (w : Way) (step : GroundAction) (after : Atoms) (cost : ℕ)
      → IsSearched task known closed IsOpen tested (PassedTo last steps done) → slice_get closed last ≡ Some w
      → slice_get steps done ≡ Some step → IsStep task known w.state step after cost
      → ((v : Way) → IsOpen v → IsKnownFor IsLater v.state v.cost)
      → IsClosedIn closed after ⊎ IsKnownFor IsLater after (w.cost + cost)
      → IsSearched task known closed IsLater tested (PassedTo last steps (done + 1))
  passed_next closed IsOpen IsLater tested last steps done w step after cost is here at leads kept there = record {
    first = is.first;
    least = is.least;
    none_meets = is.none_meets;
    covered = λ k v to other price found passed e.
        let later = known_later closed IsOpen IsLater kept to (v.cost + price) in
        elim passed [
          | inl earlier ↦ later (is.covered k v to other price found (inl earlier) e)
          | inr taken ↦
              elim (cases_lt taken.1 done) [
                | inl earlier ↦ later (is.covered k v to other price found (inr (taken.0, taken.1, earlier, taken.3)) e)
                | inr now ↦
                    let place : taken.1 ≡ done = omega (arith, taken.2, now) in
                    let same = one_there steps done other step (subst (λ n. slice_get steps n ≡ Some other) place taken.3) at in
                    let way = one_there closed last v w (subst (λ n. slice_get closed n ≡ Some v) taken.0 found) here in
                    let moved = subst (λ (x : Way). IsStep task known x.state other to price) way e in
                    let one = step_determined task known w.state after to step cost price leads
                    (subst (λ x. IsStep task known w.state x to price) same moved) in
                    let sum : w.cost + cost ≡ v.cost + price = omega (arith, one.1, ap (λ (x : Way). x.cost) way) in
                    elim there [
                      | inl c ↦ inl (c.0, c.1, c.2, c.3 ∙ one.0)
                      | inr o ↦ inr (o.0, o.1, o.2 ∙ one.0, omega (arith, o.3, sum))
                    ]
              ]
        ];
  }

  -- all steps were taken from it
  pub passed_all : (closed : List Way) (IsOpen : Way → Type 0) (tested last : ℕ) (steps : List GroundAction) (done : ℕ)
      (w : Way) → IsSearched task known closed IsOpen tested (PassedTo last steps done)
      → length closed ≡ last + 1 → slice_get closed last ≡ Some w → AreApplicable task known w.state steps
      → length steps ≤ done → IsSearched task known closed IsOpen tested EachPassed
  passed_all closed IsOpen tested last steps done w is many here are end = record {
    first = is.first;
    least = is.least;
    none_meets = is.none_meets;
    covered = λ k v after step cost at passed e.
        elim (cases_lt k last) [
          | inl earlier ↦ is.covered k v after step cost at (inl earlier) e
          | inr late ↦
              let place : k ≡ last = omega (arith, slice_get_within closed k v at, many, late) in
              let way = one_there closed last v w (subst (λ n. slice_get closed n ≡ Some v) place at) here in
              let moved = subst (λ (x : Way). IsStep task known x.state step after cost) way e in
              let listed = place_of steps step (are.every step (after, cost, moved)) in
              is.covered k v after step cost at
              (inr (place, listed.0, omega (arith, slice_get_within steps listed.0 step listed.1, end), listed.1)) e
        ];
  }
