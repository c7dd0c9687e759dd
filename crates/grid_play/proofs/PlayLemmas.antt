-- The first fault of a plan is that of its first step with a fault.
use Rattle.std.proofs.Common.{◌≡◌, ◌≢◌, ℕ, suc, ◌+◌, ◌-◌, ◌<◌, ◌≤◌, inl, inr, List, [], ◌∷◌, ◌++◌, length, take, refl, sym, subst, ap, ◌∙◌, arith, Some, slice_get, append_assoc, length-take}
use Rattle.std.proofs.lemmas.Bool.{cases_lt}
use Rattle.std.proofs.lemmas.Option.{slice_get_within}
use Rattle.lemmas.proofs.Members.{next_taken}
use Rattle.grid_text.specs.Grids.{GridFile}
use Rattle.grid_play.specs.Faults.{FirstOverlap, HasPlayFault, IsFirstPlayFault, IsPlayVerdict, IsStepInWorld, LaysDown, fault_rank, fault_step, mark_in, marked, marks_from}
use Rattle.grid_play.specs.Steps.{IsClashVerdict, IsStepVerdict, StepFault, marks_for}
use Rattle.grid_play.specs.Worlds.{World, home_world, move_of, step_world, world_after}
use Rattle.grid_play.specs.declared.play.Mark.{Mark}
use Rattle.grid_play.specs.declared.play.PlayVerdict.{PlayVerdict}
use Rattle.grid_play.specs.declared.play.PlayVerdict.TheVariants.{Safe, Strange, Outside, Obstacle, Clash}
use Rattle.grid_play.proofs.StepLemmas.{world_next}
use Rattle.transcript_model.specs.declared.entry.Call.{Call}

-- ---- marks of more steps

pub marks-append : (grid : GridFile) (i : ℕ) (xs ys : List Call)
    → marks_from grid i (xs ++ ys) ≡ marks_from grid i xs ++ marks_from grid (i + length xs) ys
marks-append grid i [] ys = ap (λ n. marks_from grid n ys) (none i)
  where
    none : (i : ℕ) → i ≡ i + 0
    none i = omega arith
marks-append grid i (x ∷ xs) ys =
    ap (λ ms. mark_in grid i (move_of grid x) ++ ms)
    (marks-append grid (i + 1) xs ys
    ∙ ap (λ n. marks_from grid (i + 1) xs ++ marks_from grid n ys) (more i (length xs)))
    ∙ sym (append_assoc (mark_in grid i (move_of grid x)) (marks_from grid (i + 1) xs) (marks_from grid (i + suc (length xs)) ys))
  where
    more : (i n : ℕ) → i + 1 + n ≡ i + suc n
    more i n = omega arith

nothing_more : (ms : List Mark) → ms ++ [] ≡ ms
nothing_more [] = refl
nothing_more (m ∷ ms) = ap (λ xs. m ∷ xs) (nothing_more ms)

-- the mark of the next step
pub marks_next : (grid : GridFile) (steps : List Call) (k : ℕ) (call : Call) → slice_get steps k ≡ Some call
    → marks_from grid 1 (take (k + 1) steps) ≡ marks_from grid 1 (take k steps) ++ mark_in grid (k + 1) (move_of grid call)
marks_next grid steps k call at =
    let within = slice_get_within steps k call at in
    let number : 1 + length (take k steps) ≡ k + 1 = omega (arith, length-take k steps, within) in
    ap (marks_from grid 1) (next_taken steps k call at)
    ∙ marks-append grid 1 (take k steps) (call ∷ [])
    ∙ ap (λ n. marks_from grid 1 (take k steps) ++ (mark_in grid n (move_of grid call) ++ [])) number
    ∙ ap (λ ms. marks_from grid 1 (take k steps) ++ ms) (nothing_more (mark_in grid (k + 1) (move_of grid call)))

-- ---- faults up to a step

module _ (grid : GridFile) (steps : List Call) where
  -- no step up to this number has a fault
  abbrev pub NoneUpTo : ℕ → Type 0
  NoneUpTo k = (v : PlayVerdict) → HasPlayFault grid steps v → fault_step v < k + 1 → ⊥

  module _ (k : ℕ) (call : Call) (world : World) (at : slice_get steps k ≡ Some call)
      (before : world_after grid (home_world grid) (take k steps) ≡ Some world) where
    here : (i : ℕ) (c : Call) (w : World) → IsStepInWorld grid steps i c w → i ≡ k + 1 → (c ≡ call) × (w ≡ world)
    here i c w taken e =
        let places : taken.place ≡ k = same taken.place i k taken.number e in
        let calls : Some c ≡ Some call = sym taken.is ∙ ap (slice_get steps) places ∙ at in
        let worlds : Some w ≡ Some world =
        sym taken.before ∙ ap (λ n. world_after grid (home_world grid) (take n steps)) places ∙ before in
        (cc, cc)
      where
        same : (p i k : ℕ) → i ≡ p + 1 → i ≡ k + 1 → p ≡ k
        same p i k a b = omega (arith, a, b)

    -- a fault of the step, by the world in which it is taken
    pub to_step : (v : PlayVerdict) → HasPlayFault grid steps v → fault_step v ≡ k + 1
        → StepFault grid world (k + 1) call v
    to_step Safe has e = has
    to_step (Strange i) has e =
        let is = here i has.0 has.1 has.2 e in
        (e, ap (step_world grid world) (sym is.0) ∙ ap (λ w. step_world grid w has.0) (sym is.1) ∙ has.3)
    to_step (Outside i name) has e =
        let is = here i has.0 has.1 has.3 e in
        (e, has.2, subst (λ c. LaysDown grid world c name has.2) is.0 (subst (λ w. LaysDown grid w has.0 name has.2) is.1 has.4), has.5)
    to_step (Obstacle i name) has e =
        let is = here i has.0 has.1 has.3 e in
        (e, has.2, subst (λ c. LaysDown grid world c name has.2) is.0 (subst (λ w. LaysDown grid w has.0 name has.2) is.1 has.4), has.5)
    to_step (Clash i a b) has e =
        let after : step_world grid world call ≡ Some has.0 =
        sym (world_next grid (home_world grid) world steps k call at before)
        ∙ ap (λ n. world_after grid (home_world grid) (take n steps)) (sym e) ∙ has.2 in
        (e, has.0, after, has.3)

    taken : (i : ℕ) → i ≡ k + 1 → IsStepInWorld grid steps i call world
    taken i e = record { place = k; number = e; is = at; before = before }

    pub from_step : (v : PlayVerdict) → StepFault grid world (k + 1) call v
        → HasPlayFault grid steps v × (fault_step v ≡ k + 1)
    from_step Safe fault = absurd fault
    from_step (Strange i) fault = ((call, world, taken i fault.0, fault.1), fault.0)
    from_step (Outside i name) fault =
        ((call, world, fault.1, taken i fault.0, fault.2, fault.3), fault.0)
    from_step (Obstacle i name) fault =
        ((call, world, fault.1, taken i fault.0, fault.2, fault.3), fault.0)
    from_step (Clash i a b) fault =
        let within = slice_get_within steps k call at in
        let after : world_after grid (home_world grid) (take i steps) ≡ Some fault.1 =
        ap (λ n. world_after grid (home_world grid) (take n steps)) fault.0
        ∙ world_next grid (home_world grid) world steps k call at before ∙ fault.2 in
        ((fault.1, below i fault.0 within, after, fault.3), fault.0)
      where
        below : (i : ℕ) → i ≡ k + 1 → k < length steps → i < length steps + 1
        below i e h = omega (arith, e, h)

    -- a step without a fault
    pub none_next : NoneUpTo k → IsStepVerdict grid world (k + 1) call Safe → NoneUpTo (k + 1)
    none_next none safe v has less =
        elim (cases_lt (fault_step v) (k + 1)) [
          | inl earlier ↦ none v has earlier
          | inr now ↦ safe v (to_step v has (omega (arith, less, now)))
        ]

    first_here : NoneUpTo k → (v : PlayVerdict)
        → ((other : PlayVerdict) → StepFault grid world (k + 1) call other → ¬ (fault_rank other < fault_rank v))
        → StepFault grid world (k + 1) call v → IsFirstPlayFault grid steps v
    first_here none v first fault =
        let has = from_step v fault in
        record {
          has = has.0;
          first = λ other is precedes. elim precedes [
            | inl earlier ↦ none other is (subst (λ n. fault_step other < n) has.1 earlier)
            | inr same ↦ first other (to_step other is (same.0 ∙ has.1)) same.1
          ];
        }

    -- the first fault of a step is the plan's
    pub fault_here : NoneUpTo k → (v : PlayVerdict) → IsStepVerdict grid world (k + 1) call v → v ≢ Safe
        → IsPlayVerdict grid steps v
    fault_here none Safe is fault = absurd (fault refl)
    fault_here none (Strange i) is fault = first_here none (Strange i) is.first is.has
    fault_here none (Outside i name) is fault = first_here none (Outside i name) is.first is.has
    fault_here none (Obstacle i name) is fault = first_here none (Obstacle i name) is.first is.has
    fault_here none (Clash i a b) is fault = first_here none (Clash i a b) is.first is.has

    -- the marks up to the first fault
    pub marks_here : (v : PlayVerdict) → IsStepVerdict grid world (k + 1) call v → v ≢ Safe
        → marks_from grid 1 (take k steps) ++ marks_for grid (k + 1) call v ≡ marks_from grid 1 (take (marked steps v) steps)
    marks_here Safe is fault = absurd (fault refl)
    marks_here (Strange i) is fault =
        nothing_more (marks_from grid 1 (take k steps))
        ∙ ap (λ n. marks_from grid 1 (take n steps)) (one_less i is.has.0)
      where
        one_less : (i : ℕ) → i ≡ k + 1 → k ≡ i - 1
        one_less i e = omega (arith, e)
    marks_here (Outside i name) is fault =
        sym (marks_next grid steps k call at) ∙ ap (λ n. marks_from grid 1 (take n steps)) (sym is.has.0)
    marks_here (Obstacle i name) is fault =
        sym (marks_next grid steps k call at) ∙ ap (λ n. marks_from grid 1 (take n steps)) (sym is.has.0)
    marks_here (Clash i a b) is fault =
        sym (marks_next grid steps k call at) ∙ ap (λ n. marks_from grid 1 (take n steps)) (sym is.has.0)

  -- ---- at first

  none_first : (v : PlayVerdict) → HasPlayFault grid steps v → fault_step v < 0 + 1
      → (first second : List ℕ) × (v ≡ Clash 0 first second) × FirstOverlap grid (home_world grid) first second
  none_first Safe has less = absurd has
  none_first (Strange i) has less = absurd (omega (arith, less, has.2.number))
  none_first (Outside i name) has less = absurd (omega (arith, less, has.3.number))
  none_first (Obstacle i name) has less = absurd (omega (arith, less, has.3.number))
  none_first (Clash i a b) has less =
      let zero : i ≡ 0 = omega (arith, less) in
      let worlds : Some (home_world grid) ≡ Some has.0 =
      ap (λ n. world_after grid (home_world grid) (take n steps)) (sym zero) ∙ has.2 in
      let same : has.0 ≡ home_world grid = cc in
      (a, b, ap (λ n. Clash n a b) zero, subst (λ w. FirstOverlap grid w a b) same has.3)

  -- no two blocks share a cell at first
  pub none_at_home : IsClashVerdict grid (home_world grid) 0 Safe → NoneUpTo 0
  none_at_home clear v has less = let is = none_first v has less in clear is.0 is.1 is.3.overlap

  -- two blocks do
  pub fault_at_home : (v : PlayVerdict) → IsClashVerdict grid (home_world grid) 0 v → v ≢ Safe
      → IsPlayVerdict grid steps v
  fault_at_home Safe is fault = absurd (fault refl)
  fault_at_home (Strange i) is fault = absurd is
  fault_at_home (Outside i name) is fault = absurd is
  fault_at_home (Obstacle i name) is fault = absurd is
  fault_at_home (Clash i a b) is fault = record {
    has = (
      home_world grid,
      omega (arith, is.0),
      ap (λ n. world_after grid (home_world grid) (take n steps)) is.0,
      is.1,
    );
    first = λ other has precedes. elim precedes [
      | inl earlier ↦ absurd (nothing (fault_step other) (subst (λ n. fault_step other < n) is.0 earlier))
      | inr same ↦
          let zero : fault_step other ≡ 0 = same.0 ∙ is.0 in
          let home = none_first other has (below (fault_step other) zero) in
          let rank : fault_rank other ≡ 4 = ap fault_rank home.2 in
          absurd (omega (arith, same.1, rank))
    ];
  }
    where
      nothing : (n : ℕ) → n < 0 → ⊥
      nothing n h = omega (arith, h)

      below : (n : ℕ) → n ≡ 0 → n < 0 + 1
      below n h = omega (arith, h)

  -- ---- at the end

  step_within : (v : PlayVerdict) → HasPlayFault grid steps v → fault_step v < length steps + 1
  step_within Safe has = absurd has
  step_within (Strange i) has =
      let within = slice_get_within steps has.2.place has.0 has.2.is in omega (arith, within, has.2.number)
  step_within (Outside i name) has =
      let within = slice_get_within steps has.3.place has.0 has.3.is in omega (arith, within, has.3.number)
  step_within (Obstacle i name) has =
      let within = slice_get_within steps has.3.place has.0 has.3.is in omega (arith, within, has.3.number)
  step_within (Clash i a b) has = has.1

  -- all steps were taken
  pub safe_here : (k : ℕ) → length steps ≤ k → NoneUpTo k → IsPlayVerdict grid steps Safe
  safe_here k all none = λ v has. none v has (below (fault_step v) (step_within v has))
    where
      below : (n : ℕ) → n < length steps + 1 → n < k + 1
      below n h = omega (arith, h, all)
