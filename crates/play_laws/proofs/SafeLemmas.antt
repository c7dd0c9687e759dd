-- A plan whose state and world keep saying the same has no fault.
use Rattle.std.proofs.Common.{◌≡◌, ℕ, zero, suc, ◌+◌, ◌<◌, inl, inr, true, List, [], ◌∷◌, length, map, refl, take, sym, subst, ap, ◌∙◌, arith, Option, Some, None, slice_get}
use Rattle.std.specs.Option.{option_and_then}
use Rattle.grid_play.specs.Faults.{HasPlayFault, IsPlayVerdict, share}
use Rattle.grid_play.specs.Worlds.{World, home_world, step_world, world_after}
use Rattle.grid_play.specs.declared.play.PlayVerdict.{PlayVerdict}
use Rattle.grid_play.specs.declared.play.PlayVerdict.TheVariants.{Safe, Strange, Outside, Obstacle, Clash}
use Rattle.grid_text.specs.Grids.{GridFile, area}
use Rattle.grid_text.specs.Rects.{is_within}
use Rattle.grid_world.specs.Answers.{is_blocked}
use Rattle.lemmas.proofs.Bools.{not_both}
use Rattle.play_laws.proofs.ActionLemmas.{step_is}
use Rattle.play_laws.proofs.FirstLemmas.{made}
use Rattle.play_laws.proofs.HomeLemmas.{stands_first}
use Rattle.play_laws.proofs.PickLemmas.{picks_well}
use Rattle.play_laws.proofs.PutLemmas.{puts_well}
use Rattle.play_laws.proofs.StandsLemmas.{Stands}
use Rattle.play_laws.proofs.WorldLemmas.{LaysWell, NoneShare}
use Rattle.play_laws.specs.Laws.{TruePlansAreSafe, TrueReportsPlaySafely}
use Rattle.play_laws.specs.Problems.{AreTrueYields, tells_grid}
use Rattle.task_model.specs.Fit.{IsFit}
use Rattle.task_model.specs.Initial.{initial_state}
use Rattle.task_model.specs.Plans.{Executes}
use Rattle.task_model.specs.State.{Atoms}
use Rattle.task_model.specs.declared.task.GroundAction.{GroundAction}
use Rattle.task_model.specs.declared.task.Problem.{Problem}
use Rattle.task_model.specs.declared.task.Task.{Task}
use Rattle.transcript_model.specs.Calls.{call_of_step}
use Rattle.transcript_model.specs.Legal.{IsLegal}
use Rattle.transcript_model.specs.Transcript.{known_of, names_of}
use Rattle.transcript_model.specs.declared.entry.Call.{Call}
use Rattle.transcript_model.specs.declared.entry.Entry.{Entry}

-- ---- worlds without a fault

-- each step may be made and lays its block down well, and no two blocks share a cell at any time
abbrev Fine : GridFile → World → List Call → Type 0
Fine grid world [] = NoneShare grid world
Fine grid world (call ∷ calls) =
    NoneShare grid world × (next : World) × (step_world grid world call ≡ Some next) × LaysWell grid world call
    × Fine grid next calls

fine_at : (grid : GridFile) (calls : List Call) (world : World) → Fine grid world calls → (k : ℕ) (call : Call) (w : World)
    → slice_get calls k ≡ Some call → world_after grid world (take k calls) ≡ Some w
    → (next : World) × (step_world grid w call ≡ Some next) × LaysWell grid w call
fine_at grid [] world fine k call w at before = absurd (cc)
fine_at grid (c ∷ calls) world fine zero call w at before =
    let same : c ≡ call = cc in
    let worlds : world ≡ w = cc in
    subst (λ x. (next : World) × (step_world grid w x ≡ Some next) × LaysWell grid w x) same
    (subst (λ x. (next : World) × (step_world grid x c ≡ Some next) × LaysWell grid x c) worlds (fine.1, fine.2, fine.3))
fine_at grid (c ∷ calls) world fine (suc k) call w at before =
    fine_at grid calls fine.1 fine.4 k call w at
    (ap (option_and_then (λ next. world_after grid next (take k calls))) (sym fine.2) ∙ before)

share_at : (grid : GridFile) (calls : List Call) (world : World) → Fine grid world calls → (k : ℕ) (w : World)
    → k < length calls + 1 → world_after grid world (take k calls) ≡ Some w → NoneShare grid w
share_at grid [] world fine zero w lt before =
    let worlds : world ≡ w = cc in subst (NoneShare grid) worlds fine
share_at grid [] world fine (suc k) w lt before = absurd (omega (arith, lt))
share_at grid (c ∷ calls) world fine zero w lt before =
    let worlds : world ≡ w = cc in subst (NoneShare grid) worlds fine.0
share_at grid (c ∷ calls) world fine (suc k) w lt before =
    share_at grid calls fine.1 fine.4 k w (omega (arith, lt))
    (ap (option_and_then (λ next. world_after grid next (take k calls))) (sym fine.2) ∙ before)

some_none : {A : Type 0} (o : Option A) (x : A) → o ≡ Some x → o ≡ None → ⊥
some_none o x some none = absurd (cc)

no_fault : (grid : GridFile) (calls : List Call) → Fine grid (home_world grid) calls → (v : PlayVerdict)
    → ¬ (HasPlayFault grid calls v)
no_fault grid calls fine Safe has = has
no_fault grid calls fine (Strange i) has =
    let here = fine_at grid calls (home_world grid) fine has.2.place has.0 has.1 has.2.is has.2.before in
    some_none (step_world grid has.1 has.0) here.0 here.1 has.3
no_fault grid calls fine (Outside i name) has =
    let here = fine_at grid calls (home_world grid) fine has.3.place has.0 has.1 has.3.is has.3.before in
    not_both (is_within has.2 (area grid)) (here.2 name has.2 has.4).0 has.5
no_fault grid calls fine (Obstacle i name) has =
    let here = fine_at grid calls (home_world grid) fine has.3.place has.0 has.1 has.3.is has.3.before in
    not_both (is_blocked grid has.2) has.5 (here.2 name has.2 has.4).1
no_fault grid calls fine (Clash i a b) has =
    let clear = share_at grid calls (home_world grid) fine i has.0 has.1 has.2 in
    let clash = has.3.overlap in
    not_both (share grid has.0 clash.one clash.other) clash.shared (clear clash.one clash.other clash.apart)

-- ---- plans

module _ (problem : Problem) (grid : GridFile) (entries : List Entry) (tells : tells_grid (made problem) grid ≡ true)
    (version : ℕ) (fit : IsFit (made problem)) (legal : IsLegal version (made problem) entries)
    (yielded : AreTrueYields grid entries) where
  fine_run : (steps : List GroundAction) (state end : Atoms) (cost : ℕ) (world : World)
      → Stands problem grid entries state world
      → Executes (made problem) (known_of (made problem) entries) state steps end cost
      → Fine grid world (map (call_of_step (made problem) (names_of (made problem) entries)) steps)
  fine_run [] state end cost world stands run = stands.apart
  fine_run (step ∷ steps) state end cost world stands run =
      elim (step_is problem (known_of (made problem) entries) state run.0 step run.1 run.3) [
        | inl up ↦
            let well = picks_well problem grid entries version fit legal state run.0 world step stands up in
            (stands.apart, well.0, well.1, well.2, fine_run steps run.0 end run.2 well.0 well.3 run.4)
        | inr down ↦
            let well = puts_well problem grid entries tells version fit legal yielded state run.0 world step stands down in
            (stands.apart, well.0, well.1, well.2, fine_run steps run.0 end run.2 well.0 well.3 run.4)
      ]

  safe_made : (steps : List GroundAction) (end : Atoms) (cost : ℕ)
      → Executes (made problem) (known_of (made problem) entries) (initial_state (made problem)) steps end cost
      → (v : PlayVerdict)
      → ¬ (HasPlayFault grid (map (call_of_step (made problem) (names_of (made problem) entries)) steps) v)
  safe_made steps end cost run =
      no_fault grid (map (call_of_step (made problem) (names_of (made problem) entries)) steps)
      (fine_run steps (initial_state (made problem)) end cost (home_world grid)
      (stands_first problem grid entries tells version fit legal) run)

abbrev IsSafeOf : Task → Type 0
IsSafeOf task =
    (version : ℕ) (grid : GridFile) (entries : List Entry) (steps : List GroundAction) (end : Atoms) (cost : ℕ)
    → IsFit task → tells_grid task grid ≡ true → IsLegal version task entries → AreTrueYields grid entries
    → Executes task (known_of task entries) (initial_state task) steps end cost
    → (v : PlayVerdict) → ¬ (HasPlayFault grid (map (call_of_step task (names_of task entries)) steps) v)

pub true_plans_are_safe : TruePlansAreSafe
true_plans_are_safe version task grid entries steps end cost fit is legal yielded run =
    let whole : made task.problem ≡ task =
    λ i. record { domain = sym is.domain i; problem = task.problem; streams = sym is.streams i } in
    let safe : IsSafeOf (made task.problem) = λ version grid entries steps end cost fit tells legal yielded run.
    safe_made task.problem grid entries tells version fit legal yielded steps end cost run in
    subst IsSafeOf whole safe version grid entries steps end cost fit is.problem legal yielded run

-- ---- reports

-- where there is no fault, what is told is that
safe_told : (grid : GridFile) (calls : List Call) (v : PlayVerdict) → IsPlayVerdict grid calls v
    → ((w : PlayVerdict) → ¬ (HasPlayFault grid calls w)) → v ≡ Safe
safe_told grid calls Safe told none = refl
safe_told grid calls (Strange i) told none = absurd (none (Strange i) told.has)
safe_told grid calls (Outside i name) told none = absurd (none (Outside i name) told.has)
safe_told grid calls (Obstacle i name) told none = absurd (none (Obstacle i name) told.has)
safe_told grid calls (Clash i a b) told none = absurd (none (Clash i a b) told.has)

pub true_reports_play_safely : TrueReportsPlaySafely
true_reports_play_safely version task grid entries calls cost from play fit is legal yielded plan played =
    safe_told grid calls play.verdict played.verdict (λ w fault.
    true_plans_are_safe version task grid entries plan.steps plan.valid.0 cost fit is legal yielded plan.valid.1 w
    (subst (λ cs. HasPlayFault grid cs w) plan.shown fault))
