-- What is found of a dream over a list, from one use and one step to the next.
use Rattle.std.proofs.Common.{◌≡◌, ℕ, ◌+◌, ◌<◌, ◌↔◌, Bool, true, false, List, [], ◌∷◌, ◌++◌, length, take, get_or, refl, sym, ap, subst, ◌∙◌, Some}
use Rattle.std.proofs.lemmas.List.{take_more}
use Rattle.std.specs.Prelude.{IsTrue}
use Rattle.dreaming.proofs.PartLemmas.{part_then}
use Rattle.dreaming.specs.Parts.{IsPortion, Portion}
use Rattle.optimistic_set.specs.Dreamable.{Dreamable}
use Rattle.shown_steps.proofs.PlansLemmas.{goal_reached, plan_at_end, run_can}
use Rattle.shown_steps.specs.Runs.{IsRunOf}
use Rattle.shown_steps.specs.declared.steps.Run.{Run}
use Rattle.task_model.specs.Fit.{IsFit}
use Rattle.task_model.specs.Known.{Known, IsCoherent}
use Rattle.task_model.specs.Plans.{IsGoal}
use Rattle.task_model.specs.declared.task.Task.{Task}
use Rattle.transcript_model.specs.declared.entry.Call.{Call}
use Rattle.transcript_model.specs.declared.entry.DreamUse.{DreamUse}
use Rattle.dream_check.proofs.UsesLemmas.{next_behind, next_first, none_used}
use Rattle.dream_check.specs.Listed.{AreUsed, HasTakenUses, IsFollowed, IsNext, MayBeNext, MayBeUsed, StopsAtUse}
use Rattle.dream_check.specs.declared.steps.Followed.TheVariants.{Misses, Reaches}

-- ---- uses

module _ (task : Task) (d : Dreamable) where
  -- before the first
  pub taken_first : (p : Portion) → IsPortion task p → p.base ≡ d.base → p.list ≡ d.list → p.places ≡ []
      → HasTakenUses task d [] p 0
  taken_first p part base list places = record {
    used = subst (AreUsed task d []) (sym places) (none_used task d);
    part_at = record { part = part; base = base; list = list; places_are = refl };
    behind = subst (λ ps. IsNext ps 0) (sym places) next_first;
  }

  module _ (all : List DreamUse) (i : ℕ) (u : DreamUse) (old : Portion) (next : ℕ) (within : i < length all) (is : u ≡ get_or all i u)
      (h : HasTakenUses task d (take i all) old next) where
    one_more : take (i + 1) all ≡ take i all ++ u ∷ []
    one_more = take_more all i u within ∙ ap (λ (x : DreamUse). take i all ++ x ∷ []) (sym is)

    -- one entry more was taken
    pub taken_next : (new : Portion) (place : ℕ) → MayBeNext task d (take i all) old.places u (Some place) → IsPortion task new
        → new.base ≡ old.base → new.list ≡ old.list → new.places ≡ old.places ++ place ∷ []
        → HasTakenUses task d (take (i + 1) all) new (place + 1)
    taken_next new place m part base list places =
        let there = part_then task d old.places old new place h.part_at part base list places in
        record {
          used = subst (λ us. AreUsed task d us new.places) (sym one_more)
              (subst (AreUsed task d (take i all ++ u ∷ [])) (sym places) m.1);
          part_at = record { part = there.part; base = there.base; list = there.list; places_are = refl };
          behind = subst (λ ps. IsNext ps (place + 1)) (sym places) (next_behind old.places place m.1.ascend);
        }

    -- no entry may be used here
    pub stops_here : ¬ (MayBeUsed task d (take i all ++ u ∷ [])) → StopsAtUse task d all i
    stops_here stuck = record {
      within = within;
      front = (old.places, h.used);
      stuck = λ may. stuck (subst (MayBeUsed task d) one_more may);
    }

-- ---- steps

module _ (task : Task) (fit : IsFit task) (known : Known) (coherent : IsCoherent known) (calls : List Call) (run : Run)
    (r : IsRunOf task known calls run) (reaches : Bool) (are : IsTrue reaches ↔ IsGoal task known run.state) where
  pub steps_reach : reaches ≡ true → IsFollowed task known calls Reaches
  steps_reach reached = (r.total, plan_at_end task fit known coherent calls run r (are.0 reached))

  pub steps_miss : reaches ≡ false → IsFollowed task known calls Misses
  steps_miss missed = (
    run_can task fit known coherent calls run r,
    λ cost plan.
        let reached : reaches ≡ true = are.1 (goal_reached task fit known coherent calls run r cost plan) in
        absurd (cc),
  )
