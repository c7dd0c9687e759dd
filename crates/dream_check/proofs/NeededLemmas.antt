-- Plans without one of the entries that they use.
use Rattle.std.proofs.Common.{◌≡◌, ℕ, ◌+◌, ◌↔◌, Bool, true, false, not, List, refl, sym, ap, subst, ◌∙◌}
use Rattle.std.specs.Prelude.{IsTrue}
use Rattle.dreaming.proofs.KeptLemmas.{without_is}
use Rattle.dreaming.proofs.PartLemmas.{part_known}
use Rattle.dreaming.proofs.PlacesLemmas.{AreBelow}
use Rattle.dreaming.specs.Parts.{Portion, entries_at}
use Rattle.dreaming.specs.Thinning.{IsPartAt, places_without}
use Rattle.optimistic_set.specs.Dreamable.{Dreamable}
use Rattle.shown_steps.specs.Plans.{IsPlan}
use Rattle.task_model.specs.Dreams.{supposing, without_entry}
use Rattle.task_model.specs.Known.{Known}
use Rattle.task_model.specs.declared.task.Task.{Task}
use Rattle.transcript_model.specs.declared.entry.Call.{Call}
use Rattle.dream_check.specs.Listed.{IsEntryNeeded}

module _ (task : Task) (d : Dreamable) (places : List ℕ) (calls : List Call) (place : ℕ) where
  -- what is known with the entries that are left
  abbrev pub known_without : Known
  known_without = supposing task d.base d.list (without_entry task d.base d.list (entries_at d.list places) place)

  pub known_of_rest : (p : Portion) (rest : List ℕ) → AreBelow d.list places → IsPartAt task d rest p
      → rest ≡ places_without task d.base d.list places place (place + 1) → p.known ≡ known_without
  known_of_rest p rest below h is =
      part_known task d rest p h
      ∙ ap (λ ps. supposing task d.base d.list (entries_at d.list ps)) is
      ∙ ap (supposing task d.base d.list) (without_is task d.base d.list places place below)

  -- an entry is needed where the calls are no plan without it
  pub needed_where : (known : Known) (stays : Bool) → known ≡ known_without
      → (IsTrue stays ↔ ((cost : ℕ) × IsPlan task known calls cost))
      → (IsTrue (not stays) ↔ IsEntryNeeded task d places calls place)
  needed_where known true is are = (
    λ yes. absurd (cc),
    λ needed.
        let plan = are.0 refl in
        absurd (needed plan.0 (subst (λ k. IsPlan task k calls plan.0) is plan.1)),
  )
  needed_where known false is are = (
    λ yes cost plan.
        let stays : false ≡ true = are.1 (cost, subst (λ k. IsPlan task k calls cost) (sym is) plan) in
        absurd (cc),
    λ needed. refl,
  )
