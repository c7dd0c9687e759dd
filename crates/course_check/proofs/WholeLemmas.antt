-- What whole turns leave.
use Rattle.std.proofs.Common.{◌≡◌, ◌≤◌, All, inl, inr, List, [], ◌∷◌, ◌++◌, length, refl, sym, ap, subst, ◌∙◌, arith}
use Rattle.std.proofs.lemmas.Bool.{true≢false}
use Rattle.course_check.proofs.RunsLemmas.{at_rest}
use Rattle.course_check.proofs.StepsLemmas.{at_first_rest, leads_on_apart, leads_on_once}
use Rattle.course_check.proofs.TurnedLemmas.{turned}
use Rattle.course_check.proofs.TurnsLemmas.{turns_lead, whole_lead}
use Rattle.course_check.specs.Laws.{IsPlaceAt}
use Rattle.course_check.specs.Places.{AwaitsPhase, IsModeStep, LeadsOn, ModePlace, at_start, awaits_line, resting}
use Rattle.turn_laws.proofs.ModesLemmas.{as_family, between_leads}
use Rattle.turn_laws.specs.Modes.{Leaves, TurnOf, nothing_kept}
use Rattle.task_model.specs.declared.task.Task.{Task}
use Rattle.transcript_model.specs.Rounds.{Limits, Share}
use Rattle.transcript_model.specs.Turns.{AreTurns, AreTurnsOf, Kept, Stage, after_cut, between, inside}
use Rattle.transcript_model.specs.declared.entry.Entry.{Entry}

-- a place between two turns is no other
pub between_alone : (p : ModePlace) (stage : Stage) → AwaitsPhase p resting → IsPlaceAt p stage → stage ≡ between
between_alone p between awaits at = refl
between_alone p after_cut awaits at = absurd (true≢false (sym at.cut ∙ awaits.uncut))
between_alone p inside awaits (inl some) = let none = awaits.answered in absurd (omega (arith, some, none))
between_alone p inside awaits (inr other) =
    absurd (true≢false (sym other.line ∙ ap awaits_line awaits.phase_is))

module _ (limits : Limits) (task : Task) (entries : List Entry) (p : ModePlace)
    (leads : LeadsOn limits task at_start [] entries p) where
  -- where a turn goes on with the entry, it is a step from here
  pub step_of : (e : Entry) (stage : Stage) → AreTurnsOf limits.mode limits task (entries ++ e ∷ []) stage
      → (after : ModePlace) × IsModeStep limits task entries p e after
  step_of e stage turns =
      let to = turns_lead limits task nothing_kept [] (entries ++ e ∷ []) stage at_start
      (as_family limits.mode limits task (entries ++ e ∷ []) stage turns) refl at_first_rest in
      let parts = leads_on_apart limits task at_start [] entries (e ∷ []) to.last to.leads in
      let same : parts.0 ≡ p = leads_on_once limits task at_start [] entries parts.0 p parts.1 leads in
      (parts.2.0, subst (λ (x : ModePlace). IsModeStep limits task entries x e parts.2.0) same parts.2.1)

  -- what is left is what the place keeps
  pub left_kept : (k : Kept) → Leaves limits task entries k → AwaitsPhase p resting × (k ≡ p.kept)
  left_kept k left =
      let w = whole_lead limits task nothing_kept k [] entries at_start left refl at_first_rest in
      let same : at_rest w.batch k ≡ p = leads_on_once limits task at_start [] entries (at_rest w.batch k) p w.leads leads in
      (subst (λ (x : ModePlace). AwaitsPhase x resting) same w.awaits, ap (λ (x : ModePlace). x.kept) same)

  -- between two turns it is left
  pub kept_left : (k : Kept) → All (λ (s : Share). 1 ≤ s.workers) limits.pools → AwaitsPhase p resting → k ≡ p.kept
      → Leaves limits task entries k
  kept_left k workers awaits is =
      let t = turned limits task workers (length entries) [] entries at_start p (omega arith) at_first_rest leads in
      let turns = subst (λ (s : Stage). AreTurns limits task (TurnOf limits.mode limits task) nothing_kept [] entries s)
      (between_alone p t.stage awaits t.at) t.turns in
      let left = between_leads limits task nothing_kept [] entries turns in
      subst (Leaves limits task entries) ((left_kept left.0 left.1).1 ∙ sym is) left.1
