-- Valid plans: their steps have names, and the outcomes that show them are true.
use Rattle.std.proofs.Common.{◌≡◌, ℕ, ◌<◌, arith, true, List, [], ◌∷◌, length, sym, subst, All}
use Rattle.std.proofs.lemmas.List.Elements.{All-contains, All-cons, All-nil}
use Rattle.std.proofs.lemmas.Option.{slice_get_within}
use Rattle.std.specs.Cmp.{first_so, second_so}
use Rattle.task_model.proofs.KnownLemmas.{fact_member}
use Rattle.task_model.specs.Known.{Known, IsCoherent, IsIn, type_fact}
use Rattle.task_model.specs.Plans.{Executes, IsValid}
use Rattle.task_model.specs.State.{Atoms}
use Rattle.task_model.specs.Steps.{IsStep}
use Rattle.task_model.specs.Truth.{has_type, have_types}
use Rattle.task_model.specs.declared.fact.Fact.{Fact}
use Rattle.task_model.specs.declared.task.GroundAction.{GroundAction}
use Rattle.task_model.specs.declared.task.Task.{Task}
use Rattle.transcript_model.specs.Outcomes.{IsTrueOutcome}
use Rattle.transcript_model.specs.Rounds.{Limits}
use Rattle.transcript_model.specs.Transcript.{known_of}
use Rattle.transcript_model.specs.declared.entry.Entry.{Entry}
use Rattle.transcript_model.specs.declared.outcome.Outcome.{Outcome}
use Rattle.shown_plan.specs.Shown.{AreNamedSteps, ShowsPlan}

module _ (task : Task) (known : Known) (coherent : IsCoherent known) where
  typed_in : (object sort : ℕ) → has_type known object sort ≡ true → IsIn known.names object
  typed_in object sort e =
      All-contains (λ (f : Fact). All (IsIn known.names) f.args) known.facts
      (type_fact sort object) coherent.objects ((fact_member known.facts (type_fact sort object)).0 e) 0 object (omega arith)

  args_in : (objects sorts : List ℕ) → have_types known objects sorts ≡ true
      → All (IsIn known.names) objects
  args_in [] sorts e = All-nil (IsIn known.names)
  args_in (o ∷ os) [] e = absurd (cc)
  args_in (o ∷ os) (s ∷ ss) e =
      All-cons (IsIn known.names) o os (typed_in o s (first_so (has_type known o s) (have_types known os ss) e))
      (args_in os ss (second_so (has_type known o s) (have_types known os ss) e))

  -- the steps of a plan that can be executed
  pub named_steps : (before after : Atoms) (steps : List GroundAction) (total : ℕ)
      → Executes task known before steps after total
      → AreNamedSteps task known.names steps
  named_steps before after [] total e = record { actions = All-nil _; objects = All-nil _ }
  named_steps before after (step ∷ steps) total e =
      let one : IsStep task known before step e.0 e.1 = e.3 in
      let rest = named_steps e.0 after steps e.2 e.4 in
      record {
        actions = All-cons (λ (s : GroundAction). s.action < length task.domain.actions) step steps
            (slice_get_within task.domain.actions step.action one.action one.named) rest.actions;
        objects = All-cons (λ (s : GroundAction). All (IsIn known.names) s.args) step steps
            (args_in step.args one.action.params one.typed) rest.objects;
      }

  -- the steps of a valid plan
  pub valid_named : (steps : List GroundAction) (cost : ℕ) → IsValid task known steps cost
      → AreNamedSteps task known.names steps
  valid_named steps cost v = named_steps _ v.0 steps cost v.1

-- an outcome that shows a valid plan is true
pub true_outcome : (limits : Limits) (task : Task) (entries : List Entry) (steps : List GroundAction) (cost : ℕ) (o : Outcome)
    → ShowsPlan limits.version task entries steps cost o → IsValid task (known_of task entries) steps cost
    → IsTrueOutcome limits task entries o
true_outcome limits task entries steps cost o s valid =
    subst (IsTrueOutcome limits task entries) (sym s.is) (record { steps = steps; shown = s.shown; valid = valid; origins = s.origins })
