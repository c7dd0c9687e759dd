-- Steps that are taken one after another name actions, and have few arguments.
use Rattle.std.proofs.Common.{ℕ, zero, suc, List, [], ◌∷◌, subst, arith}
use Rattle.std.proofs.lemmas.Option.{same_Some}
use Rattle.lemmas.proofs.Options.{none_at}
use Rattle.plan_check.proofs.ReadableLemmas.{fit_action, readable_action}
use Rattle.task_model.proofs.TruthLemmas.{have_types-length}
use Rattle.task_model.specs.Fit.{IsFitDomain}
use Rattle.task_model.specs.Known.{Known}
use Rattle.task_model.specs.Plans.{Executes}
use Rattle.task_model.specs.State.{Atoms}
use Rattle.task_model.specs.Steps.{IsStep}
use Rattle.task_model.specs.declared.task.GroundAction.{GroundAction}
use Rattle.task_model.specs.declared.task.Task.{Task}
use Rattle.plan_deorder.specs.Clashes.{AreStepsNamed, IsNamedStep}

module _ (task : Task) (known : Known) (fit : IsFitDomain task.domain) where
  named : (before after : Atoms) (step : GroundAction) (cost : ℕ) → IsStep task known before step after cost
      → IsNamedStep task step
  named before after step cost p =
      let action = readable_action task.domain fit p.action (fit_action task.domain fit step.action p.action p.named) in
      record {
        action = p.action;
        named = p.named;
        few = omega (arith, action.params, have_types-length known step.args p.action.params p.typed);
      }

  pub all_named : (start end : Atoms) (steps : List GroundAction) (cost : ℕ)
      → Executes task known start steps end cost → AreStepsNamed task steps
  all_named start end [] cost runs k step e = absurd (none_at k step e)
  all_named start end (s ∷ ss) cost runs zero step e =
      subst (IsNamedStep task) (same_Some s step e) (named start runs.0 s runs.1 runs.3)
  all_named start end (s ∷ ss) cost runs (suc k) step e = all_named runs.0 end ss runs.2 runs.4 k step e
