-- Which steps can be taken in a state, and in which order they are listed.
use Rattle.std.specs.Prelude.{ℕ, List, All, Contains}
use Rattle.std.specs.Cmp.Lexicographic.{slice_cmp}
use Rattle.std.specs.Ordering.{ordering_then, nat_cmp}
use Rattle.std.specs.declared.cmp.Ordering.{Ordering}
use Rattle.task_model.specs.Known.{Known}
use Rattle.lemmas.specs.Lists.{AreAscending}
use Rattle.task_model.specs.State.{Atoms}
use Rattle.task_model.specs.Steps.{IsStep}
use Rattle.task_model.specs.declared.task.GroundAction.{GroundAction}
use Rattle.task_model.specs.declared.task.Task.{Task}

-- the step can be taken in the state: it leads somewhere, at some cost
abbrev pub IsApplicable : Task → Known → Atoms → GroundAction → Type 0
IsApplicable task known state step =
    (after : Atoms) × (cost : ℕ) × IsStep task known state step after cost

-- by action, and then by the objects, one after another
abbrev pub step_cmp : GroundAction → GroundAction → Ordering
step_cmp a b = ordering_then (nat_cmp a.action b.action) (slice_cmp nat_cmp a.args b.args)

-- These are the steps that can be taken in the state, each once, in their order.
pub record AreApplicable (task : Task) (known : Known) (state : Atoms) (steps : List GroundAction) : Type 0 where
  pub ascending : AreAscending step_cmp steps
  pub each : All (IsApplicable task known state) steps
  pub every : (step : GroundAction) → IsApplicable task known state step → Contains steps step
