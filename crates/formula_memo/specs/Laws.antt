-- A law of the definitions. It is the contract of a public function of `laws.rt`, and so is proved.
use Rattle.std.specs.Prelude.{◌≡◌, ℕ, ◌≤◌, List, length}
use Rattle.task_model.specs.Condition.{Condition}
use Rattle.task_model.specs.Fit.{IsFitDomain}
use Rattle.task_model.specs.Known.{Known}
use Rattle.task_model.specs.State.{Atoms}
use Rattle.task_model.specs.Truth.{is_true}
use Rattle.task_model.specs.declared.domain.Domain.{Domain}
use Rattle.formula_eval.specs.Judged.{truth_at}

-- In a fit task a condition is as true at each depth that is no less than the number of items as at that number.
abbrev pub DeeperLimitsChangeNoTruth : Type 0
DeeperLimitsChangeNoTruth =
    (domain : Domain) (known : Known) (state : Atoms) (depth : ℕ) (condition : Condition) (slots : List ℕ)
    → IsFitDomain domain → length domain.derived ≤ depth
    → truth_at domain known state depth condition slots ≡ is_true domain known state condition slots
