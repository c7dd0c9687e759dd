-- How deep derived predicates rest on one another.
use Rattle.std.specs.Prelude.{◌≡◌, ℕ, zero, suc, true, false}
use Rattle.task_model.specs.Condition.{Condition, Conditions}
use Rattle.task_model.specs.Fit.{mentions, any_mentions, depends}
use Rattle.task_model.specs.Roles.{is_derived}
use Rattle.task_model.specs.declared.domain.Domain.{Domain}

module _ (domain : Domain) where
  -- on each way from the predicate along what items have in their bodies, so many steps lead to what isn't derived
  unfoldable pub RestsWithin : ℕ → ℕ → Type 0
  RestsWithin zero pred = is_derived domain pred ≡ false
  RestsWithin (suc depth) pred =
      (next : ℕ) → depends domain pred next ≡ true → RestsWithin depth next

  -- Each predicate of the condition rests within the depth.
  pub record AllRest (depth : ℕ) (condition : Condition) : Type 0 where
    pub each : (pred : ℕ) → mentions pred condition ≡ true → RestsWithin depth pred

  -- the same of some conditions
  pub record PartsRest (depth : ℕ) (parts : Conditions) : Type 0 where
    pub each : (pred : ℕ) → any_mentions pred parts ≡ true → RestsWithin depth pred
