-- What a search within the lesser of two limits says of both.
use Rattle.std.proofs.Common.{◌≡◌, ℕ, ◌<◌, ◌≤◌, arith, inl, inr, min, Bool, true, false, not, None, Some, subst}
use Rattle.task_model.specs.Known.{Known}
use Rattle.task_model.specs.Plans.{IsReached, MoreThan}
use Rattle.task_model.specs.State.{Atoms}
use Rattle.task_model.specs.declared.task.Task.{Task}
use Rattle.best_first.specs.Answer.{IsSolvableWithin}
use Rattle.dream_check.specs.Judged.{IsNoneOver}

-- what is more than so many is more than fewer
more_than_fewer : (most fewer : ℕ) (IsSuch : Atoms → Type 0) → fewer ≤ most → MoreThan most IsSuch → MoreThan fewer IsSuch
more_than_fewer most fewer IsSuch le many =
    let long = many.1 in (many.0, omega (arith, le, long), many.2, many.3)

module _ (task : Task) (known : Known) (states limit most : ℕ) (is : most ≡ min limit states) where
  -- more states than the lesser limit are reached, which is that of the search
  pub open_below : limit < states → IsSolvableWithin task known most None → IsNoneOver task known states limit None
  open_below lt many =
      let same : most ≡ limit = omega (arith, is, lt) in
      (lt, subst (λ n. MoreThan n (IsReached task known)) same many)

  -- or that of the report
  pub past_states : states ≤ limit → IsSolvableWithin task known most None → IsNoneOver task known states limit (Some true)
  past_states le many =
      let same : most ≡ states = omega (arith, is, le) in (
        inr (subst (λ n. MoreThan n (IsReached task known)) same many),
        λ unsure. let lt = unsure.0 in omega (arith, le, lt),
      )

  -- all states are searched
  pub decided_by : (solvable : Bool) → IsSolvableWithin task known most (Some solvable)
      → IsNoneOver task known states limit (Some (not solvable))
  decided_by true (plan, few) = (
    plan,
    λ many. few (more_than_fewer states most (IsReached task known) (omega (arith, is)) many),
    λ unsure. few (more_than_fewer limit most (IsReached task known) (omega (arith, is)) unsure.1),
  )
  decided_by false (none, few) =
      (inl none, λ unsure. few (more_than_fewer limit most (IsReached task known) (omega (arith, is)) unsure.1))
