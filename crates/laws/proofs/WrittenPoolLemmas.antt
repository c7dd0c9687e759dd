-- The one pool of a run without a map.
use Rattle.std.proofs.Common.{◌≡◌, ℕ, zero, suc, ◌+◌, ◌<◌, ◌≤◌, inl, inr, List, length, sym, ap, subst, ◌∙◌, Some, slice_get, arith}
use Rattle.std.proofs.lemmas.List.{append-nil}
use Rattle.std.proofs.lemmas.List.Elements.{All-nil}
use Rattle.lemmas.proofs.Numbers.{length-numbers_from}
use Rattle.lemmas.proofs.ListTests.{all_one}
use Rattle.lemmas.specs.Lists.{AreDistinct, numbers_from}
use Rattle.task_model.specs.declared.task.Task.{Task}
use Rattle.transcript_model.specs.declared.head.Pool.{Pool}
use Rattle.laws.specs.Written.{IsOnePool}
use Rattle.laws.specs.Reports.{ArePoolsOfReports}

number_at : (first n k x : ℕ) → slice_get (numbers_from first n) k ≡ Some x → x ≡ first + k
number_at first zero k x at = absurd (cc)
number_at first (suc n) zero x at = let same : first ≡ x = cc in omega (arith, same)
number_at first (suc n) (suc k) x at = omega (arith, number_at (first + 1) n k x at)

numbers_distinct : (first n : ℕ) → AreDistinct (numbers_from first n)
numbers_distinct first n j k x at_j at_k =
    omega (arith, number_at first n j x at_j, number_at first n k x at_k)

pub one_pool : (task : Task) (pools : List Pool) → IsOnePool task pools → ArePoolsOfReports pools
one_pool task pools (inl none) = subst ArePoolsOfReports (sym none) (record {
  few = All-nil (λ (p : Pool). p.workers ≤ 16);
  some = All-nil (λ (p : Pool). 0 < length p.streams);
  once = λ j k x at_j at_k. absurd (let e = at_j in cc);
})
one_pool task pools (inr (pool, is, few, streams, some)) =
    subst ArePoolsOfReports (sym is) (record {
      few = all_one (λ (p : Pool). p.workers ≤ 16) pool few;
      some = all_one (λ (p : Pool). 0 < length p.streams) pool
          (omega (arith, some, ap length streams, length-numbers_from 0 (length task.streams)));
      once = subst AreDistinct (sym (append-nil pool.streams ∙ streams)) (numbers_distinct 0 (length task.streams));
    })
