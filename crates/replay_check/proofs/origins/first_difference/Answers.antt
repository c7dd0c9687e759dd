use Rattle.std.proofs.Common.{◌≡◌, ◌<◌, ◌≤◌, ℕ, List, length, slice_get, unwrap_or, None, Some, inl, inr, sym, ap, ◌∙◌, arith}
use Rattle.std.proofs.lemmas.Bool.{cases_lt}
use Rattle.std.proofs.lemmas.List.{same_lists}
use Rattle.std.proofs.lemmas.Option.{unwrap_or-slice_get, slice_get_past}
use Rattle.lemmas.proofs.ListTests.{get_there}
use Rattle.replay_check.proofs.origins.first_difference.Goals as goal

-- one list has something where the other has ended
shorter : {A : Type 0} (xs ys : List A) (k : ℕ) → length xs ≤ k → k < length ys
    → slice_get xs k ≡ slice_get ys k → ⊥
shorter xs ys k past within same =
    let there = get_there ys k within in
    let none : None ≡ Some there.0 = sym (slice_get_past xs k past) ∙ same ∙ there.1 in absurd (cc)

pub returns-then-shown-due-clause-none : goal.returns-then-shown-due-clause-none
returns-then-shown-due-clause-none c =
    let shown = c.args.shown.now in
    let due = c.args.due.now in
    let long = c.if-shown-due.true in
    same_lists shown due long (λ k d lt.
    sym (unwrap_or-slice_get shown k d)
    ∙ ap (λ o. unwrap_or o d) (c.loop-place.invariant k (omega (arith, lt, long, c.min-common.ensures, c.loop-place-test.false)))
    ∙ unwrap_or-slice_get due k d)

pub returns-else-shown-due-clause-some : goal.returns-else-shown-due-clause-some
returns-else-shown-due-clause-some c =
    let shown = c.args.shown.now in
    let due = c.args.due.now in
    let common = c.min-common.ensures in (
      λ same.
          elim (cases_lt (length shown) (length due)) [
            | inl less ↦ shorter shown due c.min-common.result (omega (arith, common, less)) (omega (arith, common, less)) same
            | inr more ↦
                let other = c.if-shown-due.false in
                elim (cases_lt (length due) (length shown)) [
                  | inl less ↦ shorter due shown c.min-common.result (omega (arith, common, less)) (omega (arith, common, less)) (sym same)
                  | inr fewer ↦ other (omega (arith, more, fewer))
                ]
          ],
      λ j lt. c.loop-place.invariant j (omega (arith, lt, c.loop-place-test.false)),
    )
