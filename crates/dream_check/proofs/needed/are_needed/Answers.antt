use Rattle.std.proofs.Common.{◌≡◌, ◌+◌, ◌≤◌, suc, true, false, arith, inl, inr, refl, subst, rules, tests}
use Rattle.std.proofs.Math.Nat.{le-suc_iff}
use Rattle.dream_check.specs.Listed.{IsEntryNeeded}
use Rattle.dream_check.proofs.needed.are_needed.Goals as goal

pub loop-place-preserved : goal.loop-place-preserved
loop-place-preserved c = λ place lt.
    let l = c.args.listing.now in
    let yes : c.in_ok-is_needed.field-0 ≡ true = search (rules, tests) in
    let within : place + 1 ≤ suc c.loop-place.place = omega (arith, lt) in
    elim (le-suc_iff.0 within) [
      | inl early ↦ c.loop-place.invariant place (omega (arith, early))
      | inr last ↦
          let same : c.loop-place.place ≡ place = omega (arith, last) in
          subst (IsEntryNeeded l.task.now l.supposed.now c.args.places.now c.args.steps.now) same (c.in_ok-is_needed.ensures.0 yes)
    ]

pub returns-then-not-branch : goal.returns-then-not-branch
returns-then-not-branch c =
    let no : c.in_ok-is_needed.field-0 ≡ false = search (rules, tests) in (
      λ yes. absurd (cc),
      λ needed.
          let yes : c.in_ok-is_needed.field-0 ≡ true = c.in_ok-is_needed.ensures.1 (needed c.loop-place.place c.loop-place-test.true) in
          absurd (cc),
    )

pub returns : goal.returns
returns c = (
  λ yes place lt. c.loop-place.invariant place (omega (arith, lt, c.loop-place-test.false)),
  λ needed. refl,
)
