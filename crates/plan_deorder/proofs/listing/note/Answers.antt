use Rattle.std.proofs.Common.{◌≤◌, ◌-◌, ◌∷◌, [], ◌++◌, ◌∙◌, length, slice_set, Some, subst, arith}
use Rattle.plan_deorder.proofs.ListedLemmas.{at_number, listed_twice, noted, out_of_range}
use Rattle.plan_deorder.specs.Listed.{ArePlaces}
use Rattle.plan_deorder.proofs.listing.note.Goals.{then-slot-eq0-via-then-slot-eq0, then-slot-eq0-via-else-slot-eq0+then-slot-places}
use Rattle.plan_deorder.proofs.listing.note.Goals as goal

pub returns-then-slot-eq0-clause-noted : goal.returns-then-slot-eq0-clause-noted
returns-then-slot-eq0-clause-noted c listing long p more =
    out_of_range listing c.args.places.now p c.args.number (length c.args.places.now) more (λ r.
    elim c.then-slot-eq0.branch [
      | then-slot-eq0-via-then-slot-eq0 w ↦ let zero = w.if-slot-eq0.true in omega (arith, r.0, zero)
      | then-slot-eq0-via-else-slot-eq0+then-slot-places w ↦ let past = w.if-slot-places.true in omega (arith, r.1, past)
    ])

pub returns-in-Some-clause-noted : goal.returns-in-Some-clause-noted
returns-in-Some-clause-noted c listing long p more =
    let places = c.args.places.now in
    let some : 1 ≤ c.args.number = omega (arith, c.if-slot-eq0.false) in
    listed_twice listing places p c.args.number (length places) c.in-Some.field-0 more
    (at_number places c.args.number some ∙ c.in-Some.is)

pub returns-in-None-clause-noted : goal.returns-in-None-clause-noted
returns-in-None-clause-noted c listing long p =
    let places = c.args.places.now in
    let number = c.args.number in
    let some : 1 ≤ number = omega (arith, c.if-slot-eq0.false) in
    let few : number ≤ length places = omega (arith, c.if-slot-places.false) in
    subst (λ k. ArePlaces (listing ++ number ∷ []) (slice_set places (number - 1) (Some k))) long
    (noted listing places p number (at_number places number some ∙ c.in-None.is) some few)
