use Rattle.std.proofs.Common.{◌≡◌, ◌∷◌, ◌++◌, ◌∙◌, get_or, length, take, true, false, is_none, sym, ap, subst, arith}
use Rattle.std.proofs.lemmas.List.{length-take-le, take_all}
use Rattle.std.specs.List.{list_any}
use Rattle.plan_deorder.proofs.ListedLemmas.{all_listed, one_is_missing, refused_here}
use Rattle.plan_deorder.specs.Listed.{ArePlaces}
use Rattle.plan_deorder.specs.Orders.{IsOrderListing}
use Rattle.plan_deorder.proofs.listing.places_of.Goals as goal

pub returns-then-not-note-clause-none : goal.returns-then-not-note-clause-none
returns-then-not-note-clause-none c =
    let listing = c.args.listing.now in
    let place = c.loop-place.place in
    let front = take place listing in
    let long : length front ≡ place = length-take-le place listing (omega (arith, c.loop-place-test.true)) in
    let count : length c.note.new.places ≡ c.args.count =
    c.note.ensures.count ∙ ap length c.as_mut_slice.ensures.value ∙ c.loop-place.invariant.long in
    refused_here listing place c.args.count c.loop-place-test.true (λ more.
    subst (λ n. ¬ (IsOrderListing n (front ++ get_or listing place 0 ∷ more))) count
    (c.if-not-note.ensures.noted front long
    (subst (ArePlaces front) (sym c.as_mut_slice.ensures.value) c.loop-place.invariant.places) more))

pub returns-then-is_missing-clause-none : goal.returns-then-is_missing-clause-none
returns-then-is_missing-clause-none c =
    let listing = c.args.listing.now in
    let places = c.loop-place.places.items in
    let all = take_all c.loop-place.place listing c.loop-place-test.false in
    let some : list_any is_none places ≡ true =
    ap (list_any is_none) (sym c.as_slice.ensures.value) ∙ sym c.is_missing.ensures ∙ c.if-is_missing.true in
    one_is_missing listing places (subst (λ ns. ArePlaces ns places) all c.loop-place.invariant.places) c.args.count
    c.loop-place.invariant.long some

pub returns-clause-some : goal.returns-clause-some
returns-clause-some c =
    let listing = c.args.listing.now in
    let places = c.loop-place.places.items in
    let all = take_all c.loop-place.place listing c.loop-place-test.false in
    let p = subst (λ ns. ArePlaces ns places) all c.loop-place.invariant.places in
    let none : list_any is_none places ≡ false =
    ap (list_any is_none) (sym c.as_slice.ensures.value) ∙ sym c.is_missing.ensures ∙ c.if-is_missing.false in
    (all_listed listing places p c.args.count c.loop-place.invariant.long none, p)
