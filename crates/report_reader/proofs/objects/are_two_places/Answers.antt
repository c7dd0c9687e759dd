use Rattle.std.proofs.Common.{rules, ◌≡◌, ◌+◌, take, drop, subst, sym, position, Some, None}
use Rattle.report_reader.specs.Objects.{IsPlaceNumber, is_dot}
use Rattle.report_reader.proofs.PlaceholderLemmas.{no_places, two_places_from, two_places_to}
use Rattle.report_reader.proofs.objects.are_two_places.Goals as goal

pub returns-in_default : goal.returns-in_default
returns-in_default c =
    let none : position is_dot c.args.field.now ≡ None = search rules in
    (λ e. absurd (cc), λ t. absurd (no_places c.args.field.now none t))

pub returns-then-is_place : goal.returns-then-is_place
returns-then-is_place c =
    let there : position is_dot c.args.field.now ≡ Some c.in-Some.dot = search rules in
    let first : IsPlaceNumber (take c.in-Some.dot c.args.field.now) =
    subst IsPlaceNumber c.before-2.ensures (c.is_place.ensures.0 c.if-is_place.true) in
    let left : c.behind.result.now ≡ drop (c.in-Some.dot + 1) c.args.field.now = c.behind.ensures in (
      λ e. two_places_from c.args.field.now c.in-Some.dot there first (subst IsPlaceNumber left (c.is_place-then-is_place.ensures.0 e)),
      λ t. c.is_place-then-is_place.ensures.1 (subst IsPlaceNumber (sym left) (two_places_to c.args.field.now c.in-Some.dot there t).1),
    )

pub returns-else-is_place : goal.returns-else-is_place
returns-else-is_place c =
    let there : position is_dot c.args.field.now ≡ Some c.in-Some.dot = search rules in (
      λ e. absurd (cc (e, c.if-is_place.false)),
      λ t. c.is_place.ensures.1 (subst IsPlaceNumber (sym c.before-2.ensures) (two_places_to c.args.field.now c.in-Some.dot there t).0),
    )
