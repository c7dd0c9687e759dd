use Rattle.std.proofs.Common.{arith, ap, sym, ◌∙◌, length, ◌≡◌, ◌+◌, ◌≤◌, ◌&&◌, ◌++◌, ◌==◌, false, true}
use Rattle.std.specs.List.{list_any}
use Rattle.task_model.specs.Condition.{parts_of}
use Rattle.task_model.specs.Fit as fit
use Rattle.lemmas.specs.Lists.{numbers_from}
use Rattle.fit_check.proofs.ConditionPartLemmas.{part_smaller, same_inside, short_parts}
use Rattle.fit_check.proofs.conditions.+sound.Goals as goal

pub are_sound-is_sound-requires : goal.are_sound-is_sound-requires
are_sound-is_sound-requires t c =
    let smaller = part_smaller c.args.parts.now c.loop-part.part-index c.part-item.result c.loop-part-test.true c.part-item.is in
    (omega (arith, c.decreases), tt)

pub are_fit_parts-returns-then-is_short : goal.are_fit_parts-returns-then-is_short
are_fit_parts-returns-then-is_short t c =
    c.are_sound.ensures
    ∙ ap (λ b. b && fit.are_sound c.args.scope.domain.now c.args.scope.objects (parts_of c.args.parts.now) c.args.slots.now)
    (short_parts c.args.parts.now true (sym c.is_short.ensures ∙ c.if-is_short.true))

pub are_fit_parts-returns-else-is_short : goal.are_fit_parts-returns-else-is_short
are_fit_parts-returns-else-is_short t c =
    c.if-is_short.false
    ∙ ap (λ b. b && fit.are_sound c.args.scope.domain.now c.args.scope.objects (parts_of c.args.parts.now) c.args.slots.now)
    (short_parts c.args.parts.now false (sym c.is_short.ensures ∙ c.if-is_short.false))

pub is_sound_in-returns-then-are_places : goal.is_sound_in-returns-then-are_places
is_sound_in-returns-then-are_places t c =
    let domain = c.args.scope.domain.now in
    let sorts = c.args.sorts.now in
    let few : c.args.first + length sorts ≤ 16 = omega arith in
    let places : fit.are_places (length domain.sorts) sorts ≡ true =
    (λ i. fit.are_places (sym c.len-2.ensures i) (sym c.as_slice.ensures i)) ∙ sym c.are_places.ensures ∙ c.if-are_places.true in
    c.is_sound.ensures
    ∙ same_inside domain c.args.scope.objects c.args.first sorts c.args.body.now c.args.slots.now c.with.result few places
    (λ n. c.with.ensures n
    ∙ ap (λ m. list_any (λ slot. slot == n) (numbers_from c.args.first m ++ c.args.slots.now)) c.len-then-are_places.ensures)
