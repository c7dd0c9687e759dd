use Rattle.std.proofs.Common.{◌≡◌, ◌+◌, ◌*◌, drop}
use Rattle.task_model.specs.Condition.{parts_of, size_of, sizes_of}
use Rattle.task_model.specs.Fit as fit
use Rattle.fit_check.proofs.conditions.+sound.Given as goal

abbrev pub decreases-is_sound : goal.decreases-is_sound
decreases-is_sound l = 3 * size_of l.formula.now

abbrev pub decreases-are_sound : goal.decreases-are_sound
decreases-are_sound l = 3 * sizes_of (parts_of l.parts.now) + 1

abbrev pub decreases-is_sound_in : goal.decreases-is_sound_in
decreases-is_sound_in l = 3 * size_of l.body.now + 1

-- what is left to see decides
abbrev pub invariant-are_sound-loop-part : goal.invariant-are_sound-loop-part
invariant-are_sound-loop-part l =
    fit.are_sound l.scope.domain.now l.scope.objects (parts_of (drop l.part-index l.parts)) l.slots
    ≡ fit.are_sound l.scope.domain.now l.scope.objects (parts_of l.parts) l.slots

abbrev pub decreases-are_fit_parts : goal.decreases-are_fit_parts
decreases-are_fit_parts l = 3 * sizes_of (parts_of l.parts.now) + 2
