use Rattle.std.proofs.Common.{◌≡◌, ◌+◌, ◌*◌, ◌++◌, drop}
use Rattle.task_model.specs.Condition.{parts_of, size_of, sizes_of}
use Rattle.condition_text.specs.Texts.{parts_text}
use Rattle.condition_text.proofs.naming.Naming.+put.Given as goal

abbrev pub decreases-put_condition : goal.decreases-put_condition
decreases-put_condition l = 3 * size_of l.formula.now

abbrev pub decreases-put_exists : goal.decreases-put_exists
decreases-put_exists l = 3 * size_of l.body.now + 1

abbrev pub decreases-put_denied : goal.decreases-put_denied
decreases-put_denied l = 3 * size_of l.part.now + 1

abbrev pub decreases-put_parts : goal.decreases-put_parts
decreases-put_parts l = 3 * sizes_of (parts_of l.parts.now) + 1

abbrev pub decreases-put_joined : goal.decreases-put_joined
decreases-put_joined l = 3 * sizes_of (parts_of l.parts.now) + 2

-- what is left to put makes the whole
abbrev pub invariant-put_parts-loop-part : goal.invariant-put_parts-loop-part
invariant-put_parts-loop-part l =
    l.text.items
    ++ parts_text l.self.domain.now l.self.names.now l.self.objects.now (parts_of (drop l.part-index l.parts))
    ≡ l.initial.text.items
    ++ parts_text l.self.domain.now l.self.names.now l.self.objects.now (parts_of l.parts)
