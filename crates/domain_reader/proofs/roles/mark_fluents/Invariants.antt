use Rattle.std.proofs.Common.{◌≡◌, drop}
use Rattle.domain_reader.specs.Marks.{fluents_marked}
use Rattle.domain_reader.proofs.roles.mark_fluents.Given as goal

abbrev pub invariant-loop-action : goal.invariant-loop-action
invariant-loop-action l = fluents_marked l.fn.roles.items l.actions ≡ fluents_marked l.roles.items (drop l.action-index l.actions)
