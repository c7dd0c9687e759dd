-- Conditions that can be read: what the judge of truth asks of a condition. Those of a fit task can be read.
use Rattle.std.specs.Prelude.{◌+◌, length, Bool, true, ◌&&◌, nat_lt, nat_le}
use Rattle.std.specs.List.{list_all}
use Rattle.task_model.specs.Condition.{Condition, Conditions, Atom, Equal, All as every, Any, Not, Exists, none, more}
use Rattle.task_model.specs.declared.condition.Term.{Term}
use Rattle.task_model.specs.declared.condition.Term.TheVariants.{Slot, Object}
use Rattle.task_model.specs.declared.domain.Domain.{Domain}
use Rattle.task_model.specs.declared.limits.TheConstants.{SLOTS}

-- a slot is one of those that there are
abbrev pub is_readable_term : Term → Bool
is_readable_term (Slot n) = nat_lt n SLOTS
is_readable_term (Object o) = true

module _ (domain : Domain) where
  -- each predicate is the domain's, with at most eight arguments, and all slots are among those that there are
  abbrev mutual
    pub is_readable : Condition → Bool
    is_readable (Atom pred args) =
        nat_lt pred (length domain.predicates) && nat_le (length args) 8 && list_all is_readable_term args
    is_readable (Equal s t) = is_readable_term s && is_readable_term t
    is_readable (every parts) = are_readable parts
    is_readable (Any parts) = are_readable parts
    is_readable (Not part) = is_readable part
    is_readable (Exists first sorts body) = nat_le (first + length sorts) SLOTS && is_readable body

    pub are_readable : Conditions → Bool
    are_readable none = true
    are_readable (more part parts) = is_readable part && are_readable parts
