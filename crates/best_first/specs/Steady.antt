-- Conditions that stay true as more atoms of fluents become true.
use Rattle.std.specs.Prelude.{ℕ, List, Bool, true, false, not, ◌&&◌, ◌||◌, slice_get, unwrap_or}
use Rattle.std.specs.List.{list_all}
use Rattle.task_model.specs.Condition.{Condition, Conditions, Atom, Equal, All as every, Any, Not, Exists, none, more}
use Rattle.task_model.specs.Roles.{role_of}
use Rattle.task_model.specs.declared.domain.Derived.{Derived}
use Rattle.task_model.specs.declared.domain.Domain.{Domain}
use Rattle.task_model.specs.declared.domain.Role.{Role}
use Rattle.task_model.specs.declared.domain.Role.TheVariants as role

-- the predicate is marked
abbrev pub is_marked : List Bool → ℕ → Bool
is_marked marks pred = unwrap_or (slice_get marks pred) false

-- Static atoms stay as they are. Those of fluents stay true, and so do derived ones whose predicate is marked. `under` says
-- that the atom stands under a `not`, where it has to stay as it is.
abbrev pub is_steady_atom : List Bool → Bool → Role → ℕ → Bool
is_steady_atom marks under role.Static pred = true
is_steady_atom marks under role.Fluent pred = not under
is_steady_atom marks under role.Derived pred = not under && is_marked marks pred

module _ (domain : Domain) (marks : List Bool) where
  -- each atom in the condition is so
  abbrev mutual
    pub is_steady : Bool → Condition → Bool
    is_steady under (Atom pred args) = is_steady_atom marks under (role_of domain pred) pred
    is_steady under (Equal s t) = true
    is_steady under (every parts) = are_steady under parts
    is_steady under (Any parts) = are_steady under parts
    is_steady under (Not part) = is_steady true part
    is_steady under (Exists first sorts body) = is_steady under body

    pub are_steady : Bool → Conditions → Bool
    are_steady under none = true
    are_steady under (more part parts) = is_steady under part && are_steady under parts

  -- what the item's predicate follows by is steady, if it is marked
  abbrev pub is_steady_item : Derived → Bool
  is_steady_item item = not (is_marked marks item.pred) || is_steady false item.body

  abbrev pub has_steady_items : Bool
  has_steady_items = list_all is_steady_item domain.derived
