-- The grid's tasks of all numbers, as the readers give them from their texts.
use Rattle.std.specs.Prelude.{ℕ, ◌+◌, ◌-◌, ◌*◌, List, [], ◌∷◌, ◌++◌, codes, map, None, false}
use Rattle.std.specs.Fmt.{decimal}
use Rattle.std.specs.List.{flat_map}
use Rattle.lemmas.specs.Lists.{numbers_from}
use Rattle.grid_text.specs.Grids.{GridFile, NamedRect}
use Rattle.grid_text.specs.declared.grid.Block.{Block}
use Rattle.grid_text.specs.declared.rect.Rect.{Rect}
use Rattle.task_model.specs.Condition.{Condition, Atom, Equal, All as every, Not, Exists, parts_of}
use Rattle.task_model.specs.Known.{atom_fact}
use Rattle.task_model.specs.declared.condition.Term.{Term}
use Rattle.task_model.specs.declared.condition.Term.TheVariants.{Slot, Object}
use Rattle.task_model.specs.declared.domain.Action.{Action}
use Rattle.task_model.specs.declared.domain.Declared.{Declared}
use Rattle.task_model.specs.declared.domain.Derived as rule
use Rattle.task_model.specs.declared.domain.Domain.{Domain}
use Rattle.task_model.specs.declared.domain.Pattern.{Pattern}
use Rattle.task_model.specs.declared.domain.Role.TheVariants as role
use Rattle.task_model.specs.declared.domain.Signature.{Signature}
use Rattle.task_model.specs.declared.domain.Sort as sorts
use Rattle.task_model.specs.declared.fact.Fact.{Fact}
use Rattle.task_model.specs.declared.stream.Stream.{Stream}
use Rattle.task_model.specs.declared.task.Problem.{Problem}
use Rattle.task_model.specs.declared.task.Task.{Task}

-- ---- the domain

abbrev slots : List ℕ → List Term
slots numbers = map (λ n. Slot n) numbers

abbrev pub pattern : ℕ → List ℕ → Pattern
pattern pred numbers = record { pred = pred; args = slots numbers }

abbrev atom : ℕ → List ℕ → Condition
atom pred numbers = Atom pred (slots numbers)

-- a type under `object`
abbrev sort : List ℕ → sorts.Sort
sort name = record { name = name; above = 0 ∷ [] }

abbrev signature : List ℕ → ℕ → Signature
signature name arity = record { name = name; arity = arity }

-- another block than s0 is at a pose, and s0 at s1 isn't known to be clear of it
abbrev pub unsafe : rule.Derived
unsafe = record {
  pred = 9;
  params = 1 ∷ 3 ∷ [];
  body = Exists 2 (1 ∷ 3 ∷ [])
      (every (parts_of (atom 6 (2 ∷ 3 ∷ []) ∷ Not (Equal (Slot 2) (Slot 0))
      ∷ Not (atom 5 (0 ∷ 1 ∷ 2 ∷ 3 ∷ [])) ∷ [])));
}

-- s0 is at a pose in the region s1
abbrev pub placed : rule.Derived
placed = record {
  pred = 10;
  params = 1 ∷ 2 ∷ [];
  body = Exists 2 (3 ∷ []) (every (parts_of (atom 6 (0 ∷ 2 ∷ []) ∷ atom 2 (0 ∷ 2 ∷ 1 ∷ []) ∷ [])));
}

-- a block s0, a pose s1, a side s2, a cell s3
abbrev pub pick : Action
pick = record {
  name = codes "pick";
  params = 1 ∷ 3 ∷ 4 ∷ 5 ∷ [];
  condition = every (parts_of (atom 7 [] ∷ atom 6 (0 ∷ 1 ∷ []) ∷ atom 4 (0 ∷ 1 ∷ 2 ∷ 3 ∷ []) ∷ []));
  adds = pattern 8 (0 ∷ 2 ∷ []) ∷ [];
  deletes = pattern 6 (0 ∷ 1 ∷ []) ∷ pattern 7 [] ∷ [];
  costs = [];
}

abbrev pub put : Action
put = record {
  name = codes "put";
  params = 1 ∷ 3 ∷ 4 ∷ 5 ∷ [];
  condition = every (parts_of (atom 8 (0 ∷ 2 ∷ []) ∷ atom 4 (0 ∷ 1 ∷ 2 ∷ 3 ∷ []) ∷ Not (atom 9 (0 ∷ 1 ∷ [])) ∷ []));
  adds = pattern 6 (0 ∷ 1 ∷ []) ∷ pattern 7 [] ∷ [];
  deletes = pattern 8 (0 ∷ 2 ∷ []) ∷ [];
  costs = [];
}

abbrev pub grid_domain : Domain
grid_domain = record {
  name = codes "grid";
  sorts = record { name = codes "object"; above = [] } ∷ sort (codes "block") ∷ sort (codes "region")
      ∷ sort (codes "pose") ∷ sort (codes "side") ∷ sort (codes "cell") ∷ [];
  predicates = signature (codes "fits") 2 ∷ signature (codes "pose") 2 ∷ signature (codes "in") 3
      ∷ signature (codes "grasp") 2 ∷ signature (codes "reach") 4 ∷ signature (codes "clear") 4
      ∷ signature (codes "at") 2 ∷ signature (codes "free") 0 ∷ signature (codes "holding") 2
      ∷ signature (codes "unsafe") 2 ∷ signature (codes "placed") 2 ∷ [];
  functions = signature (codes "total-cost") 0 ∷ [];
  constants = [];
  derived = unsafe ∷ placed ∷ [];
  actions = pick ∷ put ∷ [];
  roles = role.Static ∷ role.Static ∷ role.Static ∷ role.Static ∷ role.Static ∷ role.Static
      ∷ role.Fluent ∷ role.Fluent ∷ role.Fluent ∷ role.Derived ∷ role.Derived ∷ [];
}

-- ---- the streams

-- a pose s2 of the block s0 in the region s1
abbrev pub place_stream : Stream
place_stream = record {
  name = codes "place";
  inputs = 1 ∷ 2 ∷ [];
  outputs = 3 ∷ [];
  domain = pattern 0 (0 ∷ 1 ∷ []) ∷ [];
  certified = pattern 1 (0 ∷ 2 ∷ []) ∷ pattern 2 (0 ∷ 2 ∷ 1 ∷ []) ∷ [];
  worth = None;
}

-- a side s1 of the block s0
abbrev pub grasp_stream : Stream
grasp_stream = record {
  name = codes "grasp";
  inputs = 1 ∷ [];
  outputs = 4 ∷ [];
  domain = [];
  certified = pattern 3 (0 ∷ 1 ∷ []) ∷ [];
  worth = None;
}

-- the cell s3 from which the block s0 at the pose s1 is reached by the side s2
abbrev pub reach_stream : Stream
reach_stream = record {
  name = codes "reach";
  inputs = 1 ∷ 3 ∷ 4 ∷ [];
  outputs = 5 ∷ [];
  domain = pattern 1 (0 ∷ 1 ∷ []) ∷ pattern 3 (0 ∷ 2 ∷ []) ∷ [];
  certified = pattern 4 (0 ∷ 1 ∷ 2 ∷ 3 ∷ []) ∷ [];
  worth = None;
}

-- the block s0 at the pose s1 and the block s2 at the pose s3 don't overlap
abbrev pub clear_stream : Stream
clear_stream = record {
  name = codes "clear";
  inputs = 1 ∷ 3 ∷ 1 ∷ 3 ∷ [];
  outputs = [];
  domain = pattern 1 (0 ∷ 1 ∷ []) ∷ pattern 1 (2 ∷ 3 ∷ []) ∷ [];
  certified = pattern 5 (0 ∷ 1 ∷ 2 ∷ 3 ∷ []) ∷ [];
  worth = None;
}

abbrev pub grid_streams : List Stream
grid_streams = place_stream ∷ grasp_stream ∷ reach_stream ∷ clear_stream ∷ []

-- ---- problems: of blocks b1 .. bn, regions r1 .. rn and first poses home-b1 .. home-bn, in this order

abbrev objects_named : List ℕ → ℕ → ℕ → List Declared
objects_named front sort n =
    map (λ i. record { name = front ++ decimal i; sorts = sort ∷ [] }) (numbers_from 1 n)

-- the block i fits the region i, its first pose is one of its poses, and it is there
abbrev facts_of : ℕ → ℕ → List Fact
facts_of n i =
    atom_fact 0 ((i - 1) ∷ (n + i - 1) ∷ []) ∷ atom_fact 1 ((i - 1) ∷ (2 * n + i - 1) ∷ [])
    ∷ atom_fact 6 ((i - 1) ∷ (2 * n + i - 1) ∷ []) ∷ []

-- the block i is in the region i
abbrev goal_of : ℕ → ℕ → Condition
goal_of n i = Atom 10 (Object (i - 1) ∷ Object (n + i - 1) ∷ [])

abbrev pub grid_problem : ℕ → Problem
grid_problem n = record {
  name = codes "grid-" ++ decimal n;
  objects = objects_named (codes "b") 1 n ++ objects_named (codes "r") 2 n ++ objects_named (codes "home-b") 3 n;
  init = atom_fact 7 [] ∷ flat_map (facts_of n) (numbers_from 1 n);
  values = [];
  goal = every (parts_of (map (goal_of n) (numbers_from 1 n)));
  metric = false;
}

-- the task of a number
abbrev pub grid_task_of : ℕ → Task
grid_task_of n =
    record { domain = grid_domain; problem = grid_problem n; streams = grid_streams }

-- ---- grids

abbrev pub made_block : ℕ → Block
made_block i = record { name = codes "b" ++ decimal i; w = 1; h = 1; x = 2 * i - 2; y = 1 }

abbrev pub made_region : ℕ → NamedRect
made_region i = record {
  name = codes "r" ++ decimal i;
  rect = record { x = 2 * i - 2; y = 4; w = 2; h = 1 };
}

abbrev pub made_obstacle : ℕ → Rect
made_obstacle i = record { x = 2 * i - 2; y = 4; w = 1; h = 1 }

-- the grid of a number: blocks one cell below the top, two cells apart, and regions of two cells three cells further
-- down, with an obstacle on the first of the two
abbrev pub grid_file_of : ℕ → GridFile
grid_file_of n = record {
  width = 2 * n;
  height = 6;
  blocks = map made_block (numbers_from 1 n);
  regions = map made_region (numbers_from 1 n);
  obstacles = map made_obstacle (numbers_from 1 n);
}
