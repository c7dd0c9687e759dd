-- Worked examples of the definitions, each computed.
use Rattle.std.specs.Prelude.{◌≡◌, ℕ, [], ◌∷◌, codes, true, false, None, Some}
use Rattle.std.specs.declared.cmp.Ordering.TheVariants.{Less}
use Rattle.task_model.specs.Condition.{Atom, All as every, Not, Exists, none}
use Rattle.task_model.specs.Dreams.{placeholder}
use Rattle.task_model.specs.Initial.{initial_facts}
use Rattle.task_model.specs.Known.{Known, type_fact, atom_fact, with_facts}
use Rattle.task_model.specs.State.{empty, contains}
use Rattle.task_model.specs.Steps.{effect_of, cost_of}
use Rattle.task_model.specs.Streams.{Yielded, Ended, is_finished, instance_cmp, certified_by}
use Rattle.task_model.specs.Truth.{slots_of, is_true}
use Rattle.task_model.specs.declared.condition.Term.TheVariants.{Slot, Object}
use Rattle.task_model.specs.declared.domain.Action.{Action}
use Rattle.task_model.specs.declared.domain.CostTerm.TheVariants.{Number, Value}
use Rattle.task_model.specs.declared.domain.Derived.{Derived}
use Rattle.task_model.specs.declared.domain.Domain.{Domain}
use Rattle.task_model.specs.declared.domain.Pattern.{Pattern}
use Rattle.task_model.specs.declared.domain.Role.TheVariants as role
use Rattle.task_model.specs.declared.stream.Instance.{Instance}
use Rattle.task_model.specs.declared.stream.Stream.{Stream}
use Rattle.task_model.specs.declared.task.Task.{Task}
use Rattle.task_model.specs.declared.task.Valued.{Valued}

-- ---- the domain: `object` and `block`; (on), which an action changes, (seen ?x), (found), which is derived

abbrev pub lamp : Pattern
lamp = record { pred = 0; args = [] }

-- it deletes (on) and adds (on), and costs 3 and the value of (f)
abbrev pub flick : Action
flick = record {
  name = codes "flick";
  params = [];
  condition = every none;
  adds = lamp ∷ [];
  deletes = lamp ∷ [];
  costs = Number 3 ∷ Value 0 [] ∷ [];
}

-- (found) where (seen ?x) for some ?x
abbrev pub finding : Derived
finding = record { pred = 2; params = []; body = Exists 0 (0 ∷ []) (Atom 1 (Slot 0 ∷ [])) }

abbrev pub world : Domain
world = record {
  name = codes "world";
  sorts = record { name = codes "object"; above = [] } ∷ record { name = codes "block"; above = 0 ∷ [] } ∷ [];
  predicates = record { name = codes "on"; arity = 0 } ∷ record { name = codes "seen"; arity = 1 }
      ∷ record { name = codes "found"; arity = 0 } ∷ [];
  functions = record { name = codes "f"; arity = 0 } ∷ [];
  constants = [];
  derived = finding ∷ [];
  actions = flick ∷ [];
  roles = role.Fluent ∷ role.Static ∷ role.Derived ∷ [];
}

-- one block, `cup`
abbrev pub task : Task
task = record {
  domain = world;
  problem = record {
    name = codes "one";
    objects = record { name = codes "cup"; sorts = 1 ∷ [] } ∷ [];
    init = [];
    values = [];
    goal = Atom 2 [];
    metric = true;
  };
  streams = [];
}

-- ---- what is known

abbrev pub at_first : Known
at_first = record { names = codes "cup" ∷ []; facts = initial_facts task; values = [] }

-- a stream gave the object `#v` and certified (seen #v)
abbrev pub later : Known
later = record {
  names = codes "cup" ∷ codes "#v" ∷ [];
  facts = with_facts (initial_facts task) (type_fact 0 1 ∷ atom_fact 1 (1 ∷ []) ∷ []);
  values = [];
}

abbrev pub worth : ℕ → Valued
worth n = record { func = 0; args = []; value = n }

-- ---- streams: one that looks for objects, one that only says yes, and one for a value

abbrev pub looking : Stream
looking = record {
  name = codes "look";
  inputs = 1 ∷ [];
  outputs = 1 ∷ [];
  domain = [];
  certified = record { pred = 1; args = Slot 1 ∷ [] } ∷ [];
  worth = None;
}

abbrev pub testing : Stream
testing = record {
  name = codes "test";
  inputs = 1 ∷ [];
  outputs = [];
  domain = [];
  certified = record { pred = 1; args = Slot 0 ∷ [] } ∷ [];
  worth = None;
}

abbrev pub pricing : Stream
pricing = record {
  name = codes "price";
  inputs = [];
  outputs = [];
  domain = [];
  certified = [];
  worth = Some (record { func = 0; args = [] });
}

abbrev pub call : ℕ → Instance
call input = record { stream = 0; inputs = input ∷ [] }

-- each computed from the definitions
pub record WorkedExamples : Type 0 where
  -- an atom that is both deleted and added is there afterwards
  pub kept : contains (effect_of flick [] empty) (record { pred = 0; args = [] }) ≡ true
  -- a function without a value leaves the cost without one
  pub no_cost : cost_of task at_first flick [] ≡ None
  -- of two values the least counts
  pub least_cost : cost_of task (record later { values = worth 9 ∷ worth 7 ∷ [] }) flick [] ≡ Some 10
  -- a derived body ranges over generated objects
  pub generated : is_true world later empty (Atom 2 []) (slots_of []) ≡ true
  pub not_before : is_true world at_first empty (Atom 2 []) (slots_of []) ≡ false
  -- over a type without objects nothing exists
  pub empty_type : is_true world (record { names = []; facts = []; values = [] }) empty
      (Exists 0 (1 ∷ []) (every none)) (slots_of [])
      ≡ false
  -- a negated atom is true while it is certified nowhere
  pub negated : is_true world at_first empty (Not (Atom 1 (Object 0 ∷ []))) (slots_of []) ≡ true
  -- a declared object has its type and all supertypes, each once
  pub types : initial_facts task ≡ type_fact 1 0 ∷ type_fact 0 0 ∷ []
  -- a yield certifies the output's types and the stream's atoms
  pub certified : certified_by world looking (0 ∷ []) (1 ∷ [])
      ≡ type_fact 1 1 ∷ type_fact 0 1 ∷ type_fact 0 1 ∷ atom_fact 1 (1 ∷ []) ∷ []
  -- a test that has yielded is finished, a stream with outputs isn't, and one that has ended is
  pub tested : is_finished testing (Yielded (call 0) ∷ []) (call 0) ≡ true
  pub unfinished : is_finished looking (Yielded (call 0) ∷ []) (call 0) ≡ false
  pub ended : is_finished pricing (Ended (call 0) ∷ []) (call 0) ≡ true
  -- asks stand by their inputs' names, a proper front of a name before the name
  pub order : instance_cmp (codes "cups" ∷ codes "cup" ∷ []) (call 1) (call 0) ≡ Less
  -- the second output of the tenth entry
  pub named : placeholder 10 2 ≡ codes "@10.2"
