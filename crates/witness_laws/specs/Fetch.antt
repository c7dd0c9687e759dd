-- The first worked task: a stream grips a cup. Its task as a value, and a table of answers.
use Rattle.std.specs.Prelude.{List, [], ◌∷◌, codes, false, None}
use Rattle.gen_lines.specs.Reply.{yields}
use Rattle.task_model.specs.Condition.{Atom, All as every, more, none}
use Rattle.task_model.specs.declared.condition.Term.{Term}
use Rattle.task_model.specs.declared.condition.Term.TheVariants.{Slot, Object}
use Rattle.task_model.specs.declared.domain.Action.{Action}
use Rattle.task_model.specs.declared.domain.Domain.{Domain}
use Rattle.task_model.specs.declared.domain.Pattern.{Pattern}
use Rattle.task_model.specs.declared.domain.Role.TheVariants.{Fluent, Static}
use Rattle.task_model.specs.declared.fact.Kind.TheVariants.{Predicate}
use Rattle.task_model.specs.declared.stream.Stream.{Stream}
use Rattle.task_model.specs.declared.task.Problem.{Problem}
use Rattle.task_model.specs.declared.task.Task.{Task}
use Rattle.transcript_model.specs.Tables.{Answers, TableRow, reply_in}
use Rattle.transcript_model.specs.declared.entry.Call.{Call}

-- ---- the domain: (item ?x), (hold ?x ?g), (grip ?x ?g), (free), (done ?x)

abbrev pub both : List Term
both = Slot 0 ∷ Slot 1 ∷ []

abbrev pub held_pattern : Pattern
held_pattern = record { pred = 1; args = both }

abbrev pub hand_free : Pattern
hand_free = record { pred = 3; args = [] }

-- what can be gripped so is held, and the hand isn't free
abbrev pub take_it : Action
take_it = record {
  name = codes "take";
  params = 0 ∷ 0 ∷ [];
  condition = every (more (Atom 3 []) (more (Atom 2 both) none));
  adds = held_pattern ∷ [];
  deletes = hand_free ∷ [];
  costs = [];
}

-- what is held is done, and the hand is free
abbrev pub drop_it : Action
drop_it = record {
  name = codes "drop";
  params = 0 ∷ 0 ∷ [];
  condition = Atom 1 both;
  adds = record { pred = 4; args = Slot 0 ∷ [] } ∷ hand_free ∷ [];
  deletes = held_pattern ∷ [];
  costs = [];
}

abbrev pub fetch_domain : Domain
fetch_domain = record {
  name = codes "fetch";
  sorts = record { name = codes "object"; above = [] } ∷ [];
  predicates = record { name = codes "item"; arity = 1 } ∷ record { name = codes "hold"; arity = 2 }
      ∷ record { name = codes "grip"; arity = 2 } ∷ record { name = codes "free"; arity = 0 }
      ∷ record { name = codes "done"; arity = 1 } ∷ [];
  functions = record { name = codes "total-cost"; arity = 0 } ∷ [];
  constants = [];
  derived = [];
  actions = take_it ∷ drop_it ∷ [];
  roles = Static ∷ Fluent ∷ Static ∷ Fluent ∷ Fluent ∷ [];
}

-- ---- the problem: a cup is to be done

abbrev pub fetch_problem : Problem
fetch_problem = record {
  name = codes "one";
  objects = record { name = codes "cup"; sorts = 0 ∷ [] } ∷ [];
  init = record { kind = Predicate; name = 0; args = 0 ∷ [] } ∷ record { kind = Predicate; name = 3; args = [] } ∷ [];
  values = [];
  goal = Atom 4 (Object 0 ∷ []);
  metric = false;
}

-- ---- the streams: how an item may be gripped

abbrev pub grip : Stream
grip = record {
  name = codes "grip";
  inputs = 0 ∷ [];
  outputs = 0 ∷ [];
  domain = record { pred = 0; args = Slot 0 ∷ [] } ∷ [];
  certified = record { pred = 2; args = both } ∷ [];
  worth = None;
}

abbrev pub fetch : Task
fetch = record { domain = fetch_domain; problem = fetch_problem; streams = grip ∷ [] }

-- ---- the table: the cup is gripped from the left, and in no other way

abbrev pub grip_cup : Call
grip_cup = record { name = codes "grip"; args = codes "cup" ∷ [] }

abbrev pub fetch_rows : List TableRow
fetch_rows = record { call = grip_cup; turn = 0; reply = yields 1 (codes "left" ∷ []) } ∷ []

-- a call without a row is answered that nothing more comes
abbrev pub fetch_answers : Answers
fetch_answers = reply_in fetch_rows
