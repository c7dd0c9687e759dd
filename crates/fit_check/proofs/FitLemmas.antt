-- Fit tasks, by the tests of their parts.
use Rattle.std.proofs.Common.{◌≡◌, ℕ, Bool, true, ◌&&◌, ◌==◌, List, [], map, length, count_by, nat_le, ap, ◌∙◌, eqb-true, eq-eqb}
use Rattle.std.specs.Cmp.{first_so, second_so}
use Rattle.std.specs.List.{list_all}
use Rattle.std.proofs.lemmas.Bool.{and_from, leb-true, le-leb}
use Rattle.task_model.specs.Fit as fit
use Rattle.task_model.specs.declared.domain.Action.{Action}
use Rattle.task_model.specs.declared.domain.Declared.{Declared}
use Rattle.task_model.specs.declared.domain.Domain.{Domain}
use Rattle.task_model.specs.declared.domain.Signature.{Signature}
use Rattle.task_model.specs.declared.stream.Stream.{Stream}
use Rattle.task_model.specs.declared.task.Task.{Task}
use Rattle.fit_check.proofs.TestsFirstLemmas.{first_if, first_from}
use Rattle.fit_check.proofs.RuleLemmas.{rules_acyclic, items_acyclic}
use Rattle.fit_check.proofs.SortLemmas.{names_if, names_from, sorts_if, sorts_from}
use Rattle.fit_check.proofs.ValueLemmas.{roles_if, roles_right, roles_long, one_value_if, one_value_from}
use Rattle.fit_check.specs.Cycles.{IsAcyclic}
use Rattle.fit_check.specs.Tests as tests

and3 : (a b c : Bool) → (a && b && c) ≡ true → (a ≡ true) × (b ≡ true) × (c ≡ true)
and3 a b c e = (first_so a b (first_so (a && b) c e), second_so a b (first_so (a && b) c e), second_so (a && b) c e)

and3_from : (a b c : Bool) → a ≡ true → b ≡ true → c ≡ true → (a && b && c) ≡ true
and3_from a b c p q r = and_from (a && b) c (and_from a b p q) r

-- ---- domains

abbrev signature_names : List Signature → List (List ℕ)
signature_names = map (λ (s : Signature). s.name)

signatures_if : (all : List Signature) → tests.are_fit_signatures all ≡ true
    → fit.AreFitSignatures all
signatures_if all e =
    let parts =
    and3 (fit.is_short all) (list_all (λ (s : Signature). nat_le s.arity 8) all) (tests.are_fit_names (signature_names all)) e in
    record { names = names_if (signature_names all) parts.2; arities = parts.1; short = parts.0 }

signatures_from : (all : List Signature) → fit.AreFitSignatures all
    → tests.are_fit_signatures all ≡ true
signatures_from all are =
    and3_from (fit.is_short all) (list_all (λ (s : Signature). nat_le s.arity 8) all)
    (tests.are_fit_names (signature_names all)) are.short are.arities (names_from (signature_names all) are.names)

abbrev object_names : List Declared → List (List ℕ)
object_names = map (λ (d : Declared). d.name)

objects_if : (domain : Domain) (all : List Declared) → tests.are_fit_objects domain all ≡ true
    → fit.AreFitObjects domain all
objects_if domain all e =
    let parts =
    and3 (fit.is_short all) (list_all (λ (d : Declared). fit.are_places (length domain.sorts) d.sorts) all)
    (tests.are_fit_names (object_names all)) e in
    record { names = names_if (object_names all) parts.2; types = parts.1; short = parts.0 }

objects_from : (domain : Domain) (all : List Declared) → fit.AreFitObjects domain all
    → tests.are_fit_objects domain all ≡ true
objects_from domain all are =
    and3_from (fit.is_short all) (list_all (λ (d : Declared). fit.are_places (length domain.sorts) d.sorts) all)
    (tests.are_fit_names (object_names all)) are.short are.types (names_from (object_names all) are.names)

abbrev action_names : Domain → List (List ℕ)
action_names domain = map (λ (a : Action). a.name) domain.actions

abbrev short_actions : Domain → Bool
short_actions domain =
    fit.is_short domain.actions && list_all (fit.is_fit_action domain) domain.actions

abbrev long_roles : Domain → Bool
long_roles domain = length domain.roles == length domain.predicates

abbrev few_derived : Domain → Bool
few_derived domain = nat_le (count_by fit.is_derived_role domain.roles) 64

domain_if : (domain : Domain) → tests.is_fit_domain domain ≡ true
    → IsAcyclic (tests.item_leads domain) → fit.IsFitDomain domain
domain_if domain e acyclic =
    let actions =
    second_so (tests.have_fit_lists domain && tests.are_fit_items domain && tests.are_fit_roles domain)
    (tests.are_fit_actions domain) e in
    let front =
    and3 (tests.have_fit_lists domain) (tests.are_fit_items domain) (tests.are_fit_roles domain)
    (first_so (tests.have_fit_lists domain && tests.are_fit_items domain && tests.are_fit_roles domain)
    (tests.are_fit_actions domain) e) in
    let roles = and3 (long_roles domain) (tests.are_right domain 0 domain.roles) (few_derived domain) front.2 in
    let named =
    first_so (fit.is_name domain.name && tests.are_fit_sorts domain.sorts && tests.are_fit_signatures domain.predicates
    && tests.are_fit_signatures domain.functions) (tests.are_fit_objects domain domain.constants) front.0 in
    let lists =
    and3 (fit.is_name domain.name) (tests.are_fit_sorts domain.sorts) (tests.are_fit_signatures domain.predicates)
    (first_so (fit.is_name domain.name && tests.are_fit_sorts domain.sorts && tests.are_fit_signatures domain.predicates)
    (tests.are_fit_signatures domain.functions) named) in
    record {
      name = lists.0;
      types = sorts_if domain.sorts lists.1;
      predicates = signatures_if domain.predicates lists.2;
      functions =
          signatures_if domain.functions (second_so
          (fit.is_name domain.name && tests.are_fit_sorts domain.sorts && tests.are_fit_signatures domain.predicates)
          (tests.are_fit_signatures domain.functions) named);
      constants =
          objects_if domain domain.constants (second_so
          (fit.is_name domain.name && tests.are_fit_sorts domain.sorts && tests.are_fit_signatures domain.predicates
          && tests.are_fit_signatures domain.functions) (tests.are_fit_objects domain domain.constants) front.0);
      items = front.1;
      few_derived = leb-true (count_by fit.is_derived_role domain.roles) 64 roles.2;
      acyclic = rules_acyclic domain acyclic;
      action_names = names_if (action_names domain) (second_so (short_actions domain) (tests.are_fit_names (action_names domain)) actions);
      actions = first_so (short_actions domain) (tests.are_fit_names (action_names domain)) actions;
      roles = roles_if domain 0 (length domain.predicates) domain.roles
          (eqb-true (length domain.roles) (length domain.predicates) roles.0) roles.1;
    }

domain_from : (domain : Domain) → fit.IsFitDomain domain → tests.is_fit_domain domain ≡ true
domain_from domain is =
    let lists =
    and_from _ _ (and_from _ _ (and3_from (fit.is_name domain.name) (tests.are_fit_sorts domain.sorts)
    (tests.are_fit_signatures domain.predicates) is.name (sorts_from domain.sorts is.types)
    (signatures_from domain.predicates is.predicates)) (signatures_from domain.functions is.functions))
    (objects_from domain domain.constants is.constants) in
    let long = eq-eqb (length domain.roles) (length domain.predicates)
    (ap length is.roles ∙ roles_long domain 0 (length domain.predicates)) in
    let right = ap (tests.are_right domain 0) is.roles ∙ roles_right domain 0 (length domain.predicates) in
    let roles =
    and3_from (long_roles domain) (tests.are_right domain 0 domain.roles)
    (few_derived domain) long right (le-leb (count_by fit.is_derived_role domain.roles) 64 is.few_derived) in
    let actions =
    and_from (short_actions domain) (tests.are_fit_names (action_names domain)) is.actions
    (names_from (action_names domain) is.action_names) in
    and_from (tests.have_fit_lists domain && tests.are_fit_items domain && tests.are_fit_roles domain) (tests.are_fit_actions domain)
    (and3_from (tests.have_fit_lists domain) (tests.are_fit_items domain) (tests.are_fit_roles domain) lists is.items roles) actions

-- ---- problems

abbrev goal_fit : Task → Bool
goal_fit task = fit.is_fit_condition task.domain (length task.problem.objects) [] task.problem.goal

abbrev init_fit : Task → Bool
init_fit task =
    fit.is_short task.problem.init
    && list_all (fit.is_fit_fact task.domain (length task.problem.objects)) task.problem.init

abbrev values_fit : Task → Bool
values_fit task =
    fit.is_short task.problem.values && list_all (fit.is_fit_value task.domain (length task.problem.objects)) task.problem.values

abbrev starts : Task → Bool
starts task =
    fit.is_name task.problem.name && tests.are_fit_objects task.domain task.problem.objects
    && tests.are_first task.domain.constants task.problem.objects

problem_if : (task : Task) → tests.is_fit_problem task ≡ true → fit.IsFitProblem task
problem_if task e =
    let behind = and3 (starts task && tests.has_fit_facts task) (tests.has_fit_values task) (goal_fit task) e in
    let front = first_so (starts task) (tests.has_fit_facts task) behind.0 in
    let first =
    and3 (fit.is_name task.problem.name) (tests.are_fit_objects task.domain task.problem.objects)
    (tests.are_first task.domain.constants task.problem.objects) front in
    record {
      name = first.0;
      objects = objects_if task.domain task.problem.objects first.1;
      constants_first = first_if task.domain.constants task.problem.objects first.2;
      init = second_so (starts task) (tests.has_fit_facts task) behind.0;
      values = first_so (values_fit task) (tests.have_one_value task.problem.values) behind.1;
      one_value = one_value_if task.problem.values (second_so (values_fit task) (tests.have_one_value task.problem.values) behind.1);
      goal = behind.2;
    }

problem_from : (task : Task) → fit.IsFitProblem task → tests.is_fit_problem task ≡ true
problem_from task is =
    let first =
    and3_from (fit.is_name task.problem.name) (tests.are_fit_objects task.domain task.problem.objects)
    (tests.are_first task.domain.constants task.problem.objects) is.name (objects_from task.domain task.problem.objects is.objects)
    (first_from task.domain.constants task.problem.objects is.constants_first) in
    let values =
    and_from (values_fit task) (tests.have_one_value task.problem.values) is.values (one_value_from task.problem.values is.one_value) in
    and3_from (starts task && tests.has_fit_facts task) (tests.has_fit_values task)
    (goal_fit task) (and_from (starts task) (tests.has_fit_facts task) first is.init) values is.goal

-- ---- streams

abbrev stream_names : Task → List (List ℕ)
stream_names task = map (λ (s : Stream). s.name) task.streams

abbrev streams_each : Task → Bool
streams_each task =
    fit.is_short task.streams && list_all (fit.is_fit_stream task.domain) task.streams

streams_if : (task : Task) → tests.are_fit_streams task ≡ true → IsAcyclic (fit.leads task)
    → fit.AreFitStreams task
streams_if task e acyclic = record {
  names = names_if (stream_names task) (second_so (streams_each task) (tests.are_fit_names (stream_names task)) e);
  each = first_so (streams_each task) (tests.are_fit_names (stream_names task)) e;
  acyclic = acyclic;
}

streams_from : (task : Task) → fit.AreFitStreams task → tests.are_fit_streams task ≡ true
streams_from task are =
    and_from (streams_each task) (tests.are_fit_names (stream_names task)) are.each (names_from (stream_names task) are.names)

-- ---- tasks

abbrev pub nearly : Task → Bool
nearly task =
    tests.is_fit_domain task.domain && tests.is_fit_problem task && tests.are_fit_streams task

pub fit_if : (task : Task) → nearly task ≡ true → IsAcyclic (tests.item_leads task.domain)
    → IsAcyclic (fit.leads task) → fit.IsFit task
fit_if task e items streams =
    let parts = and3 (tests.is_fit_domain task.domain) (tests.is_fit_problem task) (tests.are_fit_streams task) e in
    record { domain = domain_if task.domain parts.0 items; problem = problem_if task parts.1; streams = streams_if task parts.2 streams }

pub fit_nearly : (task : Task) → fit.IsFit task → nearly task ≡ true
fit_nearly task is =
    and3_from (tests.is_fit_domain task.domain) (tests.is_fit_problem task) (tests.are_fit_streams task)
    (domain_from task.domain is.domain) (problem_from task is.problem) (streams_from task is.streams)

pub fit_items : (task : Task) → fit.IsFit task → IsAcyclic (tests.item_leads task.domain)
fit_items task is = items_acyclic task.domain is.domain.acyclic
