-- What a fit task asks for, as tests that compute, but that nothing rests on itself.
use Rattle.std.specs.Prelude.{ℕ, ◌+◌, List, [], ◌∷◌, map, length, codes, count_by, Bool, true, false, not, ◌&&◌, ◌==◌, nat_le, Option, None, Some, slice_get}
use Rattle.std.specs.List.{list_any, list_all}
use Rattle.task_model.specs.Fit as fit
use Rattle.task_model.specs.Known.{same_numbers}
use Rattle.task_model.specs.Roles.{role_of}
use Rattle.task_model.specs.declared.domain.Action.{Action}
use Rattle.task_model.specs.declared.domain.Declared.{Declared}
use Rattle.task_model.specs.declared.domain.Derived as rule
use Rattle.task_model.specs.declared.domain.Domain.{Domain}
use Rattle.task_model.specs.declared.domain.Role.{Role}
use Rattle.task_model.specs.declared.domain.Role.TheVariants.{Static, Fluent, Derived}
use Rattle.task_model.specs.declared.domain.Signature.{Signature}
use Rattle.task_model.specs.declared.domain.Sort as sorts
use Rattle.task_model.specs.declared.stream.Stream.{Stream}
use Rattle.task_model.specs.declared.task.Task.{Task}
use Rattle.task_model.specs.declared.task.Valued.{Valued}
use Rattle.task_model.specs.Streams.{is_empty}

-- ---- names

-- no name stands at two places
abbrev pub are_different : List (List ℕ) → Bool
are_different [] = true
are_different (name ∷ names) = not (list_any (same_numbers name) names) && are_different names

abbrev pub are_fit_names : List (List ℕ) → Bool
are_fit_names names = list_all fit.is_name names && are_different names

-- ---- types

-- the type `object`, which has no supertypes
abbrev pub is_object : Option sorts.Sort → Bool
is_object (Some s) = same_numbers s.name (codes "object") && is_empty s.above
is_object None = false

-- no type, the first of which has this place, is its own supertype
abbrev pub are_proper : ℕ → List sorts.Sort → Bool
are_proper place [] = true
are_proper place (s ∷ ss) = not (list_any (λ n. n == place) s.above) && are_proper (place + 1) ss

-- the supertypes of this type, if there is one, are among these
abbrev pub are_among : Option sorts.Sort → List ℕ → Bool
are_among (Some s) above = list_all (λ b. list_any (λ n. n == b) above) s.above
are_among None above = true

-- a type has the supertypes of its supertypes
abbrev pub is_closed : List sorts.Sort → sorts.Sort → Bool
is_closed all s = list_all (λ a. are_among (slice_get all a) s.above) s.above

abbrev pub are_fit_sorts : List sorts.Sort → Bool
are_fit_sorts all =
    fit.is_short all && is_object (slice_get all 0)
    && list_all (λ (s : sorts.Sort). fit.are_places (length all) s.above) all && are_proper 0 all
    && list_all (is_closed all) all && are_fit_names (map (λ (s : sorts.Sort). s.name) all)

-- ---- domains

abbrev pub are_fit_signatures : List Signature → Bool
are_fit_signatures all =
    fit.is_short all && list_all (λ (s : Signature). nat_le s.arity 8) all
    && are_fit_names (map (λ (s : Signature). s.name) all)

abbrev pub are_fit_objects : Domain → List Declared → Bool
are_fit_objects domain all =
    fit.is_short all && list_all (λ (d : Declared). fit.are_places (length domain.sorts) d.sorts) all
    && are_fit_names (map (λ (d : Declared). d.name) all)

abbrev pub same_role : Role → Role → Bool
same_role Static Static = true
same_role Fluent Fluent = true
same_role Derived Derived = true
same_role Static Fluent = false
same_role Static Derived = false
same_role Fluent Static = false
same_role Fluent Derived = false
same_role Derived Static = false
same_role Derived Fluent = false

-- the roles from this place on are right
abbrev pub are_right : Domain → ℕ → List Role → Bool
are_right domain place [] = true
are_right domain place (r ∷ rs) =
    same_role r (role_of domain place) && are_right domain (place + 1) rs

-- each predicate has its role, and few are derived
abbrev pub are_fit_roles : Domain → Bool
are_fit_roles domain =
    (length domain.roles == length domain.predicates) && are_right domain 0 domain.roles
    && nat_le (count_by fit.is_derived_role domain.roles) 64

abbrev pub are_fit_items : Domain → Bool
are_fit_items domain =
    fit.is_short domain.derived && list_all (fit.is_fit_item domain) domain.derived

abbrev pub are_fit_actions : Domain → Bool
are_fit_actions domain =
    fit.is_short domain.actions && list_all (fit.is_fit_action domain) domain.actions
    && are_fit_names (map (λ (a : Action). a.name) domain.actions)

abbrev pub have_fit_lists : Domain → Bool
have_fit_lists domain =
    fit.is_name domain.name && are_fit_sorts domain.sorts && are_fit_signatures domain.predicates
    && are_fit_signatures domain.functions && are_fit_objects domain domain.constants

-- all but that no derived predicate rests on itself
abbrev pub is_fit_domain : Domain → Bool
is_fit_domain domain =
    have_fit_lists domain && are_fit_items domain && are_fit_roles domain && are_fit_actions domain

-- ---- problems

-- the constants are the first of the objects
abbrev pub are_first : List Declared → List Declared → Bool
are_first [] objects = true
are_first (c ∷ cs) (o ∷ os) = same_numbers c.name o.name && are_first cs os
are_first (c ∷ cs) [] = false

-- another value of the same term
abbrev pub differ : Valued → Valued → Bool
differ v w = (v.func == w.func) && same_numbers v.args w.args && not (v.value == w.value)

-- no term has two values
abbrev pub have_one_value : List Valued → Bool
have_one_value [] = true
have_one_value (v ∷ vs) = not (list_any (differ v) vs) && have_one_value vs

abbrev pub has_fit_facts : Task → Bool
has_fit_facts task =
    fit.is_short task.problem.init
    && list_all (fit.is_fit_fact task.domain (length task.problem.objects)) task.problem.init

abbrev pub has_fit_values : Task → Bool
has_fit_values task =
    fit.is_short task.problem.values
    && list_all (fit.is_fit_value task.domain (length task.problem.objects)) task.problem.values
    && have_one_value task.problem.values

abbrev pub is_fit_problem : Task → Bool
is_fit_problem task =
    fit.is_name task.problem.name && are_fit_objects task.domain task.problem.objects
    && are_first task.domain.constants task.problem.objects && has_fit_facts task && has_fit_values task
    && fit.is_fit_condition task.domain (length task.problem.objects) [] task.problem.goal

-- ---- streams

-- all but that no stream feeds itself
abbrev pub are_fit_streams : Task → Bool
are_fit_streams task =
    fit.is_short task.streams && list_all (fit.is_fit_stream task.domain) task.streams
    && are_fit_names (map (λ (s : Stream). s.name) task.streams)

-- ---- graphs

-- the first item's body mentions what the second heads
abbrev pub mentions_head : Option rule.Derived → Option rule.Derived → Bool
mentions_head (Some first) (Some second) = fit.mentions second.pred first.body
mentions_head None second = false
mentions_head (Some first) None = false

abbrev pub item_leads : Domain → ℕ → ℕ → Bool
item_leads domain from to =
    mentions_head (slice_get domain.derived from) (slice_get domain.derived to)
