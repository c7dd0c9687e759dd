-- Roles that are marked one after the other.
use Rattle.std.specs.Prelude.{ℕ, List, [], ◌∷◌, map, slice_set}
use Rattle.task_model.specs.declared.domain.Action.{Action}
use Rattle.task_model.specs.declared.domain.Derived as rule
use Rattle.task_model.specs.declared.domain.Pattern.{Pattern}
use Rattle.task_model.specs.declared.domain.Role.{Role}
use Rattle.task_model.specs.declared.domain.Role.TheVariants.{Fluent}

-- each of the predicates has the role, if it is there
abbrev pub all_marked : Role → List Role → List ℕ → List Role
all_marked role roles [] = roles
all_marked role roles (pred ∷ preds) = all_marked role (slice_set roles pred role) preds

abbrev pub changed_preds : List Pattern → List ℕ
changed_preds patterns = map (λ (p : Pattern). p.pred) patterns

abbrev pub headed_preds : List rule.Derived → List ℕ
headed_preds rules = map (λ (d : rule.Derived). d.pred) rules

-- what an action adds or deletes is a fluent
abbrev pub fluents_marked : List Role → List Action → List Role
fluents_marked roles [] = roles
fluents_marked roles (a ∷ as') =
    fluents_marked (all_marked Fluent (all_marked Fluent roles (changed_preds a.adds)) (changed_preds a.deletes)) as'
