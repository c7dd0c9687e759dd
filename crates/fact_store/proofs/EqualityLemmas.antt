-- What the derived comparison of values computes.
use Rattle.std.proofs.Common.{◌≡◌, Bool, true, false, cond, ◌&&◌, ◌==◌, List, [], ◌∷◌, ◌++◌, refl}
use Rattle.std.specs.List.{list_any}
use Rattle.task_model.specs.Known.{same_value, same_numbers, with_value}
use Rattle.task_model.specs.declared.task.Valued.{Valued}
use Rattle.task_model.specs.contracts.task.ValuedPartialEq.TheImpl as valued

and_assoc : (a b c : Bool) → (a && (b && c)) ≡ ((a && b) && c)
and_assoc true b c = refl
and_assoc false b c = refl

pub valued_eq : (a b : Valued) → valued.eq-value.it a b ≡ same_value a b
valued_eq a b = and_assoc (a.func == b.func) (same_numbers a.args b.args) (a.value == b.value)

-- what a set of values has after an insert
pub value_put : (values : List Valued) (a : Valued)
    → cond (list_any (valued.eq-value.it a) values) values (values ++ a ∷ []) ≡ with_value values a
value_put values a i = cond (list_any (λ b. valued_eq a b i) values) values (values ++ a ∷ [])
