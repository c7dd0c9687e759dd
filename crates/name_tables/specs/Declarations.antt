-- Names with the numbers that belong to them, and lists of both side by side.
use Rattle.std.specs.Prelude.{ℕ, List, [], ◌∷◌, ◌++◌, Option, Some, None, slice_get, slice_set}
use Rattle.task_model.specs.declared.domain.Declared as declared
use Rattle.task_model.specs.declared.domain.Signature.{Signature}
use Rattle.name_tables.specs.Graphs.{ascending_with}
use Rattle.name_tables.specs.Names.{table_place, with_table_name}

-- names, and at the same place in the other list the ascending numbers of their types
pub record Typed : Type 0 where
  pub names : List (List ℕ)
  pub sorts : List (List ℕ)

abbrev pub no_typed : Typed
no_typed = record { names = []; sorts = [] }

abbrev pub put_number : List (List ℕ) → ℕ → ℕ → Option (List ℕ) → List (List ℕ)
put_number lists place n None = lists
put_number lists place n (Some old) = slice_set lists place (ascending_with old n)

-- the lists with one more number in the list at this place, if there is one
abbrev pub number_put : List (List ℕ) → ℕ → ℕ → List (List ℕ)
number_put lists place n = put_number lists place n (slice_get lists place)

abbrev pub declared_by : Typed → List ℕ → ℕ → Option ℕ → Typed
declared_by t name sort None =
    record { names = with_table_name t.names name; sorts = t.sorts ++ (sort ∷ []) ∷ [] }
declared_by t name sort (Some place) = record t { sorts = number_put t.sorts place sort }

-- A name that is declared again has both types.
abbrev pub declare : Typed → List ℕ → ℕ → Typed
declare t name sort = declared_by t name sort (table_place name t.names)

-- each name with the type beside it
abbrev pub declare_each : Typed → List (List ℕ) → List ℕ → Typed
declare_each t [] sorts = t
declare_each t (n ∷ ns) [] = t
declare_each t (n ∷ ns) (s ∷ ss) = declare_each (declare t n s) ns ss

-- as the task has them
abbrev pub declared_list : List (List ℕ) → List (List ℕ) → List declared.Declared
declared_list [] sorts = []
declared_list (n ∷ ns) [] = []
declared_list (n ∷ ns) (s ∷ ss) = record { name = n; sorts = s } ∷ declared_list ns ss

abbrev pub signature_list : List (List ℕ) → List ℕ → List Signature
signature_list [] arities = []
signature_list (n ∷ ns) [] = []
signature_list (n ∷ ns) (a ∷ as') = record { name = n; arity = a } ∷ signature_list ns as'
