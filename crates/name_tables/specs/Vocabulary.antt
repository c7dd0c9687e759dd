-- What names there are in the texts of a task.
use Rattle.std.specs.Prelude.{ℕ, List, [], ◌∷◌, codes, Option, Some, None, slice_get}
use Rattle.task_model.specs.declared.domain.Declared as declared
use Rattle.task_model.specs.declared.domain.Domain.{Domain}
use Rattle.task_model.specs.declared.domain.Signature.{Signature}
use Rattle.task_model.specs.declared.domain.Sort as sort
use Rattle.name_tables.specs.Names.{Signed, table_place, with_table_name, with_signature}
use Rattle.name_tables.specs.declared.vocabulary.Vocabulary.{Vocabulary}

abbrev pub arity_at : Signed → Option ℕ → Option ℕ
arity_at s None = None
arity_at s (Some place) = slice_get s.arities place

-- how many arguments a name takes, where it is declared
abbrev pub arity_of : Signed → List ℕ → Option ℕ
arity_of s name = arity_at s (table_place name s.names)

-- ---- the names of a domain

-- The names of types behind those so far, each once.
abbrev pub put_sorts : List (List ℕ) → List sort.Sort → List (List ℕ)
put_sorts names [] = names
put_sorts names (s ∷ ss) = put_sorts (with_table_name names s.name) ss

-- Predicates or functions behind those so far, each name once.
abbrev pub put_signatures : Signed → List Signature → Signed
put_signatures signed [] = signed
put_signatures signed (s ∷ ss) = put_signatures (with_signature signed s.name s.arity) ss

-- The names of constants behind those so far, each once.
abbrev pub put_constants : List (List ℕ) → List declared.Declared → List (List ℕ)
put_constants names [] = names
put_constants names (d ∷ ds) = put_constants (with_table_name names d.name) ds

abbrev pub nothing_signed : Signed
nothing_signed = record { names = []; arities = [] }

-- the names of a domain; its objects are its constants
abbrev pub vocabulary_of : Domain → Vocabulary
vocabulary_of d =
    record {
      sorts = put_sorts [] d.sorts;
      predicates = put_signatures nothing_signed d.predicates;
      functions = put_signatures nothing_signed d.functions;
      objects = put_constants [] d.constants;
    }

-- an undeclared total cost is the last function
abbrev pub with_total_cost : Vocabulary → Vocabulary
with_total_cost v = record v { functions = with_signature v.functions (codes "total-cost") 0 }
