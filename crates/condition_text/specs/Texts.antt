-- Conditions as PDDL text, where the first slots hold objects.
use Rattle.std.specs.Prelude.{ℕ, ◌+◌, List, [], ◌∷◌, ◌++◌, codes, Option, Some, None, slice_get}
use Rattle.std.specs.Fmt.{decimal}
use Rattle.std.specs.Option.{option_map_or}
use Rattle.task_model.specs.Condition.{Condition, Conditions, Atom, Equal, All, Any, Not, Exists, none, more}
use Rattle.task_model.specs.Streams.{name_at}
use Rattle.task_model.specs.declared.condition.Term.{Term}
use Rattle.task_model.specs.declared.condition.Term.TheVariants.{Slot, Object}
use Rattle.task_model.specs.declared.domain.Domain.{Domain}
use Rattle.task_model.specs.declared.domain.Signature.{Signature}
use Rattle.task_model.specs.declared.domain.Sort.{Sort}

-- ---- names

-- the name of a predicate by its place, and no bytes where there is none
abbrev pub predicate_name : Domain → ℕ → List ℕ
predicate_name domain place = option_map_or (λ (s : Signature). s.name) (slice_get domain.predicates place) []

-- the name of a type by its place, and no bytes where there is none
abbrev pub sort_name : Domain → ℕ → List ℕ
sort_name domain place = option_map_or (λ (s : Sort). s.name) (slice_get domain.sorts place) []

-- the variable of a slot
abbrev pub variable : ℕ → List ℕ
variable slot = codes "?x" ++ decimal slot

module _ (names : List (List ℕ)) (objects : List ℕ) where
  -- the name of the object in a slot, and the slot's variable where it holds none
  abbrev pub slot_text : ℕ → Option ℕ → List ℕ
  slot_text slot (Some object) = name_at names object
  slot_text slot None = variable slot

  abbrev pub term_text : Term → List ℕ
  term_text (Slot slot) = slot_text slot (slice_get objects slot)
  term_text (Object object) = name_at names object

  -- each with a space in front of it
  abbrev pub terms_text : List Term → List ℕ
  terms_text [] = []
  terms_text (term ∷ terms) = codes " " ++ term_text term ++ terms_text terms

  -- a word and terms, in parentheses
  abbrev pub applied : List ℕ → List Term → List ℕ
  applied word terms = codes "(" ++ word ++ terms_text terms ++ codes ")"

-- ---- variables that are bound

module _ (domain : Domain) where
  -- a variable with its type
  abbrev pub typed : ℕ → ℕ → List ℕ
  typed slot sort = variable slot ++ codes " - " ++ sort_name domain sort

  -- those from this slot on, each with a space in front of it
  abbrev pub more_variables : ℕ → List ℕ → List ℕ
  more_variables slot [] = []
  more_variables slot (sort ∷ sorts) = codes " " ++ typed slot sort ++ more_variables (slot + 1) sorts

  -- those from this slot on, with a space between any two
  abbrev pub variables_text : ℕ → List ℕ → List ℕ
  variables_text slot [] = []
  variables_text slot (sort ∷ sorts) = typed slot sort ++ more_variables (slot + 1) sorts

-- ---- conditions

module _ (domain : Domain) (names : List (List ℕ)) (objects : List ℕ) where
  abbrev mutual
    -- The condition as PDDL text. A slot that holds an object is that object's name; each other one is `?x` and its
    -- number.
    pub condition_text : Condition → List ℕ
    condition_text (Atom pred args) = applied names objects (predicate_name domain pred) args
    condition_text (Equal first second) = applied names objects (codes "=") (first ∷ second ∷ [])
    condition_text (All parts) = codes "(and" ++ parts_text parts ++ codes ")"
    condition_text (Any parts) = codes "(or" ++ parts_text parts ++ codes ")"
    condition_text (Not part) = codes "(not " ++ condition_text part ++ codes ")"
    condition_text (Exists first sorts body) =
        codes "(exists (" ++ variables_text domain first sorts ++ codes ") " ++ condition_text body ++ codes ")"

    -- each with a space in front of it
    pub parts_text : Conditions → List ℕ
    parts_text none = []
    parts_text (more part parts) = codes " " ++ condition_text part ++ parts_text parts
