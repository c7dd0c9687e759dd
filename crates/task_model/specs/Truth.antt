-- When a condition is true (PDDL 2.1, and PDDL 2.2 for derived predicates).
use Rattle.std.specs.Prelude.{ℕ, zero, suc, ◌+◌, ◌-◌, List, [], ◌∷◌, ◌++◌, map, Bool, true, false, not, ◌&&◌, ◌||◌, ◌==◌, slice_index, slice_set, length, replicate}
use Rattle.std.specs.List.{list_any}
use Rattle.task_model.specs.Condition.{Condition, Conditions, Atom, Equal, All, Any, Not, Exists, none, more}
use Rattle.task_model.specs.Known.{Known, is_fact, type_fact, atom_fact, objects_of}
use Rattle.task_model.specs.Roles.{role_of}
use Rattle.task_model.specs.State.{Atoms, contains}
use Rattle.task_model.specs.declared.condition.Term.{Term}
use Rattle.task_model.specs.declared.condition.Term.TheVariants.{Slot, Object}
use Rattle.task_model.specs.declared.domain.Domain.{Domain}
use Rattle.task_model.specs.declared.domain.Derived.{Derived}
use Rattle.task_model.specs.declared.domain.Role.{Role}
use Rattle.task_model.specs.declared.domain.Role.TheVariants as role
use Rattle.task_model.specs.declared.limits.TheConstants.{SLOTS}

-- ---- slots

-- all slots, the first of which have these objects; the others have the object 0
abbrev pub slots_of : List ℕ → List ℕ
slots_of args = args ++ replicate (SLOTS - length args) 0

-- the term is this slot
abbrev pub is_slot : ℕ → Term → Bool
is_slot slot (Slot n) = n == slot
is_slot slot (Object o) = false

-- the object that a term stands for
abbrev pub object_of : List ℕ → Term → ℕ
object_of slots (Slot n) = slice_index slots n
object_of slots (Object o) = o

-- the objects that the terms stand for: that in a slot, or the one that is named
abbrev pub objects_at : List ℕ → List Term → List ℕ
objects_at slots terms = map (object_of slots) terms

-- ---- conditions, where `atom` says which atoms are true and `objects` which objects have a type

-- some objects of these types, put into the slots from `first` on, pass the test
abbrev pub some_tuple : (ℕ → List ℕ) → (List ℕ → Bool) → ℕ → List ℕ → List ℕ → Bool
some_tuple objects test first [] slots = test slots
some_tuple objects test first (sort ∷ sorts) slots =
    list_any (λ o. some_tuple objects test (first + 1) sorts (slice_set slots first o)) (objects sort)

module _ (atom : ℕ → List ℕ → Bool) (objects : ℕ → List ℕ) where
  abbrev mutual
    pub truth : Condition → List ℕ → Bool
    truth (Atom pred args) slots = atom pred (objects_at slots args)
    truth (Equal s t) slots = object_of slots s == object_of slots t
    truth (All parts) slots = all_true parts slots
    truth (Any parts) slots = any_true parts slots
    truth (Not part) slots = not (truth part slots)
    truth (Exists first sorts body) slots = some_tuple objects (truth body) first sorts slots

    pub all_true : Conditions → List ℕ → Bool
    all_true none slots = true
    all_true (more part parts) slots = truth part slots && all_true parts slots

    pub any_true : Conditions → List ℕ → Bool
    any_true none slots = false
    any_true (more part parts) slots = truth part slots || any_true parts slots

-- ---- types

-- the object has the type: that is a known fact
abbrev pub has_type : Known → ℕ → ℕ → Bool
has_type known object sort = is_fact known.facts (type_fact sort object)

-- there are as many objects as types, and each has its type
abbrev pub have_types : Known → List ℕ → List ℕ → Bool
have_types known [] [] = true
have_types known (object ∷ objects) (sort ∷ sorts) =
    has_type known object sort && have_types known objects sorts
have_types known [] (sort ∷ sorts) = false
have_types known (object ∷ objects) [] = false

-- ---- atoms

module _ (domain : Domain) (known : Known) (state : Atoms) where
  -- Whether an atom is true, where derived atoms rest on derived atoms at most `depth` deep: a static
  -- atom is a known fact, a fluent's atom is in the state, and a derived one follows by an item that
  -- heads its predicate, whose parameters' types the arguments have.
  abbrev pub atom_as : ℕ → Role → ℕ → List ℕ → Bool
  atom_as depth role.Static pred args = is_fact known.facts (atom_fact pred args)
  atom_as depth role.Fluent pred args = contains state (record { pred = pred; args = args })
  atom_as zero role.Derived pred args = false
  atom_as (suc depth) role.Derived pred args =
      list_any (λ (d : Derived).
      (d.pred == pred) && have_types known args d.params
      && truth (λ p objects. atom_as depth (role_of domain p) p objects)
      (objects_of known.facts) d.body (slots_of args)) domain.derived

  -- A static atom is a known fact, a fluent's atom is in the state, and a derived atom follows by an item, resting on
  -- derived atoms of less depth.
  abbrev pub atom_at : ℕ → ℕ → List ℕ → Bool
  atom_at depth pred args = atom_as depth (role_of domain pred) pred args

  -- as deep as there are items, which is enough where no derived predicate depends on itself
  abbrev pub is_true : Condition → List ℕ → Bool
  is_true condition slots =
      truth (atom_at (length domain.derived)) (objects_of known.facts) condition slots
