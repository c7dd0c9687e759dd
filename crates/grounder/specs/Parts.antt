-- The static atoms of a condition: no state changes whether they are true. And the fluent ones: these are the state's.
use Rattle.std.specs.Prelude.{◌≡◌, ℕ, List, [], ◌∷◌, length, Bool, true, false, Option, None, Some}
use Rattle.std.specs.List.{list_all}
use Rattle.task_model.specs.Condition.{Condition, Conditions, Atom, Equal, All, Any, Not, Exists, none, more}
use Rattle.task_model.specs.Fit.{is_sound, is_static_role}
use Rattle.task_model.specs.Known.{Known, is_fact, atom_fact}
use Rattle.lemmas.specs.Lists.{numbers_from}
use Rattle.task_model.specs.Roles.{role_of}
use Rattle.task_model.specs.Truth.{objects_at}
use Rattle.task_model.specs.declared.domain.Domain.{Domain}
use Rattle.task_model.specs.declared.domain.Role.{Role}
use Rattle.task_model.specs.declared.domain.Role.TheVariants.{Static, Fluent, Derived}
use Rattle.task_model.specs.declared.fact.Atom as facts
use Rattle.std.specs.Prelude.{not, ◌||◌}
use Rattle.fact_join.specs.Answers.{is_known, is_atom_over}
use Rattle.fact_join.specs.declared.query.QueryAtom.{QueryAtom}

abbrev pub list_of : Conditions → List Condition
list_of none = []
list_of (more part parts) = part ∷ list_of parts

-- the parts that all have to be true where the condition is made of such, and else the condition alone
abbrev pub tops_of : Condition → List Condition
tops_of (Atom pred args) = Atom pred args ∷ []
tops_of (Equal s t) = Equal s t ∷ []
tops_of (All parts) = list_of parts
tops_of (Any parts) = Any parts ∷ []
tops_of (Not part) = Not part ∷ []
tops_of (Exists first sorts body) = Exists first sorts body ∷ []

-- it is an atom of a static predicate
abbrev pub is_static_part : Domain → Condition → Bool
is_static_part domain (Atom pred args) = is_static_role (role_of domain pred)
is_static_part domain (Equal s t) = false
is_static_part domain (All parts) = false
is_static_part domain (Any parts) = false
is_static_part domain (Not part) = false
is_static_part domain (Exists first sorts body) = false

-- it is a known fact if it is an atom, where the slots have these objects
abbrev pub is_known_atom : Known → List ℕ → Condition → Bool
is_known_atom known slots (Atom pred args) =
    is_fact known.facts (atom_fact pred (objects_at slots args))
is_known_atom known slots (Equal s t) = true
is_known_atom known slots (All parts) = true
is_known_atom known slots (Any parts) = true
is_known_atom known slots (Not part) = true
is_known_atom known slots (Exists first sorts body) = true

-- it is a known fact if it is an atom of a static predicate
abbrev pub is_settled : Domain → Known → List ℕ → Condition → Bool
is_settled domain known slots part = not (is_static_part domain part) || is_known_atom known slots part

-- the atom, if this is the role of fluents
abbrev pub fluent_as : Role → facts.Atom → Option facts.Atom
fluent_as Fluent atom = Some atom
fluent_as Static atom = None
fluent_as Derived atom = None

-- the atom where the slots have these objects, if the condition is one of a fluent
abbrev pub fluent_in : Domain → List ℕ → Condition → Option facts.Atom
fluent_in domain slots (Atom pred args) =
    fluent_as (role_of domain pred) (record { pred = pred; args = objects_at slots args })
fluent_in domain slots (Equal s t) = None
fluent_in domain slots (All parts) = None
fluent_in domain slots (Any parts) = None
fluent_in domain slots (Not part) = None
fluent_in domain slots (Exists first sorts body) = None

-- the condition is fit where so many slots are filled
abbrev pub is_sound_over : Domain → ℕ → Condition → Bool
is_sound_over domain width condition =
    is_sound domain (length domain.constants) condition (numbers_from 0 width)

-- The atoms are those of static predicates among the parts: they are known exactly where these are settled, and their
-- slots are filled where the parts' are.
pub record AreNeeded (domain : Domain) (parts : List Condition) (atoms : List QueryAtom) : Type 0 where
  pub slots : (width : ℕ) → list_all (is_sound_over domain width) parts ≡ true
      → list_all (is_atom_over width) atoms ≡ true
  pub known : (known : Known) (slots : List ℕ)
      → list_all (is_known known slots) atoms ≡ list_all (is_settled domain known slots) parts

-- the same of one atom and one part
pub record IsNeeded (domain : Domain) (part : Condition) (atom : QueryAtom) : Type 0 where
  pub static : is_static_part domain part ≡ true
  pub slots : (width : ℕ) → is_sound_over domain width part ≡ true → is_atom_over width atom ≡ true
  pub known : (known : Known) (slots : List ℕ)
      → is_known known slots atom ≡ is_settled domain known slots part
