-- Which objects are tried for a variable.
use Rattle.std.specs.Prelude.{◌≡◌, ℕ, ◌<◌, List, length, Bool, false, Option, Some, None, true, slice_get, slice_index}
use Rattle.std.specs.List.{list_all}
use Rattle.task_model.specs.Condition.{Condition}
use Rattle.task_model.specs.Known.{Known, atom_fact, matches_of, objects_of}
use Rattle.task_model.specs.State.{Atoms, items}
use Rattle.task_model.specs.Truth.{objects_at}
use Rattle.task_model.specs.declared.condition.Term.TheVariants.{Slot}
use Rattle.task_model.specs.declared.domain.Domain.{Domain}
use Rattle.formula_eval.specs.Judged.{truth_at}
use Rattle.formula_eval.specs.Readable.{is_readable_term}
use Rattle.formula_memo.specs.declared.lead.Among.{Among}
use Rattle.formula_memo.specs.declared.lead.Among.TheVariants.{State, Facts}
use Rattle.formula_memo.specs.declared.lead.Lead.{Lead}

-- the slots below this one have the same objects
abbrev pub IsSameBelow : ℕ → List ℕ → List ℕ → Type 0
IsSameBelow slot before after = (k : ℕ) → k < slot → slice_index before k ≡ slice_index after k

-- The slot stands at the lead's place.
pub record IsPlaced (slot : ℕ) (lead : Lead) : Type 0 where
  pub at : slice_get lead.terms.now lead.place ≡ Some (Slot slot)
  pub readable : list_all is_readable_term lead.terms.now ≡ true

-- where an atom of this predicate has to be, there are so many places
abbrev pub places_among : Known → Atoms → ℕ → Among → ℕ
places_among known state pred State = length (items state)
places_among known state pred (Facts at object) = length (matches_of known.facts pred at object)

-- the predicate's atom of these objects is at this place of where it has to be
abbrev pub StandsAmong : Known → Atoms → ℕ → Among → List ℕ → ℕ → Type 0
StandsAmong known state pred State objects place =
    slice_get (items state) place ≡ Some (record { pred = pred; args = objects })
StandsAmong known state pred (Facts at object) objects place =
    slice_get (matches_of known.facts pred at object) place ≡ Some (atom_fact pred objects)

-- the lead's atom, where the slots have these objects, is at this place
abbrev pub StandsAt : Known → Atoms → Lead → List ℕ → ℕ → Type 0
StandsAt known state lead slots place =
    StandsAmong known state lead.pred lead.among (objects_at slots lead.terms.now) place

-- The same lead, but by the facts that have the object of one of its terms.
pub record IsInFacts (slot : ℕ) (slots : List ℕ) (before lead : Lead) : Type 0 where
  pub at : ℕ
  pub object : ℕ
  pub is : lead ≡ record { pred = before.pred; terms = before.terms; place = before.place; among = Facts at object }
  pub filled : (after : List ℕ) → IsSameBelow slot slots after
      → slice_get (objects_at after before.terms.now) at ≡ Some object

-- Where the condition is true and the slots below have these objects, the lead's atom is at some place.
pub record IsTryLead (domain : Domain) (condition : Condition) (slot : ℕ) (slots : List ℕ) (lead : Lead) : Type 0 where
  pub placed : IsPlaced slot lead
  pub needed : (known : Known) (state : Atoms) (depth : ℕ) (after : List ℕ) → IsSameBelow slot slots after
      → truth_at domain known state depth condition after ≡ true
      → (place : ℕ) × StandsAt known state lead after place

-- At this place stands the lead's atom with the object in the slot, where the slots below have the same objects.
pub record IsLedTo (known : Known) (state : Atoms) (lead : Lead) (slot : ℕ) (slots : List ℕ)
    (place object : ℕ) : Type 0 where
  pub after : List ℕ
  pub same : IsSameBelow slot slots after
  pub here : slice_index after slot ≡ object
  pub stands : StandsAt known state lead after place

-- how many places there are
abbrev pub place_count : Known → Atoms → ℕ → Option Lead → ℕ
place_count known state sort None = length (objects_of known.facts sort)
place_count known state sort (Some lead) = places_among known state lead.pred lead.among

-- the object comes at this place
abbrev pub ComesAt : Known → Atoms → ℕ → Option Lead → ℕ → List ℕ → ℕ → ℕ → Type 0
ComesAt known state sort None slot slots place object =
    slice_get (objects_of known.facts sort) place ≡ Some object
ComesAt known state sort (Some lead) slot slots place object = IsLedTo known state lead slot slots place object

-- what is tried passes the test
abbrev pub is_passed : (ℕ → Bool) → Option ℕ → Bool
is_passed test None = false
is_passed test (Some object) = test object
