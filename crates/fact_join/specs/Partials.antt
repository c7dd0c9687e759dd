-- Which tuples agree with a partial one.
use Rattle.std.specs.Prelude.{◌≡◌, ℕ, ◌<◌, ◌≤◌, Bool, true, false, List, ◌↔◌, Option, None, Some, is_none, count_by, slice_get, slice_index, Contains}
use Rattle.task_model.specs.Truth.{object_of, objects_at}
use Rattle.task_model.specs.declared.condition.Term.{Term}
use Rattle.task_model.specs.declared.condition.Term.TheVariants.{Slot}
use Rattle.task_model.specs.declared.limits.TheConstants.{SLOTS}
use Rattle.fact_join.specs.declared.partial.Grounding.{Grounding}
use Rattle.fact_join.specs.declared.partial.Grounding.TheVariants.{Row, Free}
use Rattle.fact_join.specs.declared.partial.Partial.{Partial}

-- where one of the slots of the partial tuple has an object, the slots have it too
abbrev pub Agrees : Partial → List ℕ → Type 0
Agrees partial slots =
    (slot object : ℕ) → slot < SLOTS → slice_get partial.slots slot ≡ Some (Some object)
    → slice_index slots slot ≡ object

abbrev pub free_slots : Partial → ℕ
free_slots partial = count_by is_none partial.slots

-- what is left of those that agree where something has to hold of the slots besides
abbrev pub Narrows : Partial → (List ℕ → Type 0) → Option Partial → Type 0
Narrows partial P (Some left) =
    ((slots : List ℕ) → Agrees left slots ↔ (Agrees partial slots × P slots))
    × (free_slots left ≤ free_slots partial)
Narrows partial P None = (slots : List ℕ) → Agrees partial slots → ¬ (P slots)

-- the partial tuple, where it is kept
abbrev pub left_if : Bool → Partial → Option Partial
left_if true partial = Some partial
left_if false partial = None

-- the term is this object in each tuple that agrees
abbrev pub IsFixed : Partial → Term → ℕ → Type 0
IsFixed partial term object =
    (slots : List ℕ) → Agrees partial slots → object_of slots term ≡ object

-- the first slots, so many, have objects
abbrev pub AreFixed : Partial → ℕ → Type 0
AreFixed partial width =
    (slot : ℕ) → slot < width
    → (object : ℕ) × (slice_get partial.slots slot ≡ Some (Some object))

-- the terms are these objects in each tuple that agrees, or one of them is a slot that is free
abbrev pub IsGrounding : Partial → List Term → Grounding → Type 0
IsGrounding partial terms (Row row) =
    (slots : List ℕ) → Agrees partial slots → objects_at slots terms ≡ row
IsGrounding partial terms (Free slot) =
    Contains terms (Slot slot) × (slice_get partial.slots slot ≡ Some None)
