-- What the parts at the top of a condition ask of the atoms of a state. Atoms have numbers, their places in a list.
use Rattle.std.specs.Prelude.{◌≡◌, ℕ, ◌<◌, List, length, map, All, Bool, true, false, not, ◌&&◌, Some, slice_get, slice_index_or, nat_lt}
use Rattle.task_model.specs.Condition.{Condition, Not}
use Rattle.task_model.specs.Known.{Known}
use Rattle.task_model.specs.State.{Atoms}
use Rattle.task_model.specs.Truth.{slots_of}
use Rattle.task_model.specs.declared.domain.Domain.{Domain}
use Rattle.task_model.specs.declared.fact.Atom.{Atom}
use Rattle.state_store.specs.Rows.{row_atoms}
use Rattle.grounder.specs.Candidates.{is_part_open}
use Rattle.grounder.specs.Parts.{fluent_in, is_static_part}
use Rattle.grounder.specs.declared.asks.Ask.{Ask}
use Rattle.grounder.specs.declared.asks.Ask.TheVariants.{Nothing, There, Missing, Judged}

-- With each row of arguments the condition is an atom of a fluent, and these are the numbers of the atoms.
pub record AreNumbers (domain : Domain) (condition : Condition) (rows : List (List ℕ)) (numbered : List Atom)
    (numbers : List ℕ) : Type 0 where
  pub known : All (λ n. n < length numbered) numbers
  pub atoms : map Some (row_atoms numbered numbers) ≡ map (λ args. fluent_in domain (slots_of args) condition) rows

-- Under `not` stands such a condition.
pub record AreForbidden (domain : Domain) (part : Condition) (rows : List (List ℕ)) (numbered : List Atom)
    (numbers : List ℕ) : Type 0 where
  pub inner : Condition
  pub negated : part ≡ Not inner
  pub asked : AreNumbers domain inner rows numbered numbers

-- this is what the part asks of a state
abbrev pub IsAsk : Domain → Condition → List (List ℕ) → List Atom → Ask → Type 0
IsAsk domain part rows numbered Nothing = is_static_part domain part ≡ true
IsAsk domain part rows numbered (There numbers) = AreNumbers domain part rows numbered numbers
IsAsk domain part rows numbered (Missing numbers) = AreForbidden domain part rows numbered numbers
IsAsk domain part rows numbered Judged = is_static_part domain part ≡ false

-- These are what the parts ask, one for each.
pub record AreAsks (domain : Domain) (parts : List Condition) (rows : List (List ℕ)) (numbered : List Atom)
    (asks : List Ask) : Type 0 where
  pub places : length asks ≡ length parts
  pub each : (k : ℕ) (part : Condition) (ask : Ask) → slice_get parts k ≡ Some part → slice_get asks k ≡ Some ask
      → IsAsk domain part rows numbered ask

-- a number stands at this place, and it is one of so many
abbrev pub is_number_within : ℕ → ℕ → List ℕ → Bool
is_number_within place count numbers = nat_lt place (length numbers) && nat_lt (slice_index_or numbers place 0) count

-- what is asked for the row at this place is asked of one of so many atoms
abbrev pub is_within : ℕ → ℕ → Ask → Bool
is_within place count Nothing = true
is_within place count (There numbers) = is_number_within place count numbers
is_within place count (Missing numbers) = is_number_within place count numbers
is_within place count Judged = true

-- what is asked for the row at this place is so, as far as these marks of atoms say
abbrev pub is_met : List Bool → ℕ → Ask → Bool
is_met marks place Nothing = true
is_met marks place (There numbers) = slice_index_or marks (slice_index_or numbers place 0) true
is_met marks place (Missing numbers) = not (slice_index_or marks (slice_index_or numbers place 0) true)
is_met marks place Judged = true

-- it is to be judged
abbrev pub is_judged : Ask → Bool
is_judged Nothing = false
is_judged (There numbers) = false
is_judged (Missing numbers) = false
is_judged Judged = true

-- the part is true or an atom of a static predicate; where it is to be judged, it is no such atom
abbrev pub IsMetBy : Domain → Known → Atoms → List ℕ → Condition → Ask → Type 0
IsMetBy domain known state slots part Nothing = is_part_open domain known state slots part ≡ true
IsMetBy domain known state slots part (There numbers) = is_part_open domain known state slots part ≡ true
IsMetBy domain known state slots part (Missing numbers) = is_part_open domain known state slots part ≡ true
IsMetBy domain known state slots part Judged = is_static_part domain part ≡ false

-- These are what the parts ask, and all of it is so that isn't to be judged.
pub record AreMet (domain : Domain) (known : Known) (state : Atoms) (slots : List ℕ) (parts : List Condition)
    (asks : List Ask) : Type 0 where
  pub places : length asks ≡ length parts
  pub each : (k : ℕ) (part : Condition) (ask : Ask) → slice_get parts k ≡ Some part → slice_get asks k ≡ Some ask
      → IsMetBy domain known state slots part ask
