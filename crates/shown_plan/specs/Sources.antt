-- Generated names, and the yields that have their values.
use Rattle.std.specs.Prelude.{◌≡◌, ℕ, ◌*◌, ◌≤◌, List, [], ◌∷◌, length, Bool, true, false, ◌==◌, Contains, Option, Some, IfSome, IfNone, MatchOption}
use Rattle.std.specs.List.{list_any}
use Rattle.indexmap.specs.IndexMap.{IndexMap, get_by}
use Rattle.task_model.specs.Known.{same_numbers}
use Rattle.transcript_model.specs.Names.{generated}
use Rattle.transcript_model.specs.Outcomes.{has_value, tuple_with}
use Rattle.transcript_model.specs.declared.entry.Call.{Call}
use Rattle.transcript_model.specs.declared.entry.Entry.{Entry}
use Rattle.transcript_model.specs.declared.entry.Entry.TheVariants as entry
use Rattle.shown_plan.specs.declared.source.Source.{Source}

-- the name of a generated object begins with `#`
abbrev pub is_generated : List ℕ → Bool
is_generated [] = false
is_generated (byte ∷ bytes) = byte == 35

-- the name is one of these
abbrev pub is_among : List (List ℕ) → List ℕ → Bool
is_among names name = list_any (same_numbers name) names

-- the name stands in one of the calls
abbrev pub stands_in : List Call → List ℕ → Bool
stands_in calls name = list_any (λ (c : Call). is_among c.args name) calls

-- a yield has tuples, and as many values in each
abbrev pub IsEven : Entry → Type 0
IsEven (entry.Got number tuples values) =
    (1 ≤ tuples) × (width : ℕ) × (length values ≡ tuples * width)
IsEven e = Unit {0}

-- a yield has the value, and a request has it
pub record IsGivenValue (entries : List Entry) (name : List ℕ) : Type 0 where
  pub value : List ℕ
  pub named : name ≡ generated value
  pub number : ℕ
  pub there : has_value entries number value ≡ true

-- The least request whose answer has the value, and the first tuple of that answer that has it.
pub record IsSource (entries : List Entry) (value : List ℕ) (source : Source) : Type 0 where
  pub there : has_value entries source.number value ≡ true
  pub first : (n : ℕ) → has_value entries n value ≡ true → source.number ≤ n
  pub tuple : (e : Entry) × Contains entries e × (tuple_with value source.number e ≡ Some source.tuple)

-- a yield has the value, and this is the request that it answers, and the first tuple that has it
pub record IsSourceIn (e : Entry) (value : List ℕ) (source : Source) : Type 0 where
  pub there : (n : ℕ) → has_value (e ∷ []) n value ≡ (n == source.number)
  pub tuple : tuple_with value source.number e ≡ Some source.tuple

-- the source of the value, if a yield has it
pub record IsBest (entries : List Entry) (value : List ℕ) (best : Option Source) : Type 0 where
  pub some : IfSome best (IsSource entries value)
  pub none : IfNone best ((n : ℕ) → has_value entries n value ≡ false)

-- what a table of values has for one of them
abbrev pub found_in : {K S : Type 0} → (K → List ℕ) → IndexMap K (Option Source) S → List ℕ → Option (Option Source)
found_in shows table value = get_by (λ k. same_numbers value (shows k)) table

-- the table has the value, with its source
abbrev pub HasBest : List Entry → List ℕ → Option (Option Source) → Type 0
HasBest entries value found = MatchOption found ⊥ (IsBest entries value)

-- the table has the values of these generated objects, with their sources
abbrev pub AreSources : {K S : Type 0} → (K → List ℕ) → List (List ℕ) → List Entry → IndexMap K (Option Source) S
    → Type 0
AreSources shows names entries table =
    (value : List ℕ) → is_among names (generated value) ≡ true
    → HasBest entries value (found_in shows table value)
