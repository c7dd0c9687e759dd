-- Faults of a text, and which of them is answered.
use Rattle.std.specs.Prelude.{◌≡◌, ℕ, Bool, true, ◌&&◌, ◌||◌, ◌==◌, nat_lt, nat_le, if◌then◌else◌, List, [], ◌∷◌, Option, Some, None}
use Rattle.form_reader.specs.declared.fault.Fault.{Fault}
use Rattle.form_reader.specs.declared.fault.InputKind.{InputKind}
use Rattle.form_reader.specs.declared.fault.InputKind.TheVariants as kinds

-- The kinds in their order.
abbrev pub kind_number : InputKind → ℕ
kind_number kinds.Shape = 1
kind_number kinds.Unsupported = 2
kind_number kinds.Unknown = 3
kind_number kinds.Arity = 4
kind_number kinds.Duplicate = 5
kind_number kinds.TypeCycle = 6
kind_number kinds.DerivedCycle = 7
kind_number kinds.EffectOnStatic = 8
kind_number kinds.Number = 9
kind_number kinds.TooMany = 10
kind_number kinds.StreamCycle = 11

-- The order at one place: the smaller number first, but `Shape` only where nothing else is wrong there.
abbrev pub rank_of : InputKind → ℕ
rank_of kinds.Shape = 12
rank_of kinds.Unsupported = 2
rank_of kinds.Unknown = 3
rank_of kinds.Arity = 4
rank_of kinds.Duplicate = 5
rank_of kinds.TypeCycle = 6
rank_of kinds.DerivedCycle = 7
rank_of kinds.EffectOnStatic = 8
rank_of kinds.Number = 9
rank_of kinds.TooMany = 10
rank_of kinds.StreamCycle = 11

-- the lesser place, and at one place the lesser rank; each fault comes before itself
abbrev pub comes_first : Fault → Fault → Bool
comes_first f g =
    nat_lt f.place g.place || ((f.place == g.place) && nat_le (rank_of f.kind) (rank_of g.kind))

-- of a fault so far and one more the one that is answered
abbrev pub sooner : Option Fault → Fault → Option Fault
sooner None f = Some f
sooner (Some g) f = if comes_first g f then Some g else Some f

-- of a fault so far and some more the one that is answered
abbrev pub first : Option Fault → List Fault → Option Fault
first so_far [] = so_far
first so_far (f ∷ fs) = first (sooner so_far f) fs

-- the fault of these that is answered, if there is one
abbrev pub least_fault : List Fault → Option Fault
least_fault fs = first None fs

abbrev pub shape : ℕ → Fault
shape place = record { place = place; kind = kinds.Shape }

abbrev pub unsupported : ℕ → Fault
unsupported place = record { place = place; kind = kinds.Unsupported }

abbrev pub number : ℕ → Fault
number place = record { place = place; kind = kinds.Number }

-- What the answered fault of a list is.

pub data IsAmong {A : Type 0} (x : A) : List A → Type 0 where
  here : {xs : List A} → IsAmong x (x ∷ xs)
  behind : {y : A} {xs : List A} → IsAmong x xs → IsAmong x (y ∷ xs)

-- one of them, and it comes before each of them
pub record IsLeast (f : Fault) (fs : List Fault) : Type 0 where
  pub among : IsAmong f fs
  pub first : (g : Fault) → IsAmong g fs → comes_first f g ≡ true

-- An answer is the least of the faults, and there is none only where there is no fault.
abbrev pub AnswersLeast : List Fault → Option Fault → Type 0
AnswersLeast fs (Some f) = IsLeast f fs
AnswersLeast fs None = fs ≡ []

abbrev pub LeastIsAnswered : Type 0
LeastIsAnswered = (fs : List Fault) → AnswersLeast fs (least_fault fs)
