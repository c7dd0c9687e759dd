-- What a reader finds in fields and in lines, and where it stops.
use Rattle.std.specs.Prelude.{◌≡◌, ℕ, ◌<◌, List, [], ◌∷◌, ◌++◌, length, map, All, Option, None, Some}
use Rattle.report_text.specs.Places.{Place, behind, IsLineStep, IsPath}
use Rattle.report_text.specs.Texts.{Line}
use Rattle.report_reader.specs.Splits.{fields_of}

-- ---- fields

-- an item of the form that is shown so, or that no such item is
abbrev pub Finds : {X Y : Type 0} → (X → Type 0) → (X → Y) → Option X → Y → Type 0
Finds IsFormed shown (Some x) given = IsFormed x × (shown x ≡ given)
Finds {X} IsFormed shown None given = (x : X) → IsFormed x → ¬ (shown x ≡ given)

-- no item of the form stands first
abbrev pub HasNo : {X Y : Type 0} → (X → Type 0) → (X → Y) → List Y → Type 0
HasNo {X} {Y} IsFormed shown given =
    (x : X) (rest : List Y) → IsFormed x → ¬ (shown x ∷ rest ≡ given)

-- an item of the form that stood first and is taken, or that none stood there
abbrev pub TakesFields : {X Y : Type 0} → (X → Type 0) → (X → Y) → Option X → List Y → List Y
    → Type 0
TakesFields IsFormed shown (Some x) old new = IsFormed x × (shown x ∷ new ≡ old)
TakesFields IsFormed shown None old new = HasNo IsFormed shown old

-- ---- lines

-- the fields of the lines in which items are shown
abbrev pub shown_lines : {X : Type 0} → (X → Line) → List X → List (List (List ℕ))
shown_lines line_of xs = map fields_of (map line_of xs)

-- an item of the form in the next line, which is taken, or that the next line shows none and stays
abbrev pub TakesLine : {X : Type 0} → (X → Type 0) → (X → Line) → Option X → List (List (List ℕ))
    → List (List (List ℕ))
    → Type 0
TakesLine IsFormed line_of (Some x) old new = IsFormed x × (fields_of (line_of x) ∷ new ≡ old)
TakesLine IsFormed line_of None old new =
    (new ≡ old) × HasNo IsFormed (λ x. fields_of (line_of x)) old

-- items of the form, a line each, as many as there are
pub record TakesAll {X : Type 0} (IsFormed : X → Type 0) (line_of : X → Line)
    (xs : List X) (old new : List (List (List ℕ))) : Type 0 where
  pub formed : All IsFormed xs
  pub lines : shown_lines line_of xs ++ new ≡ old
  pub none : HasNo IsFormed (λ x. fields_of (line_of x)) new

-- so many items of the form, a line each; or fewer, and none in the next line
pub record TakesMany {X : Type 0} (IsFormed : X → Type 0) (line_of : X → Line) (count : ℕ)
    (xs : List X) (old new : List (List (List ℕ))) : Type 0 where
  pub formed : All IsFormed xs
  pub lines : shown_lines line_of xs ++ new ≡ old
  pub many : length xs ≡ count

pub record TakesFewer {X : Type 0} (IsFormed : X → Type 0) (line_of : X → Line)
    (count : ℕ) (old new : List (List (List ℕ))) : Type 0 where
  pub xs : List X
  pub formed : All IsFormed xs
  pub lines : shown_lines line_of xs ++ new ≡ old
  pub fewer : length xs < count
  pub none : HasNo IsFormed (λ x. fields_of (line_of x)) new

abbrev pub TakesCounted : {X : Type 0} → (X → Type 0) → (X → Line) → ℕ → Option (List X)
    → List (List (List ℕ))
    → List (List (List ℕ)) → Type 0
TakesCounted IsFormed line_of count (Some xs) old new = TakesMany IsFormed line_of count xs old new
TakesCounted IsFormed line_of count None old new = TakesFewer IsFormed line_of count old new

-- ---- where a reader stops

-- the next line may not stand at the place, or it is missing where one has to come
pub record IsReadingStuck (at : Place) (lines : List (List (List ℕ))) : Type 0 where
  pub next : (l : Line) (rest : List (List (List ℕ))) (to : Place) → fields_of l ∷ rest ≡ lines
      → ¬ (IsLineStep at l to)
  pub last : lines ≡ [] → ¬ (at ≡ behind)

-- from the first place on lines may stand up to those that are left, the next of which may not
pub record Stops (from : Place) (old new : List (List (List ℕ))) : Type 0 where
  pub passed : List Line
  pub at : Place
  pub path : IsPath from passed at
  pub lines : map fields_of passed ++ new ≡ old
  pub held : IsReadingStuck at new

-- an item of the form that was in these lines, or that a line may not stand where it is
abbrev pub PartReads : {X : Type 0} → Place → (X → Type 0) → (X → List Line) → Option X
    → List (List (List ℕ))
    → List (List (List ℕ)) → Type 0
PartReads from IsFormed lines_of (Some x) old new =
    IsFormed x × (map fields_of (lines_of x) ++ new ≡ old)
PartReads from IsFormed lines_of None old new = Stops from old new
