-- Tuples that are read with the numbers of their values and bars known.
use Rattle.std.specs.Prelude.{◌≡◌, ℕ, ◌+◌, ◌*◌, ◌<◌, Bool, true, false, List, ◌++◌, length, count_by, All, codes, Option, None, Some}
use Rattle.std.specs.Str.{bytes_eq}
use Rattle.gen_lines.specs.Reply.{is_value}
use Rattle.report_text.specs.Forms.{AreTuples}
use Rattle.report_text.specs.Texts.{tuples_of, tuple_fields}
use Rattle.report_reader.specs.declared.tuples.Shape.{Shape}
use Rattle.gen_lines.specs.declared.spans.TheConstants.{YIELD_TUPLES}

abbrev pub is_bar_field : List ℕ → Bool
is_bar_field field = bytes_eq field (codes "|")

abbrev pub IsValue : List ℕ → Type 0
IsValue value = is_value value ≡ true

-- so many values were first in the fields and stand behind the values before
pub record HasTaken (width : ℕ) (before values given left : List (List ℕ)) : Type 0 where
  pub own : List (List ℕ)
  pub put : values ≡ before ++ own
  pub fields : own ++ left ≡ given
  pub many : length own ≡ width
  pub each : All IsValue own

abbrev pub TakesValues : ℕ → Bool → List (List ℕ) → List (List ℕ) → List (List ℕ) → List (List ℕ)
    → Type 0
TakesValues width true before values given left = HasTaken width before values given left
TakesValues width false before values given left =
    (own rest : List (List ℕ)) → length own ≡ width → All IsValue own → ¬ (own ++ rest ≡ given)

-- the fields are tuples of this width with so many bars, and their values stand behind the values before
pub record HasTuples (width bars : ℕ) (before values given : List (List ℕ)) : Type 0 where
  pub own : List (List ℕ)
  pub put : values ≡ before ++ own
  pub fields : tuples_of width bars own ≡ given
  pub many : length own ≡ (bars + 1) * width
  pub each : All IsValue own

abbrev pub TakesTuples : ℕ → ℕ → Bool → List (List ℕ) → List (List ℕ) → List (List ℕ) → Type 0
TakesTuples width bars true before values given = HasTuples width bars before values given
TakesTuples width bars false before values given =
    (own : List (List ℕ)) → length own ≡ (bars + 1) * width → All IsValue own → ¬ (tuples_of width bars own ≡ given)

-- how many bars part tuples: none in version 1
pub record AreBars (version bars : ℕ) (given : List (List ℕ)) : Type 0 where
  pub none : version ≡ 1 → bars ≡ 0
  pub all : ¬ (version ≡ 1) → bars ≡ count_by is_bar_field given

-- the bars, and how many values each tuple has
pub record HasShape (version bars width : ℕ) (given : List (List ℕ)) : Type 0 where
  pub bars_are : AreBars version bars given
  pub few : bars < YIELD_TUPLES
  pub size : (bars + 1) * width + bars ≡ length given
  pub some : width ≡ 0 → bars ≡ 0

-- no tuples that may stand are written so
abbrev pub AreNoTuples : ℕ → List (List ℕ) → Type 0
AreNoTuples version given =
    (tuples : ℕ) (values : List (List ℕ)) → AreTuples version tuples values → ¬ (tuple_fields tuples values ≡ given)

abbrev pub IsShape : ℕ → Option Shape → List (List ℕ) → Type 0
IsShape version (Some s) given = HasShape version s.bars s.width given
IsShape version None given = AreNoTuples version given
