-- What an answer says of its line.
use Rattle.std.specs.Prelude.{ℕ, ◌*◌, ◌<◌, ◌≤◌, ◌≡◌, List, length, map, take, slice_range, All, Option, Some, None, true, false, if◌then◌else◌}
use Rattle.std.specs.List.{list_all}
use Rattle.gen_lines.specs.declared.answer.Answer.{Answer}
use Rattle.gen_lines.specs.declared.answer.Answer.TheVariants.{Yield, Value, End, Bad}
use Rattle.gen_lines.specs.declared.spans.Spans.{Spans}
use Rattle.gen_lines.specs.declared.answer.Wanted.{Wanted}
use Rattle.gen_lines.specs.declared.answer.Wanted.TheVariants.{Outputs, Number}
use Rattle.gen_lines.specs.Reply.{Reply, yields, number, ends, bad, are_of_width, is_value}

-- what stands in the line from a start to an end
abbrev pub text_at : List ℕ → ℕ × ℕ → List ℕ
text_at line span = slice_range line span.0 span.1

-- how many values the spans give
abbrev pub value_count : Spans → ℕ
value_count spans = spans.tuples * spans.width

-- the texts of the values, in order
abbrev pub texts : List ℕ → Spans → List (List ℕ)
texts line spans = map (text_at line) (take (value_count spans) spans.at)

abbrev pub told : List ℕ → Answer → Reply
told line (Yield spans) = yields spans.tuples (texts line spans)
told line (Value n) = number n
told line End = ends
told line (Bad why) = bad why

-- a place that begins before it ends, in this line
abbrev pub Lies : List ℕ → ℕ × ℕ → Type 0
Lies line span = (span.0 < span.1) × (span.1 ≤ length line)

-- the spans of the values lie in the line, and none is empty
pub record LieIn (line : List ℕ) (spans : Spans) : Type 0 where
  pub count : value_count spans ≤ 128
  pub within : All (Lies line) (take (value_count spans) spans.at)

-- each tuple has this many values, and they lie in the line
pub record AreSpans (line : List ℕ) (outputs : ℕ) (spans : Spans) : Type 0 where
  pub width : spans.width ≡ outputs
  pub lie : LieIn line spans

abbrev pub IfYield : Answer → (Spans → Type 0) → Type 0
IfYield (Yield spans) P = P spans
IfYield (Value n) P = Unit {0}
IfYield End P = Unit {0}
IfYield (Bad why) P = Unit {0}

abbrev pub NoSpans : Answer → Type 0
NoSpans answer = IfYield answer (λ spans. ⊥)

abbrev pub SpansLieIn : List ℕ → Wanted → Answer → Type 0
SpansLieIn line (Outputs width several) answer = IfYield answer (AreSpans line width)
SpansLieIn line Number answer = NoSpans answer

-- at most eight outputs are wanted
abbrev pub IsNarrow : Wanted → Type 0
IsNarrow (Outputs width several) = width ≤ 8
IsNarrow Number = Unit {0}

-- how many tuples there are, if each has this many fields
abbrev pub tuple_count : ℕ → List (List (List ℕ)) → Option ℕ
tuple_count width tuples = if are_of_width width tuples then Some (length tuples) else None

-- the values stand where the spans say
pub record AreMarked (line : List ℕ) (values : List (List ℕ)) (count width : ℕ) (spans : Spans) : Type 0 where
  pub valid : list_all is_value values ≡ true
  pub tuples : spans.tuples ≡ count
  pub same : texts line spans ≡ values
  pub lie : AreSpans line width spans

abbrev pub Marks : List ℕ → List (List ℕ) → ℕ → ℕ → Option Spans → Type 0
Marks line values tuples width None = list_all is_value values ≡ false
Marks line values tuples width (Some spans) = AreMarked line values tuples width spans
