-- How a text is cut at its first line feed.
use Rattle.std.proofs.Common.{◌≡◌, ℕ, ◌+◌, ◌-◌, ◌<◌, List, [], ◌∷◌, length, take, drop, sym, ap, ◌∙◌, arith, Some, None, position, length-drop}
use Rattle.std.proofs.lemmas.List.{length-take-le}
use Rattle.gen_lines.specs.Lines.{is_feed}
use Rattle.report_reader.proofs.SplitsCutLemmas.{cut_none, cut_some}
use Rattle.plan_reader.specs.Lines.{text_lines}

-- the line before the first line feed, and what stands behind that
pub first_line : (text : List ℕ) (end : ℕ) (line rest : List ℕ) → position is_feed text ≡ Some end
    → end < length text
    → line ≡ take end text → rest ≡ drop (end + 1) text
    → (text_lines text ≡ line ∷ text_lines rest) × (length text ≡ length line + 1 + length rest)
first_line text end line rest there within is behind = (
  cut_some is_feed text end there ∙ (λ i. sym is i ∷ text_lines (sym behind i)),
  let front : length line ≡ end = ap length is ∙ length-take-le end text (omega arith) in
      let back : length rest ≡ length text - (end + 1) = ap length behind ∙ length-drop (end + 1) text in
      omega arith,
)

-- the line that ends with none
pub last_line : (text : List ℕ) → position is_feed text ≡ None → text_lines text ≡ text ∷ []
last_line text none = cut_none is_feed text none
