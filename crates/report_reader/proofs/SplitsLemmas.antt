-- Lines that may stand have no space in a field, so their fields are those that a text is cut into.
use Rattle.std.proofs.Common.{◌≡◌, ℕ, List, [], ◌∷◌, ◌++◌, map, refl, sym, ap, ◌∙◌, append-nil}
use Rattle.std.specs.Cmp.{first_so, second_so}
use Rattle.std.specs.List.{list_all, slice_split, join_with_byte}
use Rattle.std.proofs.lemmas.List.Splits.{join_with_byte-slice_split}
use Rattle.gen_lines.specs.Reply.{is_space}
use Rattle.report_text.specs.Places.{Place, first, IsLineStep, line_body}
use Rattle.report_text.specs.Texts.{Line, fields_text}
use Rattle.report_text.proofs.LineTextLemmas.{is_inked, spaces_cut}
use Rattle.report_text.proofs.FaultsLemmas.{line_clear}
use Rattle.report_reader.specs.Splits.{fields_of}

-- the text of a line that may stand is cut into its fields
pub cut_fields : (p : Place) (l : Line) (n : Place) (text : List ℕ) → IsLineStep p l n
    → line_body l ≡ text
    → slice_split is_space text ≡ fields_of l
cut_fields p l n text step is =
    let clear = line_clear p l n step in
    ap (slice_split is_space) (sym is)
    ∙ spaces_cut l.first l.more (first_so (is_inked l.first) (list_all is_inked l.more) clear)
    (second_so (is_inked l.first) (list_all is_inked l.more) clear)

joined : (f : List ℕ) (more : List (List ℕ)) → join_with_byte 32 (f ∷ more) ≡ f ++ fields_text more
joined f [] = sym (append-nil f)
joined f (g ∷ more) = ap (λ t. f ++ 32 ∷ t) (joined g more)

-- a text that is cut into the fields of a line is the line's
pub joined_fields : (l : Line) (text : List ℕ) → slice_split is_space text ≡ fields_of l
    → line_body l ≡ text
joined_fields l text is =
    sym (joined l.first l.more) ∙ ap (join_with_byte 32) (sym is)
    ∙ join_with_byte-slice_split 32 text

pub joined_lines : (ls : List Line) (texts : List (List ℕ))
    → map (slice_split is_space) texts ≡ map fields_of ls → map line_body ls ≡ texts
joined_lines [] [] e = refl
joined_lines [] (t ∷ texts) e = absurd (cc)
joined_lines (l ∷ ls) [] e = absurd (cc)
joined_lines (l ∷ ls) (t ∷ texts) e =
    let here : slice_split is_space t ≡ fields_of l = cc in
    let later : map (slice_split is_space) texts ≡ map fields_of ls = cc in
    (λ i. joined_fields l t here i ∷ joined_lines ls texts later i)
