-- The word that begins a line tells which line it is.
use Rattle.std.proofs.Common.{◌≡◌, ℕ, List, ◌∷◌, refl, sym, ap, ◌∙◌, codes, if◌then◌else◌, Option, Some, None}
use Rattle.std.specs.Fmt.{decimal}
use Rattle.std.specs.Str.{bytes_eq}
use Rattle.report_text.specs.Forms.{AreTuples}
use Rattle.report_text.specs.Texts.{tuple_fields}
use Rattle.transcript_model.specs.declared.entry.Entry.TheVariants as entry
use Rattle.report_reader.specs.Body.{spelled_word, word_of_line, body_line, body_more, IsBodyLine, IsBodyLineOf}
use Rattle.report_reader.specs.Finding.{Finds}
use Rattle.report_reader.specs.Splits.{fields_of}
use Rattle.report_reader.specs.declared.body_line.BodyLine.{BodyLine}
use Rattle.report_reader.specs.declared.body_line.BodyLine.TheVariants.{Single, Dream, Ends}
use Rattle.report_reader.specs.declared.body_line.Ending.TheVariants.{Plan, NoPlan, Limit}
use Rattle.report_reader.specs.declared.body_word.Word.{Word}
use Rattle.report_reader.specs.declared.body_word.Word.TheVariants as word
use Rattle.report_reader.specs.declared.tuples.Tuples.{Tuples}

first_word : (b : BodyLine) → (body_line b).first ≡ spelled_word (word_of_line b)
first_word (Single entry.Level) = refl
first_word (Single (entry.Ask n t c)) = refl
first_word (Single (entry.Got n t vs)) = refl
first_word (Single (entry.Value n x)) = refl
first_word (Single (entry.End n)) = refl
first_word (Single (entry.Dream us ss)) = refl
first_word (Single entry.Nothing) = refl
first_word (Single entry.Reset) = refl
first_word (Single (entry.Pick n)) = refl
first_word (Single (entry.Retire n)) = refl
first_word (Dream uses steps) = refl
first_word (Ends (Plan steps)) = refl
first_word (Ends NoPlan) = refl
first_word (Ends (Limit kind)) = refl

named : List ℕ → Word
named text =
    if bytes_eq text (codes "level") then word.Level
    else if bytes_eq text (codes "ask") then word.Ask
    else if bytes_eq text (codes "got") then word.Got
    else if bytes_eq text (codes "value") then word.Value
    else if bytes_eq text (codes "end") then word.End
    else if bytes_eq text (codes "dream") then word.Dream
    else if bytes_eq text (codes "none") then word.Nothing
    else if bytes_eq text (codes "reset") then word.Reset
    else if bytes_eq text (codes "pick") then word.Pick
    else if bytes_eq text (codes "retire") then word.Retire
    else if bytes_eq text (codes "plan") then word.Plan
    else if bytes_eq text (codes "no") then word.No
    else word.Limit

named_spelled : (w : Word) → named (spelled_word w) ≡ w
unfolding named
named_spelled word.Level = refl
named_spelled word.Ask = refl
named_spelled word.Got = refl
named_spelled word.Value = refl
named_spelled word.End = refl
named_spelled word.Dream = refl
named_spelled word.Nothing = refl
named_spelled word.Reset = refl
named_spelled word.Pick = refl
named_spelled word.Retire = refl
named_spelled word.Plan = refl
named_spelled word.No = refl
named_spelled word.Limit = refl

spelled_same : (w u : Word) → spelled_word w ≡ spelled_word u → w ≡ u
spelled_same w u e = sym (named_spelled w) ∙ ap named e ∙ named_spelled u

pub no_word : (v : ℕ) (field : List ℕ) (left old : List (List ℕ)) → old ≡ field ∷ left
    → ((w : Word) → ¬ (spelled_word w ≡ field))
    → (b : BodyLine) → IsBodyLine v b → ¬ (fields_of (body_line b) ≡ old)
no_word v field left old is none b formed e =
    let same : (body_line b).first ≡ field = cc in
    none (word_of_line b) (sym (first_word b) ∙ same)

pub of_word : (v : ℕ) (w : Word) (field : List ℕ) (left old : List (List ℕ)) (found : Option BodyLine)
    → old ≡ field ∷ left
    → spelled_word w ≡ field → Finds (IsBodyLineOf v w) body_more found left → Finds (IsBodyLine v) (λ b. fields_of (body_line b)) found old
of_word v w field left old (Some b) is spells found =
    let first : (body_line b).first ≡ field = first_word b ∙ ap spelled_word found.0.1 ∙ spells in
    (found.0.0, (λ i. first i ∷ found.1 i) ∙ sym is)
of_word v w field left old None is spells none = λ b formed e.
    let first : (body_line b).first ≡ field = cc in
    let more : body_more b ≡ left = cc in
    none b (formed, spelled_same (word_of_line b) w (sym (first_word b) ∙ first ∙ sym spells)) more

pub no_got : (v number : ℕ) (left old : List (List ℕ)) → decimal number ∷ left ≡ old
    → ((t : Tuples) → AreTuples v t.tuples t.values → ¬ (tuple_fields t.tuples t.values ≡ left)) → (b : BodyLine)
    → IsBodyLineOf v word.Got b → ¬ (body_more b ≡ old)
no_got v number left old is none b formed e = by_line b formed.1 formed.0 e
  where
    by_line : (b : BodyLine) → word_of_line b ≡ word.Got → IsBodyLine v b → body_more b ≡ old → ⊥
    by_line (Single (entry.Got n t vs)) w f e = none (record { tuples = t; values = vs }) f.0.1 (cc)
    by_line (Ends (Plan steps)) w f e = absurd (cc)
    by_line (Ends NoPlan) w f e = absurd (cc)
    by_line (Ends (Limit kind)) w f e = absurd (cc)
    by_line b w f e = absurd (cc)
