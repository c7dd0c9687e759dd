-- Words with single spaces between them are fields.
use Rattle.std.proofs.Common.{◌≡◌, ℕ, true, false, not, List, [], ◌∷◌, filter, refl, ap, ◌∙◌, All}
use Rattle.std.specs.List.{slice_split, join_with_byte, list_all}
use Rattle.std.proofs.lemmas.List.Splits.{slice_split_none, slice_split_at}
use Rattle.std.proofs.lemmas.List.Sums.{AllPass-from_list_all}
use Rattle.std.proofs.lemmas.Bool.{not-true, and_parts}
use Rattle.gen_lines.specs.Laws.{is_word}
use Rattle.gen_lines.specs.Reply.{fields, is_filled, is_space}

-- no byte of a word is a space
no_space : (word : List ℕ) → list_all (λ b. not (is_space b)) word ≡ true
    → All (λ b. is_space b ≡ false) word
no_space word e = λ k d lt. not-true _ (AllPass-from_list_all (λ b. not (is_space b)) word e k d lt)

kept : (word : List ℕ) (parts : List (List ℕ)) → is_filled word ≡ true
    → filter is_filled (word ∷ parts) ≡ word ∷ filter is_filled parts
kept word parts e = rw e refl

pub words_are_fields : (words : List (List ℕ)) → list_all is_word words ≡ true
    → fields (join_with_byte 32 words) ≡ words
words_are_fields [] e = refl
words_are_fields (word ∷ []) e =
    let here = and_parts (is_word word) true e in
    let parts = and_parts (is_filled word) (list_all (λ b. not (is_space b)) word) here.0 in
    rw (slice_split_none is_space word (no_space word parts.1)) (kept word [] parts.0)
words_are_fields (word ∷ next ∷ words) e =
    let here = and_parts (is_word word) (list_all is_word (next ∷ words)) e in
    let parts = and_parts (is_filled word) (list_all (λ b. not (is_space b)) word) here.0 in
    let rest = words_are_fields (next ∷ words) here.1 in
    rw (slice_split_at is_space word 32 (join_with_byte 32 (next ∷ words)) (no_space word parts.1) refl)
    (kept word (slice_split is_space (join_with_byte 32 (next ∷ words))) parts.0 ∙ ap (λ fs. word ∷ fs) rest)
