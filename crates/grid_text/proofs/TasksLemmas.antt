-- Rows of texts grow number by number.
use Rattle.std.proofs.Common.{◌≡◌, ℕ, ◌+◌, List, [], ◌∷◌, ◌++◌, refl, ap, ◌∙◌, arith, append-nil, append_assoc, sym, add-one}
use Rattle.std.specs.List.{flat_map}
use Rattle.std.proofs.lemmas.Grind.{flat_map-append}
use Rattle.lemmas.specs.Lists.{numbers_from}
use Rattle.grid_text.specs.Tasks.{item_text, row_text}
use Rattle.grid_text.specs.declared.task.Row.{Row}
use Rattle.lemmas.proofs.Numbers.{numbers_suc}

pub row_none : (line : Row) → row_text line 0 ≡ []
unfolding row_text
row_none line = refl

pub row_more : (line : Row) (before : List ℕ) (n : ℕ)
    → (before ++ row_text line n) ++ item_text line (n + 1) ≡ before ++ row_text line (n + 1)
unfolding row_text
row_more line before n =
    let one : 1 + n ≡ n + 1 = omega arith in
    let all : numbers_from 1 (n + 1) ≡ numbers_from 1 n ++ (n + 1) ∷ [] =
    rw add-one (numbers_suc 1 n) ∙ ap (λ k. numbers_from 1 n ++ k ∷ []) one in
    append_assoc before (flat_map (item_text line) (numbers_from 1 n)) (item_text line (n + 1))
    ∙ ap (λ t. before ++ t) (sym (ap (flat_map (item_text line)) all ∙ flat_map-append (item_text line) (numbers_from 1 n) ((n + 1) ∷ [])
    ∙ ap (λ t. flat_map (item_text line) (numbers_from 1 n) ++ t) (append-nil (item_text line (n + 1)))))
