-- Answers are lines.
use Rattle.std.proofs.Common.{◌≡◌, ℕ, ◌+◌, ◌-◌, ◌<◌, ◌^◌, true, false, ◌==◌, ◌||◌, List, [], ◌∷◌, ◌++◌, length, take, refl, ap, ◌∙◌, arith, length-append}
use Rattle.std.proofs.lemmas.Bool.{and_parts}
use Rattle.std.proofs.lemmas.Bool.Decides.{nat_tests}
use Rattle.std.proofs.lemmas.Fmt.{digits_decimal}
use Rattle.lemmas.proofs.Members.{take_append}
use Rattle.std.proofs.lemmas.List.Folds.{list_any-append}
use Rattle.std.specs.Char.{is_ascii_digit}
use Rattle.std.specs.Fmt.{decimal}
use Rattle.std.specs.List.{list_all, list_any}
use Rattle.io_world.specs.Replies.{IsLine}
use Rattle.lemmas.proofs.Digits.{own}
use Rattle.grid_text.specs.Grids.{GridFile}
use Rattle.std.specs.Io.BufRead.{strip_last}
use Rattle.grid_world.specs.Answers.{answer_in}
use Rattle.grid_world.specs.AnswerLines.{line_of_answer, reply_line}

digit_line : (b : ℕ) → is_ascii_digit b ≡ true → (b == 10) ≡ false
digit_line b e = grind (arith, nat_tests, e)

digits_line : (bytes : List ℕ) → list_all is_ascii_digit bytes ≡ true → IsLine bytes
digits_line [] e = refl
digits_line (b ∷ bs) e =
    let p = and_parts (is_ascii_digit b) (list_all is_ascii_digit bs) e in
    let here : (b == 10) ≡ false = digit_line b p.0 in
    rw here (digits_line bs p.1)

both_lines : (xs ys : List ℕ) → IsLine xs → IsLine ys → IsLine (xs ++ ys)
both_lines xs ys p q =
    list_any-append (λ b. b == 10) xs ys ∙ ap (λ b. b || list_any (λ c. c == 10) ys) p ∙ q

pub pair_one : (word : List ℕ) (x y : ℕ) → IsLine word → x < 2 ^ 64 → y < 2 ^ 64
    → IsLine (word ++ decimal x ++ 44 ∷ [] ++ decimal y)
pair_one word x y w p q =
    both_lines (word ++ decimal x ++ 44 ∷ []) (decimal y)
    (both_lines (word ++ decimal x) (44 ∷ []) (both_lines word (decimal x) w (digits_line (decimal x) (digits_decimal own x p))) refl)
    (digits_line (decimal y) (digits_decimal own y q))

-- a line without the line feed at its end
pub front_is : (bytes line : List ℕ) → bytes ≡ line ++ 10 ∷ [] → take (length bytes - 1) bytes ≡ line
front_is bytes line e =
    let n : length (line ++ 10 ∷ []) - 1 ≡ length line = omega (arith, length-append line (10 ∷ [])) in
    rw (e, n) (take_append line (10 ∷ []))

pub reply_line_is : (grid : GridFile) (request : List ℕ)
    → line_of_answer (answer_in grid (strip_last 13 request)) ≡ reply_line grid request
unfolding reply_line
reply_line_is grid request = refl
