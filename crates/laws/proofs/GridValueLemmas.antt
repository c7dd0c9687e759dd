-- What the lines of the grid's answers say.
use Rattle.std.proofs.Common.{◌≡◌, ℕ, ◌<◌, ◌≤◌, ◌^◌, true, false, not, nat_le, List, [], ◌∷◌, ◌++◌, codes, length, length-append, refl, ap, ◌∙◌, arith}
use Rattle.std.proofs.lemmas.Bool.Decides.{nat_tests}
use Rattle.std.proofs.lemmas.Fmt.{decimal_nonempty, digits_decimal, length-decimal-le}
use Rattle.std.specs.Char.{is_ascii_digit}
use Rattle.std.specs.Fmt.{decimal}
use Rattle.std.specs.List.{list_all}
use Rattle.gen_lines.proofs.FieldLemmas.{filled}
use Rattle.gen_lines.proofs.FieldWordLemmas.{words_are_fields}
use Rattle.gen_lines.specs.Laws.{is_word}
use Rattle.gen_lines.specs.Reply.{fields, is_space, is_value, is_value_byte, reply_of, reply_of_fields, yields}
use Rattle.gen_lines.specs.declared.answer.Wanted.{Wanted}
use Rattle.gen_lines.specs.declared.answer.Wanted.TheVariants.{Outputs}
use Rattle.grid_play.specs.Replies.{reply_of_answer}
use Rattle.grid_world.specs.AnswerLines.{line_of_answer}
use Rattle.grid_world.specs.declared.answer.GridAnswer.{GridAnswer}
use Rattle.grid_world.specs.declared.answer.GridAnswer.TheVariants as answer
use Rattle.grid_world.specs.declared.answer.Side.{Side}
use Rattle.grid_world.specs.declared.answer.Side.TheVariants.{N, E, S, W}
use Rattle.lemmas.proofs.Digits.{own}
use Rattle.lemmas.proofs.ListTests.{all_append, all_weaker}
use Rattle.gen_lines.proofs.RequestReadBack.{stays}

-- The answer's line has no byte that ends a line, and says the answer to a request for so many values.
pub record Says (outputs : ℕ) (a : GridAnswer) : Type 0 where
  pub stays : list_all stays (line_of_answer a) ≡ true
  pub reads : reply_of (line_of_answer a) (Outputs outputs false) ≡ reply_of_answer a

-- ---- words

pub end_says : (outputs : ℕ) → Says outputs answer.End
end_says outputs = record { stays = refl; reads = refl }

pub end_reads : (wanted : Wanted) → reply_of (line_of_answer answer.End) wanted ≡ reply_of_answer answer.End
end_reads wanted = refl

pub yes_says : Says 0 answer.Yes
yes_says = record { stays = refl; reads = refl }

pub side_says : (side : Side) → Says 1 (answer.Side side)
unfolding is_value
side_says N = record { stays = refl; reads = refl }
side_says E = record { stays = refl; reads = refl }
side_says S = record { stays = refl; reads = refl }
side_says W = record { stays = refl; reads = refl }

-- ---- a value

digit_is_value : (b : ℕ) → is_ascii_digit b ≡ true → is_value_byte b ≡ true
digit_is_value b e = grind (arith, nat_tests, e)

value_stays : (b : ℕ) → is_value_byte b ≡ true → stays b ≡ true
value_stays b e = grind (arith, nat_tests, e)

value_no_space : (b : ℕ) → is_value_byte b ≡ true → not (is_space b) ≡ true
value_no_space b e = grind (arith, nat_tests, e)

-- the bytes may be a value
record IsText (text : List ℕ) : Type 0 where
  bytes : list_all is_value_byte text ≡ true
  some : 0 < length text
  short : length text ≤ 64

text_is_value : (text : List ℕ) → IsText text → is_value text ≡ true
unfolding is_value
text_is_value text t =
    let some : nat_le 1 (length text) ≡ true = grind (arith, nat_tests, t.some) in
    let short : nat_le (length text) 64 ≡ true = grind (arith, nat_tests, t.short) in
    rw (some, short, t.bytes) refl

text_is_word : (text : List ℕ) → IsText text → is_word text ≡ true
text_is_word text t =
    rw (filled text t.some, all_weaker is_value_byte (λ b. not (is_space b)) value_no_space text t.bytes) refl

given_reads : (text : List ℕ) → is_value text ≡ true
    → reply_of_fields (Outputs 1 false) (codes "yield" ∷ text ∷ []) ≡ yields 1 (text ∷ [])
given_reads text e = rw e refl

text_reads : (text : List ℕ) → IsText text → reply_of (codes "yield " ++ text) (Outputs 1 false) ≡ yields 1 (text ∷ [])
text_reads text t =
    let words : list_all is_word (codes "yield" ∷ text ∷ []) ≡ true = rw (text_is_word text t) refl in
    let are : fields (codes "yield " ++ text) ≡ codes "yield" ∷ text ∷ [] = words_are_fields (codes "yield" ∷ text ∷ []) words in
    ap (reply_of_fields (Outputs 1 false)) are ∙ given_reads text (text_is_value text t)

text_stays : (text : List ℕ) → IsText text → list_all stays (codes "yield " ++ text) ≡ true
text_stays text t = all_append stays (codes "yield ") text refl (all_weaker is_value_byte stays value_stays text t.bytes)

-- ---- two numbers

number_is_value : (n : ℕ) → n < 2 ^ 64 → list_all is_value_byte (decimal n) ≡ true
number_is_value n small = all_weaker is_ascii_digit is_value_byte digit_is_value (decimal n) (digits_decimal own n small)

pair_is_text : (x y : ℕ) → x < 2 ^ 64 → y < 2 ^ 64 → IsText (decimal x ++ codes "," ++ decimal y)
pair_is_text x y p q =
    let first = length-decimal-le 20 x (omega arith) (omega (arith, p)) p in
    let second = length-decimal-le 20 y (omega arith) (omega (arith, q)) q in
    let front = length-append (decimal x) (codes ",") in
    let all = length-append (decimal x ++ codes ",") (decimal y) in
    record {
      bytes =
          all_append is_value_byte (decimal x ++ codes ",") (decimal y)
          (all_append is_value_byte (decimal x) (codes ",") (number_is_value x p) refl) (number_is_value y q);
      some = omega (arith, decimal_nonempty x p, front, all);
      short = omega (arith, first, second, front, all);
    }

hand_is_text : (x y : ℕ) → x < 2 ^ 64 → y < 2 ^ 64 → IsText (codes "h" ++ decimal x ++ codes "," ++ decimal y)
hand_is_text x y p q =
    let first = length-decimal-le 20 x (omega arith) (omega (arith, p)) p in
    let second = length-decimal-le 20 y (omega arith) (omega (arith, q)) q in
    let begin = length-append (codes "h") (decimal x) in
    let front = length-append (codes "h" ++ decimal x) (codes ",") in
    let all = length-append (codes "h" ++ decimal x ++ codes ",") (decimal y) in
    record {
      bytes =
          all_append is_value_byte (codes "h" ++ decimal x ++ codes ",") (decimal y)
          (all_append is_value_byte (codes "h" ++ decimal x) (codes ",")
          (all_append is_value_byte (codes "h") (decimal x) refl (number_is_value x p)) refl) (number_is_value y q);
      some = omega (arith, decimal_nonempty x p, begin, front, all);
      short = omega (arith, first, second, begin, front, all);
    }

pub pose_says : (x y : ℕ) → x < 2 ^ 64 → y < 2 ^ 64 → Says 1 (answer.Pose x y)
pose_says x y p q =
    let t = pair_is_text x y p q in
    record { stays = text_stays (decimal x ++ codes "," ++ decimal y) t; reads = text_reads (decimal x ++ codes "," ++ decimal y) t }

pub hand_says : (x y : ℕ) → x < 2 ^ 64 → y < 2 ^ 64 → Says 1 (answer.Hand x y)
hand_says x y p q =
    let t = hand_is_text x y p q in
    let text = codes "h" ++ decimal x ++ codes "," ++ decimal y in
    record { stays = text_stays text t; reads = text_reads text t }
