-- Pose words with `#` spell their corners.
use Rattle.std.proofs.Common.{◌≡◌, ℕ, zero, suc, ◌+◌, ◌-◌, ◌<◌, ◌^◌, Bool, true, false, not, ◌&&◌, ◌==◌, nat_lt, List, [], ◌∷◌, ◌++◌, length, take, drop, get_or, position, refl, sym, ap, subst, ◌∙◌, arith, Option, Some, None, if◌then◌else◌, drop-cons, append_assoc, length-append}
use Rattle.std.specs.Char.{is_ascii_digit}
use Rattle.std.specs.Fmt.{decimal}
use Rattle.std.specs.List.{list_all, position_or_len}
use Rattle.std.specs.Str.Parse.{digits_value}
use Rattle.std.proofs.lemmas.Bool.{and_parts, not-true, false_from_ne_true}
use Rattle.std.proofs.lemmas.Bool.Decides.{nat_tests}
use Rattle.std.proofs.lemmas.Fmt.{decimal-digits_value, decimal_digit, decimal_nonempty, digits_decimal, digits_value-decimal, first_decimal}
use Rattle.std.proofs.lemmas.List.{take-append-drop}
use Rattle.std.proofs.lemmas.List.Sums.{passes_at_first}
use Rattle.std.proofs.Math.Seq.{drop-append-add}
use Rattle.gen_lines.specs.Reply.{is_filled}
use Rattle.lemmas.proofs.Bools.{not_both}
use Rattle.lemmas.proofs.Digits.{own}
use Rattle.lemmas.proofs.Members.{take_append}
use Rattle.lemmas.proofs.Positions.{found_at}
use Rattle.grid_text.specs.Numbers.{is_decimal}
use Rattle.grid_world.specs.Laws.{IsCornerText, PoseWordsAreSpelled}
use Rattle.grid_world.specs.Words.{corner_at, corner_of, has_leading_zero, is_comma, is_plain, pose_of}
use Rattle.grid_world.specs.declared.words.Corner.{Corner}
use Rattle.gen_lines.proofs.FieldLemmas.{filled}

equals : (b : ℕ) → b ≡ 48 → (b == 48) ≡ true
equals b e = grind (arith, nat_tests, e)

zero_told : (b : ℕ) → (b == 48) ≡ true → b ≡ 48
zero_told b e = grind (arith, nat_tests, e)

comma_told : (b : ℕ) → is_comma b ≡ true → b ≡ 44
comma_told b e = grind (arith, nat_tests, e)

differs : (b : ℕ) → (b ≡ 48 → ⊥) → (b == 48) ≡ false
differs b h = false_from_ne_true (b == 48) (λ e. h (zero_told b e))

some_filled : (text : List ℕ) → is_filled text ≡ true → 0 < length text
some_filled [] e = absurd (cc)
some_filled (b ∷ bs) e = omega arith

one_zero : (text : List ℕ) → has_leading_zero text ≡ false → get_or text 0 0 ≡ 48 → length text ≡ 1
one_zero [] clear z = absurd (omega (arith, z))
one_zero (b ∷ []) clear z = refl
one_zero (b ∷ next ∷ more) clear z = absurd (not_both (b == 48) (equals b z) clear)

-- a plain number is the spelling of its value
record IsSpelled (text : List ℕ) : Type 0 where
  is : decimal (digits_value 10 text) ≡ text
  small : digits_value 10 text < 2 ^ 32

plain_spelled : (text : List ℕ) → is_plain text ≡ true → IsSpelled text
unfolding is_plain is_decimal
plain_spelled text e =
    let p = and_parts (not (has_leading_zero text)) (is_decimal text) e in
    let q = and_parts (is_filled text && list_all is_ascii_digit text) (nat_lt (digits_value 10 text) (2 ^ 32)) p.1 in
    let r = and_parts (is_filled text) (list_all is_ascii_digit text) q.0 in
    let small : digits_value 10 text < 2 ^ 32 = grind (arith, nat_tests, q.1) in
    record {
      is = decimal-digits_value own text r.1 (some_filled text r.0)
          (one_zero text (not-true (has_leading_zero text) p.0)) (omega (arith, small));
      small = small;
    }

zero_first : (text : List ℕ) → (get_or text 0 0 ≡ 48 → length text ≡ 1) → has_leading_zero text ≡ false
zero_first [] h = refl
zero_first (b ∷ []) h = refl
zero_first (b ∷ next ∷ more) h =
    differs b (λ e. absurd (omega (arith, h e)))

leads_by : (n : ℕ) → n < 2 ^ 32 → get_or (decimal n) 0 0 ≡ 48 → length (decimal n) ≡ 1
leads_by zero h e = ap length (decimal_digit 0 (omega arith))
leads_by (suc n) h e = absurd (omega (arith, first_decimal (suc n) (omega arith) (omega arith), e))

decimal_plain : (n : ℕ) → n < 2 ^ 32 → is_plain (decimal n) ≡ true
unfolding is_plain is_decimal
decimal_plain n h =
    let zero_no : has_leading_zero (decimal n) ≡ false = zero_first (decimal n) (leads_by n h) in
    let filled : is_filled (decimal n) ≡ true = filled (decimal n) (decimal_nonempty n (omega arith)) in
    let digits : list_all is_ascii_digit (decimal n) ≡ true = digits_decimal own n (omega arith) in
    let value : digits_value 10 (decimal n) ≡ n = digits_value-decimal own n (omega arith) in
    let below : nat_lt n (2 ^ 32) ≡ true = grind (arith, nat_tests, h) in
    rw (zero_no, filled, digits, value, below) refl

-- Where the comma stands

digit_comma : (b : ℕ) → is_ascii_digit b ≡ true → is_comma b ≡ false
digit_comma b e = grind (arith, nat_tests, e)

comma_behind : (digits rest : List ℕ) → list_all is_ascii_digit digits ≡ true
    → position_or_len is_comma (digits ++ 44 ∷ rest) ≡ length digits
comma_behind [] rest e = refl
comma_behind (d ∷ digits) rest e =
    let p = and_parts (is_ascii_digit d) (list_all is_ascii_digit digits) e in
    let other : is_comma d ≡ false = digit_comma d p.0 in
    let more = comma_behind digits rest p.1 in
    rw other (omega (arith, more))

position_there : (p : ℕ → Bool) (xs : List ℕ) (n : ℕ) → position_or_len p xs ≡ n → n < length xs
    → position p xs ≡ Some n
position_there p xs n e h =
    let lt : nat_lt n (length xs) ≡ true = grind (arith, nat_tests, h) in rw (e, lt) refl

-- From words to texts and back

read_by : (b : Bool) (c corner : Corner) → (if b then Some c else None) ≡ Some corner → (b ≡ true) × (c ≡ corner)
read_by true c corner e = (refl, cc)
read_by false c corner e = absurd (cc)

cut_at : (text : List ℕ) (k : ℕ) → position is_comma text ≡ Some k
    → text ≡ take k text ++ 44 ∷ drop (k + 1) text
cut_at text k e =
    let at = found_at is_comma text k e in
    let comma : is_comma (get_or text (position_or_len is_comma text) 0) ≡ true = passes_at_first is_comma text 0 at.within in
    let here : is_comma (get_or text k 0) ≡ true = subst (λ n. is_comma (get_or text n 0) ≡ true) at.place comma in
    let is : get_or text k 0 ≡ 44 = comma_told (get_or text k 0) here in
    let within : k < length text = omega (arith, at.within, at.place) in
    let next : suc k ≡ k + 1 = omega arith in
    sym (take-append-drop k text)
    ∙ ap (λ rest. take k text ++ rest) (drop-cons text k 0 within ∙ ap (λ b. b ∷ drop (suc k) text) is ∙ ap (λ n. 44 ∷ drop n text) next)

text_by : (text : List ℕ) (corner : Corner) (o : Option ℕ) → position is_comma text ≡ o
    → corner_at o text ≡ Some corner → IsCornerText text corner
text_by text corner None p e = absurd (cc)
text_by text corner (Some k) p e =
    let front = take k text in
    let back = drop (k + 1) text in
    let read = read_by (is_plain front && is_plain back) (record { x = digits_value 10 front; y = digits_value 10 back }) corner e in
    let plain = and_parts (is_plain front) (is_plain back) read.0 in
    let x = plain_spelled front plain.0 in
    let y = plain_spelled back plain.1 in
    let spelled : front ++ 44 ∷ back ≡ decimal (digits_value 10 front) ++ 44 ∷ [] ++ decimal (digits_value 10 back) =
    rw (x.is, y.is) (sym (append_assoc front (44 ∷ []) back)) in
    subst (IsCornerText text) read.1 (record { is = cut_at text k p ∙ spelled; x = x.small; y = y.small })

corner_there : (corner : Corner) → corner.x < 2 ^ 32 → corner.y < 2 ^ 32
    → corner_at (Some (length (decimal corner.x))) (decimal corner.x ++ 44 ∷ decimal corner.y) ≡ Some corner
corner_there corner small_x small_y =
    let x = decimal corner.x in
    let y = decimal corner.y in
    let front : take (length x) (x ++ 44 ∷ y) ≡ x = take_append x (44 ∷ y) in
    let back : drop (length x + 1) (x ++ 44 ∷ y) ≡ y = drop-append-add x (44 ∷ y) 1 in
    let plain_x : is_plain x ≡ true = decimal_plain corner.x small_x in
    let plain_y : is_plain y ≡ true = decimal_plain corner.y small_y in
    let value_x : digits_value 10 x ≡ corner.x = digits_value-decimal own corner.x (omega arith) in
    let value_y : digits_value 10 y ≡ corner.y = digits_value-decimal own corner.y (omega arith) in
    rw (front, back, plain_x, plain_y, value_x, value_y) refl

corner_by : (text : List ℕ) (corner : Corner) → IsCornerText text corner → corner_of text ≡ Some corner
corner_by text corner is =
    let x = decimal corner.x in
    let y = decimal corner.y in
    let shape : text ≡ x ++ 44 ∷ y = is.is ∙ append_assoc x (44 ∷ []) y in
    let place : position_or_len is_comma (x ++ 44 ∷ y) ≡ length x = comma_behind x y (digits_decimal own corner.x (omega (arith, is.x))) in
    let found : position is_comma (x ++ 44 ∷ y) ≡ Some (length x) =
    position_there is_comma (x ++ 44 ∷ y) (length x) place (omega (arith, length-append x (44 ∷ y))) in
    ap corner_of shape ∙ ap (λ o. corner_at o (x ++ 44 ∷ y)) found ∙ corner_there corner is.x is.y

pub pose_words_are_spelled : PoseWordsAreSpelled
unfolding pose_of
pose_words_are_spelled grid text corner = (λ e. text_by text corner (position is_comma text) refl e, λ is. corner_by text corner is)
