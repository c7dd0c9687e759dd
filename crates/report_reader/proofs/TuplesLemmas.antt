-- Tuples with bars between them, by the numbers of bars and of values.
use Rattle.std.proofs.Common.{◌≡◌, ℕ, zero, suc, ◌+◌, ◌-◌, ◌*◌, ◌/◌, ◌%◌, ◌<◌, ◌≤◌, Bool, true, false, not, cond, ◌&&◌, ◌==◌, List, [], ◌∷◌, ◌++◌, take, drop, length, refl, sym, subst, ap, ◌∙◌, arith, All, append_assoc, append-nil, length-append, codes, count_by, eqb-true}
use Rattle.std.specs.Cmp.{first_so, second_so}
use Rattle.std.specs.List.{list_all}
use Rattle.std.specs.Str.{bytes_eq}
use Rattle.std.proofs.Math.Nat.{mul-div_cancel_left, mul-mod_right, mul_comm, suc-mul}
use Rattle.std.proofs.Math.Seq.{take-append_seam, drop-append_seam}
use Rattle.std.proofs.lemmas.List.{take-append-drop, length-take-le}
use Rattle.std.proofs.lemmas.Nat.{div-add-mod'}
use Rattle.std.proofs.lemmas.List.Elements.{All-append, All-take, All-drop}
use Rattle.std.proofs.lemmas.List.Sums.{sum_by-append}
use Rattle.gen_lines.specs.Reply.{is_value, is_value_byte}
use Rattle.report_text.specs.Forms.{AreTuples}
use Rattle.report_text.specs.Texts.{tuples_of, tuple_fields}
use Rattle.report_reader.specs.Tuples.{is_bar_field, IsValue, HasTaken, HasTuples, TakesTuples, AreBars, HasShape, AreNoTuples}

-- ---- lists

-- two cuts of a list at one place
pub same_behind : {A : Type 0} (xs ys us vs : List A) → length xs ≡ length ys → xs ++ us ≡ ys ++ vs
    → us ≡ vs
same_behind [] [] us vs len e = e
same_behind [] (y ∷ ys) us vs len e = absurd (omega (arith, len))
same_behind (x ∷ xs) [] us vs len e = absurd (omega (arith, len))
same_behind (x ∷ xs) (y ∷ ys) us vs len e = same_behind xs ys us vs (omega (arith, len)) (cc)

pub member_of : {A : Type 0} (P : A → Type 0) (xs : List A) (x : A) (new own rest : List A)
    → length xs < length own
    → own ++ rest ≡ xs ++ x ∷ new → All P own → P x
member_of P xs x new [] rest lt e all = absurd (omega arith)
member_of P [] x new (o ∷ own) rest lt e all =
    let same : o ≡ x = cc in subst P same (all 0 o (omega arith))
member_of P (z ∷ xs) x new (o ∷ own) rest lt e all =
    member_of P xs x new own rest (omega (arith, lt)) (cc) (λ k d within. all (suc k) d (omega arith))

-- a field that is no value stands among the first ones
pub value_wanting : (xs : List (List ℕ)) (x : List ℕ) (new given own rest : List (List ℕ))
    → xs ++ x ∷ new ≡ given → ¬ (IsValue x)
    → length xs < length own → All IsValue own → ¬ (own ++ rest ≡ given)
value_wanting xs x new given own rest is not lt all e =
    not (member_of IsValue xs x new own rest lt (e ∙ sym is) all)

-- ---- so many tuples

one_more : (width b : ℕ) → (suc b + 1) * width ≡ (b + 1) * width + width
one_more width b = let next : suc b + 1 ≡ suc (b + 1) = omega arith in ap (λ n. n * width) next ∙ suc-mul (b + 1) width

less : (width b n : ℕ) → n ≡ (suc b + 1) * width → (width ≤ n) × (n - width ≡ (b + 1) * width)
less width b n e =
    (omega (arith, e, one_more width b), omega (arith, e, one_more width b))

pub no_values : (width bars : ℕ) (given own : List (List ℕ))
    → ((first rest : List (List ℕ)) → length first ≡ width → All IsValue first → ¬ (first ++ rest ≡ given))
    → length own ≡ (bars + 1) * width → All IsValue own → ¬ (tuples_of width bars own ≡ given)
no_values width zero given own none len all e =
    none own [] (omega (arith, len)) all (append-nil own ∙ e)
no_values width (suc b) given own none len all e =
    let enough = less width b (length own) len in
    none (take width own) (codes "|" ∷ tuples_of width b (drop width own))
    (length-take-le width own enough.0) (All-take IsValue width own all) e

pub no_bar : (width bars : ℕ) (before mid given left own : List (List ℕ))
    → HasTaken width before mid given left → ¬ (bars ≡ 0)
    → ((more : List (List ℕ)) → ¬ (left ≡ codes "|" ∷ more)) → length own ≡ (bars + 1) * width → All IsValue own
    → ¬ (tuples_of width bars own ≡ given)
no_bar width zero before mid given left own taken some none len all e = some refl
no_bar width (suc b) before mid given left own taken some none len all e =
    let enough = less width b (length own) len in
    let sizes : length taken.own ≡ length (take width own) = taken.many ∙ sym (length-take-le width own enough.0) in
    none (tuples_of width b (drop width own))
    (same_behind taken.own (take width own) left (codes "|" ∷ tuples_of width b (drop width own)) sizes (taken.fields ∙ sym e))

pub one_tuple : (width : ℕ) (before mid given left : List (List ℕ))
    → HasTaken width before mid given left → left ≡ []
    → HasTuples width 0 before mid given
one_tuple width before mid given left taken over = record {
  own = taken.own;
  put = taken.put;
  fields = sym (append-nil taken.own) ∙ ap (λ l. taken.own ++ l) (sym over) ∙ taken.fields;
  many = omega (arith, taken.many);
  each = taken.each;
}

next_tuples : (width b : ℕ) (found : Bool) (before mid after given left fields : List (List ℕ))
    → HasTaken width before mid given left
    → left ≡ codes "|" ∷ fields → TakesTuples width b found mid after fields → TakesTuples width (suc b) found before after given
next_tuples width b true before mid after given left fields taken bar later = record {
  own = taken.own ++ later.own;
  put = later.put ∙ ap (λ l. l ++ later.own) taken.put ∙ append_assoc before taken.own later.own;
  fields =
      (λ i. front i ++ codes "|" ∷ tuples_of width b (back i)) ∙ ap (λ l. taken.own ++ codes "|" ∷ l) later.fields
      ∙ ap (λ l. taken.own ++ l) (sym bar) ∙ taken.fields;
  many = omega (arith, length-append taken.own later.own, taken.many, later.many, one_more width b);
  each = All-append IsValue taken.own later.own taken.each later.each;
}
  where
    front : take width (taken.own ++ later.own) ≡ taken.own
    front =
        ap (λ n. take n (taken.own ++ later.own)) (sym taken.many)
        ∙ take-append_seam taken.own later.own

    back : drop width (taken.own ++ later.own) ≡ later.own
    back =
        ap (λ n. drop n (taken.own ++ later.own)) (sym taken.many)
        ∙ drop-append_seam taken.own later.own
next_tuples width b false before mid after given left fields taken bar later = λ own len all e.
    let enough = less width b (length own) len in
    let sizes : length taken.own ≡ length (take width own) = taken.many ∙ sym (length-take-le width own enough.0) in
    let behind : left ≡ codes "|" ∷ tuples_of width b (drop width own) =
    same_behind taken.own (take width own) left (codes "|" ∷ tuples_of width b (drop width own)) sizes (taken.fields ∙ sym e) in
    let same : tuples_of width b (drop width own) ≡ fields = cc in
    let both : length (take width own ++ drop width own) ≡ length own = ap length (take-append-drop width own) in
    let size : length (drop width own) ≡ (b + 1) * width =
    omega (arith, both, length-append (take width own) (drop width own), length-take-le width own enough.0, enough.1) in
    later (drop width own) size (All-drop IsValue width own all) same

pub more_tuples : (width bars : ℕ) (found : Bool) (before mid after given left fields : List (List ℕ))
    → HasTaken width before mid given left → ¬ (bars ≡ 0) → left ≡ codes "|" ∷ fields → TakesTuples width (bars - 1) found mid after fields
    → TakesTuples width bars found before after given
more_tuples width zero found before mid after given left fields taken some bar later =
    absurd (some refl)
more_tuples width (suc b) found before mid after given left fields taken some bar later =
    let one : suc b - 1 ≡ b = omega arith in
    next_tuples width b found before mid after given left fields taken bar
    (subst (λ n. TakesTuples width n found mid after fields) one later)

-- ---- the shape

value_no_bar : (value : List ℕ) → is_value value ≡ true → is_bar_field value ≡ false
unfolding is_value
value_no_bar [] e = absurd (cc)
value_no_bar (b ∷ bs) e =
    let bytes = second_so _ (list_all is_value_byte (b ∷ bs)) e in
    let first = first_so (is_value_byte b) (list_all is_value_byte bs) bytes in
    elim (b == 124) as (λ c. (b == 124) ≡ c → (c && bytes_eq bs []) ≡ false) [
      | true ↦ λ same. let reserved : is_value_byte 124 ≡ true = subst (λ x. is_value_byte x ≡ true) (eqb-true b 124 same) first in
          absurd (cc)
      | false ↦ λ _. refl
    ] refl

no_bars : (values : List (List ℕ)) → All IsValue values → count_by is_bar_field values ≡ 0
no_bars [] all = refl
no_bars (v ∷ values) all =
    let one : count_by is_bar_field (v ∷ []) ≡ 0 = ap (λ b. 0 + cond b 1 0) (value_no_bar v (all 0 v (omega arith))) in
    omega (
      arith,
      sum_by-append (λ y. cond (is_bar_field y) 1 0) (v ∷ []) values,
      one,
      no_bars values (λ k d within. all (suc k) d (omega arith)),
    )

counted : (width bars : ℕ) (values : List (List ℕ)) → All IsValue values
    → (count_by is_bar_field (tuples_of width bars values) ≡ bars) × (length (tuples_of width bars values) ≡ length values + bars)
counted width zero values all = (no_bars values all, omega arith)
counted width (suc b) values all =
    let front = take width values in
    let behind = drop width values in
    let later = tuples_of width b behind in
    let rest = counted width b behind (All-drop IsValue width values all) in
    let both : length (front ++ behind) ≡ length values = ap length (take-append-drop width values) in (
      sums later (sum_by-append (λ y. cond (is_bar_field y) 1 0) front (codes "|" ∷ later))
          (sum_by-append (λ y. cond (is_bar_field y) 1 0) (codes "|" ∷ []) later)
          (no_bars front (All-take IsValue width values all)) rest.0,
      omega (arith, both, length-append front behind, length-append front (codes "|" ∷ later), rest.1),
    )
  where
    sums : (later : List (List ℕ))
        → count_by is_bar_field (take width values ++ codes "|" ∷ later)
        ≡ count_by is_bar_field (take width values) + count_by is_bar_field (codes "|" ∷ later)
        → count_by is_bar_field (codes "|" ∷ later) ≡ 1 + count_by is_bar_field later → count_by is_bar_field (take width values) ≡ 0
        → count_by is_bar_field later ≡ b → count_by is_bar_field (take width values ++ codes "|" ∷ later) ≡ suc b
    sums later whole one front rest = omega (arith, whole, one, front, rest)

-- what tuples that may stand say of the numbers of bars and fields
record Fits (bars tuples : ℕ) (values given : List (List ℕ)) : Type 0 where
  count : tuples ≡ bars + 1
  size : length given ≡ length values + bars

is_one : (version : ℕ) → (version == 1) ≡ false → ¬ (version ≡ 1)
is_one version e one =
    let same : (1 == 1) ≡ false = subst (λ v. (v == 1) ≡ false) one e in absurd (cc)

fits : (version tuples bars : ℕ) (values given : List (List ℕ)) → AreTuples version tuples values
    → tuple_fields tuples values ≡ given
    → AreBars version bars given → Fits bars tuples values given
fits version tuples bars values given t is b =
    let numbers = counted (length values / tuples) (tuples - 1) values t.each in
    let bars_is : bars ≡ tuples - 1 = elim (version == 1) as (λ c. (version == 1) ≡ c → bars ≡ tuples - 1) [
      | true ↦ λ e. let one = eqb-true version 1 e in omega (arith, b.none one, t.one one)
      | false ↦ λ e. b.all (is_one version e) ∙ ap (count_by is_bar_field) (sym is) ∙ numbers.0
    ] refl in
    record { count = omega (arith, bars_is, t.some); size = ap length (sym is) ∙ numbers.1 ∙ ap (λ n. length values + n) (sym bars_is) }

pub too_many : (version bars : ℕ) (given : List (List ℕ)) → AreBars version bars given → 16 ≤ bars
    → AreNoTuples version given
too_many version bars given b many tuples values t is =
    let f = fits version tuples bars values given t is b in omega (arith, f.count, t.few)

pub unequal : (version bars many : ℕ) (given : List (List ℕ)) → AreBars version bars given
    → many ≡ length given - bars
    → ((width : ℕ) → ¬ (many ≡ (bars + 1) * width)) → AreNoTuples version given
unequal version bars many given b is_many none tuples values t is =
    let f = fits version tuples bars values given t is b in
    none t.width (omega (arith, is_many, f.size, t.equal ∙ ap (λ n. n * t.width) f.count))

pub no_width : (version bars many : ℕ) (given : List (List ℕ)) → AreBars version bars given
    → many ≡ length given - bars → many ≡ 0
    → 0 < bars → AreNoTuples version given
no_width version bars many given b is_many none some tuples values t is =
    let f = fits version tuples bars values given t is b in
    omega (arith, is_many, f.size, f.count, t.empty)

pub no_tuples : (version bars width : ℕ) (given : List (List ℕ)) → HasShape version bars width given
    → ((own : List (List ℕ)) → length own ≡ (bars + 1) * width → All IsValue own → ¬ (tuples_of width bars own ≡ given))
    → AreNoTuples version given
no_tuples version bars width given s none tuples values t is =
    let f = fits version tuples bars values given t is s.bars_are in
    let size : length values ≡ (bars + 1) * width = omega (arith, f.size, s.size) in
    let each : length values / tuples ≡ width = (λ i. size i / f.count i) ∙ mul-div_cancel_left width (omega arith) in
    let less_one : tuples - 1 ≡ bars = omega (arith, f.count) in
    none values size t.each ((λ i. tuples_of (sym each i) (sym less_one i) values) ∙ is)

-- tuples of this shape may stand
pub tuples_found : (version bars width : ℕ) (values given : List (List ℕ))
    → HasShape version bars width given
    → HasTuples width bars [] values given → AreTuples version (bars + 1) values × (tuple_fields (bars + 1) values ≡ given)
tuples_found version bars width values given s h =
    let own : values ≡ h.own = h.put in
    let size : length values ≡ (bars + 1) * width = ap length own ∙ h.many in
    let each : length values / (bars + 1) ≡ width = ap (λ n. n / (bars + 1)) size ∙ mul-div_cancel_left width (omega arith) in
    let less_one : bars + 1 - 1 ≡ bars = omega arith in (
      record {
        some = omega arith;
        few = omega (arith, s.few);
        one = λ e. omega (arith, s.bars_are.none e);
        empty = λ none. no_empty (omega (arith, size, none));
        width = width;
        equal = size;
        each = subst (All IsValue) (sym own) h.each;
      },
      (λ i. tuples_of (each i) (less_one i) (own i)) ∙ h.fields,
    )
  where
    by_width : (w : ℕ) → (bars + 1) * w ≡ 0 → w ≡ 0
    by_width zero e = refl
    by_width (suc w) e =
        absurd (omega (arith, e, mul_comm (bars + 1) (suc w), suc-mul w (bars + 1)))

    no_empty : (bars + 1) * width ≡ 0 → bars + 1 ≡ 1
    no_empty e = omega (arith, s.some (by_width width e))

-- ---- the tests of the code

pub no_parts : (version bars : ℕ) (given : List (List ℕ)) (fields : ℕ) → AreBars version bars given
    → fields ≡ length given
    → ¬ ((fields - bars) % (bars + 1) ≡ 0) → AreNoTuples version given
no_parts version bars given fields b all rest =
    unequal version bars (fields - bars) given b
    (ap (λ n. n - bars) all) (λ width e. rest (ap (λ n. n % (bars + 1)) e ∙ mul-mod_right (bars + 1) width))

pub no_wide : (version bars : ℕ) (given : List (List ℕ)) (fields : ℕ) → AreBars version bars given
    → fields ≡ length given
    → (fields - bars) % (bars + 1) ≡ 0 → (fields - bars) / (bars + 1) ≡ 0 → 0 < bars → AreNoTuples version given
no_wide version bars given fields b all whole none some =
    no_width version bars (fields - bars) given b (ap (λ n. n - bars) all)
    (div_mod (fields - bars) (bars + 1) (omega arith) whole none) some
  where
    div_mod : (m n : ℕ) → 0 < n → m % n ≡ 0 → m / n ≡ 0 → m ≡ 0
    div_mod m n some no_rest no_part =
        omega (arith, div-add-mod' m n, ap (λ k. k * n) no_part, no_rest)
