-- Lines are determined by their text: it is cut at line feeds, and each line at its spaces.
use Rattle.std.proofs.Common.{◌≡◌, ℕ, ◌<◌, ◌^◌, arith, Bool, true, false, ◌&&◌, ◌==◌, nat_le, List, [], ◌∷◌, ◌++◌, map, refl, ap, ◌∙◌, All, append_assoc}
use Rattle.std.proofs.lemmas.Bool.Decides.{nat_tests}
use Rattle.std.proofs.lemmas.Fmt.{digits_decimal}
use Rattle.std.proofs.lemmas.List.Folds.{list_all-append}
use Rattle.std.proofs.lemmas.List.Splits.{slice_split_at, slice_split_none}
use Rattle.std.proofs.lemmas.List.Sums.{AllPass-from_list_all}
use Rattle.std.specs.Char.{is_ascii_digit}
use Rattle.std.specs.Cmp.{first_so, second_so}
use Rattle.std.specs.Fmt.{decimal}
use Rattle.std.specs.List.{list_all, slice_split}
use Rattle.std.proofs.lemmas.Bool.{and_from}
use Rattle.std.proofs.lemmas.List.{append-nil}
use Rattle.lemmas.proofs.Digits.{own}
use Rattle.report_text.specs.Texts.{Line, line, lines_text, fields_text}

-- a byte behind the space, so neither a space nor a line feed
abbrev pub is_ink : ℕ → Bool
is_ink b = nat_le 33 b

abbrev pub is_inked : List ℕ → Bool
is_inked field = list_all is_ink field

abbrev pub is_clear : Line → Bool
is_clear l = is_inked l.first && list_all is_inked l.more

abbrev pub is_space : ℕ → Bool
is_space b = b == 32

abbrev pub is_feed : ℕ → Bool
is_feed b = b == 10

no_space : (b : ℕ) → is_ink b ≡ true → is_space b ≡ false
no_space b e = grind (arith, nat_tests, e)

no_feed : (b : ℕ) → is_ink b ≡ true → is_feed b ≡ false
no_feed b e = grind (arith, nat_tests, e)

-- ---- fields

inked_free : (text : List ℕ) → is_inked text ≡ true → All (λ b. is_space b ≡ false) text
inked_free text e k d lt = no_space _ (AllPass-from_list_all is_ink text e k d lt)

pub spaces_cut : (first : List ℕ) (more : List (List ℕ)) → is_inked first ≡ true
    → list_all is_inked more ≡ true
    → slice_split is_space (first ++ fields_text more) ≡ first ∷ more
spaces_cut first [] e f =
    ap (slice_split is_space) (append-nil first)
    ∙ slice_split_none is_space first (inked_free first e)
spaces_cut first (next ∷ more) e f =
    slice_split_at is_space first 32 (next ++ fields_text more) (inked_free first e) refl
    ∙ ap (λ fields. first ∷ fields) (spaces_cut next more
    (first_so (is_inked next) (list_all is_inked more) f) (second_so (is_inked next) (list_all is_inked more) f))

-- ---- lines

abbrev pub body : Line → List ℕ
body l = l.first ++ fields_text l.more

-- neither a line feed in a field nor in the spaces between
abbrev flows : ℕ → Bool
flows b = nat_le 32 b

flows_on : (text : List ℕ) → is_inked text ≡ true → list_all flows text ≡ true
flows_on [] e = refl
flows_on (b ∷ bs) e =
    let here : flows b ≡ true = grind (arith, nat_tests, first_so (is_ink b) (list_all is_ink bs) e) in
    and_from (flows b) (list_all flows bs) here (flows_on bs (second_so (is_ink b) (list_all is_ink bs) e))

fields_flow : (more : List (List ℕ)) → list_all is_inked more ≡ true
    → list_all flows (fields_text more) ≡ true
fields_flow [] e = refl
fields_flow (field ∷ more) e =
    rw (
      list_all-append flows (32 ∷ field) (fields_text more),
      flows_on field (first_so (is_inked field) (list_all is_inked more) e),
      fields_flow more (second_so (is_inked field) (list_all is_inked more) e),
    ) refl

pub body_flows : (l : Line) → is_clear l ≡ true → All (λ b. is_feed b ≡ false) (body l)
body_flows l e k d lt =
    let whole : list_all flows (body l) ≡ true =
    rw (
      list_all-append flows l.first (fields_text l.more),
      flows_on l.first (first_so (is_inked l.first) (list_all is_inked l.more) e),
      fields_flow l.more (second_so (is_inked l.first) (list_all is_inked l.more) e),
    ) refl in
    apart _ (AllPass-from_list_all flows (body l) whole k d lt)
  where
    apart : (b : ℕ) → flows b ≡ true → is_feed b ≡ false
    apart b e = grind (arith, nat_tests, e)

pub feeds_cut : (lines : List Line) → list_all is_clear lines ≡ true
    → slice_split is_feed (lines_text lines) ≡ map body lines ++ [] ∷ []
feeds_cut [] e = refl
feeds_cut (l ∷ lines) e =
    let clear = first_so (is_clear l) (list_all is_clear lines) e in
    let rest = feeds_cut lines (second_so (is_clear l) (list_all is_clear lines) e) in
    ap (slice_split is_feed) (append_assoc (body l) (10 ∷ []) (lines_text lines))
    ∙ slice_split_at is_feed (body l) 10 (lines_text lines) (body_flows l clear) refl ∙ ap (λ ls. body l ∷ ls) rest

-- ---- both

read_body : (lines : List Line) → list_all is_clear lines ≡ true
    → map (slice_split is_space) (map body lines ++ [] ∷ []) ≡ map (λ (l : Line). l.first ∷ l.more) lines ++ ([] ∷ []) ∷ []
read_body [] e = refl
read_body (l ∷ lines) e =
    let clear = first_so (is_clear l) (list_all is_clear lines) e in
    let here = spaces_cut l.first l.more (first_so (is_inked l.first) (list_all is_inked l.more) clear)
    (second_so (is_inked l.first) (list_all is_inked l.more) clear) in
    let rest = read_body lines (second_so (is_clear l) (list_all is_clear lines) e) in
    λ i. here i ∷ rest i

line_from : List (List ℕ) → Line
line_from [] = line [] []
line_from (first ∷ more) = line first more

front_of : {A : Type 0} → List A → List A
front_of [] = []
front_of (x ∷ []) = []
front_of (x ∷ y ∷ ys) = x ∷ front_of (y ∷ ys)

-- the lines that a text is made of
pub read_lines : List ℕ → List Line
read_lines text = map line_from (front_of (map (slice_split is_space) (slice_split is_feed text)))

lines_back : (lines : List Line)
    → map line_from (front_of (map (λ (l : Line). l.first ∷ l.more) lines ++ ([] ∷ []) ∷ [])) ≡ lines
unfolding line_from front_of
lines_back [] = refl
lines_back (l ∷ []) = refl
lines_back (l ∷ m ∷ lines) = ap (λ ls. l ∷ ls) (lines_back (m ∷ lines))

pub lines_read : (lines : List Line) → list_all is_clear lines ≡ true
    → read_lines (lines_text lines) ≡ lines
unfolding read_lines
lines_read lines e =
    ap (λ parts. map line_from (front_of (map (slice_split is_space) parts))) (feeds_cut lines e)
    ∙ ap (λ fields. map line_from (front_of fields)) (read_body lines e) ∙ lines_back lines

-- ---- numbers

digit_ink : (b : ℕ) → is_ascii_digit b ≡ true → is_ink b ≡ true
digit_ink b e = grind (arith, nat_tests, first_so (nat_le 48 b) (nat_le b 57) e)

pub number_inked : (n : ℕ) → n < 2 ^ 64 → is_inked (decimal n) ≡ true
number_inked n lt = weaker (decimal n) (digits_decimal own n lt)
  where
    weaker : (text : List ℕ) → list_all is_ascii_digit text ≡ true → is_inked text ≡ true
    weaker [] e = refl
    weaker (b ∷ bs) e =
        and_from (is_ink b) (list_all is_ink bs) (digit_ink b (first_so (is_ascii_digit b) (list_all is_ascii_digit bs) e))
        (weaker bs (second_so (is_ascii_digit b) (list_all is_ascii_digit bs) e))
