-- How bytes that go on fall into lines.
use Rattle.std.proofs.Common.{◌≡◌, ◌⊎◌, ℕ, zero, suc, ◌+◌, ◌-◌, ◌<◌, ◌≤◌, ◌==◌, nat_lt, Bool, true, false, cond, ◌||◌, ◌&&◌, get_or, subst, eqb-true, inl, inr, List, [], ◌∷◌, ◌++◌, length, drop, take, map, Some, None, refl, sym, ap, ◌∙◌, arith, append_assoc, append-nil, position}
use Rattle.std.specs.List.{after_first, slice_split, onto_first, list_any, position_or_len}
use Rattle.std.specs.Io.BufRead.{ends_with_byte, strip_last}
use Rattle.std.proofs.lemmas.Bool.Decides.{nat_tests}
use Rattle.std.proofs.lemmas.List.{drop_all, drop-append-le, get_or_push, length-drop, length_push, map-append, take-append-drop}
use Rattle.std.proofs.lemmas.List.Folds.{list_any-append}
use Rattle.gen_lines.specs.Lines.{is_feed, ended, lines_of, open_part, unfinished}
use Rattle.gen_lines.proofs.CuttingLemmas.{parts_left}
use Rattle.gen_lines.proofs.LinesLemmas.{after_some}
use Rattle.io_world.specs.Replies.{HasLine, IsLine}
use Rattle.lemmas.proofs.Positions.{any_within, found_at, not_found}
use Rattle.restart_host.specs.Lines.{due_length, line_end}

-- where bytes go on that fall into these parts
abbrev GoesOn : List (List ℕ) → List ℕ → List (List ℕ) → Type 0
GoesOn parts later all = all ≡ ended parts ++ slice_split is_feed (open_part parts ++ later)

goes_feed : (parts : List (List ℕ)) (later : List ℕ) (all : List (List ℕ)) → 0 < length parts → GoesOn parts later all
    → GoesOn ([] ∷ parts) later ([] ∷ all)
goes_feed [] later all some e = absurd (omega (arith, some))
goes_feed (part ∷ parts) later all some e = ap (λ ps. [] ∷ ps) e

onto_split : (x : ℕ) (bytes : List ℕ) → is_feed x ≡ false
    → onto_first x (slice_split is_feed bytes) ≡ slice_split is_feed (x ∷ bytes)
onto_split x bytes e = rw e refl

goes_other : (x : ℕ) (parts : List (List ℕ)) (later : List ℕ) (all : List (List ℕ)) → is_feed x ≡ false → 0 < length parts
    → GoesOn parts later all → GoesOn (onto_first x parts) later (onto_first x all)
goes_other x [] later all other some e = absurd (omega (arith, some))
goes_other x (part ∷ []) later all other some e = ap (onto_first x) e ∙ onto_split x (part ++ later) other
goes_other x (part ∷ next ∷ parts) later all other some e = ap (onto_first x) e

goes_by : (b : Bool) (x : ℕ) (xs later : List ℕ) → is_feed x ≡ b
    → GoesOn (slice_split is_feed xs) later (slice_split is_feed (xs ++ later))
    → GoesOn (cond b ([] ∷ slice_split is_feed xs) (onto_first x (slice_split is_feed xs))) later
    (cond b ([] ∷ slice_split is_feed (xs ++ later)) (onto_first x (slice_split is_feed (xs ++ later))))
goes_by true x xs later is e =
    goes_feed (slice_split is_feed xs) later (slice_split is_feed (xs ++ later)) (parts_left xs) e
goes_by false x xs later is e =
    goes_other x (slice_split is_feed xs) later (slice_split is_feed (xs ++ later)) is (parts_left xs) e

-- the parts of bytes that go on
split_on : (xs later : List ℕ) → GoesOn (slice_split is_feed xs) later (slice_split is_feed (xs ++ later))
split_on [] later = refl
split_on (x ∷ xs) later = goes_by (is_feed x) x xs later refl (split_on xs later)

ended_more : (xs ys : List (List ℕ)) → 0 < length ys → ended (xs ++ ys) ≡ xs ++ ended ys
ended_more [] ys some = refl
ended_more (x ∷ []) [] some = absurd (omega (arith, some))
ended_more (x ∷ []) (y ∷ ys) some = refl
ended_more (x ∷ next ∷ xs) ys some = ap (λ ps. x ∷ ps) (ended_more (next ∷ xs) ys some)

open_more : (xs ys : List (List ℕ)) → 0 < length ys → open_part (xs ++ ys) ≡ open_part ys
open_more [] ys some = refl
open_more (x ∷ []) [] some = absurd (omega (arith, some))
open_more (x ∷ []) (y ∷ ys) some = refl
open_more (x ∷ next ∷ xs) ys some = open_more (next ∷ xs) ys some

-- the lines as they came, the lines, and what follows the last one
pub raw_on : (xs later : List ℕ) → ended (slice_split is_feed (xs ++ later))
    ≡ ended (slice_split is_feed xs) ++ ended (slice_split is_feed (unfinished xs ++ later))
raw_on xs later =
    ap ended (split_on xs later)
    ∙ ended_more (ended (slice_split is_feed xs)) (slice_split is_feed (unfinished xs ++ later)) (parts_left (unfinished xs ++ later))

pub lines_on : (xs later : List ℕ) → lines_of (xs ++ later) ≡ lines_of xs ++ lines_of (unfinished xs ++ later)
lines_on xs later =
    ap (map (strip_last 13)) (raw_on xs later)
    ∙ map-append (strip_last 13) (ended (slice_split is_feed xs)) (ended (slice_split is_feed (unfinished xs ++ later)))

pub rest_on : (xs later : List ℕ) → unfinished (xs ++ later) ≡ unfinished (unfinished xs ++ later)
rest_on xs later =
    ap open_part (split_on xs later)
    ∙ open_more (ended (slice_split is_feed xs)) (slice_split is_feed (unfinished xs ++ later)) (parts_left (unfinished xs ++ later))

-- ---- bytes without a line feed

split_line : (bytes : List ℕ) → IsLine bytes → slice_split is_feed bytes ≡ bytes ∷ []
split_line [] line = refl
split_line (x ∷ bytes) line =
    elim (is_feed x) as (λ b. is_feed x ≡ b → (b || list_any is_feed bytes) ≡ false
    → cond b ([] ∷ slice_split is_feed bytes) (onto_first x (slice_split is_feed bytes)) ≡ (x ∷ bytes) ∷ []) [
      | true ↦ λ is h. absurd (cc)
      | false ↦ λ is h. ap (onto_first x) (split_line bytes h)
    ] refl line

pub line_none : (bytes : List ℕ) → IsLine bytes → lines_of bytes ≡ []
line_none bytes line = rw (split_line bytes line) refl

pub line_rest : (bytes : List ℕ) → IsLine bytes → unfinished bytes ≡ bytes
line_rest bytes line = rw (split_line bytes line) refl

pub line_joined : (xs ys : List ℕ) → IsLine xs → IsLine ys → IsLine (xs ++ ys)
line_joined xs ys first second = list_any-append is_feed xs ys ∙ rw (first, second) refl

pub line_front : (xs ys : List ℕ) → IsLine (xs ++ ys) → IsLine xs
line_front xs ys line =
    let both = sym (list_any-append is_feed xs ys) ∙ line in
    elim (list_any is_feed xs) as (λ b. (b || list_any is_feed ys) ≡ false → b ≡ false) [
      | true ↦ λ h. absurd (cc)
      | false ↦ λ h. refl
    ] both

open_line : (parts : List (List ℕ)) (x : ℕ) → is_feed x ≡ false → IsLine (open_part parts)
    → IsLine (open_part (onto_first x parts))
open_line [] x other line = rw other refl
open_line (part ∷ []) x other line = rw other line
open_line (part ∷ next ∷ parts) x other line = line

open_feed : (parts : List (List ℕ)) → IsLine (open_part parts) → IsLine (open_part ([] ∷ parts))
open_feed [] line = refl
open_feed (part ∷ parts) line = line

-- what follows the last line has none
pub rest_line : (bytes : List ℕ) → IsLine (unfinished bytes)
rest_line [] = refl
rest_line (x ∷ bytes) =
    elim (is_feed x) as (λ b. is_feed x ≡ b
    → IsLine (open_part (cond b ([] ∷ slice_split is_feed bytes) (onto_first x (slice_split is_feed bytes))))) [
      | true ↦ λ is. open_feed (slice_split is_feed bytes) (rest_line bytes)
      | false ↦ λ is. open_line (slice_split is_feed bytes) x is (rest_line bytes)
    ] refl

-- bytes without a line feed behind others
pub lines_same : (xs ys : List ℕ) → IsLine ys → lines_of (xs ++ ys) ≡ lines_of xs
lines_same xs ys line =
    lines_on xs ys
    ∙ ap (λ list. lines_of xs ++ list) (line_none (unfinished xs ++ ys) (line_joined (unfinished xs) ys (rest_line xs) line))
    ∙ append-nil (lines_of xs)

pub rest_more : (xs ys : List ℕ) → IsLine ys → unfinished (xs ++ ys) ≡ unfinished xs ++ ys
rest_more xs ys line = rest_on xs ys ∙ line_rest (unfinished xs ++ ys) (line_joined (unfinished xs) ys (rest_line xs) line)

-- bytes without a line feed, and then one
split_one : (bytes : List ℕ) → IsLine bytes → slice_split is_feed (bytes ++ 10 ∷ []) ≡ bytes ∷ [] ∷ []
split_one [] line = refl
split_one (x ∷ bytes) line =
    elim (is_feed x) as (λ b. is_feed x ≡ b → (b || list_any is_feed bytes) ≡ false
    → cond b ([] ∷ slice_split is_feed (bytes ++ 10 ∷ [])) (onto_first x (slice_split is_feed (bytes ++ 10 ∷ [])))
    ≡ (x ∷ bytes) ∷ [] ∷ []) [
      | true ↦ λ is h. absurd (cc)
      | false ↦ λ is h. ap (onto_first x) (split_one bytes h)
    ] refl line

joined_one : (xs ys : List ℕ) → IsLine ys
    → slice_split is_feed (unfinished xs ++ (ys ++ 10 ∷ [])) ≡ (unfinished xs ++ ys) ∷ [] ∷ []
joined_one xs ys line =
    ap (slice_split is_feed) (sym (append_assoc (unfinished xs) ys (10 ∷ [])))
    ∙ split_one (unfinished xs ++ ys) (line_joined (unfinished xs) ys (rest_line xs) line)

pub raw_one : (xs ys : List ℕ) → IsLine ys
    → ended (slice_split is_feed (xs ++ (ys ++ 10 ∷ []))) ≡ ended (slice_split is_feed xs) ++ (unfinished xs ++ ys) ∷ []
raw_one xs ys line =
    raw_on xs (ys ++ 10 ∷ []) ∙ ap (λ ps. ended (slice_split is_feed xs) ++ ended ps) (joined_one xs ys line)

pub lines_one : (xs ys : List ℕ) → IsLine ys
    → lines_of (xs ++ (ys ++ 10 ∷ [])) ≡ lines_of xs ++ strip_last 13 (unfinished xs ++ ys) ∷ []
lines_one xs ys line =
    lines_on xs (ys ++ 10 ∷ []) ∙ ap (λ ps. lines_of xs ++ map (strip_last 13) (ended ps)) (joined_one xs ys line)

pub rest_one : (xs ys : List ℕ) → IsLine ys → unfinished (xs ++ (ys ++ 10 ∷ [])) ≡ []
rest_one xs ys line = rest_on xs (ys ++ 10 ∷ []) ∙ ap open_part (joined_one xs ys line)

-- what stands behind the first line
pub behind_first : (bytes : List ℕ) → drop (due_length bytes) bytes ≡ after_first is_feed bytes
behind_first bytes =
    elim (position is_feed bytes) as (λ o. position is_feed bytes ≡ o
    → drop (line_end o (length bytes)) bytes ≡ after_first is_feed bytes) [
      | Some at ↦ λ is. sym (after_some bytes at is)
      | None ↦ λ is.
          let long : length bytes ≤ position_or_len is_feed bytes + 1 = omega (arith, not_found is_feed bytes is) in
          drop_all (length bytes) bytes (omega arith) ∙ sym (drop_all (position_or_len is_feed bytes + 1) bytes long)
    ] refl

-- ---- the first line

neither : (a b : Bool) → (a || b) ≡ false → (a ≡ false) × (b ≡ false)
neither true b h = absurd (cc)
neither false b h = (refl, h)

-- a line stands first, with its line feed
pub record FirstCut (bytes : List ℕ) : Type 0 where
  pub line : List ℕ
  pub quiet : IsLine line
  pub all : bytes ≡ line ++ 10 ∷ after_first is_feed bytes

cut_by : (b : Bool) (x : ℕ) (xs : List ℕ) → is_feed x ≡ b → (b ≡ false → FirstCut xs)
    → FirstCut (x ∷ xs)
cut_by true x xs is rest = record {
  line = [];
  quiet = refl;
  all = rw is (ap (λ n. n ∷ xs) (eqb-true x 10 is));
}
cut_by false x xs is rest =
    let cut = rest refl in
    let same : 1 + position_or_len is_feed xs + 1 ≡ suc (position_or_len is_feed xs + 1) = omega arith in
    record {
      line = x ∷ cut.line;
      quiet = rw is cut.quiet;
      all = rw is (ap (λ bytes. x ∷ bytes) cut.all ∙ ap (λ n. x ∷ (cut.line ++ 10 ∷ drop n (x ∷ xs))) (sym same));
    }

pub first_cut : (bytes : List ℕ) → HasLine bytes → FirstCut bytes
first_cut [] has = absurd (cc)
first_cut (x ∷ bytes) has =
    cut_by (is_feed x) x bytes refl
    (λ other. first_cut bytes (subst (λ b. (b || list_any is_feed bytes) ≡ true) other has))

place_behind : (line more : List ℕ) → IsLine line → position_or_len is_feed (line ++ 10 ∷ more) ≡ length line
place_behind [] more quiet = refl
place_behind (x ∷ line) more quiet =
    let both : (is_feed x ≡ false) × (list_any is_feed line ≡ false) = neither (is_feed x) (list_any is_feed line) quiet in
    let rest = place_behind line more both.1 in
    rw both.0 (omega (arith, rest))

-- it is the first one
first_place : (bytes : List ℕ) (cut : FirstCut bytes) → position_or_len is_feed bytes ≡ length cut.line
first_place bytes cut =
    ap (position_or_len is_feed) cut.all ∙ place_behind cut.line (after_first is_feed bytes) cut.quiet

pub record FirstDue (bytes : List ℕ) : Type 0 where
  pub cut : FirstCut bytes
  pub due : due_length bytes ≡ length cut.line + 1

-- no line feed is among them, and all are due; or a line stands first, which is
pub due_cases : (bytes : List ℕ) → (IsLine bytes × (due_length bytes ≡ length bytes)) ⊎ FirstDue bytes
due_cases bytes =
    elim (position is_feed bytes) as (λ o. position is_feed bytes ≡ o
    → (IsLine bytes × (due_length bytes ≡ length bytes)) ⊎ FirstDue bytes) [
      | Some at ↦ λ is.
          let found = found_at is_feed bytes at is in
          let has : HasLine bytes = any_within is_feed bytes ∙ grind (arith, nat_tests, found.within) in
          let cut = first_cut bytes has in
          let place : position_or_len is_feed bytes ≡ length cut.line = first_place bytes cut in
          inr (record { cut = cut; due = ap (λ o. line_end o (length bytes)) is ∙ omega (arith, found.place, place) })
      | None ↦ λ is.
          let long = not_found is_feed bytes is in
          let none : IsLine bytes = any_within is_feed bytes ∙ grind (arith, nat_tests, long) in
          inl (none, ap (λ o. line_end o (length bytes)) is)
    ] refl

-- ---- whether bytes end with a line feed

quiet_at : (bytes : List ℕ) (i : ℕ) → IsLine bytes → i < length bytes → (get_or bytes i 0 == 10) ≡ false
quiet_at [] i line within = absurd (omega arith)
quiet_at (x ∷ bytes) zero line within = (neither (is_feed x) (list_any is_feed bytes) line).0
quiet_at (x ∷ bytes) (suc i) line within =
    quiet_at bytes i (neither (is_feed x) (list_any is_feed bytes) line).1 (omega arith)

and_not : (a : Bool) → (a && false) ≡ false
and_not true = refl
and_not false = refl

pub ends_not : (bytes : List ℕ) → IsLine bytes → ends_with_byte 10 bytes ≡ false
ends_not [] line = refl
ends_not (x ∷ bytes) line = rw (quiet_at (x ∷ bytes) (length (x ∷ bytes) - 1) line (omega arith)) (and_not (nat_lt 0 (length (x ∷ bytes))))

pub ends_so : (line : List ℕ) → ends_with_byte 10 (line ++ 10 ∷ []) ≡ true
ends_so line =
    let long : length (line ++ 10 ∷ []) ≡ length line + 1 = length_push line 10 in
    let last : get_or (line ++ 10 ∷ []) (length (line ++ 10 ∷ []) - 1) 0 ≡ 10 =
    ap (λ n. get_or (line ++ 10 ∷ []) n 0) (omega (arith, long)) ∙ get_or_push line 10 0 (length line) refl in
    rw (last, long) (grind (arith, nat_tests))

-- ---- how much of the first line is left

pub line_back : (xs ys : List ℕ) → IsLine (xs ++ ys) → IsLine ys
line_back xs ys line = (neither (list_any is_feed xs) (list_any is_feed ys) (sym (list_any-append is_feed xs ys) ∙ line)).1

pub due_at : (line more : List ℕ) → IsLine line → due_length (line ++ 10 ∷ more) ≡ length line + 1
due_at line more quiet =
    elim (due_cases (line ++ 10 ∷ more)) [
      | inl none ↦ absurd (let other : IsLine (10 ∷ more) = line_back line (10 ∷ more) none.0 in cc)
      | inr first ↦
          first.due ∙ ap (λ n. n + 1) (sym (first_place (line ++ 10 ∷ more) first.cut) ∙ place_behind line more quiet)
    ]

pub due_whole : (bytes : List ℕ) → IsLine bytes → due_length bytes ≡ length bytes
due_whole bytes line =
    elim (due_cases bytes) [
      | inl none ↦ none.1
      | inr first ↦ absurd
          (let other : IsLine (10 ∷ after_first is_feed bytes) =
          line_back first.cut.line (10 ∷ after_first is_feed bytes) (subst IsLine first.cut.all line) in cc)
    ]

pub due_less : (bytes : List ℕ) (count : ℕ) → count < due_length bytes
    → due_length (drop count bytes) ≡ due_length bytes - count
due_less bytes count less =
    elim (due_cases bytes) [
      | inl none ↦
          let line : IsLine (drop count bytes) =
          line_back (take count bytes) (drop count bytes) (subst IsLine (sym (take-append-drop count bytes)) none.0) in
          due_whole (drop count bytes) line ∙ length-drop count bytes ∙ ap (λ n. n - count) (sym none.1)
      | inr first ↦
          let within : count ≤ length first.cut.line = omega (arith, less, first.due) in
          let left : drop count bytes ≡ drop count first.cut.line ++ 10 ∷ after_first is_feed bytes =
          ap (drop count) first.cut.all
          ∙ drop-append-le count first.cut.line (10 ∷ after_first is_feed bytes) within in
          let line : IsLine (drop count first.cut.line) =
          line_back (take count first.cut.line) (drop count first.cut.line)
          (subst IsLine (sym (take-append-drop count first.cut.line)) first.cut.quiet) in
          let long : length (drop count first.cut.line) ≡ length first.cut.line - count = length-drop count first.cut.line in
          ap due_length left ∙ due_at (drop count first.cut.line) (after_first is_feed bytes) line ∙ omega (arith, long, within, first.due)
    ]
