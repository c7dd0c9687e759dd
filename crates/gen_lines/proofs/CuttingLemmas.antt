-- What comes later doesn't change the lines that are there.
use Rattle.std.proofs.Common.{◌≡◌, ℕ, ◌+◌, ◌<◌, Bool, false, not, List, [], ◌∷◌, ◌++◌, length, drop, take, refl, ap, ◌∙◌, arith, append_assoc, append-nil, length-append, inl, inr}
use Rattle.std.proofs.lemmas.Bool.{cases_lt}
use Rattle.std.proofs.lemmas.Bool.Decides.{nat_tests}
use Rattle.std.proofs.lemmas.List.{take-append-le, drop-append-le}
use Rattle.std.proofs.lemmas.List.Folds.{prefix_len-append}
use lib.Dec.{eqb}
use Rattle.std.specs.List.{slice_split, after_first, before_first, position_or_len, prefix_len}
use Rattle.std.specs.Io.BufRead.{strip_last}
use Rattle.std.proofs.lemmas.List.Splits.{slice_split_first, length-slice_split}
use Rattle.gen_lines.specs.Cutting.{Cut, fresh, pushed, took, IsWhole}
use Rattle.gen_lines.specs.Lines.{is_feed, lines_of, open_part, unfinished}
use Rattle.lemmas.proofs.Positions.{split_whole}
use Rattle.gen_lines.proofs.LinesLemmas.{ended_cons}

same_place : (p : ℕ → Bool) (xs ys : List ℕ) → prefix_len p xs < length xs
    → prefix_len p (xs ++ ys) ≡ prefix_len p xs
same_place p xs ys lt =
    let before : eqb (prefix_len p xs) (length xs) ≡ false = grind (arith, nat_tests) in
    prefix_len-append p xs ys ∙ rw before refl

-- the first part of bytes that go on, where a line feed stands in them
split_later : (held later : List ℕ) → position_or_len is_feed held < length held
    → slice_split is_feed (held ++ later) ≡ before_first is_feed held ∷ slice_split is_feed (after_first is_feed held ++ later)
split_later held later lt =
    let n = position_or_len is_feed held in
    let same : position_or_len is_feed (held ++ later) ≡ n = same_place (λ b. not (is_feed b)) held later lt in
    let longer : position_or_len is_feed (held ++ later) < length (held ++ later) = omega (arith, same, length-append held later) in
    let front : take n (held ++ later) ≡ take n held = take-append-le n held later (omega arith) in
    let back : drop (n + 1) (held ++ later) ≡ drop (n + 1) held ++ later = drop-append-le (n + 1) held later (omega arith) in
    slice_split_first is_feed (held ++ later) 0 longer ∙ rw (same, front, back) refl

pub parts_left : (bytes : List ℕ) → 0 < length (slice_split is_feed bytes)
parts_left bytes = omega (arith, length-slice_split is_feed bytes)

pub open_cons : (part : List ℕ) (parts : List (List ℕ)) → 0 < length parts
    → open_part (part ∷ parts) ≡ open_part parts
open_cons part [] h = absurd (omega arith)
open_cons part (next ∷ parts) h = refl

-- a line feed stands where a first line is
fed : (held line : List ℕ) (more : List (List ℕ)) → lines_of held ≡ line ∷ more
    → position_or_len is_feed held < length held
fed held line more e =
    elim (cases_lt (position_or_len is_feed held) (length held)) [
      | inl lt ↦ lt
      | inr le ↦ absurd (let none : lines_of held ≡ [] = rw (split_whole is_feed held le) refl in cc)
    ]

line_later : (held later : List ℕ) → position_or_len is_feed held < length held
    → lines_of (held ++ later) ≡ strip_last 13 (before_first is_feed held) ∷ lines_of (after_first is_feed held ++ later)
line_later held later lt =
    rw (
      split_later held later lt,
      ended_cons (before_first is_feed held)
          (slice_split is_feed (after_first is_feed held ++ later)) (parts_left (after_first is_feed held ++ later)),
    ) refl

rest_later : (held later : List ℕ) → position_or_len is_feed held < length held
    → unfinished (held ++ later) ≡ unfinished (after_first is_feed held ++ later)
rest_later held later lt =
    ap open_part (split_later held later lt)
    ∙ open_cons (before_first is_feed held)
    (slice_split is_feed (after_first is_feed held ++ later)) (parts_left (after_first is_feed held ++ later))

same_line : (held line : List ℕ) → lines_of held ≡ line ∷ lines_of (after_first is_feed held)
    → position_or_len is_feed held < length held
    → strip_last 13 (before_first is_feed held) ≡ line
same_line held line e lt =
    let nothing_later = line_later held [] lt in
    let here : lines_of held ≡ strip_last 13 (before_first is_feed held) ∷ lines_of (after_first is_feed held) =
    rw (append-nil held, append-nil (after_first is_feed held)) at nothing_later in
    cc

held_open : (held : List ℕ) → lines_of held ≡ [] → unfinished held ≡ held
held_open held none =
    elim (cases_lt (position_or_len is_feed held) (length held)) [
      | inl lt ↦ absurd
          (let later = line_later held [] lt in let some = rw (append-nil held, append-nil (after_first is_feed held)) at later in cc)
      | inr le ↦ rw (split_whole is_feed held le) refl
    ]

-- the lines and the rest of all bytes, whatever comes later
record GoesOn (all : List ℕ) (taken : List (List ℕ)) (held : List ℕ) : Type 0 where
  lines : (later : List ℕ) → lines_of (all ++ later) ≡ taken ++ lines_of (held ++ later)
  rest : (later : List ℕ) → unfinished (all ++ later) ≡ unfinished (held ++ later)

goes_on : (all : List ℕ) (taken : List (List ℕ)) (held : List ℕ) → Cut all taken held
    → GoesOn all taken held
goes_on _ _ _ fresh = record { lines = λ later. refl; rest = λ later. refl }
goes_on _ _ _ (pushed {all} {taken} {held} cut bytes) =
    let so_far = goes_on all taken held cut in
    record {
      lines = λ later. rw (append_assoc, append_assoc) (so_far.lines (bytes ++ later));
      rest = λ later. rw (append_assoc, append_assoc) (so_far.rest (bytes ++ later));
    }
goes_on _ _ _ (took {all} {taken} {held} {line} cut first) =
    let so_far = goes_on all taken held cut in
    let lt = fed held line (lines_of (after_first is_feed held)) first in
    record {
      lines = λ later. so_far.lines later ∙ rw (line_later held later lt, same_line held line first lt, append_assoc) refl;
      rest = λ later. so_far.rest later ∙ rest_later held later lt;
    }

pub whole : (all : List ℕ) (taken : List (List ℕ)) (held : List ℕ) → Cut all taken held
    → IsWhole all taken held
whole all taken held cut =
    let on = goes_on all taken held cut in
    let at_end = on.rest [] in
    let rest : unfinished all ≡ unfinished held = rw (append-nil all, append-nil held) at at_end in
    record {
      lines = on.lines;
      rest = on.rest;
      remains = λ none. rest ∙ held_open held none;
    }
