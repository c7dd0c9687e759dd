-- How a text is cut at its first line feed, and a line at its first space.
use Rattle.std.proofs.Common.{◌≡◌, ℕ, ◌+◌, ◌<◌, Bool, List, [], ◌∷◌, map, length, take, drop, sym, ap, ◌∙◌, arith, Some, None, position, count_by}
use Rattle.std.proofs.lemmas.List.{length-map}
use Rattle.std.proofs.lemmas.List.Splits.{slice_split_first, length-slice_split}
use Rattle.std.specs.List.{slice_split}
use Rattle.gen_lines.specs.Lines.{is_feed, ended}
use Rattle.gen_lines.specs.Reply.{is_space}
use Rattle.gen_lines.proofs.LinesLemmas.{ended_cons, ended_length}
use Rattle.lemmas.proofs.Positions.{found_at, not_found, split_whole}
use Rattle.report_reader.specs.Splits.{field_lines}

pub cut_some : (p : ℕ → Bool) (xs : List ℕ) (n : ℕ) → position p xs ≡ Some n
    → slice_split p xs ≡ take n xs ∷ slice_split p (drop (n + 1) xs)
cut_some p xs n e =
    let found = found_at p xs n e in
    slice_split_first p xs 0 found.within ∙ (λ i. take (found.place i) xs ∷ slice_split p (drop (found.place i + 1) xs))

pub cut_none : (p : ℕ → Bool) (xs : List ℕ) → position p xs ≡ None → slice_split p xs ≡ xs ∷ []
cut_none p xs e = split_whole p xs (not_found p xs e)

-- ---- lines

some_parts : (p : ℕ → Bool) (xs : List ℕ) → 0 < length (slice_split p xs)
some_parts p xs = omega (arith, length-slice_split p xs)

pub lines_some : (bytes : List ℕ) (n : ℕ) → position is_feed bytes ≡ Some n
    → field_lines bytes ≡ slice_split is_space (take n bytes) ∷ field_lines (drop (n + 1) bytes)
lines_some bytes n e =
    ap (λ parts. map (slice_split is_space) (ended parts)) (cut_some is_feed bytes n e)
    ∙ ap (map (slice_split is_space))
    (ended_cons (take n bytes) (slice_split is_feed (drop (n + 1) bytes)) (some_parts is_feed (drop (n + 1) bytes)))

pub lines_none : (bytes : List ℕ) → position is_feed bytes ≡ None → field_lines bytes ≡ []
lines_none bytes e =
    ap (λ parts. map (slice_split is_space) (ended parts)) (cut_none is_feed bytes e)

pub lines_count : (bytes : List ℕ) → length (field_lines bytes) ≡ count_by is_feed bytes
lines_count bytes =
    omega (
      arith,
      length-map (ended (slice_split is_feed bytes)) (slice_split is_space),
      ended_length (slice_split is_feed bytes) (some_parts is_feed bytes),
      length-slice_split is_feed bytes,
    )

pub lines_behind : (bytes : List ℕ) (n : ℕ) → position is_feed bytes ≡ Some n
    → field_lines (drop (n + 1) bytes) ≡ drop 1 (field_lines bytes)
lines_behind bytes n e = ap (drop 1) (sym (lines_some bytes n e))

-- ---- fields

pub never_empty : (p : ℕ → Bool) (xs : List ℕ) → ¬ (slice_split p xs ≡ [])
never_empty p xs e = absurd (omega (arith, some_parts p xs, ap length e))
