-- How a stream of bytes falls into lines.
use Rattle.std.proofs.Common.{◌≡◌, ℕ, ◌+◌, ◌<◌, ◌≤◌, Bool, true, false, cond, List, [], ◌∷◌, length, drop, take, refl, ap, arith, Some, None, position, ◌-◌, drop-drop, length-drop}
use Rattle.std.proofs.lemmas.List.{length-take}
use Rattle.std.specs.List.{slice_split, after_first}
use Rattle.std.specs.Io.BufRead.{ends_with_byte, strip_last}
use Rattle.std.proofs.lemmas.List.Splits.{slice_split_first, length-slice_split}
use Rattle.lemmas.proofs.Positions.{found_at, not_found, split_whole}
use Rattle.gen_lines.specs.Lines.{is_feed, ended, lines_of}

pub ended_cons : (part : List ℕ) (parts : List (List ℕ)) → 0 < length parts
    → ended (part ∷ parts) ≡ part ∷ ended parts
ended_cons part [] h = absurd (omega arith)
ended_cons part (next ∷ parts) h = refl

pub ended_length : (parts : List (List ℕ)) → 0 < length parts
    → length (ended parts) + 1 ≡ length parts
ended_length [] some = absurd (omega (arith, some))
ended_length (part ∷ []) some = refl
ended_length (part ∷ next ∷ parts) some = omega (arith, ended_length (next ∷ parts) (omega arith))

pub lines_none : (held : List ℕ) → position is_feed held ≡ None → lines_of held ≡ []
lines_none held e = rw (split_whole is_feed held (not_found is_feed held e)) refl

pub lines_some : (held : List ℕ) (n : ℕ) → position is_feed held ≡ Some n
    → lines_of held ≡ strip_last 13 (take n held) ∷ lines_of (drop (n + 1) held)
lines_some held n e =
    let at = found_at is_feed held n e in
    let cut : slice_split is_feed held ≡ take n held ∷ slice_split is_feed (drop (n + 1) held) =
    rw (← at.place) (slice_split_first is_feed held 0 at.within) in
    rw (
      cut,
      ended_cons (take n held) (slice_split is_feed (drop (n + 1) held)) (omega (arith, length-slice_split is_feed (drop (n + 1) held))),
    )
    refl

pub after_some : (held : List ℕ) (n : ℕ) → position is_feed held ≡ Some n
    → after_first is_feed held ≡ drop (n + 1) held
after_some held n e = rw (found_at is_feed held n e).place refl

stripped_by : (b : Bool) (bytes : List ℕ)
    → length (cond b (take (length bytes - 1) bytes) bytes) ≤ length bytes
stripped_by true bytes = omega (arith, length-take (length bytes - 1) bytes)
stripped_by false bytes = omega arith

stripped : (bytes : List ℕ) → length (strip_last 13 bytes) ≤ length bytes
stripped bytes = stripped_by (ends_with_byte 13 bytes) bytes

-- the same two facts where the bytes stand in a longer list, from a place on
pub after_from : (items held : List ℕ) (start n : ℕ) → drop start items ≡ held
    → position is_feed held ≡ Some n
    → drop (start + n + 1) items ≡ after_first is_feed held
after_from items held start n view e =
    rw (after_some held n e, ← view, drop-drop) (ap (λ k. drop k items) (omega arith))

pub line_from : (items held line : List ℕ) (start n : ℕ) → drop start items ≡ held
    → position is_feed held ≡ Some n
    → line ≡ strip_last 13 (take (start + n - start) (drop start items)) → lines_of held ≡ line ∷ lines_of (after_first is_feed held)
line_from items held line start n view e same =
    let short : start + n - start ≡ n = omega arith in
    rw (lines_some held n e, after_some held n e, same, short, view) refl

-- a line is shorter than the bytes that it stands in
pub line_short : (items line : List ℕ) (start n : ℕ) → position is_feed (drop start items) ≡ Some n
    → line ≡ strip_last 13 (take (start + n - start) (drop start items)) → length line < length items
line_short items line start n e same =
    let at = found_at is_feed (drop start items) n e in
    let cut = stripped (take (start + n - start) (drop start items)) in
    omega (arith, ap length same, cut, length-take (start + n - start) (drop start items), length-drop start items, at.within, at.place)
