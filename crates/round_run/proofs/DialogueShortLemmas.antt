-- Lines that are short as they came.
use Rattle.std.proofs.Common.{◌≡◌, ℕ, ◌+◌, ◌<◌, ◌≤◌, arith, false, not, List, [], ◌∷◌, ◌++◌, length, take, drop, position, Option, Some, None, refl, sym, subst, ap, ◌∙◌, append_assoc, append-nil, inl, inr, slice_get, IfSome}
use Rattle.std.proofs.lemmas.Bool.{cases_lt}
use Rattle.std.proofs.lemmas.Bool.Decides.{nat_tests}
use Rattle.std.proofs.lemmas.List.{drop-append-le, length-append, length-take-le, take-append-le}
use Rattle.std.proofs.lemmas.List.Folds.{prefix_len-append}
use Rattle.std.proofs.lemmas.List.Splits.{slice_split_first}
use Rattle.std.specs.List.{after_first, before_first, position_or_len, prefix_len, slice_split}
use lib.Dec.{eqb}
use Rattle.gen_lines.proofs.CuttingLemmas.{parts_left}
use Rattle.gen_lines.proofs.LinesLemmas.{ended_cons, lines_none}
use Rattle.gen_lines.specs.Cutting.{Cut, fresh, pushed, took}
use Rattle.gen_lines.specs.Lines.{IsFirstShort, is_feed, lines_of}
use Rattle.lemmas.proofs.ListTests.{get_there}
use Rattle.lemmas.proofs.Members.{get_append, get_at_length}
use Rattle.lemmas.proofs.Positions.{found_at}
use Rattle.round_run.specs.Dialogue.{AreShort, IsShortAt, raw_lines}

-- ---- the first line as it came

-- the first line of bytes that go on, where a line feed stands in them
raw_later : (held later : List ℕ) → position_or_len is_feed held < length held
    → raw_lines (held ++ later) ≡ before_first is_feed held ∷ raw_lines (after_first is_feed held ++ later)
raw_later held later within =
    let n = position_or_len is_feed held in
    let before : eqb (prefix_len (λ b. not (is_feed b)) held) (length held) ≡ false = grind (arith, nat_tests) in
    let same : position_or_len is_feed (held ++ later) ≡ n = prefix_len-append (λ b. not (is_feed b)) held later ∙ rw before refl in
    let longer : position_or_len is_feed (held ++ later) < length (held ++ later) = omega (arith, same, length-append held later) in
    let front : take n (held ++ later) ≡ take n held = take-append-le n held later (omega arith) in
    let back : drop (n + 1) (held ++ later) ≡ drop (n + 1) held ++ later = drop-append-le (n + 1) held later (omega arith) in
    let cut : slice_split is_feed (held ++ later) ≡ before_first is_feed held ∷ slice_split is_feed (after_first is_feed held ++ later) =
    slice_split_first is_feed (held ++ later) 0 longer ∙ rw (same, front, back) refl in
    rw (
      cut,
      ended_cons (before_first is_feed held)
          (slice_split is_feed (after_first is_feed held ++ later)) (parts_left (after_first is_feed held ++ later)),
    ) refl

-- a line feed stands where a line is, and how far behind the beginning
record HasFirst (held : List ℕ) : Type 0 where
  count : ℕ
  at : position is_feed held ≡ Some count
  within : position_or_len is_feed held < length held
  place : position_or_len is_feed held ≡ count

has_first : (held line : List ℕ) (more : List (List ℕ)) → lines_of held ≡ line ∷ more → HasFirst held
has_first held line more first = by (position is_feed held) refl
  where
    by : (o : Option ℕ) → position is_feed held ≡ o → HasFirst held
    by None e = absurd (let none : lines_of held ≡ [] = lines_none held e in let bad = sym none ∙ first in cc)
    by (Some n) e = let f = found_at is_feed held n e in record { count = n; at = e; within = f.within; place = f.place }

-- ---- lines that were taken

-- the lines of all bytes as they came begin with as many as were taken, whatever comes later
record Begins (all : List ℕ) (taken : List (List ℕ)) (held : List ℕ) : Type 0 where
  front : List (List ℕ)
  many : length front ≡ length taken
  goes : (later : List ℕ) → raw_lines (all ++ later) ≡ front ++ raw_lines (held ++ later)

begins : (all : List ℕ) (taken : List (List ℕ)) (held : List ℕ) → Cut all taken held → Begins all taken held
begins _ _ _ fresh = record { front = []; many = refl; goes = λ later. refl }
begins _ _ _ (pushed {all} {taken} {held} cut bytes) =
    let b = begins all taken held cut in
    record {
      front = b.front;
      many = b.many;
      goes = λ later. rw (append_assoc all bytes later, append_assoc held bytes later) (b.goes (bytes ++ later));
    }
begins _ _ _ (took {all} {taken} {held} {line} cut first) =
    let b = begins all taken held cut in
    let one = before_first is_feed held in
    let f = has_first held line (lines_of (after_first is_feed held)) first in
    record {
      front = b.front ++ one ∷ [];
      many = omega (arith, b.many, length-append b.front (one ∷ []), length-append taken (line ∷ []));
      goes = λ later.
          b.goes later ∙ ap (λ ls. b.front ++ ls) (raw_later held later f.within)
          ∙ sym (append_assoc b.front (one ∷ []) (raw_lines (after_first is_feed held ++ later)));
    }

module _ (heard : List ℕ) (taken : List (List ℕ)) (kept : List ℕ) (cut : Cut heard taken kept) (short : AreShort heard (length taken)) where
  here : (place : ℕ) → place < length taken → (line : List ℕ) × (slice_get (begins heard taken kept cut).front place ≡ Some line)
      × (length line ≤ 1024)
  here place less =
      let b = begins heard taken kept cut in
      let there = get_there b.front place (omega (arith, less, b.many)) in
      let at : slice_get (raw_lines heard) place ≡ Some there.0 =
      ap (λ bytes. slice_get (raw_lines bytes) place) (sym (append-nil heard)) ∙ ap (λ ls. slice_get ls place) (b.goes [])
      ∙ get_append b.front (raw_lines (kept ++ [])) place there.0 there.1 in
      (there.0, there.1, subst (λ o. IfSome o (λ line. length line ≤ 1024)) at (short place less))

  -- bytes more came
  pub short_later : (more : List ℕ) → AreShort (heard ++ more) (length taken)
  short_later more place less =
      let b = begins heard taken kept cut in
      let h = here place less in
      let at : slice_get (raw_lines (heard ++ more)) place ≡ Some h.0 =
      ap (λ ls. slice_get ls place) (b.goes more) ∙ get_append b.front (raw_lines (kept ++ more)) place h.0 h.1 in
      subst (λ o. IfSome o (λ line. length line ≤ 1024)) (sym at) h.2

  module _ (more line : List ℕ) (later : List (List ℕ)) (first : lines_of (kept ++ more) ≡ line ∷ later)
      (few : IsFirstShort (kept ++ more)) where
    -- the line behind those that were taken
    pub short_next : (place : ℕ) → place ≡ length taken → IsShortAt (heard ++ more) place
    short_next place is =
        let b = begins heard taken kept cut in
        let f = has_first (kept ++ more) line later first in
        let one = before_first is_feed (kept ++ more) in
        let rest = raw_lines (after_first is_feed (kept ++ more) ++ []) in
        let next : raw_lines (kept ++ more) ≡ one ∷ rest =
        ap raw_lines (sym (append-nil (kept ++ more))) ∙ raw_later (kept ++ more) [] f.within in
        let seam : b.front ++ one ∷ rest ≡ (b.front ++ one ∷ []) ++ rest = sym (append_assoc b.front (one ∷ []) rest) in
        let at : slice_get (raw_lines (heard ++ more)) place ≡ Some one =
        ap (slice_get (raw_lines (heard ++ more))) (is ∙ sym b.many)
        ∙ ap (λ ls. slice_get ls (length b.front)) (b.goes more ∙ ap (λ ls. b.front ++ ls) next ∙ seam)
        ∙ get_append (b.front ++ one ∷ []) rest (length b.front) one (get_at_length b.front one) in
        let count : f.count < 1025 = subst (λ o. IfSome o (λ n. n < 1025)) f.at few in
        subst (λ o. IfSome o (λ l. length l ≤ 1024)) (sym at)
        (omega (
          arith,
          count,
          f.place,
          length-take-le (position_or_len is_feed (kept ++ more)) (kept ++ more) (omega (arith, f.within)),
        ))

    -- it is taken too
    pub short_taken : AreShort (heard ++ more) (length (taken ++ line ∷ []))
    short_taken place less = elim (cases_lt place (length taken)) [
      | inl before ↦ short_later more place before
      | inr here ↦ short_next place (omega (arith, less, here, length-append taken (line ∷ [])))
    ]
