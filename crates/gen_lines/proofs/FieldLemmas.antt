-- Fields found from left to right.
use Rattle.std.proofs.Common.{◌≡◌, ℕ, ◌+◌, ◌-◌, ◌<◌, ◌≤◌, Bool, true, false, not, List, [], ◌∷◌, length, drop, take, refl, sym, ap, ◌∙◌, arith, Some, None, position, get_or, filter, drop-drop, length-drop, drop-cons, add-one, length-take-le, subst, slice_range, inl, inr, suc}
use Rattle.std.proofs.lemmas.Bool.{cases_lt}
use Rattle.std.proofs.lemmas.List.{drop_all, take_all}
use Rattle.std.proofs.Math.Numerals.{one-add}
use Rattle.std.specs.List.{slice_split, position_or_len}
use Rattle.std.proofs.lemmas.List.Splits.{slice_split_first}
use Rattle.std.proofs.lemmas.List.Sums.{prefix_len-le-length, prefix_len-drop_yes, passes_at_first}
use Rattle.gen_lines.specs.Field.{IsFieldFrom}
use Rattle.gen_lines.specs.Reply.{is_space, is_filled, fields}
use Rattle.lemmas.proofs.Positions.{found_at, not_found, split_whole}

abbrev pub other : ℕ → Bool
other b = not (is_space b)

fields_space : (b : ℕ) (bs : List ℕ) → is_space b ≡ true → fields (b ∷ bs) ≡ fields bs
fields_space b bs e = rw e refl

skip_by : (b : ℕ) (bs : List ℕ) → fields bs ≡ fields (drop (position_or_len other bs) bs)
    → (s : Bool) → is_space b ≡ s
    → fields (b ∷ bs) ≡ fields (drop (position_or_len other (b ∷ bs)) (b ∷ bs))
skip_by b bs ih true e = fields_space b bs e ∙ ih ∙ rw (e, one-add) refl
skip_by b bs ih false e =
    let here : position_or_len other (b ∷ bs) ≡ 0 = rw e refl in
    rw here refl

-- the spaces before the first other byte don't matter
pub fields_skip : (bs : List ℕ) → fields bs ≡ fields (drop (position_or_len other bs) bs)
fields_skip [] = refl
fields_skip (b ∷ bs) = skip_by b bs (fields_skip bs) (is_space b) refl

pub filled : (bs : List ℕ) → 0 < length bs → is_filled bs ≡ true
filled [] h = absurd (omega arith)
filled (b ∷ bs) h = refl

filter_filled : (part : List ℕ) (parts : List (List ℕ)) → 0 < length part
    → filter is_filled (part ∷ parts) ≡ part ∷ filter is_filled parts
filter_filled part parts h = rw (filled part h) refl

-- a space at a place doesn't matter to the fields from there on
fields_next : (bs : List ℕ) (n : ℕ) → n < length bs → is_space (get_or bs n 0) ≡ true
    → fields (drop n bs) ≡ fields (drop (n + 1) bs)
fields_next bs n lt e =
    rw (drop-cons bs n 0 lt, add-one) (fields_space (get_or bs n 0) (drop (suc n) bs) e)

run_within : (bs : List ℕ) → 0 < position_or_len is_space bs
    → position_or_len is_space bs < length bs
    → fields bs ≡ take (position_or_len is_space bs) bs ∷ fields (drop (position_or_len is_space bs) bs)
run_within bs some lt =
    let n = position_or_len is_space bs in
    let long : 0 < length (take n bs) = omega (arith, length-take-le n bs (omega arith)) in
    rw (slice_split_first is_space bs 0 lt, fields_next bs n lt (passes_at_first is_space bs 0 lt))
    (filter_filled (take n bs) (slice_split is_space (drop (n + 1) bs)) long)

run_whole : (bs : List ℕ) → 0 < position_or_len is_space bs
    → length bs ≤ position_or_len is_space bs
    → fields bs ≡ take (position_or_len is_space bs) bs ∷ fields (drop (position_or_len is_space bs) bs)
run_whole bs some le =
    let n = position_or_len is_space bs in
    let upper : n ≤ length bs = prefix_len-le-length (λ b. not (is_space b)) bs in
    let long : 0 < length bs = omega arith in
    rw (split_whole is_space bs le, take_all n bs le, drop_all n bs le) (filter_filled bs [] long)

-- where the first byte is no space, the bytes before the first space are the first field
pub fields_run : (bs : List ℕ) → 0 < position_or_len is_space bs
    → fields bs ≡ take (position_or_len is_space bs) bs ∷ fields (drop (position_or_len is_space bs) bs)
fields_run bs some =
    elim (cases_lt (position_or_len is_space bs) (length bs)) [ inl lt ↦ run_within bs some lt | inr le ↦ run_whole bs some le ]

pub fields_none : (bs : List ℕ) → position other bs ≡ None → fields bs ≡ []
fields_none bs e =
    fields_skip bs ∙ ap fields (drop_all (position_or_len other bs) bs (not_found other bs e))

-- a first field, found from a place on
pub first_field : (line : List ℕ) (from skipped run : ℕ)
    → position other (drop from line) ≡ Some skipped
    → run ≡ position_or_len is_space (drop skipped (drop from line))
    → IsFieldFrom line from (record { start = from + skipped; end = from + skipped + run })
first_field line from skipped run e r =
    let rest = drop from line in
    let at = found_at other rest skipped e in
    let lt : skipped < length rest = omega (arith, at.within, at.place) in
    let word : not (is_space (get_or rest skipped 0)) ≡ true =
    subst (λ n. not (is_space (get_or rest n 0)) ≡ true) at.place (passes_at_first other rest 0 at.within) in
    let some : 0 < position_or_len is_space (drop skipped rest) = omega (arith, prefix_len-drop_yes other rest skipped 0 lt word) in
    let upper : position_or_len is_space (drop skipped rest) ≤ length (drop skipped rest) =
    prefix_len-le-length (λ b. not (is_space b)) (drop skipped rest) in
    let first : fields rest ≡ take run (drop skipped rest) ∷ fields (drop run (drop skipped rest)) =
    fields_skip rest ∙ ap (λ n. fields (drop n rest)) at.place
    ∙ subst (λ n. fields (drop skipped rest) ≡ take n (drop skipped rest) ∷ fields (drop n (drop skipped rest)))
    (sym r) (fields_run (drop skipped rest) some) in
    let text : take run (drop skipped rest) ≡ slice_range line (from + skipped) (from + skipped + run) =
    let same : run ≡ from + skipped + run - (from + skipped) = omega arith in
    ap (λ n. take n (drop skipped rest)) same
    ∙ ap (λ bs. take (from + skipped + run - (from + skipped)) bs) (drop-drop skipped from line) in
    let next : drop run (drop skipped rest) ≡ drop (from + skipped + run) line =
    ap (drop run) (drop-drop skipped from line) ∙ drop-drop run (from + skipped) line in
    record {
      ordered = (omega arith, omega arith);
      within = omega (arith, length-drop skipped rest, length-drop from line);
      first =
          first ∙ ap (λ t. t ∷ fields (drop run (drop skipped rest))) text
          ∙ ap (λ bs. slice_range line (from + skipped) (from + skipped + run) ∷ fields bs) next;
    }
