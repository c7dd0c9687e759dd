-- Two numbers with a dot between them are cut at the first dot.
use Rattle.std.proofs.Common.{◌≡◌, ℕ, ◌+◌, ◌<◌, ◌^◌, true, false, List, [], ◌∷◌, ◌++◌, take, drop, refl, sym, ap, ◌∙◌, arith, All, Some, None, position}
use Rattle.std.specs.Char.{is_ascii_digit}
use Rattle.std.specs.Fmt.{decimal}
use Rattle.std.specs.List.{slice_split, join_with_byte}
use Rattle.std.proofs.lemmas.Bool.Decides.{nat_tests}
use Rattle.std.proofs.lemmas.List.Splits.{slice_split_at, join_with_byte-slice_split}
use Rattle.std.proofs.lemmas.List.Sums.{AllPass-from_list_all}
use Rattle.report_reader.specs.Objects.{IsPlaceNumber, AreTwoPlaces, is_dot}
use Rattle.report_reader.proofs.SplitsCutLemmas.{cut_some, cut_none, never_empty}
use Rattle.report_reader.proofs.NumberFieldLemmas.{all_digits}

digit_no_dot : (b : ℕ) → is_ascii_digit b ≡ true → is_dot b ≡ false
digit_no_dot b e = grind (arith, nat_tests, e)

no_dot : (n : ℕ) → n < 2 ^ 64 → All (λ b. is_dot b ≡ false) (decimal n)
no_dot n lt k d within =
    digit_no_dot _ (AllPass-from_list_all is_ascii_digit (decimal n) (all_digits n lt) k d within)

parted : (field : List ℕ) (t : AreTwoPlaces field)
    → slice_split is_dot field ≡ decimal t.j ∷ slice_split is_dot (decimal t.i)
parted field t =
    ap (slice_split is_dot) (sym t.is) ∙ slice_split_at is_dot (decimal t.j) 46 (decimal t.i) (no_dot t.j (omega (arith, t.upto))) refl

pub no_places : (field : List ℕ) → position is_dot field ≡ None → ¬ (AreTwoPlaces field)
no_places field none t =
    let whole : field ∷ [] ≡ decimal t.j ∷ slice_split is_dot (decimal t.i) = sym (cut_none is_dot field none) ∙ parted field t in
    never_empty is_dot (decimal t.i) (cc)

pub two_places_to : (field : List ℕ) (n : ℕ) → position is_dot field ≡ Some n → AreTwoPlaces field
    → IsPlaceNumber (take n field) × IsPlaceNumber (drop (n + 1) field)
two_places_to field n found t =
    let whole : take n field ∷ slice_split is_dot (drop (n + 1) field) ≡ decimal t.j ∷ slice_split is_dot (decimal t.i) =
    sym (cut_some is_dot field n found) ∙ parted field t in
    let first : decimal t.j ≡ take n field = cc in
    let parts : slice_split is_dot (decimal t.i) ≡ slice_split is_dot (drop (n + 1) field) = cc in
    let second : decimal t.i ≡ drop (n + 1) field =
    sym (join_with_byte-slice_split 46 (decimal t.i)) ∙ ap (join_with_byte 46) parts
    ∙ join_with_byte-slice_split 46 (drop (n + 1) field) in
    ((t.j, t.from.0, t.upto.0, first), (t.i, t.from.1, t.upto.1, second))

pub two_places_from : (field : List ℕ) (n : ℕ) → position is_dot field ≡ Some n
    → IsPlaceNumber (take n field)
    → IsPlaceNumber (drop (n + 1) field) → AreTwoPlaces field
two_places_from field n found first second = record {
  j = first.0;
  i = second.0;
  is = (λ i. first.3 i ++ 46 ∷ second.3 i) ∙ whole;
  from = (first.1, second.1);
  upto = (first.2, second.2);
}
  where
    joined : (part : List ℕ) (parts : List (List ℕ)) → ¬ (parts ≡ [])
        → join_with_byte 46 (part ∷ parts) ≡ part ++ 46 ∷ join_with_byte 46 parts
    joined part [] some = absurd (some refl)
    joined part (next ∷ parts) some = refl

    whole : take n field ++ 46 ∷ drop (n + 1) field ≡ field
    whole =
        ap (λ rest. take n field ++ 46 ∷ rest) (sym (join_with_byte-slice_split 46 (drop (n + 1) field)))
        ∙ sym (joined (take n field) (slice_split is_dot (drop (n + 1) field)) (never_empty is_dot (drop (n + 1) field)))
        ∙ ap (join_with_byte 46) (sym (cut_some is_dot field n found)) ∙ join_with_byte-slice_split 46 field
