-- The places of names in tables, and what stands there.
use Rattle.std.proofs.Common.{◌≡◌, ℕ, zero, suc, ◌+◌, ◌<◌, true, false, cond, ◌==◌, nat_lt, List, [], ◌∷◌, ◌++◌, map, length, length-append, refl, sym, ap, ◌∙◌, inl, inr, Option, Some, None, slice_get, unwrap_or, eqb-true, eq-eqb, arith}
use Rattle.std.specs.List.{position_or_len}
use Rattle.std.specs.Str.{bytes_eq}
use Rattle.std.proofs.lemmas.Bool.{cases_Bool, cond-false, cond-true, lt-ltb, ltb-true, ne_eqb}
use Rattle.std.proofs.lemmas.List.Folds.{position_or_len_push}
use Rattle.lemmas.proofs.Positions.{any_within}
use Rattle.task_model.specs.Fit.{has_arity}
use Rattle.task_model.specs.declared.domain.Signature.{Signature}
use Rattle.form_reader.specs.declared.fault.InputKind.TheVariants.{Arity}
use Rattle.name_tables.specs.Names.{Signed, has_name, table_place}
use Rattle.name_tables.specs.Terms.{declared_place, use_names}
use Rattle.name_tables.specs.Vocabulary.{arity_at, arity_of}
use Rattle.name_tables.proofs.NoFaultLemmas.{met}
use Rattle.name_tables.proofs.NamesLemmas.{place_named, place_there}

module _ (n : List ℕ) (ns : List (List ℕ)) where
  pub place_none : has_name n ns ≡ false → table_place n ns ≡ None
  place_none e =
      let first : ℕ = position_or_len (bytes_eq n) ns in
      cond-false (nat_lt first (length ns)) (Some first) None (sym (any_within (bytes_eq n) ns) ∙ e)

  -- a name that is there has a place, and stands at it
  pub place_some : has_name n ns ≡ true → table_place n ns ≡ Some (unwrap_or (table_place n ns) 0)
  place_some e =
      let found = place_there n ns e in found.1 ∙ ap Some (sym (ap (λ o. unwrap_or o 0) found.1))

  pub place_holds : has_name n ns ≡ true → slice_get ns (unwrap_or (table_place n ns) 0) ≡ Some n
  place_holds e = place_named n ns (unwrap_or (table_place n ns) 0) (place_some e)

-- a place so far stays
pub place_push : (n y : List ℕ) (ns : List (List ℕ)) → has_name n ns ≡ true
    → table_place n (ns ++ y ∷ []) ≡ table_place n ns
place_push n y ns e =
    let k : ℕ = position_or_len (bytes_eq n) ns in
    let low : nat_lt k (length ns) ≡ true = sym (any_within (bytes_eq n) ns) ∙ e in
    let inside : k < length ns = ltb-true k (length ns) low in
    let long : length (ns ++ y ∷ []) ≡ length ns + 1 = length-append ns (y ∷ []) in
    let same : position_or_len (bytes_eq n) (ns ++ y ∷ []) ≡ k =
    position_or_len_push (bytes_eq n) ns y
    ∙ cond-false (k == length ns) (length ns + cond (bytes_eq n y) 0 1) k (ne_eqb k (length ns) (λ h. omega arith)) in
    ap (λ m. cond (nat_lt m (length (ns ++ y ∷ []))) (Some m) None) same
    ∙ cond-true (nat_lt k (length (ns ++ y ∷ []))) (Some k) None (lt-ltb k (length (ns ++ y ∷ [])) (omega arith))
    ∙ sym (cond-true (nat_lt k (length ns)) (Some k) None low)

-- ---- declared names

-- what is used is declared with so many arguments
pub record IsUsable (s : Signed) (n : List ℕ) (count : ℕ) : Type 0 where
  pub there : has_name n s.names ≡ true
  pub arity : slice_get s.arities (declared_place s n) ≡ Some count

usable_by : (s : Signed) (n : List ℕ) (count at place : ℕ) (o : Option ℕ)
    → has_name n s.names ≡ true → slice_get s.arities (declared_place s n) ≡ o
    → use_names o count at place ≡ [] → IsUsable s n count
usable_by s n count at place None there is e = absurd (cc)
usable_by s n count at place (Some a) there is e = record
    { there = there; arity = is ∙ ap Some (eqb-true a count (met (a == count) Arity place e)) }

pub usable : (s : Signed) (n : List ℕ) (count at place : ℕ)
    → use_names (arity_of s n) count at place ≡ [] → IsUsable s n count
usable s n count at place e =
    elim (cases_Bool (has_name n s.names)) [
      | inl there ↦
          usable_by s n count at place (slice_get s.arities (declared_place s n)) there refl
          (ap (λ o. use_names (arity_at s o) count at place) (sym (place_some n s.names there)) ∙ e)
      | inr gone ↦
          let none : use_names None count at place ≡ [] =
          ap (λ o. use_names (arity_at s o) count at place) (sym (place_none n s.names gone)) ∙ e in
          absurd (cc)
    ]

pub has_arity_at : (all : List Signature) (k n : ℕ)
    → slice_get (map (λ (s : Signature). s.arity) all) k ≡ Some n → has_arity all k n ≡ true
has_arity_at [] k n e = absurd (cc)
has_arity_at (s ∷ all) zero n e =
    let same : s.arity ≡ n = cc in
    eq-eqb s.arity n same
has_arity_at (s ∷ all) (suc k) n e = has_arity_at all k n e
