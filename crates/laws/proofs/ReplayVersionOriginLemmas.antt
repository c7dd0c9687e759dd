-- Where each yield has one tuple, origins are the same in every version.
use Rattle.std.proofs.Common.{◌≡◌, ℕ, suc, ◌+◌, ◌/◌, ◌==◌, ◌&&◌, ◌||◌, Bool, true, false, true≢false, List, [], ◌∷◌, take, length, refl, sym, ap, subst, ◌∙◌, Option, Some, None, slice_get, eqb-true, div-one, if◌then◌else◌}
use Rattle.std.proofs.Math.Seq.{take-length}
use Rattle.std.specs.Cmp.{first_so, second_so}
use Rattle.std.specs.List.{list_any, position}
use Rattle.std.specs.Option.{option_map}
use Rattle.lemmas.proofs.Members.{member_at, place_of}
use Rattle.task_model.specs.Known.{same_numbers}
use Rattle.transcript_model.specs.Outcomes.{AreOrigins, IsOrigin, has_value, tuple_with}
use Rattle.transcript_model.specs.Transcript.{tuples_in}
use Rattle.transcript_model.specs.declared.entry.Call.{Call}
use Rattle.transcript_model.specs.declared.entry.Entry.{Entry}
use Rattle.transcript_model.specs.declared.entry.Entry.TheVariants as entry
use Rattle.transcript_model.specs.declared.outcome.Origin.{Origin}

-- a yield has one tuple
abbrev pub HasOne : Entry → Type 0
HasOne (entry.Got number tuples values) = tuples ≡ 1
HasOne e = Unit {0}

abbrev pub HaveOne : List Entry → Type 0
HaveOne entries = (k : ℕ) (e : Entry) → slice_get entries k ≡ Some e → HasOne e

-- ---- the place of a value in its only tuple

-- the only tuple has all values
one_tuple : (values : List (List ℕ)) → tuples_in (length values / 1) 1 values ≡ values ∷ []
one_tuple values =
    ap (λ n. take n values ∷ []) (div-one (length values)) ∙ ap (λ vs. vs ∷ []) (take-length values)

placed : (value : List ℕ) (values : List (List ℕ)) (b : Bool) → list_any (same_numbers value) values ≡ b
    → position (list_any (same_numbers value)) (values ∷ []) ≡ (if b then Some 0 else None)
placed value values true e = rw e refl
placed value values false e = rw e refl

abbrev first_of : Bool → Option ℕ
first_of b = option_map (λ place. place + 1) (if b then Some 0 else None)

-- what is asked of a yield with one tuple
abbrev in_one : List ℕ → ℕ → ℕ → List (List ℕ) → Option ℕ
in_one value n number values =
    if n == number then first_of (list_any (same_numbers value) values) else None

only_tuple : (value : List ℕ) (n number : ℕ) (values : List (List ℕ))
    → tuple_with value n (entry.Got number 1 values) ≡ in_one value n number values
only_tuple value n number values =
    ap (λ ts. if n == number then option_map (λ place. place + 1)
    (position (list_any (same_numbers value)) ts) else None) (one_tuple values)
    ∙ ap (λ p. if n == number then option_map (λ (place : ℕ). place + 1) p else None)
    (placed value values (list_any (same_numbers value) values) refl)

one_number : (a b : Bool) (t : ℕ) → (if a then first_of b else None) ≡ Some t → t ≡ 1
one_number true true t e = cc
one_number true false t e = absurd (cc)
one_number false b t e = absurd (cc)

-- a tuple that is found has the number 1
found_one : (value : List ℕ) (n t : ℕ) (e : Entry) → HasOne e → tuple_with value n e ≡ Some t → t ≡ 1
found_one value n t (entry.Got number tuples values) one is =
    let only = subst (λ m. tuple_with value n (entry.Got number m values) ≡ Some t) one is in
    one_number (n == number) (list_any (same_numbers value) values) t (sym (only_tuple value n number values) ∙ only)
found_one value n t e one is = absurd (cc)

-- an entry that has the value has it in tuple 1
here_one : (value : List ℕ) (n : ℕ) (e : Entry) → HasOne e → has_value (e ∷ []) n value ≡ true
    → tuple_with value n e ≡ Some 1
here_one value n (entry.Got number tuples values) one has =
    let parts : ((n == number) && list_any (same_numbers value) values) ≡ true =
    or_none ((n == number) && list_any (same_numbers value) values) has in
    let same : (n == number) ≡ true = first_so (n == number) (list_any (same_numbers value) values) parts in
    let there : list_any (same_numbers value) values ≡ true =
    second_so (n == number) (list_any (same_numbers value) values) parts in
    subst (λ m. tuple_with value n (entry.Got number m values) ≡ Some 1) (sym one)
    (only_tuple value n number values ∙ (rw (same, there) refl))
  where
    or_none : (b : Bool) → (b || false) ≡ true → b ≡ true
    or_none true e = refl
    or_none false e = e
here_one value n e one has = absurd (cc)

-- the first entry that has the value
has_at : (n : ℕ) (value : List ℕ) (es : List Entry) → has_value es n value ≡ true
    → (k : ℕ) × (e : Entry) × (slice_get es k ≡ Some e) × (has_value (e ∷ []) n value ≡ true)
has_at n value [] has = absurd (cc)
has_at n value (entry.Got number tuples values ∷ es) has =
    by ((n == number) && list_any (same_numbers value) values) refl has (has_at n value es)
  where
    by : (b : Bool) → ((n == number) && list_any (same_numbers value) values) ≡ b → (b || has_value es n value) ≡ true
        → (has_value es n value ≡ true → (k : ℕ) × (e : Entry) × (slice_get es k ≡ Some e)
        × (has_value (e ∷ []) n value ≡ true))
        → (k : ℕ) × (e : Entry) × (slice_get (entry.Got number tuples values ∷ es) k ≡ Some e)
        × (has_value (e ∷ []) n value ≡ true)
    by true here all later = (0, entry.Got number tuples values, refl, (rw here refl))
    by false other all later = let r = later all in (suc r.0, r.1, r.2, r.3)
has_at n value (e ∷ es) has = let r = has_at n value es has in (suc r.0, r.1, r.2, r.3)

-- ---- origins

module _ (entries : List Entry) (one : HaveOne entries) where
  number_one : (v : ℕ) (o : Origin) → IsOrigin v entries o → o.tuple ≡ 1
  number_one v o origin = by (v == 1) refl
    where
      by : (b : Bool) → (v == 1) ≡ b → o.tuple ≡ 1
      by true e = origin.one (eqb-true v 1 e)
      by false e =
          let found = origin.tuple (λ same. true≢false (sym (ap (λ n. n == 1) same) ∙ e)) in
          let place = place_of entries found.0 found.1 in
          found_one origin.value o.number o.tuple found.0 (one place.0 found.0 place.1) found.2

  pub origin_in : (v w : ℕ) (o : Origin) → IsOrigin v entries o → IsOrigin w entries o
  origin_in v w o origin =
      let is = number_one v o origin in
      let there = has_at o.number origin.value entries origin.there in
      let here = here_one origin.value o.number there.1 (one there.0 there.1 there.2) there.3 in
      record {
        value = origin.value;
        named = origin.named;
        there = origin.there;
        first = origin.first;
        one = λ same. is;
        tuple = λ other. (there.1, member_at entries there.0 there.1 there.2, here ∙ ap Some (sym is));
      }

  pub origins_in : (v w : ℕ) (calls : List Call) (from : List Origin) → AreOrigins v entries calls from
      → AreOrigins w entries calls from
  origins_in v w calls from origins = record {
    each = origins.each;
    ascend = origins.ascend;
    origins = λ o within. origin_in v w o (origins.origins o within);
  }
