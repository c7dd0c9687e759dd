-- Tuples read from left to right.
use Rattle.std.proofs.Common.{◌≡◌, ℕ, ◌+◌, ◌*◌, ◌≤◌, Bool, true, false, ◌&&◌, ◌==◌, nat_le, List, [], ◌∷◌, length, refl, ap, ◌∙◌, arith, Option, Some, None, if◌then◌else◌, cond, suc, length-append}
use Rattle.std.proofs.Math.Nat.{suc-mul}
use Rattle.std.specs.List.{list_all, slice_split, onto_first}
use Rattle.std.proofs.lemmas.Bool.Decides.{nat_tests}
use Rattle.std.proofs.lemmas.Bool.{and_parts}
use Rattle.gen_lines.specs.Reply.{parted, parts_here, is_bar, joined_tuples, are_of_width}
use Rattle.gen_lines.specs.Told.{tuple_count}

-- these tuples, of which there is at least one
pub record Parts (tuples : List (List (List ℕ))) : Type 0 where
  pub first : List (List ℕ)
  pub rest : List (List (List ℕ))
  pub same : tuples ≡ first ∷ rest

onto_parts : (field : List ℕ) (tuples : List (List (List ℕ))) → Parts (onto_first field tuples)
onto_parts field [] = record { first = field ∷ []; rest = []; same = refl }
onto_parts field (tuple ∷ tuples) = record { first = field ∷ tuple; rest = tuples; same = refl }

by_bar : (bar : Bool) (field : List ℕ) (tuples : List (List (List ℕ)))
    → Parts (cond bar ([] ∷ tuples) (onto_first field tuples))
by_bar true field tuples = record { first = []; rest = tuples; same = refl }
by_bar false field tuples = onto_parts field tuples

pub parts_of : (bars : Bool) (given : List (List ℕ)) → Parts (parted bars given)
parts_of false given = record { first = given; rest = []; same = refl }
parts_of true [] = record { first = []; rest = []; same = refl }
parts_of true (field ∷ given) = by_bar (is_bar field) field (slice_split is_bar given)

-- a field that parts two tuples, and one that doesn't
pub parted_bar : (bars : Bool) (field : List ℕ) (given : List (List ℕ))
    → parts_here bars field ≡ true
    → parted bars (field ∷ given) ≡ [] ∷ parted bars given
parted_bar true field given e = rw e refl
parted_bar false field given e = absurd cc

pub parted_other : (bars : Bool) (field : List ℕ) (given : List (List ℕ))
    → parts_here bars field ≡ false
    → parted bars (field ∷ given) ≡ onto_first field (parted bars given)
parted_other true field given e = rw e refl
parted_other false field given e = refl

-- how many tuples there are, of which the next is number `tuples` and has had its first `begun` fields
abbrev pub count_on : ℕ → ℕ → ℕ → List (List (List ℕ)) → Option ℕ
count_on width tuples begun [] = None
count_on width tuples begun (tuple ∷ more) =
    if (begun + length tuple == width) && list_all (λ t. length t == width) more && nat_le (tuples + length more) 16
    then Some (tuples + length more) else None

count_parts : (width : ℕ) (tuples : List (List (List ℕ))) → Parts tuples
    → tuple_count width tuples ≡ count_on width 1 0 tuples
count_parts width [] p = absurd (let e = p.same in cc)
count_parts width (tuple ∷ tuples) p =
    let whole : 0 + length tuple ≡ length tuple = omega arith in
    let more : 1 + length tuples ≡ suc (length tuples) = omega arith in
    rw (whole, more) refl

pub count_all : (width : ℕ) (bars : Bool) (given : List (List ℕ))
    → tuple_count width (parted bars given) ≡ count_on width 1 0 (parted bars given)
count_all width bars given = count_parts width (parted bars given) (parts_of bars given)

none_left : (a b : Bool) (n : ℕ) → a ≡ false → (if a && b then Some n else None) ≡ None
none_left a b n e = rw e refl

none_right : (a b : Bool) (n : ℕ) → b ≡ false → (if a && b then Some n else None) ≡ None
none_right true b n e = rw e refl
none_right false b n e = refl

-- a field that parts tuples ends one that is full, where a further one may come
count_bar : (width tuples begun : ℕ) (more : List (List (List ℕ))) → Parts more → begun ≡ width
    → count_on width tuples begun ([] ∷ more) ≡ count_on width (tuples + 1) 0 more
count_bar width tuples begun [] p full = absurd (let e = p.same in cc)
count_bar width tuples begun (tuple ∷ more) p full =
    let ends : (begun + 0 == width) ≡ true = grind (arith, nat_tests) in
    let first : 0 + length tuple ≡ length tuple = omega arith in
    let next : tuples + 1 + length more ≡ tuples + suc (length more) = omega arith in
    rw (ends, first, next) refl

count_short : (width tuples begun : ℕ) (more : List (List (List ℕ))) → (begun ≡ width → ⊥)
    → count_on width tuples begun ([] ∷ more) ≡ None
count_short width tuples begun more short =
    let no : (begun + 0 == width) ≡ false = grind (arith, nat_tests) in
    rw no refl

count_full : (width tuples begun : ℕ) (more : List (List (List ℕ))) → Parts more → tuples ≡ 16
    → count_on width tuples begun ([] ∷ more) ≡ None
count_full width tuples begun [] p full = absurd (let e = p.same in cc)
count_full width tuples begun (tuple ∷ more) p full =
    let no : nat_le (tuples + suc (length more)) 16 ≡ false = grind (arith, nat_tests) in
    none_right ((begun + 0 == width) && list_all (λ t. length t == width) (tuple ∷ more))
    (nat_le (tuples + suc (length more)) 16) (tuples + suc (length more)) no

-- another field belongs to the tuple that has begun
count_other : (width tuples begun : ℕ) (field : List ℕ) (more : List (List (List ℕ))) → Parts more
    → count_on width tuples begun (onto_first field more) ≡ count_on width tuples (begun + 1) more
count_other width tuples begun field [] p = absurd (let e = p.same in cc)
count_other width tuples begun field (tuple ∷ more) p =
    let next : begun + suc (length tuple) ≡ begun + 1 + length tuple = omega arith in
    rw next refl

count_long : (width tuples begun : ℕ) (field : List ℕ) (more : List (List (List ℕ))) → begun ≡ width
    → count_on width tuples begun (onto_first field more) ≡ None
count_long width tuples begun field [] full =
    let no : (begun + 1 == width) ≡ false = grind (arith, nat_tests) in
    rw no refl
count_long width tuples begun field (tuple ∷ more) full =
    let no : (begun + suc (length tuple) == width) ≡ false = grind (arith, nat_tests) in
    rw no refl

pub count_end : (width tuples begun : ℕ) (bars : Bool) → begun ≡ width → tuples ≤ 16
    → count_on width tuples begun (parted bars []) ≡ Some tuples
count_end width tuples begun bars full few =
    let one : parted bars [] ≡ [] ∷ [] = elim bars as (λ b. parted b [] ≡ [] ∷ []) [ true ↦ refl | false ↦ refl ] in
    let ends : (begun + 0 == width) ≡ true = grind (arith, nat_tests) in
    let all : tuples + 0 ≡ tuples = omega arith in
    let fits : nat_le tuples 16 ≡ true = grind (arith, nat_tests) in
    rw (one, ends, all, fits) refl

-- a step of the count, by the field that comes first and those behind it
pub record Step (bars : Bool) (here : List (List ℕ)) (field : List ℕ) (next : List (List ℕ)) (bar : Bool) : Type 0 where
  pub first : here ≡ field ∷ next
  pub part : parts_here bars field ≡ bar

pub step_bar : (width tuples begun : ℕ) (bars : Bool) (here : List (List ℕ)) (field : List ℕ) (next : List (List ℕ))
    → Step bars here field next true → begun ≡ width
    → count_on width tuples begun (parted bars here) ≡ count_on width (tuples + 1) 0 (parted bars next)
step_bar width tuples begun bars here field next s full =
    rw (s.first, parted_bar bars field next s.part) (count_bar width tuples begun (parted bars next) (parts_of bars next) full)

pub step_short : (width tuples begun : ℕ) (bars : Bool) (here : List (List ℕ)) (field : List ℕ) (next : List (List ℕ))
    → Step bars here field next true → (begun ≡ width → ⊥) → count_on width tuples begun (parted bars here) ≡ None
step_short width tuples begun bars here field next s short =
    rw (s.first, parted_bar bars field next s.part) (count_short width tuples begun (parted bars next) short)

pub step_full : (width tuples begun : ℕ) (bars : Bool) (here : List (List ℕ)) (field : List ℕ) (next : List (List ℕ))
    → Step bars here field next true → tuples ≡ 16 → count_on width tuples begun (parted bars here) ≡ None
step_full width tuples begun bars here field next s full =
    rw (s.first, parted_bar bars field next s.part) (count_full width tuples begun (parted bars next) (parts_of bars next) full)

pub step_other : (width tuples begun : ℕ) (bars : Bool) (here : List (List ℕ)) (field : List ℕ) (next : List (List ℕ))
    → Step bars here field next false
    → count_on width tuples begun (parted bars here) ≡ count_on width tuples (begun + 1) (parted bars next)
step_other width tuples begun bars here field next s =
    rw (s.first, parted_other bars field next s.part) (count_other width tuples begun field (parted bars next) (parts_of bars next))

pub step_long : (width tuples begun : ℕ) (bars : Bool) (here : List (List ℕ)) (field : List ℕ) (next : List (List ℕ))
    → Step bars here field next false → begun ≡ width → count_on width tuples begun (parted bars here) ≡ None
step_long width tuples begun bars here field next s full =
    rw (s.first, parted_other bars field next s.part) (count_long width tuples begun field (parted bars next) full)

-- their values
pub joined_other : (field : List ℕ) (tuples : List (List (List ℕ))) → Parts tuples
    → joined_tuples (onto_first field tuples) ≡ field ∷ joined_tuples tuples
joined_other field [] p = absurd (let e = p.same in cc)
joined_other field (tuple ∷ tuples) p = refl

pub joined_length : (width : ℕ) (tuples : List (List (List ℕ)))
    → list_all (λ t. length t == width) tuples ≡ true
    → length (joined_tuples tuples) ≡ length tuples * width
joined_length width [] e = omega arith
joined_length width (tuple ∷ tuples) e =
    let both = and_parts (length tuple == width) _ e in
    let first : length tuple ≡ width = grind (arith, nat_tests, both.0) in
    let rest = joined_length width tuples both.1 in
    omega (arith, length-append tuple (joined_tuples tuples), suc-mul (length tuples) width)

counted_by : (b : Bool) (m n : ℕ) → (if b then Some m else None) ≡ Some n → (b ≡ true) × (m ≡ n)
counted_by true m n e = (refl, cc)
counted_by false m n e = absurd cc

pub record Counted (width : ℕ) (tuples : List (List (List ℕ))) (n : ℕ) : Type 0 where
  pub right : are_of_width width tuples ≡ true
  pub count : length tuples ≡ n
  pub few : n ≤ 16
  pub values : length (joined_tuples tuples) ≡ n * width

pub counted : (width : ℕ) (tuples : List (List (List ℕ))) (n : ℕ) → tuple_count width tuples ≡ Some n
    → Counted width tuples n
counted width tuples n e =
    let found = counted_by (are_of_width width tuples) (length tuples) n e in
    let both = and_parts _ (nat_le (length tuples) 16) found.0 in
    record {
      right = found.0;
      count = found.1;
      few = grind (arith, nat_tests, both.1, found.1);
      values = joined_length width tuples both.0 ∙ ap (λ k. k * width) found.1;
    }
