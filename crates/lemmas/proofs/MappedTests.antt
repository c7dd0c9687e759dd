-- Tables of names over tables of keys.
use Rattle.std.proofs.Common.{◌≡◌, ℕ, suc, ◌+◌, Bool, true, false, not, cond, ◌||◌, nat_lt, List, [], ◌∷◌, ◌++◌, map, length, refl, ap, ◌∙◌, Some, None, position}
use Rattle.std.specs.List.{list_any, position_or_len}
use Rattle.std.specs.Str.{bytes_eq}
use Rattle.std.proofs.lemmas.List.{map_push}

pub any_mapped : {A B : Type 0} (f : A → B) (p : B → Bool) (xs : List A)
    → list_any (λ x. p (f x)) xs ≡ list_any p (map f xs)
any_mapped f p [] = refl
any_mapped f p (x ∷ xs) = ap (λ b. p (f x) || b) (any_mapped f p xs)

pub prefix_mapped : {A B : Type 0} (f : A → B) (p : B → Bool) (xs : List A)
    → position_or_len (λ x. p (f x)) xs ≡ position_or_len p (map f xs)
prefix_mapped f p [] = refl
prefix_mapped f p (x ∷ xs) = ap (λ n. cond (not (p (f x))) (1 + n) 0) (prefix_mapped f p xs)

length_mapped : {A B : Type 0} (f : A → B) (xs : List A) → length xs ≡ length (map f xs)
length_mapped f [] = refl
length_mapped f (x ∷ xs) = ap (λ n. suc n) (length_mapped f xs)

pub position_mapped : {A B : Type 0} (f : A → B) (p : B → Bool) (xs : List A)
    → position (λ x. p (f x)) xs ≡ position p (map f xs)
position_mapped f p xs = λ i. cond (nat_lt (prefix_mapped f p xs i) (length_mapped f xs i)) (Some (prefix_mapped f p xs i)) None

module _ {A : Type 0} (f : A → List ℕ) (old : List A) (key : A) (names : List (List ℕ)) (name : List ℕ)
    (same : map f old ≡ names) (is : f key ≡ name) where
  pub key_there : list_any (λ k. bytes_eq (f key) (f k)) old ≡ list_any (bytes_eq name) names
  key_there = any_mapped f (bytes_eq (f key)) old ∙ (λ i. list_any (bytes_eq (is i)) (same i))

  -- a key is put behind the others as its name is
  pub key_added : (new : List A)
      → new ≡ cond (list_any (λ k. bytes_eq (f key) (f k)) old) old (old ++ key ∷ [])
      → map f new ≡ cond (list_any (bytes_eq name) names) names (names ++ name ∷ [])
  key_added new grown =
      ap (map f) (grown ∙ ap (λ b. cond b old (old ++ key ∷ [])) key_there)
      ∙ either (list_any (bytes_eq name) names)
    where
      either : (b : Bool) → map f (cond b old (old ++ key ∷ [])) ≡ cond b names (names ++ name ∷ [])
      either true = same
      either false = map_push f old key ∙ (λ i. same i ++ is i ∷ [])
