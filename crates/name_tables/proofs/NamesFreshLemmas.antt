-- Names that stand once each, and tables that are made of them.
use Rattle.std.proofs.Common.{◌≡◌, ℕ, true, false, cond, List, [], ◌∷◌, ◌++◌, length, refl, sym, ap, subst, ◌∙◌, Some, slice_get, append_assoc, arith}
use Rattle.std.specs.Str.{bytes_eq}
use Rattle.std.proofs.lemmas.Bool.{false_from_ne_true}
use Rattle.std.proofs.lemmas.Slice.Eq.{bytes_eq-Decides}
use Rattle.std.proofs.lemmas.Option.{slice_get_within}
use Rattle.lemmas.proofs.Members.{get_append}
use Rattle.lemmas.proofs.ListTests.{any_found}
use Rattle.lemmas.specs.Lists.{AreDistinct}
use Rattle.name_tables.specs.Names.{Signed, has_name, with_table_name, with_signature}

-- none of the names stands among those that were seen, and none twice
abbrev pub AreFresh : List (List ℕ) → List (List ℕ) → Type 0
AreFresh seen [] = Unit {0}
AreFresh seen (n ∷ ns) = (has_name n seen ≡ false) × AreFresh (seen ++ n ∷ []) ns

-- ---- by places

pub get_middle : {A : Type 0} (xs : List A) (x : A) (ys : List A)
    → slice_get (xs ++ x ∷ ys) (length xs) ≡ Some x
get_middle [] x ys = refl
get_middle (y ∷ xs) x ys = get_middle xs x ys

-- ---- distinct names are fresh

pub fresh_from : (seen ns : List (List ℕ)) → AreDistinct (seen ++ ns) → AreFresh seen ns
fresh_from seen [] d = tt
fresh_from seen (n ∷ ns) d =
    (false_from_ne_true (has_name n seen) clash, fresh_from (seen ++ n ∷ []) ns (subst AreDistinct (sym (append_assoc seen (n ∷ []) ns)) d))
  where
    clash : has_name n seen ≡ true → ⊥
    clash there =
        let found = any_found (bytes_eq n) seen there in
        let same : n ≡ found.1 = (bytes_eq-Decides n found.1).0 found.3 in
        let inside = slice_get_within seen found.0 found.1 found.2 in
        let twice : found.0 ≡ length seen =
        d found.0 (length seen) n (get_append seen (n ∷ ns) found.0 n (found.2 ∙ ap Some (sym same))) (get_middle seen n ns) in
        omega (arith, twice, inside)

-- a table of fresh names has all of them, in their order
pub name_new : (names : List (List ℕ)) (n : List ℕ) → has_name n names ≡ false
    → with_table_name names n ≡ names ++ n ∷ []
name_new names n e = ap (λ b. cond b names (names ++ n ∷ [])) e

pub signature_new : (s : Signed) (n : List ℕ) (a : ℕ) → has_name n s.names ≡ false
    → with_signature s n a ≡ record { names = s.names ++ n ∷ []; arities = s.arities ++ a ∷ [] }
signature_new s n a e =
    ap (λ b. cond b s (record { names = s.names ++ n ∷ []; arities = s.arities ++ a ∷ [] })) e
