-- Lists side by side, gone through from the front.
use Rattle.std.proofs.Common.{◌≡◌, ℕ, suc, ◌+◌, ◌<◌, List, [], ◌∷◌, ◌++◌, length, drop, refl, sym, ap, ◌∙◌, inl, inr, Some, None, slice_get, append_assoc, drop-cons, arith}
use Rattle.std.proofs.lemmas.List.{drop_all, append-nil}
use Rattle.std.proofs.lemmas.Option.{slice_get_within, slice_get_cases, get_or_from_slice_get, unwrap_or-slice_get}
use Rattle.task_model.specs.declared.domain.Declared as declared
use Rattle.task_model.specs.declared.domain.Signature.{Signature}
use Rattle.name_tables.specs.Declarations.{declared_list, signature_list}
use Rattle.task_model.specs.Streams.{name_at}

drop_step : {A : Type 0} (xs : List A) (i : ℕ) (x : A) → slice_get xs i ≡ Some x
    → drop i xs ≡ x ∷ drop (i + 1) xs
drop_step xs i x e =
    let one : i + 1 ≡ suc i = omega arith in
    drop-cons xs i x (slice_get_within xs i x e) ∙ ap (λ y. y ∷ drop (suc i) xs) (get_or_from_slice_get xs i x x e)
    ∙ ap (λ n. x ∷ drop n xs) (sym one)

pub name_step : (ns : List (List ℕ)) (i : ℕ) → i < length ns
    → drop i ns ≡ name_at ns i ∷ drop (i + 1) ns
name_step ns i lt =
    let one : i + 1 ≡ suc i = omega arith in
    drop-cons ns i [] lt ∙ ap (λ y. y ∷ drop (suc i) ns) (sym (unwrap_or-slice_get ns i [])) ∙ ap (λ n. name_at ns i ∷ drop n ns) (sym one)

past : {A : Type 0} (xs : List A) (i : ℕ) → slice_get xs i ≡ None → drop i xs ≡ []
past {A} xs i e =
    elim ((slice_get_cases xs i).1) [
      | inl c ↦ absurd (some_none c.0 (sym c.2 ∙ e))
      | inr c ↦ drop_all i xs c.0
    ]
  where
    some_none : (x : A) → Some x ≡ None → ⊥
    some_none x e = cc

declared_none : (ns : List (List ℕ)) → declared_list ns [] ≡ []
declared_none [] = refl
declared_none (n ∷ ns) = refl

signature_none : (ns : List (List ℕ)) → signature_list ns [] ≡ []
signature_none [] = refl
signature_none (n ∷ ns) = refl

module _ (ns ss : List (List ℕ)) (list : List declared.Declared)
    (i : ℕ) (so_far : declared_list ns ss ≡ list ++ declared_list (drop i ns) (drop i ss)) where
  pub declared_end : slice_get ss i ≡ None → list ≡ declared_list ns ss
  declared_end none =
      sym (so_far ∙ ap (λ xs. list ++ declared_list (drop i ns) xs) (past ss i none) ∙ ap (λ xs. list ++ xs) (declared_none (drop i ns))
      ∙ append-nil list)

  pub declared_more : (new : List declared.Declared) (name sorts : List ℕ) → i < length ns
      → slice_get ss i ≡ Some sorts → name ≡ name_at ns i
      → new ≡ list ++ record { name = name; sorts = sorts } ∷ []
      → declared_list ns ss ≡ new ++ declared_list (drop (i + 1) ns) (drop (i + 1) ss)
  declared_more new name sorts lt at is pushed =
      so_far ∙ (λ k. list ++ declared_list (name_step ns i lt k) (drop_step ss i sorts at k))
      ∙ ap (λ n. list ++ record { name = n; sorts = sorts } ∷ declared_list (drop (i + 1) ns) (drop (i + 1) ss)) (sym is)
      ∙ sym (append_assoc list (record { name = name; sorts = sorts } ∷ []) (declared_list (drop (i + 1) ns) (drop (i + 1) ss)))
      ∙ ap (λ xs. xs ++ declared_list (drop (i + 1) ns) (drop (i + 1) ss)) (sym pushed)

module _ (ns : List (List ℕ)) (as' : List ℕ) (list : List Signature)
    (i : ℕ) (so_far : signature_list ns as' ≡ list ++ signature_list (drop i ns) (drop i as')) where
  pub signature_end : slice_get as' i ≡ None → list ≡ signature_list ns as'
  signature_end none =
      sym (so_far ∙ ap (λ xs. list ++ signature_list (drop i ns) xs) (past as' i none) ∙ ap (λ xs. list ++ xs) (signature_none (drop i ns))
      ∙ append-nil list)

  pub signature_more : (new : List Signature) (name : List ℕ) (arity : ℕ) → i < length ns
      → slice_get as' i ≡ Some arity → name ≡ name_at ns i
      → new ≡ list ++ record { name = name; arity = arity } ∷ []
      → signature_list ns as' ≡ new ++ signature_list (drop (i + 1) ns) (drop (i + 1) as')
  signature_more new name arity lt at is pushed =
      so_far ∙ (λ k. list ++ signature_list (name_step ns i lt k) (drop_step as' i arity at k))
      ∙ ap (λ n. list ++ record { name = n; arity = arity } ∷ signature_list (drop (i + 1) ns) (drop (i + 1) as')) (sym is)
      ∙ sym (append_assoc list (record { name = name; arity = arity } ∷ []) (signature_list (drop (i + 1) ns) (drop (i + 1) as')))
      ∙ ap (λ xs. xs ++ signature_list (drop (i + 1) ns) (drop (i + 1) as')) (sym pushed)
