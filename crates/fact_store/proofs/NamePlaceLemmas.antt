-- Names and their places.
use Rattle.std.proofs.Common.{◌≡◌, ℕ, ◌⊎◌, inl, inr, true, false, cond, List, [], ◌∷◌, ◌++◌, refl, sym, ap, ◌∙◌, subst, Some, slice_get, Contains, Result, Ok, Err, IfOk, OnErr}
use Rattle.std.specs.List.{list_any}
use Rattle.lemmas.proofs.Bools.{not_both}
use Rattle.task_model.proofs.KnownLemmas.{numbers_decided}
use Rattle.task_model.specs.Known.{Known, IsCoherent, same_numbers, with_name}
use Rattle.fact_store.proofs.StoreLemmas.{name_found, name_pushed}

module _ (names : List (List ℕ)) (name : List ℕ) where
  -- what is equal to the name is the name
  pub found_name : (place : ℕ) (key : List ℕ) → slice_get names place ≡ Some key
      → same_numbers name key ≡ true → slice_get names place ≡ Some name
  found_name place key at equal = at ∙ ap Some (sym ((numbers_decided name key).0 equal))

  -- no object has the name where no key is found
  pub absent_name : list_any (same_numbers name) names ≡ false → ¬ (Contains names name)
  absent_name absent m = not_both _ (name_found names name m) absent

-- what a call leaves: the names with this one, or as they were
pub put_or_not : {T E : Type 0} (r : Result T E) (old new : List (List ℕ)) (name : List ℕ)
    → IfOk r (λ _. new ≡ with_name old name) → OnErr r (new ≡ old)
    → (new ≡ with_name old name) ⊎ (new ≡ old)
put_or_not (Ok x) old new name ok err = inl ok
put_or_not (Err e) old new name ok err = inr err

pub name_put : (known : Known) (new : List (List ℕ)) (name : List ℕ)
    → (new ≡ with_name known.names name) ⊎ (new ≡ known.names) → IsCoherent known
    → IsCoherent (record known { names = new })
name_put known new name cases c =
    elim cases [
      | inl is ↦ subst (λ ns. IsCoherent (record known { names = ns })) (sym is)
          (elim (list_any (same_numbers name) known.names) as
          (λ b. list_any (same_numbers name) known.names ≡ b
          → IsCoherent (record known { names = cond b known.names (known.names ++ name ∷ []) })) [
            | true ↦ λ _. c
            | false ↦ λ absent. name_pushed known name (absent_name known.names name absent) c
          ] refl)
      | inr is ↦ subst (λ ns. IsCoherent (record known { names = ns })) (sym is) c
    ]
