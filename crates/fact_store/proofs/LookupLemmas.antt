-- The objects of a type by the facts that say so.
use Rattle.std.proofs.Common.{◌≡◌, ℕ, true, false, cond, ◌&&◌, ◌==◌, List, [], ◌∷◌, map, length, slice_get, refl, sym, ap, ◌∙◌, Option, None, Some, option_map}
use Rattle.std.proofs.lemmas.List.{length-map}
use Rattle.std.proofs.lemmas.Option.{slice_get-map}
use Rattle.std.specs.List.{cons_option}
use Rattle.task_model.specs.Known.{objects_of}
use Rattle.task_model.specs.declared.fact.Fact.{Fact}
use Rattle.task_model.specs.declared.fact.Kind.{Kind}
use Rattle.task_model.specs.declared.fact.Kind.TheVariants.{Predicate, Sort}
use Rattle.fact_store.specs.Tables.{facts_with}
use Rattle.fact_store.specs.declared.table.Group.TheVariants.{Objects}

abbrev first_of : Fact → Option ℕ
first_of fact = slice_get fact.args 0

module _ (sort : ℕ) where
  -- each of these facts says of its one argument that it has the type
  objects_are : (facts : List Fact)
      → map first_of (facts_with Objects (sort, 0) facts) ≡ map Some (objects_of facts sort)
  objects_are [] = refl
  objects_are (f ∷ fs) = step f.kind f.name f.args (objects_are fs)
    where
      step : (k : Kind) (n : ℕ) (args : List ℕ)
          → map first_of (facts_with Objects (sort, 0) fs) ≡ map Some (objects_of fs sort)
          → map first_of (facts_with Objects (sort, 0) (record { kind = k; name = n; args = args } ∷ fs))
          ≡ map Some (objects_of (record { kind = k; name = n; args = args } ∷ fs) sort)
      step Predicate n args rest = rest
      step Sort n [] rest = rest
      step Sort n (o ∷ []) rest =
          elim (n == sort) as (λ b.
          map first_of (cond (b && true) (record { kind = Sort; name = n; args = o ∷ [] } ∷ facts_with Objects (sort, 0) fs)
          (facts_with Objects (sort, 0) fs))
          ≡ map Some (cons_option (cond b (Some o) None) (objects_of fs sort))) [
            | true ↦ ap (λ xs. Some o ∷ xs) rest
            | false ↦ rest
          ]
      step Sort n (o ∷ p ∷ more) rest = rest

  pub objects_counted : (facts : List Fact)
      → length (facts_with Objects (sort, 0) facts) ≡ length (objects_of facts sort)
  objects_counted facts =
      sym (length-map (facts_with Objects (sort, 0) facts) first_of) ∙ ap length (objects_are facts)
      ∙ length-map (objects_of facts sort) Some

  taken : (facts : List Fact) (i : ℕ)
      → option_map first_of (slice_get (facts_with Objects (sort, 0) facts) i) ≡ option_map Some (slice_get (objects_of facts sort) i)
  taken facts i =
      sym (slice_get-map first_of (facts_with Objects (sort, 0) facts) i)
      ∙ ap (λ xs. slice_get xs i) (objects_are facts)
      ∙ slice_get-map Some (objects_of facts sort) i

  pub object_at : (facts : List Fact) (i : ℕ) (fact : Fact)
      → slice_get (facts_with Objects (sort, 0) facts) i ≡ Some fact
      → slice_get fact.args 0 ≡ slice_get (objects_of facts sort) i
  object_at facts i fact at =
      same (slice_get (objects_of facts sort) i) (sym (ap (option_map first_of) at) ∙ taken facts i)
    where
      same : (o : Option ℕ) → Some (first_of fact) ≡ option_map Some o → first_of fact ≡ o
      same None e = absurd (cc)
      same (Some x) e = cc

  pub no_object_at : (facts : List Fact) (i : ℕ)
      → slice_get (facts_with Objects (sort, 0) facts) i ≡ None
      → None ≡ slice_get (objects_of facts sort) i
  no_object_at facts i at =
      same (slice_get (objects_of facts sort) i) (sym (ap (option_map first_of) at) ∙ taken facts i)
    where
      same : (o : Option ℕ) → None ≡ option_map (λ (n : ℕ). Some n) o → None ≡ o
      same None e = refl
      same (Some x) e = absurd (cc)
