-- The least of the values of a term, one value after another.
use Rattle.std.proofs.Common.{◌≡◌, ℕ, ◌+◌, ◌<◌, ◌≤◌, true, false, cond, ◌==◌, ◌⊎◌, inl, inr, min, map, filter, length, take, slice_get, List, [], ◌∷◌, ◌++◌, refl, sym, ap, subst, ◌∙◌, Some, arith, eqb-true, length-append}
use Rattle.std.proofs.lemmas.List.{take-append-le}
use Rattle.std.proofs.lemmas.Option.{slice_get_within}
use Rattle.std.specs.Cmp.{first_so, second_so}
use Rattle.std.specs.List.{list_any}
use Rattle.indexmap.specs.IndexMap.{IndexMap}
use Rattle.task_model.proofs.KnownLemmas.{numbers_decided}
use Rattle.task_model.specs.Known.{least, least_from, value_of, is_value_of, same_numbers, same_value, with_value}
use Rattle.task_model.specs.declared.task.Valued.{Valued}
use Rattle.fact_store.specs.Least.{Term, HasLeast, lesser_of, least_in, same_term}
use Rattle.lemmas.proofs.Members.{next_taken}

least_from-push : (m : ℕ) (ks : List ℕ) (n : ℕ)
    → least_from m (ks ++ n ∷ []) ≡ min (least_from m ks) n
least_from-push m [] n = refl
least_from-push m (k ∷ ks) n = least_from-push (min m k) ks n

least-push : (ks : List ℕ) (n : ℕ) → least (ks ++ n ∷ []) ≡ Some (lesser_of (least ks) n)
least-push [] n = refl
least-push (k ∷ ks) n = ap Some (least_from-push k ks n)

abbrev given : ℕ → List ℕ → List Valued → List ℕ
given func args values = map (λ (v : Valued). v.value) (filter (is_value_of func args) values)

given-hit : (func : ℕ) (args : List ℕ) (values : List Valued) (v : Valued)
    → is_value_of func args v ≡ true
    → given func args (values ++ v ∷ []) ≡ given func args values ++ v.value ∷ []
given-hit func args [] v e = rw e
given-hit func args (w ∷ ws) v e =
    elim (is_value_of func args w) as (λ b.
    map (λ (v : Valued). v.value)
    (cond b (w ∷ filter (is_value_of func args) (ws ++ v ∷ [])) (filter (is_value_of func args) (ws ++ v ∷ [])))
    ≡ map (λ (v : Valued). v.value) (cond b (w ∷ filter (is_value_of func args) ws) (filter (is_value_of func args) ws))
    ++ v.value ∷ []) [
      | true ↦ ap (λ ks. w.value ∷ ks) (given-hit func args ws v e)
      | false ↦ given-hit func args ws v e
    ]

given-miss : (func : ℕ) (args : List ℕ) (values : List Valued) (v : Valued)
    → is_value_of func args v ≡ false → given func args (values ++ v ∷ []) ≡ given func args values
given-miss func args [] v e = rw e
given-miss func args (w ∷ ws) v e =
    elim (is_value_of func args w) as (λ b.
    map (λ (v : Valued). v.value)
    (cond b (w ∷ filter (is_value_of func args) (ws ++ v ∷ [])) (filter (is_value_of func args) (ws ++ v ∷ [])))
    ≡ map (λ (v : Valued). v.value) (cond b (w ∷ filter (is_value_of func args) ws) (filter (is_value_of func args) ws))) [
      | true ↦ ap (λ ks. w.value ∷ ks) (given-miss func args ws v e)
      | false ↦ given-miss func args ws v e
    ]

pub value_hit : (func : ℕ) (args : List ℕ) (values : List Valued) (v : Valued)
    → is_value_of func args v ≡ true
    → value_of (values ++ v ∷ []) func args ≡ Some (lesser_of (value_of values func args) v.value)
value_hit func args values v e =
    ap least (given-hit func args values v e) ∙ least-push (given func args values) v.value

pub value_miss : (func : ℕ) (args : List ℕ) (values : List Valued) (v : Valued)
    → is_value_of func args v ≡ false
    → value_of (values ++ v ∷ []) func args ≡ value_of values func args
value_miss func args values v e = ap least (given-miss func args values v e)

-- ---- the table of the least values

terms_same : (a b : Term) → same_term a b ≡ true → a ≡ b
terms_same a b e =
    λ i. (
      eqb-true a.0 b.0 (first_so (a.0 == b.0) (same_numbers a.1 b.1) e) i,
      (numbers_decided a.1 b.1).0 (second_so (a.0 == b.0) (same_numbers a.1 b.1) e) i,
    )

pub one_more : {A : Type 0} (xs : List A) (i : ℕ) (x : A) → slice_get xs i ≡ Some x
    → i + 1 ≤ length xs
one_more xs i x at = let lt : i < length xs = slice_get_within xs i x at in omega arith

module _ {S : Type 0} (values : List Valued) where
  -- one value more is covered
  pub least_more : (old new : IndexMap Term ℕ S) (done : ℕ) (v : Valued) → HasLeast values old done
      → slice_get values done ≡ Some v
      → ((q : Term) → least_in new q ≡ cond (same_term (v.func, v.args) q) (Some (lesser_of (least_in old q) v.value)) (least_in old q))
      → HasLeast values new (done + 1)
  least_more old new done v was at is = record {
    within = one_more values done v at;
    least = λ q. is q
        ∙ elim (same_term (v.func, v.args) q) as
        (λ b. same_term (v.func, v.args) q ≡ b
        → cond b (Some (lesser_of (least_in old q) v.value)) (least_in old q) ≡ value_of (take done values ++ v ∷ []) q.0 q.1) [
          | true ↦ λ e. ap (λ o. Some (lesser_of o v.value)) (was.least q) ∙ sym (value_hit q.0 q.1 (take done values) v e)
          | false ↦ λ e. was.least q ∙ sym (value_miss q.0 q.1 (take done values) v e)
        ] refl
        ∙ ap (λ vs. value_of vs q.0 q.1) (sym (next_taken values done v at));
  }

  -- the table is right about the values that it covers where others come
  least_pushed : (table : IndexMap Term ℕ S) (done : ℕ) (more : List Valued)
      → HasLeast values table done → HasLeast (values ++ more) table done
  least_pushed table done more was = record {
    within = let w = was.within in omega (arith, length-append values more);
    least = λ q. was.least q ∙ ap (λ vs. value_of vs q.0 q.1) (sym (take-append-le done values more was.within));
  }

  pub least_kept : (table : IndexMap Term ℕ S) (done : ℕ) (v : Valued) (new : List Valued)
      → (new ≡ with_value values v) ⊎ (new ≡ values) → HasLeast values table done
      → HasLeast new table done
  least_kept table done v new cases was =
      elim cases [
        | inl e ↦ subst (λ vs. HasLeast vs table done) (sym e)
            (elim (list_any (same_value v) values) as
            (λ b. HasLeast (cond b values (values ++ v ∷ [])) table done) [ true ↦ was | false ↦ least_pushed table done (v ∷ []) was ])
        | inr e ↦ subst (λ vs. HasLeast vs table done) (sym e) was
      ]
