-- What lists one behind another say of a look-up.
use Rattle.std.proofs.Common.{◌≡◌, ℕ, ◌+◌, ◌-◌, ◌<◌, min, map, filter, length, slice_get, List, [], ◌∷◌, ◌++◌, refl, sym, ap, ◌∙◌, Some, arith, zero, suc, length-append, drop, get_or}
use Rattle.std.proofs.lemmas.List.{map-append, drop_more}
use Rattle.std.proofs.lemmas.List.Elements.{filter-append, filter_map-append}
use Rattle.task_model.specs.Known.{least, least_from, value_of, is_value_of, object_with, objects_of, is_match, matches_of, with_fact, with_facts}
use Rattle.task_model.specs.declared.fact.Fact.{Fact}
use Rattle.task_model.specs.declared.task.Valued.{Valued}
use Rattle.fact_layer.specs.Laid.{lesser_option}

min_three : (a b c : ℕ) → min (min a b) c ≡ min a (min b c)
min_three a b c = grind arith

least_from-min : (m n : ℕ) (ns : List ℕ) → least_from (min m n) ns ≡ min m (least_from n ns)
least_from-min m n [] = refl
least_from-min m n (k ∷ ks) = ap (λ x. least_from x ks) (min_three m n k) ∙ least_from-min m (min n k) ks

least_from-append : (m : ℕ) (xs ys : List ℕ)
    → least_from m (xs ++ ys) ≡ least_from (least_from m xs) ys
least_from-append m [] ys = refl
least_from-append m (x ∷ xs) ys = least_from-append (min m x) xs ys

least-append : (xs ys : List ℕ) → lesser_option (least xs) (least ys) ≡ least (xs ++ ys)
least-append [] ys = refl
least-append (x ∷ xs) [] = ap Some (sym (least_from-append x xs []))
least-append (x ∷ xs) (y ∷ ys) =
    ap Some (sym (least_from-min (least_from x xs) y ys) ∙ sym (least_from-append x xs (y ∷ ys)))

pub value-append : (func : ℕ) (args : List ℕ) (xs ys : List Valued)
    → lesser_option (value_of xs func args) (value_of ys func args) ≡ value_of (xs ++ ys) func args
value-append func args xs ys =
    least-append (map (λ (v : Valued). v.value) (filter (is_value_of func args) xs))
    (map (λ (v : Valued). v.value) (filter (is_value_of func args) ys))
    ∙ ap least (sym (map-append (λ (v : Valued). v.value) (filter (is_value_of func args) xs) (filter (is_value_of func args) ys)))
    ∙ ap (λ vs. least (map (λ (v : Valued). v.value) vs)) (sym (filter-append (is_value_of func args) xs ys))

pub get_before : {A : Type 0} (xs ys : List A) (i : ℕ) → i < length xs
    → slice_get xs i ≡ slice_get (xs ++ ys) i
get_before [] ys i lt = absurd (omega arith)
get_before (x ∷ xs) ys zero lt = refl
get_before (x ∷ xs) ys (suc i) lt = let less : i < length xs = omega arith in get_before xs ys i less

pub get_after : {A : Type 0} (xs ys : List A) (i : ℕ) → (i < length xs → ⊥)
    → slice_get ys (i - length xs) ≡ slice_get (xs ++ ys) i
get_after [] ys i past = ap (slice_get ys) (omega arith)
get_after (x ∷ xs) ys zero past = absurd (past (omega arith))
get_after (x ∷ xs) ys (suc i) past =
    let later : i < length xs → ⊥ = omega arith in
    let e : suc i - length (x ∷ xs) ≡ i - length xs = omega arith in rw e (get_after xs ys i later)

pub objects-append : (sort : ℕ) (xs ys : List Fact)
    → objects_of xs sort ++ objects_of ys sort ≡ objects_of (xs ++ ys) sort
objects-append sort xs ys = sym (filter_map-append (object_with sort) xs ys)

pub matches-append : (pred place object : ℕ) (xs ys : List Fact)
    → matches_of xs pred place object ++ matches_of ys pred place object ≡ matches_of (xs ++ ys) pred place object
matches-append pred place object xs ys = sym (filter-append (is_match pred place object) xs ys)

-- how many two lists have together
pub counted : {A : Type 0} (xs ys zs : List A) (n m : ℕ) → n ≡ length xs → m ≡ length ys → xs ++ ys ≡ zs
    → n + m ≡ length zs
counted xs ys zs n m first second is = omega (arith, length-append xs ys, ap length is)

-- one fact more of those that are put behind others
pub facts_more : (facts : List Fact) (i : ℕ) (fact : Fact) (old new : List Fact) → i < length facts
    → fact ≡ get_or facts i fact → new ≡ with_fact old fact
    → with_facts new (drop (i + 1) facts) ≡ with_facts old (drop i facts)
facts_more facts i fact old new lt is grown =
    ap (λ fs. with_facts fs (drop (i + 1) facts)) grown
    ∙ ap (with_facts old) (sym (drop_more facts i fact lt ∙ ap (λ f. f ∷ drop (i + 1) facts) (sym is)))
