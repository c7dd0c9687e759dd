-- Facts, one after another, behind others.
use Rattle.std.proofs.Common.{◌≡◌, ℕ, ◌+◌, ◌<◌, arith, List, [], ◌∷◌, ◌++◌, map, take, drop, length, get_or, sym, ap, ◌∙◌, append_assoc}
use Rattle.std.proofs.lemmas.List.{map-append, map_push, take_more, drop_more}
use Rattle.task_model.specs.Initial.{type_facts}
use Rattle.task_model.specs.Streams.{output_types}
use Rattle.task_model.specs.declared.domain.Domain.{Domain}
use Rattle.task_model.specs.declared.fact.Fact.{Fact}

pub mapped_more : {A B : Type 0} (f : A → B) (xs : List A) (i : ℕ) (x d : A) (old now : List B) (y : B) → i < length xs
    → x ≡ get_or xs i d → y ≡ f x → now ≡ old ++ map f (take i xs)
    → now ++ y ∷ [] ≡ old ++ map f (take (i + 1) xs)
mapped_more f xs i x d old now y lt is made passed =
    (λ k. passed k ++ made k ∷ []) ∙ append_assoc old (map f (take i xs)) (f x ∷ [])
    ∙ ap (λ ys. old ++ ys) (sym (map_push f (take i xs) x))
    ∙ ap (λ ys. old ++ map f ys) (sym (take_more xs i d lt ∙ ap (λ z. take i xs ++ z ∷ []) (sym is)))

-- three lists, one behind another
pub three_mapped : {A B : Type 0} (f : A → B) (xs ys zs : List A) (old one two new : List B) → one ≡ old ++ map f xs
    → two ≡ one ++ map f ys → new ≡ two ++ map f zs → new ≡ old ++ map f (xs ++ (ys ++ zs))
three_mapped f xs ys zs old one two new first second third =
    third ∙ ap (λ l. l ++ map f zs) (second ∙ ap (λ l. l ++ map f ys) first)
    ∙ append_assoc (old ++ map f xs) (map f ys) (map f zs)
    ∙ append_assoc old (map f xs) (map f ys ++ map f zs)
    ∙ ap (λ l. old ++ (map f xs ++ l)) (sym (map-append f ys zs))
    ∙ ap (λ l. old ++ l) (sym (map-append f xs (ys ++ zs)))

pub outputs_more : (domain : Domain) (sorts objects : List ℕ) (i object : ℕ) (old new all : List Fact)
    → i < length sorts → length objects ≡ length sorts → object ≡ get_or objects i object
    → new ≡ old ++ type_facts domain (get_or sorts i 0) object
    → old ++ output_types domain (drop i sorts) (drop i objects) ≡ all
    → new ++ output_types domain (drop (i + 1) sorts) (drop (i + 1) objects) ≡ all
outputs_more domain sorts objects i object old new all lt long o grown whole =
    let below : i < length objects = omega arith in
    let first : drop i sorts ≡ get_or sorts i 0 ∷ drop (i + 1) sorts = drop_more sorts i 0 lt in
    let second : drop i objects ≡ object ∷ drop (i + 1) objects =
    drop_more objects i object below ∙ ap (λ x. x ∷ drop (i + 1) objects) (sym o) in
    ap (λ fs. fs ++ output_types domain (drop (i + 1) sorts) (drop (i + 1) objects)) grown
    ∙ append_assoc old (type_facts domain (get_or sorts i 0) object) (output_types domain (drop (i + 1) sorts) (drop (i + 1) objects))
    ∙ (λ j. old ++ output_types domain (sym first j) (sym second j)) ∙ whole
