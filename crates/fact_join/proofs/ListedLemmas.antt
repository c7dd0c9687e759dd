-- Facts that a list of objects tells.
use Rattle.std.proofs.Common.{◌≡◌, ℕ, ◌<◌, ◌≤◌, true, List, [], ◌∷◌, length, sym, ap, subst, ◌∙◌, arith, get_or, Contains}
use Rattle.task_model.specs.Known.{Known, is_fact, type_fact, objects_of}
use Rattle.task_model.specs.declared.fact.Fact.{Fact}
use Rattle.task_model.specs.declared.fact.Kind.TheVariants.{Sort}
use Rattle.fact_join.proofs.FactLemmas.{has_object}

-- an object of the list has the type
pub listed_fact : (known : Known) (sort object : ℕ) (fact : Fact) (args objects : List ℕ)
    → 1 ≤ length args → length args < 2 → object ≡ get_or args 0 object → args ≡ fact.args → fact.kind ≡ Sort → sort ≡ fact.name
    → objects ≡ objects_of known.facts sort → Contains objects object → is_fact known.facts fact ≡ true
listed_fact known sort object fact [] objects many few is args kind name are m = absurd (omega (arith, many))
listed_fact known sort object fact (x ∷ []) objects many few is args kind name are m =
    let named = sym name in
    let one : fact.args ≡ object ∷ [] = sym args ∙ (λ k. sym is k ∷ []) in
    let same : fact ≡ type_fact sort object = λ i. record { kind = kind i; name = named i; args = one i } in
    ap (is_fact known.facts) same ∙ (has_object known sort object).1 (subst (λ xs. Contains xs object) are m)
listed_fact known sort object fact (x ∷ y ∷ ys) objects many few is args kind name are m = absurd (omega (arith, few))
