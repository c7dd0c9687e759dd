-- Costs: the values of functions are small, and sums can be taken from the front.
use Rattle.std.proofs.Common.{◌≡◌, ℕ, zero, suc, ◌<◌, ◌≤◌, Bool, true, false, List, [], ◌∷◌, map, filter, length, drop, get_or, min, sym, ap, arith, IfSome, cond}
use Rattle.std.specs.List.{All}
use Rattle.std.proofs.lemmas.List.Elements.{All-head, All-tail}
use Rattle.task_model.specs.Known.{Known, IsCoherent, least, least_from, value_of, is_value_of}
use Rattle.task_model.specs.Steps.{sum_of, term_cost, terms_cost}
use Rattle.task_model.specs.declared.domain.CostTerm.{CostTerm}
use Rattle.task_model.specs.declared.task.Valued.{Valued}

pub terms_cost-drop : (known : Known) (slots : List ℕ) (ts : List CostTerm) (i : ℕ) (t : CostTerm)
    → i < length ts → t ≡ get_or ts i t
    → terms_cost known slots (drop i ts) ≡ sum_of (term_cost known slots t) (terms_cost known slots (drop (suc i) ts))
terms_cost-drop known slots [] i t h e = absurd (omega arith)
terms_cost-drop known slots (x ∷ xs) zero t h e =
    ap (λ y. sum_of (term_cost known slots y) (terms_cost known slots xs)) (sym e)
terms_cost-drop known slots (x ∷ xs) (suc i) t h e =
    terms_cost-drop known slots xs i t (omega arith) e

-- ---- values are small

least_from-small : (k m : ℕ) (ns : List ℕ) → m ≤ k → least_from m ns ≤ k
least_from-small k m [] h = h
least_from-small k m (n ∷ ns) h = least_from-small k (min m n) ns (omega arith)

least_value : (p : Valued → Bool) (vs : List Valued) → All (λ (v : Valued). v.value ≤ 1000000) vs
    → IfSome (least (map (λ (v : Valued). v.value) (filter p vs))) (λ n. n ≤ 1000000)
least_value p [] all = tt
least_value p (v ∷ vs) all =
    elim (p v) as (λ b. IfSome (least (map (λ (w : Valued). w.value) (cond b (v ∷ filter p vs) (filter p vs)))) (λ n. n ≤ 1000000)) [
      | true ↦ least_from-small 1000000 v.value
          (map (λ (w : Valued). w.value) (filter p vs)) (All-head (λ (w : Valued). w.value ≤ 1000000) v vs all)
      | false ↦ least_value p vs (All-tail (λ (w : Valued). w.value ≤ 1000000) v vs all)
    ]

pub value_small : (known : Known) → IsCoherent known → (func : ℕ) (args : List ℕ)
    → IfSome (value_of known.values func args) (λ n. n ≤ 1000000)
value_small known coherent func args =
    least_value (is_value_of func args) known.values coherent.costs
