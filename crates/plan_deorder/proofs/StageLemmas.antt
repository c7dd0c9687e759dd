-- Stages: steps of one stage don't conflict, and a listing by stages keeps the order.
use Rattle.std.proofs.Common.{◌≡◌, ℕ, zero, suc, ◌+◌, ◌<◌, ◌≤◌, ◌==◌, Bool, true, false, cond, List, [], ◌∷◌, filter, length, refl, sym, ap, ◌∙◌, subst, arith, Contains, inl, inr, Some, None, slice_get, slice_index_or, eq-eqb}
use Rattle.std.proofs.lemmas.Bool.{cases_lt}
use Rattle.std.proofs.lemmas.Option.{same_Some, slice_get_within}
use Rattle.lemmas.proofs.Ascending.{contains_none, contains_here, contains_later, contains_cases}
use Rattle.lemmas.proofs.Distinct.{in_mapped}
use Rattle.task_model.specs.declared.task.GroundAction.{GroundAction}
use Rattle.task_model.specs.declared.task.Task.{Task}
use Rattle.plan_deorder.specs.Laws.{StagesSuffice}
use Rattle.plan_deorder.specs.Orders.{ConflictAt, IsOrder, Pair, greatest, stage_at, stages_before}

pub at_most_greatest : (ns : List ℕ) (n : ℕ) → Contains ns n → n ≤ greatest ns
at_most_greatest [] n c = absurd (contains_none n c)
at_most_greatest (m ∷ ms) n c =
    elim (contains_cases m ms n c) [
      | inl same ↦ omega (arith, same)
      | inr there ↦ let r = at_most_greatest ms n there in omega (arith, r)
    ]

pub kept_by : (pairs : List Pair) (i j : ℕ) → Contains pairs (i, j) → Contains (filter (λ (p : Pair). p.1 == j) pairs) (i, j)
kept_by [] i j c = absurd (contains_none (i, j) c)
kept_by (p ∷ pairs) i j c =
    elim (contains_cases p pairs (i, j) c) [
      | inl same ↦
          let e : (p.1 == j) ≡ true = ap (λ (q : Pair). q.1 == j) same ∙ eq-eqb j j refl in
          subst (λ b. Contains (cond b (p ∷ filter (λ (q : Pair). q.1 == j) pairs) (filter (λ (q : Pair). q.1 == j) pairs)) (i, j)) (sym e)
          (subst (λ (q : Pair). Contains (q ∷ filter (λ (r : Pair). r.1 == j) pairs) (i, j)) (sym same)
          (contains_here (i, j) (filter (λ (r : Pair). r.1 == j) pairs)))
      | inr there ↦ by (p.1 == j) (kept_by pairs i j there)
    ]
  where
    by : (b : Bool) → Contains (filter (λ (q : Pair). q.1 == j) pairs) (i, j)
        → Contains (cond b (p ∷ filter (λ (q : Pair). q.1 == j) pairs) (filter (λ (q : Pair). q.1 == j) pairs)) (i, j)
    by true rest = contains_later p (filter (λ (q : Pair). q.1 == j) pairs) (i, j) rest
    by false rest = rest

pub stage_found : (stages : List ℕ) (k : ℕ) → k < length stages → slice_get stages k ≡ Some (slice_index_or stages k 0)
stage_found [] k h = absurd (omega (arith, h))
stage_found (n ∷ ns) zero h = refl
stage_found (n ∷ ns) (suc k) h = stage_found ns k (omega (arith, h))

module _ (task : Task) (steps : List GroundAction) (pairs : List Pair) (stages : List ℕ) (order : IsOrder task steps pairs stages) where
  later_stage : (i j : ℕ) → Contains pairs (i, j) → ConflictAt task steps i j → stage_at stages i < stage_at stages j
  later_stage i zero c conflict = let none : None ≡ Some conflict.second = conflict.at_second in absurd (cc)
  later_stage i (suc k) c conflict =
      let within = slice_get_within steps k conflict.second conflict.at_second in
      let inside : k < length stages = omega (arith, within, order.long) in
      let is = order.staged k (slice_index_or stages k 0) (stage_found stages k inside) in
      let next : k + 1 ≡ suc k = omega arith in
      let there : Contains (stages_before pairs stages (k + 1)) (stage_at stages i) =
      subst (λ j. Contains (stages_before pairs stages j) (stage_at stages i)) (sym next)
      (in_mapped (λ (p : Pair). stage_at stages p.0) (filter (λ (p : Pair). p.1 == suc k) pairs) (i, suc k) (kept_by pairs i (suc k) c)) in
      let most = at_most_greatest (stages_before pairs stages (k + 1)) (stage_at stages i) there in
      omega (arith, is, most)

  pub suffice : StagesSuffice task steps pairs stages
  suffice = record {
    later = λ i j less conflict. later_stage i j ((order.each i j).1 (less, conflict)) conflict;
    kept = λ listing listed rises. record {
      listed = listed;
      kept = λ i j c k l at_k at_l.
          let both = (order.each i j).0 c in
          let stage = later_stage i j c both.1 in
          elim (cases_lt k l) [
            | inl less ↦ less
            | inr over ↦ elim (cases_lt l k) [
              | inl more ↦ let r = rises l k j i more at_l at_k in absurd (omega (arith, r, stage))
              | inr under ↦
                  let same : k ≡ l = omega (arith, over, under) in
                  let one : i ≡ j = same_Some _ _ (sym at_k ∙ ap (slice_get listing) same ∙ at_l) in
                  absurd (omega (arith, one, both.0))
            ]
          ];
    };
  }
