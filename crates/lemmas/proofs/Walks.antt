-- Ways along a relation, and that among finitely many nodes each of which leads on there is a cycle.
use Rattle.std.proofs.Common.{◌≡◌, ℕ, zero, suc, ◌<◌, Bool, true, false, not, cond, ◌&&◌, ◌==◌, List, [], ◌∷◌, ◌++◌, refl, sym, ap, ◌∙◌, subst, arith, eqb-true, eq-eqb}
use Rattle.std.specs.Cmp.{first_so, second_so}
use Rattle.std.proofs.lemmas.Bool.{and_from, not_from_false, not-true, both_ways}
use Rattle.lemmas.specs.Lists.{LeadsAlong}

-- over some nodes from one to another
abbrev pub Way : (ℕ → ℕ → Bool) → ℕ → ℕ → Type 0
Way edge from to = (between : List ℕ) × LeadsAlong edge from between to

abbrev pub Cycle : (ℕ → ℕ → Bool) → Type 0
Cycle edge = (node : ℕ) × Way edge node node

along : (edge : ℕ → ℕ → Bool) (xs ys : List ℕ) (a b c : ℕ) → LeadsAlong edge a xs b
    → LeadsAlong edge b ys c
    → LeadsAlong edge a (xs ++ b ∷ ys) c
along edge [] ys a b c h k = (h, k)
along edge (x ∷ xs) ys a b c h k = (h.0, along edge xs ys x b c h.1 k)

pub join : (edge : ℕ → ℕ → Bool) (a b c : ℕ) → Way edge a b → Way edge b c → Way edge a c
join edge a b c v w = (v.0 ++ b ∷ w.0, along edge v.0 w.0 a b c v.1 w.1)

-- past the node m, to what it leads to
abbrev skip : (ℕ → ℕ) → ℕ → ℕ → ℕ
skip f m i = cond (f i == m) (f m) (f i)

abbrev without : (ℕ → Bool) → ℕ → ℕ → Bool
without inside m i = inside i && not (i == m)

skip_stays : (f : ℕ → ℕ) (inside : ℕ → Bool) (m i : ℕ) → inside (f i) ≡ true
    → without inside m (f m) ≡ true
    → without inside m (skip f m i) ≡ true
skip_stays f inside m i stays there =
    elim (f i == m) as (λ b. (f i == m) ≡ b → without inside m (cond b (f m) (f i)) ≡ true) [
      | true ↦ λ _. there
      | false ↦ λ e. and_from (inside (f i)) (not (f i == m)) stays (not_from_false (f i == m) e)
    ] refl

skip_way : (edge : ℕ → ℕ → Bool) (f : ℕ → ℕ) (m i : ℕ) → Way edge i (f i) → Way edge m (f m)
    → Way edge i (skip f m i)
skip_way edge f m i here there =
    elim (f i == m) as (λ b. (f i == m) ≡ b → Way edge i (cond b (f m) (f i))) [
      | true ↦ λ e. join edge i m (f m) (subst (λ k. Way edge i k) (eqb-true (f i) m e) here) there
      | false ↦ λ _. here
    ] refl

unlike : (inside : ℕ → Bool) (m i : ℕ) → inside i ≡ true → inside m ≡ false → i ≡ m → ⊥
unlike inside m i h out e = both_ways (inside m) out (ap inside (sym e) ∙ h)

other : (inside : ℕ → Bool) (m i : ℕ) → without inside m i ≡ true → i ≡ m → ⊥
other inside m i h e =
    both_ways (i == m) (not-true (i == m) (second_so (inside i) (not (i == m)) h)) (eq-eqb i m e)

-- where each node inside leads on inside, and all are below n
pub cycle_in : (edge : ℕ → ℕ → Bool) (n : ℕ) (f : ℕ → ℕ) (inside : ℕ → Bool)
    → ((i : ℕ) → inside i ≡ true → i < n)
    → ((i : ℕ) → inside i ≡ true → inside (f i) ≡ true) → ((i : ℕ) → inside i ≡ true → Way edge i (f i)) → (s : ℕ) → inside s ≡ true
    → Cycle edge
cycle_in edge zero f inside below stays way s here = absurd (omega (arith, below s here))
cycle_in edge (suc m) f inside below stays way s here =
    elim (inside m) as (λ b. inside m ≡ b → Cycle edge) [
      | false ↦ λ out. cycle_in edge m f inside
          (λ i h. let lt = below i h in let ne = unlike inside m i h out in omega (arith, lt, ne)) stays way s here
      | true ↦ λ last.
          elim (f m == m) as (λ b. (f m == m) ≡ b → Cycle edge) [
            | true ↦ λ same. (m, subst (λ k. Way edge m k) (eqb-true (f m) m same) (way m last))
            | false ↦ λ on.
                let next : without inside m (f m) ≡ true =
                and_from (inside (f m)) (not (f m == m)) (stays m last) (not_from_false (f m == m) on) in
                cycle_in edge m (skip f m) (without inside m)
                (λ i h. let lt = below i (first_so (inside i) (not (i == m)) h) in let ne = other inside m i h in omega (arith, lt, ne))
                (λ i h. skip_stays f inside m i (stays i (first_so (inside i) (not (i == m)) h)) next)
                (λ i h. skip_way edge f m i (way i (first_so (inside i) (not (i == m)) h)) (way m last))
                (f m) next
          ] refl
    ] refl
