-- What shares pay for.
use Rattle.std.proofs.Common.{◌≡◌, ℕ, zero, suc, ◌+◌, ◌*◌, ◌≤◌, inl, inr, Bool, true, false, not, cond, List, [], ◌∷◌, length, map, refl, sym, ap, subst, ◌∙◌, arith, count_by, Contains}
use Rattle.std.proofs.lemmas.Bool.{cases_lt}
use Rattle.std.proofs.lemmas.Nat.{mul-le}
use Rattle.lemmas.proofs.Ascending.{contains_cases, contains_here, contains_later, contains_none}
use Rattle.lemmas.proofs.Counts.{count_head, count_whole}
use Rattle.lemmas.proofs.Distinct.{from_mapped}
use Rattle.lemmas.proofs.Members.{place_of}
use Rattle.lemmas.specs.Lists.{AreDistinct}
use Rattle.task_model.specs.declared.fact.Atom.{Atom}
use Rattle.optimal_search.specs.Bounds.{lacking}
use Rattle.optimal_search.specs.BoundsLemmas.{lacking_falls}
use Rattle.optimal_search.specs.Share.{AreFair, AreLower, goals_of, lesser, lowered, met, owed}
use Rattle.optimal_search.specs.declared.share.Share.{Share}

-- ---- what is to be paid at most

goals_lowered : (comes : Atom → Bool) (most : ℕ) (ss : List Share) → goals_of (map (lowered comes most) ss)
    ≡ goals_of ss
goals_lowered comes most [] = refl
goals_lowered comes most (s ∷ ss) = ap (λ gs. s.goal ∷ gs) (goals_lowered comes most ss)

met_goals : (comes : Atom → Bool) (ss : List Share) → met ss comes ≡ count_by comes (goals_of ss)
met_goals comes [] = refl
met_goals comes (s ∷ ss) =
    count_head (λ (t : Share). comes t.goal) s ss ∙ ap (λ n. cond {A = ℕ} (comes s.goal) 1 0 + n) (met_goals comes ss)
    ∙ sym (count_head comes s.goal (goals_of ss))

met_same : (comes : Atom → Bool) (old new : List Share) → goals_of new ≡ goals_of old → met new comes ≡ met old comes
met_same comes old new same = met_goals comes new ∙ ap (count_by comes) same ∙ sym (met_goals comes old)

lesser_low : (b : Bool) (part most : ℕ) → lesser b part most ≤ part
lesser_low true part most = omega arith
lesser_low false part most = omega arith

lesser_most : (b : Bool) (part most : ℕ) → b ≡ true → lesser b part most ≤ most
lesser_most true part most is = omega arith
lesser_most false part most is = absurd (cc)

pub lower_self : (ss : List Share) → AreLower ss ss
lower_self ss = record { goals = refl; parts = λ t c. (t, c, refl, omega arith) }

pub lower_then : (a b c : List Share) → AreLower a b → AreLower b c → AreLower a c
lower_then a b c first second = record {
  goals = second.goals ∙ first.goals;
  parts = λ t there.
      let s = second.parts t there in
      let r = first.parts s.0 s.1 in
      (r.0, r.1, r.2 ∙ s.2, omega (arith, r.3, s.3));
}

pub lower_mapped : (comes : Atom → Bool) (most : ℕ) (ss : List Share) → AreLower ss (map (lowered comes most) ss)
lower_mapped comes most ss = record {
  goals = goals_lowered comes most ss;
  parts = λ t there.
      let at = from_mapped (lowered comes most) ss t there in (
        at.0,
        at.1,
        sym (ap (λ (s : Share). s.goal) at.2),
        subst (λ (s : Share). s.part ≤ at.0.part) (sym at.2) (lesser_low (comes at.0.goal) at.0.part most),
      );
}

most_of : (comes : Atom → Bool) (most : ℕ) (ss : List Share) (t : Share) → Contains (map (lowered comes most) ss) t
    → comes t.goal ≡ true → t.part ≤ most
most_of comes most ss t there is =
    let at = from_mapped (lowered comes most) ss t there in
    let same : at.0.goal ≡ t.goal = sym (ap (λ (s : Share). s.goal) at.2) in
    subst (λ (s : Share). s.part ≤ most) (sym at.2) (lesser_most (comes at.0.goal) at.0.part most (ap comes same ∙ is))

-- ---- what is fair

pub fair_lower : (comes : Atom → Bool) (cost : ℕ) (old new : List Share) → AreLower old new → AreFair old comes cost
    → AreFair new comes cost
fair_lower comes cost old new lower fair t there is =
    let s = lower.parts t there in
    let was = fair s.0 s.1 (ap comes s.2 ∙ is) in
    let same = met_same comes old new lower.goals in
    subst (λ m. t.part * m ≤ cost) (sym same)
    (let less = mul-le t.part (met old comes) s.0.part (met old comes) s.3 (omega arith) in omega (arith, less, was))

-- where all atoms that come are lowered
pub fair_mapped : (named comes : Atom → Bool) (most cost : ℕ) (ss : List Share)
    → ((g : Atom) → Contains (goals_of ss) g → comes g ≡ true → named g ≡ true) → most * met ss comes ≤ cost
    → AreFair (map (lowered named most) ss) comes cost
fair_mapped named comes most cost ss each paid t there is =
    let lower = lower_mapped named most ss in
    let s = lower.parts t there in
    let among = subst (Contains (goals_of ss)) s.2 (member_goal ss s.0 s.1) in
    let few = most_of named most ss t there (each t.goal among is) in
    let same = met_same comes ss (map (lowered named most) ss) lower.goals in
    subst (λ m. t.part * m ≤ cost) (sym same)
    (let less = mul-le t.part (met ss comes) most (met ss comes) few (omega arith) in omega (arith, less, paid))
  where
    member_goal : (xs : List Share) (x : Share) → Contains xs x → Contains (goals_of xs) x.goal
    member_goal [] x c = absurd (contains_none x c)
    member_goal (y ∷ ys) x c =
        elim (contains_cases y ys x c) [
          | inl same ↦ subst (λ (z : Share). Contains (goals_of (y ∷ ys)) z.goal) same
              (contains_here y.goal (goals_of ys))
          | inr k ↦ contains_later y.goal (goals_of ys) x.goal (member_goal ys x k)
        ]

-- ---- how many come

lacking_all : (gs : List Atom) → lacking gs (λ _. false) ≡ length gs
lacking_all [] = refl
lacking_all (g ∷ gs) = count_head (λ _. true) g gs ∙ ap (λ n. 1 + n) (lacking_all gs) ∙ omega arith

lacking_rest : (comes : Atom → Bool) (gs : List Atom) → lacking gs comes + count_by comes gs ≡ length gs
lacking_rest comes [] = refl
lacking_rest comes (g ∷ gs) =
    omega (arith, count_head (λ a. not (comes a)) g gs, count_head comes g gs, lacking_rest comes gs, one (comes g))
  where
    one : (b : Bool) → cond {A = ℕ} (not b) 1 0 + cond {A = ℕ} b 1 0 ≡ 1
    one true = refl
    one false = refl

-- of distinct atoms no more come than are added
pub few_met : (ss : List Share) (adds : List Atom) (comes : Atom → Bool) → AreDistinct (goals_of ss)
    → ((g : Atom) → Contains (goals_of ss) g → comes g ≡ true → Contains adds g) → met ss comes ≤ length adds
few_met ss adds comes distinct added =
    let gs = goals_of ss in
    let few = lacking_falls gs adds (λ _. false) comes distinct (λ g c was is. added g c is) in
    omega (arith, few, lacking_all gs, lacking_rest comes gs, met_goals comes ss)

-- ---- what is to be paid for what is missing

head_falls : (b a c : Bool) (part w cost before after n : ℕ)
    → (b ≡ false → a ≡ true → (part * w ≤ cost) × (c ≡ true)) → before * w ≤ after * w + n * cost
    → (cond {A = ℕ} b 0 part + before) * w ≤ (cond {A = ℕ} a 0 part + after) * w + (cond {A = ℕ} c 1 0 + n) * cost
head_falls true true true part w cost before after n gains rest = omega (arith, rest)
head_falls true true false part w cost before after n gains rest = omega (arith, rest)
head_falls true false true part w cost before after n gains rest = omega (arith, rest)
head_falls true false false part w cost before after n gains rest = omega (arith, rest)
head_falls false false true part w cost before after n gains rest = omega (arith, rest)
head_falls false false false part w cost before after n gains rest = omega (arith, rest)
head_falls false true true part w cost before after n gains rest = omega (arith, rest, (gains refl refl).0)
head_falls false true false part w cost before after n gains rest = absurd (let e = (gains refl refl).1 in cc)

module _ (before after comes : Atom → Bool) where
  parts_fall : (w cost : ℕ) (ss : List Share)
      → ((s : Share) → Contains ss s → before s.goal ≡ false → after s.goal ≡ true → (s.part * w ≤ cost)
      × (comes s.goal ≡ true))
      → owed ss before * w ≤ owed ss after * w + met ss comes * cost
  parts_fall w cost [] gains = omega arith
  parts_fall w cost (s ∷ ss) gains =
      let rest = parts_fall w cost ss (λ t c was is. gains t (contains_later s ss t c) was is) in
      subst (λ n. owed (s ∷ ss) before * w ≤ owed (s ∷ ss) after * w + n * cost)
      (sym (count_head (λ (t : Share). comes t.goal) s ss))
      (head_falls (before s.goal) (after s.goal) (comes s.goal) s.part w cost (owed ss before) (owed ss after)
      (met ss comes)
      (gains s (contains_here s ss)) rest)

  counted : (ss : List Share) (s : Share) → Contains ss s → comes s.goal ≡ true → 1 ≤ met ss comes
  counted ss s c is =
      let at = place_of ss s c in omega (arith, count_whole (λ (t : Share). comes t.goal) ss at.0 s at.1 is)

  pub owed_falls : (cost : ℕ) (ss : List Share) → AreFair ss comes cost
      → ((s : Share) → Contains ss s → before s.goal ≡ false → after s.goal ≡ true → comes s.goal ≡ true)
      → owed ss before ≤ owed ss after + cost
  owed_falls cost ss fair came = by (met ss comes) refl
    where
      by : (m : ℕ) → met ss comes ≡ m → owed ss before ≤ owed ss after + cost
      by zero is =
          let falls = parts_fall 1 cost ss (λ s c was now.
          absurd (omega (arith, is, counted ss s c (came s c was now)))) in
          let none : met ss comes * cost ≡ 0 = ap (λ m. m * cost) is ∙ omega arith in
          omega (arith, falls, none)
      by (suc m) is =
          let falls = parts_fall (suc m) cost ss (λ s c was now.
          let there = came s c was now in (subst (λ n. s.part * n ≤ cost) is (fair s c there), there)) in
          let all = subst (λ n. owed ss before * suc m ≤ owed ss after * suc m + n * cost) is falls in
          elim (cases_lt (owed ss after + cost) (owed ss before)) [
            | inl over ↦
                let more = mul-le (owed ss after + cost + 1) (suc m) (owed ss before) (suc m) (omega (arith, over))
                (omega arith) in
                absurd (omega (arith, all, more))
            | inr fits ↦ fits
          ]

pub owed_none : (there : Atom → Bool) (ss : List Share) → ((g : Atom) → Contains (goals_of ss) g → there g ≡ true)
    → owed ss there ≡ 0
owed_none there [] each = refl
owed_none there (s ∷ ss) each =
    let none : cond {A = ℕ} (there s.goal) 0 s.part ≡ 0 =
    ap (λ b. cond {A = ℕ} b 0 s.part) (each s.goal (contains_here s.goal (goals_of ss))) in
    omega (arith, none, owed_none there ss (λ g c. each g (contains_later s.goal (goals_of ss) g c)))
