-- Goal atoms, and what is to be paid for each.
use Rattle.std.specs.Prelude.{◌≡◌, ℕ, ◌+◌, ◌*◌, ◌≤◌, min, ◌==◌, Bool, true, cond, List, [], ◌∷◌, map, count_by, Contains, if◌then◌else◌}
use Rattle.std.specs.List.{list_any}
use Rattle.task_model.specs.declared.domain.Pattern.{Pattern}
use Rattle.task_model.specs.declared.fact.Atom.{Atom}
use Rattle.optimal_search.specs.declared.share.Share.{Share}

abbrev pub goals_of : List Share → List Atom
goals_of shares = map (λ (s : Share). s.goal) shares

-- how many of the goal's atoms come
abbrev pub met : List Share → (Atom → Bool) → ℕ
met shares comes = count_by (λ (s : Share). comes s.goal) shares

-- the lesser number, if the atom comes
abbrev pub lesser : Bool → ℕ → ℕ → ℕ
lesser comes part most = if comes then min part most else part

-- so much is to be paid at most, if the atom comes
abbrev pub lowered : (Atom → Bool) → ℕ → Share → Share
lowered comes most s = record { goal = s.goal; part = lesser (comes s.goal) s.part most }

-- one of the patterns has the atom's predicate
abbrev pub is_named : List Pattern → Atom → Bool
is_named adds atom = list_any (λ (p : Pattern). p.pred == atom.pred) adds

-- what is to be paid for the atoms that aren't there, together
abbrev pub owed : List Share → (Atom → Bool) → ℕ
owed [] there = 0
owed (s ∷ ss) there = cond (there s.goal) 0 s.part + owed ss there

-- As many atoms as come are paid for: what is to be paid for any of them, as many times as come, is at most the cost.
abbrev pub AreFair : List Share → (Atom → Bool) → ℕ → Type 0
AreFair shares comes cost =
    (s : Share) → Contains shares s → comes s.goal ≡ true → s.part * met shares comes ≤ cost

-- Of the same atoms none is dearer.
pub record AreLower (old new : List Share) : Type 0 where
  pub goals : goals_of new ≡ goals_of old
  pub parts : (t : Share) → Contains new t
      → (s : Share) × Contains old s × (s.goal ≡ t.goal) × (t.part ≤ s.part)
