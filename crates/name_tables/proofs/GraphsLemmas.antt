-- Which numbers are reached.
use Rattle.std.proofs.Common.{◌≡◌, ℕ, ◌+◌, ◌≤◌, Bool, true, false, cond, ◌==◌, List, [], ◌∷◌, ◌++◌, length, take, refl, sym, ap, subst, ◌∙◌, ◌⊎◌, inl, inr, Some, None, slice_get, append_assoc, eq-eqb, arith}
use Rattle.std.proofs.lemmas.Bool.{eqb-true, or_cases, or_left, or_right}
use Rattle.std.proofs.lemmas.Map.Keys.{any_passes_from_place}
use Rattle.std.proofs.lemmas.List.{take-append-le, take_all, append-nil}
use Rattle.std.proofs.lemmas.Option.{slice_get_within, slice_get_cases}
use Rattle.lemmas.specs.Lists.{LeadsAlong, has_number}
use Rattle.name_tables.specs.Graphs.{AreReached, HasWay, has_edge, next_of, with_number, with_numbers}
use Rattle.lemmas.proofs.Members.{next_taken}

-- one number more at the end

keeps_push : (ns : List ℕ) (m b : ℕ) → has_number ns b ≡ true → has_number (ns ++ m ∷ []) b ≡ true
keeps_push [] m b h = absurd (cc)
keeps_push (n ∷ ns) m b h =
    elim (or_cases (b == n) (has_number ns b) h) [
      | inl e ↦ or_left (b == n) (has_number (ns ++ m ∷ []) b) e
      | inr e ↦ or_right (b == n) (has_number (ns ++ m ∷ []) b) (keeps_push ns m b e)
    ]

gets_push : (ns : List ℕ) (m : ℕ) → has_number (ns ++ m ∷ []) m ≡ true
gets_push [] m = or_left (m == m) false (eq-eqb m m refl)
gets_push (n ∷ ns) m = or_right (m == n) (has_number (ns ++ m ∷ []) m) (gets_push ns m)

pub splits_push : (ns : List ℕ) (m b : ℕ) → has_number (ns ++ m ∷ []) b ≡ true
    → (has_number ns b ≡ true) ⊎ (b ≡ m)
splits_push [] m b h =
    elim (or_cases (b == m) false h) [
      | inl e ↦ inr (eqb-true b m e)
      | inr e ↦ absurd (cc)
    ]
splits_push (n ∷ ns) m b h =
    elim (or_cases (b == n) (has_number (ns ++ m ∷ []) b) h) [
      | inl e ↦ inl (or_left (b == n) (has_number ns b) e)
      | inr e ↦
          elim (splits_push ns m b e) [
            | inl f ↦ inl (or_right (b == n) (has_number ns b) f)
            | inr f ↦ inr f
          ]
    ]

-- one number more, unless it is there

keeps_if : (v : Bool) (ns : List ℕ) (m b : ℕ) → has_number ns b ≡ true
    → has_number (cond v ns (ns ++ m ∷ [])) b ≡ true
keeps_if true ns m b h = h
keeps_if false ns m b h = keeps_push ns m b h

gets_if : (v : Bool) (ns : List ℕ) (m : ℕ) → has_number ns m ≡ v
    → has_number (cond v ns (ns ++ m ∷ [])) m ≡ true
gets_if true ns m e = e
gets_if false ns m e = gets_push ns m

splits_if : (v : Bool) (ns : List ℕ) (m b : ℕ) → has_number (cond v ns (ns ++ m ∷ [])) b ≡ true
    → (has_number ns b ≡ true) ⊎ (b ≡ m)
splits_if true ns m b h = inl h
splits_if false ns m b h = splits_push ns m b h

-- numbers more

pub keeps_all : (ns ms : List ℕ) (b : ℕ) → has_number ns b ≡ true
    → has_number (with_numbers ns ms) b ≡ true
keeps_all ns [] b h = h
keeps_all ns (m ∷ ms) b h = keeps_all (with_number ns m) ms b (keeps_if (has_number ns m) ns m b h)

pub gets_all : (ns ms : List ℕ) (b : ℕ) → has_number ms b ≡ true
    → has_number (with_numbers ns ms) b ≡ true
gets_all ns [] b h = absurd (cc)
gets_all ns (m ∷ ms) b h =
    elim (or_cases (b == m) (has_number ms b) h) [
      | inl e ↦ keeps_all (with_number ns m) ms b
          (subst (λ x. has_number (with_number ns m) x ≡ true) (sym (eqb-true b m e)) (gets_if (has_number ns m) ns m refl))
      | inr e ↦ gets_all (with_number ns m) ms b e
    ]

pub splits_all : (ns ms : List ℕ) (b : ℕ) → has_number (with_numbers ns ms) b ≡ true
    → (has_number ns b ≡ true) ⊎ (has_number ms b ≡ true)
splits_all ns [] b h = inl h
splits_all ns (m ∷ ms) b h =
    elim (splits_all (with_number ns m) ms b h) [
      | inl f ↦
          elim (splits_if (has_number ns m) ns m b f) [
            | inl g ↦ inl g
            | inr g ↦ inr (or_left (b == m) (has_number ms b) (eq-eqb b m g))
          ]
      | inr f ↦ inr (or_right (b == m) (has_number ms b) f)
    ]

-- numbers are only put behind the others
pub record Grows (old new : List ℕ) : Type 0 where
  pub more : List ℕ
  pub split : new ≡ old ++ more

grows_if : (v : Bool) (ns : List ℕ) (m : ℕ) → Grows ns (cond v ns (ns ++ m ∷ []))
grows_if true ns m = record { more = []; split = sym (append-nil ns) }
grows_if false ns m = record { more = m ∷ []; split = refl }

grows_twice : (a b c : List ℕ) → Grows a b → Grows b c → Grows a c
grows_twice a b c p q = record { more = p.more ++ q.more; split = q.split ∙ ap (λ xs. xs ++ q.more) p.split ∙ append_assoc a p.more q.more }

grows_not : (xs : List ℕ) → Grows xs xs
grows_not xs = grows_if true xs 0

pub grows_all : (ns ms : List ℕ) → Grows ns (with_numbers ns ms)
grows_all ns [] = grows_not ns
grows_all ns (m ∷ ms) =
    grows_twice ns (with_number ns m) (with_numbers (with_number ns m) ms)
    (grows_if (has_number ns m) ns m) (grows_all (with_number ns m) ms)

pub take_grown : (old new : List ℕ) (i x : ℕ) → Grows old new → slice_get old i ≡ Some x
    → take (i + 1) new ≡ take i old ++ x ∷ []
take_grown old new i x g e =
    let within : i + 1 ≤ length old = let w = slice_get_within old i x e in omega arith in
    ap (take (i + 1)) g.split ∙ take-append-le (i + 1) old g.more within ∙ next_taken old i x e

has_at : (xs : List ℕ) (i x : ℕ) → slice_get xs i ≡ Some x → has_number (take (i + 1) xs) x ≡ true
has_at xs i x e =
    subst (λ ys. has_number ys x ≡ true) (sym (next_taken xs i x e)) (gets_push (take i xs) x)

pub number_there : (xs : List ℕ) (i x : ℕ) → slice_get xs i ≡ Some x → has_number xs x ≡ true
number_there xs i x e = any_passes_from_place (λ m. x == m) xs i x e (eq-eqb x x refl)

pub no_number : (b : ℕ) → has_number [] b ≡ true → ⊥
no_number b h = absurd (cc)

-- ---- ways

module _ (edges : List (List ℕ)) where
  longer : (a : ℕ) (between : List ℕ) (b c : ℕ) → LeadsAlong (has_edge edges) a between b
      → has_edge edges b c ≡ true → LeadsAlong (has_edge edges) a (between ++ b ∷ []) c
  longer a [] b c l e = (l, e)
  longer a (m ∷ ms) b c l e = (l.0, longer m ms b c l.1 e)

  further : (a b c : ℕ) → HasWay edges a b → has_edge edges b c ≡ true → HasWay edges a c
  further a b c w e =
      record { between = w.between ++ b ∷ []; steps = longer a w.between b c w.steps e }

  -- what has been seen, of which the first `done` have been gone through
  pub record Explored (start : ℕ) (seen : List ℕ) (done : ℕ) : Type 0 where
    pub reached : (b : ℕ) → has_number seen b ≡ true → HasWay edges start b
    pub begun : (b : ℕ) → has_edge edges start b ≡ true → has_number seen b ≡ true
    pub closed : (a b : ℕ) → has_number (take done seen) a ≡ true → has_edge edges a b ≡ true
        → has_number seen b ≡ true

  pub explored_first : (start : ℕ) (seen : List ℕ) → seen ≡ with_numbers [] (next_of edges start)
      → Explored start seen 0
  explored_first start seen e =
      subst (λ s. Explored start s 0) (sym e) (
      record {
        reached = λ b h. elim (splits_all [] (next_of edges start) b h) [
          | inl f ↦ absurd (no_number b f)
          | inr f ↦ record { between = []; steps = f }
        ];
        begun = λ b h. gets_all [] (next_of edges start) b h;
        closed = λ a b h f. absurd (no_number a h);
      }
      )

  has_prefix : (n : ℕ) (xs : List ℕ) (b : ℕ) → Grows (take n xs) xs
      → has_number (take n xs) b ≡ true → has_number xs b ≡ true
  has_prefix n xs b g h =
      subst (λ ys. has_number ys b ≡ true) (sym g.split) (keeps_behind (take n xs) g.more b h)
    where
      keeps_behind : (xs ys : List ℕ) (b : ℕ) → has_number xs b ≡ true
          → has_number (xs ++ ys) b ≡ true
      keeps_behind [] ys b h = absurd (no_number b h)
      keeps_behind (x ∷ xs) ys b h =
          elim (or_cases (b == x) (has_number xs b) h) [
            | inl e ↦ or_left (b == x) (has_number (xs ++ ys) b) e
            | inr e ↦ or_right (b == x) (has_number (xs ++ ys) b) (keeps_behind xs ys b e)
          ]

  pub explored_more : (start : ℕ) (seen new : List ℕ) (done a : ℕ) → Explored start seen done
      → slice_get seen done ≡ Some a → new ≡ with_numbers seen (next_of edges a)
      → Explored start new (done + 1)
  explored_more start seen new done a x at e =
      subst (λ s. Explored start s (done + 1)) (sym e) (
      record {
        reached = λ b h. elim (splits_all seen (next_of edges a) b h) [
          | inl f ↦ x.reached b f
          | inr f ↦ further start a b (x.reached a (number_there seen done a at)) f
        ];
        begun = λ b h. keeps_all seen (next_of edges a) b (x.begun b h);
        closed = λ c b h f. elim (splits_push (take done seen) a c
            (subst (λ ys. has_number ys c ≡ true)
            (take_grown seen (with_numbers seen (next_of edges a)) done a (grows_all seen (next_of edges a)) at) h)) [
              | inl g ↦ keeps_all seen (next_of edges a) b (x.closed c b g f)
              | inr g ↦ gets_all seen (next_of edges a) b (subst (λ d. has_edge edges d b ≡ true) g f)
            ];
      }
      )

  all_closed : (start : ℕ) (seen : List ℕ)
      → ((a b : ℕ) → has_number seen a ≡ true → has_edge edges a b ≡ true → has_number seen b ≡ true)
      → (a : ℕ) (between : List ℕ) (b : ℕ) → has_number seen a ≡ true
      → LeadsAlong (has_edge edges) a between b → has_number seen b ≡ true
  all_closed start seen closed a [] b h l = closed a b h l
  all_closed start seen closed a (m ∷ ms) b h l =
      all_closed start seen closed m ms b (closed a m h l.0) l.1

  pub explored_all : (start : ℕ) (seen : List ℕ) (done : ℕ) → Explored start seen done
      → slice_get seen done ≡ None → AreReached edges start seen
  explored_all start seen done x none = record { only = x.reached; all = all }
    where
      whole : take done seen ≡ seen
      whole = take_all done seen (past seen done none)
        where
          past : (xs : List ℕ) (i : ℕ) → slice_get xs i ≡ None → length xs ≤ i
          past xs i e =
              elim ((slice_get_cases xs i).1) [
                | inl c ↦ absurd (some_none c.0 (sym c.2 ∙ e))
                | inr c ↦ c.0
              ]
            where
              some_none : (x : ℕ) → Some x ≡ None → ⊥
              some_none x e = cc

      closed : (a b : ℕ) → has_number seen a ≡ true → has_edge edges a b ≡ true
          → has_number seen b ≡ true
      closed a b h f = x.closed a b (subst (λ ys. has_number ys a ≡ true) (sym whole) h) f

      all : (b : ℕ) (between : List ℕ) → LeadsAlong (has_edge edges) start between b
          → has_number seen b ≡ true
      all b [] l = x.begun b l
      all b (m ∷ ms) l = all_closed start seen closed m ms b (x.begun m l.0) l.1
