-- A search for a cycle: nodes are done one after another, and what is left when nothing moves leads round.
use Rattle.std.proofs.Common.{◌≡◌, inl, inr, ℕ, zero, suc, ◌+◌, ◌<◌, ◌≤◌, Bool, true, false, ◌&&◌, List, [], ◌∷◌, length, slice_index, slice_set, nat_lt, nat_le, refl, sym, ap, ◌∙◌, subst, arith, get_or-set_same, get_or-set_other, replicate}
use Rattle.std.specs.Cmp.{first_so, second_so}
use Rattle.std.specs.List.{list_all}
use Rattle.std.proofs.Math.ListN.{length-set}
use Rattle.std.proofs.lemmas.Bool.{and_from, cases_eq, cases_lt, ltb-true, lt-ltb, leb-true, le-leb}
use Rattle.lemmas.specs.Lists.{LeadsAlong}
use Rattle.lemmas.proofs.Walks.{Cycle, cycle_in}
use Rattle.fit_check.specs.Cycles.{IsAcyclic, IsSettled, IsStill, work_left}

-- edges are between numbers below the size
abbrev pub IsWithin : (ℕ → ℕ → Bool) → ℕ → Type 0
IsWithin edge size = (from to : ℕ) → edge from to ≡ true → (from < size) × (to < size)

module _ (edge : ℕ → ℕ → Bool) (size : ℕ) where
  -- from a node that is done only such are reached
  stays_done : (next : List ℕ) → IsWithin edge size → IsSettled edge size next
      → (between : List ℕ) (i e : ℕ) → i < size
      → size ≤ slice_index next i → LeadsAlong edge i between e → size ≤ slice_index next e
  stays_done next within settled [] i e low done h =
      let to = (within i e h).1 in
      settled.passed i e low (omega arith) h
  stays_done next within settled (x ∷ xs) i e low done h =
      let to = (within i x h.0).1 in
      stays_done next within settled xs x e to (settled.passed i x low (omega arith) h.0) h.1

  -- a node all of whose edges lead to such is on no cycle, unless it was done before
  fresh_clear : (next : List ℕ) → IsWithin edge size → IsSettled edge size next → (i : ℕ) → i < size
      → slice_index next i < size
      → ((k : ℕ) → k < size → edge i k ≡ true → size ≤ slice_index next k) → (between : List ℕ) → ¬ (LeadsAlong edge i between i)
  fresh_clear next within settled i low undone all [] h =
      let done = all i low h in
      absurd (omega arith)
  fresh_clear next within settled i low undone all (x ∷ xs) h =
      let to = (within i x h.0).1 in
      let done = stays_done next within settled xs x i to (all x to h.0) h.1 in
      absurd (omega arith)

  -- a node that has moved on
  moved_index : (next : List ℕ) (i to k : ℕ) → i < length next → slice_index next i ≤ to
      → slice_index next k ≤ slice_index (slice_set next i to) k
  moved_index next i to k inside up =
      elim (cases_eq k i) [
        | inl e ↦ subst (λ m. slice_index next m ≤ slice_index (slice_set next i to) m)
            (sym e) (let is = get_or-set_same next i to 0 inside in omega (arith, is))
        | inr ne ↦ let is = get_or-set_other next i k to 0 ne in omega (arith, is)
      ]

  pub settled_moved : (next : List ℕ) (i to : ℕ) → IsWithin edge size → IsSettled edge size next
      → i < size → slice_index next i ≤ to
      → to ≤ size → ((k : ℕ) → slice_index next i ≤ k → k < to → edge i k ≡ true → size ≤ slice_index next k)
      → IsSettled edge size (slice_set next i to)
  settled_moved next i to within settled low up top new =
      let inside : i < length next = omega (arith, settled.long) in
      let all : (k : ℕ) → k < to → edge i k ≡ true → size ≤ slice_index next k =
      λ k h e. elim (cases_lt k (slice_index next i)) [ inl before ↦ settled.passed i k low before e | inr after ↦ new k after h e ] in
      let is = get_or-set_same next i to 0 inside in
      let higher : (k : ℕ) → size ≤ slice_index next k → size ≤ slice_index (slice_set next i to) k =
      λ k done. let more = moved_index next i to k inside up in omega arith in
      record {
        long = length-set next i to ∙ settled.long;
        within = λ k. elim (cases_eq k i) [
          | inl e ↦ subst (λ m. slice_index (slice_set next i to) m ≤ size) (sym e) (omega (arith, is))
          | inr ne ↦ let same = get_or-set_other next i k to 0 ne in omega (arith, same, settled.within k)
        ];
        passed = λ j k lj lk e. elim (cases_eq j i) [
          | inl same ↦
              higher k
              (all k (subst (λ m. k < m) (ap (slice_index (slice_set next i to)) same ∙ is) lk) (subst (λ m. edge m k ≡ true) same e))
          | inr ne ↦ higher k (settled.passed j k lj (subst (λ m. k < m) (get_or-set_other next i j to 0 ne) lk) e)
        ];
        clear = λ j lj done between. elim (cases_eq j i) [
          | inl same ↦
              elim (cases_lt (slice_index next i) size) [
                | inl undone ↦
                    subst (λ m. ¬ (LeadsAlong edge m between m)) (sym same)
                    (fresh_clear next within settled i low undone
                    (λ k h e. all k
                    (let at = subst (λ m. size ≤ slice_index (slice_set next i to) m) same done in omega (arith, is, at)) e)
                    between)
                | inr before ↦ subst (λ m. ¬ (LeadsAlong edge m between m)) (sym same) (settled.clear i low before between)
              ]
          | inr ne ↦ settled.clear j lj (subst (λ m. size ≤ m) (get_or-set_other next i j to 0 ne) done) between
        ];
      }

  -- at first no node has moved
  pub settled_first : (next : List ℕ) → length next ≡ size → ((i : ℕ) → slice_index next i ≡ 0)
      → IsSettled edge size next
  settled_first next long none = record {
    long = long;
    within = λ i. omega (arith, none i);
    passed = λ i k low h e. absurd (omega (arith, none i));
    clear = λ i low done. absurd (omega (arith, none i));
  }

  -- all nodes are done
  pub acyclic_if : (next : List ℕ) → IsWithin edge size → IsSettled edge size next
      → list_all (λ n. nat_le size n) next ≡ true
      → IsAcyclic edge
  acyclic_if next within settled all node [] h =
      let low = (within node node h).0 in
      settled.clear node low (each_done next all node (omega (arith, settled.long))) [] h
    where
      each_done : (ns : List ℕ) → list_all (λ n. nat_le size n) ns ≡ true → (i : ℕ) → i < length ns
          → size ≤ slice_index ns i
      each_done [] all i h = absurd (omega arith)
      each_done (n ∷ ns) all zero h =
          leb-true size n (first_so (nat_le size n) (list_all (λ n. nat_le size n) ns) all)
      each_done (n ∷ ns) all (suc i) h = each_done ns (second_so (nat_le size n) (list_all (λ n. nat_le size n) ns) all) i (omega arith)
  acyclic_if next within settled all node (x ∷ xs) h =
      let low = (within node x h.0).0 in
      settled.clear node low (each_done next all node (omega (arith, settled.long))) (x ∷ xs) h
    where
      each_done : (ns : List ℕ) → list_all (λ n. nat_le size n) ns ≡ true → (i : ℕ) → i < length ns
          → size ≤ slice_index ns i
      each_done [] all i h = absurd (omega arith)
      each_done (n ∷ ns) all zero h =
          leb-true size n (first_so (nat_le size n) (list_all (λ n. nat_le size n) ns) all)
      each_done (n ∷ ns) all (suc i) h = each_done ns (second_so (nat_le size n) (list_all (λ n. nat_le size n) ns) all) i (omega arith)

  abbrev open_at : List ℕ → ℕ → Bool
  open_at next i = nat_lt i size && nat_lt (slice_index next i) size

  -- one isn't done, and nothing moves
  cycle_if : (next : List ℕ) → IsStill edge size next → (i : ℕ) → open_at next i ≡ true → Cycle edge
  cycle_if next still i here =
      let low = λ (k : ℕ) (h : open_at next k ≡ true). ltb-true k size (first_so (nat_lt k size) (nat_lt (slice_index next k) size) h) in
      let undone =
      λ (k : ℕ) (h : open_at next k ≡ true).
      ltb-true (slice_index next k) size (second_so (nat_lt k size) (nat_lt (slice_index next k) size) h) in
      cycle_in edge size (slice_index next) (open_at next) low
      (λ k h. and_from (nat_lt (slice_index next k) size) (nat_lt (slice_index next (slice_index next k)) size)
      (lt-ltb (slice_index next k) size (undone k h))
      (lt-ltb (slice_index next (slice_index next k)) size (still k (low k h) (undone k h)).1))
      (λ k h. ([], (still k (low k h) (undone k h)).0)) i here

  some_open : (ns : List ℕ) → list_all (λ n. nat_le size n) ns ≡ false
      → (i : ℕ) × (i < length ns) × (slice_index ns i < size)
  some_open [] e = absurd (cc)
  some_open (n ∷ ns) e =
      elim (cases_lt n size) [
        | inl low ↦ (0, omega arith, low)
        | inr high ↦
            let rest = some_open ns (sym (ap (λ b. b && list_all (λ n. nat_le size n) ns) (le-leb size n high)) ∙ e) in
            (suc rest.0, let h = rest.1 in omega arith, rest.2)
      ]

  pub done_if : (next : List ℕ) → IsSettled edge size next → IsStill edge size next → IsAcyclic edge
      → list_all (λ n. nat_le size n) next ≡ true
  done_if next settled still acyclic =
      elim (list_all (λ n. nat_le size n) next) as
      (λ b. list_all (λ n. nat_le size n) next ≡ b → list_all (λ n. nat_le size n) next ≡ true) [
        | true ↦ λ e. e
        | false ↦ λ e.
            let found = some_open next e in
            let low : found.0 < size = let h = found.1 in omega (arith, settled.long) in
            let cycle =
            cycle_if next still found.0 (and_from (nat_lt found.0 size)
            (nat_lt (slice_index next found.0) size) (lt-ltb found.0 size low) (lt-ltb (slice_index next found.0) size found.2)) in
            absurd (acyclic cycle.0 cycle.1.0 cycle.1.1)
      ] refl

-- a node that moves on leaves less work
pub work_falls : (size : ℕ) (next : List ℕ) (i to : ℕ) → i < length next → slice_index next i < to
    → to ≤ size
    → work_left size (slice_set next i to) < work_left size next
work_falls size [] i to h up top = absurd (omega arith)
work_falls size (n ∷ ns) zero to h up top = omega arith
work_falls size (n ∷ ns) (suc i) to h up top =
    let less = work_falls size ns i to (omega arith) up top in omega arith

-- all nodes before this one lead on, and so does this one, which didn't move
pub still_more : (edge : ℕ → ℕ → Bool) (size : ℕ) (next : List ℕ) (from to : ℕ)
    → to ≤ slice_index next from → slice_index next from ≤ to
    → (to < size → (edge from to ≡ true) × (slice_index next to < size))
    → ((i : ℕ) → i < from → slice_index next i < size
    → (edge i (slice_index next i) ≡ true) × (slice_index next (slice_index next i) < size))
    → (i : ℕ) → i < from + 1 → slice_index next i < size
    → (edge i (slice_index next i) ≡ true) × (slice_index next (slice_index next i) < size)
still_more edge size next from to low high lead before i h undone =
    elim (cases_eq i from) [
      | inl e ↦
          let same : to ≡ slice_index next i = omega (arith, ap (slice_index next) e) in
          let here = lead (omega arith) in (
            subst (λ k. edge i k ≡ true) same (subst (λ m. edge m to ≡ true) (sym e) here.0),
            subst (λ k. slice_index next k < size) same here.1,
          )
      | inr ne ↦ before i (omega (arith, ne)) undone
    ]

pub zeros : (n i : ℕ) → slice_index (replicate n 0) i ≡ 0
zeros zero i = refl
zeros (suc n) zero = refl
zeros (suc n) (suc i) = zeros n i

pub many_zeros : (n : ℕ) → length {A = ℕ} (replicate n 0) ≡ n
many_zeros zero = refl
many_zeros (suc n) = ap suc (many_zeros n)
