-- Entries at places of a list.
use Rattle.std.proofs.Common.{◌≡◌, ℕ, zero, suc, ◌+◌, ◌-◌, ◌<◌, ◌≤◌, inl, inr, arith, List, [], ◌∷◌, ◌++◌, length, map, take, drop, get_or, refl, sym, ap, subst, ◌∙◌, Option, Some, None, slice_get, All, Contains, append_assoc}
use Rattle.std.proofs.lemmas.List.{length-append, length-map, take_more, take-map, drop-map}
use Rattle.std.proofs.lemmas.List.Elements.{All-head, All-tail, filter_map-append}
use Rattle.std.proofs.lemmas.Option.{slice_get_within, get_or_from_slice_get, same_Some}
use Rattle.std.specs.Cmp.{nat_cmp_is}
use Rattle.std.specs.List.{cons_option}
use Rattle.std.specs.Ordering.{nat_cmp}
use Rattle.std.specs.declared.cmp.Ordering.TheVariants.{Less}
use Rattle.turn_laws.proofs.DreamLemmas.{somes_same}
use Rattle.lemmas.proofs.Ascending.{contains_none, contains_cases, contains_here, contains_later}
use Rattle.lemmas.proofs.ListTests.{get_there, all_by_place}
use Rattle.lemmas.proofs.Members.{push_cases, get_behind, get_single, from_take, member_at}
use Rattle.lemmas.specs.Lists.{AreAscending, numbers_from}
use Rattle.task_model.specs.Dreams.{SupposedEntry}
use Rattle.dreaming.specs.Parts.{entries_at}

-- the places are places of the list
abbrev pub AreBelow : List SupposedEntry → List ℕ → Type 0
AreBelow list places = All (λ place. place < length list) places

-- ---- which entries stand there

pub chosen_at : (list : List SupposedEntry) (places : List ℕ) → AreBelow list places
    → map (slice_get list) places ≡ map Some (entries_at list places)
chosen_at list [] below = refl
chosen_at list (p ∷ ps) below =
    let there = get_there list p (All-head (λ place. place < length list) p ps below) in
    let rest = chosen_at list ps (All-tail (λ place. place < length list) p ps below) in
    (λ i. there.1 i ∷ rest i) ∙ sym (ap (λ o. map Some (cons_option o (entries_at list ps))) there.1)

pub length-entries_at : (list : List SupposedEntry) (places : List ℕ) → AreBelow list places → length (entries_at list places)
    ≡ length places
length-entries_at list places below =
    sym (length-map (entries_at list places) Some) ∙ sym (ap length (chosen_at list places below)) ∙ length-map places (slice_get list)

pub from_entries : (list : List SupposedEntry) (places : List ℕ) (e : SupposedEntry) → Contains (entries_at list places) e
    → (q : ℕ) × Contains places q × (slice_get list q ≡ Some e)
from_entries list [] e m = absurd (contains_none e m)
from_entries list (p ∷ ps) e m =
    by (λ c. let r = from_entries list ps e c in (r.0, contains_later p ps r.0 r.1, r.2)) (slice_get list p) refl m
  where
    by : (Contains (entries_at list ps) e → (q : ℕ) × Contains (p ∷ ps) q × (slice_get list q ≡ Some e))
        → (o : Option SupposedEntry) → slice_get list p ≡ o → Contains (cons_option o (entries_at list ps)) e
        → (q : ℕ) × Contains (p ∷ ps) q × (slice_get list q ≡ Some e)
    by later None is c = later c
    by later (Some x) is c =
        elim (contains_cases x (entries_at list ps) e c)
        [ inl same ↦ (p, contains_here p ps, is ∙ ap Some same) | inr other ↦ later other ]

pub in_entries : (list : List SupposedEntry) (places : List ℕ) (q : ℕ) (e : SupposedEntry) → Contains places q → slice_get list q ≡ Some e
    → Contains (entries_at list places) e
in_entries list [] q e m at = absurd (contains_none q m)
in_entries list (p ∷ ps) q e m at =
    elim (contains_cases p ps q m) [
      | inl here ↦
          subst (λ o. Contains (cons_option o (entries_at list ps)) e) (sym (ap (slice_get list) here ∙ at))
          (contains_here e (entries_at list ps))
      | inr later ↦ by (slice_get list p) (in_entries list ps q e later at)
    ]
  where
    by : (o : Option SupposedEntry) → Contains (entries_at list ps) e → Contains (cons_option o (entries_at list ps)) e
    by None c = c
    by (Some x) c = contains_later x (entries_at list ps) e c

pub entry_of_list : (list : List SupposedEntry) (places : List ℕ) (k : ℕ) (e : SupposedEntry) → slice_get (entries_at list places) k
    ≡ Some e
    → (q : ℕ) × (slice_get list q ≡ Some e)
entry_of_list list places k e at =
    let r = from_entries list places e (member_at (entries_at list places) k e at) in (r.0, r.2)

pub entries_pushed : (list : List SupposedEntry) (places : List ℕ) (place : ℕ) (e : SupposedEntry) → slice_get list place ≡ Some e
    → entries_at list (places ++ place ∷ []) ≡ entries_at list places ++ e ∷ []
entries_pushed list places place e at =
    filter_map-append (slice_get list) places (place ∷ []) ∙ ap (λ o. entries_at list places ++ cons_option o []) at

pub entries_more : (list : List SupposedEntry) (places : List ℕ) (i : ℕ) (e : SupposedEntry) → i < length places
    → slice_get list (get_or places i 0) ≡ Some e
    → entries_at list (take (i + 1) places) ≡ entries_at list (take i places) ++ e ∷ []
entries_more list places i e lt at =
    ap (entries_at list) (take_more places i 0 lt) ∙ entries_pushed list (take i places) (get_or places i 0) e at

-- ---- fronts and rests

pub below_at : (n : ℕ) (places : List ℕ) → All (λ place. place < n) places → (k p : ℕ) → slice_get places k ≡ Some p → p < n
below_at n places below k p at =
    subst (λ q. q < n) (get_or_from_slice_get places k p p at) (below k p (slice_get_within places k p at))

pub at_place : (list : List SupposedEntry) (places : List ℕ) → AreBelow list places → (k p : ℕ) → slice_get places k ≡ Some p
    → p < length list
at_place list places = below_at (length list) places

pub below_front : (list : List SupposedEntry) (places : List ℕ) (n : ℕ) → AreBelow list places → AreBelow list (take n places)
below_front list places n below =
    all_by_place (λ place. place < length list) (take n places)
    (λ k p at. let there = from_take places n k p at in at_place list places below k p there.1)

pub from_drop : {A : Type 0} (n : ℕ) (xs : List A) (k : ℕ) (x : A) → slice_get (drop n xs) k ≡ Some x → slice_get xs (n + k) ≡ Some x
from_drop zero xs k x at = let same : 0 + k ≡ k = omega arith in ap (slice_get xs) same ∙ at
from_drop (suc n) [] k x at = absurd (cc)
from_drop (suc n) (y ∷ ys) k x at =
    let same : suc n + k ≡ suc (n + k) = omega arith in ap (slice_get (y ∷ ys)) same ∙ from_drop n ys k x at

pub below_rest : (list : List SupposedEntry) (places : List ℕ) (n : ℕ) → AreBelow list places → AreBelow list (drop n places)
below_rest list places n below =
    all_by_place (λ place. place < length list) (drop n places)
    (λ k p at. at_place list places below (n + k) p (from_drop n places k p at))

pub entries_front : (list : List SupposedEntry) (places : List ℕ) (n : ℕ) → AreBelow list places
    → entries_at list (take n places) ≡ take n (entries_at list places)
entries_front list places n below =
    somes_same (entries_at list (take n places)) (take n (entries_at list places))
    (sym (chosen_at list (take n places) (below_front list places n below)) ∙ sym (take-map (slice_get list) n places)
    ∙ ap (take n) (chosen_at list places below) ∙ take-map Some n (entries_at list places))

pub entries_rest : (list : List SupposedEntry) (places : List ℕ) (n : ℕ) → AreBelow list places
    → entries_at list (drop n places) ≡ drop n (entries_at list places)
entries_rest list places n below =
    somes_same (entries_at list (drop n places)) (drop n (entries_at list places))
    (sym (chosen_at list (drop n places) (below_rest list places n below)) ∙ sym (drop-map (slice_get list) n places)
    ∙ ap (drop n) (chosen_at list places below) ∙ drop-map Some n (entries_at list places))

-- ---- all places of a list

-- what stands in a row of numbers
number_at : (first n k p : ℕ) → slice_get (numbers_from first n) k ≡ Some p → (p ≡ first + k) × (k < n)
number_at first zero k p at = absurd (cc)
number_at first (suc n) zero p at =
    let same : first ≡ p = same_Some first p at in (omega (arith, same), omega arith)
number_at first (suc n) (suc k) p at =
    let later = number_at (first + 1) n k p at in (omega (arith, later.0), omega (arith, later.1))

pub all_below : (list : List SupposedEntry) → AreBelow list (numbers_from 0 (length list))
all_below list =
    all_by_place (λ place. place < length list) (numbers_from 0 (length list))
    (λ k p at. let there = number_at 0 (length list) k p at in omega (arith, there.0, there.1))

pub all_entries : (list : List SupposedEntry) → entries_at list (numbers_from 0 (length list)) ≡ list
all_entries list = from [] list
  where
    from : (before rest : List SupposedEntry) → entries_at (before ++ rest) (numbers_from (length before) (length rest)) ≡ rest
    from before [] = refl
    from before (x ∷ xs) =
        let place : length before ≡ length before + 0 = omega arith in
        let here : slice_get (before ++ x ∷ xs) (length before) ≡ Some x =
        ap (slice_get (before ++ x ∷ xs)) place ∙ get_behind before (x ∷ xs) 0 x refl in
        let next : length before + 1 ≡ length (before ++ x ∷ []) = sym (length-append before (x ∷ [])) in
        let moved : entries_at (before ++ x ∷ xs) (numbers_from (length before + 1) (length xs))
        ≡ entries_at ((before ++ x ∷ []) ++ xs) (numbers_from (length (before ++ x ∷ [])) (length xs)) =
        ap (λ es. entries_at es (numbers_from (length before + 1) (length xs))) (sym (append_assoc before (x ∷ []) xs))
        ∙ ap (λ n. entries_at ((before ++ x ∷ []) ++ xs) (numbers_from n (length xs))) next in
        ap (λ o. cons_option o (entries_at (before ++ x ∷ xs) (numbers_from (length before + 1) (length xs)))) here
        ∙ ap (λ es. x ∷ es) (moved ∙ from (before ++ x ∷ []) xs)

pub all_ascend : (n : ℕ) → AreAscending nat_cmp (numbers_from 0 n)
all_ascend n i j a b lt at_i at_j =
    let first = number_at 0 n i a at_i in
    let second = number_at 0 n j b at_j in
    sym (nat_cmp_is a b Less (omega (arith, lt, first.0, second.0)))

-- ---- ascending places

-- each of these is less than each of those
abbrev pub AreBefore : List ℕ → List ℕ → Type 0
AreBefore xs ys = (i j a b : ℕ) → slice_get xs i ≡ Some a → slice_get ys j ≡ Some b → nat_cmp a b ≡ Less

pub ascend_push : (xs : List ℕ) (p : ℕ) → AreAscending nat_cmp xs → AreBefore xs (p ∷ []) → AreAscending nat_cmp (xs ++ p ∷ [])
ascend_push xs p ascend before i j a b lt at_i at_j =
    elim (push_cases xs p j b at_j) [
      | inl later ↦
          elim (push_cases xs p i a at_i) [
            | inl early ↦ ascend i j a b lt early later
            | inr last ↦ absurd (omega (arith, lt, last.0, slice_get_within xs j b later))
          ]
      | inr end ↦
          elim (push_cases xs p i a at_i) [
            | inl early ↦ before i 0 a b early (ap Some (sym end.1))
            | inr last ↦ absurd (omega (arith, lt, last.0, end.0))
          ]
    ]

pub ascend_front : (places : List ℕ) (n : ℕ) → AreAscending nat_cmp places → AreAscending nat_cmp (take n places)
ascend_front places n ascend i j a b lt at_i at_j =
    ascend i j a b lt (from_take places n i a at_i).1 (from_take places n j b at_j).1

pub ascend_rest : (places : List ℕ) (n : ℕ) → AreAscending nat_cmp places → AreAscending nat_cmp (drop n places)
ascend_rest places n ascend i j a b lt at_i at_j =
    ascend (n + i) (n + j) a b (omega (arith, lt)) (from_drop n places i a at_i) (from_drop n places j b at_j)

pub front_before : (places : List ℕ) (from to : ℕ) → from ≤ to → AreAscending nat_cmp places
    → AreBefore (take from places) (drop to places)
front_before places from to few ascend i j a b at_i at_j =
    let front = from_take places from i a at_i in
    ascend i (to + j) a b (omega (arith, few, front.0)) front.1 (from_drop to places j b at_j)

-- one place more, which is behind all that are there
module _ (n : ℕ) (places : List ℕ) (below : All (λ place. place < n) places) where
  pub below_next : All (λ place. place < n + 1) places
  below_next = all_by_place (λ place. place < n + 1) places (λ k p at. omega (arith, below_at n places below k p at))

  pub below_more : All (λ place. place < n + 1) (places ++ n ∷ [])
  below_more = all_by_place (λ place. place < n + 1) (places ++ n ∷ []) each
    where
      each : (k q : ℕ) → slice_get (places ++ n ∷ []) k ≡ Some q → q < n + 1
      each k q at =
          elim (push_cases places n k q at) [
            | inl early ↦ omega (arith, below_at n places below k q early)
            | inr last ↦ omega (arith, last.1)
          ]

  pub ascend_more : AreAscending nat_cmp places → AreAscending nat_cmp (places ++ n ∷ [])
  ascend_more ascend = ascend_push places n ascend before
    where
      before : AreBefore places (n ∷ [])
      before i j a b at_i at_j =
          let here = get_single n b j at_j in
          sym (nat_cmp_is a b Less (omega (arith, below_at n places below i a at_i, here.1)))
