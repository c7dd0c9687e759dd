-- Lists of streams, in which each is to stand once.
use Rattle.std.proofs.Common.{◌≡◌, ℕ, zero, suc, ◌+◌, ◌<◌, ◌≤◌, ◌==◌, Bool, true, false, true≢false, cond, not, ◌&&◌, ◌||◌, List, [], ◌∷◌, ◌++◌, length, get_or, set, refl, sym, ap, ◌∙◌, append_assoc, arith, take, drop, add-zero, zero-add, subst, Some, None, slice_get, All, eq-eqb}
use Rattle.std.proofs.Math.Bool.{or_assoc}
use Rattle.std.proofs.lemmas.Bool.{eqb-false, eqb-true, or_right, not-false}
use Rattle.std.proofs.lemmas.List.{append-nil, at_drop_all, at_drop_more, drop_more, get_or-append-add, get_or_append_left, get_or-set_same, get_or-set_other, length-append, length-set, take_all, take_more}
use Rattle.std.proofs.lemmas.List.Concat.{flat_map-append}
use Rattle.std.proofs.lemmas.List.Folds.{list_any-append}
use Rattle.std.proofs.lemmas.Option.{same_Some}
use Rattle.std.specs.List.{flat_map, list_any, list_all}
use Rattle.lemmas.specs.Lists.{numbers_from}
use Rattle.stream_map.specs.Served.{AreMarks, is_stream_among, has_repeat, has_missing, streams_in}
use Rattle.stream_map.specs.Faults.{served_fault}
use Rattle.stream_map.specs.declared.fault.MapFault.TheVariants.{Doubled, Unserved}
use Rattle.transcript_model.specs.declared.head.Pool.{Pool}
use Rattle.lemmas.proofs.Bools.{left_false, right_false, or_true, or_false}

-- ---- bools

either_true : (a b : Bool) → (a || b) ≡ true → (a ≡ false → b ≡ true)
either_true true b e = λ h. absurd (true≢false h)
either_true false b e = λ h. e

-- ---- repeats

pub has_repeat-append : (before xs ys : List ℕ)
    → has_repeat before (xs ++ ys) ≡ (has_repeat before xs || has_repeat (before ++ xs) ys)
has_repeat-append before [] ys = ap (λ b. has_repeat b ys) (sym (append-nil before))
has_repeat-append before (x ∷ xs) ys =
    ap (λ b. is_stream_among x before || b) (has_repeat-append (before ++ x ∷ []) xs ys
    ∙ ap (λ b. has_repeat (before ++ x ∷ []) xs || has_repeat b ys) (append_assoc before (x ∷ []) xs))
    ∙ sym (or_assoc (is_stream_among x before) (has_repeat (before ++ x ∷ []) xs) (has_repeat (before ++ x ∷ xs) ys))

among_itself : (s : ℕ) (ks : List ℕ) → is_stream_among s (s ∷ ks) ≡ true
among_itself s ks = ap (λ b. b || is_stream_among s ks) (eq-eqb s s refl)

among_at : (ks : List ℕ) (a s : ℕ) → slice_get ks a ≡ Some s → is_stream_among s ks ≡ true
among_at [] a s at = absurd (cc)
among_at (k ∷ ks) zero s at =
    ap (λ x. is_stream_among x (k ∷ ks)) (sym (same_Some k s at)) ∙ among_itself k ks
among_at (k ∷ ks) (suc a) s at = or_right (k == s) _ (among_at ks a s at)

not_among_parts : (s : ℕ) (xs ys : List ℕ) → is_stream_among s (xs ++ ys) ≡ false
    → (is_stream_among s xs ≡ false) × (is_stream_among s ys ≡ false)
not_among_parts s xs ys absent =
    let e = sym (list_any-append (λ k. k == s) xs ys) ∙ absent in
    (left_false (is_stream_among s xs) (is_stream_among s ys) e, right_false (is_stream_among s xs) (is_stream_among s ys) e)

-- what stands in a list without repeats doesn't stand before it
pub not_before : (before ks : List ℕ) → has_repeat before ks ≡ false → (a s : ℕ)
    → slice_get ks a ≡ Some s → is_stream_among s before ≡ false
not_before before [] once a s at = absurd (cc)
not_before before (k ∷ ks) once zero s at =
    ap (λ x. is_stream_among x before) (sym (same_Some k s at)) ∙ left_false (is_stream_among k before) _ once
not_before before (k ∷ ks) once (suc a) s at =
    (not_among_parts s before (k ∷ []) (not_before (before ++ k ∷ []) ks (right_false (is_stream_among k before) _ once) a s at)).0

first_alone : (before : List ℕ) (k : ℕ) (ks : List ℕ) → has_repeat before (k ∷ ks) ≡ false → (b : ℕ)
    → slice_get ks b ≡ Some k → ⊥
first_alone before k ks once b at =
    let no = (not_among_parts k before (k ∷ []) (not_before (before ++ k ∷ []) ks (right_false (is_stream_among k before) _ once) b k at)).1
    in
    true≢false (sym (among_itself k []) ∙ no)

-- no stream stands at two places
pub one_place : (before ks : List ℕ) → has_repeat before ks ≡ false → (a b s : ℕ)
    → slice_get ks a ≡ Some s → slice_get ks b ≡ Some s → a ≡ b
one_place before [] once a b s at_a at_b = absurd (cc)
one_place before (k ∷ ks) once zero zero s at_a at_b = refl
one_place before (k ∷ ks) once zero (suc b) s at_a at_b =
    absurd (first_alone before k ks once b (at_b ∙ sym at_a))
one_place before (k ∷ ks) once (suc a) zero s at_a at_b =
    absurd (first_alone before k ks once a (at_a ∙ sym at_b))
one_place before (k ∷ ks) once (suc a) (suc b) s at_a at_b =
    ap suc (one_place (before ++ k ∷ []) ks (right_false (is_stream_among k before) _ once) a b s at_a at_b)

-- ---- streams of pools

module _ {P : Type 0} (streams : P → List ℕ) where
  parts : (before : List ℕ) (p : P) (ps : List P)
      → has_repeat before (flat_map streams (p ∷ ps)) ≡ false
      → (has_repeat before (streams p) ≡ false) × (has_repeat (before ++ streams p) (flat_map streams ps) ≡ false)
  parts before p ps once =
      let e = sym (has_repeat-append before (streams p) (flat_map streams ps)) ∙ once in
      (left_false _ _ e, right_false _ _ e)

  not_before_pools : (before : List ℕ) (ps : List P)
      → has_repeat before (flat_map streams ps) ≡ false → (k b s : ℕ) (q : P)
      → slice_get ps k ≡ Some q → slice_get (streams q) b ≡ Some s
      → is_stream_among s before ≡ false
  not_before_pools before [] once k b s q at_k at_b = absurd (cc)
  not_before_pools before (p ∷ ps) once zero b s q at_k at_b =
      not_before before (streams p) (parts before p ps once).0 b s (ap (λ (r : P). slice_get (streams r) b) (same_Some p q at_k) ∙ at_b)
  not_before_pools before (p ∷ ps) once (suc k) b s q at_k at_b =
      (not_among_parts s before (streams p) (not_before_pools (before ++ streams p) ps (parts before p ps once).1 k b s q at_k at_b)).0

  other_pool : (before : List ℕ) (p : P) (ps : List P)
      → has_repeat before (flat_map streams (p ∷ ps)) ≡ false → (k a b s : ℕ) (q r : P)
      → Some p ≡ Some r → slice_get ps k ≡ Some q
      → slice_get (streams r) a ≡ Some s → slice_get (streams q) b ≡ Some s → ⊥
  other_pool before p ps once k a b s q r is at_k at_a at_b =
      let no = (not_among_parts s before (streams p)
      (not_before_pools (before ++ streams p) ps (parts before p ps once).1 k b s q at_k at_b)).1 in
      true≢false (sym (among_at (streams p) a s (ap (λ (x : P). slice_get (streams x) a) (same_Some p r is) ∙ at_a)) ∙ no)

  pub once_in_pools : (before : List ℕ) (ps : List P)
      → has_repeat before (flat_map streams ps) ≡ false → (j k a b s : ℕ) (p q : P)
      → slice_get ps j ≡ Some p → slice_get ps k ≡ Some q
      → slice_get (streams p) a ≡ Some s → slice_get (streams q) b ≡ Some s → (j ≡ k) × (a ≡ b)
  once_in_pools before [] once j k a b s p q at_j at_k at_a at_b = absurd (cc)
  once_in_pools before (x ∷ ps) once zero zero a b s p q at_j at_k at_a at_b = (
    refl,
    one_place before (streams x) (parts before x ps once).0 a b s
        (ap (λ (r : P). slice_get (streams r) a) (same_Some x p at_j) ∙ at_a)
        (ap (λ (r : P). slice_get (streams r) b) (same_Some x q at_k) ∙ at_b),
  )
  once_in_pools before (x ∷ ps) once zero (suc k) a b s p q at_j at_k at_a at_b =
      absurd (other_pool before x ps once k a b s q p at_j at_k at_a at_b)
  once_in_pools before (x ∷ ps) once (suc j) zero a b s p q at_j at_k at_a at_b =
      absurd (other_pool before x ps once j b a s p q at_k at_j at_b at_a)
  once_in_pools before (x ∷ ps) once (suc j) (suc k) a b s p q at_j at_k at_a at_b =
      let rest = once_in_pools (before ++ streams x) ps (parts before x ps once).1 j k a b s p q at_j at_k at_a at_b in
      (ap suc rest.0, rest.1)

  abbrev pub IsOf : List P → ℕ → Type 0
  IsOf ps s = (k : ℕ) × (p : P) × (slice_get ps k ≡ Some p) × (is_stream_among s (streams p) ≡ true)

  -- a stream among those of all pools is one of a pool
  pub pool_of_stream : (ps : List P) (s : ℕ) → is_stream_among s (flat_map streams ps) ≡ true → IsOf ps s
  pool_of_stream [] s among = absurd (true≢false (sym among))
  pool_of_stream (p ∷ ps) s among = here (is_stream_among s (streams p)) refl (λ e. pool_of_stream ps s e)
    where
      whole : (is_stream_among s (streams p) || is_stream_among s (flat_map streams ps)) ≡ true
      whole = sym (list_any-append (λ k. k == s) (streams p) (flat_map streams ps)) ∙ among

      here : (b : Bool) → is_stream_among s (streams p) ≡ b
          → (is_stream_among s (flat_map streams ps) ≡ true → IsOf ps s) → IsOf (p ∷ ps) s
      here true is later = (0, p, refl, is)
      here false is later =
          let found = later (either_true (is_stream_among s (streams p)) _ whole is) in
          (suc found.0, found.1, found.2, found.3)

-- ---- streams that stand nowhere

next_one : (first s : ℕ) → first ≤ s → (first == s) ≡ false → first + 1 ≤ s
next_one first s from e = let other = eqb-false first s e in omega (arith, from, other)

pub each_among : (first n : ℕ) (ks : List ℕ)
    → list_any (λ s. not (is_stream_among s ks)) (numbers_from first n) ≡ false → (s : ℕ) → first ≤ s
    → s < first + n → is_stream_among s ks ≡ true
each_among first zero ks none s from to = absurd (omega (arith, from, to))
each_among first (suc n) ks none s from to =
    split (first == s) refl
    (λ above. each_among (first + 1) n ks (right_false (not (is_stream_among first ks)) _ none) s above (omega (arith, to)))
  where
    split : (b : Bool) → (first == s) ≡ b → (first + 1 ≤ s → is_stream_among s ks ≡ true)
        → is_stream_among s ks ≡ true
    split true e later =
        ap (λ k. is_stream_among k ks) (sym (eqb-true first s e))
        ∙ not-false (is_stream_among first ks) (left_false _ _ none)
    split false e later = later (next_one first s from e)

-- ---- marks

-- marks from a number on tell which of the streams is missing
missing_from : (first : ℕ) (ks : List ℕ) (marks : List Bool)
    → ((k : ℕ) (d : Bool) → k < length marks → get_or marks k d ≡ is_stream_among (first + k) ks)
    → list_all (λ b. b) marks ≡ not (list_any (λ s. not (is_stream_among s ks)) (numbers_from first (length marks)))
missing_from first ks [] are = refl
missing_from first ks (m ∷ ms) are =
    let here : m ≡ is_stream_among first ks = are 0 m (omega arith) ∙ ap (λ k. is_stream_among k ks) (add-zero first) in
    let later =
    missing_from (first + 1) ks ms (λ k d lt. are (suc k) d (omega (arith, lt)) ∙ ap (λ n. is_stream_among n ks) (shifted first k)) in
    (λ i. here i && later i)
    ∙ de_morgan (is_stream_among first ks) (list_any (λ s. not (is_stream_among s ks)) (numbers_from (first + 1) (length ms)))
  where
    shifted : (a b : ℕ) → a + suc b ≡ a + 1 + b
    shifted a b = omega arith

    de_morgan : (a b : Bool) → (a && not b) ≡ not (not a || b)
    de_morgan true b = refl
    de_morgan false b = refl

pub no_missing : (ks : List ℕ) (marks : List Bool) → AreMarks ks marks
    → list_all (λ b. b) marks ≡ not (has_missing (length marks) ks)
no_missing ks marks are =
    missing_from 0 ks marks (λ k d lt. are k d lt ∙ ap (λ n. is_stream_among n ks) (sym (zero-add k)))

-- one more is marked
pub mark_more : (ks : List ℕ) (marks : List Bool) (k : ℕ) → k < length marks → AreMarks ks marks
    → AreMarks (ks ++ k ∷ []) (set marks k true)
mark_more ks marks k within are stream d lt = split (k == stream) refl
  where
    with_it : (b : Bool) → (k == stream) ≡ b
        → is_stream_among stream (ks ++ k ∷ []) ≡ (is_stream_among stream ks || (b || false))
    with_it b e =
        list_any-append (λ s. s == stream) ks (k ∷ [])
        ∙ ap (λ c. is_stream_among stream ks || (c || false)) e

    split : (b : Bool) → (k == stream) ≡ b
        → get_or (set marks k true) stream d ≡ is_stream_among stream (ks ++ k ∷ [])
    split true e =
        ap (λ n. get_or (set marks k true) n d) (sym (eqb-true k stream e)) ∙ get_or-set_same marks k true d within
        ∙ sym (or_true (is_stream_among stream ks)) ∙ sym (with_it true e)
    split false e =
        get_or-set_other marks k stream true d (λ same. eqb-false k stream e (sym same))
        ∙ are stream d (omega (arith, lt, length-set marks k true)) ∙ sym (or_false (is_stream_among stream ks)) ∙ sym (with_it false e)

-- ---- a step along the streams

pub repeat_more : (before ks : List ℕ) (i k : ℕ) → i < length ks → k ≡ get_or ks i 0
    → is_stream_among k (before ++ take i ks) ≡ false
    → has_repeat (before ++ take i ks) (drop i ks) ≡ has_repeat (before ++ take (i + 1) ks) (drop (i + 1) ks)
repeat_more before ks i k within is fresh =
    at_drop_more (has_repeat (before ++ take i ks)) ks i 0 within
    ∙ ap (λ b. b || has_repeat (before ++ take i ks ++ get_or ks i 0 ∷ []) (drop (i + 1) ks))
    (ap (λ n. is_stream_among n (before ++ take i ks)) (sym is) ∙ fresh)
    ∙ ap (λ ns. has_repeat ns (drop (i + 1) ks))
    (append_assoc before (take i ks) (get_or ks i 0 ∷ []) ∙ ap (λ ns. before ++ ns) (sym (take_more ks i 0 within)))

-- ---- pools one after another

all_left : (P : ℕ → Type 0) (xs ys : List ℕ) → All P (xs ++ ys) → All P xs
all_left P xs ys all k d lt =
    subst P (get_or_append_left xs ys d k lt) (all k d (omega (arith, lt, length-append xs ys)))

all_right : (P : ℕ → Type 0) (xs ys : List ℕ) → All P (xs ++ ys) → All P ys
all_right P xs ys all k d lt = subst P (get_or-append-add xs ys k d) (all (length xs + k) d (omega (arith, lt, length-append xs ys)))

-- what holds of all pools' streams holds of one's
pub all_of_pool : (P : ℕ → Type 0) (pools : List Pool) (i : ℕ) (pool : Pool) → i < length pools
    → pool ≡ get_or pools i pool → All P (streams_in pools) → All P pool.streams
all_of_pool P [] i pool within is all = absurd (omega (arith, within))
all_of_pool P (p ∷ ps) zero pool within is all =
    subst (λ (q : Pool). All P q.streams) (sym is) (all_left P p.streams (streams_in ps) all)
all_of_pool P (p ∷ ps) (suc i) pool within is all =
    all_of_pool P ps i pool (omega (arith, within)) is (all_right P p.streams (streams_in ps) all)

module _ (pools : List Pool) (i : ℕ) (pool : Pool) (within : i < length pools) (is : pool ≡ get_or pools i pool) where
  pub streams_more : streams_in (take (i + 1) pools) ≡ streams_in (take i pools) ++ pool.streams
  streams_more =
      ap streams_in (take_more pools i pool within ∙ ap (λ p. take i pools ++ p ∷ []) (sym is))
      ∙ flat_map-append (λ (p : Pool). p.streams) (take i pools) (pool ∷ [])
      ∙ ap (λ ks. streams_in (take i pools) ++ ks) (append-nil pool.streams)

  here_and_later : has_repeat (streams_in (take i pools)) (streams_in (drop i pools))
      ≡ (has_repeat (streams_in (take i pools)) pool.streams
      || has_repeat (streams_in (take (i + 1) pools)) (streams_in (drop (i + 1) pools)))
  here_and_later =
      ap (λ ps. has_repeat (streams_in (take i pools)) (streams_in ps))
      (drop_more pools i pool within ∙ ap (λ p. p ∷ drop (i + 1) pools) (sym is))
      ∙ has_repeat-append (streams_in (take i pools)) pool.streams (streams_in (drop (i + 1) pools))
      ∙ ap (λ ks. has_repeat (streams_in (take i pools)) pool.streams || has_repeat ks (streams_in (drop (i + 1) pools))) (sym streams_more)

  -- a repeat in the pool is one of all
  pub doubled_here : has_repeat [] (streams_in pools) ≡ has_repeat (streams_in (take i pools)) (streams_in (drop i pools))
      → has_repeat (streams_in (take i pools)) pool.streams ≡ true
      → (count : ℕ) → Some Doubled ≡ served_fault count (streams_in pools)
  doubled_here so_far old count =
      let found =
      so_far ∙ here_and_later ∙ ap (λ b. b || has_repeat (streams_in (take (i + 1) pools)) (streams_in (drop (i + 1) pools))) old in
      ap (λ b. cond b (Some Doubled) (cond (has_missing count (streams_in pools)) (Some Unserved) None)) (sym found)

  pub repeats_more : has_repeat [] (streams_in pools) ≡ has_repeat (streams_in (take i pools)) (streams_in (drop i pools))
      → has_repeat (streams_in (take i pools)) pool.streams ≡ false
      → has_repeat [] (streams_in pools) ≡ has_repeat (streams_in (take (i + 1) pools)) (streams_in (drop (i + 1) pools))
  repeats_more so_far fresh =
      so_far ∙ here_and_later ∙ ap (λ b. b || has_repeat (streams_in (take (i + 1) pools)) (streams_in (drop (i + 1) pools))) fresh

not_not : (a b : Bool) → a ≡ not b → b ≡ not a
not_not a true e = ap not (sym e)
not_not a false e = ap not (sym e)

-- behind the last pool the marks tell the rest
pub served_end : (count : ℕ) (pools : List Pool) (i : ℕ) (marks : List Bool) → length pools ≤ i
    → length marks ≡ count → AreMarks (streams_in (take i pools)) marks
    → has_repeat [] (streams_in pools) ≡ has_repeat (streams_in (take i pools)) (streams_in (drop i pools)) → (all : Bool)
    → all ≡ list_all (λ b. b) marks
    → cond all None (Some Unserved) ≡ served_fault count (streams_in pools)
served_end count pools i marks past counted are so_far all is =
    let fresh : has_repeat [] (streams_in pools) ≡ false =
    so_far ∙ at_drop_all (λ ps. has_repeat (streams_in (take i pools)) (streams_in ps)) pools i past in
    let told : has_missing count (streams_in pools) ≡ not all =
    not_not all (has_missing count (streams_in pools))
    (is ∙ no_missing (streams_in (take i pools)) marks are
    ∙ (λ j. not (has_missing (counted j) (streams_in (take_all i pools past j))))) in
    ends all (has_repeat [] (streams_in pools)) (has_missing count (streams_in pools)) fresh told
  where
    ends : (a b c : Bool) → b ≡ false → c ≡ not a
        → cond a None (Some Unserved) ≡ cond b (Some Doubled) (cond c (Some Unserved) None)
    ends true b c e h = (λ j. cond (sym e j) (Some Doubled) (cond (sym h j) (Some Unserved) None))
    ends false b c e h = (λ j. cond (sym e j) (Some Doubled) (cond (sym h j) (Some Unserved) None))

-- ---- a step of marking

pub mark_next : (before ks : List ℕ) (marks : List Bool) (i : ℕ) → i < length ks
    → get_or ks i 0 < length marks → AreMarks (before ++ take i ks) marks
    → AreMarks (before ++ take (i + 1) ks) (set marks (get_or ks i 0) true)
mark_next before ks marks i within low are =
    let same : before ++ take i ks ++ get_or ks i 0 ∷ [] ≡ before ++ take (i + 1) ks =
    append_assoc before (take i ks) (get_or ks i 0 ∷ []) ∙ ap (λ ns. before ++ ns) (sym (take_more ks i 0 within)) in
    let P : List ℕ → Type 0 = λ ns. AreMarks ns (set marks (get_or ks i 0) true) in
    subst P same (mark_more (before ++ take i ks) marks (get_or ks i 0) low are)

pub marks_end : (before ks : List ℕ) (marks : List Bool) (i : ℕ) → length ks ≤ i
    → AreMarks (before ++ take i ks) marks → AreMarks (before ++ ks) marks
marks_end before ks marks i past are =
    let P : List ℕ → Type 0 = λ ns. AreMarks (before ++ ns) marks in
    subst P (take_all i ks past) are
