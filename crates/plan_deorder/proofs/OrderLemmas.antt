-- Steps in the order of a listing that keeps theirs, and stages.
use Rattle.std.proofs.Common.{◌≡◌, ℕ, zero, suc, ◌+◌, ◌<◌, ◌≤◌, ◌==◌, true, false, List, [], ◌∷◌, ◌++◌, length, refl, sym, ap, ◌∙◌, subst, arith, Contains, inl, inr, Some, eqb-true, eq-eqb}
use Rattle.std.proofs.lemmas.List.{append_assoc, length-append}
use Rattle.std.proofs.lemmas.List.Elements.{Contains-append_left, Contains-append_right, Contains-append_cases}
use Rattle.std.proofs.lemmas.Option.{same_Some}
use Rattle.lemmas.proofs.Ascending.{contains_none, contains_here, contains_later, contains_cases}
use Rattle.lemmas.proofs.Distinct.{distinct_tail, head_is_new}
use Rattle.lemmas.proofs.Members.{place_of, get_behind}
use Rattle.lemmas.specs.Lists.{AreDistinct, numbers_from}
use Rattle.task_model.specs.Known.{Known}
use Rattle.task_model.specs.Plans.{Executes}
use Rattle.task_model.specs.State.{Atoms}
use Rattle.task_model.specs.declared.task.GroundAction.{GroundAction}
use Rattle.task_model.specs.declared.task.Task.{Task}
use Rattle.plan_deorder.proofs.SwapLemmas.{goes_first}
use Rattle.plan_deorder.specs.Orders.{AreListed, ConflictAt, IsOrder, Keeps, Pair, StandsBefore, step_at}
use Rattle.plan_deorder.specs.Touches.{StepsConflict}

-- ---- numbers that rise

abbrev RisesOn : List ℕ → Type 0
RisesOn [] = Unit {0}
RisesOn (n ∷ ns) = ((m : ℕ) → Contains ns m → n < m) × RisesOn ns

pub lowest : (first count m : ℕ) → Contains (numbers_from first count) m → (first ≤ m) × (m < first + count)
lowest first zero m c = absurd (contains_none m c)
lowest first (suc count) m c =
    elim (contains_cases first (numbers_from (first + 1) count) m c) [
      | inl same ↦ (omega (arith, same), omega (arith, same))
      | inr later ↦ let r = lowest (first + 1) count m later in (omega (arith, r.0), omega (arith, r.1))
    ]

pub highest : (first count m : ℕ) → first ≤ m → m < first + count → Contains (numbers_from first count) m
highest first zero m low high = absurd (omega (arith, low, high))
highest first (suc count) m low high =
    elim (first == m) as (λ b. (first == m) ≡ b → Contains (first ∷ numbers_from (first + 1) count) m) [
      | true ↦ λ e. subst (Contains (first ∷ numbers_from (first + 1) count)) (eqb-true first m e)
          (contains_here first (numbers_from (first + 1) count))
      | false ↦ λ e.
          let other : ¬ (first ≡ m) = λ same. let t : true ≡ false = sym (eq-eqb first m same) ∙ e in absurd (cc) in
          contains_later first (numbers_from (first + 1) count) m
          (highest (first + 1) count m (omega (arith, low, other)) (omega (arith, high)))
    ] refl

numbers_rise : (first count : ℕ) → RisesOn (numbers_from first count)
numbers_rise first zero = tt
numbers_rise first (suc count) =
    (λ m c. let r = lowest (first + 1) count m c in omega (arith, r.0), numbers_rise (first + 1) count)

before_less : (before later : List ℕ) (n b : ℕ) → RisesOn (before ++ n ∷ later) → Contains before b → b < n
before_less [] later n b rises c = absurd (contains_none b c)
before_less (m ∷ before) later n b rises c =
    elim (contains_cases m before b c) [
      | inl same ↦ subst (λ k. k < n) same (rises.0 n (Contains-append_right before (n ∷ later) n (contains_here n later)))
      | inr there ↦ before_less before later n b rises.1 there
    ]

later_more : (before later : List ℕ) (n b : ℕ) → RisesOn (before ++ n ∷ later) → Contains later b → n < b
later_more [] later n b rises c = rises.0 b c
later_more (m ∷ before) later n b rises c = later_more before later n b rises.1 c

left_rises : (before later : List ℕ) (n : ℕ) → RisesOn (before ++ n ∷ later) → RisesOn (before ++ later)
left_rises [] later n rises = rises.1
left_rises (m ∷ before) later n rises =
    (λ k c. rises.0 k (widen k c), left_rises before later n rises.1)
  where
    widen : (k : ℕ) → Contains (before ++ later) k → Contains (before ++ n ∷ later) k
    widen k c =
        elim (Contains-append_cases before later k c) [
          | inl h ↦ Contains-append_left before (n ∷ later) k h
          | inr h ↦ Contains-append_right before (n ∷ later) k (contains_later n later k h)
        ]

-- a list is cut at a member
record Cut (xs : List ℕ) (n : ℕ) : Type 0 where
  pub before : List ℕ
  pub later : List ℕ
  pub is : xs ≡ before ++ n ∷ later

cut_at : (xs : List ℕ) (n : ℕ) → Contains xs n → Cut xs n
cut_at [] n c = absurd (contains_none n c)
cut_at (x ∷ xs) n c =
    elim (contains_cases x xs n c) [
      | inl same ↦ record { before = []; later = xs; is = ap (λ m. m ∷ xs) same }
      | inr there ↦ let r = cut_at xs n there in record { before = x ∷ r.before; later = r.later; is = ap (λ ys. x ∷ ys) r.is }
    ]

-- ---- steps by their numbers

module _ (task : Task) (known : Known) (steps : List GroundAction) where
  -- these are the steps of these numbers
  abbrev AreAt : List ℕ → List GroundAction → Type 0
  AreAt [] [] = Unit {0}
  AreAt [] (s ∷ ss) = ⊥
  AreAt (n ∷ ns) [] = ⊥
  AreAt (n ∷ ns) (s ∷ ss) = (step_at steps n ≡ Some s) × AreAt ns ss

  record CutAt (before : List ℕ) (n : ℕ) (later : List ℕ) (plan : List GroundAction) : Type 0 where
    pub front : List GroundAction
    pub step : GroundAction
    pub rest : List GroundAction
    pub is : plan ≡ front ++ step ∷ rest
    pub at_front : AreAt before front
    pub at_step : step_at steps n ≡ Some step
    pub at_rest : AreAt later rest

  cut_plan : (before : List ℕ) (n : ℕ) (later : List ℕ) (plan : List GroundAction) → AreAt (before ++ n ∷ later) plan
      → CutAt before n later plan
  cut_plan [] n later [] are = absurd are
  cut_plan [] n later (s ∷ plan) are =
      record { front = []; step = s; rest = plan; is = refl; at_front = tt; at_step = are.0; at_rest = are.1 }
  cut_plan (b ∷ before) n later [] are = absurd are
  cut_plan (b ∷ before) n later (s ∷ plan) are =
      let r = cut_plan before n later plan are.1 in
      record {
        front = s ∷ r.front;
        step = r.step;
        rest = r.rest;
        is = ap (λ xs. s ∷ xs) r.is;
        at_front = (are.0, r.at_front);
        at_step = r.at_step;
        at_rest = r.at_rest;
      }

  join_at : (ns ms : List ℕ) (xs ys : List GroundAction) → AreAt ns xs → AreAt ms ys → AreAt (ns ++ ms) (xs ++ ys)
  join_at [] ms [] ys a b = b
  join_at [] ms (x ∷ xs) ys a b = absurd a
  join_at (n ∷ ns) ms [] ys a b = absurd a
  join_at (n ∷ ns) ms (x ∷ xs) ys a b = (a.0, join_at ns ms xs ys a.1 b)

  -- the number of one of them
  numbered : (ns : List ℕ) (xs : List GroundAction) → AreAt ns xs → (s : GroundAction) → Contains xs s
      → (n : ℕ) × Contains ns n × (step_at steps n ≡ Some s)
  numbered [] [] are s c = absurd (contains_none s c)
  numbered [] (x ∷ xs) are s c = absurd are
  numbered (n ∷ ns) [] are s c = absurd are
  numbered (n ∷ ns) (x ∷ xs) are s c =
      elim (contains_cases x xs s c) [
        | inl same ↦ (n, contains_here n ns, are.0 ∙ ap Some same)
        | inr there ↦ let r = numbered ns xs are.1 s there in (r.0, contains_later n ns r.0 r.1, r.2)
      ]

  -- ---- a listing, number by number

  abbrev KeepsAmong : List ℕ → List ℕ → Type 0
  KeepsAmong rest listing =
      (i j : ℕ) → Contains rest i → Contains rest j → i < j → ConflictAt task steps i j → StandsBefore listing i j

  module _ (n : ℕ) (ns before later : List ℕ) (rises : RisesOn (before ++ n ∷ later))
      (distinct : AreDistinct (n ∷ ns)) (into : (m : ℕ) → Contains (n ∷ ns) m → Contains (before ++ n ∷ later) m)
      (out : (m : ℕ) → Contains (before ++ n ∷ later) m → Contains (n ∷ ns) m) where
    widened : (m : ℕ) → Contains (before ++ later) m → Contains (before ++ n ∷ later) m
    widened m c =
        elim (Contains-append_cases before later m c) [
          | inl h ↦ Contains-append_left before (n ∷ later) m h
          | inr h ↦ Contains-append_right before (n ∷ later) m (contains_later n later m h)
        ]

    left_into : (m : ℕ) → Contains ns m → Contains (before ++ later) m
    left_into m c =
        elim (Contains-append_cases before (n ∷ later) m (into m (contains_later n ns m c))) [
          | inl h ↦ Contains-append_left before later m h
          | inr h ↦ elim (contains_cases n later m h) [
            | inl same ↦ absurd (head_is_new n ns distinct (subst (Contains ns) (sym same) c))
            | inr there ↦ Contains-append_right before later m there
          ]
        ]

    not_itself : (m : ℕ) → Contains (before ++ later) m → n ≡ m → ⊥
    not_itself m c same =
        elim (Contains-append_cases before later m c) [
          | inl h ↦ absurd (omega (arith, before_less before later n m rises h, same))
          | inr h ↦ absurd (omega (arith, later_more before later n m rises h, same))
        ]

    left_out : (m : ℕ) → Contains (before ++ later) m → Contains ns m
    left_out m c =
        elim (contains_cases n ns m (out m (widened m c))) [
          | inl same ↦ absurd (not_itself m c same)
          | inr there ↦ there
        ]

    left_keeps : KeepsAmong (before ++ n ∷ later) (n ∷ ns) → KeepsAmong (before ++ later) ns
    left_keeps keeps i j ci cj less conflict k l at_k at_l =
        let r = keeps i j (widened i ci) (widened j cj) less conflict (suc k) (suc l) at_k at_l in omega (arith, r)

    free_before : KeepsAmong (before ++ n ∷ later) (n ∷ ns) → (s : GroundAction) → step_at steps n ≡ Some s
        → (front : List GroundAction) → AreAt before front → (t : GroundAction) → Contains front t → ¬ (StepsConflict task t s)
    free_before keeps s at_s front are t c conflict =
        let b = numbered before front are t c in
        let there = Contains-append_left before (n ∷ later) b.0 b.1 in
        let place = place_of (n ∷ ns) b.0 (out b.0 there) in
        let earlier = keeps b.0 n there (Contains-append_right before (n ∷ later) n (contains_here n later))
        (before_less before later n b.0 rises b.1)
        (record { first = t; second = s; at_first = b.2; at_second = at_s; conflict = conflict }) place.0 0 place.1 refl in
        absurd (omega (arith, earlier))

  -- so it is of each listing of the numbers that are left
  abbrev Again : List ℕ → List GroundAction → Atoms → Type 0
  Again ns others end =
      (left : List ℕ) (steps_left : List GroundAction) → AreAt left steps_left → RisesOn left → AreDistinct ns
      → ((m : ℕ) → Contains ns m → Contains left m) → ((m : ℕ) → Contains left m → Contains ns m)
      → KeepsAmong left ns → (from : Atoms) (price : ℕ)
      → Executes task known from steps_left end price → Executes task known from others end price

  arranged : (ns rest : List ℕ) (others plan : List GroundAction) → AreAt ns others → AreAt rest plan → RisesOn rest
      → AreDistinct ns → ((m : ℕ) → Contains ns m → Contains rest m) → ((m : ℕ) → Contains rest m → Contains ns m)
      → KeepsAmong rest ns → (start end : Atoms) (cost : ℕ)
      → Executes task known start plan end cost → Executes task known start others end cost
  arranged [] [] [] [] a b rises distinct into out keeps start end cost runs = runs
  arranged [] [] [] (p ∷ plan) a b rises distinct into out keeps start end cost runs = absurd b
  arranged [] (r ∷ rest) [] plan a b rises distinct into out keeps start end cost runs =
      absurd (contains_none r (out r (contains_here r rest)))
  arranged [] rest (o ∷ others) plan a b rises distinct into out keeps start end cost runs = absurd a
  arranged (n ∷ ns) rest [] plan a b rises distinct into out keeps start end cost runs = absurd a
  arranged (n ∷ ns) rest (s ∷ others) plan a b rises distinct into out keeps start end cost runs =
      at_cut (cut_at rest n (into n (contains_here n ns)))
      (λ left steps_left at rise once in_left out_left kept from price more.
      arranged ns left others steps_left a.1 at rise once in_left out_left kept from end price more)
    where
      at_cut : Cut rest n → Again ns others end → Executes task known start (s ∷ others) end cost
      at_cut c again =
          let cut_rises = subst RisesOn c.is rises in
          let cut_into : (m : ℕ) → Contains (n ∷ ns) m → Contains (c.before ++ n ∷ c.later) m =
          λ m h. subst (λ xs. Contains xs m) c.is (into m h) in
          let cut_out : (m : ℕ) → Contains (c.before ++ n ∷ c.later) m → Contains (n ∷ ns) m =
          λ m h. out m (subst (λ xs. Contains xs m) (sym c.is) h) in
          let cut_keeps = subst (λ xs. KeepsAmong xs (n ∷ ns)) c.is keeps in
          let p = cut_plan c.before n c.later plan (subst (λ xs. AreAt xs plan) c.is b) in
          let same : p.step ≡ s = same_Some _ _ (sym p.at_step ∙ a.0) in
          let whole = subst (λ xs. Executes task known start xs end cost) p.is runs in
          let first = goes_first task known start end p.front p.rest p.step cost
          (free_before n ns c.before c.later cut_rises distinct cut_into cut_out cut_keeps p.step p.at_step p.front p.at_front) whole in
          let rest_runs = again (c.before ++ c.later) (p.front ++ p.rest)
          (join_at c.before c.later p.front p.rest p.at_front p.at_rest) (left_rises c.before c.later n cut_rises)
          (distinct_tail n ns distinct)
          (left_into n ns c.before c.later cut_rises distinct cut_into cut_out)
          (left_out n ns c.before c.later cut_rises distinct cut_into cut_out)
          (left_keeps n ns c.before c.later cut_rises distinct cut_into cut_out cut_keeps) first.0 first.2 first.4 in
          subst (λ x. Executes task known start (x ∷ others) end cost) same
          (first.0, first.1, first.2, first.3, rest_runs, first.5)

  -- ---- all steps

  from_listed : (listing : List ℕ) (others : List GroundAction) → AreListed steps listing others → AreAt listing others
  from_listed [] [] are = tt
  from_listed [] (o ∷ others) are = absurd (omega (arith, are.long))
  from_listed (n ∷ ns) [] are = absurd (omega (arith, are.long))
  from_listed (n ∷ ns) (o ∷ others) are = (
    sym (are.each 0 n refl),
    from_listed ns others (record { long = omega (arith, are.long); each = λ k m h. are.each (suc k) m h }),
  )

numbered_from : (task : Task) (known : Known) (front xs : List GroundAction)
    → AreAt task known (front ++ xs) (numbers_from (length front + 1) (length xs)) xs
numbered_from task known front [] = tt
numbered_from task known front (x ∷ xs) = (here, behind (numbered_from task known (front ++ x ∷ []) xs))
  where
    here : step_at (front ++ x ∷ xs) (length front + 1) ≡ Some x
    here =
        ap (step_at (front ++ x ∷ xs)) (let e : length front + 1 ≡ suc (length front + 0) = omega arith in e)
        ∙ get_behind front (x ∷ xs) 0 x refl

    behind : AreAt task known ((front ++ x ∷ []) ++ xs) (numbers_from (length (front ++ x ∷ []) + 1) (length xs)) xs
        → AreAt task known (front ++ x ∷ xs) (numbers_from (length front + 1 + 1) (length xs)) xs
    behind are =
        subst (λ n. AreAt task known (front ++ x ∷ xs) (numbers_from n (length xs)) xs)
        (ap (λ n. n + 1) (length-append front (x ∷ [])))
        (subst (λ all. AreAt task known all (numbers_from (length (front ++ x ∷ []) + 1) (length xs)) xs)
        (append_assoc front (x ∷ []) xs) are)

pub kept_order : (task : Task) (known : Known) (steps others : List GroundAction) (pairs : List Pair)
    (stages listing : List ℕ) (start end : Atoms) (cost : ℕ) → IsOrder task steps pairs stages
    → Keeps pairs (length steps) listing → AreListed steps listing others
    → Executes task known start steps end cost → Executes task known start others end cost
kept_order task known steps others pairs stages listing start end cost order keeps are runs =
    arranged task known steps listing (numbers_from 1 (length steps)) others steps
    (from_listed task known steps listing others are) (numbered_from task known [] steps)
    (numbers_rise 1 (length steps)) keeps.listed.once
    (λ m c. let r = (keeps.listed.each m).0 c in highest 1 (length steps) m r.0 (omega (arith, r.1)))
    (λ m c. let r = lowest 1 (length steps) m c in (keeps.listed.each m).1 (r.0, omega (arith, r.1)))
    (λ i j ci cj less conflict. keeps.kept i j ((order.each i j).1 (less, conflict))) start end cost runs
