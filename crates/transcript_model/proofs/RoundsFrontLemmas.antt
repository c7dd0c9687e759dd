-- The longest front of a list that fits: there is one, and only one. So there are rounds and a batch of any instances.
use Rattle.std.proofs.Common.{◌≡◌, ℕ, zero, suc, ◌+◌, ◌<◌, ◌≤◌, Bool, true, false, cond, List, [], ◌∷◌, ◌++◌, length, refl, sym, ap, subst, ◌∙◌, All, arith, nat_le, count_by, append_assoc, take, eq-eqb}
use Rattle.std.proofs.lemmas.Bool.{leb-true, le-leb, and_from, false≢true}
use Rattle.std.proofs.lemmas.List.{length-append}
use Rattle.std.proofs.lemmas.List.Sums.{sum_by-append}
use Rattle.std.proofs.lemmas.List.Elements.{All-head, All-tail}
use Rattle.std.specs.Cmp.{first_so, second_so}
use Rattle.lemmas.proofs.Bools.{cond_le_one}
use Rattle.task_model.specs.declared.stream.Instance.{Instance}
use Rattle.task_model.specs.declared.task.Task.{Task}
use Rattle.transcript_model.specs.Legal.{asks_of}
use Rattle.transcript_model.specs.Rounds.{AreAnswers, AreRounds, AreRoundsRun, IsBatch, IsFull, IsRound, Limits, Share, calls_left, fits, requests, serves}
use Rattle.transcript_model.specs.declared.entry.Entry.{Entry}
use Rattle.transcript_model.specs.declared.entry.Entry.TheVariants as entry

count_front : (f : Instance → Bool) (xs ys : List Instance) → count_by f xs ≤ count_by f (xs ++ ys)
count_front f xs ys = omega (arith, sum_by-append (λ x. cond (f x) 1 0) xs ys)

-- a front of what fits does so
pub fits_front : (pools : List Share) (xs ys : List Instance) → fits pools (xs ++ ys) ≡ true
    → fits pools xs ≡ true
fits_front [] xs ys fit = refl
fits_front (p ∷ ps) xs ys fit =
    let here = leb-true (count_by (serves p) (xs ++ ys)) p.workers
    (first_so (nat_le (count_by (serves p) (xs ++ ys)) p.workers) (fits ps (xs ++ ys)) fit) in
    and_from (nat_le (count_by (serves p) xs) p.workers) (fits ps xs)
    (le-leb (count_by (serves p) xs) p.workers (omega (arith, here, count_front (serves p) xs ys)))
    (fits_front ps xs ys (second_so (nat_le (count_by (serves p) (xs ++ ys)) p.workers) (fits ps (xs ++ ys)) fit))

pub none_fit : (pools : List Share) → fits pools [] ≡ true
none_fit [] = refl
none_fit (p ∷ ps) =
    and_from (nat_le 0 p.workers) (fits ps []) (le-leb 0 p.workers (omega arith)) (none_fit ps)

-- one instance fits where each pool has a worker
pub one_fits : (pools : List Share) (i : Instance) → All (λ (p : Share). 1 ≤ p.workers) pools
    → fits pools (i ∷ []) ≡ true
one_fits [] i some = refl
one_fits (p ∷ ps) i some =
    and_from (nat_le (count_by (serves p) (i ∷ [])) p.workers) (fits ps (i ∷ []))
    (le-leb (count_by (serves p) (i ∷ [])) p.workers
    (omega (arith, cond_le_one (serves p i), All-head (λ (q : Share). 1 ≤ q.workers) p ps some)))
    (one_fits ps i (All-tail (λ (q : Share). 1 ≤ q.workers) p ps some))

-- ---- there is one

-- the list has a longest front that fits
pub record HasFront (pools : List Share) (list : List Instance) : Type 0 where
  pub round : List Instance
  pub rest : List Instance
  pub parts : list ≡ round ++ rest
  pub fit : fits pools round ≡ true
  pub full : IsFull pools round rest
  pub some : 0 < length list → 0 < length round

front_from : (pools : List Share) (taken rest : List Instance) → 0 < length taken
    → fits pools taken ≡ true → HasFront pools (taken ++ rest)
front_from pools taken [] some fit =
    record { round = taken; rest = []; parts = refl; fit = fit; full = tt; some = λ lt. some }
front_from pools taken (i ∷ is) some fit =
    by (fits pools (taken ++ i ∷ [])) refl
    (λ e. front_from pools (taken ++ i ∷ []) is (omega (arith, length-append taken (i ∷ []), some)) e)
  where
    by : (b : Bool) → fits pools (taken ++ i ∷ []) ≡ b
        → (fits pools (taken ++ i ∷ []) ≡ true → HasFront pools ((taken ++ i ∷ []) ++ is))
        → HasFront pools (taken ++ i ∷ is)
    by false e more = record { round = taken; rest = i ∷ is; parts = refl; fit = fit; full = e; some = λ lt. some }
    by true e more = subst (HasFront pools) (append_assoc taken (i ∷ []) is) (more e)

pub front_of : (pools : List Share) (list : List Instance)
    → All (λ (p : Share). 1 ≤ p.workers) pools → HasFront pools list
front_of pools [] workers =
    record { round = []; rest = []; parts = refl; fit = none_fit pools; full = tt; some = λ lt. lt }
front_of pools (i ∷ is) workers =
    front_from pools (i ∷ []) is (omega arith) (one_fits pools i workers)

-- ---- there is only one

-- Of two fronts of a list one is a front of the other.
pub data Compared (xs us ys vs : List Instance) : Type 0 where
  same : xs ≡ ys → us ≡ vs → Compared xs us ys vs
  shorter : (i : Instance) (is : List Instance) → ys ≡ xs ++ i ∷ is → us ≡ i ∷ is ++ vs
      → Compared xs us ys vs
  longer : (i : Instance) (is : List Instance) → xs ≡ ys ++ i ∷ is → vs ≡ i ∷ is ++ us
      → Compared xs us ys vs

compare : (xs us ys vs : List Instance) → xs ++ us ≡ ys ++ vs → Compared xs us ys vs
compare [] us [] vs e = same refl e
compare [] us (y ∷ ys) vs e = shorter y ys refl e
compare (x ∷ xs) us [] vs e = longer x xs refl (sym e)
compare (x ∷ xs) us (y ∷ ys) vs e = by (compare xs us ys vs (let tail : xs ++ us ≡ ys ++ vs = cc in tail)) (let head : x ≡ y = cc in head)
  where
    by : Compared xs us ys vs → x ≡ y → Compared (x ∷ xs) us (y ∷ ys) vs
    by (same f r) h = same (λ k. h k ∷ f k) r
    by (shorter i is f r) h = shorter i is (λ k. sym h k ∷ f k) r
    by (longer i is f r) h = longer i is (λ k. h k ∷ f k) r

-- a front behind which an instance stands that doesn't fit is no front of a longer one that fits
stops : (pools : List Share) (xs us ys vs : List Instance) (i : Instance) (is : List Instance)
    → IsFull pools xs us → ys ≡ xs ++ i ∷ is
    → us ≡ i ∷ is ++ vs → fits pools ys ≡ true → ⊥
stops pools xs us ys vs i is full f r fit =
    let stuck : fits pools (xs ++ i ∷ []) ≡ false = subst (IsFull pools xs) r full in
    let whole : fits pools ((xs ++ i ∷ []) ++ is) ≡ true = ap (fits pools) (append_assoc xs (i ∷ []) is ∙ sym f) ∙ fit in
    false≢true (sym stuck ∙ fits_front pools (xs ++ i ∷ []) is whole)

-- two longest fronts of a list are one
pub one_front : (pools : List Share) (xs us ys vs : List Instance) → xs ++ us ≡ ys ++ vs
    → fits pools xs ≡ true → fits pools ys ≡ true
    → IsFull pools xs us → IsFull pools ys vs → (xs ≡ ys) × (us ≡ vs)
one_front pools xs us ys vs e fit_x fit_y full_x full_y = by (compare xs us ys vs e)
  where
    by : Compared xs us ys vs → (xs ≡ ys) × (us ≡ vs)
    by (same f r) = (f, r)
    by (shorter i is f r) = absurd (stops pools xs us ys vs i is full_x f r fit_y)
    by (longer i is f r) = absurd (stops pools ys vs xs us i is full_y f r fit_x)

-- ---- all rounds

-- the list can be cut into rounds
pub cuts : (pools : List Share) (n : ℕ) (list : List Instance) → length list ≤ n
    → All (λ (p : Share). 1 ≤ p.workers) pools
    → (rounds : List (List Instance)) × AreRounds pools list rounds
cuts pools n [] few workers = ([], refl)
cuts pools zero (i ∷ is) few workers = absurd (omega (arith, few))
cuts pools (suc n) (i ∷ is) few workers =
    let f = front_of pools (i ∷ is) workers in
    let some : 0 < length f.round = f.some (omega arith) in
    let rest = cuts pools n f.rest (omega (arith, few, some, ap length f.parts, length-append f.round f.rest)) workers in
    (f.round ∷ rest.0, (f.rest, f.parts, some, f.fit, f.full, rest.1))

-- ---- there is a round of any instances

abbrev ends_from : ℕ → ℕ → List Entry
ends_from number zero = []
ends_from number (suc n) = entry.End number ∷ ends_from (number + 1) n

ends_are : (number n : ℕ) → AreAnswers number n (ends_from number n)
ends_are number zero = tt
ends_are number (suc n) = (eq-eqb number number refl, ends_are (number + 1) n)

-- each request is answered `end`
abbrev ended : Task → List Entry → List Instance → List Entry
ended task before round =
    requests task before round ++ ends_from (asks_of before + 1) (length round)

pub round_exists : (task : Task) (before : List Entry) (round : List Instance)
    → (now : List Entry) × IsRound task before round now
round_exists task before round =
    (ended task before round, (ends_from (asks_of before + 1) (length round), refl, ends_are (asks_of before + 1) (length round)))

pub rounds_exist : (task : Task) (before : List Entry) (rounds : List (List Instance))
    → (entries : List Entry) × AreRoundsRun task before rounds entries
rounds_exist task before [] = ([], refl)
rounds_exist task before (round ∷ rounds) =
    let now = round_exists task before round in
    let rest = rounds_exist task (before ++ now.0) rounds in
    (now.0 ++ rest.0, (now.0, rest.0, refl, now.1, rest.1))

-- and a batch, where each pool has a worker
pub batch_exists : (limits : Limits) (task : Task) (before : List Entry) (list : List Instance)
    → All (λ (p : Share). 1 ≤ p.workers) limits.pools → (entries : List Entry) × IsBatch limits task before list entries
batch_exists limits task before list work =
    let asked = take (calls_left limits before) list in
    let cut = cuts limits.pools (length asked) asked (omega arith) work in
    let run = rounds_exist task before cut.0 in
    (run.0, record { rounds = cut.0; cut = cut.1; run = run.1 })
