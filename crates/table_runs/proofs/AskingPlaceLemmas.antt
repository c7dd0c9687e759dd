-- The requests of a transcript and their entries, and where those stand that go to one child.
use Rattle.std.proofs.Common.{◌≡◌, ℕ, zero, suc, ◌<◌, Bool, true, false, cond, List, [], ◌∷◌, ◌++◌, take, Option, None, Some, slice_get, refl, ap, sym, ◌∙◌, ◌+◌, arith, count_by}
use Rattle.std.specs.List.{filter}
use Rattle.pools.specs.Pools.{Workers}
use Rattle.round_run.specs.Dialogue.{Request, called_stream, requests_after}
use Rattle.lemmas.proofs.Counts.{count_joined, count_one}
use Rattle.task_model.specs.declared.task.Task.{Task}
use Rattle.transcript_model.proofs.LegalNumberLemmas.{asks_more}
use Rattle.transcript_model.specs.Legal.{asks_of, is_ask}
use Rattle.transcript_model.specs.declared.entry.Entry.{Entry}
use Rattle.transcript_model.specs.declared.entry.Entry.TheVariants as entry

-- ---- members that pass

-- the k-th of those that pass stands behind as many as pass before it
pub passed_place : {A : Type 0} (p : A → Bool) (xs : List A) (k : ℕ) (x : A) → slice_get xs k ≡ Some x → p x ≡ true
    → slice_get (filter p xs) (count_by p (take k xs)) ≡ Some x
passed_place p [] k x at is = absurd (cc)
passed_place p (y ∷ xs) zero x at is =
    let same : y ≡ x = cc in
    ap (λ b. slice_get (cond b (y ∷ filter p xs) (filter p xs)) 0) (ap p same ∙ is) ∙ ap Some same
passed_place p (y ∷ xs) (suc k) x at is = by (p y) refl (passed_place p xs k x at is)
  where
    by : (b : Bool) → p y ≡ b → slice_get (filter p xs) (count_by p (take k xs)) ≡ Some x
        → slice_get (filter p (y ∷ xs)) (count_by p (y ∷ take k xs)) ≡ Some x
    by true e later =
        let one : count_by p (y ∷ []) ≡ 1 = rw e refl in
        let count : count_by p (y ∷ take k xs) ≡ suc (count_by p (take k xs)) =
        omega (arith, count_joined p (y ∷ []) (take k xs), one) in
        ap (λ b. slice_get (cond b (y ∷ filter p xs) (filter p xs)) (count_by p (y ∷ take k xs))) e
        ∙ ap (slice_get (y ∷ filter p xs)) count ∙ later
    by false e later =
        let one : count_by p (y ∷ []) ≡ 0 = rw e refl in
        let count : count_by p (y ∷ take k xs) ≡ count_by p (take k xs) =
        omega (arith, count_joined p (y ∷ []) (take k xs), one) in
        ap (λ b. slice_get (cond b (y ∷ filter p xs) (filter p xs)) (count_by p (y ∷ take k xs))) e
        ∙ ap (slice_get (filter p xs)) count ∙ later

-- where one passes, some do
pub some_pass : {A : Type 0} (p : A → Bool) (xs : List A) (k : ℕ) (x : A) → slice_get xs k ≡ Some x → p x ≡ true
    → 0 < count_by p xs
some_pass p [] k x at is = absurd (cc)
some_pass p (y ∷ xs) zero x at is =
    let same : y ≡ x = cc in
    let one : count_by p (y ∷ []) ≡ 1 = rw (ap p same ∙ is) refl in
    omega (arith, count_joined p (y ∷ []) xs, one)
some_pass p (y ∷ xs) (suc k) x at is = omega (arith, count_joined p (y ∷ []) xs, some_pass p xs k x at is)

-- one that passes is there where some do
pub passing_there : {A : Type 0} (p : A → Bool) (xs : List A) → 0 < count_by p xs
    → (k : ℕ) × (x : A) × (slice_get xs k ≡ Some x) × (p x ≡ true)
passing_there p [] some = absurd (omega (arith, some))
passing_there p (y ∷ xs) some = by (passing_there p xs) (p y) refl
  where
    by : (0 < count_by p xs → (k : ℕ) × (x : _) × (slice_get xs k ≡ Some x) × (p x ≡ true)) → (b : Bool) → p y ≡ b
        → (k : ℕ) × (x : _) × (slice_get (y ∷ xs) k ≡ Some x) × (p x ≡ true)
    by later true is = (0, y, refl, is)
    by later false is =
        let none : count_by p (y ∷ []) ≡ 0 = rw is refl in
        let r = later (omega (arith, count_joined p (y ∷ []) xs, none, some)) in
        (suc r.0, r.1, r.2, r.3)

-- The j-th of those that pass stands somewhere behind j that do.
pub record IsPassing {A : Type 0} (p : A → Bool) (xs : List A) (j : ℕ) (x : A) : Type 0 where
  pub place : ℕ
  pub at : slice_get xs place ≡ Some x
  pub passes : p x ≡ true
  pub before : count_by p (take place xs) ≡ j

pub passing_at : {A : Type 0} (p : A → Bool) (xs : List A) (j : ℕ) (x : A) → slice_get (filter p xs) j ≡ Some x
    → IsPassing p xs j x
passing_at p [] j x at = absurd (cc)
passing_at {A} p (y ∷ xs) j x at = by (passing_at p xs) (p y) refl j at
  where
    step : (b : Bool) → p y ≡ b → (k : ℕ) → count_by p (y ∷ take k xs) ≡ cond {A = ℕ} b 1 0 + count_by p (take k xs)
    step b is k =
        let one : count_by p (y ∷ []) ≡ cond {A = ℕ} b 1 0 = count_one p y ∙ ap (λ c. cond {A = ℕ} c 1 0) is in
        omega (arith, count_joined p (y ∷ []) (take k xs), one)

    by : ((i : ℕ) (z : A) → slice_get (filter p xs) i ≡ Some z → IsPassing p xs i z) → (b : Bool) → p y ≡ b → (i : ℕ)
        → slice_get (cond b (y ∷ filter p xs) (filter p xs)) i ≡ Some x → IsPassing p (y ∷ xs) i x
    by later true is zero here =
        let same : y ≡ x = cc in
        record { place = 0; at = here; passes = ap p (sym same) ∙ is; before = refl }
    by later true is (suc i) there =
        let r = later i x there in
        record { place = suc r.place; at = r.at; passes = r.passes; before = omega (arith, step true is r.place, r.before) }
    by later false is i there =
        let r = later i x there in
        record { place = suc r.place; at = r.at; passes = r.passes; before = omega (arith, step false is r.place, r.before) }

-- ---- requests and their entries

-- the request's entry, and where it stands: behind as many as its place among the requests tells
pub record IsAskAt (entries : List Entry) (k : ℕ) (r : Request) : Type 0 where
  pub place : ℕ
  pub at : slice_get entries place ≡ Some (entry.Ask r.number r.turn r.call)
  pub before : asks_of (take place entries) ≡ k

abbrev shown : Option Request → Option Entry
shown (Some q) = Some (entry.Ask q.number q.turn q.call)
shown None = None

pub request_at : (task : Task) (pools : List Workers) (round : List ℕ) (entries : List Entry) (k : ℕ) (r : Request)
    → slice_get (requests_after task pools round entries) k ≡ Some r → IsAskAt entries k r
request_at task pools round [] k r at = absurd (cc)
request_at task pools round (entry.Ask number turn call ∷ entries) zero r at =
    record { place = 0; at = ap shown at; before = refl }
request_at task pools round (entry.Ask number turn call ∷ entries) (suc k) r at =
    let later = request_at task pools (round ++ called_stream task call ∷ []) entries k r at in
    let e = entry.Ask number turn call in
    record {
      place = suc later.place;
      at = later.at;
      before = omega (arith, asks_more (e ∷ []) (take later.place entries), count_one is_ask e, later.before);
    }
request_at task pools round (e ∷ entries) k r at =
    let later = request_at task pools [] entries k r at in
    record {
      place = suc later.place;
      at = later.at;
      before = omega (arith, asks_more (e ∷ []) (take later.place entries), count_one is_ask e, later.before);
    }
