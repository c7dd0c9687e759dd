-- The numbers of requests in a legal transcript.
use Rattle.std.proofs.Common.{◌≡◌, ℕ, zero, suc, ◌+◌, ◌<◌, ◌≤◌, arith, true, false, cond, not, nat_lt, List, [], ◌∷◌, ◌++◌, take, drop, length, refl, subst, ap, ◌∙◌, Some, slice_get, eqb-true, ltb-true, ltb-false}
use Rattle.std.proofs.Math.Seq.{take-length}
use Rattle.std.proofs.lemmas.List.{take-append-drop}
use Rattle.std.proofs.lemmas.List.Sums.{sum_by-append}
use Rattle.std.proofs.lemmas.Option.{slice_get_within}
use Rattle.std.specs.Cmp.{first_so}
use Rattle.std.specs.List.{list_any}
use Rattle.lemmas.proofs.ListTests.{any_found, any_append_left}
use Rattle.task_model.specs.declared.task.Task.{Task}
use Rattle.transcript_model.specs.Legal.{IsLegal, MayFollow, IsRightAsk, is_ask, asks_of, is_ask_of, is_answer_to, is_open}
use Rattle.transcript_model.specs.declared.entry.Call.{Call}
use Rattle.transcript_model.specs.declared.entry.Entry.{Entry}
use Rattle.transcript_model.specs.declared.entry.Entry.TheVariants as entry
use Rattle.transcript_model.proofs.LegalPrefixLemmas.{first_request}

pub asks_more : (xs ys : List Entry) → asks_of (xs ++ ys) ≡ asks_of xs + asks_of ys
asks_more xs ys = sum_by-append (λ e. cond (is_ask e) 1 0) xs ys

-- an entry that is no request
pub asks_marked : (before : List Entry) (e : Entry) → is_ask e ≡ false
    → asks_of (before ++ e ∷ []) ≡ asks_of before
asks_marked before e other =
    let one : asks_of (e ∷ []) ≡ 0 = rw other refl in omega (arith, asks_more before (e ∷ []), one)

-- there are more requests after a request
pub asks_rise : (xs : List Entry) (j k n turn : ℕ) (call : Call)
    → slice_get xs j ≡ Some (entry.Ask n turn call) → j < k
    → asks_of (take j xs) + 1 ≤ asks_of (take k xs)
asks_rise [] j k n turn call at lt = absurd (cc)
asks_rise (x ∷ xs) j zero n turn call at lt = absurd (omega arith)
asks_rise (x ∷ xs) zero (suc k) n turn call at lt =
    let same : x ≡ entry.Ask n turn call = cc in
    let one : asks_of (x ∷ []) ≡ 1 = ap (λ e. asks_of (e ∷ [])) same in
    omega (arith, asks_more (x ∷ []) (take k xs), one)
asks_rise (x ∷ xs) (suc j) (suc k) n turn call at lt =
    let below : j < k = omega arith in
    omega (arith, asks_more (x ∷ []) (take j xs), asks_more (x ∷ []) (take k xs), asks_rise xs j k n turn call at below)

module _ (version : ℕ) (task : Task) where
  pub request_number : (entries : List Entry) (j n turn : ℕ) (call : Call)
      → IsLegal version task entries
      → slice_get entries j ≡ Some (entry.Ask n turn call) → n ≡ asks_of (take j entries) + 1
  request_number entries j n turn call legal at = right (legal j (entry.Ask n turn call) at)
    where
      right : IsRightAsk task (take j entries) n turn call → n ≡ asks_of (take j entries) + 1
      right r = r.next

  pub numbers_own : (entries : List Entry) (j k n turn other : ℕ) (call again : Call)
      → IsLegal version task entries
      → slice_get entries j ≡ Some (entry.Ask n turn call) → slice_get entries k ≡ Some (entry.Ask n other again) → j ≡ k
  numbers_own entries j k n turn other call again legal first second =
      elim (nat_lt j k) as (λ b. nat_lt j k ≡ b → j ≡ k) [
        | true ↦ λ lt. let below : j < k = ltb-true j k lt in
            absurd (omega (
              arith,
              request_number entries j n turn call legal first,
              request_number entries k n other again legal second,
              asks_rise entries j k n turn call first below,
            ))
        | false ↦ λ ge.
            elim (nat_lt k j) as (λ b. nat_lt k j ≡ b → j ≡ k) [
              | true ↦ λ lt. let below : k < j = ltb-true k j lt in
                  absurd (omega (
                    arith,
                    request_number entries j n turn call legal first,
                    request_number entries k n other again legal second,
                    asks_rise entries k j n other again second below,
                  ))
              | false ↦ λ le. omega (arith, ltb-false j k ge, ltb-false k j le)
            ] refl
      ] refl

  -- a request that was made has a number of at most as many as there are
  pub number_below : (entries : List Entry) (n : ℕ) → IsLegal version task entries
      → list_any (is_ask_of n) entries ≡ true
      → (0 < n) × (n ≤ asks_of entries)
  number_below entries n legal there =
      let first = first_request entries n there in
      let is = request_number entries first.0 n first.1 first.2 legal first.3 in
      let rise = asks_rise entries first.0 (length entries) n first.1 first.2 first.3 (slice_get_within entries first.0 _ first.3) in
      (omega (arith, is), omega (arith, is, rise, ap asks_of (take-length entries)))

  pub next_is_fresh : (entries : List Entry) → IsLegal version task entries
      → list_any (is_ask_of (asks_of entries + 1)) entries ≡ false
  next_is_fresh entries legal =
      elim (list_any (is_ask_of (asks_of entries + 1)) entries) as
      (λ b. list_any (is_ask_of (asks_of entries + 1)) entries ≡ b → b ≡ false) [
        | true ↦ λ there. absurd (omega (arith, (number_below entries (asks_of entries + 1) legal there).1))
        | false ↦ λ _. refl
      ] refl

  -- what answers a request comes behind it, while it is open
  pub waiting_of : (before : List Entry) (n : ℕ) (e : Entry) → MayFollow version task before e
      → is_answer_to n e ≡ true
      → is_open before n ≡ true
  waiting_of before n (entry.Got number tuples values) may same =
      ap (is_open before) (eqb-true n number same) ∙ may.waiting
  waiting_of before n (entry.Value number value) may same =
      ap (is_open before) (eqb-true n number same) ∙ may.waiting
  waiting_of before n (entry.End number) may same =
      ap (is_open before) (eqb-true n number same) ∙ may
  waiting_of before n e may same = absurd (cc)

  pub answer_asked : (entries : List Entry) (n : ℕ) → IsLegal version task entries
      → list_any (is_answer_to n) entries ≡ true
      → list_any (is_ask_of n) entries ≡ true
  answer_asked entries n legal there =
      let at = any_found (is_answer_to n) entries there in
      let waiting = waiting_of (take at.0 entries) n at.1 (legal at.0 at.1 at.2) at.3 in
      let asked = first_so (list_any (is_ask_of n) (take at.0 entries)) (not (list_any (is_answer_to n) (take at.0 entries))) waiting in
      subst (λ all. list_any (is_ask_of n) all ≡ true)
      (take-append-drop at.0 entries) (any_append_left (is_ask_of n) (take at.0 entries) (drop at.0 entries) asked)
