-- Legal transcripts: how they grow, and that no request is made twice.
use Rattle.std.proofs.Common.{◌≡◌, ℕ, zero, suc, ◌+◌, ◌<◌, ◌⊎◌, inl, inr, arith, true, false, List, [], ◌∷◌, ◌++◌, take, length, refl, sym, subst, ap, ◌∙◌, Some, slice_get, eq-eqb}
use Rattle.std.proofs.Math.Seq.{take-append_seam}
use Rattle.std.proofs.lemmas.List.{take-append-le}
use Rattle.std.proofs.lemmas.Option.{slice_get_within}
use Rattle.std.proofs.lemmas.Map.Keys.{any_passes_from_place}
use Rattle.lemmas.proofs.Members.{push_cases, get_at_length}
use Rattle.task_model.specs.declared.task.Task.{Task}
use Rattle.transcript_model.specs.Laws.{GrowsLegally}
use Rattle.transcript_model.specs.Legal.{IsLegal, MayFollow, asks_of, is_answer, is_ask_of, is_mark}
use Rattle.transcript_model.specs.Transcript.{Asked, asked}
use Rattle.transcript_model.specs.declared.entry.Call.{Call}
use Rattle.transcript_model.specs.declared.entry.Entry.{Entry}
use Rattle.transcript_model.specs.declared.entry.Entry.TheVariants as entry
use Rattle.transcript_model.proofs.LegalPrefixLemmas.{legal_front, request_known}
use Rattle.transcript_model.proofs.LegalNumberLemmas.{asks_more, request_number}

pub grows : (version : ℕ) (task : Task) (entries : List Entry) → GrowsLegally version task entries
grows version task entries = record {
  front = λ more legal. legal_front version task entries more legal;
  next = λ e legal may k x at. next e legal may k x at (push_cases entries e k x at);
  last = λ e legal. subst (λ before. MayFollow version task before e)
      (take-append_seam entries (e ∷ [])) (legal (length entries) e (get_at_length entries e));
}
  where
    next : (e : Entry) → IsLegal version task entries → MayFollow version task entries e
        → (k : ℕ) (x : Entry)
        → slice_get (entries ++ e ∷ []) k ≡ Some x → (slice_get entries k ≡ Some x) ⊎ ((k ≡ length entries) × (x ≡ e))
        → MayFollow version task (take k (entries ++ e ∷ [])) x
    next e legal may k x at (inl there) =
        let below = slice_get_within entries k x there in
        subst (λ before. MayFollow version task before x) (sym (take-append-le k entries (e ∷ []) (omega arith))) (legal k x there)
    next e legal may k x at (inr here) =
        let whole : take k (entries ++ e ∷ []) ≡ entries =
        ap (λ m. take m (entries ++ e ∷ [])) here.0 ∙ take-append_seam entries (e ∷ []) in
        subst (λ before. MayFollow version task before x) (sym whole) (subst (MayFollow version task entries) (sym here.1) may)

-- ---- marks

pub mark_follows : (version : ℕ) (task : Task) (before : List Entry) (e : Entry) → is_mark e ≡ true
    → MayFollow version task before e
mark_follows version task before (entry.Ask number turn call) m = absurd (cc)
mark_follows version task before (entry.Got number tuples values) m = absurd (cc)
mark_follows version task before (entry.Value number value) m = absurd (cc)
mark_follows version task before (entry.End number) m = absurd (cc)
mark_follows version task before entry.Level m = tt
mark_follows version task before (entry.Dream uses steps) m = tt
mark_follows version task before entry.Nothing m = tt
mark_follows version task before entry.Reset m = tt
mark_follows version task before (entry.Pick n) m = tt
mark_follows version task before (entry.Retire n) m = tt

pub mark_answers : (e : Entry) → is_mark e ≡ true → is_answer e ≡ false
mark_answers (entry.Ask number turn call) m = refl
mark_answers (entry.Got number tuples values) m = absurd (cc)
mark_answers (entry.Value number value) m = absurd (cc)
mark_answers (entry.End number) m = absurd (cc)
mark_answers entry.Level m = refl
mark_answers (entry.Dream uses steps) m = refl
mark_answers entry.Nothing m = refl
mark_answers entry.Reset m = refl
mark_answers (entry.Pick n) m = refl
mark_answers (entry.Retire n) m = refl

-- ---- every number up to the count was asked

nth_request : (xs : List Entry) (m : ℕ) → m < asks_of xs
    → (j : ℕ) × (n : ℕ) × (turn : ℕ) × (call : Call) × (slice_get xs j ≡ Some (entry.Ask n turn call)) × (asks_of (take j xs) ≡ m)
nth_request [] m lt = absurd (omega arith)
nth_request (entry.Ask n turn call ∷ xs) zero lt = (0, n, turn, call, refl, refl)
nth_request (entry.Ask n turn call ∷ xs) (suc m) lt =
    let first = entry.Ask n turn call in
    let below : m < asks_of xs = omega (arith, asks_more (first ∷ []) xs) in
    let r = nth_request xs m below in
    (suc r.0, r.1, r.2, r.3, r.4, omega (arith, asks_more (first ∷ []) (take r.0 xs), r.5))
nth_request (x ∷ xs) m lt = let r = nth_request xs m lt in (suc r.0, r.1, r.2, r.3, r.4, r.5)

pub request_asks : (version : ℕ) (task : Task) (entries : List Entry) (n : ℕ)
    → IsLegal version task entries → 0 < n
    → n < asks_of entries + 1 → (a : Asked) × (asked task entries n ≡ Some a)
request_asks version task entries n legal some most = from n some most
  where
    from : (n : ℕ) → 0 < n → n < asks_of entries + 1 → (a : Asked) × (asked task entries n ≡ Some a)
    from zero some most = absurd (omega arith)
    from (suc m) some most =
        let r = nth_request entries m (omega arith) in
        let is = request_number version task entries r.0 r.1 r.2 r.3 legal r.4 in
        let same : r.1 ≡ suc m = omega (arith, is, r.5) in
        let found : is_ask_of (suc m) (entry.Ask r.1 r.2 r.3) ≡ true = eq-eqb (suc m) r.1 (sym same) in
        request_known version task entries (suc m) legal
        (any_passes_from_place (is_ask_of (suc m)) entries r.0 (entry.Ask r.1 r.2 r.3) r.4 found)
