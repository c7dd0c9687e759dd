-- A front that fits the workers, where with the next ask it doesn't, is the longest.
use Rattle.std.proofs.Common.{◌≡◌, ℕ, zero, suc, ◌+◌, ◌<◌, true, false, List, [], ◌∷◌, ◌++◌, length, take, drop, sym, ap, subst, ◌∙◌, arith, append_assoc, add-one}
use Rattle.std.proofs.lemmas.Bool.{true≢false}
use Rattle.std.proofs.lemmas.List.{append-nil, length-map, take-map}
use Rattle.instance_queue.specs.Level.{due_instances}
use Rattle.instance_queue.specs.declared.due.Due.{Due}
use Rattle.task_model.specs.declared.stream.Instance.{Instance}
use Rattle.transcript_model.specs.Rounds.{IsFull, Share, fits}
use Rattle.transcript_model.proofs.RoundsFrontLemmas.{one_fits}
use Rattle.pools.specs.Pools.{HaveWorkers, IsLongestFront}

full_from : (pools : List Share) (taken list : List Instance) (k : ℕ)
    → (k < length list → fits pools (taken ++ take (suc k) list) ≡ false)
    → IsFull pools (taken ++ take k list) (drop k list)
full_from pools taken [] zero stuck = tt
full_from pools taken [] (suc k) stuck = tt
full_from pools taken (i ∷ is) zero stuck =
    ap (λ xs. fits pools (xs ++ i ∷ [])) (append-nil taken) ∙ stuck (omega arith)
full_from pools taken (i ∷ is) (suc k) stuck =
    subst (λ xs. IsFull pools xs (drop k is)) (append_assoc taken (i ∷ []) (take k is))
    (full_from pools (taken ++ i ∷ []) is k
    (λ lt. ap (fits pools) (append_assoc taken (i ∷ []) (take (suc k) is)) ∙ stuck (omega (arith, lt))))

some_front : (pools : List Share) (list : List Instance) (k : ℕ)
    → fits pools (take (suc k) list) ≡ false → HaveWorkers pools
    → 0 < length list → 0 < k
some_front pools [] k stuck workers lt = absurd (omega (arith, lt))
some_front pools (i ∷ is) zero stuck workers lt =
    absurd (true≢false (sym (one_fits pools i workers) ∙ stuck))
some_front pools (i ∷ is) (suc k) stuck workers lt = omega arith

-- a front that fits, where with the next one it doesn't
pub longest : (pools : List Share) (dues : List Due) (count : ℕ) → count < length dues
    → fits pools (due_instances (take count dues)) ≡ true → fits pools (due_instances (take (count + 1) dues)) ≡ false
    → IsLongestFront pools (due_instances dues) count
longest pools dues count lt fit stuck =
    let name = λ (d : Due). d.instance in
    let more : fits pools (take (suc count) (due_instances dues)) ≡ false =
    ap (λ n. fits pools (take n (due_instances dues))) (sym (add-one count)) ∙ ap (fits pools) (take-map name (count + 1) dues)
    ∙ stuck in
    record {
      within = omega (arith, lt, length-map dues (λ (d : Due). d.instance));
      fit = ap (fits pools) (take-map name count dues) ∙ fit;
      full = full_from pools [] (due_instances dues) count (λ within. more);
      some = some_front pools (due_instances dues) count more;
    }
