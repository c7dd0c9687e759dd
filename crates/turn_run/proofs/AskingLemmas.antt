-- Fronts of an entry with requests behind it.
use Rattle.std.proofs.Common.{◌≡◌, All, List, [], ◌∷◌, ◌++◌, map, refl, sym, subst, ap, ◌∙◌, append_assoc, ◌≤◌, ◌⊎◌, inl, inr}
use Rattle.transcript_model.proofs.RoundsFrontLemmas.{batch_exists}
use Rattle.task_model.specs.declared.stream.Instance.{Instance}
use Rattle.task_model.specs.declared.task.Task.{Task}
use Rattle.transcript_model.specs.Rounds.{IsBatch, Share, limits_of, share_of}
use Rattle.transcript_model.specs.declared.entry.Entry.{Entry}
use Rattle.transcript_model.specs.declared.head.Head.{Head}
use Rattle.turn_run.specs.Asking.{IsAskedBehind, IsFrontBehind}
use Rattle.round_run.proofs.RollingFrontLemmas.{front_first}
use Rattle.round_run.specs.Rolling.{IsFrontPart}

module _ (head : Head) (task : Task) (before : List Entry) (entry : Entry) (list : List Instance) where
  asked_whole : (more : List Entry) → IsBatch (limits_of head) task (before ++ entry ∷ []) list more
      → IsAskedBehind head task before entry list (entry ∷ more)
  asked_whole more batch = record { rest = more; is = refl; batch = batch }

  -- the entry is there, or not yet
  pub asked_marked : (es : List Entry) → All (λ (p : Share). 1 ≤ p.workers) (map share_of head.pools)
      → (es ≡ before) ⊎ (es ≡ before ++ entry ∷ []) → IsFrontBehind head task before entry list es
  asked_marked es work at = by at
    where
      tail : (entries : List Entry) × IsBatch (limits_of head) task (before ++ entry ∷ []) list entries
      tail = batch_exists (limits_of head) task (before ++ entry ∷ []) list work

      by : (es ≡ before) ⊎ (es ≡ before ++ entry ∷ []) → IsFrontBehind head task before entry list es
      by (inl e) =
          subst (IsFrontBehind head task before entry list)
          (sym e) (front_first before (entry ∷ tail.0) (IsAskedBehind head task before entry list) (asked_whole tail.0 tail.1))
      by (inr e) = record { part = entry ∷ []; rest = tail.0; is = e; whole = asked_whole tail.0 tail.1 }

  -- a front of the batch
  pub asked_front : (marked es : List Entry) → marked ≡ before ++ entry ∷ []
      → IsFrontPart marked (IsBatch (limits_of head) task marked list) es
      → IsFrontBehind head task before entry list es
  asked_front marked es is f = record {
    part = entry ∷ f.part;
    rest = f.rest;
    is = f.is ∙ ap (λ t. t ++ f.part) is ∙ append_assoc before (entry ∷ []) f.part;
    whole = asked_whole (f.part ++ f.rest) (subst (λ m. IsBatch (limits_of head) task m list (f.part ++ f.rest)) is f.whole);
  }
