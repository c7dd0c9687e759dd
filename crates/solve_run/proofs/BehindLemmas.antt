-- A line, and all batches of a dream behind it.
use Rattle.std.proofs.Common.{◌≡◌, ◌⊎◌, inl, inr, ℕ, ◌≤◌, Bool, All, map, List, [], ◌∷◌, ◌++◌, refl, sym, subst, ap, ◌∙◌, append_assoc}
use Rattle.solve_run.specs.Batching.{AreBatchesBehind, IsFrontBehindLine, IsFrontOfBatches}
use Rattle.turn_laws.proofs.ModeBatchesLemmas.{Ending, batches_end}
use Rattle.round_run.proofs.RollingFrontLemmas.{front_first}
use Rattle.task_model.specs.Dreams as dreams
use Rattle.task_model.specs.declared.task.Task.{Task}
use Rattle.transcript_model.specs.Dreaming.{Sent}
use Rattle.transcript_model.specs.Rounds.{Share, limits_of, share_of}
use Rattle.transcript_model.specs.Turns.{AreBatches}
use Rattle.transcript_model.specs.declared.entry.Entry.{Entry}
use Rattle.transcript_model.specs.declared.head.Head.{Head}

module _ (head : Head) (task : Task) (real : ℕ) (entries : List dreams.SupposedEntry) (before : List Entry) (line : Entry) where
  abbrev Whole : List Entry → Type 0
  Whole now = (after : List Sent) × (cut : Bool) × AreBatchesBehind head task real entries before line now after cut

  whole_behind : (rest : List Entry) (after : List Sent) (cut : Bool)
      → AreBatches (limits_of head) task real entries [] (before ++ line ∷ []) rest after cut → Whole (line ∷ rest)
  whole_behind rest after cut batches = (after, cut, record { rest = rest; is = refl; batches = batches })

  -- the line is there, or not yet
  pub behind_marked : (es : List Entry) → All (λ (p : Share). 1 ≤ p.workers) (map share_of head.pools)
      → (es ≡ before) ⊎ (es ≡ before ++ line ∷ []) → IsFrontBehindLine head task real entries before line es
  behind_marked es work at = by at
    where
      tail : Ending (limits_of head) task real entries work [] (before ++ line ∷ [])
      tail = batches_end (limits_of head) task real entries work [] (before ++ line ∷ [])

      by : (es ≡ before) ⊎ (es ≡ before ++ line ∷ []) → IsFrontBehindLine head task real entries before line es
      by (inl e) =
          subst (IsFrontBehindLine head task real entries before line) (sym e)
          (front_first before (line ∷ tail.now) Whole (whole_behind tail.now tail.after tail.cut tail.batches))
      by (inr e) = record {
        part = line ∷ [];
        rest = tail.now;
        is = e;
        whole = whole_behind tail.now tail.after tail.cut tail.batches;
      }

  -- some entries of the batches came
  pub behind_front : (marked es : List Entry) → marked ≡ before ++ line ∷ []
      → IsFrontOfBatches head task real entries [] marked es → IsFrontBehindLine head task real entries before line es
  behind_front marked es is f = record {
    part = line ∷ f.part;
    rest = f.rest;
    is = f.is ∙ ap (λ t. t ++ f.part) is ∙ append_assoc before (line ∷ []) f.part;
    whole = whole_behind (f.part ++ f.rest) f.whole.0 f.whole.1
        (subst (λ m. AreBatches (limits_of head) task real entries [] m (f.part ++ f.rest) f.whole.0 f.whole.1) is f.whole.2);
  }
