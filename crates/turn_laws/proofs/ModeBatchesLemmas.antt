-- Batches of a dream's entries: behind any transcript they can be run to an end, since each request may be answered
-- `end`; and where a call is left something is asked.
use Rattle.std.proofs.Common.{◌≡◌, ℕ, zero, suc, ◌+◌, ◌-◌, ◌<◌, ◌≤◌, ◌⊎◌, inl, inr, Bool, true, false, All, List, [], ◌∷◌, ◌++◌, length, take, sym, ap, refl, arith}
use Rattle.std.proofs.lemmas.Bool.{cases_lt, lt-ltb, le-ltb}
use Rattle.std.proofs.lemmas.List.{length-append, length-map, length-take, take_all}
use Rattle.turn_laws.proofs.ModeCountsLemmas.{rounds_count}
use Rattle.task_model.specs.Dreams as dreams
use Rattle.task_model.specs.declared.task.Task.{Task}
use Rattle.transcript_model.proofs.LegalNumberLemmas.{asks_more}
use Rattle.transcript_model.proofs.RoundsFrontLemmas.{batch_exists}
use Rattle.transcript_model.specs.Dreaming.{Sent, next_sent, sent_instances}
use Rattle.transcript_model.specs.Legal.{asks_of}
use Rattle.transcript_model.specs.Rounds.{IsBatch, Limits, Share, calls_left}
use Rattle.transcript_model.specs.Turns.{AreBatches, finished, further, last}
use Rattle.transcript_model.specs.declared.entry.Entry.{Entry}

module _ (limits : Limits) (task : Task) (real : ℕ)
    (entries : List dreams.SupposedEntry) (work : All (λ (p : Share). 1 ≤ p.workers) limits.pools) where
  -- behind these entries the batches have an end
  pub record Ending (sent : List Sent) (before : List Entry) : Type 0 where
    pub now : List Entry
    pub after : List Sent
    pub cut : Bool
    pub batches : AreBatches limits task real entries sent before now after cut

  abbrev nexts : List Sent → List Entry → List Sent
  nexts sent before = next_sent task before real sent (asks_of before + 1) (sent_instances sent) entries

  -- one batch, behind which the others have an end
  step : (sent : List Sent) (before : List Entry) (next : List Sent) → next ≡ nexts sent before
      → ((s : List Sent) (b : List Entry) → calls_left limits b < calls_left limits before → Ending s b) → Ending sent before
  step sent before [] is later = record { now = []; after = sent; cut = false; batches = finished (sym is) }
  step sent before (s ∷ next) is later = by (cases_lt (calls_left limits before) (length (s ∷ next)))
    where
      here : (now : List Entry) × IsBatch limits task before (sent_instances (s ∷ next)) now
      here = batch_exists limits task before (sent_instances (s ∷ next)) work

      long : length (sent_instances (s ∷ next)) ≡ length (s ∷ next)
      long = length-map (s ∷ next) (λ (t : Sent). t.instance)

      asked : length (s ∷ next) ≤ calls_left limits before
          → asks_of (before ++ here.0) ≡ asks_of before + length (s ∷ next)
      asked fits =
          let count =
          rounds_count limits task here.1.rounds
          (take (calls_left limits before) (sent_instances (s ∷ next))) before here.0 here.1.cut here.1.run in
          let whole = ap length (take_all (calls_left limits before) (sent_instances (s ∷ next)) (omega (arith, long, fits))) in
          omega (arith, asks_more before here.0, count, whole, long)

      by : (calls_left limits before < length (s ∷ next)) ⊎ (length (s ∷ next) ≤ calls_left limits before) → Ending sent before
      by (inl less) = record {
        now = here.0;
        after = sent ++ take (calls_left limits before) (s ∷ next);
        cut = true;
        batches = last (s ∷ next) is (lt-ltb (calls_left limits before) (length (s ∷ next)) less) here.1;
      }
      by (inr fits) =
          let rest = later (sent ++ s ∷ next) (before ++ here.0) (omega (arith, asked fits, fits)) in
          record {
            now = here.0 ++ rest.now;
            after = rest.after;
            cut = rest.cut;
            batches = further (s ∷ next) is (omega arith) (le-ltb (calls_left limits before) (length (s ∷ next)) fits) here.1 rest.batches;
          }

  from : (n : ℕ) (sent : List Sent) (before : List Entry) → calls_left limits before ≤ n → Ending sent before
  from zero sent before few = step sent before (nexts sent before) refl (λ s b less. absurd (omega (arith, few, less)))
  from (suc n) sent before few =
      step sent before (nexts sent before) refl (λ s b less. from n s b (omega (arith, few, less)))

  pub batches_end : (sent : List Sent) (before : List Entry) → Ending sent before
  batches_end sent before = from (calls_left limits before) sent before (omega arith)

-- ---- how many are asked

module _ (limits : Limits) (task : Task) (real : ℕ) (entries : List dreams.SupposedEntry) where
  pub batches_grow : (sent : List Sent) (before now : List Entry) (after : List Sent) (cut : Bool)
      → AreBatches limits task real entries sent before now after cut → length sent ≤ length after
  batches_grow sent before now after cut (finished none) = omega arith
  batches_grow sent before now after cut (last next is wanting batch) =
      omega (arith, length-append sent (take (calls_left limits before) next))
  batches_grow sent before now after cut (further {now = first} {rest = rest} next is some all batch more) =
      omega (arith, batches_grow (sent ++ next) (before ++ first) rest after cut more, length-append sent next)

  -- where an entry is ready and a call is left, something is asked
  pub batches_ask : (sent : List Sent) (before now : List Entry) (after : List Sent) (cut : Bool)
      → AreBatches limits task real entries sent before now after cut → asks_of before < limits.calls
      → 0 < length (next_sent task before real sent (asks_of before + 1) (sent_instances sent) entries)
      → length sent < length after
  batches_ask sent before now after cut (finished none) left some = absurd (omega (arith, some, ap length none))
  batches_ask sent before now after cut (last next is wanting batch) left some =
      omega (
        arith,
        left,
        some,
        ap length is,
        length-append sent (take (calls_left limits before) next),
        length-take (calls_left limits before) next,
      )
  batches_ask sent before now after cut (further {now = first} {rest = rest} next is more_than all batch more) left some =
      omega (arith, batches_grow (sent ++ next) (before ++ first) rest after cut more, length-append sent next, more_than)
