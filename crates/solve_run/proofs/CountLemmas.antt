-- How many requests a dream's batches have.
use Rattle.std.proofs.Common.{◌≡◌, ℕ, ◌+◌, ◌<◌, arith, Bool, false, count_by, min, List, ◌++◌, length, take, refl, sym, ap, ◌∙◌, append_assoc}
use Rattle.std.proofs.lemmas.Bool.{ltb-false, ltb-true}
use Rattle.std.proofs.lemmas.List.{append-nil, length-append, length-map, length-take, take_all}
use Rattle.turn_run.proofs.ReportsCountLemmas.{rounds_none}
use Rattle.turn_laws.proofs.ModeBatchesLemmas.{batches_grow}
use Rattle.turn_laws.proofs.ModeCountsLemmas.{rounds_count}
use Rattle.lemmas.proofs.Counts.{count_joined}
use Rattle.task_model.specs.Dreams as dreams
use Rattle.task_model.specs.declared.task.Task.{Task}
use Rattle.transcript_model.proofs.LegalNumberLemmas.{asks_more}
use Rattle.transcript_model.specs.Dreaming.{Sent, sent_instances}
use Rattle.transcript_model.specs.Legal.{asks_of, is_level}
use Rattle.transcript_model.specs.Rounds.{IsBatch, Limits, calls_left}
use Rattle.transcript_model.specs.Turns.{AreBatches, finished, further, last}
use Rattle.transcript_model.specs.declared.entry.Entry.{Entry}

-- ---- requests

taken_long : (n : ℕ) (next : List Sent) → length (take n (sent_instances next)) ≡ length (take n next)
taken_long n next =
    length-take n (sent_instances next) ∙ ap (min n) (length-map next (λ (s : Sent). s.instance)) ∙ sym (length-take n next)

module _ (limits : Limits) (task : Task) (real : ℕ) (entries : List dreams.SupposedEntry) where
  batch_asked : (before now : List Entry) (next : List Sent) → IsBatch limits task before (sent_instances next) now
      → asks_of now ≡ length (take (calls_left limits before) next)
  batch_asked before now next batch =
      rounds_count limits task batch.rounds (take (calls_left limits before) (sent_instances next)) before now batch.cut batch.run
      ∙ taken_long (calls_left limits before) next

  -- each request is one of an entry
  pub batches_count : (sent : List Sent) (before now : List Entry) (after : List Sent) (cut : Bool)
      → AreBatches limits task real entries sent before now after cut
      → asks_of (before ++ now) + length sent ≡ asks_of before + length after
  batches_count sent before now after cut (finished none) = omega (arith, ap asks_of (append-nil before))
  batches_count sent before now after cut (last next is wanting batch) =
      omega (
        arith,
        asks_more before now,
        batch_asked before now next batch,
        length-append sent (take (calls_left limits before) next),
      )
  batches_count sent before now after cut (further {now = first} {rest = rest} next is some all batch more) =
      let later = batches_count (sent ++ next) (before ++ first) rest after cut more in
      let whole = ap length (take_all (calls_left limits before) next (ltb-false (calls_left limits before) (length next) all)) in
      omega (
        arith,
        later,
        ap asks_of (append_assoc before first rest),
        asks_more before first,
        batch_asked before first next batch,
        whole,
        length-append sent next,
      )

  -- where none is ready nothing is asked
  pub batches_none : (sent : List Sent) (before now : List Entry) (after : List Sent) (cut : Bool)
      → AreBatches limits task real entries sent before now after cut → after ≡ sent
      → asks_of before < limits.calls → cut ≡ false
  batches_none sent before now after cut (finished none) same left = refl
  batches_none sent before now after cut (last next is wanting batch) same left =
      absurd (omega (
        arith,
        left,
        ap length same,
        length-append sent (take (calls_left limits before) next),
        length-take (calls_left limits before) next,
        ltb-true (calls_left limits before) (length next) wanting,
      ))
  batches_none sent before now after cut (further {now = first} {rest = rest} next is more_than all batch more) same left =
      absurd (omega (
        arith,
        batches_grow limits task real entries (sent ++ next) (before ++ first) rest after cut more,
        length-append sent next,
        more_than,
        ap length same,
      ))

-- ---- levels

-- no level stands among the requests and their answers
pub batches_levels : (limits : Limits) (task : Task) (real : ℕ) (entries : List dreams.SupposedEntry) (sent : List Sent)
    (before now : List Entry) (after : List Sent) (cut : Bool)
    → AreBatches limits task real entries sent before now after cut → count_by is_level now ≡ 0
batches_levels limits task real entries sent before now after cut (finished none) = refl
batches_levels limits task real entries sent before now after cut (last next is wanting batch) =
    rounds_none task before batch.rounds now batch.run
batches_levels limits task real entries sent before now after cut (further {now = first} {rest = rest} next is more_than all batch more) =
    omega (
      arith,
      count_joined is_level first rest,
      rounds_none task before batch.rounds first batch.run,
      batches_levels limits task real entries (sent ++ next) (before ++ first) rest after cut more,
    )
