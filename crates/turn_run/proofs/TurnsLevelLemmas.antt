-- Levels, one after another.
use Rattle.std.proofs.Common.{◌≡◌, ℕ, ◌-◌, ◌<◌, ◌≤◌, arith, true, inl, inr, List, [], ◌∷◌, ◌++◌, length, sym, subst, All}
use Rattle.std.proofs.lemmas.Bool.{lt-ltb, le-ltb}
use Rattle.std.proofs.lemmas.List.{length-map}
use Rattle.instance_queue.specs.Level.{due_instances}
use Rattle.instance_queue.specs.declared.due.Due.{Due}
use Rattle.session_core.specs.Ready.{AreReady}
use Rattle.task_model.specs.Fit.{IsFit}
use Rattle.task_model.specs.Streams.{IsDue, yields_of}
use Rattle.task_model.specs.declared.task.Task.{Task}
use Rattle.transcript_model.proofs.LegalStepLemmas.{mark_adds}
use Rattle.transcript_model.specs.Legal.{IsLegal, asks_of, is_mark}
use Rattle.transcript_model.specs.Rounds.{limits_of}
use Rattle.transcript_model.specs.Transcript.{known_of, notes_of}
use Rattle.transcript_model.specs.Turns.{MayBegin, is_cut}
use Rattle.transcript_model.specs.declared.entry.Entry.{Entry}
use Rattle.transcript_model.specs.declared.head.Head.{Head}
use Rattle.turn_run.specs.Turns.{IsTurn, cut_by}
use Rattle.turn_laws.specs.Lazy.{IsTurnNeeded}
use Rattle.instance_queue.specs.Level.{AreDueInTurn}
use Rattle.task_model.specs.Plans.{IsFar, IsSolvable}
use Rattle.round_run.specs.Batches.{EndsBatch}
use Rattle.round_run.specs.declared.ending.Batch.{Batch}
use Rattle.round_run.specs.declared.ending.Batch.TheVariants.{Done, CallsSpent}

-- what was due is due behind a mark
pub ready_marked : (version : ℕ) (task : Task) (before : List Entry) (dues : List Due) (e : Entry) → is_mark e ≡ true
    → IsFit task → IsLegal version task before
    → AreReady task before dues → AreReady task (before ++ e ∷ []) dues
ready_marked version task before dues e mark fit legal ready =
    let same = (mark_adds version task before fit.problem.objects.names.distinct legal e mark).same in
    record {
      due = λ i m. subst (λ ns. IsDue task (known_of task (before ++ e ∷ [])) ns i)
          (sym same.notes) (subst (λ k. IsDue task k (notes_of task before) i) (sym same.known) (ready.due i m));
      turns = subst (λ ns. All (λ (d : Due). d.turn ≡ yields_of ns d.instance) dues) (sym same.notes) ready.turns;
      distinct = ready.distinct;
    }

-- a turn that may follow may follow a mark
pub turn_marked : (head : Head) (task : Task) (before : List Entry) (asks : ℕ) (dues : List Due) (e : Entry)
    → is_mark e ≡ true → IsFit task → IsLegal head.version task before
    → IsTurn head task before asks dues → IsTurn head task (before ++ e ∷ []) asks dues
turn_marked head task before asks dues e mark fit legal turn =
    let same = (mark_adds head.version task before fit.problem.objects.names.distinct legal e mark).same in
    record {
      due = subst (λ ns. AreDueInTurn task (known_of task (before ++ e ∷ [])) ns dues) (sym same.notes)
          (subst (λ k. AreDueInTurn task k (notes_of task before) dues) (sym same.known) turn.due);
      ready = ready_marked head.version task before dues e mark fit legal turn.ready;
      some = turn.some;
      left = turn.left;
      needed = by turn.needed same.known;
    }
  where
    by : IsTurnNeeded (limits_of head) task before → known_of task (before ++ e ∷ []) ≡ known_of task before
        → IsTurnNeeded (limits_of head) task (before ++ e ∷ [])
    by (inl none) same = inl (subst (λ k. ¬ (IsSolvable task k)) (sym same) none)
    by (inr (other, far)) same = inr (other, subst (λ k. IsFar task k head.states) (sym same) far)

-- the turn may begin
pub may_begin : (head : Head) (task : Task) (before : List Entry) (asks : ℕ) (dues : List Due)
    → asks ≡ asks_of before
    → IsTurn head task before asks dues → MayBegin (limits_of head) task before
may_begin head task before asks dues counted turn = record {
  list = due_instances dues;
  due = turn.due.due;
  some = omega (arith, turn.some, length-map dues (λ (d : Due). d.instance));
  few = omega (arith, turn.due.few, length-map dues (λ (d : Due). d.instance));
  left = omega (arith, counted, turn.left);
}

-- ---- a level

-- calls were wanting where the batch says so
pub batch_cut : {A : Type 0} (head : Head) (task : Task) (before after : List Entry) (asks later many : ℕ) (list : List A) (b : Batch)
    → asks ≡ asks_of before → asks ≤ head.calls → length list ≡ many
    → EndsBatch task after asks later head.calls many b → cut_by b ≡ is_cut (limits_of head) before list
batch_cut head task before after asks later many list Done counted within long e =
    sym (le-ltb (head.calls - asks_of before) (length list) (omega (arith, long, e.0, e.1, counted)))
batch_cut head task before after asks later many list CallsSpent counted within long e =
    sym (lt-ltb (head.calls - asks_of before) (length list) (omega (arith, long, e.1, counted, within)))

-- a batch asks something where a call is left
pub batch_asks : (task : Task) (entries : List Entry) (before after calls many : ℕ) (b : Batch) → before < calls → 0 < many
    → EndsBatch task entries before after calls many b → before < after
batch_asks task entries before after calls many Done left some ends = omega (arith, ends.0, some)
batch_asks task entries before after calls many CallsSpent left some ends = omega (arith, ends.0, left)
