use Rattle.std.proofs.Common.{◌≡◌, ◌+◌, ◌-◌, ◌++◌, ◌∷◌, [], length, replicate, arith, ap, ◌∙◌, sym}
use Rattle.std.proofs.lemmas.List.{length-append}
use Rattle.fact_store.proofs.GrowthLemmas.{between_same, front_then}
use Rattle.lemmas.proofs.Results.{on_err}
use Rattle.task_model.specs.Streams.{Yielded}
use Rattle.learning.proofs.LearningTupleLemmas.{one_less, one_more}
use Rattle.learning.proofs.learn.note_tuples.Goals as goal

pub loop-preserved : goal.loop-preserved
loop-preserved c =
    let note = Yielded c.args.instance.now in
    let pushed : c.note_got.new.self ≡ c.loop.queue ++ note ∷ [] = c.in_ok-note_got.ensures.ok in
    record {
      notes = ap (λ ns. ns ++ replicate (c.args.tuples - (c.loop.counter + 1)) note) pushed
          ∙ one_more c.loop.queue note (c.args.tuples - (c.loop.counter + 1))
          ∙ ap (λ n. c.loop.queue ++ replicate n note) (sym (one_less c.args.tuples c.loop.counter c.loop-test.true))
          ∙ c.loop.invariant.notes;
      grown = front_then c.args.queue.now c.loop.queue c.note_got.new.self c.loop.invariant.grown (note ∷ [], pushed);
      few = omega (arith, ap length pushed, length-append c.loop.queue (note ∷ []), c.loop.invariant.few);
    }

pub returns-in_err-note_got-clause-part : goal.returns-in_err-note_got-clause-part
returns-in_err-note_got-clause-part c =
    let note = Yielded c.args.instance.now in
    on_err c.from_residual.result _
    (between_same c.args.queue.now c.loop.queue c.note_got.new.self (c.args.queue.now ++ replicate c.args.tuples note)
    c.in_err-note_got.ensures.err
    (c.loop.invariant.grown, (replicate (c.args.tuples - c.loop.counter) note, sym c.loop.invariant.notes)))
