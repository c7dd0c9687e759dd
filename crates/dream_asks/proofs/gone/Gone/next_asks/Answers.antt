use Rattle.std.proofs.Common.{◌∙◌, ◌++◌, drop, sym, ap, refl, arith, ◌+◌}
use Rattle.std.specs.List.{list_any}
use Rattle.dream_asks.proofs.NextLemmas.{all_asks, made_ask, passed_ask, sent_next, seen_in}
use Rattle.dream_asks.specs.Next.{asks_by, ready_by}
use Rattle.dream_asks.specs.Progress.{numbered}
use Rattle.task_model.specs.Streams.{same_instance}
use Rattle.dream_asks.proofs.gone.Gone.next_asks.Goals as goal
use Rattle.dream_asks.proofs.gone.Gone.next_asks.Goals.{in-Some+in_ok-add+in_ok-outputs+in_ok-push, in_default}

pub loop-entry-preserved : goal.loop-entry-preserved
loop-entry-preserved c =
    let p = c.args.self.now in
    let task = c.args.task.now in
    let known = c.args.facts.now.known in
    let notes = c.args.queue.now in
    let es = c.args.entries.now in
    let i = c.loop-entry.entry-index in
    let now = c.loop-entry.now in
    let all = asks_by task known notes p (λ j. list_any (same_instance j) p.taken) es in
    let found = ap (ready_by task known notes p (seen_in now p.taken)) (sym c.instance.ensures) ∙ sym c.in_ok-instance.ensures in
    elim c.match-branch-2.branch [
      | in-Some+in_ok-add+in_ok-outputs+in_ok-push w ↦
          made_ask task known notes p p.taken now es c.loop-entry.asks.items all i c.entry-item.result c.loop-entry-test.true
          c.entry-item.is c.loop-entry.invariant w.in-Some.instance
          (record { instance = w.in-Some.instance; outputs = w.in_ok-outputs.outputs }) c.match-branch-2.now c.match-branch-2.asks.items
          (found ∙ w.in-Some.is) refl (w.in_ok-outputs.ensures.objects ∙ w.outputs.ensures) (w.now-is ∙ w.in_ok-add.ensures.ok)
          (ap (λ v. v.items) w.asks-is ∙ w.in_ok-push.ensures.items)
      | in_default w ↦
          passed_ask task known notes p p.taken now es c.loop-entry.asks.items all i c.entry-item.result c.loop-entry-test.true
          c.entry-item.is c.loop-entry.invariant (found ∙ w.in_default.is)
          ∙ (λ k. sym (ap (λ v. v.items) w.asks-is) k
          ++ asks_by task known notes p (seen_in (sym w.now-is k) p.taken) (drop (i + 1) es))
    ]

pub returns : goal.returns
returns c = λ before sent number known notes is.
    ap (numbered number) (sym (all_asks c.args.task.now c.args.facts.now.known c.args.queue.now c.args.self.now c.args.self.now.taken
    c.loop-entry.now c.args.entries.now c.loop-entry.asks.items _ c.loop-entry.entry-index (omega (arith, c.loop-entry-test.false))
    c.loop-entry.invariant))
    ∙ sent_next c.args.task.now c.args.facts.now.known c.args.queue.now c.args.self.now before sent known notes is
    (λ i. list_any (same_instance i) c.args.self.now.taken) number _ c.args.entries.now (λ i. ap (list_any (same_instance i)) is.taken)
