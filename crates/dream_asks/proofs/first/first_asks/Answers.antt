use Rattle.std.proofs.Common.{take, ap, ◌∙◌, ◌+◌, ◌≡◌, nat_lt, ◌&&◌, false, true, sym, subst}
use Rattle.std.specs.List.{list_all}
use Rattle.dream_asks.proofs.FirstLemmas.{next_asked, next_passed}
use Rattle.dream_asks.specs.First.{AreFirstAsks}
use Rattle.task_model.specs.Streams.{is_due, yields_of}
use Rattle.dream_asks.proofs.first.first_asks.Goals as goal
use Rattle.dream_asks.proofs.first.first_asks.Goals.{then-is_real+then-is_due+in_ok-instance+in_ok-push, else-is_real, else-is_real-via-then-is_real+else-is_due, else-is_real-via-else-is_real}

pub loop-entry-preserved : goal.loop-entry-preserved
loop-entry-preserved c =
    let task = c.args.task.now in
    let known = c.args.facts.now.known in
    let notes = c.args.queue.now in
    let real = c.args.real in
    let entries = c.args.entries.now in
    let e = c.entry-item.result in
    let now = AreFirstAsks task known notes real (take (c.loop-entry.entry-index + 1) entries) in
    elim c.if-is_real.branch [
      | then-is_real+then-is_due+in_ok-instance+in_ok-push w ↦
          let is_real : list_all (λ o. nat_lt o real) e.instance.inputs ≡ true = cc in
          let due : is_due task known notes e.instance ≡ true =
          ap (is_due task known notes) (sym c.instance-instance.ensures) ∙ sym w.is_due.ensures ∙ w.if-is_due.true in
          subst (λ asks. now asks.items) (sym w.asks-is)
          (subst now (sym w.in_ok-push.ensures.items)
          (next_asked task known notes real entries c.loop-entry.entry-index e c.loop-entry-test.true c.entry-item.is
          c.loop-entry.asks.items c.loop-entry.invariant (λ i. is_real i && due i)
          (record { instance = w.in_ok-instance.instance; turn = w.yields-turn.result })
          (w.in_ok-instance.ensures ∙ c.instance-instance.ensures)
          (w.yields-turn.ensures ∙ ap (yields_of notes) (sym w.in_ok-instance.ensures))))
      | else-is_real w ↦
          subst (λ asks. now asks.items) (sym w.asks-is)
          (next_passed task known notes real entries c.loop-entry.entry-index e c.loop-entry-test.true c.entry-item.is
          c.loop-entry.asks.items c.loop-entry.invariant (elim w.else-is_real.branch [
            | else-is_real-via-then-is_real+else-is_due v ↦
                let is_real : list_all (λ o. nat_lt o real) e.instance.inputs ≡ true = cc in
                let due : is_due task known notes e.instance ≡ false =
                ap (is_due task known notes) (sym c.instance-instance.ensures) ∙ sym v.is_due.ensures ∙ v.if-is_due.false in
                (λ i. is_real i && due i)
            | else-is_real-via-else-is_real v ↦
                let is_real : list_all (λ o. nat_lt o real) e.instance.inputs ≡ false = cc in
                (λ i. is_real i && is_due task known notes e.instance)
          ]))
    ]
