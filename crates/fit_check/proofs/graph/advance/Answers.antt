use Rattle.std.proofs.Common.{◌≡◌, refl, ℕ, ◌+◌, ◌<◌, true, false, sym, ◌∙◌, subst, arith, slice_index, slice_set}
use Rattle.fit_check.proofs.CyclesLemmas.{settled_moved, work_falls, still_more}
use Rattle.fit_check.proofs.graph.advance.Goals as goal
use Rattle.fit_check.proofs.graph.advance.Goals.{then-next-from, else-next-from}
use Rattle.fit_check.specs.Cycles.{IsSettled, work_left}

pub loop-from-preserved : goal.loop-from-preserved
loop-from-preserved g c =
    let edge = g.G.Graph.edge c.args.graph.now in
    let size = g.G.Graph.size c.args.graph.now in
    let next = c.loop-from.next in
    let from = c.loop-from.from in
    let to = c.next_open-to.result in
    let settled = c.loop-from.invariant.settled in
    let low : from < size = omega (arith, settled.long) in
    elim c.if-next-from.branch [
      | then-next-from w ↦
          let up : slice_index next from < to = w.if-next-from.true in
          let less = work_falls size next from to (omega (arith, settled.long)) up c.next_open-to.ensures.within in
          record {
            settled = subst (IsSettled edge size) (sym w.next-is)
                (settled_moved edge size next from to (g.met.G.Graph.within c.args.graph.now) settled low
                (omega arith) c.next_open-to.ensures.within c.next_open-to.ensures.passed);
            moved = λ _. subst (λ ns. work_left size ns < work_left size c.args.next.now) (sym w.next-is)
                (elim (c.loop-from.moved) as
                (λ b. c.loop-from.moved ≡ b → work_left size (slice_set next from to) < work_left size c.args.next.now) [
                  | true ↦ λ t. let more = c.loop-from.invariant.moved t in omega arith
                  | false ↦ λ f. subst (λ ns. work_left size (slice_set next from to) < work_left size ns)
                      ((c.loop-from.invariant.still f).0) less
                ] refl);
            still = λ e. absurd (let yes : c.if-next-from.moved ≡ true = w.moved-is in cc);
          }
      | else-next-from w ↦ record {
        settled = subst (IsSettled edge size) (sym w.next-is) settled;
        moved = λ e. subst (λ ns. work_left size ns < work_left size c.args.next.now)
            (sym w.next-is) (c.loop-from.invariant.moved (sym w.moved-is ∙ e));
        still = λ e.
            let before = c.loop-from.invariant.still (sym w.moved-is ∙ e) in (
              w.next-is ∙ before.0,
              subst (λ ns. (i : ℕ) → i < from + 1 → slice_index ns i < size
                  → (edge i (slice_index ns i) ≡ true) × (slice_index ns (slice_index ns i) < size)) (sym w.next-is)
                  (still_more edge size next from to w.if-next-from.false c.next_open-to.ensures.on c.next_open-to.ensures.open before.1),
            );
      }
    ]
