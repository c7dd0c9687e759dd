use Rattle.std.proofs.Common.{ap, sym, ◌∙◌}
use Rattle.std.specs.Vec.{vec_items}
use Rattle.order_text.proofs.TextsLemmas.{member_left, member_put}
use Rattle.order_text.proofs.text.put_members.Goals.{then-stage-other+in_ok-put_number, else-stage-other}
use Rattle.order_text.proofs.text.put_members.Goals as goal

pub loop-place-preserved : goal.loop-place-preserved
loop-place-preserved c =
    let old = c.args.text.now.items in
    let text = c.loop-place.text.items in
    let stages = c.args.stages.now in
    let place = c.loop-place.place in
    elim c.if-stage-other.branch [
      | then-stage-other+in_ok-put_number w ↦
          ap vec_items w.text-is ∙ w.in_ok-put_number.ensures
          ∙ member_put stages c.args.stage place old text c.loop-place.invariant (sym w.if-stage-other.true)
      | else-stage-other w ↦
          ap vec_items w.text-is
          ∙ member_left stages c.args.stage place old text c.loop-place.invariant (λ e. w.if-stage-other.false (sym e))
    ]
