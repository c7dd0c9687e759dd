use Rattle.std.proofs.Common.{◌≡◌, ap, sym, ◌∙◌, ◌++◌, ◌∷◌, [], Some, slice_get}
use Rattle.std.proofs.lemmas.Option.{slice_get-get_or}
use Rattle.session_core.proofs.RoundBeginLemmas.{asks_step, slots_step, instances_step}
use Rattle.session_core.proofs.round.round_of.Goals as goal

pub loop-place-preserved : goal.loop-place-preserved
loop-place-preserved c =
    let task = c.args.scene.now.task.now in
    let names = c.args.scene.now.facts.now.known.names in
    let version = c.args.scene.now.version in
    let pools = c.args.scene.now.pools.now in
    let dues = c.args.dues.now in
    let k = c.loop-place.place in
    let d = c.index-dues-place.result in
    let at : slice_get dues k ≡ Some d = slice_get-get_or dues k d c.loop-place-test.true ∙ ap Some (sym c.index-dues-place.is) in
    record {
      asks =
          c.in_ok-push.ensures.items ∙ (λ i. c.loop-place.invariant.asks i ++ c.in_ok-ask_for.ensures i ∷ [])
          ∙ sym (asks_step task names c.args.first dues k d at);
      instances =
          c.in_ok-push-2.ensures.items ∙ (λ i. c.loop-place.invariant.instances i ++ c.in_ok-copy.ensures i ∷ [])
          ∙ sym (instances_step dues k d at);
      cells =
          c.in_ok-push-3.ensures.items ∙ (λ i. c.loop-place.invariant.cells i ++ c.in_ok-cell_for.ensures i ∷ [])
          ∙ sym (slots_step task names version pools c.args.first [] dues k d at);
    }
