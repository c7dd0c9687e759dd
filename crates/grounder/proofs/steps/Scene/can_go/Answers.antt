use Rattle.std.proofs.Common.{◌≡◌, false, [], ◌∷◌, ◌++◌, ◌+◌, ◌<◌, ◌&&◌, ◌||◌, take, add-one, is_some, length, slice_get, sym, ap, ◌∙◌, subst, arith}
use Rattle.std.proofs.lemmas.Bool.{or_right}
use Rattle.std.proofs.lemmas.List.Folds.{list_all_at}
use Rattle.std.specs.List.{list_all}
use Rattle.formula_eval.specs.Readable.{is_readable}
use Rattle.formula_memo.specs.Remembered.{StandsFor}
use Rattle.lemmas.proofs.ListTests.{all_at, all_push, get_some}
use Rattle.lemmas.proofs.Members.{take_next}
use Rattle.plan_check.proofs.ReadableLemmas.{readable_action}
use Rattle.task_model.specs.Steps.{cost_of}
use Rattle.task_model.specs.Truth.{slots_of, is_true}
use Rattle.grounder.proofs.AsksLemmas.{judged_part, met_part}
use Rattle.grounder.proofs.PartsLemmas.{readable_tops}
use Rattle.grounder.specs.Candidates.{is_part_open}
use Rattle.grounder.specs.Parts.{is_static_part}
use Rattle.grounder.proofs.steps.Scene.can_go.Goals.{else-is_judged-via-then-is_judged+else-not-holds_with, else-is_judged-via-else-is_judged}
use Rattle.grounder.proofs.steps.Scene.can_go.Goals as goal

pub holds_with-requires-clause-readable : goal.holds_with-requires-clause-readable
holds_with-requires-clause-readable g c =
    let domain = c.args.self.now.task.now.domain in
    let action = c.args.self.now.action.now in
    let parts = c.tops-part-items.result.now in
    let readable = (readable_action domain c.requires.fit.domain action c.requires.action).condition in
    all_at (is_readable domain) parts c.loop-place.place c.part-item.result
    (ap (list_all (is_readable domain)) c.tops-part-items.ensures ∙ readable_tops domain action.condition readable)
    (get_some parts c.loop-place.place c.part-item.result c.loop-place-test.true c.part-item.is)

pub returns-then-not-holds_with-clause-value : goal.returns-then-not-holds_with-clause-value
returns-then-not-holds_with-clause-value g c =
    let scene = c.args.self.now in
    let domain = scene.task.now.domain in
    let known = g.L.Look.known scene.look.now in
    let slots = slots_of c.args.args.now in
    let parts = c.tops-part-items.result.now in
    let part = c.part-item.result in
    let place = c.loop-place.place in
    let asks = c.args.asks.now in
    let ask = c.index-asks-place.result in
    let inside : place < length asks =
    omega (arith, c.loop-place-test.true, ap length c.tops-part-items.ensures, c.requires.met.places) in
    let met =
    c.requires.met.each place part ask
    (ap (λ xs. slice_get xs place) (sym c.tops-part-items.ensures)
    ∙ get_some parts place part c.loop-place-test.true c.part-item.is)
    (get_some asks place ask inside c.index-asks-place.is) in
    let other : is_static_part domain part ≡ false =
    judged_part domain known scene.state.now slots part ask met (sym c.if-is_judged.ensures) in
    let untrue : is_true domain known scene.state.now part slots ≡ false =
    sym (c.if-not-holds_with.ensures.value ∙ ap (is_true domain known scene.state.now part) c.loop-place.invariant.1) in
    let closed : is_part_open domain known scene.state.now slots part ≡ false =
    ap (λ b. b || is_true domain known scene.state.now part slots) other ∙ untrue in
    let none = list_all_at (is_part_open domain known scene.state.now slots) parts place part c.loop-place-test.true
    (ap (is_part_open domain known scene.state.now slots) (sym c.part-item.is) ∙ closed) in
    sym (ap (λ b. b && is_some (cost_of scene.task.now known scene.action.now c.args.args.now))
    (ap (list_all (is_part_open domain known scene.state.now slots)) (sym c.tops-part-items.ensures) ∙ none))

pub loop-place-preserved : goal.loop-place-preserved
loop-place-preserved g c =
    let scene = c.args.self.now in
    let domain = scene.task.now.domain in
    let known = g.L.Look.known scene.look.now in
    let slots = slots_of c.args.args.now in
    let parts = c.tops-part-items.result.now in
    let part = c.part-item.result in
    let place = c.loop-place.place in
    let asks = c.args.asks.now in
    let ask = c.index-asks-place.result in
    let inside : place < length asks =
    omega (arith, c.loop-place-test.true, ap length c.tops-part-items.ensures, c.requires.met.places) in
    let met =
    c.requires.met.each place part ask
    (ap (λ xs. slice_get xs place) (sym c.tops-part-items.ensures)
    ∙ get_some parts place part c.loop-place-test.true c.part-item.is)
    (get_some asks place ask inside c.index-asks-place.is) in
    let is_left = is_part_open domain known scene.state.now slots in
    let next : take (place + 1) parts ≡ take place parts ++ part ∷ [] =
    ap (λ n. take n parts) (add-one place)
    ∙ take_next parts place part (get_some parts place part c.loop-place-test.true c.part-item.is) in
    elim c.else-is_judged.branch [
      | else-is_judged-via-then-is_judged+else-not-holds_with w ↦ (
        ap (list_all is_left) next
            ∙ all_push is_left (take place parts) part c.loop-place.invariant.0
            (or_right (is_static_part domain part) (is_true domain known scene.state.now part slots)
            (sym (w.if-not-holds_with.ensures.value ∙ ap (is_true domain known scene.state.now part) c.loop-place.invariant.1))),
        w.env-is ∙ w.holds_with.ensures.same ∙ c.loop-place.invariant.1,
        subst (StandsFor domain known scene.state.now) (sym w.memo-is) w.holds_with.ensures.stands,
      )
      | else-is_judged-via-else-is_judged w ↦ (
        ap (list_all is_left) next
            ∙ all_push is_left (take place parts) part c.loop-place.invariant.0
            (met_part domain known scene.state.now slots part ask met (sym w.if-is_judged.ensures)),
        w.env-is ∙ c.loop-place.invariant.1,
        subst (StandsFor domain known scene.state.now) (sym w.memo-is) c.loop-place.invariant.2,
      )
    ]
