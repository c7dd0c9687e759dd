use Rattle.std.proofs.Common.{◌≡◌, ◌+◌, ◌++◌, ◌∷◌, [], take, sym, ap, subst, ◌∙◌, add-one}
use Rattle.std.proofs.lemmas.List.{take_all}
use Rattle.lemmas.proofs.ListTests.{get_some}
use Rattle.lemmas.proofs.Members.{take_next}
use Rattle.plan_deorder.proofs.StagingLemmas.{touched_begin, touched_next}
use Rattle.plan_deorder.specs.Clashes.{AreTouched}
use Rattle.plan_deorder.proofs.order.touched_by_each.Goals as goal

pub loop-step-init : goal.loop-step-init
loop-step-init c = touched_begin c.args.task.now _ c.in_ok-touched.ensures.items

pub touched_by-requires-clause-named : goal.touched_by-requires-clause-named
touched_by-requires-clause-named c =
    c.requires.named c.loop-step.step-index c.step-item.result
    (get_some c.args.steps.now c.loop-step.step-index c.step-item.result c.loop-step-test.true c.step-item.is)

pub loop-step-preserved : goal.loop-step-preserved
loop-step-preserved c =
    let task = c.args.task.now in
    let steps = c.args.steps.now in
    let index = c.loop-step.step-index in
    let step = c.step-item.result in
    let next : take (index + 1) steps ≡ take index steps ++ step ∷ [] =
    ap (λ n. take n steps) (add-one index)
    ∙ take_next steps index step (get_some steps index step c.loop-step-test.true c.step-item.is) in
    subst (λ xs. AreTouched task xs c.push.new.self.items) (sym next)
    (subst (AreTouched task (take index steps ++ step ∷ [])) (sym c.in_ok-push.ensures.items)
    (touched_next task (take index steps) c.loop-step.touched.items step c.in_ok-touched_by.field-0 c.loop-step.invariant
    c.in_ok-touched_by.ensures))

pub returns : goal.returns
returns c =
    subst (λ xs. AreTouched c.args.task.now xs c.loop-step.touched.items)
    (take_all c.loop-step.step-index c.args.steps.now c.loop-step-test.false) c.loop-step.invariant
