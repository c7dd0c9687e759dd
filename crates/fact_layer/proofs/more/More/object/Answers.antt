use Rattle.std.proofs.Common.{◌≡◌, ◌-◌, ◌∙◌, ap, arith, length, slice_get}
use Rattle.task_model.specs.Known.{objects_of}
use Rattle.fact_layer.proofs.LaidLemmas.{objects-append, get_before, get_after}
use Rattle.fact_layer.proofs.more.More.object.Goals as goal

pub returns-then-number-before : goal.returns-then-number-before
returns-then-number-before c =
    let base = c.args.base.now.known.facts in
    let more = c.args.self.now.facts in
    let sort = c.args.sort in
    let long : c.count-before.result ≡ length (objects_of base sort) =
    c.count-before.ensures.count ∙ ap (λ fs. length (objects_of fs sort)) c.fact_table.ensures in
    c.object.ensures ∙ ap (λ fs. slice_get (objects_of fs sort) c.args.number) c.fact_table-then-number-before.ensures
    ∙ get_before (objects_of base sort) (objects_of more sort) c.args.number (omega (arith, long, c.if-number-before.true))
    ∙ ap (λ os. slice_get os c.args.number) (objects-append sort base more)

pub returns-else-number-before : goal.returns-else-number-before
returns-else-number-before c =
    let base = c.args.base.now.known.facts in
    let more = c.args.self.now.facts in
    let sort = c.args.sort in
    let long : c.count-before.result ≡ length (objects_of base sort) =
    c.count-before.ensures.count ∙ ap (λ fs. length (objects_of fs sort)) c.fact_table.ensures in
    c.object-else-number-before.ensures
    ∙ ap (λ n. slice_get (objects_of more sort) (c.args.number - n)) long
    ∙ get_after (objects_of base sort) (objects_of more sort) c.args.number (λ h. absurd (omega (arith, long, h, c.if-number-before.false)))
    ∙ ap (λ os. slice_get os c.args.number) (objects-append sort base more)
