use Rattle.std.proofs.Common.{◌∙◌, ◌++◌, refl, ap, take, drop, length, ◌-◌, []}
use Rattle.std.proofs.lemmas.List.{take-append-drop, take_rest}
use Rattle.task_model.specs.Known.{value_of}
use Rattle.fact_store.proofs.value_table.ValueTable.value.Goals as goal

pub returns-in-Ok : goal.returns-in-Ok
returns-in-Ok c =
    let values = c.self.inside.values.keys in
    let done = c.self.inside.done in
    c.least_value.ensures (take done values) (c.copied-least.ensures ∙ c.get.ensures.value
    ∙ c.self.invariant.least (c.args.func, c.in-Ok.row) ∙ ap (value_of (take done values) c.args.func) c.in-Ok.ensures.objects)
    ∙ ap (λ vs. value_of (take done values ++ take (length vs - done) (drop done vs)) c.args.func c.args.args.now)
    c.as_slice-values.ensures.keys
    ∙ ap (λ vs. value_of vs c.args.func c.args.args.now)
    (ap (λ vs. take done values ++ vs) (take_rest values done) ∙ take-append-drop done values ∙ c.self.view_is)

pub returns-in-Err : goal.returns-in-Err
returns-in-Err c =
    c.least_value-in-Err.ensures [] refl
    ∙ ap (λ vs. value_of vs c.args.func c.args.args.now) (c.as_slice-values.ensures.keys ∙ c.self.view_is)
