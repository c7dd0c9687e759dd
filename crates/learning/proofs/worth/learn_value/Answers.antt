use Rattle.std.proofs.Common.{◌≡◌, ap, sym, subst, ◌∙◌, All, length, ◌≤◌, true}
use Rattle.learning.proofs.FitStreamLemmas.{fit_parts, plain_worth}
use Rattle.learning.proofs.worth.learn_value.Goals as goal
use Rattle.formula_eval.specs.Readable.{is_readable_term}
use Rattle.std.specs.List.{list_all}
use Rattle.task_model.specs.Known.{IsIn, with_value, with_values}
use Rattle.task_model.specs.Streams.{worth_by}
use Rattle.task_model.specs.Truth.{objects_at}

pub objects_at-row-requires-clause-short : goal.objects_at-row-requires-clause-short
objects_at-row-requires-clause-short c =
    let plain =
    plain_worth c.args.domain.now c.requires.may.fit_domain c.args.facts.now.known.names c.requires.may.constants c.args.stream.now
    (fit_parts c.args.domain.now c.args.stream.now c.requires.may.fit_stream) c.args.inputs.now c.requires.may.many c.requires.may.named
    c.in-Some.worth c.in-Some.is in
    subst (λ ts. length ts ≤ 8) (sym c.as_slice.ensures) plain.short

pub objects_at-row-requires-clause-readable : goal.objects_at-row-requires-clause-readable
objects_at-row-requires-clause-readable c =
    let plain =
    plain_worth c.args.domain.now c.requires.may.fit_domain c.args.facts.now.known.names c.requires.may.constants c.args.stream.now
    (fit_parts c.args.domain.now c.args.stream.now c.requires.may.fit_stream) c.args.inputs.now c.requires.may.many c.requires.may.named
    c.in-Some.worth c.in-Some.is in
    subst (λ ts. list_all is_readable_term ts ≡ true) (sym c.as_slice.ensures) plain.readable

pub add_value-requires-clause-objects : goal.add_value-requires-clause-objects
add_value-requires-clause-objects c =
    let plain =
    plain_worth c.args.domain.now c.requires.may.fit_domain c.args.facts.now.known.names c.requires.may.constants c.args.stream.now
    (fit_parts c.args.domain.now c.args.stream.now c.requires.may.fit_stream) c.args.inputs.now c.requires.may.many c.requires.may.named
    c.in-Some.worth c.in-Some.is in
    subst (All (IsIn c.args.facts.now.known.names))
    (sym (c.objects_at-row.ensures ∙ (λ i. objects_at (c.new.ensures i) (c.as_slice.ensures i)))) plain.named

pub returns-clause-values : goal.returns-clause-values
returns-clause-values c =
    c.in_ok-add_value.ensures.values
    ∙ ap (λ os. with_value c.args.facts.now.known.values (record { func = c.in-Some.worth.func; args = os; value = c.args.value }))
    (c.objects_at-row.ensures ∙ (λ i. objects_at (c.new.ensures i) (c.as_slice.ensures i)))
    ∙ sym (ap
    (λ w. with_values c.args.facts.now.known.values (worth_by (record c.args.stream.now { worth = w }) c.args.inputs.now c.args.value))
    c.in-Some.is)
