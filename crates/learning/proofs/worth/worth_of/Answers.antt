use Rattle.std.proofs.Common.{◌≡◌, ◌≤◌, ◌∙◌, ◌∷◌, [], length, sym, ap, subst, true}
use Rattle.std.specs.List.{list_all}
use Rattle.formula_eval.specs.Readable.{is_readable_term}
use Rattle.task_model.specs.Streams.{worth_by}
use Rattle.task_model.specs.Truth.{objects_at}
use Rattle.learning.proofs.FitStreamLemmas.{fit_parts, short_worth}
use Rattle.learning.proofs.worth.worth_of.Goals as goal

pub objects_at-args-requires-clause-short : goal.objects_at-args-requires-clause-short
objects_at-args-requires-clause-short c =
    subst (λ ts. length ts ≤ 8) (sym c.as_slice.ensures)
    (short_worth c.args.domain.now c.requires.domain c.args.stream.now (fit_parts c.args.domain.now c.args.stream.now c.requires.stream)
    c.in-Some.worth c.in-Some.is).0

pub objects_at-args-requires-clause-readable : goal.objects_at-args-requires-clause-readable
objects_at-args-requires-clause-readable c =
    subst (λ ts. list_all is_readable_term ts ≡ true) (sym c.as_slice.ensures)
    (short_worth c.args.domain.now c.requires.domain c.args.stream.now (fit_parts c.args.domain.now c.args.stream.now c.requires.stream)
    c.in-Some.worth c.in-Some.is).1

pub returns : goal.returns
returns c =
    ap (λ os. record { func = c.in-Some.worth.func; args = os; value = c.args.value } ∷ [])
    (c.objects_at-args.ensures ∙ (λ i. objects_at (c.new.ensures i) (c.as_slice.ensures i)))
    ∙ sym (ap (λ w. worth_by (record c.args.stream.now { worth = w }) c.args.inputs.now c.args.value) c.in-Some.is)
