use Rattle.std.proofs.Common.{◌≡◌, ◌↔◌, true, false, IsTrue, sym, ◌∙◌}
use Rattle.std.proofs.lemmas.Bool.{both_ways}
use Rattle.std.proofs.lemmas.Result.{IfOk-weaker}
use Rattle.task_model.specs.Fit.{IsFit, leads}
use Rattle.fit_check.proofs.FitLemmas.{nearly, fit_if, fit_nearly, fit_items}
use Rattle.fit_check.specs.Cycles.{IsAcyclic}
use Rattle.fit_check.proofs.check.is_fit.Goals as goal

pub returns-then-not-is_nearly_fit : goal.returns-then-not-is_nearly_fit
returns-then-not-is_nearly_fit c = (
  λ e. absurd (let f : false ≡ true = e in cc),
  λ is. absurd
      (both_ways (nearly c.args.task.now) (sym c.is_nearly_fit.ensures ∙ c.if-not-is_nearly_fit.true) (fit_nearly c.args.task.now is)),
)

pub returns-then-not-branch : goal.returns-then-not-branch
returns-then-not-branch c = (
  λ e. absurd (let f : false ≡ true = e in cc),
  λ is. absurd (both_ways c.in_ok-is_acyclic.field-0 c.if-not-branch.true (c.in_ok-is_acyclic.ensures.1 (fit_items c.args.task.now is))),
)

pub returns : goal.returns
returns c =
    let task = c.args.task.now in
    IfOk-weaker c.is_acyclic-2.result (λ b. IsTrue b ↔ IsAcyclic (leads task)) (λ b. IsTrue b ↔ IsFit task)
    (λ b is. (
      λ e. fit_if task (sym c.is_nearly_fit.ensures ∙ c.if-not-is_nearly_fit.false)
          (c.in_ok-is_acyclic.ensures.0 c.if-not-branch.false) (is.0 e),
      λ fit. is.1 fit.streams.acyclic,
    ))
    c.is_acyclic-2.ensures
