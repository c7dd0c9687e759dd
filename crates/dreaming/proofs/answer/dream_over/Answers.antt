use Rattle.std.proofs.Common.{inl, inr, sym, subst, arith}
use Rattle.best_first.specs.Answer.{HasPlan, IsFoundPlan, IsNothing, IsLimit}
use Rattle.best_first.specs.declared.found.Found.{Found}
use Rattle.task_model.specs.Known.{Known}
use Rattle.task_model.specs.Plans.{IsValid, IsSolvable, IsFar}
use Rattle.dreaming.proofs.AfterLemmas.{thin_comes}
use Rattle.std.proofs.lemmas.Result.{IfOk-weaker}
use Rattle.dreaming.specs.Answers.{IsThinDream, ComesOfList}
use Rattle.dreaming.proofs.answer.dream_over.Goals as goal

pub thinned-requires-clause-few : goal.thinned-requires-clause-few
thinned-requires-clause-few c =
    let found : IsFoundPlan c.args.task.now c.look-look.result.known c.args.states c.in-Plan.plan.steps c.in-Plan.cost =
    subst (λ (f : Found). HasPlan c.args.task.now c.look-look.result.known c.args.states f) c.in-Plan.is c.in_ok-plan.ensures.plan in
    omega (arith, found.few, c.requires.few)

pub thinned-requires-clause-valid : goal.thinned-requires-clause-valid
thinned-requires-clause-valid c =
    let found : IsFoundPlan c.args.task.now c.look-look.result.known c.args.states c.in-Plan.plan.steps c.in-Plan.cost =
    subst (λ (f : Found). HasPlan c.args.task.now c.look-look.result.known c.args.states f) c.in-Plan.is c.in_ok-plan.ensures.plan in
    subst (λ (k : Known). IsValid c.args.task.now k c.in-Plan.plan.steps c.in-Plan.cost) c.look-look.ensures found.valid

pub returns-in-Plan : goal.returns-in-Plan
returns-in-Plan c =
    let task = c.args.task.now in
    let d = c.args.supposed.now in
    let found : IsFoundPlan task c.look-look.result.known c.args.states c.in-Plan.plan.steps c.in-Plan.cost =
    subst (λ (f : Found). HasPlan task c.look-look.result.known c.args.states f) c.in-Plan.is c.in_ok-plan.ensures.plan in
    IfOk-weaker c.thinned.result (IsThinDream task d c.in-Plan.plan.steps) (ComesOfList task d c.args.states)
    (thin_comes task d c.in-Plan.plan.steps c.args.states found.few) c.thinned.ensures

pub returns-in-Nothing : goal.returns-in-Nothing
returns-in-Nothing c =
    let none = (c.in_ok-plan.ensures.nothing.0 (subst IsNothing (sym c.in-Nothing.is) tt)).0 in
    inl (λ s. none (subst (λ (k : Known). IsSolvable c.args.task.now k) (sym c.look-look.ensures) s))

pub returns : goal.returns
returns c =
    inr (subst (λ (k : Known). IsFar c.args.task.now k c.args.states) c.look-look.ensures
    (c.in_ok-plan.ensures.limit (subst IsLimit (sym c.in-Limit.is) tt)))

pub returns-then-branch : goal.returns-then-branch
returns-then-branch c =
    inl (λ s. c.in_ok-out_of_reach.ensures c.if-branch.true
    (subst (λ (k : Known). IsSolvable c.args.task.now k) (sym c.look-look.ensures) s))
