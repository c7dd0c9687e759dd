use Rattle.std.proofs.Common.{arith, length, ap, subst, sym}
use Rattle.std.proofs.lemmas.Result.{IfOk-weaker}
use Rattle.pddlstream_app.proofs.PlansLemmas.{calls_few}
use Rattle.pddlstream_app.specs.Plans.{SaysPlayBy, SaysPlayOf}
use Rattle.pddlstream_app.proofs.play.right_said.Goals as goal

pub play_said-requires : goal.play_said-requires
play_said-requires c =
    let p = c.in-Plan in
    let few = calls_few c.args.report.now p.steps _ _ p.is in
    omega (arith, few, ap length c.as_slice.ensures, c.requires)

pub returns-in-Plan : goal.returns-in-Plan
returns-in-Plan c =
    let p = c.in-Plan in
    IfOk-weaker c.play_said.result _ _ (λ s told.
    subst (λ o. SaysPlayBy c.args.grid.now o s.status s.text.items) (sym p.is)
    (subst (λ calls. SaysPlayOf c.args.grid.now calls s.status s.text.items) c.as_slice.ensures told)) c.play_said.ensures

pub returns-in-NoPlan : goal.returns-in-NoPlan
returns-in-NoPlan c =
    IfOk-weaker c.new.result _ _ (λ s told.
    subst (λ o. SaysPlayBy c.args.grid.now o s.status s.text.items) (sym c.in-NoPlan.is) told) c.new.ensures

pub returns-in-Limit : goal.returns-in-Limit
returns-in-Limit c =
    IfOk-weaker c.new-in-Limit.result _ _ (λ s told.
    subst (λ o. SaysPlayBy c.args.grid.now o s.status s.text.items) (sym c.in-Limit.is) told) c.new-in-Limit.ensures
