use Rattle.std.proofs.Common.{ℕ, subst, sym}
use Rattle.std.proofs.lemmas.Result.{IfOk-weaker}
use Rattle.pddlstream_app.proofs.PlansLemmas.{plan_there}
use Rattle.pddlstream_app.specs.Plans.{SaysOrderBy, SaysOrderOf}
use Rattle.shown_steps.specs.Plans.{IsPlan}
use Rattle.transcript_model.specs.Transcript.{known_of}
use Rattle.pddlstream_app.proofs.deorder.right_said.Goals as goal

pub order_said-requires : goal.order_said-requires
order_said-requires c =
    let p = c.in-Plan in
    record {
      fit = c.requires.fit;
      plan = subst (λ calls. (k : ℕ) × IsPlan c.args.task.now c.args.right.now.facts.known calls k) (sym c.as_slice.ensures)
          (plan_there c.args.task.now c.args.right.now.report c.args.right.now.facts.known p.steps _ _ c.requires.right c.requires.known
          p.is);
    }

pub returns-in-Plan : goal.returns-in-Plan
returns-in-Plan c =
    let p = c.in-Plan in
    let task = c.args.task.now in
    let report = c.args.right.now.report in
    IfOk-weaker c.order_said.result _ _ (λ s told.
    subst (λ o. SaysOrderBy task (known_of task report.entries) o s.status s.text.items) (sym p.is)
    (subst (λ known. SaysOrderOf task known p.steps s.status s.text.items) c.requires.known
    (subst (λ calls. SaysOrderOf task c.args.right.now.facts.known calls s.status s.text.items) c.as_slice.ensures told)))
    c.order_said.ensures

pub returns-in-NoPlan : goal.returns-in-NoPlan
returns-in-NoPlan c =
    let task = c.args.task.now in
    let report = c.args.right.now.report in
    IfOk-weaker c.new.result _ _ (λ s told.
    subst (λ o. SaysOrderBy task (known_of task report.entries) o s.status s.text.items) (sym c.in-NoPlan.is) told) c.new.ensures

pub returns-in-Limit : goal.returns-in-Limit
returns-in-Limit c =
    let task = c.args.task.now in
    let report = c.args.right.now.report in
    IfOk-weaker c.new-in-Limit.result _ _ (λ s told.
    subst (λ o. SaysOrderBy task (known_of task report.entries) o s.status s.text.items) (sym c.in-Limit.is) told)
    c.new-in-Limit.ensures
