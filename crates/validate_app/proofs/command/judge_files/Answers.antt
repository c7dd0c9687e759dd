use Rattle.std.proofs.Common.{◌∙◌, ap, sym, subst}
use Rattle.learning.specs.declared.knowledge.Knowledge.{Knowledge}
use Rattle.task_model.specs.Fit.{IsFit}
use Rattle.task_model.specs.Known.{Known}
use Rattle.task_model.specs.declared.task.Task.{Task}
use Rattle.validate_app.proofs.InputsLemmas.{certain_kept, stops_since, transcript_kept}
use Rattle.validate_app.proofs.OutcomesLemmas.{is_judged}
use Rattle.validate_app.specs.Held.{held_paths}
use Rattle.validate_app.specs.Inputs.{IsPlainTaskOf}
use Rattle.validate_app.specs.Verdicts.{IsPlanVerdict}
use Rattle.validate_app.proofs.command.judge_files.Goals as goal

pub read_report-requires-clause-fit : goal.read_report-requires-clause-fit
read_report-requires-clause-fit g c = subst IsFit (sym c.deref.ensures) c.in-Ok.ensures.fit

pub read_report-requires-clause-task : goal.read_report-requires-clause-task
read_report-requires-clause-task g c =
    subst (λ told. IsPlainTaskOf told (held_paths c.args.paths.now) c.deref.result.now) (sym c.read_task.ensures.same)
    (subst (IsPlainTaskOf (g.F.Files.told c.args.files.now) (held_paths c.args.paths.now))
    (sym c.deref.ensures) c.in-Ok.ensures.task)

pub read_plan-requires : goal.read_plan-requires
read_plan-requires g c =
    let known = c.in-Ok-read_report.ensures.known in (
      c.in-Ok.task.value,
      known.0,
      subst (λ told. IsPlainTaskOf told (held_paths c.args.paths.now) c.in-Ok.task.value)
          (sym (c.read_report.ensures.same ∙ c.read_task.ensures.same)) c.in-Ok.ensures.task,
      transcript_kept _ _ (held_paths c.args.paths.now) _ _ known.0 c.read_report.ensures.same c.deref.ensures known.1,
    )

pub returns-in-Err-read_report-clause-stop : goal.returns-in-Err-read_report-clause-stop
returns-in-Err-read_report-clause-stop g c =
    stops_since _ _ _ _ c.read_task.ensures.later _ _ c.read_task.ensures.same c.in-Err-read_report.stop
    c.in-Err-read_report.ensures.stop

pub returns-in-Err-read_plan-clause-stop : goal.returns-in-Err-read_plan-clause-stop
returns-in-Err-read_plan-clause-stop g c =
    stops_since _ _ _ _ c.read_task.ensures.later _ _ c.read_task.ensures.same c.in-Err-read_plan.stop
    (stops_since _ _ _ _ c.read_report.ensures.later _ _ c.read_report.ensures.same c.in-Err-read_plan.stop
    c.in-Err-read_plan.ensures.stop)

pub judge-requires-clause-fit : goal.judge-requires-clause-fit
judge-requires-clause-fit g c = subst IsFit (sym c.deref-2.ensures) c.in-Ok.ensures.fit

pub returns-in-Ok-judge-clause-said : goal.returns-in-Ok-judge-clause-said
returns-in-Ok-judge-clause-said g c =
    let task = c.in-Ok.task.value in
    let known = c.in-Ok-read_report.knowledge.value.facts.known in
    let calls = c.as_slice.result.now in
    let verdict = c.in-Ok-judge.verdict in
    let certain = certain_kept _ (held_paths c.args.paths.now) _ _ known c.deref.ensures c.in-Ok-read_report.ensures.known in
    let said = subst (λ (t : Task). IsPlanVerdict t known calls verdict) c.deref-2.ensures
    (subst (λ (k : Known). IsPlanVerdict c.deref-2.result.now k calls verdict)
    (ap (λ (l : Knowledge). l.facts.known) c.deref-3.ensures) c.in-Ok-judge.ensures) in
    is_judged _ (held_paths c.args.paths.now) task c.in-Ok.ensures.task _ c.read_task.ensures.same known certain _
    (c.read_report.ensures.same ∙ c.read_task.ensures.same) c.in-Ok-read_plan.plan.calls.items
    c.in-Ok-read_plan.plan.claimed c.in-Ok-read_plan.ensures.plan calls c.as_slice.ensures.value verdict said
