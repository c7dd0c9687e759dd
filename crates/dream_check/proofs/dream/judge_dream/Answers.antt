use Rattle.std.proofs.Common.{◌≤◌, ◌∙◌, length, sym, subst}
use Rattle.std.proofs.lemmas.Result.{IfOk-weaker}
use Rattle.dreaming.proofs.AfterLemmas.{listed, names_enough, names_real}
use Rattle.optimistic_set.specs.Dreamable.{AreReal}
use Rattle.optimistic_set.specs.Faults.{HasListCause}
use Rattle.optimistic_set.specs.declared.fault.OptimisticFault.{OptimisticFault}
use Rattle.task_model.specs.Known.{Known}
use Rattle.transcript_model.proofs.CoherentLemmas.{coherent}
use Rattle.dream_check.proofs.AfterKnowledgeLemmas.{more_after, supposed_after}
use Rattle.dream_check.proofs.LinesLemmas.{dream_judged, too_many_used}
use Rattle.dream_check.specs.Judged.{IsDreamJudged}
use Rattle.dream_check.specs.Listed.{IsJudgedOver}
use Rattle.dream_check.proofs.dream.judge_dream.Goals as goal

pub optimistic-requires-clause-fit : goal.optimistic-requires-clause-fit
optimistic-requires-clause-fit c = c.requires.knowledge.2.fit

pub optimistic-requires-clause-declared : goal.optimistic-requires-clause-declared
optimistic-requires-clause-declared c =
    let task = c.args.point.now.task.now in
    subst (λ (k : Known). length task.problem.objects ≤ length k.names) (sym c.requires.knowledge.2.known)
    (names_enough task c.requires.knowledge.1)

pub optimistic-requires-clause-names : goal.optimistic-requires-clause-names
optimistic-requires-clause-names c =
    let task = c.args.point.now.task.now in
    subst (λ (k : Known). AreReal k.names) (sym c.requires.knowledge.2.known)
    (names_real task c.requires.knowledge.2.fit c.requires.knowledge.1)

pub judge_over-requires : goal.judge_over-requires
judge_over-requires c = record {
  listed = listed c.args.point.now.task.now c.args.point.now.knowledge.now.facts.known c.args.point.now.knowledge.now.queue c.args.point.now.tried.now c.from-depth.result
      c.in-Ok.supposed c.in-Ok.ensures.base c.in-Ok.ensures.list c.in-Ok.ensures.known c.in-Ok.ensures.plain;
}

pub returns-in-Ok : goal.returns-in-Ok
returns-in-Ok c = λ limits before deep h.
    let task = c.args.point.now.task.now in
    let knowledge = c.args.point.now.knowledge.now in
    let tried = c.args.point.now.tried.now in
    let d = c.in-Ok.supposed in
    let all =
    listed task knowledge.facts.known knowledge.queue tried c.from-depth.result d c.in-Ok.ensures.base c.in-Ok.ensures.list c.in-Ok.ensures.known
    c.in-Ok.ensures.plain in
    let so =
    supposed_after limits task before tried knowledge h c.from-depth.result (deep ∙ sym c.from-depth.ensures) d.list c.in-Ok.ensures.list in
    IfOk-weaker c.judge_over.result (IsJudgedOver task d c.args.uses.now c.args.steps.now)
    (IsDreamJudged limits task before tried c.args.uses.now c.args.steps.now)
    (λ x said. dream_judged limits task before tried d all (c.in-Ok.ensures.base ∙ h.known) so
    (coherent limits.version task before h.fit h.legal) c.args.uses.now c.args.steps.now x c.requires.some said) c.judge_over.ensures

pub returns-in-Err-TooManyEntries : goal.returns-in-Err-TooManyEntries
returns-in-Err-TooManyEntries c = λ limits before deep h.
    let task = c.args.point.now.task.now in
    let knowledge = c.args.point.now.knowledge.now in
    let tried = c.args.point.now.tried.now in
    too_many_used limits task before tried c.args.uses.now c.args.steps.now
    (more_after limits task before tried knowledge h c.from-depth.result (deep ∙ sym c.from-depth.ensures)
    (subst (λ (f : OptimisticFault). HasListCause task knowledge.facts.known knowledge.queue tried c.from-depth.result f)
    c.in-Err-TooManyEntries.field-0-is c.in-Err-TooManyEntries.ensures.fault)) c.requires.some
