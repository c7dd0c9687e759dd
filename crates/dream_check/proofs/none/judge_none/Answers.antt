use Rattle.std.proofs.Common.{◌≤◌, ◌∙◌, ℕ, length, sym, subst}
use Rattle.std.proofs.lemmas.Result.{IfOk-weaker}
use Rattle.dreaming.proofs.AfterLemmas.{listed, names_enough, names_real}
use Rattle.optimistic_set.specs.Dreamable.{AreReal}
use Rattle.optimistic_set.specs.Faults.{HasListCause}
use Rattle.optimistic_set.specs.declared.fault.OptimisticFault.{OptimisticFault}
use Rattle.task_model.specs.Known.{Known}
use Rattle.dream_check.proofs.AfterKnowledgeLemmas.{more_after, supposed_after}
use Rattle.dream_check.proofs.JudgedLemmas.{none_judged, too_many_none}
use Rattle.dream_check.specs.Judged.{IsNoneJudged, IsNoneOver}
use Rattle.dream_check.proofs.none.judge_none.Goals as goal

pub optimistic-requires-clause-fit : goal.optimistic-requires-clause-fit
optimistic-requires-clause-fit c = c.requires.knowledge.2.fit

pub optimistic-requires-clause-declared : goal.optimistic-requires-clause-declared
optimistic-requires-clause-declared c =
    let task = c.args.point.now.task.now in
    subst (λ (k : Known). length task.problem.objects ≤ length k.names) (sym c.requires.knowledge.2.known)
    (names_enough task c.requires.knowledge.1)

pub optimistic-requires-clause-names : goal.optimistic-requires-clause-names
optimistic-requires-clause-names c =
    let task = c.args.point.now.task.now in
    subst (λ (k : Known). AreReal k.names) (sym c.requires.knowledge.2.known)
    (names_real task c.requires.knowledge.2.fit c.requires.knowledge.1)

pub judge_list-requires-clause-fit : goal.judge_list-requires-clause-fit
judge_list-requires-clause-fit c = c.requires.knowledge.2.fit

pub returns-in-Ok : goal.returns-in-Ok
returns-in-Ok c = λ limits before deep same h.
    let task = c.args.point.now.task.now in
    let knowledge = c.args.point.now.knowledge.now in
    let tried = c.args.point.now.tried.now in
    let d = c.in-Ok.supposed in
    let all =
    listed task knowledge.facts.known knowledge.queue tried c.from-depth.result d c.in-Ok.ensures.base c.in-Ok.ensures.list c.in-Ok.ensures.known
    c.in-Ok.ensures.plain in
    let so =
    supposed_after limits task before tried knowledge h c.from-depth.result (deep ∙ sym c.from-depth.ensures) d.list c.in-Ok.ensures.list in
    IfOk-weaker c.judge_list.result (IsNoneOver task c.look.result.known c.args.states c.args.limit)
    (IsNoneJudged limits task before tried c.args.limit)
    (λ x said. none_judged limits c.args.limit task before tried d all (c.in-Ok.ensures.base ∙ h.known) so x
    (subst (λ (n : ℕ). IsNoneOver task d.known n c.args.limit x) (sym same)
    (subst (λ (k : Known). IsNoneOver task k c.args.states c.args.limit x) c.look.ensures said))) c.judge_list.ensures

pub returns-in-Err-TooManyEntries : goal.returns-in-Err-TooManyEntries
returns-in-Err-TooManyEntries c = λ limits before deep same h.
    let task = c.args.point.now.task.now in
    let knowledge = c.args.point.now.knowledge.now in
    let tried = c.args.point.now.tried.now in
    too_many_none limits c.args.limit task before tried
    (more_after limits task before tried knowledge h c.from-depth.result (deep ∙ sym c.from-depth.ensures)
    (subst (λ (f : OptimisticFault). HasListCause task knowledge.facts.known knowledge.queue tried c.from-depth.result f)
    c.in-Err-TooManyEntries.field-0-is c.in-Err-TooManyEntries.ensures.fault))
