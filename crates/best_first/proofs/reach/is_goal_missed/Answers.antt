use Rattle.std.proofs.Common.{ap, ◌∙◌, sym, arith, slice_get, []}
use Rattle.std.specs.List.{list_all}
use Rattle.formula_eval.proofs.ReadableLemmas.{fit_readable}
use Rattle.formula_eval.specs.Readable.{is_readable}
use Rattle.grounder.proofs.PartsLemmas.{readable_tops}
use Rattle.lemmas.proofs.ListTests.{all_at, get_some}
use Rattle.task_model.specs.Truth.{is_true}
use Rattle.best_first.proofs.ReachLemmas.{part_missed}
use Rattle.best_first.proofs.reach.is_goal_missed.Goals as goal

pub is_steady-requires-clause-readable : goal.is_steady-requires-clause-readable
is_steady-requires-clause-readable g c =
    let task = c.args.bounds.now.task.now in
    let domain = task.domain in
    let parts = c.tops-part-items.result.now in
    let goal_readable = fit_readable domain c.requires.fit.domain _ 0 (omega arith) task.problem.goal c.requires.fit.problem.goal in
    all_at (is_readable domain) parts c.loop-part.part-index c.part-item.result
    (ap (list_all (is_readable domain)) c.tops-part-items.ensures ∙ readable_tops domain task.problem.goal goal_readable)
    (get_some parts c.loop-part.part-index c.part-item.result c.loop-part-test.true c.part-item.is)

pub holds_once-requires-clause-readable : goal.holds_once-requires-clause-readable
holds_once-requires-clause-readable g c =
    let task = c.args.bounds.now.task.now in
    let domain = task.domain in
    let parts = c.tops-part-items.result.now in
    let goal_readable = fit_readable domain c.requires.fit.domain _ 0 (omega arith) task.problem.goal c.requires.fit.problem.goal in
    all_at (is_readable domain) parts c.loop-part.part-index c.part-item.result
    (ap (list_all (is_readable domain)) c.tops-part-items.ensures ∙ readable_tops domain task.problem.goal goal_readable)
    (get_some parts c.loop-part.part-index c.part-item.result c.loop-part-test.true c.part-item.is)

pub returns-then-not-holds_once : goal.returns-then-not-holds_once
returns-then-not-holds_once g c =
    let bounds = c.args.bounds.now in
    let task = bounds.task.now in
    let domain = task.domain in
    let known = g.L.Look.known bounds.look.now in
    let parts = c.tops-part-items.result.now in
    let part = c.part-item.result in
    let index = c.loop-part.part-index in
    let at =
    ap (λ xs. slice_get xs index) (sym c.tops-part-items.ensures) ∙ get_some parts index part c.loop-part-test.true c.part-item.is in
    let untrue = sym (c.if-not-holds_once.ensures.value ∙ ap (is_true domain known bounds.atoms.now part) c.new-env.ensures) in
    λ _. part_missed domain c.args.marks.now known bounds.atoms.now task.problem.goal [] index part c.requires.steady at
    (sym c.if-is_steady.ensures) untrue
