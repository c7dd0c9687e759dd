use Rattle.std.proofs.Common.{[], ◌≡◌, ap, option_map, subst, sym}
use Rattle.std.proofs.lemmas.Result.{IfOk-weaker}
use Rattle.learning.specs.declared.knowledge.Knowledge.{Knowledge}
use Rattle.validate_app.proofs.InputsLemmas.{memory_stops, no_report_named}
use Rattle.validate_app.specs.Held.{held_paths, held_report}
use Rattle.validate_app.specs.Inputs.{IsCertain}
use Rattle.validate_app.proofs.report.read_report.Goals as goal

pub read_named_report-requires-clause-named : goal.read_named_report-requires-clause-named
read_named_report-requires-clause-named g c = ap (option_map held_report) c.in-Some.is

pub returns-in-Ok-clause-known : goal.returns-in-Ok-clause-known
returns-in-Ok-clause-known g c =
    let known : IsCertain (g.F.Files.told c.args.files.now) (held_paths c.args.paths.now) c.args.task.now
    c.in-Ok.knowledge.facts.known =
    ([], no_report_named _ _ (ap (option_map held_report) c.in-None.is) c.args.task.now, (c.in-Ok.ensures 1).known) in
    IfOk-weaker c.boxed.result (λ b. b.value ≡ c.in-Ok.knowledge)
    (λ b. IsCertain (g.F.Files.told c.args.files.now) (held_paths c.args.paths.now) c.args.task.now b.value.facts.known)
    (λ b is. subst (λ (l : Knowledge). IsCertain (g.F.Files.told c.args.files.now)
    (held_paths c.args.paths.now) c.args.task.now
    l.facts.known) (sym is) known) c.boxed.ensures.content

pub returns-in-Ok-clause-stop : goal.returns-in-Ok-clause-stop
returns-in-Ok-clause-stop g c = memory_stops _ _ c.boxed.result c.boxed.ensures.stop
