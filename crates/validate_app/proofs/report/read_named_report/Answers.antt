use Rattle.std.proofs.Common.{◌≡◌, subst, sym}
use Rattle.std.proofs.lemmas.Result.{IfOk-weaker}
use Rattle.learning.specs.declared.knowledge.Knowledge.{Knowledge}
use Rattle.validate_app.proofs.InputsLemmas.{memory_stops, report_named, report_there, stops_there}
use Rattle.validate_app.specs.Held.{held_paths, held_report}
use Rattle.validate_app.specs.Inputs.{IsCertain}
use Rattle.validate_app.specs.declared.stop.FileRole.TheVariants.{Report}
use Rattle.validate_app.proofs.report.read_named_report.Goals as goal

pub returns-in-Err-clause-stop : goal.returns-in-Err-clause-stop
returns-in-Err-clause-stop g c =
    stops_there _ _ Report (c.args.task.now, c.requires.task) _
    (report_named (g.F.Files.told c.args.files.now) (held_paths c.args.paths.now)
    (held_report c.args.report.now) c.requires.named)
    c.in-Err.stop c.in-Err.ensures.stop

pub returns-in-Ok-Legal-clause-known : goal.returns-in-Ok-Legal-clause-known
returns-in-Ok-Legal-clause-known g c =
    let task = c.args.task.now in
    let said = rw c.in-Ok-Legal.field-0-is at c.in-Ok-Legal.ensures in
    let known : IsCertain (g.F.Files.told c.args.files.now)
    (held_paths c.args.paths.now) task c.in-Ok-Legal.knowledge.facts.known = (
      said.0,
      report_there (g.F.Files.told c.args.files.now) (held_paths c.args.paths.now)
          (held_report c.args.report.now) c.requires.named task c.in-Ok.bytes.items
          c.in-Ok.ensures.bytes c.as_slice.result.now c.as_slice.ensures.value said.0 said.1,
      said.2,
    ) in
    IfOk-weaker c.boxed.result (λ b. b.value ≡ c.in-Ok-Legal.knowledge)
    (λ b. IsCertain (g.F.Files.told c.args.files.now) (held_paths c.args.paths.now) task b.value.facts.known)
    (λ b is. subst (λ (l : Knowledge). IsCertain (g.F.Files.told c.args.files.now)
    (held_paths c.args.paths.now) task l.facts.known)
    (sym is) known) c.boxed.ensures.content

pub returns-in-Ok-Legal-clause-stop : goal.returns-in-Ok-Legal-clause-stop
returns-in-Ok-Legal-clause-stop g c = memory_stops _ _ c.boxed.result c.boxed.ensures.stop
