use Rattle.std.proofs.Common.{subst}
use Rattle.std.proofs.lemmas.Result.{IfOk-weaker}
use Rattle.report_text.specs.Faults.{IsTextFault}
use Rattle.pddlstream_app.proofs.MigrateLemmas.{migrated, refused}
use Rattle.pddlstream_app.proofs.migrate.bytes_said.Goals as goal

pub returns-in-Ok : goal.returns-in-Ok
returns-in-Ok c =
    IfOk-weaker c.report_said.result _ _ (λ s said. migrated c.in-Ok.report c.in-Ok.ensures.ok.0 c.in-Ok.ensures.ok.1 said) c.report_said.ensures

pub returns-in-Err-At : goal.returns-in-Err-At
returns-in-Err-At c =
    IfOk-weaker c.said_of.result _ _ (λ s said. refused c.in-Err-At.line (subst (IsTextFault c.args.bytes.now) c.in-Err-At.field-0-is c.in-Err-At.ensures.fault).1 said) c.said_of.ensures
