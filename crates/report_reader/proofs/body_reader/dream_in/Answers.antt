use Rattle.std.proofs.Common.{subst}
use Rattle.report_text.specs.Forms.{IsFormedUse, IsFormedCall, IsTerm}
use Rattle.report_text.specs.Texts.{use_line, step_line}
use Rattle.report_reader.specs.Finding.{TakesCounted, TakesFewer, TakesMany}
use Rattle.report_reader.proofs.BodyStopLemmas.{uses_stop, steps_stop}
use Rattle.report_reader.proofs.body_reader.dream_in.Goals as goal

pub returns-in_default : goal.returns-in_default
returns-in_default c = λ version.
    let few : TakesFewer IsFormedUse use_line c.args.uses c.args.lines.now c.uses_in.new.lines =
    subst (λ f. TakesCounted IsFormedUse use_line c.args.uses f c.args.lines.now c.uses_in.new.lines) c.in_default.is
    c.in_ok-uses.ensures in
    uses_stop version c.args.uses c.args.steps c.args.lines.now c.uses_in.new.lines few

pub returns-in_default-2 : goal.returns-in_default-2
returns-in_default-2 c = λ version.
    let many : TakesMany IsFormedUse use_line c.args.uses c.in-Some.uses c.args.lines.now c.uses_in.new.lines =
    subst (λ f. TakesCounted IsFormedUse use_line c.args.uses f c.args.lines.now c.uses_in.new.lines) c.in-Some.is c.in_ok-uses.ensures
    in
    let few : TakesFewer (IsFormedCall IsTerm) step_line c.args.steps c.uses_in.new.lines c.calls_in.new.lines =
    subst (λ f. TakesCounted (IsFormedCall IsTerm) step_line c.args.steps f c.uses_in.new.lines c.calls_in.new.lines) c.in_default-2.is
    c.in_ok-steps.ensures in
    steps_stop version c.args.uses c.args.steps c.in-Some.uses c.args.lines.now c.uses_in.new.lines c.calls_in.new.lines many few
