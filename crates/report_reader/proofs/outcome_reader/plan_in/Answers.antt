use Rattle.std.proofs.Common.{◌≡◌, ◌<◌, ◌^◌, None, Some, subst}
use Rattle.report_text.specs.Forms.{IsFormedCall, IsTerm, IsFormedOrigin}
use Rattle.report_text.specs.Places.{cost_line}
use Rattle.report_text.specs.Texts.{do_line, from_line}
use Rattle.report_reader.specs.Body.{HasNoEnd}
use Rattle.report_reader.specs.Finding.{TakesAll, TakesCounted, TakesFewer, TakesLine, TakesMany}
use Rattle.report_reader.proofs.BodyStopLemmas.{plan_stop, cost_stop, done_stop}
use Rattle.report_reader.proofs.outcome_reader.plan_in.Goals as goal

pub returns-in_default : goal.returns-in_default
returns-in_default c =
    let few : TakesFewer (IsFormedCall IsTerm) do_line c.args.steps c.args.lines.now c.calls_in.new.lines =
    subst (λ f. TakesCounted (IsFormedCall IsTerm) do_line c.args.steps f c.args.lines.now c.calls_in.new.lines) c.in_default.is
    c.in_ok-steps.ensures in
    plan_stop c.args.version c.args.steps c.args.lines.now c.calls_in.new.lines few

pub returns-in_default-next_cost : goal.returns-in_default-next_cost
returns-in_default-next_cost c =
    let many : TakesMany (IsFormedCall IsTerm) do_line c.args.steps c.in-Some.steps c.args.lines.now c.calls_in.new.lines =
    subst (λ f. TakesCounted (IsFormedCall IsTerm) do_line c.args.steps f c.args.lines.now c.calls_in.new.lines) c.in-Some.is
    c.in_ok-steps.ensures in
    let none : TakesLine (λ cost. cost < 2 ^ 64) cost_line None c.calls_in.new.lines c.next_cost.new.lines =
    c.in_default-next_cost.ensures in
    cost_stop c.args.version c.args.steps c.in-Some.steps c.args.lines.now c.calls_in.new.lines c.next_cost.new.lines many none

pub returns-else-takes_done : goal.returns-else-takes_done
returns-else-takes_done c =
    let many : TakesMany (IsFormedCall IsTerm) do_line c.args.steps c.in-Some.steps c.args.lines.now c.calls_in.new.lines =
    subst (λ f. TakesCounted (IsFormedCall IsTerm) do_line c.args.steps f c.args.lines.now c.calls_in.new.lines) c.in-Some.is
    c.in_ok-steps.ensures in
    let cost : TakesLine (λ n. n < 2 ^ 64) cost_line (Some c.in-Some-next_cost.cost) c.calls_in.new.lines c.next_cost.new.lines =
    c.in-Some-next_cost.ensures in
    let from : TakesAll (IsFormedOrigin c.args.version)
    (from_line c.args.version) c.in_ok-from.from c.next_cost.new.lines c.origins_in.new.lines =
    c.in_ok-from.ensures in
    let none : (c.takes_done.new.lines ≡ c.origins_in.new.lines) × HasNoEnd c.origins_in.new.lines = c.if-takes_done.ensures in
    done_stop c.args.version c.args.steps c.in-Some-next_cost.cost c.in-Some.steps c.in_ok-from.from c.args.lines.now c.calls_in.new.lines
    c.next_cost.new.lines c.origins_in.new.lines c.takes_done.new.lines many cost from none.0 none.1
