use Rattle.std.proofs.Common.{◌≡◌, ◌+◌, ◌≤◌, length, sym, subst, arith}
use Rattle.task_reader.specs.Refusals.{Refuses}
use Rattle.plan_reader.proofs.PlansLemmas.{IsLeft, all_left, few_lines, line_read, lines_left, rest_left, rest_shorter, steps_left, text_refused}
use Rattle.plan_reader.specs.Lines.{text_lines}
use Rattle.plan_reader.specs.Plans.{RefusesPlan, behind_calls, plan_of}
use Rattle.plan_reader.proofs.plan.plan_in.Goals as goal

pub lines-init : goal.lines-init
lines-init c = record {
  within = omega arith;
  read = all_left c.args.text c.new-calls.result.items c.new-calls.ensures.items;
  few = rw c.new-calls.ensures.items (omega arith);
}

pub lines-preserved : goal.lines-preserved
lines-preserved c =
    let total = length c.args.text.now in
    let calls = c.lines.calls.items in
    let within = subst (IsLeft total) c.in-Some.is c.lines.invariant.within in
    let read =
    subst (λ left. plan_of c.args.text.now ≡ behind_calls calls (steps_left total left)) c.in-Some.is
    c.lines.invariant.read in
    let few =
    subst (λ left. length calls + length (lines_left left) ≤ length (text_lines c.args.text.now)) c.in-Some.is
    c.lines.invariant.few in
    let shorter =
    rest_shorter c.in-Some.rest.now c.cut_line.result.line.now c.cut_line.result.rest c.cut_line.ensures in
    record {
      within = rest_left total c.in-Some.rest.now c.cut_line.result.line.now c.cut_line.result.rest within
          c.cut_line.ensures;
      read = line_read total (plan_of c.args.text.now) calls c.in-Some.rest c.cut_line.result.line.now
          c.cut_line.result.rest within c.cut_line.ensures read _ c.in-Ok.ensures.added;
      few = omega (arith, few, shorter, c.add_said.ensures.few);
    }

pub lines-smaller : goal.lines-smaller
lines-smaller c =
    let shorter =
    rest_shorter c.in-Some.rest.now c.cut_line.result.line.now c.cut_line.result.rest c.cut_line.ensures in
    rw c.in-Some.is (omega (arith, shorter))

pub returns-in-Err-clause-refused : goal.returns-in-Err-clause-refused
returns-in-Err-clause-refused c =
    let total = length c.args.text.now in
    let within = subst (IsLeft total) c.in-Some.is c.lines.invariant.within in
    let read =
    subst (λ left. plan_of c.args.text.now ≡ behind_calls c.lines.calls.items (steps_left total left)) c.in-Some.is
    c.lines.invariant.read in
    subst (Refuses (RefusesPlan c.args.text.now)) (sym c.refused.ensures)
    (text_refused c.args.text.now c.lines.calls.items c.in-Some.rest c.cut_line.result.line.now c.cut_line.result.rest
    within c.cut_line.ensures read c.in-Err.fault c.in-Err.ensures.wrong)

pub returns-clause-few : goal.returns-clause-few
returns-clause-few c = omega (arith, c.lines.invariant.few, few_lines c.args.text.now)
