use Rattle.std.proofs.Common.{◌≡◌, ◌+◌, ◌≤◌, length}
use Rattle.plan_reader.specs.Lines.{text_lines}
use Rattle.plan_reader.specs.Plans.{behind_calls, plan_of}
use Rattle.plan_reader.proofs.PlansLemmas.{IsLeft, lines_left, steps_left}
use Rattle.plan_reader.proofs.plan.plan_in.Given as goal

abbrev pub invariant-lines : goal.invariant-lines
invariant-lines l = record {
  within : IsLeft (length l.fn.text) l.left;
  read : plan_of l.fn.text ≡ behind_calls l.calls.items (steps_left (length l.fn.text) l.left);
  few : length l.calls.items + length (lines_left l.left) ≤ length (text_lines l.fn.text);
}

abbrev pub decreases-lines : goal.decreases-lines
decreases-lines l = length (lines_left l.left)
