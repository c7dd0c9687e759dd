use Rattle.std.proofs.Common.{◌≡◌, ◌++◌, map}
use Rattle.std.specs.Fmt.{decimal}
use Rattle.report_text.specs.Texts.{fields_text}
use Rattle.order_text.proofs.TextsLemmas.{members_to}
use Rattle.order_text.proofs.text.put_members.Given as goal

-- the steps of the stage so far
abbrev pub invariant-loop-place : goal.invariant-loop-place
invariant-loop-place l =
    l.text.items ≡ l.initial.text.items ++ fields_text (map decimal (members_to l.stages l.stage l.place))
