use Rattle.std.proofs.Common.{◌∙◌}
use Rattle.optimistic_set.proofs.PlaceholderLemmas.{placeholders_pushed}
use Rattle.optimistic_set.proofs.placeholders.add_placeholders.Goals as goal

pub loop-number-preserved : goal.loop-number-preserved
loop-number-preserved c =
    c.in_ok-push.ensures.items
    ∙ placeholders_pushed c.args.entry c.loop-number.number c.args.names.now.items c.loop-number.names.items _
    c.in_ok-placeholder_name.ensures
    c.loop-number.invariant
