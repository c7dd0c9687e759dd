use Rattle.std.proofs.Common.{◌≡◌, sym, ap, ◌∙◌}
use Rattle.task_model.specs.Condition.{All as every, parts_of}
use Rattle.task_model.specs.View.{view_of}
use Rattle.grounder.specs.Parts.{tops_of}
use Rattle.grounder.proofs.PartsLemmas.{listed_parts}
use Rattle.grounder.proofs.atoms.tops.Goals as goal

pub returns-in-All : goal.returns-in-All
returns-in-All c =
    let parts = c.in-All.parts.items in
    let is : c.args.condition.now ≡ every (parts_of parts) = sym c.condition.view_is ∙ ap view_of c.in-All.is in
    c.as_slice.ensures.value ∙ sym (ap tops_of is ∙ listed_parts parts)
