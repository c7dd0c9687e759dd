use Rattle.std.proofs.Common.{ap, sym, ◌∙◌}
use Rattle.task_model.specs.State.{items}
use Rattle.task_model.proofs.StateLemmas.{items-from_list}
use Rattle.task_model.proofs.state.State.as_slice.Goals as goal

pub returns : goal.returns
returns c =
    c.as_slice.ensures.value ∙ sym (items-from_list c.self.inside.atoms.items c.self.invariant)
    ∙ ap items c.self.view_is
