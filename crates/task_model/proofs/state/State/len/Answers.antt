use Rattle.std.proofs.Common.{ap, sym, ◌∙◌}
use Rattle.task_model.specs.State.{len}
use Rattle.task_model.proofs.StateLemmas.{len-from_list}
use Rattle.task_model.proofs.state.State.len.Goals as goal

pub returns : goal.returns
returns c =
    c.len.ensures ∙ c.self.inside.atoms.ok.0 ∙ sym (len-from_list c.self.inside.atoms.items c.self.invariant) ∙ ap len c.self.view_is
