use Rattle.std.proofs.Common.{sym, ap, subst}
use Rattle.task_model.specs.Known.{IsCoherent}
use Rattle.dreaming.proofs.PartLemmas.{part_coherent}
use Rattle.dreaming.specs.Parts.{Portion}
use Rattle.dreaming.proofs.part.Part.look.Goals as goal

pub new-requires : goal.new-requires
new-requires c =
    subst IsCoherent (sym (ap (λ (p : Portion). p.known) c.self.view_is)) (part_coherent c.requires.0 c.args.self.now c.requires.1)
