use Rattle.std.proofs.Common.{ap, ◌∙◌}
use Rattle.instance_queue.specs.Notes.{tally_of, tally_in}
use Rattle.instance_queue.proofs.queue.Queue.tally.Goals as goal

pub returns-in-Some : goal.returns-in-Some
returns-in-Some c =
    ap tally_in c.in-Some.ensures.value ∙ c.self.invariant.0 c.args.instance.now ∙ ap (λ ns. tally_of ns c.args.instance.now) c.self.view_is

pub returns-in-None : goal.returns-in-None
returns-in-None c =
    ap tally_in c.in-None.ensures.value ∙ c.self.invariant.0 c.args.instance.now ∙ ap (λ ns. tally_of ns c.args.instance.now) c.self.view_is
