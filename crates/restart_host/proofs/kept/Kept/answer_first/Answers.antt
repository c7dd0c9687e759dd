use Rattle.std.proofs.Common.{◌∙◌, ap, drop}
use Rattle.restart_host.proofs.FeedLemmas.{behind_first}
use Rattle.restart_host.specs.Lines.{due_length}
use Rattle.restart_host.proofs.kept.Kept.answer_first.Goals as goal

pub returns-clause-asked : goal.returns-clause-asked
returns-clause-asked c =
    c.drop_first.ensures.items
    ∙ ap (λ n. drop n c.args.self.now.asked.items)
    (c.first_line-count.ensures.value ∙ ap due_length c.deref.ensures.value)
    ∙ behind_first c.args.self.now.asked.items
