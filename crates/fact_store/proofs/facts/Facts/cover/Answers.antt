use Rattle.std.proofs.Common.{ap, ◌∙◌}
use Rattle.fact_store.proofs.StoreLemmas.{stays}
use Rattle.fact_store.proofs.facts.Facts.cover.Goals as goal

pub returns : goal.returns
returns c =
    stays _ c.args.self.now (ap (λ s. s.known.names) c.self.view_is)
    (c.cover.ensures ∙ ap (λ s. s.known.facts) c.self.view_is) (ap (λ s. s.known.values) c.self.view_is)
