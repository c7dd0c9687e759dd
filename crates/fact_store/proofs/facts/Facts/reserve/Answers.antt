use Rattle.std.proofs.Common.{ap, ◌∙◌}
use Rattle.fact_store.proofs.StoreLemmas.{stays}
use Rattle.fact_store.proofs.facts.Facts.reserve.Goals as goal

pub returns-in_err-reserve : goal.returns-in_err-reserve
returns-in_err-reserve c =
    stays _ c.args.self.now (c.reserve.ensures.keys ∙ ap (λ s. s.known.names) c.self.view_is)
    (ap (λ s. s.known.facts) c.self.view_is) (ap (λ s. s.known.values) c.self.view_is)

pub returns : goal.returns
returns c =
    stays _ c.args.self.now (c.reserve.ensures.keys ∙ ap (λ s. s.known.names) c.self.view_is)
    (c.reserve-2.ensures ∙ ap (λ s. s.known.facts) c.self.view_is) (ap (λ s. s.known.values) c.self.view_is)
