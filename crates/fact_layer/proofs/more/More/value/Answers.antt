use Rattle.std.proofs.Common.{◌∙◌}
use Rattle.fact_layer.specs.Laid.{lesser_option}
use Rattle.fact_layer.proofs.LaidLemmas.{value-append}
use Rattle.fact_layer.proofs.more.More.value.Goals as goal

pub returns : goal.returns
returns c =
    c.lesser.ensures ∙ (λ i. lesser_option (c.value.ensures i) (c.value-2.ensures i))
    ∙ value-append c.args.func c.args.args.now c.args.base.now.known.values c.args.self.now.values
