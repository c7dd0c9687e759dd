use Rattle.std.proofs.Common.{◌∷◌, ◌++◌, ◌∙◌, append_assoc, ap, sym, take}
use Rattle.lemmas.proofs.Members.{flat_map_next}
use Rattle.report_text.specs.Texts.{fields_text}
use Rattle.order_text.proofs.fields.put_names.Goals as goal

pub loop-name-preserved : goal.loop-name-preserved
loop-name-preserved c =
    let old = c.args.text.now.items in
    let names = c.args.names.now in
    let index = c.loop-name.name-index in
    c.in_ok-put_field.ensures ∙ (λ i. c.loop-name.invariant i ++ 32 ∷ c.bytes.ensures i)
    ∙ append_assoc old (fields_text (take index names)) (32 ∷ c.name-item.result)
    ∙ ap (λ t. old ++ t)
    (sym (flat_map_next (λ field. 32 ∷ field) names index c.name-item.result c.loop-name-test.true c.name-item.is))
