use Rattle.std.proofs.Common.{ap, sym, subst, ◌∙◌, ◌≡◌, ◌≤◌, ◌&&◌, length, true, arith}
use Rattle.std.specs.List.{list_all}
use Rattle.task_model.proofs.TruthLemmas.{have_types-length}
use Rattle.task_model.specs.Known.{is_fact}
use Rattle.task_model.specs.Streams.{fact_of}
use Rattle.task_model.specs.Truth.{have_types, slots_of}
use Rattle.instance_search.proofs.reach.is_reachable.Goals as goal

pub new-requires : goal.new-requires
new-requires g c =
    let known = g.L.Look.known c.args.look.now in
    let long : length c.as_slice-inputs.result.now ≡ length c.as_slice.result.now =
    have_types-length known c.as_slice-inputs.result.now c.as_slice.result.now (sym c.if-have_types.ensures) in
    let narrow : length c.as_slice.result.now ≤ 8 = subst (λ xs. length xs ≤ 8) (sym c.as_slice.ensures) c.requires.narrow in
    omega (arith, long, narrow)

pub returns-then-have_types : goal.returns-then-have_types
returns-then-have_types g c =
    let known = g.L.Look.known c.args.look.now in
    let inputs = c.args.instance.now.inputs in
    let types : have_types known inputs c.args.stream.now.inputs ≡ true =
    sym (λ k. have_types known (c.as_slice-inputs.ensures k) (c.as_slice.ensures k)) ∙ sym c.if-have_types.ensures in
    let slots = c.new.ensures ∙ ap slots_of c.as_slice-inputs.ensures in
    c.are_known.ensures ∙ (λ k. list_all (λ p. is_fact known.facts (fact_of (slots k) p)) (c.as_slice-then-have_types.ensures k))
    ∙ sym (ap (λ b. b && list_all (λ p. is_fact known.facts (fact_of (slots_of inputs) p)) c.args.stream.now.domain) types)
