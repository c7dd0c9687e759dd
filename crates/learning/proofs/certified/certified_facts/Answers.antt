use Rattle.std.proofs.Common.{◌≡◌, ◌≤◌, ◌++◌, ◌∙◌, map, length, sym, ap, subst, true, All, arith, length-append}
use Rattle.std.specs.List.{list_all}
use Rattle.formula_eval.specs.Readable.{is_readable_term}
use Rattle.task_model.specs.Streams.{output_types, fact_of}
use Rattle.task_model.specs.Truth.{slots_of}
use Rattle.task_model.specs.declared.domain.Pattern.{Pattern}
use Rattle.learning.proofs.FitStreamLemmas.{fit_parts, short_certified}
use Rattle.learning.proofs.certified.certified_facts.Goals as goal

pub add_atoms-requires-clause-few : goal.add_atoms-requires-clause-few
add_atoms-requires-clause-few c =
    let parts = fit_parts c.args.domain.now c.args.stream.now c.requires.stream in
    let args : c.as_slice-3.result.now ≡ c.args.inputs.now ++ c.args.outputs.now =
    c.as_slice-3.ensures.value ∙ c.in_ok-extend_from_slice.ensures.items ∙ ap (λ xs. xs ++ c.args.outputs.now) c.in_ok-args.ensures.items in
    let long : length c.as_slice-3.result.now ≡ length (c.args.inputs.now ++ c.args.outputs.now) = ap length args in
    omega (
      arith,
      long,
      length-append c.args.inputs.now c.args.outputs.now,
      c.requires.inputs,
      c.requires.outputs,
      parts.inputs,
      parts.outputs,
    )

pub add_atoms-requires-clause-short : goal.add_atoms-requires-clause-short
add_atoms-requires-clause-short c =
    subst (All (λ (p : Pattern). length p.args ≤ 8)) (sym c.as_slice-2.ensures)
    (λ k d lt. (short_certified c.args.domain.now c.requires.domain c.args.stream.now
    (fit_parts c.args.domain.now c.args.stream.now c.requires.stream) k d lt).0)

pub add_atoms-requires-clause-readable : goal.add_atoms-requires-clause-readable
add_atoms-requires-clause-readable c =
    subst (All (λ (p : Pattern). list_all is_readable_term p.args ≡ true)) (sym c.as_slice-2.ensures)
    (λ k d lt. (short_certified c.args.domain.now c.requires.domain c.args.stream.now
    (fit_parts c.args.domain.now c.args.stream.now c.requires.stream) k d lt).1)

pub returns : goal.returns
returns c =
    let types : c.add_output_types.new.facts.items ≡ output_types c.args.domain.now c.args.stream.now.outputs c.args.outputs.now =
    c.in_ok-add_output_types.ensures
    ∙ (λ i. c.new-facts.ensures.items i ++ output_types c.args.domain.now (c.as_slice.ensures i) c.args.outputs.now) in
    let args : c.as_slice-3.result.now ≡ c.args.inputs.now ++ c.args.outputs.now =
    c.as_slice-3.ensures.value ∙ c.in_ok-extend_from_slice.ensures.items ∙ ap (λ xs. xs ++ c.args.outputs.now) c.in_ok-args.ensures.items in
    c.in_ok-add_atoms.ensures ∙ (λ i. types i ++ map (fact_of (slots_of (args i))) (c.as_slice-2.ensures i))
