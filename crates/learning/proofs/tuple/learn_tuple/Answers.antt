use Rattle.std.proofs.Common.{◌≡◌, ◌++◌, sym, subst, ◌∙◌, All, map, length, ◌≤◌, arith}
use Rattle.learning.proofs.FitStreamLemmas.{fit_parts, few_args, plain_certified}
use Rattle.learning.proofs.OutputsLemmas.{named_in, named_long, all_in_names_kept, names_grow}
use Rattle.learning.proofs.TuplesLemmas.{AreGiven, atoms_part, some_named, types_part, types_whole}
use Rattle.learning.proofs.tuple.learn_tuple.Goals as goal
use Rattle.lemmas.proofs.Results.{on_err}
use Rattle.transcript_model.specs.Names.{generated}
use Rattle.task_model.proofs.KnownLemmas.{facts_then}
use Rattle.task_model.specs.Known.{IsIn, with_facts, with_names}
use Rattle.task_model.specs.Streams.{output_types, fact_of}
use Rattle.task_model.specs.Truth.{slots_of}
use Rattle.learning.specs.Outputs.{AreNamed}
use Rattle.learning.specs.Tuples.{ArePlain}

pub learn_types-requires-clause-named : goal.learn_types-requires-clause-named
learn_types-requires-clause-named c =
    subst (All (IsIn c.name_outputs.new.facts.known.names)) (sym c.as_slice-2.ensures)
    (named_in c.name_outputs.new.facts.known.names c.in_ok-outputs.outputs c.args.values.now c.in_ok-outputs.ensures.objects)

-- the arguments of the certified atoms
module _ (c : goal.After-as_slice-5) where
  args_are : c.as_slice-5.result.now ≡ c.args.inputs.now ++ c.in_ok-outputs.outputs
  args_are =
      c.as_slice-5.ensures.value ∙ c.in_ok-extend_from_slice.ensures.items ∙ (λ i. c.in_ok-args.ensures.items i ++ c.as_slice-3.ensures i)

  many : length c.in_ok-outputs.outputs ≡ length c.args.stream.now.outputs
  many =
      named_long c.name_outputs.new.facts.known.names c.in_ok-outputs.outputs c.args.values.now c.in_ok-outputs.ensures.objects
      ∙ c.requires.outputs

  names_are : c.learn_types.new.facts.known.names ≡ with_names c.args.facts.now.known.names (map generated c.args.values.now)
  names_are = c.in_ok-learn_types.ensures.names ∙ c.in_ok-outputs.ensures.names

  inputs_named : All (IsIn c.learn_types.new.facts.known.names) c.args.inputs.now
  inputs_named =
      subst (λ ns. All (IsIn ns) c.args.inputs.now) (sym names_are)
      (all_in_names_kept c.args.facts.now.known.names (map generated c.args.values.now) c.args.inputs.now c.requires.may.named)

  outputs_named : All (IsIn c.learn_types.new.facts.known.names) c.in_ok-outputs.outputs
  outputs_named =
      subst (λ ns. All (IsIn ns) c.in_ok-outputs.outputs) (sym c.in_ok-learn_types.ensures.names)
      (named_in c.name_outputs.new.facts.known.names c.in_ok-outputs.outputs c.args.values.now c.in_ok-outputs.ensures.objects)

  constants_there : length c.args.domain.now.constants ≤ length c.learn_types.new.facts.known.names
  constants_there =
      subst (λ ns. length c.args.domain.now.constants ≤ length ns)
      (sym names_are) (omega (arith, c.requires.may.constants, names_grow c.args.facts.now.known.names (map generated c.args.values.now)))

  plain : ArePlain c.learn_types.new.facts.known.names c.as_slice-5.result.now c.as_slice-4.result.now
  plain =
      subst (λ ps. ArePlain c.learn_types.new.facts.known.names c.as_slice-5.result.now ps) (sym c.as_slice-4.ensures)
      (subst (λ os. ArePlain c.learn_types.new.facts.known.names os c.args.stream.now.certified) (sym args_are)
      (plain_certified c.args.domain.now c.requires.may.fit_domain c.learn_types.new.facts.known.names constants_there c.args.stream.now
      (fit_parts c.args.domain.now c.args.stream.now c.requires.may.fit_stream) c.args.inputs.now c.in_ok-outputs.outputs c.requires.may.many many
      inputs_named outputs_named))

pub learn_atoms-requires-clause-few : goal.learn_atoms-requires-clause-few
learn_atoms-requires-clause-few c =
    subst (λ os. length os ≤ 16) (sym (args_are c))
    (few_args c.args.domain.now c.requires.may.fit_domain c.learn_types.new.facts.known.names (constants_there c) c.args.stream.now
    (fit_parts c.args.domain.now c.args.stream.now c.requires.may.fit_stream) c.args.inputs.now c.in_ok-outputs.outputs c.requires.may.many
    (many c))

pub learn_atoms-requires-clause-plain : goal.learn_atoms-requires-clause-plain
learn_atoms-requires-clause-plain c = plain c

pub returns-clause-all : goal.returns-clause-all
returns-clause-all c =
    let args : c.as_slice-5.result.now ≡ c.args.inputs.now ++ c.in_ok-outputs.outputs =
    c.as_slice-5.ensures.value ∙ c.in_ok-extend_from_slice.ensures.items
    ∙ (λ i. c.in_ok-args.ensures.items i ++ c.as_slice-3.ensures i) in
    let before : c.learn_types.new.facts.known.facts ≡ with_facts c.args.facts.now.known.facts
    (output_types c.args.domain.now c.args.stream.now.outputs c.in_ok-outputs.outputs) =
    c.in_ok-learn_types.ensures.facts
    ∙ (λ i. with_facts (c.in_ok-outputs.ensures.facts i)
    (output_types c.args.domain.now (c.as_slice.ensures i) (c.as_slice-2.ensures i))) in
    record {
      names = c.in_ok-learn_atoms.ensures.names ∙ c.in_ok-learn_types.ensures.names ∙ c.in_ok-outputs.ensures.names;
      outputs_named = subst (λ ns. AreNamed ns c.in_ok-outputs.outputs c.args.values.now)
          (sym (c.in_ok-learn_atoms.ensures.names ∙ c.in_ok-learn_types.ensures.names)) c.in_ok-outputs.ensures.objects;
      facts = c.in_ok-learn_atoms.ensures.facts
          ∙ (λ i. with_facts (before i) (map (fact_of (slots_of (args i))) (c.as_slice-4.ensures i)))
          ∙ sym (facts_then c.args.facts.now.known.facts
          (output_types c.args.domain.now c.args.stream.now.outputs c.in_ok-outputs.outputs)
          (map (fact_of (slots_of (c.args.inputs.now ++ c.in_ok-outputs.outputs))) c.args.stream.now.certified));
      values = c.in_ok-learn_atoms.ensures.values ∙ c.in_ok-learn_types.ensures.values ∙ c.in_ok-outputs.ensures.values;
    }

-- ---- where memory is wanting

pub returns-in_err-outputs-clause-part : goal.returns-in_err-outputs-clause-part
returns-in_err-outputs-clause-part c =
    on_err c.from_residual.result _
    (some_named c.args.domain.now c.args.stream.now c.args.inputs.now c.args.values.now c.args.facts.now.known
    c.name_outputs.new.facts.known c.in_err-outputs.ensures.part c.name_outputs.ensures.facts c.name_outputs.ensures.values)

pub returns-in_err-learn_types-clause-part : goal.returns-in_err-learn_types-clause-part
returns-in_err-learn_types-clause-part c =
    let given : AreGiven c.args.values.now c.args.facts.now.known c.name_outputs.new.facts.known c.in_ok-outputs.outputs =
    record {
      names = c.in_ok-outputs.ensures.names;
      distinct = c.name_outputs.new.facts.coherent.names;
      outputs_named = c.in_ok-outputs.ensures.objects;
      facts = c.name_outputs.ensures.facts;
      values = c.name_outputs.ensures.values;
    } in
    on_err c.from_residual-in_err-learn_types.result _
    (types_part c.args.domain.now c.args.stream.now c.args.inputs.now c.args.values.now c.args.facts.now.known
    c.name_outputs.new.facts.known c.learn_types.new.facts.known c.in_ok-outputs.outputs given
    c.learn_types.ensures.names c.learn_types.ensures.values
    c.as_slice.result.now c.as_slice-2.result.now c.as_slice.ensures c.as_slice-2.ensures c.in_err-learn_types.ensures.part)

pub returns-in_err-args-clause-part : goal.returns-in_err-args-clause-part
returns-in_err-args-clause-part c =
    let given : AreGiven c.args.values.now c.args.facts.now.known c.name_outputs.new.facts.known c.in_ok-outputs.outputs =
    record {
      names = c.in_ok-outputs.ensures.names;
      distinct = c.name_outputs.new.facts.coherent.names;
      outputs_named = c.in_ok-outputs.ensures.objects;
      facts = c.name_outputs.ensures.facts;
      values = c.name_outputs.ensures.values;
    } in
    on_err c.from_residual-in_err-args.result _
    (types_whole c.args.domain.now c.args.stream.now c.args.inputs.now c.args.values.now c.args.facts.now.known
    c.name_outputs.new.facts.known c.learn_types.new.facts.known c.in_ok-outputs.outputs given
    c.learn_types.ensures.names c.learn_types.ensures.values
    c.as_slice.result.now c.as_slice-2.result.now c.as_slice.ensures c.as_slice-2.ensures c.in_ok-learn_types.ensures.facts)

pub returns-in_err-extend_from_slice-clause-part : goal.returns-in_err-extend_from_slice-clause-part
returns-in_err-extend_from_slice-clause-part c =
    let given : AreGiven c.args.values.now c.args.facts.now.known c.name_outputs.new.facts.known c.in_ok-outputs.outputs =
    record {
      names = c.in_ok-outputs.ensures.names;
      distinct = c.name_outputs.new.facts.coherent.names;
      outputs_named = c.in_ok-outputs.ensures.objects;
      facts = c.name_outputs.ensures.facts;
      values = c.name_outputs.ensures.values;
    } in
    on_err c.from_residual-in_err-extend_from_slice.result _
    (types_whole c.args.domain.now c.args.stream.now c.args.inputs.now c.args.values.now c.args.facts.now.known
    c.name_outputs.new.facts.known c.learn_types.new.facts.known c.in_ok-outputs.outputs given
    c.learn_types.ensures.names c.learn_types.ensures.values
    c.as_slice.result.now c.as_slice-2.result.now c.as_slice.ensures c.as_slice-2.ensures c.in_ok-learn_types.ensures.facts)

pub returns-in_err-learn_atoms-clause-part : goal.returns-in_err-learn_atoms-clause-part
returns-in_err-learn_atoms-clause-part c =
    let given : AreGiven c.args.values.now c.args.facts.now.known c.name_outputs.new.facts.known c.in_ok-outputs.outputs =
    record {
      names = c.in_ok-outputs.ensures.names;
      distinct = c.name_outputs.new.facts.coherent.names;
      outputs_named = c.in_ok-outputs.ensures.objects;
      facts = c.name_outputs.ensures.facts;
      values = c.name_outputs.ensures.values;
    } in
    let args : c.as_slice-5.result.now ≡ c.args.inputs.now ++ c.in_ok-outputs.outputs =
    c.as_slice-5.ensures.value ∙ c.in_ok-extend_from_slice.ensures.items
    ∙ (λ i. c.in_ok-args.ensures.items i ++ c.as_slice-3.ensures i) in
    on_err c.from_residual-in_err-learn_atoms.result _
    (atoms_part c.args.domain.now c.args.stream.now c.args.inputs.now c.args.values.now c.args.facts.now.known
    c.name_outputs.new.facts.known c.learn_atoms.new.facts.known c.in_ok-outputs.outputs given
    (c.learn_atoms.ensures.names ∙ c.learn_types.ensures.names)
    (c.learn_atoms.ensures.values ∙ c.learn_types.ensures.values) c.learn_types.new.facts.known.facts
    c.as_slice.result.now c.as_slice-2.result.now c.as_slice-5.result.now c.as_slice-4.result.now c.as_slice.ensures c.as_slice-2.ensures
    c.in_ok-learn_types.ensures.facts args c.as_slice-4.ensures c.in_err-learn_atoms.ensures.part)
