use Rattle.std.proofs.Common.{◌≡◌, ◌≤◌, ◌+◌, ◌-◌, ◌*◌, suc, length, map, take, drop, arith, ap, ◌∙◌, sym, subst, suc-mul, All}
use Rattle.std.proofs.Math.ListN.{length-drop}
use Rattle.std.proofs.lemmas.List.{length-map, length-take-le}
use Rattle.learning.proofs.OutputsLemmas.{all_in_names_kept, names_grow}
use Rattle.learning.proofs.TuplesLemmas.{teaches_grows}
use Rattle.learning.specs.Learning.{asked_by}
use Rattle.learning.specs.Outputs.{AreNamed}
use Rattle.learning.specs.Tuples.{with_tuple}
use Rattle.fact_store.proofs.GrowthLemmas.{grows_then}
use Rattle.fact_store.specs.Growth.{Grows}
use Rattle.lemmas.proofs.Results.{on_err}
use Rattle.task_model.specs.Known.{Known, IsIn, with_facts, with_names}
use Rattle.task_model.specs.Streams.{certified_by}
use Rattle.transcript_model.proofs.NamedObjectLemmas.{fit_stream_at}
use Rattle.transcript_model.specs.Names.{generated}
use Rattle.transcript_model.specs.Transcript.{Asked, known_with}
use Rattle.transcript_model.specs.declared.entry.Entry.TheVariants as entry
use Rattle.learning.proofs.LearningTupleLemmas.{lies_then, none_left, one_less, tuple_grows, tuple_learnt}
use Rattle.learning.proofs.learn.learn_tuples.Goals as goal
use Rattle.task_model.proofs.KnownLemmas.{length_with_names}

pub learn_tuple-requires-clause-may : goal.learn_tuple-requires-clause-may
learn_tuple-requires-clause-may c =
    let inputs = c.as_slice-inputs.ensures in
    record {
      fit_domain = c.requires.may.fit.domain;
      fit_stream = fit_stream_at c.args.task.now c.args.asked.now.instance.now.stream c.args.asked.now.stream.now c.requires.may.fit
          c.requires.may.streamed;
      many = ap length inputs ∙ c.requires.may.many;
      named = subst (All (IsIn c.loop.facts.known.names)) (sym inputs) c.loop.invariant.named;
      constants = c.loop.invariant.constants;
    }

pub loop-preserved : goal.loop-preserved
loop-preserved c =
    let task = c.args.task.now in
    let a : Asked = asked_by c.args.asked.now in
    let width = length c.args.asked.now.stream.now.outputs in
    let rest = c.loop.rest.now in
    let n = c.args.tuples - (c.loop.counter + 1) in
    let left : c.args.tuples - c.loop.counter ≡ suc n = one_less c.args.tuples c.loop.counter c.loop-test.true in
    let long : length rest ≡ n * width + width = c.loop.invariant.long ∙ ap (λ m. m * width) left ∙ suc-mul n width in
    let front : c.split_at.result.0.now ≡ take width rest = c.split_at.ensures.front ∙ ap (λ m. take m rest) c.len.ensures in
    let back : c.split_at.result.1.now ≡ drop width rest = c.split_at.ensures.back ∙ ap (λ m. drop m rest) c.len.ensures in
    let known = c.loop.facts.known in
    let after = c.learn_tuple.new.facts.known in
    let outputs = c.in_ok-learn_tuple.field-0 in
    let names : after.names ≡ with_names known.names (map generated (take width rest)) =
    c.in_ok-learn_tuple.ensures.all.names ∙ ap (λ vs. with_names known.names (map generated vs)) front in
    let named : AreNamed after.names outputs (take width rest) =
    subst (AreNamed after.names outputs) front c.in_ok-learn_tuple.ensures.all.outputs_named in
    let facts : after.facts ≡ with_facts known.facts (certified_by task.domain a.stream a.instance.inputs outputs) =
    c.in_ok-learn_tuple.ensures.all.facts
    ∙ ap (λ is. with_facts known.facts (certified_by task.domain a.stream is outputs)) c.as_slice-inputs.ensures in
    let short : length (take width rest) ≡ width = length-take-le width rest (omega (arith, long)) in
    let later : length (drop width rest) ≡ n * width = omega (arith, length-drop width rest, long) in
    record {
      known = ap (λ vs. known_with task after a (entry.Got 0 n vs)) back
          ∙ tuple_learnt task known after a n rest outputs names c.learn_tuple.new.facts.coherent.names named facts
          c.in_ok-learn_tuple.ensures.all.values
          ∙ ap (λ m. known_with task known a (entry.Got 0 m rest)) (sym left)
          ∙ c.loop.invariant.known;
      grown = grows_then c.args.facts.now.known known after c.loop.invariant.grown
          (teaches_grows task.domain c.args.asked.now.stream.now c.as_slice-inputs.result.now c.split_at.result.0.now known after outputs
          c.in_ok-learn_tuple.ensures.all);
      long = ap length back ∙ later;
      named = subst (λ ns. All (IsIn ns) c.args.asked.now.instance.now.inputs)
          (sym names) (all_in_names_kept known.names (map generated (take width rest)) c.args.asked.now.instance.now.inputs c.loop.invariant.named);
      constants =
          subst (λ ns. length task.domain.constants ≤ length ns)
          (sym names) (omega (arith, c.loop.invariant.constants, names_grow known.names (map generated (take width rest))));
      room = omega (
        arith,
        ap length names,
        length_with_names known.names (map generated (take width rest)),
        length-map (take width rest) generated,
        short,
        later,
        ap length back,
        long,
        c.loop.invariant.room,
      );
    }

pub returns-clause-known : goal.returns-clause-known
returns-clause-known c =
    let task = c.args.task.now in
    let a : Asked = asked_by c.args.asked.now in
    let rest = c.loop.rest.now in
    let done : c.args.tuples - c.loop.counter ≡ 0 = omega (arith, c.loop-test.false) in
    let none : length rest ≡ 0 * length c.args.asked.now.stream.now.outputs =
    c.loop.invariant.long ∙ ap (λ m. m * length c.args.asked.now.stream.now.outputs) done in
    none_left task c.loop.facts.known a rest (omega (arith, none))
    ∙ ap (λ m. known_with task c.loop.facts.known a (entry.Got 0 m rest)) (sym done)
    ∙ c.loop.invariant.known

pub returns-in_err-learn_tuple-clause-part : goal.returns-in_err-learn_tuple-clause-part
returns-in_err-learn_tuple-clause-part c =
    let task = c.args.task.now in
    let a : Asked = asked_by c.args.asked.now in
    let width = length c.args.asked.now.stream.now.outputs in
    let rest = c.loop.rest.now in
    let n = c.args.tuples - (c.loop.counter + 1) in
    let left = one_less c.args.tuples c.loop.counter c.loop-test.true in
    let front : c.split_at.result.0.now ≡ take width rest = c.split_at.ensures.front ∙ ap (λ m. take m rest) c.len.ensures in
    let known = c.loop.facts.known in
    let last = known_with task c.args.facts.now.known a (entry.Got 0 c.args.tuples c.args.values.now) in
    let next = with_tuple task.domain c.args.asked.now.stream.now c.as_slice-inputs.result.now c.split_at.result.0.now known in
    let is : next ≡ with_tuple task.domain a.stream a.instance.inputs (take width rest) known =
    λ i. with_tuple task.domain a.stream (c.as_slice-inputs.ensures i) (front i) known in
    let all : known_with task known a (entry.Got 0 (suc n) rest) ≡ last =
    ap (λ m. known_with task known a (entry.Got 0 m rest)) (sym left) ∙ c.loop.invariant.known in
    let later : Grows next last =
    subst (Grows next) all
    (subst (λ (k : Known). Grows k (known_with task known a (entry.Got 0 (suc n) rest))) (sym is)
    (tuple_grows task known a n rest c.loop.facts.coherent.names)) in
    on_err c.from_residual.result _
    (lies_then c.args.facts.now.known known c.learn_tuple.new.facts.known next last c.loop.invariant.grown
    c.in_err-learn_tuple.ensures.part later)
