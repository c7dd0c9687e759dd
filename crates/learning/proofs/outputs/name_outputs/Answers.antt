use Rattle.std.proofs.Common.{◌≡◌, ◌≤◌, ◌+◌, ◌∷◌, [], ◌++◌, ap, sym, subst, ◌∙◌, take, drop, map, length, arith, Some, slice_get}
use Rattle.std.proofs.lemmas.List.{take_more}
use Rattle.learning.proofs.OutputsLemmas.{named_kept, named_push, names_between, names_more, one_named}
use Rattle.learning.proofs.outputs.name_outputs.Goals as goal
use Rattle.learning.specs.Outputs.{AreNamed}
use Rattle.fact_store.proofs.GrowthLemmas.{between_same}
use Rattle.lemmas.proofs.Results.{on_err}
use Rattle.transcript_model.specs.Names.{generated}
use Rattle.task_model.specs.Known.{with_name, with_names}
use Rattle.task_model.proofs.KnownLemmas.{length_with_name}

pub loop-value-preserved : goal.loop-value-preserved
loop-value-preserved c =
    let old = c.loop-value.facts.known.names in
    let new = c.add_name.new.self.known.names in
    let value = c.value-item.result in
    let grown : new ≡ with_name old (generated value) = c.in_ok-object.ensures.names ∙ ap (with_name old) c.in_ok-name.ensures in
    let here : slice_get new c.in_ok-object.object ≡ Some (generated value) =
    c.in_ok-object.ensures.object ∙ ap Some c.in_ok-name.ensures in
    let kept : AreNamed new c.loop-value.objects (take c.loop-value.value-index c.args.values.now) =
    subst (λ ns. AreNamed ns c.loop-value.objects (take c.loop-value.value-index c.args.values.now)) (sym grown)
    (named_kept old (generated value) c.loop-value.objects
    (take c.loop-value.value-index c.args.values.now) c.loop-value.invariant.objects) in
    let pushed : AreNamed new (c.loop-value.objects ++ c.in_ok-object.object ∷ [])
    (take c.loop-value.value-index c.args.values.now ++ value ∷ []) =
    named_push new c.loop-value.objects (take c.loop-value.value-index c.args.values.now) c.in_ok-object.object value kept here in
    let more : take (c.loop-value.value-index + 1) c.args.values.now ≡ take c.loop-value.value-index c.args.values.now ++ value ∷ [] =
    take_more c.args.values.now c.loop-value.value-index value c.loop-value-test.true
    ∙ ap (λ v. take c.loop-value.value-index c.args.values.now ++ v ∷ []) (sym c.value-item.is) in
    record {
      names =
          ap (λ ns. with_names ns (map generated (drop (c.loop-value.value-index + 1) c.args.values.now))) grown
          ∙ names_more old c.args.values.now c.loop-value.value-index value c.loop-value-test.true c.value-item.is
          ∙ c.loop-value.invariant.names;
      grown = (one_named c.args.facts.now.known.names old new (with_names c.args.facts.now.known.names (map generated c.args.values.now))
          c.args.values.now c.loop-value.value-index value c.loop-value-test.true c.value-item.is grown c.loop-value.invariant.grown
          c.loop-value.invariant.names).0;
      objects = subst (λ os. AreNamed new os (take (c.loop-value.value-index + 1) c.args.values.now)) (sym c.in_ok-push.ensures.ok)
          (subst (λ vs. AreNamed new (c.loop-value.objects ++ c.in_ok-object.object ∷ []) vs) (sym more) pushed);
      room = let one : length new ≤ length old + 1 =
          subst (λ ns. length ns ≤ length old + 1) (sym grown) (length_with_name old (generated value)) in
          omega (arith, c.loop-value.invariant.room);
      facts = c.add_name.ensures.facts ∙ c.loop-value.invariant.facts;
      values = c.add_name.ensures.values ∙ c.loop-value.invariant.values;
    }

-- ---- where memory is wanting

pub returns-in_err-name-clause-part : goal.returns-in_err-name-clause-part
returns-in_err-name-clause-part c =
    let first = c.args.facts.now.known.names in
    let left = map generated (drop c.loop-value.value-index c.args.values.now) in
    on_err c.from_residual.result _
    (names_between first c.loop-value.facts.known.names left (with_names first (map generated c.args.values.now))
    c.loop-value.invariant.grown c.loop-value.invariant.names)

pub returns-in_err-object-clause-part : goal.returns-in_err-object-clause-part
returns-in_err-object-clause-part c =
    let first = c.args.facts.now.known.names in
    let now = c.loop-value.facts.known.names in
    let left = map generated (drop c.loop-value.value-index c.args.values.now) in
    let all = with_names first (map generated c.args.values.now) in
    on_err c.from_residual-in_err-object.result _
    (between_same first now c.add_name.new.self.known.names all (ap (λ s. s.known.names) c.in_err-object.ensures.err)
    (names_between first now left all c.loop-value.invariant.grown c.loop-value.invariant.names))

pub returns-in_err-push-clause-part : goal.returns-in_err-push-clause-part
returns-in_err-push-clause-part c =
    let first = c.args.facts.now.known.names in
    let now = c.loop-value.facts.known.names in
    on_err c.from_residual-in_err-push.result _
    (one_named first now c.add_name.new.self.known.names (with_names first (map generated c.args.values.now)) c.args.values.now
    c.loop-value.value-index c.value-item.result c.loop-value-test.true c.value-item.is
    (c.in_ok-object.ensures.names ∙ ap (with_name now) c.in_ok-name.ensures) c.loop-value.invariant.grown c.loop-value.invariant.names)
