use Rattle.std.proofs.Common.{◌≡◌, ◌<◌, ap, sym, subst, ◌∙◌, Some, None, slice_get, length, ltb-true, arith}
use Rattle.std.proofs.lemmas.Option.{slice_get_past}
use Rattle.lemmas.proofs.ListTests.{get_some}
use Rattle.task_model.specs.Streams.{name_at}
use Rattle.name_tables.proofs.DeclarationsLemmas.{signature_end, signature_more}
use Rattle.name_tables.proofs.signatures.Signatures.to_signatures.Goals as goal

pub returns-in_default : goal.returns-in_default
returns-in_default c =
    let arities : c.self.inside.arities.items ≡ c.args.self.now.arities = ap (λ t. t.arities) c.self.view_is in
    let here : slice_get c.self.inside.arities.items c.loop-place.place ≡ None =
    ap (λ ss. slice_get ss c.loop-place.place) (sym c.deref.ensures.value)
    ∙ slice_get_past c.deref.result.now c.loop-place.place c.in_default.ensures.lookup.3 in
    signature_end c.args.self.now.names c.args.self.now.arities c.loop-place.list.items c.loop-place.place c.loop-place.invariant
    (ap (λ ss. slice_get ss c.loop-place.place) (sym arities) ∙ here)

pub loop-place-preserved : goal.loop-place-preserved
loop-place-preserved c =
    let names : c.self.inside.names ≡ c.args.self.now.names = ap (λ t. t.names) c.self.view_is in
    let arities : c.self.inside.arities.items ≡ c.args.self.now.arities = ap (λ t. t.arities) c.self.view_is in
    let here : slice_get c.self.inside.arities.items c.loop-place.place ≡ Some c.in-Some.arity.now =
    ap (λ ss. slice_get ss c.loop-place.place) (sym c.deref.ensures.value)
    ∙ get_some c.deref.result.now c.loop-place.place c.in-Some.arity.now
    (ltb-true c.loop-place.place (length c.deref.result.now) (sym c.in-Some.ensures.lookup.0)) c.in-Some.ensures.lookup.1 in
    let inside : c.loop-place.place < length c.self.inside.names = omega (arith, c.loop-place-test.true, c.len-place-end.ensures) in
    signature_more c.args.self.now.names c.args.self.now.arities c.loop-place.list.items c.loop-place.place c.loop-place.invariant
    c.push.new.self.items c.in_ok-name.name c.in_ok-arity.arity
    (subst (λ ns. c.loop-place.place < length ns) names inside)
    (ap (λ ss. slice_get ss c.loop-place.place) (sym arities) ∙ here ∙ ap Some (sym c.in_ok-arity.ensures))
    (c.in_ok-name.ensures.name ∙ c.name_at.ensures ∙ ap (λ ns. name_at ns c.loop-place.place) names)
    c.in_ok-push.ensures.items
