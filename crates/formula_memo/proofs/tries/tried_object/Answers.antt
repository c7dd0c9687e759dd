use Rattle.std.proofs.Common.{◌≡◌, Some, true, sym, ap, subst, ◌∙◌, slice_get}
use Rattle.fact_join.proofs.FactLemmas.{has_object}
use Rattle.task_model.specs.Known.{atom_fact, matches_of}
use Rattle.task_model.specs.Truth.{has_type, objects_at}
use Rattle.task_model.specs.declared.fact.Atom as fact
use Rattle.task_model.specs.declared.fact.Fact.{Fact}
use Rattle.formula_memo.proofs.TriesLemmas.{typed_there, placed_atom, placed_fact}
use Rattle.formula_memo.specs.Tries.{ComesAt, IsLedTo, StandsAmong}
use Rattle.formula_memo.proofs.tries.tried_object.Goals as goal

pub returns-else-atom-lead-clause-typed : goal.returns-else-atom-lead-clause-typed
returns-else-atom-lead-clause-typed g c =
    typed_there (g.L.Look.known c.args.scene.now.look.now) c.args.sort c.led_object.result c.led_object.ensures.typed

pub returns-else-atom-lead-clause-comes : goal.returns-else-atom-lead-clause-comes
returns-else-atom-lead-clause-comes g c object at m =
    let known = g.L.Look.known c.args.scene.now.look.now in
    let state = c.args.scene.now.state.now in
    let lead = c.in-Some.lead in
    let led : IsLedTo known state lead c.args.slot c.args.env.now c.args.place object =
    subst (λ l. ComesAt known state c.args.sort l c.args.slot c.args.env.now c.args.place object) c.in-Some.is at in
    let objects = objects_at led.after lead.terms.now in
    let stands = subst (λ a. StandsAmong known state lead.pred a objects c.args.place) c.in-State.is led.stands in
    let atom = placed_atom c.as_slice.result.now c.args.place c.index-as_slice-place.result
    (record { pred = lead.pred; args = objects }) c.index-as_slice-place.is
    (ap (λ xs. slice_get xs c.args.place) c.as_slice.ensures ∙ stands) in
    let typed = subst (λ o. has_type known o c.args.sort ≡ true) (sym led.here) ((has_object known c.args.sort object).1 m) in
    subst (λ o. c.led_object.result ≡ Some o) led.here
    (c.led_object.ensures.led led.after (c.as_slice-in-State.ensures ∙ ap (λ (a : fact.Atom). a.args) atom) led.same typed)

pub returns-in-Facts-clause-typed : goal.returns-in-Facts-clause-typed
returns-in-Facts-clause-typed g c =
    typed_there (g.L.Look.known c.args.scene.now.look.now) c.args.sort c.led_object-in-Facts.result
    c.led_object-in-Facts.ensures.typed

pub returns-in-Facts-clause-comes : goal.returns-in-Facts-clause-comes
returns-in-Facts-clause-comes g c object at m =
    let known = g.L.Look.known c.args.scene.now.look.now in
    let state = c.args.scene.now.state.now in
    let lead = c.in-Some.lead in
    let led : IsLedTo known state lead c.args.slot c.args.env.now c.args.place object =
    subst (λ l. ComesAt known state c.args.sort l c.args.slot c.args.env.now c.args.place object) c.in-Some.is at in
    let objects = objects_at led.after lead.terms.now in
    let stands = subst (λ a. StandsAmong known state lead.pred a objects c.args.place) c.in-Facts.is led.stands in
    let found = placed_fact (matches_of known.facts lead.pred c.in-Facts.at c.in-Facts.object) c.args.place
    (atom_fact lead.pred c.matched-args.result.now) (atom_fact lead.pred objects) c.matched-args.ensures stands in
    let typed = subst (λ o. has_type known o c.args.sort ≡ true) (sym led.here) ((has_object known c.args.sort object).1 m) in
    subst (λ o. c.led_object-in-Facts.result ≡ Some o) led.here
    (c.led_object-in-Facts.ensures.led led.after (ap (λ (f : Fact). f.args) found) led.same typed)
