use Rattle.std.proofs.Common.{◌≡◌, ◌∙◌, sym, ap, subst, arith, take, Some, slice_get, take_all, map, Contains}
use Rattle.std.proofs.lemmas.Option.{slice_get-get_or}
use Rattle.transcript_model.proofs.CallNameLemmas.{places_exact}
use Rattle.shown_steps.proofs.NamedPlaceLemmas.{no_places, places_push}
use Rattle.shown_steps.proofs.naming.objects_of.Goals as goal

pub loop-name-init : goal.loop-name-init
loop-name-init g c = ap (map (slice_get (g.T.Named.names c.args.table.now))) c.empty-row.ensures

pub loop-name-preserved : goal.loop-name-preserved
loop-name-preserved g c =
    let names = g.T.Named.names c.args.table.now in
    let here : slice_get names c.in-Some.object ≡ Some c.name-item.result = c.in-Some.ensures.found ∙ ap Some c.bytes.ensures in
    ap (map (slice_get names)) c.in_ok-push.ensures.ok
    ∙ places_push names c.args.names.now c.loop-name.row c.loop-name.name-index c.in-Some.object c.name-item.result c.loop-name-test.true
    c.name-item.is c.loop-name.invariant here

pub returns-in_default : goal.returns-in_default
returns-in_default g c =
    let names = g.T.Named.names c.args.table.now in
    let at : slice_get c.args.names.now c.loop-name.name-index ≡ Some c.name-item.result =
    slice_get-get_or c.args.names.now c.loop-name.name-index c.name-item.result c.loop-name-test.true ∙ ap Some (sym c.name-item.is) in
    sym (no_places names c.args.names.now c.loop-name.name-index c.name-item.result at
    (λ there. c.in_default.ensures.none (subst (Contains names) (sym c.bytes.ensures) there)))

pub returns : goal.returns
returns g c =
    let names = g.T.Named.names c.args.table.now in
    let all : take c.loop-name.name-index c.args.names.now ≡ c.args.names.now =
    take_all c.loop-name.name-index c.args.names.now (omega (arith, c.loop-name-test.false)) in
    sym ((places_exact names c.args.names.now c.loop-name.row c.requires).1
    (c.loop-name.invariant ∙ ap (map Some) all))
