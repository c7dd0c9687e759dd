use Rattle.std.proofs.Common.{ap, sym, ◌∙◌, ◌++◌, ◌∷◌, [], ◌||◌, false, take, slice_get, arith}
use Rattle.std.proofs.lemmas.List.{take_all, take_more}
use Rattle.std.proofs.lemmas.List.Folds.{list_any-append}
use Rattle.std.specs.List.{list_any}
use Rattle.lemmas.proofs.ListTests.{get_some}
use Rattle.task_model.specs.Known.{same_numbers}
use Rattle.fact_store.proofs.NamePlaceLemmas.{found_name, absent_name}
use Rattle.fact_store.proofs.scan.place_in.Goals as goal

pub loop-place-preserved : goal.loop-place-preserved
loop-place-preserved c =
    let names = c.args.names.now in
    let p = same_numbers c.args.name.now in
    let front = take c.loop-place.place names in
    let known = c.index-names-place.result in
    let other = ap p (sym c.bytes.ensures) ∙ sym c.eq.ensures ∙ c.if-eq.false in
    ap (list_any p) (take_more names c.loop-place.place known c.loop-place-test.true ∙ ap (λ x. front ++ x ∷ []) (sym c.index-names-place.is))
    ∙ list_any-append p front (known ∷ [])
    ∙ (λ k. c.loop-place.invariant k || (other k || false))

pub returns-then-eq-clause-found : goal.returns-then-eq-clause-found
returns-then-eq-clause-found c =
    let names = c.args.names.now in
    let name = c.args.name.now in
    let place = c.loop-place.place in
    let known = c.index-names-place.result in
    ap (slice_get names) c.new.ensures
    ∙ found_name names name place known (get_some names place known c.loop-place-test.true c.index-names-place.is)
    (ap (same_numbers name) (sym c.bytes.ensures) ∙ sym c.eq.ensures ∙ c.if-eq.true)

pub returns-clause-none : goal.returns-clause-none
returns-clause-none c =
    let names = c.args.names.now in
    absent_name names c.args.name.now
    (ap (list_any (same_numbers c.args.name.now)) (sym (take_all c.loop-place.place names (omega (arith, c.loop-place-test.false))))
    ∙ c.loop-place.invariant)
