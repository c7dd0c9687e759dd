use Rattle.std.proofs.Common.{◌≡◌, ◌≤◌, ◌++◌, ◌∙◌, Some, arith, length, slice_get, sym, ap, subst, take_all}
use Rattle.std.proofs.lemmas.Option.{slice_get-get_or}
use Rattle.lemmas.proofs.Distinct.{distinct_right}
use Rattle.lemmas.specs.Lists.{AreDistinct}
use Rattle.name_tables.specs.Names.{with_table_name}
use Rattle.dream_check.proofs.TableLemmas.{few_placeholders, name_next}
use Rattle.dream_check.proofs.table.Table.of.Goals as goal

pub loop-name-preserved : goal.loop-name-preserved
loop-name-preserved c =
    let d = c.args.supposed.now in
    let names = c.names-names.result.now in
    let i = c.loop-name.name-index in
    let distinct = distinct_right d.base.names names (subst AreDistinct c.names-names.ensures d.coherent.names) in
    let at : slice_get names i ≡ Some c.name-item.result =
    slice_get-get_or names i c.name-item.result c.loop-name-test.true ∙ ap Some (sym c.name-item.is) in
    c.in_ok-_new.ensures.names ∙ (λ k. with_table_name (c.loop-name.invariant k) (c.bytes.ensures k))
    ∙ name_next names i c.name-item.result distinct c.loop-name-test.true at

pub invariant_of-result : goal.invariant_of-result
invariant_of-result c =
    let names = c.names-names.result.now in
    let all = take_all c.loop-name.name-index names (omega (arith, c.loop-name-test.false)) in
    subst (λ ns. length ns ≤ 160000) (sym (c.loop-name.invariant ∙ all))
    (few_placeholders c.requires.0 c.args.supposed.now names c.requires.1 c.names-names.ensures)

pub returns : goal.returns
returns c =
    let names = c.names-names.result.now in
    let all = take_all c.loop-name.name-index names (omega (arith, c.loop-name-test.false)) in
    (λ k. (c.facts.ensures k).names ++ (c.loop-name.invariant ∙ all) k) ∙ sym c.names-names.ensures
