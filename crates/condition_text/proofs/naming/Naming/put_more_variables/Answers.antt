use Rattle.std.proofs.Common.{◌+◌, ap, drop, get_or}
use Rattle.std.proofs.lemmas.List.{drop_all}
use Rattle.condition_text.specs.Texts.{more_variables, typed}
use Rattle.condition_text.proofs.TextsLemmas.{all_put, one_put, variables_left}
use Rattle.condition_text.proofs.naming.Naming.put_more_variables.Goals as goal

pub loop-place-preserved : goal.loop-place-preserved
loop-place-preserved c =
    let domain = c.args.self.now.domain.now in
    let sorts = c.args.sorts.now in
    let i = c.loop-place.place in
    one_put c.loop-place.text.items c.extend_from_slice.new.self.items c.put_typed.new.text.items
    (typed domain (c.args.first + i) (get_or sorts i 0)) (more_variables domain (c.args.first + i) (drop i sorts))
    (more_variables domain (c.args.first + (i + 1)) (drop (i + 1) sorts)) _ c.loop-place.invariant
    (variables_left domain c.args.first sorts i c.loop-place-test.true)
    c.in_ok-extend_from_slice.ensures.items c.in_ok-put_typed.ensures

pub returns : goal.returns
returns c =
    all_put _ _ _ c.loop-place.invariant
    (ap (more_variables c.args.self.now.domain.now (c.args.first + c.loop-place.place))
    (drop_all c.loop-place.place c.args.sorts.now c.loop-place-test.false))
