use Rattle.std.proofs.Common.{◌+◌, ◌&&◌, not, sym, ap, ◌∙◌, drop, map}
use Rattle.fit_check.specs.Tests.{are_different}
use Rattle.lemmas.proofs.ListTests.{get_there}
use Rattle.fit_check.proofs.TestsNameLemmas.{different_from}
use Rattle.fit_check.proofs.names.have_different_names.Goals as goal

pub returns-then-is_repeated : goal.returns-then-is_repeated
returns-then-is_repeated g c =
    let there = get_there c.args.items.now c.loop-place.place c.loop-place-test.true in
    let seen = different_from g.T.Named.named c.args.items.now c.loop-place.place there.0 there.1 in
    let is = sym (c.is_repeated.ensures there.0 there.1) ∙ c.if-is_repeated.true in
    sym (sym c.loop-place.invariant ∙ seen
    ∙ ap (λ b. not b && are_different (map g.T.Named.named (drop (c.loop-place.place + 1) c.args.items.now))) is)

pub loop-place-preserved : goal.loop-place-preserved
loop-place-preserved g c =
    let there = get_there c.args.items.now c.loop-place.place c.loop-place-test.true in
    let seen = different_from g.T.Named.named c.args.items.now c.loop-place.place there.0 there.1 in
    let is = sym (c.is_repeated.ensures there.0 there.1) ∙ c.if-is_repeated.false in
    sym (seen ∙ ap (λ b. not b && are_different (map g.T.Named.named (drop (c.loop-place.place + 1) c.args.items.now))) is)
    ∙ c.loop-place.invariant
