use Rattle.std.proofs.Common.{◌<◌, sym, ◌∙◌, length, arith}
use Rattle.name_tables.proofs.DeclarationsLemmas.{declared_end, declared_more}
use Rattle.name_tables.proofs.declarations.declared_of.Goals as goal

pub returns-in_default : goal.returns-in_default
returns-in_default c =
    declared_end c.args.names.now c.args.sorts.now c.loop-place.list.items c.loop-place.place c.loop-place.invariant
    (sym c.in_ok-sorts.ensures ∙ c.in_default.is)

pub loop-place-preserved : goal.loop-place-preserved
loop-place-preserved c =
    let inside : c.loop-place.place < length c.args.names.now = omega (arith, c.loop-place-test.true, c.len-place-end.ensures) in
    declared_more c.args.names.now c.args.sorts.now c.loop-place.list.items c.loop-place.place c.loop-place.invariant
    c.push.new.self.items c.in_ok-name.name c.in-Some.sorts inside
    (sym c.in_ok-sorts.ensures ∙ c.in-Some.is)
    (c.in_ok-name.ensures.name ∙ c.name_at.ensures) c.in_ok-push.ensures.items
