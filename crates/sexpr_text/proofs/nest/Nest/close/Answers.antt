use Rattle.std.proofs.Common.{◌-◌, set, refl, ◌∙◌, ap, arith}
use Rattle.sexpr_text.specs.Nodes.{Node}
use Rattle.sexpr_text.proofs.NestLemmas.{begins_below, closes_inner}
use Rattle.sexpr_text.proofs.nest.Nest.close.Goals as goal

pub overflow_sub-count : goal.overflow_sub-count
overflow_sub-count c =
    let h = begins_below c.args.self.now c.requires.opens c.pop.new.self.items c.in-Some.field-0
    c.requires.holds c.in-Some.ensures.items in
    let e = c.len.ensures in
    let k = c.args.self.now.items.ok.0 in
    omega arith

pub overflow_sub-count-2 : goal.overflow_sub-count-2
overflow_sub-count-2 c =
    let h = begins_below c.args.self.now c.requires.opens c.pop.new.self.items c.in-Some.field-0
    c.requires.holds c.in-Some.ensures.items in
    let e = c.len.ensures in
    let k = c.args.self.now.items.ok.0 in
    omega arith

pub index_mut-requires : goal.index_mut-requires
index_mut-requires c =
    let h = begins_below c.args.self.now c.requires.opens c.pop.new.self.items c.in-Some.field-0
    c.requires.holds c.in-Some.ensures.items in
    let k = c.args.self.now.items.ok.0 in
    omega arith

pub returns : goal.returns
returns c = λ os h.
    closes_inner c.args.self.now _ os c.in-Some.field-0 h c.in-Some.ensures.items
    (ap (set c.args.self.now.items.items c.in-Some.field-0.at) c.list.ensures
    ∙ ap (λ n. set c.args.self.now.items.items c.in-Some.field-0.at
    (Node.list (n - c.in-Some.field-0.at - 1) c.in-Some.field-0.place))
    (c.len.ensures ∙ c.args.self.now.items.ok.0))
    refl
