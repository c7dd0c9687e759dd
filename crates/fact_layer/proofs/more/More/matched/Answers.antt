use Rattle.std.proofs.Common.{◌-◌, ◌∙◌, refl, sym, ap, arith, length, slice_get}
use Rattle.task_model.specs.Known.{matches_of}
use Rattle.fact_layer.proofs.LaidLemmas.{matches-append, get_before, get_after, counted}
use Rattle.fact_layer.proofs.more.More.matched.Goals as goal
use Rattle.lemmas.proofs.Members.{some_within}

pub returns-then-number-before : goal.returns-then-number-before
returns-then-number-before c =
    let base = matches_of c.args.base.now.known.facts c.args.pred c.args.place c.args.object in
    let more = matches_of c.args.self.now.facts c.args.pred c.args.place c.args.object in
    ap (λ fs. slice_get fs c.args.number)
    (sym (matches-append c.args.pred c.args.place c.args.object c.args.base.now.known.facts c.args.self.now.facts))
    ∙ sym (get_before base more c.args.number (omega (arith, c.matches-before.ensures, c.if-number-before.true)))
    ∙ c.matched.ensures

pub unreachable-requires : goal.unreachable-requires
unreachable-requires c =
    let base = matches_of c.args.base.now.known.facts c.args.pred c.args.place c.args.object in
    let more = matches_of c.args.self.now.facts c.args.pred c.args.place c.args.object in
    let both = counted base more _ (length base) (length more) refl refl
    (matches-append c.args.pred c.args.place c.args.object c.args.base.now.known.facts c.args.self.now.facts) in
    some_within more (c.args.number - c.matches-before.result)
    (omega (arith, both, c.requires, c.matches-before.ensures, c.if-number-before.false))
    (sym c.in-None.ensures)

pub returns : goal.returns
returns c =
    let base = matches_of c.args.base.now.known.facts c.args.pred c.args.place c.args.object in
    let more = matches_of c.args.self.now.facts c.args.pred c.args.place c.args.object in
    ap (λ fs. slice_get fs c.args.number)
    (sym (matches-append c.args.pred c.args.place c.args.object c.args.base.now.known.facts c.args.self.now.facts))
    ∙ sym (get_after base more c.args.number (λ h. absurd (omega (arith, h, c.matches-before.ensures, c.if-number-before.false))))
    ∙ ap (λ n. slice_get more (c.args.number - n)) (sym c.matches-before.ensures)
    ∙ sym c.in-Some.ensures
