use Rattle.std.proofs.Common.{◌≡◌, ◌+◌, ◌||◌, true, false, sym, ap, ◌∙◌, drop}
use Rattle.std.specs.List.{list_any}
use Rattle.std.proofs.lemmas.List.{drop_all}
use Rattle.task_model.specs.Known.{same_numbers}
use Rattle.lemmas.proofs.ListTests.{get_some, one_there, any_from}
use Rattle.fit_check.proofs.names.is_repeated.Goals as goal

pub returns-then-same_name : goal.returns-then-same_name
returns-then-same_name g c x here =
    let named = g.T.Named.named in
    let items = c.args.items.now in
    let there = get_some items c.loop-other.other c.index-items-other.result c.loop-other-test.true c.index-items-other.is in
    let item = one_there items c.args.place c.index-items-place.result x
    (get_some items c.args.place c.index-items-place.result c.requires c.index-items-place.is) here in
    let same : same_numbers (named x) (named c.index-items-other.result) ≡ true =
    (λ i. same_numbers (sym (c.name-name.ensures ∙ ap named item) i) (sym c.name.ensures i)) ∙ sym c.same_name.ensures
    ∙ c.if-same_name.true in
    sym
    (sym (c.loop-other.invariant x here)
    ∙ any_from (λ y. same_numbers (named x) (named y)) items c.loop-other.other c.index-items-other.result there
    ∙ ap (λ b. b || list_any (λ y. same_numbers (named x) (named y)) (drop (c.loop-other.other + 1) items)) same)

pub loop-other-preserved : goal.loop-other-preserved
loop-other-preserved g c x here =
    let named = g.T.Named.named in
    let items = c.args.items.now in
    let there = get_some items c.loop-other.other c.index-items-other.result c.loop-other-test.true c.index-items-other.is in
    let item = one_there items c.args.place c.index-items-place.result x
    (get_some items c.args.place c.index-items-place.result c.requires c.index-items-place.is) here in
    let same : same_numbers (named x) (named c.index-items-other.result) ≡ false =
    (λ i. same_numbers (sym (c.name-name.ensures ∙ ap named item) i) (sym c.name.ensures i)) ∙ sym c.same_name.ensures
    ∙ c.if-same_name.false in
    sym (any_from (λ y. same_numbers (named x) (named y)) items c.loop-other.other c.index-items-other.result there
    ∙ ap (λ b. b || list_any (λ y. same_numbers (named x) (named y)) (drop (c.loop-other.other + 1) items)) same)
    ∙ c.loop-other.invariant x here

pub returns : goal.returns
returns g c x here =
    ap (list_any (λ y. same_numbers (g.T.Named.named x) (g.T.Named.named y)))
    (sym (drop_all c.loop-other.other c.args.items.now c.loop-other-test.false))
    ∙ c.loop-other.invariant x here
