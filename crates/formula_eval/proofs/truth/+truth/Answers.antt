use Rattle.std.proofs.Common.{rules, ◌≡◌, ◌+◌, ◌<◌, ◌||◌, length, true, false, ℕ, suc, slice_set, sym, ap, ◌∙◌, subst, arith, drop, get_or, add-one}
use Rattle.std.specs.List.{list_any}
use Rattle.task_model.proofs.TruthLemmas.{have_types-length}
use Rattle.task_model.specs.Known.{objects_of}
use Rattle.task_model.specs.Roles.{role_of}
use Rattle.task_model.specs.declared.domain.Role.TheVariants as role
use Rattle.formula_eval.specs.Judged.{some_at, derived_at}
use Rattle.formula_eval.proofs.ConditionPartLemmas.{readable_part, set_back, set_twice}
use Rattle.formula_eval.proofs.ReadableLemmas.{roles_length, role_kept, static_at, fluent_at, derived_below, derived_at_none, fit_item, item_params, item_readable}
use Rattle.formula_eval.proofs.ListTestLemmas.{list_any-drop}
use Rattle.formula_eval.proofs.WeightLemmas.{part_lighter, body_lighter}
use Rattle.formula_eval.proofs.truth.+truth.Goals as goal

pub all_true-truth-requires : goal.all_true-truth-requires
all_true-truth-requires g t c κs within =
    let lighter = part_lighter c.args.parts.now c.loop-part.part-index c.part-item.result c.loop-part-test.true c.part-item.is in
    let readable =
    readable_part c.args.scene.now.task.now.domain c.args.parts.now c.loop-part.part-index c.part-item.result c.requires.readable
    c.loop-part-test.true c.part-item.is in
    search rules

pub any_true-truth-requires : goal.any_true-truth-requires
any_true-truth-requires g t c κs within =
    let lighter = part_lighter c.args.parts.now c.loop-part.part-index c.part-item.result c.loop-part-test.true c.part-item.is in
    let readable =
    readable_part c.args.scene.now.task.now.domain c.args.parts.now c.loop-part.part-index c.part-item.result c.requires.readable
    c.loop-part-test.true c.part-item.is in
    (omega (arith, c.decreases), (within, (c.requires.fit, readable)))

pub atom-bounds : goal.atom-bounds
atom-bounds g t c =
    let long : length c.as_slice.result.now ≡ length c.args.scene.now.task.now.domain.predicates =
    ap length c.as_slice.ensures ∙ roles_length c.args.scene.now.task.now.domain c.requires.fit.domain in
    omega (arith, c.requires.predicate)

pub atom-returns-in-Static : goal.atom-returns-in-Static
atom-returns-in-Static g t c =
    let domain = c.args.scene.now.task.now.domain in
    let is : role_of domain c.args.pred ≡ role.Static =
    sym (role_kept domain c.requires.fit.domain c.args.pred role.Static c.requires.predicate)
    ∙ sym (ap (λ rs. get_or rs c.args.pred role.Static) c.as_slice.ensures) ∙ c.in-Static.is in
    c.has.ensures
    ∙ sym
    (static_at domain (g.L.Look.known c.args.scene.now.look.now) c.args.scene.now.state.now c.args.pred c.args.args c.args.depth is)

pub atom-returns-in-Fluent : goal.atom-returns-in-Fluent
atom-returns-in-Fluent g t c =
    let domain = c.args.scene.now.task.now.domain in
    let is : role_of domain c.args.pred ≡ role.Fluent =
    sym (role_kept domain c.requires.fit.domain c.args.pred role.Static c.requires.predicate)
    ∙ sym (ap (λ rs. get_or rs c.args.pred role.Static) c.as_slice.ensures) ∙ c.in-Fluent.is in
    c.has-in-Fluent.ensures
    ∙ sym
    (fluent_at domain (g.L.Look.known c.args.scene.now.look.now) c.args.scene.now.state.now c.args.pred c.args.args c.args.depth is)

pub atom-returns-in-Some : goal.atom-returns-in-Some
atom-returns-in-Some g t c =
    let domain = c.args.scene.now.task.now.domain in
    let known = g.L.Look.known c.args.scene.now.look.now in
    let state = c.args.scene.now.state.now in
    let is : role_of domain c.args.pred ≡ role.Derived =
    sym (role_kept domain c.requires.fit.domain c.args.pred role.Static c.requires.predicate)
    ∙ sym (ap (λ rs. get_or rs c.args.pred role.Static) c.as_slice.ensures) ∙ c.in-Derived.is in
    let above : c.args.depth ≡ suc c.in-Some.below = omega (arith, c.in-Some.ensures.0, c.in-Some.ensures.1) in
    c.derived.ensures ∙ ap (derived_at domain known state c.in-Some.below c.args.pred) c.as_slice-in-Some.ensures
    ∙ sym (derived_below domain known state c.args.pred c.args.args c.args.depth c.in-Some.below is above)

pub atom-returns : goal.atom-returns
atom-returns g t c =
    let domain = c.args.scene.now.task.now.domain in
    let is : role_of domain c.args.pred ≡ role.Derived =
    sym (role_kept domain c.requires.fit.domain c.args.pred role.Static c.requires.predicate)
    ∙ sym (ap (λ rs. get_or rs c.args.pred role.Static) c.as_slice.ensures) ∙ c.in-Derived.is in
    let none : c.args.depth ≡ 0 = omega (arith, c.in-None.ensures) in
    sym (derived_at_none domain (g.L.Look.known c.args.scene.now.look.now) c.args.scene.now.state.now c.args.pred c.args.args c.args.depth
    is none)

pub derived-new-env-requires : goal.derived-new-env-requires
derived-new-env-requires g t c =
    let domain = c.args.scene.now.task.now.domain in
    let index = c.loop-item.item-index in
    let items = c.as_slice-item-items.ensures in
    let inside : index < length domain.derived = subst (λ xs. index < length xs) items c.loop-item-test.true in
    let fit = fit_item domain c.requires.fit.domain index c.item-item.result inside
    (c.item-item.is ∙ ap (λ xs. get_or xs index c.item-item.result) items) in
    let params = item_params domain c.item-item.result fit in
    let long = have_types-length (g.L.Look.known c.args.scene.now.look.now) c.args.args.now c.as_slice.result.now
    (sym c.if-have_types.ensures) in
    let same : length c.as_slice.result.now ≡ length c.item-item.result.params = ap length c.as_slice.ensures in
    omega arith

pub derived-truth-requires : goal.derived-truth-requires
derived-truth-requires g t c κs within =
    let domain = c.args.scene.now.task.now.domain in
    let index = c.loop-item.item-index in
    let items = c.as_slice-item-items.ensures in
    let inside : index < length domain.derived = subst (λ xs. index < length xs) items c.loop-item-test.true in
    let is = c.item-item.is ∙ ap (λ xs. get_or xs index c.item-item.result) items in
    let lighter = body_lighter domain.derived index c.item-item.result inside is in
    let readable =
    item_readable domain c.requires.fit.domain c.item-item.result
    (fit_item domain c.requires.fit.domain index c.item-item.result inside is) in
    (omega (arith, c.decreases), (within, (c.requires.fit, readable)))

pub some_tuple-returns-then-some_tuple-clause-value : goal.some_tuple-returns-then-some_tuple-clause-value
some_tuple-returns-then-some_tuple-clause-value g t c =
    let domain = c.args.scene.now.task.now.domain in
    let known = g.L.Look.known c.args.scene.now.look.now in
    let state = c.args.scene.now.state.now in
    let objects = objects_of known.facts c.in-Some.sort.now in
    let test = λ (o : ℕ).
    some_at domain known state c.args.depth
    (c.args.first + 1) c.in-Some.rest.now c.args.body.now (slice_set c.args.env.now c.args.first o) in
    let here : test c.object.result ≡ true =
    ap (some_at domain known state c.args.depth (c.args.first + 1) c.in-Some.rest.now c.args.body.now)
    (sym (c.loop-place.invariant.1 c.object.result) ∙ sym c.set.ensures)
    ∙ sym c.some_tuple.ensures.value ∙ c.if-some_tuple.true in
    let left : list_any test (drop c.loop-place.place objects) ≡ true =
    list_any-drop test objects c.loop-place.place c.object.result c.object.ensures
    ∙ ap (λ b. b || list_any test (drop (suc c.loop-place.place) objects)) here in
    let whole : list_any test objects ≡ true = sym c.loop-place.invariant.0 ∙ left in
    sym whole
    ∙ ap (λ ss. some_at domain known state c.args.depth c.args.first ss c.args.body.now c.args.env.now) (sym c.in-Some.ensures.cases.0)

pub some_tuple-returns-then-some_tuple-clause-same : goal.some_tuple-returns-then-some_tuple-clause-same
some_tuple-returns-then-some_tuple-clause-same g t c =
    c.set-then-some_tuple.ensures ∙ ap (λ s. slice_set s c.args.first c.get-kept.result) (c.some_tuple.ensures.same ∙ c.set.ensures)
    ∙ set_twice c.loop-place.env c.args.first c.object.result c.get-kept.result ∙ c.loop-place.invariant.1 c.get-kept.result
    ∙ ap (slice_set c.args.env.now c.args.first) c.get-kept.ensures.object ∙ set_back c.args.env.now c.args.first

pub some_tuple-loop-place-preserved : goal.some_tuple-loop-place-preserved
some_tuple-loop-place-preserved g t c =
    let domain = c.args.scene.now.task.now.domain in
    let known = g.L.Look.known c.args.scene.now.look.now in
    let state = c.args.scene.now.state.now in
    let objects = objects_of known.facts c.in-Some.sort.now in
    let test = λ (o : ℕ).
    some_at domain known state c.args.depth
    (c.args.first + 1) c.in-Some.rest.now c.args.body.now (slice_set c.args.env.now c.args.first o) in
    let here : test c.object.result ≡ false =
    ap (some_at domain known state c.args.depth (c.args.first + 1) c.in-Some.rest.now c.args.body.now)
    (sym (c.loop-place.invariant.1 c.object.result) ∙ sym c.set.ensures)
    ∙ sym c.some_tuple.ensures.value ∙ c.if-some_tuple.false in
    let left : list_any test (drop c.loop-place.place objects) ≡ list_any test (drop (suc c.loop-place.place) objects) =
    list_any-drop test objects c.loop-place.place c.object.result c.object.ensures
    ∙ ap (λ b. b || list_any test (drop (suc c.loop-place.place) objects)) here in (
      ap (λ n. list_any test (drop n objects)) (add-one c.loop-place.place) ∙ sym left ∙ c.loop-place.invariant.0,
      λ o. ap (λ s. slice_set s c.args.first o) (c.some_tuple.ensures.same ∙ c.set.ensures)
          ∙ set_twice c.loop-place.env c.args.first c.object.result o ∙ c.loop-place.invariant.1 o,
    )
