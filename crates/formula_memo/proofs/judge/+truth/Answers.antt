use Rattle.std.proofs.Common.{rules, tests, ◌≡◌, ◌+◌, length, true, false, ℕ, suc, List, IfOk, slice_set, sym, ap, ◌∙◌, subst, arith, get_or, eq-eqb}
use Rattle.task_model.proofs.TruthLemmas.{have_types-length}
use Rattle.task_model.specs.Condition.{Atom, All as every, Any, Not, Exists, parts_of}
use Rattle.task_model.specs.Known.{objects_of}
use Rattle.task_model.specs.Roles.{role_of}
use Rattle.task_model.specs.Truth.{is_true}
use Rattle.task_model.specs.View.{view_of}
use Rattle.task_model.specs.declared.domain.Role.TheVariants as role
use Rattle.formula_eval.specs.Judged.{some_at, derived_at}
use Rattle.formula_eval.proofs.ConditionPartLemmas.{readable_part, set_back, set_twice}
use Rattle.formula_eval.proofs.ReadableLemmas.{roles_length, role_kept, static_at, fluent_at, fit_item, item_params, item_readable}
use Rattle.formula_eval.proofs.WeightLemmas.{part_lighter, body_lighter, items_weight}
use Rattle.formula_memo.proofs.DepthLemmas.{not_derived, body_rests, part_rests, atom_rests, all_rest, any_rest, not_rests, exists_rests, derived_truth, deeper_heavier}
use Rattle.formula_memo.proofs.TriesLemmas.{below_same, none_passes, one_tried, passed_there, placed_lead}
use Rattle.formula_memo.specs.Remembered.{truth_of}
use Rattle.formula_memo.specs.Rests.{AllRest, PartsRest, RestsWithin}
use Rattle.formula_memo.specs.Tries.{is_passed}
use Rattle.formula_memo.proofs.judge.+truth.Goals as goal

pub truth-atom-requires : goal.truth-atom-requires
truth-atom-requires g t c κs within =
    let domain = c.args.scene.now.task.now.domain in
    let is : c.args.formula.now ≡ Atom c.in-Atom.pred c.in-Atom.args = sym c.formula.view_is ∙ ap view_of c.in-Atom.is in
    let rests : RestsWithin domain c.args.depth c.in-Atom.pred =
    atom_rests domain c.args.depth c.in-Atom.pred c.in-Atom.args (subst (AllRest domain c.args.depth) is c.requires.rests) in
    search rules

pub truth-all_true-requires : goal.truth-all_true-requires
truth-all_true-requires g t c κs within =
    let domain = c.args.scene.now.task.now.domain in
    let is : c.args.formula.now ≡ every (parts_of c.in-All.parts.items) = sym c.formula.view_is ∙ ap view_of c.in-All.is in
    let rests : PartsRest domain c.args.depth (parts_of c.in-All.parts.items) =
    all_rest domain c.args.depth (parts_of c.in-All.parts.items) (subst (AllRest domain c.args.depth) is c.requires.rests) in
    search rules

pub truth-any_true-requires : goal.truth-any_true-requires
truth-any_true-requires g t c κs within =
    let domain = c.args.scene.now.task.now.domain in
    let is : c.args.formula.now ≡ Any (parts_of c.in-Any.parts.items) = sym c.formula.view_is ∙ ap view_of c.in-Any.is in
    let rests : PartsRest domain c.args.depth (parts_of c.in-Any.parts.items) =
    any_rest domain c.args.depth (parts_of c.in-Any.parts.items) (subst (AllRest domain c.args.depth) is c.requires.rests) in
    search rules

pub truth-truth-requires : goal.truth-truth-requires
truth-truth-requires g t c κs within =
    let domain = c.args.scene.now.task.now.domain in
    let is : c.args.formula.now ≡ Not c.in-Not.part.value = sym c.formula.view_is ∙ ap view_of c.in-Not.is in
    let rests : AllRest domain c.args.depth c.in-Not.part.value =
    not_rests domain c.args.depth c.in-Not.part.value (subst (AllRest domain c.args.depth) is c.requires.rests) in
    search rules

pub truth-some_tuple-requires : goal.truth-some_tuple-requires
truth-some_tuple-requires g t c κs within =
    let domain = c.args.scene.now.task.now.domain in
    let is : c.args.formula.now ≡ Exists c.in-Exists.first c.in-Exists.sorts c.in-Exists.body.value =
    sym c.formula.view_is ∙ ap view_of c.in-Exists.is in
    let rests : AllRest domain c.args.depth c.in-Exists.body.value =
    exists_rests domain c.args.depth c.in-Exists.first c.in-Exists.sorts c.in-Exists.body.value
    (subst (AllRest domain c.args.depth) is c.requires.rests) in
    search rules

pub truth-returns-in-Exists-clause-value : goal.truth-returns-in-Exists-clause-value
truth-returns-in-Exists-clause-value g t c =
    let domain = c.args.scene.now.task.now.domain in
    let known = g.L.Look.known c.args.scene.now.look.now in
    let state = c.args.scene.now.state.now in
    let is : c.args.formula.now ≡ Exists c.in-Exists.first c.in-Exists.sorts c.in-Exists.body.value =
    sym c.formula.view_is ∙ ap view_of c.in-Exists.is in
    subst (λ f. IfOk c.some_tuple.result (λ value. value ≡ is_true domain known state f c.args.env.now)) (sym is)
    (rw c.deref-in-Exists.ensures at (rw c.as_slice-in-Exists.ensures at c.some_tuple.ensures.value))

pub all_true-truth-requires : goal.all_true-truth-requires
all_true-truth-requires g t c κs within =
    let domain = c.args.scene.now.task.now.domain in
    let lighter = part_lighter c.args.parts.now c.loop-part.part-index c.part-item.result c.loop-part-test.true c.part-item.is in
    let readable =
    readable_part domain c.args.parts.now c.loop-part.part-index c.part-item.result c.requires.readable
    c.loop-part-test.true c.part-item.is in
    let rests =
    part_rests domain c.args.depth c.args.parts.now c.loop-part.part-index c.part-item.result c.requires.rests
    c.loop-part-test.true c.part-item.is in
    let stands = c.loop-part.invariant.2 in
    search rules

pub any_true-truth-requires : goal.any_true-truth-requires
any_true-truth-requires g t c κs within =
    let domain = c.args.scene.now.task.now.domain in
    let lighter = part_lighter c.args.parts.now c.loop-part.part-index c.part-item.result c.loop-part-test.true c.part-item.is in
    let readable =
    readable_part domain c.args.parts.now c.loop-part.part-index c.part-item.result c.requires.readable
    c.loop-part-test.true c.part-item.is in
    let rests =
    part_rests domain c.args.depth c.args.parts.now c.loop-part.part-index c.part-item.result c.requires.rests
    c.loop-part-test.true c.part-item.is in
    let stands = c.loop-part.invariant.2 in
    search rules

pub atom-bounds : goal.atom-bounds
atom-bounds g t c =
    let long : length c.as_slice.result.now ≡ length c.args.scene.now.task.now.domain.predicates =
    ap length c.as_slice.ensures ∙ roles_length c.args.scene.now.task.now.domain c.args.scene.now.fit.domain in
    omega (arith, c.requires.predicate)

pub atom-returns-in-Static-clause-value : goal.atom-returns-in-Static-clause-value
atom-returns-in-Static-clause-value g t c =
    let domain = c.args.scene.now.task.now.domain in
    let is : role_of domain c.args.pred ≡ role.Static =
    sym (role_kept domain c.args.scene.now.fit.domain c.args.pred role.Static c.requires.predicate)
    ∙ sym (ap (λ rs. get_or rs c.args.pred role.Static) c.as_slice.ensures) ∙ c.in-Static.is in
    c.has.ensures
    ∙ sym
    (static_at domain (g.L.Look.known c.args.scene.now.look.now) c.args.scene.now.state.now c.args.pred c.args.args
    (length domain.derived) is)

pub atom-returns-in-Fluent-clause-value : goal.atom-returns-in-Fluent-clause-value
atom-returns-in-Fluent-clause-value g t c =
    let domain = c.args.scene.now.task.now.domain in
    let is : role_of domain c.args.pred ≡ role.Fluent =
    sym (role_kept domain c.args.scene.now.fit.domain c.args.pred role.Static c.requires.predicate)
    ∙ sym (ap (λ rs. get_or rs c.args.pred role.Static) c.as_slice.ensures) ∙ c.in-Fluent.is in
    c.has-in-Fluent.ensures
    ∙ sym
    (fluent_at domain (g.L.Look.known c.args.scene.now.look.now) c.args.scene.now.state.now c.args.pred c.args.args
    (length domain.derived) is)

pub atom-derived_atom-requires : goal.atom-derived_atom-requires
atom-derived_atom-requires g t c κs within =
    let domain = c.args.scene.now.task.now.domain in
    let is : role_of domain c.args.pred ≡ role.Derived =
    sym (role_kept domain c.args.scene.now.fit.domain c.args.pred role.Static c.requires.predicate)
    ∙ sym (ap (λ rs. get_or rs c.args.pred role.Static) c.as_slice.ensures) ∙ c.in-Derived.is in
    search rules

pub derived_atom-derived-requires : goal.derived_atom-derived-requires
derived_atom-derived-requires g t c κs within =
    let domain = c.args.scene.now.task.now.domain in
    let above : c.args.depth ≡ suc c.in-Some-checked_sub.below =
    omega (arith, c.in-Some-checked_sub.ensures.0, c.in-Some-checked_sub.ensures.1) in
    let heavier = deeper_heavier c.args.depth c.in-Some-checked_sub.below (items_weight domain.derived) above in
    let rests : RestsWithin domain (suc c.in-Some-checked_sub.below) c.args.atom.pred =
    subst (λ d. RestsWithin domain d c.args.atom.pred) above c.requires.rests in
    search rules

pub follows_by-new-env-requires : goal.follows_by-new-env-requires
follows_by-new-env-requires g t c =
    let domain = c.args.scene.now.task.now.domain in
    let there = c.requires.there in
    let params = item_params domain c.args.item.now (fit_item domain c.args.scene.now.fit.domain there.0 c.args.item.now there.1 (sym there.2)) in
    let typed : c.have_types.result ≡ true = search (rules, tests) in
    let long = have_types-length (g.L.Look.known c.args.scene.now.look.now) c.args.args.now c.as_slice.result.now
    (sym c.have_types.ensures ∙ typed) in
    let same : length c.as_slice.result.now ≡ length c.args.item.now.params = ap length c.as_slice.ensures in
    omega arith

pub follows_by-truth-requires : goal.follows_by-truth-requires
follows_by-truth-requires g t c κs within =
    let domain = c.args.scene.now.task.now.domain in
    let there = c.requires.there in
    let item = c.args.item.now in
    let lighter = body_lighter domain.derived there.0 item there.1 (sym there.2) in
    let readable =
    item_readable domain c.args.scene.now.fit.domain item
    (fit_item domain c.args.scene.now.fit.domain there.0 item there.1 (sym there.2)) in
    let same : item.pred ≡ c.args.pred = search (rules, tests) in
    let rests = body_rests domain c.args.depth c.args.pred item c.requires.rests there (eq-eqb item.pred c.args.pred same) in
    search rules

pub some_tuple-some_object-found-requires : goal.some_tuple-some_object-found-requires
some_tuple-some_object-found-requires g t c κs within =
    let long = ap length c.in-Some.ensures.cases.0 in
    search rules

pub some_tuple-returns-clause-value : goal.some_tuple-returns-clause-value
some_tuple-returns-clause-value g t c =
    let scene = c.args.scene.now in
    let domain = scene.task.now.domain in
    subst (λ ss. IfOk c.some_object-found.result (λ value. value
    ≡ some_at domain (g.L.Look.known scene.look.now) scene.state.now
    (length domain.derived) c.args.left.now.first ss c.args.left.now.body.now c.args.env.now))
    (sym c.in-Some.ensures.cases.0) c.some_object-found.ensures.value

pub some_tuple-returns-clause-same : goal.some_tuple-returns-clause-same
some_tuple-returns-clause-same g t c =
    c.set.ensures ∙ c.some_object-found.ensures.same c.get-kept.result
    ∙ ap (slice_set c.args.env.now c.args.left.now.first) c.get-kept.ensures.object ∙ set_back c.args.env.now c.args.left.now.first

pub some_object-passes-requires : goal.some_object-passes-requires
some_object-passes-requires g t c κs within =
    let stands = c.loop-place.invariant.2 in
    search rules

pub some_object-tried_object-tried-requires-clause-placed : goal.some_object-tried_object-tried-requires-clause-placed
some_object-tried_object-tried-requires-clause-placed g t c =
    placed_lead c.args.scene.now.task.now.domain c.args.left.now.body.now c.args.left.now.first c.args.env.now c.lead_for-lead.result c.lead_for-lead.ensures

pub some_object-returns-then-found-clause-value : goal.some_object-returns-then-found-clause-value
some_object-returns-then-found-clause-value g t c =
    let domain = c.args.scene.now.task.now.domain in
    let known = g.L.Look.known c.args.scene.now.look.now in
    let state = c.args.scene.now.state.now in
    let objects = objects_of known.facts c.args.sort in
    let depth = length domain.derived in
    let passes = λ (slots : List ℕ). some_at domain known state depth (c.args.left.now.first + 1) c.args.left.now.sorts.now c.args.left.now.body.now slots in
    let test = λ (o : ℕ). passes (slice_set c.args.env.now c.args.left.now.first o) in
    let passed : is_passed test c.tried_object-tried.result ≡ true =
    ap (λ f. is_passed f c.tried_object-tried.result)
    (λ i o. passes (sym (c.loop-place.invariant.1 o) i))
    ∙ sym c.in_ok-found.ensures.value ∙ c.if-found.true in
    sym (passed_there test objects c.tried_object-tried.result c.tried_object-tried.ensures.typed passed)

pub some_object-returns-then-found-clause-same : goal.some_object-returns-then-found-clause-same
some_object-returns-then-found-clause-same g t c o =
    c.in_ok-found.ensures.same o ∙ c.loop-place.invariant.1 o

pub some_object-returns-in_err-found-clause-same : goal.some_object-returns-in_err-found-clause-same
some_object-returns-in_err-found-clause-same g t c o =
    c.in_err-found.ensures.same o ∙ c.loop-place.invariant.1 o

pub some_object-loop-place-preserved : goal.some_object-loop-place-preserved
some_object-loop-place-preserved g t c =
    let domain = c.args.scene.now.task.now.domain in
    let known = g.L.Look.known c.args.scene.now.look.now in
    let state = c.args.scene.now.state.now in
    let depth = length domain.derived in
    let slots = c.args.env.now in
    let passes = λ (slots : List ℕ). some_at domain known state depth (c.args.left.now.first + 1) c.args.left.now.sorts.now c.args.left.now.body.now slots in
    let test = λ (o : ℕ). passes (slice_set slots c.args.left.now.first o) in
    let untrue : is_passed test c.tried_object-tried.result ≡ false =
    ap (λ f. is_passed f c.tried_object-tried.result) (λ i o. passes (sym (c.loop-place.invariant.1 o) i))
    ∙ sym c.in_ok-found.ensures.value ∙ c.if-found.false in (
      one_tried domain known state depth c.args.sort c.args.left.now.first c.args.left.now.sorts.now c.args.left.now.body.now slots c.lead_for-lead.result
          c.loop-place.place c.loop-place.env c.tried_object-tried.result
          (below_same c.loop-place.env slots c.args.left.now.first (c.loop-place.invariant.1 0))
          c.tried_object-tried.ensures.comes
          untrue c.loop-place.invariant.0,
      λ o. c.in_ok-found.ensures.same o ∙ c.loop-place.invariant.1 o,
      c.in_ok-found.ensures.stands,
    )

pub some_object-returns-clause-value : goal.some_object-returns-clause-value
some_object-returns-clause-value g t c =
    let domain = c.args.scene.now.task.now.domain in
    let known = g.L.Look.known c.args.scene.now.look.now in
    let state = c.args.scene.now.state.now in
    let depth = length domain.derived in
    let objects = objects_of known.facts c.args.sort in
    let passes = λ (slots : List ℕ). some_at domain known state depth (c.args.left.now.first + 1) c.args.left.now.sorts.now c.args.left.now.body.now slots in
    let none = none_passes domain known state depth c.args.sort c.args.left.now.first c.args.left.now.sorts.now c.args.left.now.body.now
    c.args.env.now c.lead_for-lead.result c.loop-place.place c.lead_for-lead.ensures
    c.requires.inside (omega arith) c.loop-place.invariant.0 in
    sym none

pub some_object-returns-clause-same : goal.some_object-returns-clause-same
some_object-returns-clause-same g t c o = c.loop-place.invariant.1 o

pub passes-returns-clause-value : goal.passes-returns-clause-value
passes-returns-clause-value g t c = search rules

pub passes-returns-clause-same : goal.passes-returns-clause-same
passes-returns-clause-same g t c o =
    ap (λ s. slice_set s c.args.left.now.first o) (c.some_tuple.ensures.same ∙ c.set.ensures)
    ∙ set_twice c.args.env.now c.args.left.now.first c.in-Some.object o

pub derived_atom-unreachable-requires : goal.derived_atom-unreachable-requires
derived_atom-unreachable-requires g t c =
    let domain = c.args.scene.now.task.now.domain in
    let none : c.args.depth ≡ 0 = omega arith in
    not_derived domain c.args.atom.pred (subst (λ d. RestsWithin domain d c.args.atom.pred) none c.requires.rests) c.requires.role

pub derived_atom-returns-in_err-note-clause-stands : goal.derived_atom-returns-in_err-note-clause-stands
derived_atom-returns-in_err-note-clause-stands g t c =
    let domain = c.args.scene.now.task.now.domain in let known = g.L.Look.known c.args.scene.now.look.now in
    let state = c.args.scene.now.state.now in let atom = c.args.atom in
    let right : c.in_ok-value.value ≡ truth_of domain known state atom =
    c.in_ok-value.ensures.value ∙ ap (derived_at domain known state (length domain.derived) atom.pred) c.as_slice.ensures
    ∙ derived_truth domain c.args.scene.now.fit.domain known state atom.pred atom.args c.requires.role in
    c.note.ensures domain known state c.in_ok-value.ensures.stands right

pub derived_atom-returns-clause-stands : goal.derived_atom-returns-clause-stands
derived_atom-returns-clause-stands g t c =
    let domain = c.args.scene.now.task.now.domain in let known = g.L.Look.known c.args.scene.now.look.now in
    let state = c.args.scene.now.state.now in let atom = c.args.atom in
    let right : c.in_ok-value.value ≡ truth_of domain known state atom =
    c.in_ok-value.ensures.value ∙ ap (derived_at domain known state (length domain.derived) atom.pred) c.as_slice.ensures
    ∙ derived_truth domain c.args.scene.now.fit.domain known state atom.pred atom.args c.requires.role in
    c.note.ensures domain known state c.in_ok-value.ensures.stands right

pub derived_atom-returns-clause-value : goal.derived_atom-returns-clause-value
derived_atom-returns-clause-value g t c =
    let domain = c.args.scene.now.task.now.domain in let known = g.L.Look.known c.args.scene.now.look.now in
    let state = c.args.scene.now.state.now in let atom = c.args.atom in
    c.in_ok-value.ensures.value ∙ ap (derived_at domain known state (length domain.derived) atom.pred) c.as_slice.ensures
    ∙ derived_truth domain c.args.scene.now.fit.domain known state atom.pred atom.args c.requires.role
