use Rattle.std.proofs.Common.{◌≡◌, ◌≢◌, suc, ◌+◌, ◌<◌, ◌≤◌, length, get_or, sym, ap, ◌∙◌, ◌++◌, ◌∷◌, [], subst, arith, add-one, inl, inr}
use Rattle.task_model.specs.Roles.{role_of}
use Rattle.task_model.specs.State.{from_list}
use Rattle.task_model.specs.declared.domain.Role.TheVariants as role
use Rattle.formula_eval.proofs.ReadableLemmas.{roles_length, role_kept}
use Rattle.plan_check.proofs.InitialLemmas.{fluents_of, fluents_more, fluents_same, fluents_whole, fit_fact, fact_kind, fact_place, static_not_fluent, derived_not_fluent}
use Rattle.plan_check.proofs.start.initial.Goals as goal
use Rattle.plan_check.proofs.start.initial.Goals.{in-Fluent+in_ok-atom_of-in-Fluent+in_ok-push-in-Fluent, in-Static}

pub bounds : goal.bounds
bounds c =
    let task = c.args.task.now in
    let items = c.as_slice-fact-items.ensures in
    let index = c.loop-fact.fact-index in
    let inside : index < length task.problem.init = subst (λ xs. index < length xs) items c.loop-fact-test.true in
    let fit = fit_fact task c.requires index c.fact-item.result inside
    (c.fact-item.is ∙ ap (λ xs. get_or xs index c.fact-item.result) items) in
    let place = fact_place task.domain (length task.problem.objects) c.fact-item.result fit in
    let long : length c.as_slice-roles.result.now ≡ length task.domain.predicates =
    ap length c.as_slice-roles.ensures ∙ roles_length task.domain c.requires.domain in
    omega arith

pub returns : goal.returns
returns c =
    let past : length c.args.task.now.problem.init ≤ c.loop-fact.fact-index =
    subst (λ xs. length xs ≤ c.loop-fact.fact-index) c.as_slice-fact-items.ensures c.loop-fact-test.false in
    c.from_atoms.ensures
    ∙ ap from_list
    (c.loop-fact.invariant.0 ∙ fluents_whole c.args.task.now.domain c.args.task.now.problem.init c.loop-fact.fact-index past)

pub loop-fact-preserved : goal.loop-fact-preserved
loop-fact-preserved c =
    let task = c.args.task.now in
    let items = c.as_slice-fact-items.ensures in
    let index = c.loop-fact.fact-index in
    let inside : index < length task.problem.init = subst (λ xs. index < length xs) items c.loop-fact-test.true in
    let is = c.fact-item.is ∙ ap (λ xs. get_or xs index c.fact-item.result) items in
    let fit = fit_fact task c.requires index c.fact-item.result inside is in
    let kind = fact_kind task.domain (length task.problem.objects) c.fact-item.result fit in
    let place = fact_place task.domain (length task.problem.objects) c.fact-item.result fit in
    let next : fluents_of task.domain task.problem.init (index + 1) ≡ fluents_of task.domain task.problem.init (suc index) =
    ap (fluents_of task.domain task.problem.init) (add-one index) in
    let role_is = λ (r : role.the_data) (e : get_or c.as_slice-roles.result.now c.fact-item.result.name role.Static ≡ r).
    sym (role_kept task.domain c.requires.domain c.fact-item.result.name role.Static place)
    ∙ sym (ap (λ rs. get_or rs c.fact-item.result.name role.Static) c.as_slice-roles.ensures) ∙ e in (
      elim c.match-roles-fact.branch [
        | in-Fluent+in_ok-atom_of-in-Fluent+in_ok-push-in-Fluent w ↦
            ap (λ v. v.items) w.atoms-is ∙ w.in_ok-push-in-Fluent.ensures.items
            ∙ (λ i. c.loop-fact.invariant.0 i ++ w.in_ok-atom_of-in-Fluent.ensures i ∷ [])
            ∙ sym (fluents_more task.domain task.problem.init index c.fact-item.result inside is kind (role_is role.Fluent w.in-Fluent.is))
            ∙ sym next
        | in-Static w ↦
            let other : role_of task.domain c.fact-item.result.name ≢ role.Fluent =
            λ f. elim w.in-Static.is [
              | inl e ↦ static_not_fluent (sym (role_is role.Static e) ∙ f)
              | inr e ↦ derived_not_fluent (sym (role_is role.Derived e) ∙ f)
            ] in
            ap (λ v. v.items) w.atoms-is ∙ c.loop-fact.invariant.0
            ∙ sym (fluents_same task.domain task.problem.init index c.fact-item.result inside is kind other) ∙ sym next
      ],
      c.loop-fact.invariant.1,
    )
