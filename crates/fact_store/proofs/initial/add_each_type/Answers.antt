use Rattle.std.proofs.Common.{ap, ◌∙◌, map, [], ◌∷◌, ◌++◌, ℕ, List, sym, ◌≡◌, ◌==◌, true, slice_get, option_map, unwrap_or}
use Rattle.std.proofs.lemmas.Result.{on_ok_weaker, on_err_weaker}
use Rattle.fact_store.proofs.GrowthLemmas.{between_same, between_then, facts_front, facts_grow, facts_left, front_itself}
use Rattle.fact_store.proofs.InitialLemmas.{supertypes_then}
use Rattle.fact_store.proofs.initial.add_each_type.Goals as goal
use Rattle.task_model.specs.Known.{type_fact, with_fact, with_facts}
use Rattle.fact_store.specs.Growth.{IsBetween}
use Rattle.lemmas.proofs.Results.{on_err}
use Rattle.std.specs.List.{list_any}
use Rattle.task_model.specs.Initial.{type_facts}
use Rattle.task_model.specs.declared.fact.Fact.{Fact}
use Rattle.fact_store.proofs.InitialLemmas.{object_known}

facts_are : (old mid : List Fact) (object sort : ℕ) (above given : List ℕ) (new : List Fact)
    → new ≡ with_facts mid (map (λ s. type_fact s object) given)
    → mid ≡ with_fact old (type_fact sort object) → given ≡ above
    → new ≡ with_facts (with_fact old (type_fact sort object)) (map (λ s. type_fact s object) above)
facts_are old mid object sort above given new more one same =
    more ∙ (λ i. with_facts (one i) (map (λ s. type_fact s object) (same i)))

-- where the supertypes hold `object`
pub returns-then-has_object-clause-facts : goal.returns-then-has_object-clause-facts
returns-then-has_object-clause-facts c =
    let above = unwrap_or (option_map (λ s. s.above) (slice_get c.args.domain.now.sorts c.args.sort)) [] in
    let any : list_any (λ s. s == 0) (c.args.sort ∷ above) ≡ true =
    ap (λ xs. list_any (λ s. s == 0) (c.args.sort ∷ xs)) (sym c.supertypes-above.ensures) ∙ sym c.has_object.ensures
    ∙ c.if-has_object.true in
    facts_are c.args.facts.now.known.facts c.add_type.new.facts.known.facts c.args.object c.args.sort above c.supertypes-above.result.now
    c.add_types.new.facts.known.facts c.in_ok-add_types.ensures.facts c.in_ok-add_type.ensures.facts c.supertypes-above.ensures
    ∙ sym (object_known c.args.facts.now.known.facts c.args.object c.args.sort above any)
    ∙ supertypes_then c.args.facts.now.known.facts c.args.object c.args.sort above

pub returns-clause-facts : goal.returns-clause-facts
returns-clause-facts c =
    let above = unwrap_or (option_map (λ s. s.above) (slice_get c.args.domain.now.sorts c.args.sort)) [] in
    let so_far =
    facts_are c.args.facts.now.known.facts c.add_type.new.facts.known.facts c.args.object c.args.sort above
    c.supertypes-above.result.now c.add_types.new.facts.known.facts c.in_ok-add_types.ensures.facts c.in_ok-add_type.ensures.facts
    c.supertypes-above.ensures in
    on_ok_weaker c.add_type-2.result (λ e.
    e ∙ ap (λ fs. with_fact fs (type_fact 0 c.args.object)) so_far
    ∙ supertypes_then c.args.facts.now.known.facts c.args.object c.args.sort above) c.add_type-2.ensures.facts

-- ---- where memory is wanting

module _ (old : List Fact) (object sort : ℕ) (above : List ℕ) where
  abbrev all : List Fact
  all = with_facts old (map (λ s. type_fact s object) (sort ∷ above ++ 0 ∷ []))

  -- the type is known, and some above it are
  some_above : (one now : List Fact) (given : List ℕ) → one ≡ with_fact old (type_fact sort object) → given ≡ above
      → IsBetween one now (with_facts one (map (λ s. type_fact s object) given))
      → IsBetween old now all
  some_above one now given first same h =
      between_then old one now (with_facts one (map (λ s. type_fact s object) given)) all
      (facts_grow old one (type_fact sort object ∷ []) first) h
      (facts_left (with_facts one (map (λ s. type_fact s object) given)) (type_fact 0 object ∷ []) all
      ((λ i. with_fact (with_facts (first i) (map (λ s. type_fact s object) (same i))) (type_fact 0 object))
      ∙ supertypes_then old object sort above))

  -- the type is known, and all above it are
  all_above : (two now : List Fact)
      → two ≡ with_facts (with_fact old (type_fact sort object)) (map (λ s. type_fact s object) above) → now ≡ two
      → IsBetween old now all
  all_above two now is same =
      between_same old two now all same (
        facts_grow old two (type_fact sort object ∷ map (λ s. type_fact s object) above) is,
        facts_left two (type_fact 0 object ∷ []) all
            (ap (λ fs. with_fact fs (type_fact 0 object)) is ∙ supertypes_then old object sort above),
      )

pub returns-in_err-add_type-clause-part : goal.returns-in_err-add_type-clause-part
returns-in_err-add_type-clause-part c =
    let old = c.args.facts.now.known.facts in
    let all = type_facts c.args.domain.now c.args.sort c.args.object in
    on_err c.from_residual.result _
    (between_same old old c.add_type.new.facts.known.facts (with_facts old all) c.in_err-add_type.ensures.err
    (front_itself old, facts_front old all))

pub returns-in_err-add_types-clause-part : goal.returns-in_err-add_types-clause-part
returns-in_err-add_types-clause-part c =
    let above = unwrap_or (option_map (λ s. s.above) (slice_get c.args.domain.now.sorts c.args.sort)) [] in
    on_err c.from_residual-in_err-add_types.result _
    (some_above c.args.facts.now.known.facts c.args.object c.args.sort above c.add_type.new.facts.known.facts
    c.add_types.new.facts.known.facts c.supertypes-above.result.now c.in_ok-add_type.ensures.facts c.supertypes-above.ensures
    c.in_err-add_types.ensures.part)

pub returns-clause-part : goal.returns-clause-part
returns-clause-part c =
    let old = c.args.facts.now.known.facts in
    let above = unwrap_or (option_map (λ s. s.above) (slice_get c.args.domain.now.sorts c.args.sort)) [] in
    let so_far =
    facts_are old c.add_type.new.facts.known.facts c.args.object c.args.sort above c.supertypes-above.result.now
    c.add_types.new.facts.known.facts c.in_ok-add_types.ensures.facts c.in_ok-add_type.ensures.facts c.supertypes-above.ensures in
    on_err_weaker c.add_type-2.result (λ same.
    all_above old c.args.object c.args.sort above c.add_types.new.facts.known.facts c.add_type-2.new.facts.known.facts so_far same)
    c.add_type-2.ensures.err
