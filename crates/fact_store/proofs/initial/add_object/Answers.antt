use Rattle.std.proofs.Common.{ap, sym, subst, ◌∙◌, ◌<◌, ◌≤◌, ◌≡◌, [], get_or, length, drop, drop_of_length-le, ℕ}
use Rattle.std.proofs.lemmas.Result.{on_ok_weaker}
use Rattle.std.specs.List.{flat_map}
use Rattle.fact_store.proofs.InitialLemmas.{block_more, block_end}
use Rattle.fact_store.proofs.initial.add_object.Goals as goal
use Rattle.task_model.specs.Initial.{type_facts}
use Rattle.task_model.specs.Known.{with_facts}
use Rattle.fact_store.proofs.InitialLemmas.{types_known}
use Rattle.fact_store.proofs.initial.add_object.Goals.{After-is_typed}

pub loop-sort-preserved : goal.loop-sort-preserved
loop-sort-preserved c =
    let same = c.as_slice-sort-items.ensures in
    record {
      facts = block_more (λ sort. type_facts c.args.domain.now sort c.args.object) c.args.declared.now.sorts c.loop-sort.sort-index 0
          c.loop-sort.facts.known.facts c.add_each_type.new.facts.known.facts
          (subst (λ xs. c.loop-sort.sort-index < length xs) same c.loop-sort-test.true)
          (c.in_ok-add_each_type.ensures.facts
          ∙ ap (λ xs. with_facts c.loop-sort.facts.known.facts
          (type_facts c.args.domain.now (get_or xs c.loop-sort.sort-index 0) c.args.object)) same)
          ∙ c.loop-sort.invariant.facts;
      names = c.in_ok-add_each_type.ensures.names ∙ c.loop-sort.invariant.names;
      values = c.in_ok-add_each_type.ensures.values ∙ c.loop-sort.invariant.values;
    }

-- after the loop all types that were given are there
given : (c : After-is_typed)
    → c.loop-sort.facts.known.facts
    ≡ with_facts c.args.facts.now.known.facts
    (flat_map (λ sort. type_facts c.args.domain.now sort c.args.object) c.args.declared.now.sorts)
given c =
    let past : length c.args.declared.now.sorts ≤ c.loop-sort.sort-index =
    subst (λ xs. length xs ≤ c.loop-sort.sort-index) c.as_slice-sort-items.ensures c.loop-sort-test.false in
    let none : drop c.loop-sort.sort-index c.args.declared.now.sorts ≡ [] = drop_of_length-le c.args.declared.now.sorts past in
    ap (λ xs. with_facts c.loop-sort.facts.known.facts (flat_map (λ sort. type_facts c.args.domain.now sort c.args.object) xs)) (sym none)
    ∙ c.loop-sort.invariant.facts

pub returns-then-is_typed-clause-facts : goal.returns-then-is_typed-clause-facts
returns-then-is_typed-clause-facts c =
    let types = λ (sort : ℕ). type_facts c.args.domain.now sort c.args.object in
    let some : 0 < length c.args.declared.now.sorts =
    subst (λ xs. 0 < length xs) c.as_slice.ensures (c.is_typed.ensures.typed c.if-is_typed.true) in
    given (goal.at.returns-then-is_typed-clause-facts c).After-is_typed
    ∙ sym (types_known c.args.domain.now c.args.facts.now.known.facts c.args.object c.args.declared.now.sorts some
    (c.is_typed.ensures.top c.if-is_typed.true))
    ∙ block_end types c.args.declared.now.sorts 0 c.args.facts.now.known.facts

pub returns-clause-facts : goal.returns-clause-facts
returns-clause-facts c =
    let all = given (goal.at.returns-clause-facts c).After-is_typed in
    on_ok_weaker c.add_each_type-2.result (λ e.
    e ∙ ap (λ fs. with_facts fs (type_facts c.args.domain.now 0 c.args.object)) all
    ∙ block_end (λ sort. type_facts c.args.domain.now sort c.args.object) c.args.declared.now.sorts 0 c.args.facts.now.known.facts)
    c.add_each_type-2.ensures.facts
