use Rattle.std.proofs.Common.{◌≡◌, ◌≤◌, ap, sym, subst, ◌∙◌, All, [], ◌∷◌, drop, length, map, true}
use Rattle.std.specs.List.{list_all}
use Rattle.formula_eval.specs.Readable.{is_readable_term}
use Rattle.learning.proofs.OutputsLemmas.{atoms_more}
use Rattle.fact_store.proofs.GrowthLemmas.{between_same, facts_grow, facts_left, front_then}
use Rattle.lemmas.proofs.Results.{on_err}
use Rattle.task_model.specs.Streams.{fact_of}
use Rattle.learning.proofs.tuple.learn_atoms.Goals as goal
use Rattle.task_model.specs.Known.{IsIn, with_fact, with_facts, atom_fact}
use Rattle.task_model.specs.Truth.{slots_of, objects_at}

pub objects_at-row-requires-clause-short : goal.objects_at-row-requires-clause-short
objects_at-row-requires-clause-short c =
    subst (λ ts. length ts ≤ 8) (sym c.as_slice.ensures)
    (subst (λ p. length p.args ≤ 8) (sym c.pattern-item.is)
    (c.requires.plain.short c.loop-pattern.pattern-index c.pattern-item.result c.loop-pattern-test.true))

pub objects_at-row-requires-clause-readable : goal.objects_at-row-requires-clause-readable
objects_at-row-requires-clause-readable c =
    subst (λ ts. list_all is_readable_term ts ≡ true) (sym c.as_slice.ensures)
    (subst (λ p. list_all is_readable_term p.args ≡ true) (sym c.pattern-item.is)
    (c.requires.plain.readable c.loop-pattern.pattern-index c.pattern-item.result c.loop-pattern-test.true))

pub add-requires : goal.add-requires
add-requires c =
    let row : c.objects_at-row.result ≡ objects_at (slots_of c.args.args.now) c.pattern-item.result.args =
    c.objects_at-row.ensures ∙ (λ i. objects_at (c.new-env.ensures i) (c.as_slice.ensures i)) in
    let named = c.requires.plain.named c.loop-pattern.pattern-index c.pattern-item.result c.loop-pattern-test.true in
    let here : All (IsIn c.args.facts.now.known.names) (objects_at (slots_of c.args.args.now) c.pattern-item.result.args) =
    subst (λ p. All (IsIn c.args.facts.now.known.names) (objects_at (slots_of c.args.args.now) p.args)) (sym c.pattern-item.is) named in
    let there : All (IsIn c.args.facts.now.known.names) c.objects_at-row.result =
    subst (All (IsIn c.args.facts.now.known.names)) (sym row) here in
    subst (λ ns. All (IsIn ns) c.objects_at-row.result) (sym c.loop-pattern.invariant.names) there

pub loop-pattern-preserved : goal.loop-pattern-preserved
loop-pattern-preserved c =
    let row : c.objects_at-row.result ≡ objects_at (slots_of c.args.args.now) c.pattern-item.result.args =
    c.objects_at-row.ensures ∙ (λ i. objects_at (c.new-env.ensures i) (c.as_slice.ensures i)) in
    record {
      facts = atoms_more _ c.args.patterns.now c.loop-pattern.pattern-index c.pattern-item.result c.loop-pattern.facts.known.facts
          c.add.new.self.known.facts c.loop-pattern-test.true c.pattern-item.is
          (c.in_ok-add.ensures.facts ∙ ap (λ r. with_fact c.loop-pattern.facts.known.facts (atom_fact c.pattern-item.result.pred r)) row)
          ∙ c.loop-pattern.invariant.facts;
      grown = front_then c.args.facts.now.known.facts c.loop-pattern.facts.known.facts c.add.new.self.known.facts
          c.loop-pattern.invariant.grown
          (facts_grow c.loop-pattern.facts.known.facts c.add.new.self.known.facts
          (atom_fact c.pattern-item.result.pred c.objects_at-row.result ∷ []) c.in_ok-add.ensures.facts);
      names = c.in_ok-add.ensures.names ∙ c.loop-pattern.invariant.names;
      values = c.in_ok-add.ensures.values ∙ c.loop-pattern.invariant.values;
    }

pub returns-in_err-add-clause-part : goal.returns-in_err-add-clause-part
returns-in_err-add-clause-part c =
    let first = c.args.facts.now.known.facts in
    let now = c.loop-pattern.facts.known.facts in
    let left = map (fact_of (slots_of c.args.args.now)) (drop c.loop-pattern.pattern-index c.args.patterns.now) in
    let all = with_facts first (map (fact_of (slots_of c.args.args.now)) c.args.patterns.now) in
    on_err c.from_residual.result _
    (between_same first now c.add.new.self.known.facts all (ap (λ s. s.known.facts) c.in_err-add.ensures.err)
    (c.loop-pattern.invariant.grown, facts_left now left all c.loop-pattern.invariant.facts))
