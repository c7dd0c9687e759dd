use Rattle.std.proofs.Common.{ap, sym, ◌∙◌}
use Rattle.std.specs.List.{list_all}
use Rattle.sexpr_text.specs.Trees.{trees}
use Rattle.problem_reader.proofs.FitObjects.{names_typed, types_tested}
use Rattle.problem_reader.specs.Tables.{has_type}
use Rattle.problem_reader.proofs.tables.put_objects.Goals as goal

pub returns-in_ok-typed-clause-names : goal.returns-in_ok-typed-clause-names
returns-in_ok-typed-clause-names c =
    let typed = ap (list_all has_type) (sym c.as_slice.ensures) ∙ sym c.have_types.ensures ∙ c.if-have_types.true in
    let before = c.requires in
    let named = c.into_parts-objects.ensures.names ∙ ap (λ t. t.names) c.in_ok-typed.ensures
    ∙ names_typed c.args.domain.now c.args.names.now.sorts (trees c.args.body.now)
    (types_tested c.args.domain.now.constants typed) in
    (λ i. record {
      sorts = (before i).sorts;
      predicates = (before i).predicates;
      functions = (before i).functions;
      objects = named i;
    })
