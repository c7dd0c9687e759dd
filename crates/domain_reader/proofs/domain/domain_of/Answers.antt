use Rattle.std.proofs.Common.{◌∙◌}
use Rattle.task_model.specs.Roles.{role_of}
use Rattle.domain_reader.proofs.domain.domain_of.Goals as goal

pub returns : goal.returns
unfolding role_of
returns c = record {
  parts = record {
    name = c.in_ok-parts.ensures.name;
    sorts = c.in_ok-parts.ensures.sorts;
    predicates = c.in_ok-parts.ensures.predicates;
    functions = c.in_ok-parts.ensures.functions;
    constants = c.in_ok-parts.ensures.constants;
    derived = c.in_ok-parts.ensures.derived;
    actions = c.in_ok-parts.ensures.actions;
  };
  roles = c.from_vec.ensures ∙ c.in_ok-roles.ensures;
}
