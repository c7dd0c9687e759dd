-- Accepted problems are fit.
use Rattle.std.specs.Prelude.{List}
use Rattle.sexpr_text.specs.Trees.{Trees}
use Rattle.task_model.specs.Fit.{IsFitDomain, IsFitProblem}
use Rattle.task_model.specs.declared.domain.Domain.{Domain}
use Rattle.task_model.specs.declared.stream.Stream.{Stream}
use Rattle.task_model.specs.declared.task.Problem.{Problem}
use Rattle.name_tables.specs.Sizes.{IsBoundedTree}
use Rattle.domain_reader.specs.Domains as domains

-- The problem is fit for tasks of this domain, whatever their streams are.
abbrev pub IsFitOver : Domain → Problem → Type 0
IsFitOver d p =
    (streams : List Stream) → IsFitProblem (record { domain = d; problem = p; streams = streams })

-- The domain is fit, and was read from a tree as texts of at most 2^22 bytes give it.
pub record IsFitRead (d : Domain) : Type 0 where
  pub text : Trees
  pub bounded : IsBoundedTree text
  pub read : domains.IsDomainRead text d
  pub fit : IsFitDomain d
