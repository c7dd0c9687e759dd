-- Laws of these definitions.
use Rattle.std.specs.Prelude.{◌≡◌}
use Rattle.sexpr_text.specs.Trees.{Trees}
use Rattle.task_model.specs.declared.domain.Domain.{Domain}
use Rattle.domain_reader.specs.Domains.{IsDomainRead}
use Rattle.domain_reader.specs.Domains as domains
use Rattle.problem_reader.specs.Tables.{problem_names, with_objects}

-- Of a domain that was read from a text, a problem's names are those in the domain's text, with their numbers, and its
-- objects behind them.
abbrev pub NamesAreTheDomains : Type 0
NamesAreTheDomains =
    (t : Trees) (d : Domain) (body : Trees) → IsDomainRead t d
    → problem_names d body ≡ with_objects (domains.domain_names t) body
