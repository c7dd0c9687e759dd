-- The names of a problem are those of a fit domain, and its objects.
use Rattle.std.proofs.Common.{length, refl}
use Rattle.sexpr_text.specs.Trees.{Trees}
use Rattle.task_model.specs.Fit.{IsFitDomain}
use Rattle.task_model.specs.declared.domain.Domain as domain
use Rattle.name_tables.proofs.FitTerms.{Knows}
use Rattle.name_tables.proofs.FitVocabulary.{names_known, sorts_some}
use Rattle.name_tables.proofs.VocabularyLemmas.{AreNamesOf, knows_from}
use Rattle.problem_reader.specs.Tables.{problem_names}

pub problem_known : (d : domain.Domain) (body : Trees) → IsFitDomain d
    → AreNamesOf d (length (problem_names d body).objects) (problem_names d body)
problem_known d body fit =
    let known = names_known d fit in
    record {
      sorts = known.sorts;
      predicates = known.predicates;
      functions = known.functions;
      long = refl;
    }

pub problem_knows : (d : domain.Domain) (body : Trees) → IsFitDomain d
    → Knows (problem_names d body) d (length (problem_names d body).objects)
problem_knows d body fit =
    let known = problem_known d body fit in
    knows_from d (length (problem_names d body).objects) (problem_names d body)
    (sorts_some d (problem_names d body) fit known.sorts) known
