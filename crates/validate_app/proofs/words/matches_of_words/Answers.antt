use Rattle.std.specs.Cmp.{first_so}
use Rattle.validate_app.proofs.WordsLemmas.{with_fault, without_fault}
use Rattle.validate_app.proofs.words.matches_of_words.Goals as goal

pub returns-in-Ok-clause-taken : goal.returns-in-Ok-clause-taken
returns-in-Ok-clause-taken c = without_fault _ _ (c.in-Ok.ensures.kinds c.requires)

pub returns-in-Ok-clause-rows : goal.returns-in-Ok-clause-rows
returns-in-Ok-clause-rows c = (c.in-Ok.ensures.matches (first_so _ _ c.requires)).0

pub returns-in-Err-clause-usage : goal.returns-in-Err-clause-usage
returns-in-Err-clause-usage c =
    λ why. with_fault _ _ c.in-Err.error (c.in-Err.ensures.kinds c.requires) (c.why_of.ensures why)
