use Rattle.std.proofs.Common.{◌∙◌, ap, sym}
use Rattle.std.proofs.lemmas.Result.{err_from_is_err_and}
use Rattle.clap.specs.Words.{is_simple_and_free}
use Rattle.validate_app.proofs.WordsLemmas.{read_refused, read_taken, validate_simple}
use Rattle.validate_app.specs.Words.{validate_app, validate_paths}
use Rattle.validate_app.proofs.words.read_words.Goals as goal

pub matches_of_words-requires : goal.matches_of_words-requires
matches_of_words-requires c = ap is_simple_and_free c.in_ok-command.ensures ∙ validate_simple

pub returns-in_err-matches-clause-usage : goal.returns-in_err-matches-clause-usage
returns-in_err-matches-clause-usage c =
    let p = err_from_is_err_and c.from_residual-in_err-matches.result c.from_residual-in_err-matches.ensures.1 in
    rw (p.1, p.2) (λ why. read_refused validate_app _ validate_paths _ c.in_ok-command.ensures
    (c.in_err-matches.ensures.usage why))

pub returns-clause-usage : goal.returns-clause-usage
returns-clause-usage c = λ why.
    read_taken validate_app _ validate_paths _ c.in_ok-command.ensures _
    c.in_ok-matches.ensures.taken c.in_ok-matches.ensures.rows ∙ sym c.in-None.ensures

pub returns-in-Some-clause-meant : goal.returns-in-Some-clause-meant
returns-in-Some-clause-meant c =
    read_taken validate_app _ validate_paths _ c.in_ok-command.ensures _
    c.in_ok-matches.ensures.taken c.in_ok-matches.ensures.rows ∙ sym c.in-Some.ensures
