use Rattle.std.proofs.Common.{◌∙◌, ap, sym}
use Rattle.std.proofs.lemmas.Result.{err_from_is_err_and}
use Rattle.clap.specs.Words.{is_simple_and_free}
use Rattle.command_line.specs.Apps.{generate_app}
use Rattle.command_line.specs.Words.{generate_in}
use Rattle.command_line.proofs.AppsLemmas.{generate_simple}
use Rattle.command_line.proofs.WordsLemmas.{read_rows, read_none}
use Rattle.command_line.proofs.generate.generate.Goals as goal

pub matches_of_words-requires : goal.matches_of_words-requires
matches_of_words-requires c = ap is_simple_and_free c.in_ok-command.ensures ∙ generate_simple

pub returns-in_err-matches-clause-usage : goal.returns-in_err-matches-clause-usage
returns-in_err-matches-clause-usage c =
    let p = err_from_is_err_and c.from_residual-in_err-matches.result c.from_residual-in_err-matches.ensures.1 in
    rw (p.1, p.2) (λ why. read_none generate_app _ generate_in _ c.in_ok-command.ensures (c.in_err-matches.ensures.usage why))

pub returns-in-Some-clause-number : goal.returns-in-Some-clause-number
returns-in-Some-clause-number c =
    read_rows generate_app _ generate_in _ c.in_ok-command.ensures _
    c.in_ok-matches.ensures.taken c.in_ok-matches.ensures.rows ∙ sym c.in-Some.ensures

pub returns-clause-usage : goal.returns-clause-usage
returns-clause-usage c = λ why.
    read_rows generate_app _ generate_in _ c.in_ok-command.ensures _
    c.in_ok-matches.ensures.taken c.in_ok-matches.ensures.rows ∙ sym c.in-None.ensures
