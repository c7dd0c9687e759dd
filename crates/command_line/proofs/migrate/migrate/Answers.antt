use Rattle.std.proofs.Common.{◌∙◌, ap, sym, Some}
use Rattle.std.proofs.lemmas.Result.{err_from_is_err_and}
use Rattle.clap.specs.Words.{is_simple_and_free}
use Rattle.command_line.specs.Apps.{migrate_app}
use Rattle.command_line.specs.Words.{migrate_in}
use Rattle.command_line.proofs.AppsLemmas.{migrate_simple}
use Rattle.command_line.proofs.WordsLemmas.{read_rows, read_none}
use Rattle.command_line.proofs.migrate.migrate.Goals as goal

pub matches_of_words-requires : goal.matches_of_words-requires
matches_of_words-requires c = ap is_simple_and_free c.in_ok-command.ensures ∙ migrate_simple

pub returns-in_err-matches-clause-usage : goal.returns-in_err-matches-clause-usage
returns-in_err-matches-clause-usage c =
    let p = err_from_is_err_and c.from_residual-in_err-matches.result c.from_residual-in_err-matches.ensures.1 in
    rw (p.1, p.2) (λ why. read_none migrate_app _ migrate_in _ c.in_ok-command.ensures (c.in_err-matches.ensures.usage why))

pub returns-in_default-clause-usage : goal.returns-in_default-clause-usage
returns-in_default-clause-usage c = λ why.
    read_rows migrate_app _ migrate_in _ c.in_ok-command.ensures _
    c.in_ok-matches.ensures.taken c.in_ok-matches.ensures.rows ∙ sym c.in_default.ensures

pub returns-clause-path : goal.returns-clause-path
returns-clause-path c =
    read_rows migrate_app _ migrate_in _ c.in_ok-command.ensures _
    c.in_ok-matches.ensures.taken c.in_ok-matches.ensures.rows ∙ sym c.in-Some.ensures ∙ ap Some (sym c.in_ok-from_str.ensures.ok)
