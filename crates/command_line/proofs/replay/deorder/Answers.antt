use Rattle.std.proofs.Common.{◌∙◌, ap, sym, Some}
use Rattle.std.proofs.lemmas.Result.{err_from_is_err_and}
use Rattle.clap.specs.Words.{is_simple_and_free}
use Rattle.command_line.specs.Apps.{deorder_app}
use Rattle.command_line.specs.Words.{deorder_in}
use Rattle.command_line.proofs.AppsLemmas.{deorder_simple}
use Rattle.command_line.proofs.WordsLemmas.{read_rows, read_none}
use Rattle.command_line.proofs.replay.deorder.Goals as goal

pub matches_of_words-requires : goal.matches_of_words-requires
matches_of_words-requires c = ap is_simple_and_free c.in_ok-command.ensures ∙ deorder_simple

pub returns-in_err-matches-clause-usage : goal.returns-in_err-matches-clause-usage
returns-in_err-matches-clause-usage c =
    let p = err_from_is_err_and c.from_residual-in_err-matches.result c.from_residual-in_err-matches.ensures.1 in
    rw (p.1, p.2) (λ why. read_none deorder_app _ deorder_in _ c.in_ok-command.ensures (c.in_err-matches.ensures.usage why))

pub returns-in_default-clause-usage : goal.returns-in_default-clause-usage
returns-in_default-clause-usage c = λ why.
    read_rows deorder_app _ deorder_in _ c.in_ok-command.ensures _
    c.in_ok-matches.ensures.taken c.in_ok-matches.ensures.rows ∙ sym c.in_default.ensures

pub returns-clause-config : goal.returns-clause-config
returns-clause-config c =
    read_rows deorder_app _ deorder_in _ c.in_ok-command.ensures _
    c.in_ok-matches.ensures.taken c.in_ok-matches.ensures.rows ∙ sym c.in-Some.ensures ∙ ap Some (sym c.in_ok-replay_held.ensures)
