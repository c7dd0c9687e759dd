use Rattle.std.proofs.Common.{◌≡◌, ◌∙◌, Bool, List, ap, codes, sym, Some}
use Rattle.std.proofs.lemmas.Result.{err_from_is_err_and}
use Rattle.clap.specs.Words.{Row, found_of, is_simple_and_free, rows_of}
use Rattle.command_line.specs.Apps.{replay_app}
use Rattle.command_line.specs.Words.{is_set, replay_in, report_in}
use Rattle.command_line.proofs.AppsLemmas.{replay_simple}
use Rattle.command_line.proofs.WordsLemmas.{read_rows, read_none}
use Rattle.command_line.proofs.replay.replay.Goals as goal

-- the words are read as the flag was
read_so : (rows : List Row) (optimal : Bool) → optimal ≡ is_set (codes "optimal") rows
    → replay_in rows ≡ report_in optimal rows
read_so rows optimal is = ap (λ set. report_in set rows) (sym is)

pub matches_of_words-requires : goal.matches_of_words-requires
matches_of_words-requires c = ap is_simple_and_free c.in_ok-command.ensures ∙ replay_simple

pub returns-in_err-matches-clause-usage : goal.returns-in_err-matches-clause-usage
returns-in_err-matches-clause-usage c =
    let p = err_from_is_err_and c.from_residual-in_err-matches.result c.from_residual-in_err-matches.ensures.1 in
    rw (p.1, p.2) (λ why. read_none replay_app _ replay_in _ c.in_ok-command.ensures (c.in_err-matches.ensures.usage why))

pub returns-in_default-clause-usage : goal.returns-in_default-clause-usage
returns-in_default-clause-usage c = λ why.
    read_rows replay_app _ replay_in _ c.in_ok-command.ensures _
    c.in_ok-matches.ensures.taken c.in_ok-matches.ensures.rows
    ∙ read_so (rows_of (found_of c.in_ok-matches.matches)) _ c.set_in.ensures
    ∙ sym c.in_default.ensures

pub returns-clause-config : goal.returns-clause-config
returns-clause-config c =
    read_rows replay_app _ replay_in _ c.in_ok-command.ensures _
    c.in_ok-matches.ensures.taken c.in_ok-matches.ensures.rows
    ∙ read_so (rows_of (found_of c.in_ok-matches.matches)) _ c.set_in.ensures
    ∙ sym c.in-Some.ensures ∙ ap Some (sym c.in_ok-replay_held.ensures)
