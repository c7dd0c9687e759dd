use Rattle.std.proofs.Common.{◌∙◌, ap, unwrap_or, length}
use Rattle.gen_lines.specs.Reply.{is_space}
use Rattle.lemmas.proofs.Positions.{position_or}
use Rattle.grid_text.proofs.fields.run_of.Goals as goal

pub returns-clause-run : goal.returns-clause-run
returns-clause-run c =
    c.unwrap_or.ensures ∙ ap (λ n. unwrap_or n (length c.args.bytes.now)) c.first_space.ensures.place
    ∙ position_or is_space c.args.bytes.now
