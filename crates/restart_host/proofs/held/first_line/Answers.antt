use Rattle.std.proofs.Common.{◌≡◌, ap, sym, position, length, Some, None}
use Rattle.gen_lines.specs.Lines.{is_feed}
use Rattle.restart_host.specs.Lines.{line_end}
use Rattle.restart_host.proofs.held.first_line.Goals as goal

pub returns-in-Some-clause-value : goal.returns-in-Some-clause-value
returns-in-Some-clause-value c =
    let found : position is_feed c.args.bytes.now ≡ Some c.in-Some.at = sym c.in-Some.ensures.value in
    sym (ap (λ o. line_end o (length c.args.bytes.now)) found)

pub returns-in-None-clause-value : goal.returns-in-None-clause-value
returns-in-None-clause-value c =
    let found : position is_feed c.args.bytes.now ≡ None = sym c.in-None.ensures.value in
    sym (ap (λ o. line_end o (length c.args.bytes.now)) found)
