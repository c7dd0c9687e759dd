use Rattle.std.proofs.Common.{arith}
use Rattle.legal_report.proofs.LinesLemmas.{report_short}
use Rattle.legal_report.proofs.report.certify.Goals as goal

pub certify_report-requires-clause-lines : goal.certify_report-requires-clause-lines
certify_report-requires-clause-lines c =
    let few = report_short c.in-Ok.report c.args.bytes.now c.in-Ok.ensures.ok.1 in
    omega (arith, few, c.requires.bytes)
