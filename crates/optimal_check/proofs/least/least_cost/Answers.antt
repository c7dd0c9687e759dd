use Rattle.std.proofs.Common.{subst}
use Rattle.legal_report.specs.Reports.{IsCertifiedReport}
use Rattle.optimal_check.proofs.LeastLemmas.{unflawed}
use Rattle.optimal_check.proofs.least.least_cost.Goals as goal

pub unreachable-requires : goal.unreachable-requires
unreachable-requires c =
    let task = c.args.task.now in
    let r = c.args.report.now in
    unflawed task r c.requires.formed c.requires.sound c.in-Flawed.field-0 c.in-Flawed.field-1
    (subst (IsCertifiedReport task r) c.in-Flawed.is c.in_ok-knowledge.ensures)
