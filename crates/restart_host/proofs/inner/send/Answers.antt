use Rattle.std.proofs.Common.{◌<◌, arith, length}
use Rattle.restart_host.specs.Tries.{seen_by_host}
use Rattle.restart_host.proofs.StepsLemmas.{sends_all, sends_part}
use Rattle.restart_host.proofs.TriesLemmas.{called_as, called_quiet, called_sent, called_stop, called_unsent}
use Rattle.restart_host.proofs.inner.send.Goals as goal

pub returns-in-Ok-clause-called : goal.returns-in-Ok-clause-called
returns-in-Ok-clause-called g c = λ words.
    called_as c.args.child words g.H.Host.last _ _ _ _ _ (λ events takes. sends_all c.args.child c.args.bytes.now events takes)
    (called_sent c.args.child words g.H.Host.last _ _ c.args.bytes.now c.in-Ok.field-0 c.in-Ok.ensures.running c.in-Ok.ensures.cause
    c.in-Ok.ensures.log)

pub returns-in-Err-clause-called : goal.returns-in-Err-clause-called
returns-in-Err-clause-called g c = λ words.
    let some : 0 < length c.args.bytes.now = omega (arith, c.in-Err.ensures.part.1) in
    called_quiet c.args.child words g.H.Host.last _ (seen_by_host g.H.Host.running g.H.Host.faults g.H.Host.log c.send_all.new.host) _ _
    _ _ _ (λ xs ys part stop. sends_part c.args.child c.args.bytes.now c.in-Err.fault xs ys some part stop)
    (called_unsent (Unit {0}) c.args.child words g.H.Host.last _ _ c.args.bytes.now c.in-Err.fault c.in-Err.ensures.running
    c.in-Err.ensures.cause c.in-Err.ensures.log_part)
    (called_stop c.args.child words g.H.Host.last _ _ c.stop.result c.stop.ensures.running c.stop.ensures.cause
    c.stop.ensures.log)
