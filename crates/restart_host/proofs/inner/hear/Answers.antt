use Rattle.std.proofs.Common.{arith}
use Rattle.restart_host.specs.Tries.{seen_by_host}
use Rattle.restart_host.proofs.KeepsLemmas.{fetches_heard, fetches_missed}
use Rattle.restart_host.proofs.TriesLemmas.{called_as, called_quiet, called_stop}
use Rattle.restart_host.proofs.inner.hear.Goals as goal

pub returns-in-Ok-clause-called : goal.returns-in-Ok-clause-called
returns-in-Ok-clause-called g c = λ words.
    called_as c.args.child words g.H.Host.last _ _ _ _ _
    (λ events hears asked.
    fetches_heard c.args.child asked c.args.life.now _ events c.requires.alive.0 c.requires.due c.requires.alive.0
    c.first_line-life.ensures.value c.first_line-life.ensures.within.0
    (omega (arith, c.in-Ok.ensures.some, c.first_line-life.ensures.value)) c.first_line-life.ensures.within.1 hears)
    (c.in-Ok.ensures.called words)

pub returns-in-Err-clause-called : goal.returns-in-Err-clause-called
returns-in-Err-clause-called g c = λ words.
    called_quiet c.args.child words g.H.Host.last _ (seen_by_host g.H.Host.running g.H.Host.faults g.H.Host.log c.hear.new.host) _ _
    _ _ _
    (λ xs ys hears stop asked.
    fetches_missed c.args.child asked c.args.life.now c.fall.new.self _ c.in-Err.fault xs ys c.requires.alive.0 c.requires.due
    (record { alive = c.fall.ensures.alive; held = c.fall.ensures.held; due = c.fall.ensures.due }) hears stop)
    (c.in-Err.ensures.called words)
    (called_stop c.args.child words g.H.Host.last _ _ c.stop.result c.stop.ensures.running c.stop.ensures.cause
    c.stop.ensures.log)
