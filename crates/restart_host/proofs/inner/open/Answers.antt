use Rattle.std.proofs.Common.{map, string_bytes, Ok, Err}
use Rattle.restart_host.specs.Tries.{seen_by_host}
use Rattle.restart_host.proofs.StepsLemmas.{revives_not, revives_once}
use Rattle.restart_host.proofs.TriesLemmas.{called_as, called_start, called_then}
use Rattle.restart_host.proofs.inner.open.Goals as goal

pub returns-in-Ok-clause-called : goal.returns-in-Ok-clause-called
returns-in-Ok-clause-called g c =
    called_then c.args.child (map string_bytes c.args.words.now) g.H.Host.last _
    (seen_by_host g.H.Host.running g.H.Host.faults g.H.Host.log c.start.new.self) _ _ _ _ _
    (λ xs ys start sends. revives_once c.args.child (map string_bytes c.args.words.now) c.args.asked.now c.send.result xs ys start sends)
    (called_start c.args.child (map string_bytes c.args.words.now) g.H.Host.last _ _ (Ok c.in-Ok.field-0) c.in-Ok.ensures.running
    c.in-Ok.ensures.cause c.in-Ok.ensures.log)
    (c.send.ensures.called (map string_bytes c.args.words.now))

pub returns-in-Err-clause-called : goal.returns-in-Err-clause-called
returns-in-Err-clause-called g c =
    called_as c.args.child (map string_bytes c.args.words.now) g.H.Host.last _ _ _ _ _
    (λ events start. revives_not c.args.child (map string_bytes c.args.words.now) c.args.asked.now c.in-Err.fault events start)
    (called_start c.args.child (map string_bytes c.args.words.now) g.H.Host.last _ _ (Err c.in-Err.fault) c.in-Err.ensures.running
    c.in-Err.ensures.cause c.in-Err.ensures.log)
