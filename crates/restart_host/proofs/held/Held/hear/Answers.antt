use Rattle.std.proofs.Common.{◌≡◌, ◌∙◌, take, length, rules}
use Rattle.std.proofs.lemmas.List.{places}
use Rattle.restart_host.proofs.KeepsLemmas.{hears_all, hears_part}
use Rattle.restart_host.proofs.TriesLemmas.{called_as, called_heard, called_missed}
use Rattle.restart_host.proofs.held.Held.hear.Goals as goal

pub returns-in-Ok-clause-called : goal.returns-in-Ok-clause-called
returns-in-Ok-clause-called g c = λ words.
    let items : c.extend_from_slice.new.self.items ≡ take c.in-Ok.filled c.hear_line.new.room = search (rules, places) in
    let front : take c.len-held.result c.put_front.new.room ≡ c.self.inside.bytes.items =
    search (rules, places, c.put_front.ensures.front, c.deref.ensures.len, c.deref.ensures.value) in
    let size : length c.hear_line.new.room ≡ 1025 = search rules in
    called_as c.args.child words g.H.Host.last _ _ _ _ _
    (λ events gives. hears_all c.args.child c.args.self.now c.extend_from_slice.new.self.items c.len-held.result c.in-Ok.filled _ _ events
    gives (front ∙ c.self.view_is) c.in-Ok.ensures.room items size)
    (called_heard c.args.child words g.H.Host.last _ _ _ _ c.in-Ok.filled c.in-Ok.ensures.running c.in-Ok.ensures.cause
    c.in-Ok.ensures.log)

pub returns-in-Err-clause-called : goal.returns-in-Err-clause-called
returns-in-Err-clause-called g c = λ words.
    let front : take c.len-held.result c.put_front.new.room ≡ c.self.inside.bytes.items =
    search (rules, places, c.put_front.ensures.front, c.deref.ensures.len, c.deref.ensures.value) in
    called_as c.args.child words g.H.Host.last _ _ _ _ _
    (λ events part. hears_part c.args.child c.args.self.now c.len-held.result _ c.in-Err.fault events part (front ∙ c.self.view_is))
    (called_missed (Unit {0}) c.args.child words g.H.Host.last _ _ _ c.in-Err.fault c.in-Err.ensures.running c.in-Err.ensures.cause
    c.in-Err.ensures.log_part)
