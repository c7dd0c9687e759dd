use Rattle.std.proofs.Common.{◌∙◌, sym}
use Rattle.std.proofs.lemmas.Option.{same_Some}
use Rattle.instance_search.proofs.ReadableLemmas.{fit_readable_stream}
use Rattle.dreaming.proofs.PartLemmas.{supports_is, supports_not}
use Rattle.dreaming.proofs.part.Part.supports.Goals as goal

pub look-requires : goal.look-requires
look-requires c = (c.args.task.now, c.requires.part)

pub is_reachable-requires : goal.is_reachable-requires
is_reachable-requires c =
    fit_readable_stream c.args.task.now c.requires.part.plain.base.fit c.instance-instance.result.now.stream c.in-Some.stream.now
    (sym c.in-Some.ensures)

pub returns-in-Some : goal.returns-in-Some
returns-in-Some c = λ e at.
    supports_is c.args.task.now c.args.self.now c.requires.part e c.entry.result.now c.in-Some.stream.now c.look.result.known
    c.instance-instance.result.now c.is_reachable.result (same_Some c.entry.result.now e (sym c.entry.ensures ∙ at))
    c.instance-instance.ensures c.in-Some.ensures c.look.ensures c.is_reachable.ensures

pub returns-in-None : goal.returns-in-None
returns-in-None c = λ e at.
    supports_not c.args.task.now c.args.self.now c.requires.part e c.entry.result.now c.instance-instance.result.now
    (same_Some c.entry.result.now e (sym c.entry.ensures ∙ at)) c.instance-instance.ensures c.in-None.ensures
