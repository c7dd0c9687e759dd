use Rattle.std.proofs.Common.{◌∙◌, ◌∷◌, ◌++◌, [], ap, refl}
use Rattle.io_world.specs.Calls.{event_of}
use Rattle.io_world.proofs.LogsLemmas.{noted}
use Rattle.io_world.proofs.call_log.CallLog.note.Goals as goal

pub returns-clause-ok : goal.returns-clause-ok
returns-clause-ok c =
    noted _ _ _ _ c.self.view_is
    (c.push_reserved.ensures.items ∙ ap (λ calls. calls ++ event_of c.args.act ∷ []) c.reserve.ensures.items) refl
