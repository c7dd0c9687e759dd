use Rattle.std.proofs.Common.{ap, ◌∙◌, ◌++◌, ◌∷◌, []}
use Rattle.instance_queue.proofs.NotesLemmas.{noted_more, noted_view}
use Rattle.instance_queue.proofs.queue.Queue.note.Goals as goal

pub invariant_of-self-2 : goal.invariant_of-self-2
invariant_of-self-2 c =
    noted_more c.self.inside.tallies c.insert_full.new.self c.in_ok-place.place c.in_ok-key.key
    c.args.instance.now c.args.tally c.in_ok-key.ensures c.self.inside.notes.items c.push.new.self.items c.args.ended
    c.args.self.now c.self.invariant c.self.view_is c.in_ok-place.ensures.entries c.in_ok-place.ensures.index
    (c.in_ok-push.ensures.items
    ∙ ap (λ ns. ns ++ record { place = c.in_ok-place.place; ended = c.args.ended } ∷ []) c.reserve.ensures.items)
    c.requires (λ q. c.in_ok-place.ensures.updates.0 q)

pub returns-clause-ok : goal.returns-clause-ok
returns-clause-ok c =
    noted_view c.self.inside.tallies c.insert_full.new.self c.in_ok-place.place c.in_ok-key.key
    c.args.instance.now c.args.tally c.in_ok-key.ensures c.self.inside.notes.items c.push.new.self.items c.args.ended
    c.args.self.now c.self.invariant c.self.view_is c.in_ok-place.ensures.entries c.in_ok-place.ensures.index
    (c.in_ok-push.ensures.items
    ∙ ap (λ ns. ns ++ record { place = c.in_ok-place.place; ended = c.args.ended } ∷ []) c.reserve.ensures.items)
