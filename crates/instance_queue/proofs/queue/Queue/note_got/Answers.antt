use Rattle.instance_queue.proofs.NotesLemmas.{tally_yielded}
use Rattle.instance_queue.proofs.queue.Queue.note_got.Goals as goal

pub note-requires : goal.note-requires
note-requires c = tally_yielded c.args.self.now c.args.instance.now c.tally-tally.result c.tally-tally.ensures
