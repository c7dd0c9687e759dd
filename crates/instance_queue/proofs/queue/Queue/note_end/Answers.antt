use Rattle.instance_queue.proofs.NotesLemmas.{tally_ended}
use Rattle.instance_queue.proofs.queue.Queue.note_end.Goals as goal

pub note-requires : goal.note-requires
note-requires c = tally_ended c.args.self.now c.args.instance.now c.tally-tally.result c.tally-tally.ensures
