use Rattle.std.proofs.lemmas.List.{take_more}
use Rattle.io_world.proofs.RepliesLemmas.{heard_byte}
use Rattle.io_world.proofs.reply_buffer.ReplyBuffer.after.Goals as goal

pub loop-byte-preserved : goal.loop-byte-preserved
loop-byte-preserved g c =
    rw (take_more c.args.bytes.now c.loop-byte.byte-index 0 c.loop-byte-test.true)
    (heard_byte _ _ _ _ _ _ c.loop-byte.invariant c.in_ok-hear.ensures)
