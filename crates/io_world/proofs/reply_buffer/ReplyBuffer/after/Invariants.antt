use Rattle.std.proofs.Common.{take}
use Rattle.io_world.specs.Replies.{Replies}
use Rattle.io_world.proofs.reply_buffer.ReplyBuffer.after.Given as goal

abbrev pub invariant-loop-byte : goal.invariant-loop-byte
invariant-loop-byte g l =
    Replies (g.A.AnswerBy.answers l.answers) (take l.byte-index l.bytes) l.self l.reply
