use Rattle.std.proofs.Common.{subst, sym}
use Rattle.stream_reader.specs.Fitness.{AreFitOver}
use Rattle.worked_tasks.proofs.reading.streams_of.Goals as goal

pub returns : goal.returns
returns c = subst (AreFitOver c.args.domain.now) (sym c.in_ok-new.ensures.ok) (c.in_ok-streams.ensures.fit c.requires c.in_ok-bytes.ensures)
