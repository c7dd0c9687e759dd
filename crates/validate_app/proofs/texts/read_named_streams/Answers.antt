use Rattle.std.proofs.Common.{subst, sym}
use Rattle.task_reader.specs.Fitness.{IsShort}
use Rattle.validate_app.proofs.InputsLemmas.{stops_there, streams_named, streams_refused, streams_there}
use Rattle.validate_app.specs.Held.{held_paths, held_report}
use Rattle.validate_app.specs.declared.stop.FileRole.TheVariants.{Streams}
use Rattle.validate_app.proofs.texts.read_named_streams.Goals as goal

pub returns-in-Err-clause-stop : goal.returns-in-Err-clause-stop
returns-in-Err-clause-stop g c =
    stops_there _ _ Streams (c.args.domain.now, c.requires.domain, c.requires.problem) _
    (streams_named (g.F.Files.told c.args.files.now) (held_paths c.args.paths.now)
    (held_report c.args.report.now) c.requires.named) c.in-Err.stop c.in-Err.ensures.stop

pub returns-clause-stop : goal.returns-clause-stop
returns-clause-stop g c =
    streams_refused _ _ _ c.requires.named c.args.domain.now c.requires.domain c.requires.problem c.in-Ok.bytes.items
    c.in-Ok.ensures.bytes c.as_slice.result.now c.as_slice.ensures.value c.in-Err-streams_in.refusal
    c.in-Err-streams_in.ensures.refused _ c.stop_of.ensures

pub returns-in-Ok-streams_in-clause-streams : goal.returns-in-Ok-streams_in-clause-streams
returns-in-Ok-streams_in-clause-streams g c =
    streams_there _ _ _ c.requires.named c.args.domain.now c.in-Ok.bytes.items c.in-Ok.ensures.bytes
    c.as_slice.result.now
    c.as_slice.ensures.value c.in-Ok-streams_in.streams c.in-Ok-streams_in.ensures.read

pub returns-in-Ok-streams_in-clause-fit : goal.returns-in-Ok-streams_in-clause-fit
returns-in-Ok-streams_in-clause-fit g c =
    c.in-Ok-streams_in.ensures.fit
    (record { bytes = c.requires.domain.bytes; short = c.requires.domain.has.short; spelled = c.requires.domain.so })
    (subst IsShort (sym c.as_slice.ensures.value) c.in-Ok.ensures.bytes.short)
