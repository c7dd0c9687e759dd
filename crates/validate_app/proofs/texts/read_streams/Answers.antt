use Rattle.std.proofs.Common.{ap, option_map}
use Rattle.validate_app.proofs.InputsLemmas.{no_streams, no_streams_named}
use Rattle.validate_app.specs.Held.{held_report}
use Rattle.validate_app.proofs.texts.read_streams.Goals as goal

pub read_named_streams-requires-clause-named : goal.read_named_streams-requires-clause-named
read_named_streams-requires-clause-named g c = ap (option_map held_report) c.in-Some.is

pub returns-in-None-clause-streams : goal.returns-in-None-clause-streams
returns-in-None-clause-streams g c =
    no_streams_named _ _ (ap (option_map held_report) c.in-None.is) c.args.domain.now _ c.no_streams.ensures

pub returns-in-None-clause-fit : goal.returns-in-None-clause-fit
returns-in-None-clause-fit g c = no_streams c.args.domain.now _ c.no_streams.ensures
