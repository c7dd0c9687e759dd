use Rattle.sexpr_text.specs.Trees.{tree}
use Rattle.stream_reader.proofs.FitStreams.{fit_if_read}
use Rattle.stream_reader.proofs.reader.read_streams.Goals as goal

pub returns-clause-fit : goal.returns-clause-fit
returns-clause-fit c =
    fit_if_read c.args.domain.now (tree c.args.text.now) c.read.result c.read.ensures
