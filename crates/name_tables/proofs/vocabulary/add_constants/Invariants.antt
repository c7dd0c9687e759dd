use Rattle.std.proofs.Common.{◌≡◌, drop}
use Rattle.name_tables.specs.Vocabulary.{put_constants}
use Rattle.name_tables.proofs.vocabulary.add_constants.Given as goal

abbrev pub invariant-loop-constant : goal.invariant-loop-constant
invariant-loop-constant l =
    put_constants l.fn.names l.constants ≡ put_constants l.names (drop l.constant-index l.constants)
