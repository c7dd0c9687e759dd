use Rattle.std.proofs.Common.{◌≡◌, drop}
use Rattle.name_tables.specs.Vocabulary.{put_sorts}
use Rattle.name_tables.proofs.vocabulary.add_sorts.Given as goal

abbrev pub invariant-loop-sort : goal.invariant-loop-sort
invariant-loop-sort l = put_sorts l.fn.names l.sorts ≡ put_sorts l.names (drop l.sort-index l.sorts)
