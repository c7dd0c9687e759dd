use Rattle.std.proofs.Common.{◌≡◌, drop}
use Rattle.name_tables.specs.Vocabulary.{put_signatures}
use Rattle.name_tables.proofs.vocabulary.add_signatures.Given as goal

abbrev pub invariant-loop-signature : goal.invariant-loop-signature
invariant-loop-signature l =
    put_signatures l.fn.signatures l.declared
    ≡ put_signatures l.signatures (drop l.signature-index l.declared)
