use Rattle.std.proofs.Common.{◌≡◌, ◌++◌, drop}
use Rattle.name_tables.specs.Declarations.{signature_list}
use Rattle.name_tables.proofs.signatures.Signatures.to_signatures.Given as goal

abbrev pub invariant-loop-place : goal.invariant-loop-place
invariant-loop-place l =
    signature_list l.self.names l.self.arities
    ≡ l.list.items ++ signature_list (drop l.place l.self.names) (drop l.place l.self.arities)
