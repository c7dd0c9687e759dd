use Rattle.std.proofs.Common.{refl}
use Rattle.run_command.proofs.head.head_of.Goals as goal

pub returns : goal.returns
returns c = λ told task served. record {
  version = refl;
  mode = refl;
  calls = refl;
  states = refl;
  depth = refl;
  optimal = refl;
  pools = served;
}
