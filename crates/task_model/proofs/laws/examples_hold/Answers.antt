use Rattle.std.proofs.Common.{refl, [], ◌∷◌}
use Rattle.task_model.proofs.StateLemmas.{contains-changed}
use Rattle.std.specs.Fmt.{digits}
use Rattle.task_model.specs.Roles.{role_of}
use Rattle.task_model.specs.State.{empty}
use Rattle.task_model.proofs.laws.examples_hold.Goals as goal

pub returns : goal.returns
unfolding role_of digits
returns c = record {
  kept =
      contains-changed empty (record { pred = 0; args = [] } ∷ []) (record { pred = 0; args = [] } ∷ []) (record { pred = 0; args = [] });
  no_cost = refl;
  least_cost = refl;
  generated = refl;
  not_before = refl;
  empty_type = refl;
  negated = refl;
  types = refl;
  certified = refl;
  tested = refl;
  unfinished = refl;
  ended = refl;
  order = refl;
  named = refl;
}
