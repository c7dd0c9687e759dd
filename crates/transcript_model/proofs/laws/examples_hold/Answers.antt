use Rattle.std.proofs.Common.{refl}
use Rattle.task_model.specs.Roles.{role_of}
use Rattle.transcript_model.proofs.laws.examples_hold.Goals as goal

pub returns : goal.returns
unfolding role_of
returns c = record {
  names = refl;
  once = refl;
  facts = refl;
  values = refl;
  notes = refl;
  both = refl;
  request = refl;
  none = refl;
  count = refl;
  waits = refl;
  answered = refl;
  shown = refl;
  first = refl;
  next = refl;
  two = refl;
  three = refl;
  came = refl;
  not_later = refl;
  tuple = refl;
  row = refl;
  no_row = refl;
  answers = refl;
}
