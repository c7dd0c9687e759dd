-- Lists of instances that have the same members.
use Rattle.std.specs.Prelude.{◌≡◌, List}
use Rattle.std.specs.List.{list_any}
use Rattle.task_model.specs.Streams.{same_instance}
use Rattle.task_model.specs.declared.stream.Instance.{Instance}

abbrev pub HaveSame : List Instance → List Instance → Type 0
HaveSame xs ys = (i : Instance) → list_any (same_instance i) xs ≡ list_any (same_instance i) ys
