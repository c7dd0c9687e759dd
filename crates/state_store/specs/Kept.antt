-- What holds of the states of a store.
use Rattle.std.specs.Prelude.{◌≤◌, List, length}
use Rattle.lemmas.specs.Lists.{AreDistinct}
use Rattle.task_model.specs.State.{Atoms}

-- They are distinct, and few enough to be numbered.
pub record AreKept (states : List Atoms) : Type 0 where
  pub distinct : AreDistinct states
  pub few : length states ≤ 200001
