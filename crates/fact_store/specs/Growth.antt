-- What only grows, at its end: a list, and what is known.
use Rattle.std.specs.Prelude.{◌≡◌, List, ◌++◌}
use Rattle.task_model.specs.Known.{Known}

-- the first list is a front of the second
abbrev pub IsFrontOf : {A : Type 0} → List A → List A → Type 0
IsFrontOf {A} xs ys = (more : List A) × (ys ≡ xs ++ more)

-- the list in the middle goes on from the first, and no further than the last
abbrev pub IsBetween : {A : Type 0} → List A → List A → List A → Type 0
IsBetween before now after = IsFrontOf before now × IsFrontOf now after

-- Nothing that was known is lost or stands elsewhere.
pub record Grows (before after : Known) : Type 0 where
  pub names : IsFrontOf before.names after.names
  pub facts : IsFrontOf before.facts after.facts
  pub values : IsFrontOf before.values after.values

-- what is known now goes on from what was known before, and no further than what is known after
abbrev pub LiesBetween : Known → Known → Known → Type 0
LiesBetween before now after = Grows before now × Grows now after
