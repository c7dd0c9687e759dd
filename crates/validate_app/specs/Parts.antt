-- The part of a condition that makes it false.
use Rattle.std.specs.Prelude.{ℕ, Bool, List, if◌then◌else◌}
use Rattle.condition_text.specs.Texts.{condition_text}
use Rattle.task_model.specs.Condition.{Condition, Conditions, Atom, Equal, All, Any, Not, Exists, none, more}
use Rattle.task_model.specs.Known.{Known}
use Rattle.task_model.specs.State.{Atoms}
use Rattle.task_model.specs.Truth.{is_true, slots_of}
use Rattle.task_model.specs.declared.task.Task.{Task}

module _ (holds : Condition → Bool) where
  abbrev mutual
    -- The part that makes a false condition false: of an `and` the first part that is false, and of that again such a
    -- part; any other condition itself.
    pub false_part : Condition → Condition
    false_part (All parts) = false_among parts (All parts)
    false_part (Atom pred args) = Atom pred args
    false_part (Equal first second) = Equal first second
    false_part (Any parts) = Any parts
    false_part (Not part) = Not part
    false_part (Exists first sorts body) = Exists first sorts body

    -- that of the first of these parts which is false, and the whole where none is
    pub false_among : Conditions → Condition → Condition
    false_among none whole = whole
    false_among (more part parts) whole = if holds part then false_among parts whole else false_part part

-- whether the condition is true where the slots hold these objects
abbrev pub holds_with : Task → Known → Atoms → List ℕ → Condition → Bool
holds_with task known state slots condition = is_true task.domain known state condition slots

-- the text of that part, where the first slots hold these objects
abbrev pub false_text : Task → Known → Atoms → Condition → List ℕ → List ℕ
false_text task known state condition objects =
    condition_text task.domain known.names objects
    (false_part (holds_with task known state (slots_of objects)) condition)
