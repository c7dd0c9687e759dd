-- The bytes of a name, as they lie in memory.
use Rattle.std.specs.Prelude.{ℕ, ◌≤◌, List, take}
use Rattle.task_model.specs.declared.name.Form.{Form}
use Rattle.task_model.specs.declared.name.Form.TheVariants as form

-- A short name's bytes are the first of those that lie in the value.
abbrev pub bytes_of : Form → List ℕ
bytes_of (form.Short length bytes) = take length bytes
bytes_of (form.Long bytes) = bytes.items

abbrev pub IsShort : Form → Type 0
IsShort (form.Short length bytes) = length ≤ 30
IsShort (form.Long bytes) = Unit {0}
