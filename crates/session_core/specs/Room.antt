-- Memory that is taken before an answer is heard.
use Rattle.std.specs.Prelude.{ℕ, ◌*◌, ◌≤◌, Option, None, Some, if◌then◌else◌}
use Rattle.gen_lines.specs.Told.{IsNarrow}
use Rattle.gen_lines.specs.declared.answer.Wanted.{Wanted}
use Rattle.gen_lines.specs.declared.answer.Wanted.TheVariants.{Outputs, Number}
use Rattle.transcript_model.specs.declared.entry.Entry.{Entry}
use Rattle.gen_lines.specs.declared.spans.TheConstants.{YIELD_TUPLES}

-- the most values that an answer may have
abbrev pub most_values : Wanted → ℕ
most_values (Outputs width several) = if several then YIELD_TUPLES * width else width
most_values Number = 0

-- there is room for so many values, unless an answer was heard
abbrev pub HasRoomForAnswer : Option Entry → Wanted → Option ℕ → Type 0
HasRoomForAnswer (Some e) wanted room = Unit {0}
HasRoomForAnswer None wanted (Some n) = most_values wanted ≤ n
HasRoomForAnswer None wanted None = ⊥

pub record IsReady (answer : Option Entry) (wanted : Wanted) (room : Option ℕ) : Type 0 where
  pub narrow : IsNarrow wanted
  pub enough : HasRoomForAnswer answer wanted room
