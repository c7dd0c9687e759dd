-- The plan that a text spells.
use Rattle.std.specs.Prelude.{◌≡◌, ℕ, ◌+◌, List, [], ◌∷◌, ◌++◌, length, Option, Some, None, Result, Ok, Err}
use Rattle.task_reader.specs.declared.refusal.FaultKind.{FaultKind}
use Rattle.task_reader.specs.declared.refusal.InputRefusal.{InputRefusal}
use Rattle.task_reader.specs.declared.refusal.InputRefusal.TheVariants as refusal
use Rattle.transcript_model.specs.declared.entry.Call.{Call}
use Rattle.plan_reader.specs.Lines.{text_lines}
use Rattle.plan_reader.specs.Steps.{said_by}
use Rattle.plan_reader.specs.declared.fault.LineFault.{LineFault}
use Rattle.plan_reader.specs.declared.fault.LineFault.TheVariants.{Wrong, Memory}

-- A line that is no step: its fault, and the place of its first byte.
pub record WrongLine : Type 0 where
  pub kind : FaultKind
  pub place : ℕ

-- steps, and then those that were read
abbrev pub behind_calls : List Call → Result (List Call) WrongLine → Result (List Call) WrongLine
behind_calls calls (Ok more) = Ok (calls ++ more)
behind_calls calls (Err wrong) = Err wrong

-- what the line at this place says, and then the steps of the lines behind it
abbrev pub said_then : ℕ → Result (Option Call) FaultKind → Result (List Call) WrongLine
    → Result (List Call) WrongLine
said_then place (Ok None) more = more
said_then place (Ok (Some call)) more = behind_calls (call ∷ []) more
said_then place (Err kind) more = Err (record { kind = kind; place = place })

-- behind these steps the line says what makes them those
abbrev pub AddsStep : List Call → List ℕ → List Call → Type 0
AddsStep calls line more_calls =
    (place : ℕ) (more : Result (List Call) WrongLine)
    → behind_calls calls (said_then place (said_by line) more) ≡ behind_calls more_calls more

-- the steps of lines, the first of which begins at this place, or the first of them that is no step
abbrev pub steps_of : ℕ → List (List ℕ) → Result (List Call) WrongLine
steps_of place [] = Ok []
steps_of place (line ∷ lines) =
    said_then place (said_by line) (steps_of (place + length line + 1) lines)

-- the steps that the text spells, or its first line that is none
unfoldable pub plan_of : List ℕ → Result (List Call) WrongLine
plan_of text = steps_of 0 (text_lines text)

-- the text is these steps
abbrev pub SpellsPlan : List ℕ → List Call → Type 0
SpellsPlan text calls = plan_of text ≡ Ok calls

-- the text is no plan: its first line that is no step begins at this place, and has this fault
abbrev pub RefusesPlan : List ℕ → FaultKind → ℕ → Type 0
RefusesPlan text kind place = plan_of text ≡ Err (record { kind = kind; place = place })

-- the refusal of a plan whose line at this place has the fault
abbrev pub refusal_at : LineFault → ℕ → InputRefusal
refusal_at (Wrong kind) place = refusal.At kind place
refusal_at Memory place = refusal.Memory
