-- Why a text is refused.
use Rattle.std.specs.Prelude.{◌≡◌, ℕ, List, Ok, Err}
use Rattle.sexpr_text.specs.Reading.{reading}
use Rattle.sexpr_text.specs.Trees.{Trees}
use Rattle.sexpr_text.specs.declared.fault.TextFault.{TextFault}
use Rattle.sexpr_text.specs.declared.fault.TextFault.TheVariants as text
use Rattle.form_reader.specs.declared.fault.Fault.{Fault}
use Rattle.form_reader.specs.declared.fault.InputFault.{InputFault}
use Rattle.form_reader.specs.declared.fault.InputFault.TheVariants as input
use Rattle.task_reader.specs.declared.refusal.FaultKind.{FaultKind}
use Rattle.task_reader.specs.declared.refusal.FaultKind.TheVariants.{BadByte, Unclosed, Extra, TooDeep, Input}
use Rattle.task_reader.specs.declared.refusal.InputRefusal.{InputRefusal}
use Rattle.task_reader.specs.declared.refusal.InputRefusal.TheVariants.{At, Memory}

-- The bytes spell a tree of which this holds.
pub record SpellsTree (bytes : List ℕ) (Holds : Trees → Type 0) : Type 0 where
  pub tree : Trees
  pub spelled : reading bytes ≡ Ok tree
  pub holds : Holds tree

-- The text is refused for a fault of this kind at this place: the first fault of bytes that spell no tree, or else the
-- fault of the tree that is answered.
abbrev pub IsRefused : (Trees → Fault → Type 0) → List ℕ → FaultKind → ℕ → Type 0
IsRefused IsAnswered bytes BadByte place = reading bytes ≡ Err (text.BadByte place)
IsRefused IsAnswered bytes Unclosed place = reading bytes ≡ Err (text.Unclosed place)
IsRefused IsAnswered bytes Extra place = reading bytes ≡ Err (text.Extra place)
IsRefused IsAnswered bytes TooDeep place = reading bytes ≡ Err (text.TooDeep place)
IsRefused IsAnswered bytes (Input kind) place =
    SpellsTree bytes (λ t. IsAnswered t (record { place = place; kind = kind }))

-- A refusal has its cause. Memory is free.
abbrev pub Refuses : (FaultKind → ℕ → Type 0) → InputRefusal → Type 0
Refuses HasCause (At kind place) = HasCause kind place
Refuses HasCause Memory = Unit {0}

abbrev pub refused : FaultKind → ℕ → InputRefusal
refused kind place = At kind place

-- the refusal for a fault of bytes
abbrev pub of_text : TextFault → InputRefusal
of_text (text.BadByte place) = At BadByte place
of_text (text.Unclosed place) = At Unclosed place
of_text (text.Extra place) = At Extra place
of_text (text.TooDeep place) = At TooDeep place
of_text text.Memory = Memory

-- the refusal for a fault of a tree
abbrev pub of_input : InputFault → InputRefusal
of_input (input.At place kind) = At (Input kind) place
of_input input.Memory = Memory
