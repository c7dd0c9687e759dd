-- The step that a line spells.
use Rattle.std.specs.Prelude.{◌≡◌, ◌==◌, ℕ, Bool, false, List, [], ◌∷◌, ◌++◌, drop, length, take, Option, Some, None, Result, Ok, Err, if◌then◌else◌, ⊤}
use Rattle.form_reader.specs.declared.fault.InputKind.TheVariants as input
use Rattle.sexpr_text.specs.Reading.{reading}
use Rattle.sexpr_text.specs.Trees.{Trees, nothing, word, list}
use Rattle.sexpr_text.specs.declared.fault.TextFault.{TextFault}
use Rattle.sexpr_text.specs.declared.fault.TextFault.TheVariants as text
use Rattle.task_reader.specs.declared.refusal.FaultKind.{FaultKind}
use Rattle.task_reader.specs.declared.refusal.FaultKind.TheVariants.{BadByte, Unclosed, Extra, TooDeep, Input}
use Rattle.transcript_model.specs.declared.entry.Call.{Call}
use Rattle.plan_reader.specs.Lines.{is_idle, step_bytes}
use Rattle.plan_reader.specs.declared.fault.LineFault.{LineFault}
use Rattle.plan_reader.specs.declared.fault.LineFault.TheVariants.{Wrong, Memory}

-- ---- answers

-- What failed so fails by the definition too. Want of memory says nothing.
abbrev pub LineFails : {Y : Type 0} → LineFault → Result Y FaultKind → Type 0
LineFails (Wrong kind) read = read ≡ Err kind
LineFails Memory read = ⊤

-- what was answered is what the definition gives
abbrev pub LineGives : {X Y : Type 0} → (X → Y) → Result X LineFault → Result Y FaultKind → Type 0
LineGives view (Ok x) read = read ≡ Ok (view x)
LineGives view (Err fault) read = LineFails fault read

-- ---- steps

-- words, and then those that were read
abbrev pub behind_words : List (List ℕ) → Result (List (List ℕ)) FaultKind → Result (List (List ℕ)) FaultKind
behind_words words (Ok more) = Ok (words ++ more)
behind_words words (Err kind) = Err kind

-- a word that begins so is the name of a generated object
abbrev pub is_generated : List ℕ → Bool
is_generated [] = false
is_generated (b ∷ bs) = b == 35

-- the word of some bytes that is read so at this place: a generated object's as it stands, and any other in lower case
abbrev pub word_as : List ℕ → List ℕ → ℕ → List ℕ
word_as bytes text place = if is_generated text then take (length text) (drop place bytes) else text

-- the words of a row of nothing else, in these bytes
abbrev pub words_in : List ℕ → Trees → Result (List (List ℕ)) FaultKind
words_in bytes nothing = Ok []
words_in bytes (word text place rest) = behind_words (word_as bytes text place ∷ []) (words_in bytes rest)
words_in bytes (list items place rest) = Err (Input input.Shape)

-- a step of this action, with the words behind its name
abbrev pub call_with : List ℕ → Result (List (List ℕ)) FaultKind → Result Call FaultKind
call_with name (Ok args) = Ok (record { name = name; args = args })
call_with name (Err kind) = Err kind

-- the step in a list: the name of an action, and those of objects
abbrev pub step_in : List ℕ → Trees → Result Call FaultKind
step_in bytes (word name place rest) = call_with name (words_in bytes rest)
step_in bytes nothing = Err (Input input.Shape)
step_in bytes (list items place rest) = Err (Input input.Shape)

-- the step that a tree is
abbrev pub step_of_tree : List ℕ → Trees → Result Call FaultKind
step_of_tree bytes (list items place rest) = step_in bytes items
step_of_tree bytes nothing = Err (Input input.Shape)
step_of_tree bytes (word text place rest) = Err (Input input.Shape)

-- the kind of a fault; no bytes are refused for the last
abbrev pub kind_of_text : TextFault → FaultKind
kind_of_text (text.BadByte place) = BadByte
kind_of_text (text.Unclosed place) = Unclosed
kind_of_text (text.Extra place) = Extra
kind_of_text (text.TooDeep place) = TooDeep
kind_of_text text.Memory = Input input.Shape

-- a line whose step has this fault is told so
abbrev pub IsFaultFor : TextFault → LineFault → Type 0
IsFaultFor text.Memory fault = fault ≡ Memory
IsFaultFor why fault = fault ≡ Wrong (kind_of_text why)

-- the step that was read as a tree
abbrev pub call_read : List ℕ → Result Trees TextFault → Result Call FaultKind
call_read bytes (Ok tree) = step_of_tree bytes tree
call_read bytes (Err fault) = Err (kind_of_text fault)

-- the step that the bytes spell, or the kind of their fault
abbrev pub call_spelled : List ℕ → Result Call FaultKind
call_spelled bytes = call_read bytes (reading bytes)

-- ---- lines

-- a step is said
abbrev pub one_said : Result Call FaultKind → Result (Option Call) FaultKind
one_said (Ok call) = Ok (Some call)
one_said (Err kind) = Err kind

-- what a line says: nothing, a step, or what is no step
abbrev pub said_by : List ℕ → Result (Option Call) FaultKind
said_by line = if is_idle line then Ok None else one_said (call_spelled (step_bytes line))
