-- How kinds of faults are printed.
use Rattle.std.specs.Prelude.{ℕ, List, codes}
use Rattle.form_reader.specs.declared.fault.InputKind.{InputKind}
use Rattle.form_reader.specs.declared.fault.InputKind.TheVariants as input
use Rattle.task_reader.specs.declared.refusal.FaultKind.{FaultKind}
use Rattle.task_reader.specs.declared.refusal.FaultKind.TheVariants.{BadByte, Unclosed, Extra, TooDeep, Input}

abbrev pub input_word : InputKind → List ℕ
input_word input.Shape = codes "shape"
input_word input.Unsupported = codes "unsupported"
input_word input.Unknown = codes "unknown"
input_word input.Arity = codes "arity"
input_word input.Duplicate = codes "duplicate"
input_word input.TypeCycle = codes "type-cycle"
input_word input.DerivedCycle = codes "derived-cycle"
input_word input.EffectOnStatic = codes "effect-on-static"
input_word input.Number = codes "number"
input_word input.TooMany = codes "too-many"
input_word input.StreamCycle = codes "stream-cycle"

-- how a kind of fault is printed
abbrev pub kind_word : FaultKind → List ℕ
kind_word BadByte = codes "bad-byte"
kind_word Unclosed = codes "unclosed"
kind_word Extra = codes "extra"
kind_word TooDeep = codes "too-deep"
kind_word (Input kind) = input_word kind
