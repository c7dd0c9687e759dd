-- The exit status of the program for each way in which a run ends.
use Rattle.std.specs.Prelude.{ℕ}
use Rattle.validate_app.specs.declared.status.Status.{Status}
use Rattle.validate_app.specs.declared.status.Status.TheVariants.{Valid, Invalid, Usage, Input, ReadFault, WriteFault, Memory}

abbrev pub validation_code : Status → ℕ
validation_code Valid = 0
validation_code Invalid = 1
validation_code Usage = 3
validation_code Input = 4
validation_code ReadFault = 6
validation_code WriteFault = 8
validation_code Memory = 9
