-- The exit status of the program for each way in which a run ends.
use Rattle.std.specs.Prelude.{ℕ}
use Rattle.command_files.specs.declared.status.Status.{Status}
use Rattle.command_files.specs.declared.status.Status.TheVariants.{Plan, Done, NoPlan, Limit, Usage, Input, BadAnswer, ReadFault, GeneratorFault, WriteFault, Memory, Invalid}

-- the exit status
abbrev pub code_of : Status → ℕ
code_of Plan = 0
code_of Done = 0
code_of NoPlan = 1
code_of Limit = 2
code_of Usage = 3
code_of Input = 4
code_of BadAnswer = 5
code_of ReadFault = 6
code_of GeneratorFault = 7
code_of WriteFault = 8
code_of Memory = 9
code_of Invalid = 10
