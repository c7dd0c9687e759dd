use Rattle.std.proofs.Common.{Option, drop}
use Rattle.form_reader.specs.declared.fault.Fault.{Fault}
use Rattle.name_tables.specs.Cycles.{AnswersCycles}
use Rattle.name_tables.proofs.cycles.check_cycles.Given as goal

-- what is answered of the candidates that are left is answered of all
abbrev pub invariant-loop-candidate : goal.invariant-loop-candidate
invariant-loop-candidate l =
    (f : Option Fault) → AnswersCycles l.kind l.edges (drop l.candidate-index l.candidates) l.found f
    → AnswersCycles l.kind l.edges l.candidates l.fn.so_far f
