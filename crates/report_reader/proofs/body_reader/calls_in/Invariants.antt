use Rattle.report_text.specs.Forms.{IsFormedCall, IsTerm}
use Rattle.report_text.specs.Texts.{call_fields, line}
use Rattle.report_reader.specs.Finding.{TakesMany}
use Rattle.report_reader.proofs.body_reader.calls_in.Given as goal

abbrev pub invariant-loop : goal.invariant-loop
invariant-loop l = TakesMany (IsFormedCall IsTerm) (λ call. line l.word (call_fields call)) l.counter l.calls.items l.fn.lines l.lines
