use Rattle.report_text.specs.Forms.{IsFormedUse}
use Rattle.report_text.specs.Texts.{use_line}
use Rattle.report_reader.specs.Finding.{TakesMany}
use Rattle.report_reader.proofs.body_reader.uses_in.Given as goal

abbrev pub invariant-loop : goal.invariant-loop
invariant-loop l = TakesMany IsFormedUse use_line l.counter l.uses.items l.fn.lines l.lines
