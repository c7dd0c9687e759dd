use Rattle.std.proofs.Common.{refl, sym}
use Rattle.std.proofs.lemmas.List.{append-nil}
use Rattle.report_text.proofs.PrintsLemmas.{appends_then, prints_cut, prints_later}
use Rattle.report_text.specs.Texts.{done_line, line_text}
use Rattle.round_run.specs.declared.fault.RunFault.TheVariants.{Write}
use Rattle.turn_run.specs.Reports.{text_of_end}
use Rattle.turn_run.proofs.print.print_end.Goals as goal

pub returns-in_err-put_outcome-clause-told : goal.returns-in_err-put_outcome-clause-told
returns-in_err-put_outcome-clause-told g c =
    prints_cut c.from_residual.result Write (g.O.Sink.taken c.args.out.now) (g.O.Sink.taken c.put_outcome.new.out) _ (line_text done_line) _
    (refl) c.from_residual.ensures.1 c.in_err-put_outcome.ensures.told

pub returns-in_err-write_all-clause-told : goal.returns-in_err-write_all-clause-told
returns-in_err-write_all-clause-told g c =
    let (count, less, took) = c.in_err-write_all.ensures.part in
    prints_later c.from_residual-in_err-write_all.result Write (g.O.Sink.taken c.args.out.now) (g.O.Sink.taken c.put_outcome.new.out)
    (g.O.Sink.taken c.write_all.new.out) _ (line_text done_line) _ _
    (sym (append-nil (text_of_end c.args.version c.args.outcome.now))) c.from_residual-in_err-write_all.ensures.1
    c.in_ok-put_outcome.ensures.told (record { count = count; less = less; took = took })

pub returns-clause-told : goal.returns-clause-told
returns-clause-told g c =
    appends_then (g.O.Sink.taken c.args.out.now) (g.O.Sink.taken c.put_outcome.new.out) (g.O.Sink.taken c.write_all.new.out) _ _
    c.in_ok-put_outcome.ensures.told c.in_ok-write_all.ensures.all
