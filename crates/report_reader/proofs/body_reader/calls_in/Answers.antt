use Rattle.std.proofs.Common.{rules, ◌≡◌, ◌+◌, ◌++◌, ◌∷◌, [], Some, sym, subst}
use Rattle.report_text.specs.Forms.{IsFormedCall, IsTerm}
use Rattle.report_text.specs.Texts.{call_fields, line}
use Rattle.transcript_model.specs.declared.entry.Call.{Call}
use Rattle.report_reader.specs.Finding.{TakesMany, TakesLine}
use Rattle.report_reader.proofs.FindingLemmas.{many_next}
use Rattle.report_reader.proofs.body_reader.calls_in.Goals as goal

pub loop-preserved : goal.loop-preserved
loop-preserved c =
    let took : TakesLine (IsFormedCall IsTerm) (λ (call : Call). line c.args.word.now (call_fields call))
    (Some c.in-Some.call) c.loop.lines c.next_call.new.lines =
    subst (λ f. TakesLine (IsFormedCall IsTerm)
    (λ (call : Call). line c.args.word.now (call_fields call)) f c.loop.lines c.next_call.new.lines) c.in-Some.is
    c.in_ok-call.ensures in
    let items : c.push.new.self.items ≡ c.loop.calls.items ++ c.in-Some.call ∷ [] = search rules in
    subst (λ xs. TakesMany (IsFormedCall IsTerm) (λ (call : Call). line c.args.word.now (call_fields call))
    (c.loop.counter + 1) xs c.args.lines.now c.next_call.new.lines) (sym items)
    (many_next (IsFormedCall IsTerm) (λ (call : Call). line c.args.word.now (call_fields call)) c.loop.counter c.loop.calls.items
    c.in-Some.call c.args.lines.now c.loop.lines c.next_call.new.lines c.loop.invariant took)
