use Rattle.std.proofs.Common.{◌≡◌, ◌-◌, arith, drop, length, length-drop, subst, take, take_all}
use Rattle.dream_asks.specs.Noting.{NotesAnswers}
use Rattle.round_run.proofs.StoppedLemmas.{ok_map}
use Rattle.task_model.specs.Known.{Known}
use Rattle.solve_run.proofs.batches.note.Goals as goal

pub returns-clause-noted : goal.returns-clause-noted
returns-clause-noted c =
    let es = c.entries.result.now in
    let from = c.args.from in
    let whole : take (length es - from) (drop from es) ≡ drop from es =
    take_all (length es - from) (drop from es) (omega (arith, length-drop from es)) in
    let later = c.note.new.self in
    ok_map c.note.result _ _ (λ noted.
    subst (λ all. NotesAnswers c.args.session.now.known.names (drop from all) c.args.first c.args.asks.now c.args.gone.now later)
    c.entries.ensures
    (subst (λ (k : Known). NotesAnswers k.names (drop from es) c.args.first c.args.asks.now c.args.gone.now later) c.facts.ensures
    (subst (λ behind. NotesAnswers c.facts.result.now.known.names behind c.args.first c.args.asks.now c.args.gone.now later)
    whole noted))) c.note.ensures.noted
