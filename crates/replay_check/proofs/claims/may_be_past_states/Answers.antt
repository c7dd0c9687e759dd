use Rattle.std.proofs.Common.{◌≡◌, ◌↔◌, ◌∙◌, sym, IsTrue, true}
use Rattle.std.proofs.lemmas.Bool.{false≢true}
use Rattle.std.proofs.lemmas.Result.{IfOk-weaker}
use Rattle.task_model.specs.Streams.{NothingIsDue}
use Rattle.transcript_model.specs.Transcript.{known_of, notes_of}
use Rattle.transcript_model.specs.declared.head.Mode.TheVariants.{Incremental}
use Rattle.replay_check.proofs.claims.may_be_past_states.Goals as goal

pub returns : goal.returns
returns c = λ entries h.
    let b = c.args.bounds.now in
    let none = NothingIsDue b.task.now (known_of b.task.now entries) (notes_of b.task.now entries) in
    let dreams : ¬ (b.mode ≡ Incremental) = λ is.
    let yes : c.eq.result ≡ true = rw is at c.eq.ensures in false≢true (sym c.if-eq.false ∙ yes)
    in
    IfOk-weaker c.is_nothing_due.result (λ yes. IsTrue yes ↔ none) (λ yes. IsTrue yes ↔ (¬ (b.mode ≡ Incremental) → none))
    (λ yes same. (λ t other. same.0 t, λ all. same.1 (all dreams))) (c.is_nothing_due.ensures entries h)
