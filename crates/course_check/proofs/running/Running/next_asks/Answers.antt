use Rattle.std.proofs.Common.{◌≡◌, ◌∙◌, ◌+◌, ◌++◌, [], List, length, sym, subst}
use Rattle.std.proofs.lemmas.Result.{IfOk-weaker}
use Rattle.dream_asks.specs.Noting.{WereMade}
use Rattle.dream_asks.specs.Progress.{IsProgress, numbered}
use Rattle.dream_asks.specs.declared.asks.DreamAsk.{DreamAsk}
use Rattle.course_check.specs.Running.{run_of, sent_of}
use Rattle.transcript_model.specs.Dreaming.{next_sent, sent_instances}
use Rattle.course_check.proofs.running.Running.next_asks.Goals as goal

pub returns : goal.returns
returns c =
    let task = c.args.task.now in
    let names = c.args.facts.now.known.names in
    let behind = c.args.behind.now in
    let run = run_of c.args.self.now in
    let gone = c.note.new.self in
    IfOk-weaker c.next_asks.result _ _ (λ asks next. λ version before number made known notes.
    let noted = c.in_ok-note.ensures.noted version task before []
    (subst (λ (l : List DreamAsk). WereMade version task before behind names (run.before + 1) (length l)) (sym c.as_slice.ensures.value)
    made)
    (c.new-gone.ensures.none task before) in
    let progress : IsProgress task (before ++ behind) gone (sent_of run) =
    subst (λ (l : List DreamAsk). IsProgress task (before ++ behind) gone (numbered (run.before + 1) l)) c.as_slice.ensures.value
    noted in
    let real : gone.real ≡ run.real = c.in_ok-note.ensures.real ∙ c.new-gone.ensures.real in
    next (before ++ behind) (sent_of run) number known notes progress
    ∙ (λ i. next_sent task (before ++ behind) (real i) (sent_of run) number (sent_instances (sent_of run))
    (c.as_slice-2.ensures.value i)))
    c.next_asks.ensures
