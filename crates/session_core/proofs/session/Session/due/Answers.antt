use Rattle.std.proofs.Common.{ap, subst, ◌∙◌, take, IfOk, IfErr}
use Rattle.std.proofs.Math.Seq.{take-length}
use Rattle.std.proofs.lemmas.Result.{IfOk-weaker}
use Rattle.instance_queue.specs.Level.{AreDueInTurn, HasLevelCause}
use Rattle.transcript_model.specs.Transcript.{known_of, notes_of}
use Rattle.session_core.proofs.ReadyLemmas.{level_ready}
use Rattle.session_core.specs.Ready.{AreReady}
use Rattle.session_core.specs.State.{State}
use Rattle.session_core.proofs.session.Session.due.Goals as goal

pub returns-clause-due : goal.returns-clause-due
returns-clause-due c =
    let task = c.args.task.now in
    let s = c.args.self.now in
    let all = ap (λ n. take n s.entries) c.requires.learnt.all ∙ take-length s.entries in
    let known = ap (λ (t : State). t.known) c.self.view_is ∙ c.requires.session.known c.requires.working ∙ ap (known_of task) all in
    let notes = ap (λ (t : State). t.notes) c.self.view_is ∙ c.requires.session.notes c.requires.working ∙ ap (notes_of task) all in
    subst (λ ns. IfOk c.next_level.result (λ dues. AreDueInTurn task (known_of task s.entries) ns dues.items)) notes
    (subst (λ k. IfOk c.next_level.result (λ dues. AreDueInTurn task k c.self.inside.knowledge.queue dues.items)) known
    c.next_level.ensures.due)

pub returns-clause-fault : goal.returns-clause-fault
returns-clause-fault c =
    let task = c.args.task.now in
    let s = c.args.self.now in
    let all = ap (λ n. take n s.entries) c.requires.learnt.all ∙ take-length s.entries in
    let known = ap (λ (t : State). t.known) c.self.view_is ∙ c.requires.session.known c.requires.working ∙ ap (known_of task) all in
    let notes = ap (λ (t : State). t.notes) c.self.view_is ∙ c.requires.session.notes c.requires.working ∙ ap (notes_of task) all in
    subst (λ ns. IfErr c.next_level.result (HasLevelCause task (known_of task s.entries) ns)) notes
    (subst (λ k. IfErr c.next_level.result (HasLevelCause task k c.self.inside.knowledge.queue)) known c.next_level.ensures.fault)

pub returns-clause-ready : goal.returns-clause-ready
returns-clause-ready c =
    let task = c.args.task.now in
    let s = c.args.self.now in
    IfOk-weaker c.next_level.result (λ dues. AreDueInTurn task (known_of task s.entries) (notes_of task s.entries) dues.items)
    (λ dues. AreReady task s.entries dues.items) (λ dues level. level_ready task s.entries dues.items level) (returns-clause-due c)
