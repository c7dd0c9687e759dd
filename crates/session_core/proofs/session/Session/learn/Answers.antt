use Rattle.std.proofs.Common.{◌≡◌, ◌≤◌, true, length, take, ap, sym, subst, ◌∙◌, arith}
use Rattle.transcript_model.specs.Transcript.{known_of, notes_of}
use Rattle.session_core.proofs.SessionLearnLemmas.{all_learnt, can_learn, knowledge_becomes, not_learnt}
use Rattle.learning.specs.Learning.{CanLearn}
use Rattle.session_core.specs.Session.{IsSession, after_learn}
use Rattle.session_core.specs.Shown.{shown_session}
use Rattle.fact_store.specs.Growth.{IsBetween, LiesBetween}
use Rattle.session_core.specs.State.{State}
use Rattle.session_core.proofs.session.Session.learn.Goals as goal

pub learn-learnt-requires-clause-can : goal.learn-learnt-requires-clause-can
learn-learnt-requires-clause-can c =
    let task = c.args.task.now in
    let s = shown_session c.self.inside in
    let was = subst (IsSession task) (sym c.self.view_is) c.requires.session in
    let few : length s.asked ≤ 100000 = omega (arith, c.self.invariant.few, c.self.invariant.calls) in
    subst (λ es. CanLearn task s.asked es) (sym c.as_slice-entries.ensures.value) (can_learn task s was few)

pub learn-learnt-requires-clause-known : goal.learn-learnt-requires-clause-known
learn-learnt-requires-clause-known c =
    let task = c.args.task.now in
    let s = shown_session c.self.inside in
    let was = subst (IsSession task) (sym c.self.view_is) c.requires.session in
    was.known c.if-self.false ∙ ap (λ es. known_of task (take s.learnt es)) (sym c.as_slice-entries.ensures.value)

-- what is shown where all was learnt
pub returns-in-Ok-clause-learnt : goal.returns-in-Ok-clause-learnt
returns-in-Ok-clause-learnt c =
    let task = c.args.task.now in
    let s = shown_session c.self.inside in
    let known : c.learn-learnt.new.self.facts.known ≡ known_of task s.entries =
    c.in-Ok.ensures.known ∙ ap (known_of task) c.as_slice-entries.ensures.value in
    let notes : c.learn-learnt.new.self.queue ≡ notes_of task s.entries =
    c.in-Ok.ensures.notes ∙ ap (notes_of task) c.as_slice-entries.ensures.value in
    let long : c.len-self-inside.result ≡ length s.entries = c.len-self-inside.ensures ∙ c.self.inside.entries.ok.0 in
    let asked : c.learn-learnt.new.self.asked.items ≡ s.asked = λ i. (c.learn-learnt.ensures.asked i).items in
    let after : knowledge_becomes s c.learn-learnt.new.self.asked.items c.learn-learnt.new.self.facts.known c.learn-learnt.new.self.queue
    c.len-self-inside.result s.failed ≡ after_learn task s =
    λ i. knowledge_becomes s (asked i) (known i) (notes i) (long i) (c.if-self.false i) in
    after ∙ ap (after_learn task) c.self.view_is

pub returns-in-Ok-clause-kept : goal.returns-in-Ok-clause-kept
returns-in-Ok-clause-kept c =
    let task = c.args.task.now in
    let s = shown_session c.self.inside in
    let known : c.learn-learnt.new.self.facts.known ≡ known_of task s.entries =
    c.in-Ok.ensures.known ∙ ap (known_of task) c.as_slice-entries.ensures.value in
    let notes : c.learn-learnt.new.self.queue ≡ notes_of task s.entries =
    c.in-Ok.ensures.notes ∙ ap (notes_of task) c.as_slice-entries.ensures.value in
    let long : c.len-self-inside.result ≡ length s.entries = c.len-self-inside.ensures ∙ c.self.inside.entries.ok.0 in
    let asked : c.learn-learnt.new.self.asked.items ≡ s.asked = λ i. (c.learn-learnt.ensures.asked i).items in
    let after : knowledge_becomes s c.learn-learnt.new.self.asked.items c.learn-learnt.new.self.facts.known c.learn-learnt.new.self.queue
    c.len-self-inside.result s.failed ≡ after_learn task s =
    λ i. knowledge_becomes s (asked i) (known i) (notes i) (long i) (c.if-self.false i) in
    subst (IsSession task) (sym after) (all_learnt task s (subst (IsSession task) (sym c.self.view_is) c.requires.session))

pub returns-in-Err-clause-kept : goal.returns-in-Err-clause-kept
returns-in-Err-clause-kept c =
    let task = c.args.task.now in
    let s = shown_session c.self.inside in
    let now = c.learn-learnt.new.self in
    let asked : now.asked.items ≡ s.asked = λ i. (c.learn-learnt.ensures.asked i).items in
    subst (λ is. IsSession task (knowledge_becomes s is now.facts.known now.queue s.learnt true)) (sym asked)
    (not_learnt task s now.facts.known now.queue (subst (IsSession task) (sym c.self.view_is) c.requires.session))

-- what is known and noted where memory was wanting
pub returns-in-Err-clause-part : goal.returns-in-Err-clause-part
returns-in-Err-clause-part c =
    let task = c.args.task.now in
    let s = shown_session c.self.inside in
    let now = c.learn-learnt.new.self.facts.known in
    λ _. subst (λ (t : State). LiesBetween t.known now (known_of task t.entries)) c.self.view_is
    (subst (λ es. LiesBetween s.known now (known_of task es)) c.as_slice-entries.ensures.value c.in-Err.ensures.part)

pub returns-in-Err-clause-notes : goal.returns-in-Err-clause-notes
returns-in-Err-clause-notes c =
    let task = c.args.task.now in
    let s = shown_session c.self.inside in
    let now = c.learn-learnt.new.self.queue in
    λ _. subst (λ (t : State). IsBetween t.notes now (notes_of task t.entries)) c.self.view_is
    (subst (λ es. IsBetween s.notes now (notes_of task es)) c.as_slice-entries.ensures.value c.in-Err.ensures.noted)
