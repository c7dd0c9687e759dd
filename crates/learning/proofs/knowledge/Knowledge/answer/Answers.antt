use Rattle.std.proofs.Common.{◌≡◌, ◌∙◌, ◌+◌, ◌++◌, ◌∷◌, [], List, sym, ap, subst, arith, take}
use Rattle.std.proofs.Math.Seq.{take-take}
use Rattle.std.proofs.lemmas.List.{length-take}
use Rattle.std.proofs.lemmas.Option.{slice_get_within}
use Rattle.learning.specs.Learning.{CanLearn}
use Rattle.transcript_model.specs.Transcript.{known_of, notes_of}
use Rattle.transcript_model.specs.declared.entry.Entry.{Entry}
use Rattle.learning.proofs.KnowledgeLemmas.{can, asked_here, answer_kept, on_both}
use Rattle.learning.specs.Knowledge.{IsKnowledge}
use Rattle.learning.specs.Numbers.{without}
use Rattle.learning.specs.declared.knowledge.Knowledge.{Knowledge}
use Rattle.learning.proofs.knowledge.Knowledge.answer.Goals as goal
use Rattle.lemmas.proofs.Members.{next_taken}

pub learn-requires-clause-can : goal.learn-requires-clause-can
learn-requires-clause-can c =
    let task = c.args.task.now in
    let l = c.args.self.now in
    let entries = c.args.entries.now in
    let there = c.requires.there in
    let next : take (c.args.place + 1) entries ≡ take c.args.place entries ++ there.0 ∷ [] =
    next_taken entries c.args.place there.0 there.1 in
    subst (λ (es : List Entry). CanLearn task l.asked.items es) (sym next)
    (can c.args.version task (take c.args.place entries) l there.0 c.args.number c.requires.knowledge c.requires.few there.2 there.3)

pub learn-requires-clause-from : goal.learn-requires-clause-from
learn-requires-clause-from c =
    omega (
      arith,
      length-take (c.args.place + 1) c.args.entries.now,
      slice_get_within c.args.entries.now c.args.place c.requires.there.0 c.requires.there.1,
    )

pub learn-requires-clause-known : goal.learn-requires-clause-known
learn-requires-clause-known c =
    c.requires.knowledge.known
    ∙ ap (known_of c.args.task.now) (sym (take-take c.args.place (c.args.place + 1) c.args.entries.now (omega arith)))

pub learn-requires-clause-notes : goal.learn-requires-clause-notes
learn-requires-clause-notes c =
    c.requires.knowledge.notes
    ∙ ap (notes_of c.args.task.now) (sym (take-take c.args.place (c.args.place + 1) c.args.entries.now (omega arith)))

pub returns : goal.returns
returns c =
    let task = c.args.task.now in
    let l = c.args.self.now in
    let entries = c.args.entries.now in
    let before = take c.args.place entries in
    let there = c.requires.there in
    let next : take (c.args.place + 1) entries ≡ before ++ there.0 ∷ [] = next_taken entries c.args.place there.0 there.1 in
    let new : Knowledge = c.learn.new.self in
    let asked : new.asked.items ≡ l.asked.items = λ i. (c.learn.ensures.asked i).items in
    let unanswered : new.unanswered.items ≡ without c.args.number l.unanswered.items =
    (λ i. (c.learn.ensures.unanswered i).items) ∙ c.in_ok-self.ensures ∙ ap (without c.args.number) c.as_slice.ensures.value in
    let a = asked_here c.args.version task before l there.0 c.args.number c.requires.knowledge c.requires.few there.2 there.3 in
    on_both c.learn.result c.learn.ensures.known c.learn.ensures.notes
    (λ known notes.
    subst (λ (es : List Entry). IsKnowledge c.args.version task es new) (sym next)
    (answer_kept c.args.version task before l there.0 c.args.number c.requires.knowledge c.requires.few there.2 there.3 new a.0 a.1
    (known ∙ ap (known_of task) next) (notes ∙ ap (notes_of task) next) asked unanswered))
