use Rattle.std.proofs.Common.{◌++◌, ◌∷◌, [], take, sym, subst}
use Rattle.learning.specs.Knowledge.{IsKnowledge}
use Rattle.transcript_model.specs.Legal.{IsRightAsk}
use Rattle.transcript_model.specs.declared.entry.Entry.TheVariants as entry
use Rattle.transcript_model.specs.declared.limits.TheConstants.{MOST_CALLS}
use Rattle.legal_report.proofs.WalksLemmas.{ask_number, ask_refused, ask_taken, few_asked}
use Rattle.legal_report.specs.Talks.{IsAskedBy}
use Rattle.legal_report.proofs.walk.Walk.take_ask.Goals as goal

pub ask-requires : goal.ask-requires
ask-requires c =
    let w = c.args.self.now in
    let before = take c.args.place w.entries.now in
    let said = subst (IsAskedBy MOST_CALLS w.task.now before c.args.request.now.number c.args.request.now.turn c.args.request.now.call.now) c.in-Some.is
    (c.in_ok-instance.ensures w.version before c.requires.stands.knowledge) in
    few_asked w c.args.place c.args.knowledge.now c.requires.stands c.args.request.now.number c.args.request.now.turn c.args.request.now.call.now c.requires.here
    c.in-Some.instance said

pub returns-in_ok-ask-in-Some : goal.returns-in_ok-ask-in-Some
returns-in_ok-ask-in-Some c =
    let w = c.args.self.now in
    let task = w.task.now in
    let before = take c.args.place w.entries.now in
    let said = subst (IsAskedBy MOST_CALLS task before c.args.request.now.number c.args.request.now.turn c.args.request.now.call.now) c.in-Some.is
    (c.in_ok-instance.ensures w.version before c.requires.stands.knowledge) in
    let number = ask_number w c.args.place c.args.knowledge.now c.requires.stands c.args.request.now.number c.args.request.now.turn c.args.request.now.call.now
    c.requires.here c.in-Some.instance said in
    let kept = c.in_ok-ask-in-Some.ensures.kept w.version c.args.request.now.turn task before c.args.request.now.call.now c.requires.stands.knowledge
    (subst (λ n. IsRightAsk task before n c.args.request.now.turn c.args.request.now.call.now) number said.0) said.2 in
    let knowledge =
    subst (λ n. IsKnowledge w.version task (before ++ entry.Ask n c.args.request.now.turn c.args.request.now.call.now ∷ []) c.ask.new.self) (sym number)
    kept in
    ask_taken w c.args.place c.args.knowledge.now c.requires.stands c.args.request.now.number c.args.request.now.turn c.args.request.now.call.now c.requires.here
    c.in-Some.instance said c.ask.new.self knowledge

pub returns-in-None : goal.returns-in-None
returns-in-None c =
    let w = c.args.self.now in
    let before = take c.args.place w.entries.now in
    ask_refused w c.args.place c.args.knowledge.now c.requires.stands c.args.request.now.number c.args.request.now.turn c.args.request.now.call.now c.requires.here
    (subst (IsAskedBy MOST_CALLS w.task.now before c.args.request.now.number c.args.request.now.turn c.args.request.now.call.now) c.in-None.is
    (c.in_ok-instance.ensures w.version before c.requires.stands.knowledge))
