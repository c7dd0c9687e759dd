use Rattle.std.proofs.Common.{◌∙◌, ◌++◌, ◌∷◌, [], take, sym, subst}
use Rattle.std.proofs.lemmas.Bool.{false≢true}
use Rattle.learning.specs.Knowledge.{IsKnowledge}
use Rattle.legal_report.specs.Talks.{IsAskedBy}
use Rattle.transcript_model.specs.Legal.{IsRightAsk}
use Rattle.transcript_model.specs.declared.entry.Entry.TheVariants as entry
use Rattle.replay_check.proofs.WalksLemmas.{ask_is_refused, ask_number, ask_out_of_order, ask_taken}
use Rattle.replay_check.proofs.standing.Standing.take_ask.Goals as goal

pub returns-in_default : goal.returns-in_default
returns-in_default c =
    let b = c.args.bounds.now in
    let can = c.requires.can in
    let before = take c.args.place c.args.entries.now in
    ask_is_refused b c.args.entries.now c.args.place c.args.self.now can c.args.request.now.number c.args.request.now.turn c.args.request.now.call.now c.requires.here
    c.in_ok-asked.asked c.in_default.is (c.in_ok-asked.ensures b.version before can.standing.stands.knowledge)

pub returns-then-not-is_next : goal.returns-then-not-is_next
returns-then-not-is_next c =
    let b = c.args.bounds.now in
    let can = c.requires.can in
    let before = take c.args.place c.args.entries.now in
    let said = subst (IsAskedBy b.calls b.task.now before c.args.request.now.number c.args.request.now.turn c.args.request.now.call.now) c.in-Some.is
    (c.in_ok-asked.ensures b.version before can.standing.stands.knowledge) in
    ask_out_of_order b c.args.entries.now c.args.place c.args.self.now can c.args.request.now.number c.args.request.now.turn c.args.request.now.call.now c.requires.here
    c.in-Some.instance said
    (λ next. false≢true (sym c.if-not-is_next.true ∙ c.is_next.ensures.no next))

pub returns : goal.returns
returns c =
    let b = c.args.bounds.now in
    let task = b.task.now in
    let s = c.args.self.now in
    let can = c.requires.can in
    let before = take c.args.place c.args.entries.now in
    let said = subst (IsAskedBy b.calls task before c.args.request.now.number c.args.request.now.turn c.args.request.now.call.now) c.in-Some.is
    (c.in_ok-asked.ensures b.version before can.standing.stands.knowledge) in
    let number =
    (ask_number b c.args.entries.now c.args.place s can c.args.request.now.number c.args.request.now.turn c.args.request.now.call.now c.requires.here c.in-Some.instance
    said).0 in
    let next = c.is_next.ensures.yes c.if-not-is_next.false in
    let kept = c.in_ok-ask.ensures.kept b.version c.args.request.now.turn task before c.args.request.now.call.now can.standing.stands.knowledge
    (subst (λ n. IsRightAsk task before n c.args.request.now.turn c.args.request.now.call.now) number said.0) said.2 in
    let knowledge =
    subst (λ n. IsKnowledge b.version task (before ++ entry.Ask n c.args.request.now.turn c.args.request.now.call.now ∷ []) c.ask.new.self) (sym number) kept in
    ask_taken b c.args.entries.now c.args.place s can c.args.request.now.number c.args.request.now.turn c.args.request.now.call.now c.requires.here
    (record { knowledge = c.ask.new.self; course = c.ask-2.new.self }) next said.0 knowledge c.ask-2.ensures
