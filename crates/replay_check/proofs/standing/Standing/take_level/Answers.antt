use Rattle.std.proofs.Common.{◌≡◌, ◌∙◌, length, take, refl, sym, arith}
use Rattle.std.proofs.lemmas.Bool.{false≢true}
use Rattle.replay_check.proofs.WalksTurnLemmas.{begins_counted, level_not_due, level_refused, level_taken}
use Rattle.replay_check.proofs.standing.Standing.take_level.Goals as goal

pub returns-then-not-asks_level : goal.returns-then-not-asks_level
returns-then-not-asks_level c =
    level_refused c.args.bounds.now c.args.entries.now c.args.place c.args.self.now c.requires.can c.requires.here
    (λ asks. false≢true (sym c.if-not-asks_level.true ∙ c.asks_level.ensures.1 asks))

pub returns-in_default : goal.returns-in_default
returns-in_default c =
    let none = c.in_ok-dues.ensures.none (take c.args.place c.args.entries.now) c.requires.can.standing.stands in
    level_not_due c.args.bounds.now c.args.entries.now c.args.place c.args.self.now c.requires.can c.requires.here
    (rw c.in_default.is at none)

pub returns : goal.returns
returns c =
    let b = c.args.bounds.now in
    let entries = c.args.entries.now in
    let place = c.args.place in
    let s = c.args.self.now in
    let can = c.requires.can in
    let dues = c.in-Some.dues.items in
    let some = c.in_ok-dues.ensures.some (take place entries) can.standing.stands in
    let counted : c.len-before.result ≡ length s.knowledge.asked.items = omega (arith, c.len-before.ensures, s.knowledge.asked.ok) in
    level_taken b entries place s can c.requires.here (record { knowledge = s.knowledge; course = c.begin_level.new.self }) dues refl
    (rw c.in-Some.is at some)
    (begins_counted b entries place s can dues c.len-before.result c.begin_level.new.self (λ n. s.course.kept) counted
    c.begin_level.ensures) (c.asks_level.ensures.0 c.if-not-asks_level.false)
