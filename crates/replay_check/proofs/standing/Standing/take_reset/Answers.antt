use Rattle.std.proofs.Common.{◌≡◌, ◌∙◌, ◌<◌, [], length, refl, sym, ap, arith}
use Rattle.std.proofs.lemmas.Bool.{false≢true}
use Rattle.course_check.specs.Agendas.{ModeAgenda}
use Rattle.replay_check.proofs.WalksTurnLemmas.{reset_refused, reset_taken, some_in}
use Rattle.replay_check.proofs.standing.Standing.take_reset.Goals.{then-not-has_nothing-via-then-not-has_nothing, then-not-has_nothing-via-else-not-has_nothing+then-is_empty}
use Rattle.replay_check.proofs.standing.Standing.take_reset.Goals as goal

pub returns-then-not-has_nothing : goal.returns-then-not-has_nothing
returns-then-not-has_nothing c =
    reset_refused c.args.bounds.now c.args.entries.now c.args.place c.args.self.now c.requires.can c.requires.here
    (λ both. elim c.then-not-has_nothing.branch [
      | then-not-has_nothing-via-then-not-has_nothing w ↦
          false≢true (sym w.if-not-has_nothing.true ∙ c.has_nothing.ensures.1 both.0)
      | then-not-has_nothing-via-else-not-has_nothing+then-is_empty w ↦
          let none : c.args.self.now.course.kept.tried ≡ [] = sym w.tried.ensures ∙ w.is_empty.ensures.0 w.if-is_empty.true in
          omega (arith, both.1, ap length none)
    ])

pub returns : goal.returns
returns c =
    let some : 0 < length c.args.self.now.course.kept.tried =
    some_in c.args.self.now.course.kept.tried
    (λ none. false≢true (sym c.if-is_empty.false ∙ c.is_empty.ensures.1 (c.tried.ensures ∙ none))) in
    reset_taken c.args.bounds.now c.args.entries.now c.args.place c.args.self.now c.requires.can c.requires.here
    (record { knowledge = c.args.self.now.knowledge; course = c.reset.new.self }) (c.has_nothing.ensures.0 c.if-not-has_nothing.false) some
    refl (ap (λ (a : ModeAgenda). a.batch) c.reset.ensures) (ap (λ (a : ModeAgenda). a.phase) c.reset.ensures) (ap (λ (a : ModeAgenda). a.kept) c.reset.ensures)
