use Rattle.std.proofs.Common.{◌≡◌, true, false, sym, ap, refl, ◌∙◌}
use Rattle.validate_app.proofs.StepsLemmas.{no_action, other_count}
use Rattle.validate_app.specs.Steps.{action_called}
use Rattle.validate_app.proofs.step.Scene.take.Goals as goal

pub returns-in_default-clause-taken : goal.returns-in_default-clause-taken
returns-in_default-clause-taken g c =
    let task = c.args.self.now.task.now in (
      no_action task c.args.self.now.facts.now.known (g.B.Board.atoms c.args.board.now) c.args.call.now
          (ap (action_called task) (sym c.bytes.ensures) ∙ sym c.in_default.ensures),
      refl,
    )

pub take_counted-requires-clause-counted : goal.take_counted-requires-clause-counted
take_counted-requires-clause-counted g c = (
  c.in-Some.action.now,
  ap (action_called c.args.self.now.task.now) (sym c.bytes.ensures) ∙ sym c.in-Some.ensures,
  c.has_count.ensures.0 c.if-has_count.true,
)

pub returns-else-has_count-clause-taken : goal.returns-else-has_count-clause-taken
returns-else-has_count-clause-taken g c =
    let task = c.args.self.now.task.now in (
      other_count task c.args.self.now.facts.now.known
          (g.B.Board.atoms c.args.board.now) c.args.call.now c.in-Some.action.now
          (ap (action_called task) (sym c.bytes.ensures) ∙ sym c.in-Some.ensures)
          (λ same. let yes : c.has_count.result ≡ true = c.has_count.ensures.1 same in
          let no : c.has_count.result ≡ false = c.if-has_count.false in absurd (cc)),
      refl,
    )
