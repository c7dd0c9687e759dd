use Rattle.std.proofs.Common.{◌∙◌, sym}
use Rattle.std.proofs.lemmas.Bool.{false≢true}
use Rattle.replay_check.specs.Standings.{limits_by}
use Rattle.replay_check.proofs.FindingsPlaceLemmas.{has_its_place, misplaced, none_waits}
use Rattle.replay_check.proofs.FindingsLemmas.{misplaced_found}
use Rattle.replay_check.proofs.standing.Standing.judge_outcome.Goals as goal

pub returns-then-not-has_place : goal.returns-then-not-has_place
returns-then-not-has_place c =
    let b = c.args.bounds.now in
    let entries = c.args.entries.now in
    let o = c.args.outcome.now in
    misplaced_found (limits_by b) b.limit b.task.now entries o
    (misplaced b c.requires.bounds entries c.args.self.now c.requires.standing o
    (λ place. false≢true (sym c.if-not-has_place.true ∙ c.has_place.ensures.1 place)))

pub judge_said-requires-clause-placed : goal.judge_said-requires-clause-placed
judge_said-requires-clause-placed c =
    let b = c.args.bounds.now in
    has_its_place b c.requires.bounds c.args.entries.now c.args.self.now c.requires.standing b.limit c.args.outcome.now
    (c.has_place.ensures.0 c.if-not-has_place.false)

pub judge_said-requires-clause-resting : goal.judge_said-requires-clause-resting
judge_said-requires-clause-resting c =
    none_waits c.args.bounds.now c.requires.bounds c.args.entries.now c.args.self.now c.requires.standing c.args.outcome.now
    (c.has_place.ensures.0 c.if-not-has_place.false)
