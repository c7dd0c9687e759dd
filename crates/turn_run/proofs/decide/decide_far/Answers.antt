use Rattle.std.proofs.Common.{◌≡◌, ◌⊎◌, ◌∙◌, inl, inr, sym}
use Rattle.turn_run.proofs.TurnsOutcomeLemmas.{closed_there, far_past, states_settled}
use Rattle.turn_run.specs.Deciding.{known_in}
use Rattle.transcript_model.specs.declared.head.Mode.{Mode}
use Rattle.transcript_model.specs.declared.head.Mode.TheVariants.{Incremental, Focused, Binding, Adaptive}
use Rattle.turn_run.proofs.decide.decide_far.Goals as goal

-- a mode that dreams isn't incremental mode
dreams : (mode : Mode) → (mode ≡ Focused) ⊎ ((mode ≡ Binding) ⊎ (mode ≡ Adaptive)) → ¬ (mode ≡ Incremental)
dreams mode (inl e) is = let no : Focused ≡ Incremental = sym e ∙ is in absurd (cc)
dreams mode (inr (inl e)) is = let no : Binding ≡ Incremental = sym e ∙ is in absurd (cc)
dreams mode (inr (inr e)) is = let no : Adaptive ≡ Incremental = sym e ∙ is in absurd (cc)

pub returns-in-Incremental : goal.returns-in-Incremental
returns-in-Incremental c =
    let situation = c.args.situation.now in
    let may = c.requires.may in
    states_settled situation.task.now situation.session.now may.working may.learnt may.session situation.head.now may.head
    c.requires.past (λ not. absurd (not c.in-Incremental.is))

pub decide_dues-requires-clause-needed : goal.decide_dues-requires-clause-needed
decide_dues-requires-clause-needed c =
    let situation = c.args.situation.now in
    let head = situation.head.now in
    let dreaming = dreams head.mode c.in-Focused.is in
    inr (
      dreaming,
      far_past head.optimal situation.task.now (known_in situation) head.states
          (λ asked. dreaming (c.requires.seeks.alone asked)) c.requires.past,
    )

pub decide_dues-requires-clause-last : goal.decide_dues-requires-clause-last
decide_dues-requires-clause-last c = λ due.
    let situation = c.args.situation.now in
    let task = situation.task.now in
    let s = situation.session.now in
    let head = situation.head.now in
    let may = c.requires.may in
    states_settled task s may.working may.learnt may.session head may.head c.requires.past
    (λ _. closed_there task s may.working may.learnt may.session head may.head due)
