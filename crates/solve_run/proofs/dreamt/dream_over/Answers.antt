use Rattle.std.proofs.Common.{◌==◌, ◌∙◌, ap, length, sym, subst, refl}
use Rattle.std.proofs.lemmas.Bool.{false≢true}
use Rattle.dreaming.proofs.DreamlessLemmas.{surely_none}
use Rattle.dreaming.specs.Answers.{HasFewDreamSteps, IsDreamed, IsKnownPlan, IsSureNone}
use Rattle.round_run.proofs.BatchLemmas.{empty_of, filled_of}
use Rattle.transcript_model.specs.Rounds.{limits_of}
use Rattle.solve_run.proofs.dreamt.dream_over.Goals as goal

pub returns-in-Empty : goal.returns-in-Empty
returns-in-Empty c =
    let limits = limits_of c.args.situation.now.head.now in
    let s = c.args.situation.now.session.now in
    surely_none limits c.args.situation.now.task.now s.entries c.args.tried.now
    (subst (IsSureNone limits c.args.situation.now.task.now s.entries c.args.tried.now) c.in-Empty.is (c.in_ok-dreamt.ensures.empty limits refl refl))

pub known_plan-requires-clause-valid : goal.known_plan-requires-clause-valid
known_plan-requires-clause-valid c =
    (subst (IsKnownPlan c.args.situation.now.task.now c.args.situation.now.session.now.entries) c.in-Dream.is c.in_ok-dreamt.ensures.known
    (empty_of c.in-Dream.uses (ap (λ us. length us == 0) (sym c.as_slice.ensures) ∙ sym c.is_empty.ensures ∙ c.if-is_empty.true))).1

pub known_plan-requires-clause-least : goal.known_plan-requires-clause-least
known_plan-requires-clause-least c = λ asked. absurd (false≢true (sym c.requires.any ∙ asked))

pub returns-else-is_empty : goal.returns-else-is_empty
returns-else-is_empty c =
    let limits = limits_of c.args.situation.now.head.now in
    let s = c.args.situation.now.session.now in (
      subst (IsDreamed limits c.args.situation.now.task.now s.entries c.args.tried.now) c.in-Dream.is (c.in_ok-dreamt.ensures.dream limits refl)
          (filled_of c.in-Dream.uses (ap (λ us. length us == 0) (sym c.as_slice.ensures) ∙ sym c.is_empty.ensures ∙ c.if-is_empty.false)),
      (subst (HasFewDreamSteps c.args.situation.now.head.now.states) c.in-Dream.is c.in_ok-dreamt.ensures.few).1,
    )
