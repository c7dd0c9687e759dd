use Rattle.std.proofs.Common.{◌∙◌, sym, subst}
use Rattle.shown_plan.proofs.ShownLemmas.{valid_named}
use Rattle.transcript_model.proofs.CoherentLemmas.{coherent}
use Rattle.transcript_model.specs.Outcomes.{AreOrigins}
use Rattle.transcript_model.specs.Transcript.{known_of}
use Rattle.replay_check.proofs.plan.judge_origins.Goals as goal

pub plan_origins-requires : goal.plan_origins-requires
plan_origins-requires c =
    let version = c.args.bounds.now.version in
    let task = c.args.bounds.now.task.now in
    let p = c.args.plan.now in
    record {
      task = task;
      fit = c.requires.bounds.fit;
      legal = c.requires.legal;
      steps = c.requires.plan.steps;
      named = valid_named task (known_of task p.entries.now)
          (coherent version task p.entries.now c.requires.bounds.fit c.requires.legal) c.requires.plan.steps p.cost c.requires.plan.valid;
      shown = c.requires.plan.shown;
    }

pub returns-in-Some-clause-said : goal.returns-in-Some-clause-said
returns-in-Some-clause-said c =
    let p = c.args.plan.now in (
      c.requires.plan,
      record {
        due = c.as_slice.result.now;
        origins = subst (AreOrigins c.args.bounds.now.version p.entries.now p.calls.now)
            (sym c.as_slice.ensures) c.in_ok-due.ensures;
        other = c.in-Some.ensures.some.0;
        before = c.in-Some.ensures.some.1;
      },
    )

pub returns-clause-said : goal.returns-clause-said
returns-clause-said c =
    let p = c.args.plan.now in
    record {
      steps = c.requires.plan.steps;
      shown = c.requires.plan.shown;
      valid = c.requires.plan.valid;
      origins = subst (AreOrigins c.args.bounds.now.version p.entries.now p.calls.now)
          (sym (c.in-None.ensures.none ∙ c.as_slice.ensures)) c.in_ok-due.ensures;
    }
