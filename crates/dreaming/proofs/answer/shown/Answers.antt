use Rattle.std.proofs.Common.{◌<◌, ◌∙◌, ◌+◌, List, ℕ, length, map, refl, sym, ap, subst, All}
use Rattle.shown_plan.specs.Shown.{AreNamedSteps}
use Rattle.task_model.specs.Known.{Known}
use Rattle.task_model.specs.Dreams.{instances_of}
use Rattle.transcript_model.specs.Calls.{call_of_step}
use Rattle.transcript_model.specs.Names.{call_of_instance}
use Rattle.dreaming.proofs.ThinLemmas.{thin_shown}
use Rattle.dreaming.specs.Parts.{entries_at}
use Rattle.dreaming.proofs.answer.shown.Goals as goal

pub name_steps-requires : goal.name_steps-requires
name_steps-requires c =
    let task = c.args.task.now in
    subst (λ (k : Known). AreNamedSteps task k.names c.as_slice.result.now) (sym c.look.ensures)
    (subst (AreNamedSteps task c.args.supposed.now.known.names) (sym c.as_slice.ensures) c.requires.steps)

pub uses_of-requires-clause-below : goal.uses_of-requires-clause-below
uses_of-requires-clause-below c =
    subst (λ (ps : List ℕ). All (λ place. place < length c.args.supposed.now.list) ps) (sym c.as_slice-places.ensures.value)
    c.requires.thin.kept.below

pub entries_of-requires : goal.entries_of-requires
entries_of-requires c =
    subst (λ (ps : List ℕ). All (λ place. place < length c.args.supposed.now.list) ps) (sym c.as_slice-places.ensures.value)
    c.requires.thin.kept.below

pub returns : goal.returns
returns c =
    let task = c.args.task.now in
    let d = c.args.supposed.now in
    let value = c.as_slice-places.ensures.value in (
      thin_shown task d c.args.plan.steps c.args.kept.now c.in_ok-uses.uses c.in_ok-steps.steps c.in_ok-entries.entries.items
          c.requires.thin (c.in_ok-entries.ensures ∙ ap (entries_at d.list) value)
          (c.in_ok-uses.ensures.numbers ∙ ap (λ (ps : List ℕ). map (λ place. place + 1) ps) value)
          (c.in_ok-uses.ensures.calls
          ∙ ap (λ (ps : List ℕ). map (call_of_instance task d.known.names) (instances_of (entries_at d.list ps))) value)
          (c.in_ok-steps.ensures ∙ (λ k. map (call_of_step task (c.look.ensures k).names) (c.as_slice.ensures k))),
      refl,
    )
