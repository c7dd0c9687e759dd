use Rattle.task_model.specs.Dreams.{AreSupposed}
use Rattle.optimistic_set.specs.Drafts.{IsDraft}
use Rattle.optimistic_set.proofs.list.optimistic.Given as goal

-- so many passes were made
abbrev pub invariant-loop-pass : goal.invariant-loop-pass
invariant-loop-pass l = record {
  draft : IsDraft l.task l.facts.known l.draft;
  list : AreSupposed l.task l.facts.known l.queue l.tried l._pass l.draft.entries.items;
}
