use Rattle.std.proofs.Common.{take}
use Rattle.optimistic_set.specs.Drafts.{IsDraft, AddsEntries}
use Rattle.optimistic_set.proofs.draft.Draft.add_entries.Given as goal

-- the entries of the instances that were passed are there
abbrev pub invariant-loop-instance : goal.invariant-loop-instance
invariant-loop-instance l = record {
  draft : IsDraft l.task l.initial.self.facts.now.known l.self;
  added : AddsEntries l.task l.initial.self.facts.now.known l.initial.self.entries.items l.self.entries.items
      (take l.instance-index l.instances);
}
