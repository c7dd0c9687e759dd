use Rattle.std.proofs.Common.{◌≡◌, ◌+◌, map, take}
use Rattle.task_model.specs.Dreams.{instances_of}
use Rattle.transcript_model.specs.Names.{call_of_instance}
use Rattle.transcript_model.specs.declared.entry.DreamUse.{DreamUse}
use Rattle.dreaming.specs.Parts.{entries_at}
use Rattle.dreaming.proofs.shown.uses_of.Given as goal

abbrev pub invariant-loop-place : goal.invariant-loop-place
invariant-loop-place l = record {
  numbers : map (λ (u : DreamUse). u.number) l.uses.items ≡ map (λ place. place + 1) (take l.place-index l.places);
  calls : map (λ (u : DreamUse). u.call) l.uses.items
      ≡ map (call_of_instance l.task l.supposed.known.names) (instances_of (entries_at l.supposed.list (take l.place-index l.places)));
}
