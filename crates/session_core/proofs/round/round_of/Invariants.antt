use Rattle.std.proofs.Common.{◌≡◌, [], take}
use Rattle.instance_queue.specs.Level.{due_instances}
use Rattle.session_core.specs.Slots.{asks_from, slots_from}
use Rattle.session_core.proofs.round.round_of.Given as goal

-- those of the dues that were passed
abbrev pub invariant-loop-place : goal.invariant-loop-place
invariant-loop-place l = record {
  asks : l.asks.items ≡ asks_from l.scene.task.now l.scene.facts.now.known.names l.first (take l.place l.dues);
  instances : l.instances.items ≡ due_instances (take l.place l.dues);
  cells : l.cells.items
      ≡ slots_from l.scene.task.now l.scene.facts.now.known.names l.scene.version l.scene.pools.now l.first [] (take l.place l.dues);
}
