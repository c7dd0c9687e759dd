use Rattle.std.proofs.Common.{◌≡◌, ◌++◌, take, drop}
use Rattle.std.specs.List.{filter_map}
use Rattle.replay_check.specs.Heads.{are_new}
use Rattle.transcript_model.specs.Names.{stream_named}
use Rattle.replay_check.proofs.head.streams_of.Given as goal

-- the streams of the names so far stand behind those that were served, and the rest of the names decides
abbrev pub invariant-loop-name : goal.invariant-loop-name
invariant-loop-name l =
    record {
      streams : l.streams.items ≡ filter_map (stream_named l.fn.task) (take l.name-index l.fn.names);
      served : l.served.items ≡ l.fn.served.items ++ l.streams.items;
      rest : are_new l.fn.task l.fn.served.items l.fn.names ≡ are_new l.fn.task l.served.items (drop l.name-index l.fn.names);
    }
