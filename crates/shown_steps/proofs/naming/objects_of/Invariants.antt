use Rattle.std.proofs.Common.{◌≡◌, map, take, Some, slice_get}
use Rattle.shown_steps.proofs.naming.objects_of.Given as goal

-- the objects so far have their names
abbrev pub invariant-loop-name : goal.invariant-loop-name
invariant-loop-name g l =
    map (slice_get (g.T.Named.names l.fn.table)) l.row ≡ map Some (take l.name-index l.fn.names)
