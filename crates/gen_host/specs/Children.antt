-- A program of its own as a child.
use Rattle.std.specs.Prelude.{Option, None}
use Rattle.io_world.specs.Talks.{Talk}

-- it isn't told what is said
abbrev pub untold : Option Talk
untold = None
