-- The head of a run.
use Rattle.std.specs.Prelude.{◌≡◌, List, map, Option}
use Rattle.io_world.specs.FileMap.{FileMap}
use Rattle.stream_map.specs.Children.{grid_file, plain}
use Rattle.task_model.specs.declared.task.Task.{Task}
use Rattle.transcript_model.specs.declared.head.Head.{Head}
use Rattle.transcript_model.specs.declared.head.Pool.{Pool}
use Rattle.command_line.specs.Words.{SolveWords}
use Rattle.command_files.specs.Pools.{HaveText, MeansPools}

-- The pools of a head are those that the words mean; each generator's words start it, the grid's with the text of its
-- file.
pub record AreServed (told : Option FileMap) (w : SolveWords) (task : Task) (pools : List Pool) : Type 0 where
  pub meant : List Pool
  pub means : MeansPools told w task meant
  pub text : HaveText (grid_file (map plain meant)) told meant pools

-- The head has the protocol, the mode and the limits of the words, and the pools that they mean; and it asks for the
-- cheapest plan where they do.
pub record IsHeadOf (told : Option FileMap) (w : SolveWords) (task : Task) (head : Head) : Type 0 where
  pub version : head.version ≡ w.protocol
  pub mode : head.mode ≡ w.mode
  pub calls : head.calls ≡ w.limits.calls
  pub states : head.states ≡ w.limits.states
  pub depth : head.depth ≡ w.limits.depth
  pub optimal : head.optimal ≡ w.optimal
  pub pools : AreServed told w task head.pools
