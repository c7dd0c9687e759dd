-- What is handed out, as words mean it.
use Rattle.std.specs.Prelude.{map, option_map, string_bytes}
use Rattle.command_line.specs.Words.{Command, PlayWords, ReplayWords, SolveWords, deorder, generate, migrate, play, replay, solve}
use Rattle.command_line.specs.declared.config.Config as code_config
use Rattle.command_line.specs.declared.config.Config.TheVariants as code_configs
use Rattle.command_line.specs.declared.config.PlayConfig as code_play
use Rattle.command_line.specs.declared.config.ReplayConfig as code_replay
use Rattle.command_line.specs.declared.config.SolveConfig as code_solve

-- `solve`, by the bytes of its texts
abbrev pub held_solve : code_solve.SolveConfig → SolveWords
held_solve c = record {
  files = record { domain = string_bytes c.domain; problem = string_bytes c.problem; streams = string_bytes c.streams };
  path = option_map string_bytes c.map;
  program = map string_bytes c.program;
  workers = c.workers;
  mode = c.mode;
  limits = record { calls = c.calls; states = c.states; depth = c.depth };
  protocol = c.protocol;
  optimal = c.optimal;
  restarts = c.restarts;
}

-- `replay` or `deorder`, by the bytes of its texts
abbrev pub held_replay : code_replay.ReplayConfig → ReplayWords
held_replay c = record {
  files = record { domain = string_bytes c.domain; problem = string_bytes c.problem; streams = string_bytes c.streams };
  report = string_bytes c.report;
  states = c.states;
  optimal = c.optimal;
}

-- `play`, by the bytes of its texts
abbrev pub held_play : code_play.PlayConfig → PlayWords
held_play c = record {
  files = record { domain = string_bytes c.domain; problem = string_bytes c.problem; streams = string_bytes c.streams };
  report = string_bytes c.report;
  grid = string_bytes c.grid;
  states = c.states;
}

-- the command
abbrev pub held : code_config.Config → Command
held (code_configs.Solve c) = solve (held_solve c)
held (code_configs.Replay c) = replay (held_replay c)
held (code_configs.Generate number) = generate number
held (code_configs.Migrate path) = migrate (string_bytes path)
held (code_configs.Deorder c) = deorder (held_replay c)
held (code_configs.Play c) = play (held_play c)
