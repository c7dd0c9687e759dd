-- What is read of clap's rows and still lent by the words, as words mean it.
use Rattle.std.specs.Prelude.{List, Option, map, option_map}
use Rattle.std.specs.Borrow.{Bor}
use Rattle.clap.specs.Words.{Text}
use Rattle.command_line.specs.Words.{GivenLimits, PlayWords, ReplayWords, SolveWords, TaskFiles, words_or}
use Rattle.command_line.specs.declared.play.PlayWords as code_play
use Rattle.command_line.specs.declared.replay.ReplayWords as code_replay
use Rattle.command_line.specs.declared.solve.Limits as code_limits
use Rattle.command_line.specs.declared.solve.SolveWords as code_solve
use Rattle.command_line.specs.declared.task.TaskFiles as code_files

-- the paths of a task
abbrev pub lent_files : code_files.TaskFiles → TaskFiles
lent_files f = record { domain = f.domain.now; problem = f.problem.now; streams = f.streams.now }

abbrev pub shown_files : Option code_files.TaskFiles → Option TaskFiles
shown_files = option_map lent_files

-- the limits of a run
abbrev pub lent_limits : code_limits.Limits → GivenLimits
lent_limits l = record { calls = l.calls; states = l.states; depth = l.depth }

abbrev pub shown_limits : Option code_limits.Limits → Option GivenLimits
shown_limits = option_map lent_limits

-- a program and its words
abbrev pub shown_program : Option (Bor (List (Bor Text))) → List Text
shown_program program = words_or (option_map (λ s. map (λ w. w.now) s.now) program)

-- `solve`
abbrev pub lent_solve : code_solve.SolveWords → SolveWords
lent_solve w = record {
  files = lent_files w.files;
  path = option_map (λ s. s.now) w.map;
  program = shown_program w.program;
  workers = w.workers;
  mode = w.mode;
  limits = lent_limits w.limits;
  protocol = w.protocol;
  optimal = w.optimal;
  restarts = w.restarts;
}

abbrev pub shown_solve : Option code_solve.SolveWords → Option SolveWords
shown_solve = option_map lent_solve

-- `replay` or `deorder`
abbrev pub lent_replay : code_replay.ReplayWords → ReplayWords
lent_replay w = record { files = lent_files w.files; report = w.report.now; states = w.states; optimal = w.optimal }

abbrev pub shown_replay : Option code_replay.ReplayWords → Option ReplayWords
shown_replay = option_map lent_replay

-- `play`
abbrev pub lent_play : code_play.PlayWords → PlayWords
lent_play w = record { files = lent_files w.files; report = w.report.now; grid = w.grid.now; states = w.states }

abbrev pub shown_play : Option code_play.PlayWords → Option PlayWords
shown_play = option_map lent_play
