-- The paths that code lends, as words mean them.
use Rattle.command_line.specs.Words.{TaskFiles}
use Rattle.command_files.specs.declared.texts.TaskPaths as code

abbrev pub held_files : code.TaskPaths → TaskFiles
held_files f = record { domain = f.domain.now; problem = f.problem.now; streams = f.streams.now }
