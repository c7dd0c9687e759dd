-- Why what a command reads is no input.
use Rattle.std.specs.Prelude.{◌≡◌, ℕ, List, [], Some}
use Rattle.command_files.specs.Inputs.{EndsReading, SolvesNothing}
use Rattle.command_files.specs.Outside.{FilesSeen}
use Rattle.command_files.specs.declared.stop.Stop.{Stop}
use Rattle.command_line.specs.Words.{Command, command_of, generate, solve}
use Rattle.io_world.specs.Faults.{Extends}
use Rattle.run_command.specs.Works.{made_words, seen_made}

-- The task of a number is made, and its texts are no input, for this cause. No file was asked for.
pub record MakesNothing (number : ℕ) (files : FilesSeen) (why : Stop) : Type 0 where
  pub cause : SolvesNothing made_words (seen_made number) why
  pub asked_for : Extends files.before files.after []

-- what a command reads is no input, for this cause
abbrev pub ReadsNothing : Command → FilesSeen → Stop → Type 0
ReadsNothing (solve w) files why = SolvesNothing w files why
ReadsNothing (generate n) files why = MakesNothing n files why
ReadsNothing command files why = EndsReading command files why

-- The words mean a command, and what it reads is no input, for this cause.
pub record HasNoInput (words : List (List ℕ)) (files : FilesSeen) (why : Stop) : Type 0 where
  pub command : Command
  pub meant : command_of words ≡ Some command
  pub cause : ReadsNothing command files why
