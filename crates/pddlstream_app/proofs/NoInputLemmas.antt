-- Why what a command reads is no input.
use Rattle.std.proofs.Common.{◌≡◌, ℕ, List, [], refl, sym, subst, inl, inr, Some}
use Rattle.command_files.specs.declared.stop.Stop.TheVariants.{Usage, Input, Map, Grid, Failed, TooLong, Run}
use Rattle.round_run.specs.declared.fault.RunFault.TheVariants as fault
use Rattle.command_line.specs.Words.{Command, SolveWords, command_of, generate, solve}
use Rattle.command_files.specs.Inputs.{EndsAtFile, EndsReading, MayEnd, SolvesNothing, files_named}
use Rattle.io_world.specs.Faults.{Extends}
use Rattle.command_files.specs.Files.{FileWanted}
use Rattle.command_files.specs.Outside.{FilesSeen}
use Rattle.pddlstream_app.specs.NoInput.{HasNoInput, ReadsNothing}
use Rattle.command_files.specs.Stop.{IsOfInput}
use Rattle.command_files.specs.declared.stop.Stop.{Stop}
use Rattle.run_command.specs.Works.{made_words, seen_made}

may_end : (files : FilesSeen) (texts : List (List ℕ)) (wanted : FileWanted) (why : Stop)
    → MayEnd files texts wanted why → IsOfInput why
may_end files texts wanted Usage n = n
may_end files texts wanted (Input which kind place) n = tt
may_end files texts wanted (Map why) n = tt
may_end files texts wanted (Grid kind line) n = tt
may_end files texts wanted (Failed which) n = tt
may_end files texts wanted (TooLong which) n = tt
may_end files texts wanted (Run (fault.Answer number why)) n = n
may_end files texts wanted (Run fault.Generator) n = n
may_end files texts wanted (Run fault.Write) n = n
may_end files texts wanted (Run fault.Memory) n = tt

reading_input : (command : Command) (files : FilesSeen) (why : Stop) → EndsReading command files why
    → IsOfInput why
reading_input command files why n = may_end files n.stopped.texts n.stopped.wanted why n.stopped.cause

solving_input : (w : SolveWords) (files : FilesSeen) (why : Stop) → SolvesNothing w files why
    → IsOfInput why
solving_input w files why (inl n) = reading_input (solve w) files why n
solving_input w files why (inr n) = subst IsOfInput (sym n.is) tt

pub command_input : (command : Command) (files : FilesSeen) (why : Stop) → ReadsNothing command files why
    → IsOfInput why
command_input (solve w) files why n = solving_input w files why n
command_input (generate number) files why n = solving_input made_words (seen_made number) why n.cause
command_input command files why n = reading_input command files why n

pub is_of_input : (words : List (List ℕ)) (files : FilesSeen) (why : Stop) → HasNoInput words files why
    → IsOfInput why
is_of_input words files why n = command_input n.command files why n.cause

-- what the words name that stand for a number is no input, so the task of the number isn't
pub made_nothing : (words : List (List ℕ)) (files : FilesSeen) (number : ℕ) → command_of words ≡ Some (generate number)
    → Extends files.before files.after [] → (why : Stop) → SolvesNothing made_words (seen_made number) why
    → HasNoInput words files why
made_nothing words files number meant nothing why cause =
    record { command = generate number; meant = meant; cause = record { cause = cause; asked_for = nothing } }

-- a run ends at one of the files that the words name
pub ends_reading : (command : Command) (files : FilesSeen) (why : Stop) → EndsAtFile files (files_named command) why
    → EndsReading command files why
ends_reading command files why ends = record { all = files_named command; are = inl refl; stopped = ends }
