-- Each run of the program can be run: the numbers of its words are in their ranges.
use Rattle.std.proofs.Common.{◌≡◌, ℕ, List, Option, Some, refl}
use Rattle.command_line.proofs.RangesLemmas.{in_range}
use Rattle.command_line.specs.Ranges.{AreInRange}
use Rattle.command_line.specs.Words.{command_of, solve}
use Rattle.io_world.specs.FileMap.{FileMap}
use Rattle.run_command.proofs.HeadsLemmas.{head_runs}
use Rattle.run_command.proofs.MakingLemmas.{made_in_range}
use Rattle.run_command.specs.Runs.{ProgramRun}
use Rattle.run_command.specs.Works.{Work, command_for, files_of, made_words, making, solving, words_of_work}
use Rattle.round_run.specs.Batches.{IsRunnable}

work_within : (words : List (List ℕ)) (work : Work) → command_of words ≡ Some (command_for work) → AreInRange (words_of_work work)
work_within words (solving w) meant = in_range words (solve w) meant
work_within words (making n) meant = made_in_range made_words refl

pub program_runs : {words : List (List ℕ)} {told : Option FileMap} (run : ProgramRun words told) → IsRunnable run.task run.head
program_runs {words} {told} run =
    head_runs run.task (files_of told run.work) (words_of_work run.work) run.head run.headed (work_within words run.work run.meant)
