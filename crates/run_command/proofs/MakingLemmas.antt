-- The task of a number, as it is made and solved.
use Rattle.std.proofs.Common.{◌≡◌, ℕ, arith, List, None, Some, refl, sym, subst, ap, inl, Result, Ok, Err, Option}
use Rattle.command_line.specs.Ranges.{AreInRange}
use Rattle.command_line.specs.Words.{SolveWords}
use Rattle.grid_text.specs.Tasks.{grid_task}
use Rattle.io_world.specs.FileMap.{StoredFile, map_or_empty}
use Rattle.io_world.specs.Talks.{Event, Talk}
use Rattle.turn_run.specs.declared.whole_run.Ran.{Ran}
use Rattle.command_files.specs.Outside.{FilesSeen, Outside, Written, unread}
use Rattle.command_files.specs.declared.stop.Stop.{Stop}
use Rattle.run_command.specs.Making.{IsLined, MakesRun}
use Rattle.run_command.specs.Runs.{outcome_status}
use Rattle.run_command.specs.Solving.{HasNoReport, IsSolved}
use Rattle.run_command.specs.Works.{made_line, made_words, seen_made, stored_task}
use Rattle.command_files.specs.declared.status.Status.{Status}

-- the numbers of the words that stand for a number are in their ranges
pub made_in_range : (w : SolveWords) → w ≡ made_words → AreInRange w
made_in_range w is = subst AreInRange (sym is) (record {
  calls = (omega arith, omega arith);
  states = (omega arith, omega arith);
  depth = (omega arith, omega arith);
  workers = (omega arith, omega arith);
  protocol = (omega arith, omega arith);
  alone = λ path e. absurd (cc);
  restarts = omega arith;
  cheapest = λ e. refl;
})

-- files with these texts tell what the files of the number's task do
pub made_seen : (number : ℕ) (files : List StoredFile) → files ≡ stored_task (grid_task number)
    → unread (Some (map_or_empty files)) 0 None ≡ seen_made number
made_seen number files is = ap (λ stored. unread (Some (map_or_empty stored)) 0 None) is

-- what is told where the files of the number's task are read
abbrev pub over_made : ℕ → Outside → Outside
over_made number outside =
    record { files = seen_made number; spoken = outside.spoken; was = outside.was; now = outside.now }

module _ (number : ℕ) (files : FilesSeen) (are : files ≡ seen_made number) (w : SolveWords) (same : w ≡ made_words)
    (spoken : ℕ → Option Talk) (was now : Option (List Event)) where
  -- what is told where these files are read
  abbrev within : FilesSeen → Outside
  within seen = record { files = seen; spoken = spoken; was = was; now = now }

  -- the task was solved over the files that are made, and so by the words that stand for the number
  pub solved_made : (Same : Type 0) (inner : Written) (ran : Ran) → IsSolved w (within files) Same inner ran
      → IsSolved made_words (within (seen_made number)) Same inner ran
  solved_made Same inner ran s = subst (λ seen. IsSolved made_words (within seen) Same inner ran) are
      (subst (λ u. IsSolved u (within files) Same inner ran) same s)

  -- or it has no report
  pub unsolved_made : (inner : Written) (why : Stop) → HasNoReport w (within files) inner why
      → HasNoReport made_words (within (seen_made number)) inner why
  unsolved_made inner why n = subst (λ seen. HasNoReport made_words (within seen) inner why) are
      (subst (λ u. HasNoReport u (within files) inner why) same n)

-- what came of writing the line
pub makes_run : (n : ℕ) (outside : Outside) (Same : Type 0) (inner outer : Written) (ran : Ran)
    → IsSolved made_words outside Same inner ran
    → (r : Result Status Stop) → IsLined (outcome_status ran.outcome) (made_line n ran.outcome ran.levels ran.asks) outer r
    → MakesRun n outside Same outer r
makes_run n outside Same inner outer ran s (Ok status) lined = record { ran = ran; inner = inner; solved = s; lined = lined }
makes_run n outside Same inner outer ran s (Err why) lined = inl (record { ran = ran; inner = inner; solved = s; lined = lined })
