-- Words that are written out, and what they mean: the definitions compute.
use Rattle.std.proofs.Common.{◌≡◌, ℕ, List, [], ◌∷◌, Some, None, codes, false, true, refl}
use Rattle.clap.specs.Words.{Text}
use Rattle.clap.proofs.OnLiterals.{clap_on_literals}
use Rattle.transcript_model.specs.declared.head.Mode.TheVariants.{Incremental}
use Rattle.command_line.specs.Apps.{generate_app, is_taken, replay_app, solve_app}
use Rattle.command_line.specs.Numbers.{is_number}
use Rattle.command_line.specs.Words.{GivenLimits, SolveWords, TaskFiles, command_of, read_by, replay, solve}

abbrev files : TaskFiles
files = record { domain = codes "d"; problem = codes "p"; streams = codes "s" }

abbrev limits : ℕ → GivenLimits
limits calls = record { calls = calls; states = 100000; depth = 3 }

abbrev with_program : List Text → ℕ → SolveWords
with_program words calls = record {
  files = files;
  path = None;
  program = words;
  workers = 1;
  mode = Incremental;
  limits = limits calls;
  protocol = 1;
  optimal = false;
  restarts = 0;
}

abbrev task : Text → List Text → List Text
task name rest = name ∷ codes "d" ∷ codes "p" ∷ codes "s" ∷ rest

replay_states : command_of (task (codes "replay") (codes "r" ∷ codes "--states=0000005" ∷ []))
    ≡ Some (replay (record { files = files; report = codes "r"; states = 5; optimal = false }))
unfolding clap_on_literals command_of read_by is_taken replay_app is_number
replay_states = refl

replay_twice : command_of (task (codes "replay") (codes "r" ∷ codes "--states=5" ∷ codes "--states=5" ∷ [])) ≡ None
unfolding clap_on_literals command_of read_by is_taken replay_app is_number
replay_twice = refl

replay_optimal : command_of (task (codes "replay") (codes "r" ∷ codes "--optimal" ∷ []))
    ≡ Some (replay (record { files = files; report = codes "r"; states = 100000; optimal = true }))
unfolding clap_on_literals command_of read_by is_taken replay_app is_number
replay_optimal = refl

optimal_focused : command_of (task (codes "solve") (codes "--optimal" ∷ codes "--algorithm=focused" ∷ [])) ≡ None
unfolding clap_on_literals command_of read_by is_taken solve_app is_number
optimal_focused = refl

solve_mixed : command_of (task (codes "solve") (codes "g" ∷ codes "--calls" ∷ codes "5" ∷ codes "h" ∷ []))
    ≡ Some (solve (with_program (codes "g" ∷ codes "h" ∷ []) 5))
unfolding clap_on_literals command_of read_by is_taken solve_app is_number
solve_mixed = refl

solve_dashes : command_of (task (codes "solve") (codes "--" ∷ codes "g" ∷ codes "--" ∷ codes "--calls" ∷ []))
    ≡ Some (solve (with_program (codes "g" ∷ codes "--" ∷ codes "--calls" ∷ []) 10000))
unfolding clap_on_literals command_of read_by is_taken solve_app is_number
solve_dashes = refl

solve_map : command_of (task (codes "solve") (codes "--map" ∷ codes "m" ∷ codes "--" ∷ codes "g" ∷ [])) ≡ None
unfolding clap_on_literals command_of read_by is_taken solve_app is_number
solve_map = refl

generate_help : command_of (codes "generate" ∷ codes "--help" ∷ []) ≡ None
unfolding clap_on_literals command_of read_by is_taken generate_app is_number
generate_help = refl
