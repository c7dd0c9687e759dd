-- What words mean.
use Rattle.std.specs.Prelude.{ℕ, Bool, true, false, not, ◌&&◌, ◌||◌, List, [], ◌∷◌, codes, bytes_eq, Option, None, Some, if◌then◌else◌, option_map, option_and_then}
use Rattle.clap.specs.Words.{App, Row, Text, all_of, first_of, matches_of}
use Rattle.transcript_model.specs.declared.head.Mode.{Mode}
use Rattle.transcript_model.specs.declared.head.Mode.TheVariants.{Incremental, Focused, Binding, Adaptive}
use Rattle.transcript_model.specs.declared.limits.TheConstants.{MOST_CALLS, MOST_DEPTH, WORKERS}
use Rattle.command_line.specs.Apps.{deorder_app, generate_app, is_taken, migrate_app, play_app, replay_app, solve_app}
use Rattle.command_line.specs.Numbers.{count_in, count_in_word, number_in}
use Rattle.command_line.specs.declared.number.TheConstants.{DEFAULT_CALLS, DEFAULT_DEPTH, DEFAULT_STATES, LATEST_PROTOCOL, MOST_RESTARTS}
use Rattle.task_model.specs.declared.limits.TheConstants.{MOST_STATES}

-- the paths of a task's three texts
pub record TaskFiles : Type 0 where
  pub domain : Text
  pub problem : Text
  pub streams : Text

-- the limits of a run
pub record GivenLimits : Type 0 where
  pub calls : ℕ
  pub states : ℕ
  pub depth : ℕ

-- `solve` with a task, a map or a program, the program's number of workers, a mode, limits, the version of the
-- protocol, whether the cheapest plan is asked for, and how many failures of children are made good
pub record SolveWords : Type 0 where
  pub files : TaskFiles
  pub path : Option Text
  pub program : List Text
  pub workers : ℕ
  pub mode : Mode
  pub limits : GivenLimits
  pub protocol : ℕ
  pub optimal : Bool
  pub restarts : ℕ

-- `replay` or `deorder` with a task, a report, the most states, and whether the plan's cost is judged too
pub record ReplayWords : Type 0 where
  pub files : TaskFiles
  pub report : Text
  pub states : ℕ
  pub optimal : Bool

-- `play` with a task, a report, a grid, and the most states
pub record PlayWords : Type 0 where
  pub files : TaskFiles
  pub report : Text
  pub grid : Text
  pub states : ℕ

-- what may be asked for
pub data Command : Type 0 where
  solve : SolveWords → Command
  replay : ReplayWords → Command
  generate : ℕ → Command
  migrate : Text → Command
  deorder : ReplayWords → Command
  play : PlayWords → Command

-- ---- what is read of the rows that clap makes of the words

-- what is made of a value, and nothing where there is none
abbrev pub if_given : {A B : Type 0} → Option A → (A → Option B) → Option B
if_given value make = option_and_then make value

-- the paths of the task
abbrev pub files_in : List Row → Option TaskFiles
files_in rows =
    if_given (first_of (codes "domain") rows) (λ domain.
    if_given (first_of (codes "problem") rows) (λ problem.
    if_given (first_of (codes "streams") rows) (λ streams.
    Some (record { domain = domain; problem = problem; streams = streams }))))

-- the limits, and the default of each that the words lack
abbrev pub limits_in : List Row → Option GivenLimits
limits_in rows =
    if_given (count_in (codes "calls") MOST_CALLS DEFAULT_CALLS rows) (λ calls.
    if_given (count_in (codes "states") MOST_STATES DEFAULT_STATES rows) (λ states.
    if_given (count_in (codes "depth") MOST_DEPTH DEFAULT_DEPTH rows) (λ depth.
    Some (record { calls = calls; states = states; depth = depth }))))

-- the text of a flag that stands among the words
abbrev pub says_true : Option Text → Bool
says_true None = false
says_true (Some text) = bytes_eq text (codes "true")

-- the flag of this name stands among the words
abbrev pub is_set : Text → List Row → Bool
is_set name rows = says_true (first_of name rows)

-- the mode of this name, and incremental mode where the words name none
abbrev pub mode_or : Option Text → Option Mode
mode_or None = Some Incremental
mode_or (Some name) =
    if bytes_eq name (codes "incremental") then Some Incremental
    else if bytes_eq name (codes "focused") then Some Focused
    else if bytes_eq name (codes "binding") then Some Binding
    else if bytes_eq name (codes "adaptive") then Some Adaptive else None

-- neither a number of workers nor a program stands beside a map
abbrev pub are_apart : Option Text → Option Text → List Text → Bool
are_apart None workers program = true
are_apart (Some path) None [] = true
are_apart (Some path) None (word ∷ words) = false
are_apart (Some path) (Some workers) program = false

-- incremental mode
abbrev pub is_incremental : Mode → Bool
is_incremental Incremental = true
is_incremental Focused = false
is_incremental Binding = false
is_incremental Adaptive = false

-- the cheapest plan is asked for in incremental mode alone
abbrev pub goes_with : Mode → Bool → Bool
goes_with mode optimal = not optimal || is_incremental mode

-- the path of the map
abbrev pub path_in : List Row → Option Text
path_in = first_of (codes "map")

-- the words of a row, and no words where there is none
abbrev pub words_or : Option (List Text) → List Text
words_or None = []
words_or (Some words) = words

-- the program and its words
abbrev pub program_in : List Row → List Text
program_in rows = words_or (all_of (codes "program") rows)

-- the words of `solve`
abbrev pub solve_in : List Row → Option SolveWords
solve_in rows =
    if_given (files_in rows) (λ files.
    if_given (mode_or (first_of (codes "algorithm") rows)) (λ mode.
    if_given (limits_in rows) (λ limits.
    if_given (count_in (codes "workers") WORKERS 1 rows) (λ workers.
    if_given (count_in (codes "protocol") LATEST_PROTOCOL 1 rows) (λ protocol.
    if_given (number_in (codes "restarts") 0 MOST_RESTARTS 0 rows) (λ restarts.
    if are_apart (path_in rows) (first_of (codes "workers") rows) (program_in rows)
    && goes_with mode (is_set (codes "optimal") rows)
    then Some (record {
      files = files;
      path = path_in rows;
      program = program_in rows;
      workers = workers;
      mode = mode;
      limits = limits;
      protocol = protocol;
      optimal = is_set (codes "optimal") rows;
      restarts = restarts;
    })
    else None))))))

-- the words of `replay` and `deorder`, where the plan's cost is judged too or isn't
abbrev pub report_in : Bool → List Row → Option ReplayWords
report_in optimal rows =
    if_given (files_in rows) (λ files.
    if_given (first_of (codes "report") rows) (λ report.
    if_given (count_in (codes "states") MOST_STATES DEFAULT_STATES rows) (λ states.
    Some (record { files = files; report = report; states = states; optimal = optimal }))))

-- the words of `replay`
abbrev pub replay_in : List Row → Option ReplayWords
replay_in rows = report_in (is_set (codes "optimal") rows) rows

-- the words of `deorder`
abbrev pub deorder_in : List Row → Option ReplayWords
deorder_in = report_in false

-- the words of `play`
abbrev pub play_in : List Row → Option PlayWords
play_in rows =
    if_given (files_in rows) (λ files.
    if_given (first_of (codes "report") rows) (λ report.
    if_given (first_of (codes "grid") rows) (λ grid.
    if_given (count_in (codes "states") MOST_STATES DEFAULT_STATES rows) (λ states.
    Some (record { files = files; report = report; grid = grid; states = states })))))

-- the words of `generate`
abbrev pub generate_in : List Row → Option ℕ
generate_in rows = if_given (first_of (codes "number") rows) (count_in_word 12)

-- the words of `migrate`: the path of the report
abbrev pub migrate_in : List Row → Option Text
migrate_in = first_of (codes "report")

-- ---- the words, the command's name first

-- what is read of the rows where clap takes the words
unfoldable pub read_by : {X : Type 0} → App → (List Row → Option X) → List Text → Option X
read_by app read words = if is_taken app words then read (matches_of app words) else None

-- what words mean of which the first is `solve`
abbrev pub solve_of : List Text → Option SolveWords
solve_of = read_by solve_app solve_in

-- what words mean of which the first is `replay`
abbrev pub replay_of : List Text → Option ReplayWords
replay_of = read_by replay_app replay_in

-- what words mean of which the first is `generate`
abbrev pub generate_of : List Text → Option ℕ
generate_of = read_by generate_app generate_in

-- what words mean of which the first is `migrate`
abbrev pub migrate_of : List Text → Option Text
migrate_of = read_by migrate_app migrate_in

-- what words mean of which the first is `deorder`
abbrev pub deorder_of : List Text → Option ReplayWords
deorder_of = read_by deorder_app deorder_in

-- what words mean of which the first is `play`
abbrev pub play_of : List Text → Option PlayWords
play_of = read_by play_app play_in

-- the command that the words mean, and none where they are refused
unfoldable pub command_of : List Text → Option Command
command_of [] = None
command_of (name ∷ words) =
    if bytes_eq name (codes "solve") then option_map solve (solve_of (name ∷ words))
    else if bytes_eq name (codes "replay") then option_map replay (replay_of (name ∷ words))
    else if bytes_eq name (codes "generate") then option_map generate (generate_of (name ∷ words))
    else if bytes_eq name (codes "migrate") then option_map migrate (migrate_of (name ∷ words))
    else if bytes_eq name (codes "deorder") then option_map deorder (deorder_of (name ∷ words))
    else if bytes_eq name (codes "play") then option_map play (play_of (name ∷ words))
    else None
