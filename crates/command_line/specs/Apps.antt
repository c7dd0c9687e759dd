-- The commands as clap reads them.
use Rattle.std.specs.Prelude.{List, [], ◌∷◌, Bool, true, false, Some, codes}
use Rattle.clap.specs.Words.{App, Kinds, Rule, Text, fault_of, new_app, new_rule, with_rule}
use Rattle.clap.specs.declared.builder.action.ArgAction.TheVariants.{Append, SetTrue}

-- a word that has to stand, in its place
abbrev pub positional : Text → Rule
positional name = record (new_rule name) { required = true }

-- words that may stand any number of times, behind the others
abbrev pub trailing : Text → Rule
trailing name = record (new_rule name) { action = Some Append }

-- an option `--name value` or `--name=value`, which may stand once
abbrev pub option : Text → Rule
option name = record (new_rule name) { long = Some name }

-- a flag `--name`, which may stand once
abbrev pub flag : Text → Rule
flag name = record (new_rule name) { long = Some name; action = Some SetTrue }

-- DOMAIN PROBLEM STREAMS
abbrev pub task_app : Text → App
task_app name =
    with_rule (with_rule (with_rule (new_app name) (positional (codes "domain"))) (positional (codes "problem")))
    (positional (codes "streams"))

-- solve DOMAIN PROBLEM STREAMS [--map FILE] [--algorithm NAME] [--calls N] [--states N] [--depth N] [--workers N]
-- [--protocol N] [--optimal] [--restarts N] [-- PROGRAM WORDS]
unfoldable pub solve_app : App
solve_app =
    with_rule (with_rule (with_rule (with_rule (with_rule (with_rule (with_rule (with_rule (with_rule (with_rule
    (task_app (codes "solve")) (trailing (codes "program"))) (option (codes "map"))) (option (codes "algorithm")))
    (option (codes "calls"))) (option (codes "states"))) (option (codes "depth"))) (option (codes "workers")))
    (option (codes "protocol"))) (flag (codes "optimal"))) (option (codes "restarts"))

-- DOMAIN PROBLEM STREAMS REPORT [--states N]
abbrev pub report_app : Text → App
report_app name = with_rule (with_rule (task_app name) (positional (codes "report"))) (option (codes "states"))

-- replay DOMAIN PROBLEM STREAMS REPORT [--states N] [--optimal]
unfoldable pub replay_app : App
replay_app = with_rule (report_app (codes "replay")) (flag (codes "optimal"))

-- generate N
unfoldable pub generate_app : App
generate_app = with_rule (new_app (codes "generate")) (positional (codes "number"))

-- migrate REPORT
unfoldable pub migrate_app : App
migrate_app = with_rule (new_app (codes "migrate")) (positional (codes "report"))

-- deorder DOMAIN PROBLEM STREAMS REPORT [--states N]
unfoldable pub deorder_app : App
deorder_app = report_app (codes "deorder")

-- play DOMAIN PROBLEM STREAMS REPORT GRID [--states N]
unfoldable pub play_app : App
play_app =
    with_rule (with_rule (with_rule (task_app (codes "play")) (positional (codes "report"))) (positional (codes "grid")))
    (option (codes "states"))

-- of no kind is there a fault
abbrev pub are_none : Kinds → Bool
are_none [] = true
are_none (kind ∷ kinds) = false

-- clap takes the words, of which it drops the first, the command's name: it finds no fault
unfoldable pub is_taken : App → List Text → Bool
is_taken app words = are_none (fault_of app words)
