-- The usage text.
use Rattle.std.specs.Prelude.{ℕ, List, ◌++◌, codes}

abbrev pub solve_usage : List ℕ
solve_usage = codes "usage: pddlstream solve DOMAIN PROBLEM STREAMS [OPTIONS] [-- PROGRAM WORDS]\n"

abbrev pub replay_usage : List ℕ
replay_usage = codes "usage: pddlstream replay DOMAIN PROBLEM STREAMS REPORT [--states N]\n"

abbrev pub generate_usage : List ℕ
generate_usage = codes "usage: pddlstream generate N\n"

abbrev pub migrate_usage : List ℕ
migrate_usage = codes "usage: pddlstream migrate REPORT\n"

abbrev pub deorder_usage : List ℕ
deorder_usage = codes "usage: pddlstream deorder DOMAIN PROBLEM STREAMS REPORT [--states N]\n"

abbrev pub play_usage : List ℕ
play_usage = codes "usage: pddlstream play DOMAIN PROBLEM STREAMS REPORT GRID [--states N]\n"

-- a line for each command
abbrev pub usage_text : List ℕ
usage_text = solve_usage ++ replay_usage ++ generate_usage ++ migrate_usage ++ deorder_usage ++ play_usage
