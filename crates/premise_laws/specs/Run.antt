-- A run of the first worked task: its words, its files, and what its host tells.
use Rattle.std.specs.Prelude.{ℕ, List, [], ◌∷◌, codes, true, None, Ok, Some}
use Rattle.io_world.specs.FileMap.{FileMap, StoredFile, map_or_empty}
use Rattle.io_world.specs.Logs.{Calls, no_calls, said_of, told_of}
use Rattle.io_world.specs.Talks.{Event, heard, started, stopped, wrote}
use Rattle.command_files.specs.Outside.{Outside, unread}
use Rattle.run_command.specs.Works.{file_with}
use Rattle.pools.specs.Pools.{Workers}
use Rattle.witness_laws.specs.Texts.{fetch_domain_text, fetch_problem_text, fetch_streams_text}

-- solve domain problem streams -- grip
abbrev pub cup_words : List (List ℕ)
cup_words = codes "solve" ∷ codes "domain" ∷ codes "problem" ∷ codes "streams" ∷ codes "--" ∷ codes "grip" ∷ []

-- the three texts under their paths, as `SureFiles` tells them: every other path has an empty text
abbrev pub cup_stored : List StoredFile
cup_stored = file_with (codes "domain") fetch_domain_text ∷ file_with (codes "problem") fetch_problem_text
    ∷ file_with (codes "streams") fetch_streams_text ∷ []

abbrev pub cup_files : FileMap
cup_files = map_or_empty cup_stored

-- the calls that a `SureHost` keeps of the run: one child is started, asked once, heard and stopped
abbrev pub cup_events : List Event
cup_events = started 0 (codes "grip" ∷ []) (Ok tt) ∷ wrote 0 (codes "next 0 grip cup\n") (Ok 16)
    ∷ heard 0 1025 (Ok (codes "yield left\n")) ∷ stopped 0 (Ok tt) ∷ []

abbrev pub cup_calls : Calls
cup_calls = record { events = cup_events; whole = true; kept = 0 }

-- what these files and this host tell; they never fail
abbrev pub cup_outside : Outside
cup_outside = record {
  files = unread (Some cup_files) 0 None;
  spoken = said_of cup_calls;
  was = told_of no_calls;
  now = told_of cup_calls;
}

-- the run's only pool: child 0, for the only stream
abbrev pub cup_workers : List Workers
cup_workers = record { first = 0; workers = 1; streams = 0 ∷ [] } ∷ []
