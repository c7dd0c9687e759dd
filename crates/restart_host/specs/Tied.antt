-- How what is kept of all children agrees with the calls on their host and those on the host below.
use Rattle.std.specs.Prelude.{◌≡◌, ℕ, true, List, map, slice_get, string_bytes, Option, Some}
use Rattle.io_world.specs.Talks.{Event}
use Rattle.restart_host.specs.Fits.{Fits}
use Rattle.restart_host.specs.Lives.{moment_of}
use Rattle.restart_host.specs.Uses.{part_of, waiting, words_of}
use Rattle.restart_host.specs.declared.kept.Kept.{Kept}

-- Of each child that runs here the words of its last start are kept; and where the host below tells its log, as long as
-- the child is used for one request at a time, the bytes that wait for an answer are kept, and what is kept of its life
-- agrees with where it stands.
pub record IsTied (children : List Kept) (calls : List Event) (below : Option (List Event)) : Type 0 where
  pub words : (k : ℕ) (kept : Kept) → slice_get children k ≡ Some kept → kept.running ≡ true
      → map string_bytes kept.words.items ≡ words_of k calls
  pub lives : (k : ℕ) (kept : Kept) (past : List Event) (waits : List ℕ) → slice_get children k ≡ Some kept → kept.running ≡ true
      → below ≡ Some past → waiting k calls ≡ Some waits
      → (kept.asked.items ≡ waits) × Fits (part_of k calls) waits kept.life (moment_of k past)
