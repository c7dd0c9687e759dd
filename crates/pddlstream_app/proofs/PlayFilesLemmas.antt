-- The files of `play`: a task and a report, and then a grid.
use Rattle.std.proofs.Common.{◌≡◌, ℕ, ◌≤◌, List, [], ◌∷◌, ◌++◌, refl, subst, Option, Ok}
use Rattle.io_world.proofs.TalksLemmas.{extends_more}
use Rattle.io_world.specs.FileMap.{AskedPath, FileMap}
use Rattle.io_world.specs.Faults.{Extends}
use Rattle.command_line.specs.Words.{PlayWords, play}
use Rattle.grid_text.specs.Files.{IsGridOf}
use Rattle.command_files.proofs.InputsLemmas.{ends_behind, looks}
use Rattle.command_files.specs.Inputs.{AreReported, AsksAllOf, EndsAtFile, EndsHere, ask, files_named, reads, task_files}
use Rattle.command_files.specs.Files.{FileWanted, HoldsFile, file_of}
use Rattle.command_files.specs.declared.stop.FileRole.TheVariants as role
use Rattle.command_files.specs.declared.stop.Stop.{Stop}
use Rattle.command_files.specs.declared.texts.Reported.{Reported}
use Rattle.command_files.specs.declared.maps.GridRead.{GridRead}
use Rattle.command_files.specs.Pools.{IsGridRead}

module _ (w : PlayWords) where
  -- the files that stand before the grid
  abbrev before : List FileWanted
  before = task_files w.files ++ file_of role.Report w.report ∷ []

  -- the run ends at the grid
  pub ends_at_play : (told later : Option FileMap) → later ≡ told → (first mid last : ℕ) → first ≤ mid
      → (old middle new : Option (List AskedPath)) (r : Reported) → AreReported told w.files w.report r
      → Extends old middle (reads before) → (path : List ℕ) → path ≡ w.grid → (why : Stop)
      → ((texts : List (List ℕ)) → EndsHere (looks later mid last middle new) texts (file_of role.Grid path) why)
      → EndsAtFile (looks told first last old new) (files_named (play w)) why
  ends_at_play told later same first mid last earlier old middle new r read asked path is why ends =
      let t = read.task in
      let texts = t.domain ∷ t.problem ∷ t.streams ∷ r.bytes.items ∷ [] in
      ends_behind told first mid last earlier old middle new later same before asked texts
      (t.are.0, (t.are.1.0, (t.are.1.1.0, (read.bytes, tt)))) (r.task, t.spelled, tt) (file_of role.Grid w.grid) [] why
      (subst (λ p. EndsHere (looks later mid last middle new) texts (file_of role.Grid p) why) is (ends texts))

  -- all were asked for
  pub asks_play : (told : Option FileMap) (first last : ℕ) (old middle new : Option (List AskedPath)) → Extends old middle (reads before)
      → (path : List ℕ) → path ≡ w.grid → Extends middle new (ask (Ok tt) (file_of role.Grid path) ∷ [])
      → AsksAllOf (play w) (looks told first last old new)
  asks_play told first last old middle new asked path is more = record {
    all = files_named (play w);
    are = refl;
    asked = extends_more old middle new (reads before) (ask (Ok tt) (file_of role.Grid w.grid) ∷ []) asked
        (subst (λ p. Extends middle new (ask (Ok tt) (file_of role.Grid p) ∷ [])) is more);
  }

  -- the grid's file holds this grid
  pub grid_held : (told later : Option FileMap) → later ≡ told → (path : List ℕ) → path ≡ w.grid → (drawn : GridRead)
      → IsGridRead later path drawn → HoldsFile told (file_of role.Grid w.grid) (λ bytes. IsGridOf bytes drawn.grid)
  grid_held told later same path is drawn read =
      subst (λ o. HoldsFile o (file_of role.Grid w.grid) (λ bytes. IsGridOf bytes drawn.grid)) same
      (subst (λ p. HoldsFile later (file_of role.Grid p) (λ bytes. IsGridOf bytes drawn.grid)) is
      (record { bytes = drawn.bytes.items; has = read.has; so = read.is }))
