-- The pools that the words of a task mean.
use Rattle.std.specs.Prelude.{◌≡◌, ℕ, List, map, Option, None, Some}
use Rattle.grid_text.specs.Files.{IsGridOf}
use Rattle.grid_text.specs.Grids.{GridFile}
use Rattle.io_world.specs.FileMap.{FileMap}
use Rattle.stream_map.specs.Accepted.{Accepted, AcceptedMap}
use Rattle.stream_map.specs.Children.{plain, with_text}
use Rattle.stream_map.specs.Form.{words_form}
use Rattle.task_model.specs.declared.task.Task.{Task}
use Rattle.transcript_model.specs.declared.head.Pool.{Pool}
use Rattle.command_line.specs.Words.{SolveWords}
use Rattle.command_files.specs.Files.{HasBytes, HoldsFile, file_of}
use Rattle.command_files.specs.declared.maps.GridRead.{GridRead}
use Rattle.command_files.specs.declared.stop.FileRole.TheVariants as role

-- the pools are those of the map under this path; or, where there is none, one of the program's words
abbrev pub MeansBy : Option (List ℕ) → Option FileMap → SolveWords → Task → List Pool → Type 0
MeansBy None told w task pools = Accepted task (words_form task w.program w.workers) pools
MeansBy (Some path) told w task pools =
    HoldsFile told (file_of role.Map path) (λ bytes. AcceptedMap task bytes pools)

-- the pools that the words mean
abbrev pub MeansPools : Option FileMap → SolveWords → Task → List Pool → Type 0
MeansPools told w task pools = MeansBy w.path told w task pools

-- The text is a grid, and it stands in these pools in the place of its path.
pub record HasGridText (meant pools : List Pool) (text : List ℕ) : Type 0 where
  pub grid : GridFile
  pub is : IsGridOf text grid
  pub placed : map plain pools ≡ with_text text (map plain meant)

-- the pools with the text of the grid's file, if one names it
abbrev pub HaveText : Option (List ℕ) → Option FileMap → List Pool → List Pool → Type 0
HaveText None told meant pools = pools ≡ meant
HaveText (Some path) told meant pools =
    HoldsFile told (file_of role.Grid path) (HasGridText meant pools)

-- The file of this path holds this grid, and these are its bytes.
pub record IsGridRead (told : Option FileMap) (path : List ℕ) (r : GridRead) : Type 0 where
  pub has : HasBytes told (file_of role.Grid path) r.bytes.items
  pub is : IsGridOf r.bytes.items r.grid
