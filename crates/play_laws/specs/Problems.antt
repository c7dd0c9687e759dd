-- Problems of the grid's domain that are true of a grid, and transcripts whose answers are the grid's.
use Rattle.std.specs.Prelude.{◌≡◌, ℕ, Bool, true, false, not, ◌&&◌, ◌||◌, ◌==◌, nat_le, List, [], ◌∷◌, ◌++◌, codes, Contains, slice_get, is_some, Option, Some, None, if◌then◌else◌}
use Rattle.std.specs.List.{list_all, list_any}
use Rattle.std.specs.Str.{bytes_eq}
use Rattle.gen_lines.specs.Reply.{yields}
use Rattle.grid_play.specs.Replies.{grid_replies}
use Rattle.grid_text.specs.Grids.{GridFile, NamedRect, area}
use Rattle.grid_text.specs.Rects.{is_within, meets}
use Rattle.grid_text.specs.declared.grid.Block.{Block}
use Rattle.grid_world.specs.Answers.{is_blocked}
use Rattle.grid_world.specs.Words.{block_named, rect_at}
use Rattle.grid_play.specs.Worlds.{home_corner}
use Rattle.play_laws.specs.GridTasks.{grid_domain, grid_streams}
use Rattle.task_model.specs.Initial.{declared_names}
use Rattle.task_model.specs.Streams.{name_at}
use Rattle.task_model.specs.declared.domain.Declared.{Declared}
use Rattle.task_model.specs.declared.fact.Fact.{Fact}
use Rattle.task_model.specs.declared.task.Task.{Task}
use Rattle.transcript_model.specs.declared.entry.Call.{Call}
use Rattle.transcript_model.specs.declared.entry.Entry.{Entry}
use Rattle.transcript_model.specs.declared.entry.Entry.TheVariants as entry

-- ---- what is said at first

abbrev pub sorts_in : Option Declared → List ℕ
sorts_in None = []
sorts_in (Some d) = d.sorts

-- the declared object has this type
abbrev pub is_declared : Task → ℕ → ℕ → Bool
is_declared task sort object = list_any (λ s. s == sort) (sorts_in (slice_get task.problem.objects object))

-- the object's name is that of a block of the grid
abbrev pub is_block : Task → GridFile → ℕ → Bool
is_block task grid object = is_some (block_named grid (name_at (declared_names task) object))

-- the arguments are a block and the word for its own first corner
abbrev pub are_home : Task → GridFile → List ℕ → Bool
are_home task grid [] = false
are_home task grid (b ∷ []) = false
are_home task grid (b ∷ p ∷ []) =
    is_block task grid b
    && bytes_eq (name_at (declared_names task) p) (codes "home-" ++ name_at (declared_names task) b)
    && is_declared task 1 b && is_declared task 3 p
are_home task grid (b ∷ p ∷ o ∷ more) = false

-- `pose` and `at` are of a block and its own first corner; no `reach`, `clear` and `holding` is said at first
abbrev pub fact_tells : Task → GridFile → Fact → Bool
fact_tells task grid fact =
    if (fact.name == 1) || (fact.name == 6) then are_home task grid fact.args
    else not ((fact.name == 4) || (fact.name == 5) || (fact.name == 8))

-- ---- the blocks

abbrev pub first_is : Task → List ℕ → List ℕ → Bool
first_is task name [] = false
first_is task name (b ∷ more) = bytes_eq (name_at (declared_names task) b) name

-- the fact says where the block is
abbrev pub is_at_of : Task → Block → Fact → Bool
is_at_of task block fact = (fact.name == 6) && first_is task block.name fact.args

-- its first place is said, and it lies in no obstacle there
abbrev pub block_tells : Task → GridFile → Block → Bool
block_tells task grid block =
    list_any (is_at_of task block) task.problem.init && not (is_blocked grid (rect_at block (home_corner block)))

-- two blocks have other names, and share no cell at first
abbrev pub are_blocks_apart : Block → Block → Bool
are_blocks_apart a b =
    not (bytes_eq a.name b.name) && not (meets (rect_at a (home_corner a)) (rect_at b (home_corner b)))

abbrev pub all_apart : List Block → Bool
all_apart [] = true
all_apart (block ∷ blocks) = list_all (are_blocks_apart block) blocks && all_apart blocks

-- ---- true problems

-- it is at most 1,000 cells wide and high, and the regions lie in it: so are all grids that are read
abbrev pub is_small : GridFile → Bool
is_small grid =
    nat_le grid.width 1000 && nat_le grid.height 1000
    && list_all (λ (r : NamedRect). is_within r.rect (area grid)) grid.regions

-- the facts at first tell where each block is, and the blocks may be there together
abbrev pub tells_grid : Task → GridFile → Bool
tells_grid task grid =
    list_all (fact_tells task grid) task.problem.init && list_all (block_tells task grid) grid.blocks
    && all_apart grid.blocks && is_small grid

-- The task is one of blocks on this grid: it has the grid's domain and streams, and its problem tells the grid.
pub record IsGridProblem (task : Task) (grid : GridFile) : Type 0 where
  pub domain : task.domain ≡ grid_domain
  pub streams : task.streams ≡ grid_streams
  pub problem : tells_grid task grid ≡ true

-- Each yield of the transcript is the grid's answer to its request.
abbrev pub AreTrueYields : GridFile → List Entry → Type 0
AreTrueYields grid entries =
    (number tuples turn : ℕ) (values : List (List ℕ)) (call : Call)
    → Contains entries (entry.Got number tuples values) → Contains entries (entry.Ask number turn call)
    → grid_replies grid call turn ≡ yields tuples values
