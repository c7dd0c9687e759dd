-- What is kept of children.
use Rattle.std.specs.Prelude.{◌≡◌, ◌<◌, ℕ, Bool, true, false, List, [], count_by, map, option_map, slice_get, string_bytes, unwrap_or}
use Rattle.io_world.specs.declared.host.TheConstants.{CHILDREN}
use Rattle.restart_host.specs.declared.kept.Kept.{Kept}
use Rattle.restart_host.specs.declared.kept.Life.{Life}

abbrev pub is_on : Kept → Bool
is_on kept = kept.running

-- whether a child runs, as its host tells
abbrev pub runs_outside : List Kept → ℕ → Bool
runs_outside children child = unwrap_or (option_map (λ (kept : Kept). kept.running) (slice_get children child)) false

-- whether a child runs in the host below
abbrev pub is_alive : List Kept → ℕ → Bool
is_alive children child = unwrap_or (option_map (λ (kept : Kept). kept.life.alive) (slice_get children child)) false

-- a call changed a child's life alone
abbrev pub OnlyLives : Kept → Kept → Type 0
OnlyLives old new = (new.running ≡ old.running) × (new.words ≡ old.words) × (new.asked ≡ old.asked)

-- What is kept of a child of this number: it runs here or doesn't, as is said, and it runs in the host below where that
-- is kept.
pub record IsKeptChild (child : ℕ) (below : ℕ → Bool) (kept : Kept) (on : Bool) : Type 0 where
  pub number : child < CHILDREN
  pub running : kept.running ≡ on
  pub ties : below child ≡ kept.life.alive

-- The child doesn't run in the host below, and nothing is held of it.
pub record IsFallen (life : Life) : Type 0 where
  pub alive : life.alive ≡ false
  pub held : life.held ≡ []
  pub due : life.due ≡ 0

-- It was just started with these words: it runs in the host below, nothing is held of it and nothing waits.
pub record IsNew (words : List (List ℕ)) (kept : Kept) : Type 0 where
  pub words_are : map string_bytes kept.words.items ≡ words
  pub asked : kept.asked.items ≡ []
  pub alive : kept.life.alive ≡ true
  pub held : kept.life.held ≡ []
  pub due : kept.life.due ≡ 0

-- None of the children runs, here or in the host below.
pub record AreIdle (children : List Kept) : Type 0 where
  pub running : (k : ℕ) → runs_outside children k ≡ false
  pub alive : (k : ℕ) → is_alive children k ≡ false
  pub none : count_by is_on children ≡ 0
