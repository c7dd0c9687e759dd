-- Laws of the definitions. Each is the contract of a public function of `laws.rt`, and so is proved.
use Rattle.std.specs.Prelude.{◌≡◌, ℕ, ◌<◌, ◌≤◌, List, ◌∷◌, ◌++◌, length, Contains, Some, slice_get}
use Rattle.task_model.specs.Condition.{Condition}
use Rattle.task_model.specs.Known.{Known}
use Rattle.task_model.specs.Plans.{Executes}
use Rattle.task_model.specs.State.{Atoms, contains}
use Rattle.task_model.specs.Steps.{IsStep}
use Rattle.task_model.specs.Truth.{is_true}
use Rattle.task_model.specs.declared.domain.Domain.{Domain}
use Rattle.task_model.specs.declared.fact.Atom.{Atom}
use Rattle.task_model.specs.declared.task.GroundAction.{GroundAction}
use Rattle.task_model.specs.declared.task.Task.{Task}
use Rattle.plan_deorder.specs.Orders.{AreListed, ConflictAt, IsOrderListing, IsOrder, Keeps, Pair, stage_at}
use Rattle.plan_deorder.specs.Touches.{ReadsAtom, StepsConflict}

-- Two states that agree on what a condition reads make it equally true.
abbrev pub TruthIsWhatIsRead : Type 0
TruthIsWhatIsRead =
    (domain : Domain) (known : Known) (s t : Atoms) (c : Condition) (slots : List ℕ)
    → ((x : Atom) → ReadsAtom domain c slots x → contains s x ≡ contains t x)
    → is_true domain known s c slots ≡ is_true domain known t c slots

-- One after the other, the second step first: each costs what it did, and they lead to the same state.
pub record AreExchanged (task : Task) (known : Known) (before : Atoms) (s t : GroundAction) (after : Atoms)
    (m n : ℕ) : Type 0 where
  pub middle : Atoms
  pub second : IsStep task known before t middle n
  pub first : IsStep task known middle s after m

-- Two steps that follow one another and don't conflict may be exchanged.
abbrev pub NeighboursMayBeExchanged : Type 0
NeighboursMayBeExchanged =
    (task : Task) (known : Known) (before middle after : Atoms) (s t : GroundAction) (m n : ℕ)
    → ¬ (StepsConflict task s t) → IsStep task known before s middle m → IsStep task known middle t after n
    → AreExchanged task known before s t after m n

-- A step that conflicts with none of those before it may be taken first.
abbrev pub AStepMayGoFirst : Type 0
AStepMayGoFirst =
    (task : Task) (known : Known) (start end : Atoms) (before later : List GroundAction) (s : GroundAction)
    (cost : ℕ) → ((t : GroundAction) → Contains before t → ¬ (StepsConflict task t s))
    → Executes task known start (before ++ s ∷ later) end cost
    → Executes task known start (s ∷ before ++ later) end cost

-- Steps in the order of a listing that keeps theirs lead to the same state, at the same cost.
abbrev pub KeptOrdersAreValid : Type 0
KeptOrdersAreValid =
    (task : Task) (known : Known) (steps others : List GroundAction) (pairs : List Pair) (stages listing : List ℕ)
    (start end : Atoms) (cost : ℕ) → IsOrder task steps pairs stages → Keeps pairs (length steps) listing
    → AreListed steps listing others → Executes task known start steps end cost
    → Executes task known start others end cost

-- Steps in the order of a listing that keeps the pairs lead wherever these lead, at the same cost.
abbrev pub KeepsMeaning : Task → Known → List GroundAction → List Pair → Type 0
KeepsMeaning task known steps pairs =
    (listing : List ℕ) (others : List GroundAction) (start end : Atoms) (cost : ℕ)
    → Keeps pairs (length steps) listing → AreListed steps listing others → Executes task known start steps end cost
    → Executes task known start others end cost

-- The stages never fall along the listing.
abbrev pub Rises : List ℕ → List ℕ → Type 0
Rises stages listing =
    (k l i j : ℕ) → k < l → slice_get listing k ≡ Some i → slice_get listing l ≡ Some j
    → stage_at stages i ≤ stage_at stages j

-- Steps of one stage don't conflict, and a listing by stages keeps the order.
pub record StagesSuffice (task : Task) (steps : List GroundAction) (pairs : List Pair) (stages : List ℕ) : Type 0 where
  pub later : (i j : ℕ) → i < j → ConflictAt task steps i j → stage_at stages i < stage_at stages j
  pub kept : (listing : List ℕ) → IsOrderListing (length steps) listing → Rises stages listing
      → Keeps pairs (length steps) listing

abbrev pub StagesKeepTheOrder : Type 0
StagesKeepTheOrder =
    (task : Task) (steps : List GroundAction) (pairs : List Pair) (stages : List ℕ)
    → IsOrder task steps pairs stages → StagesSuffice task steps pairs stages
