-- Laws of lists of supposed entries and of dreams. Each is the contract of a public function of `dreams.rt`.
use Rattle.std.specs.Prelude.{◌≡◌, ℕ, ◌<◌, List, [], ◌∷◌, ◌++◌, length}
use Rattle.task_model.specs.Dreams as dreams
use Rattle.task_model.specs.Dreams.{AreSupposed, HaveSupport}
use Rattle.task_model.specs.Known.{Known}
use Rattle.task_model.specs.Plans.{IsValid}
use Rattle.task_model.specs.Streams.{Note}
use Rattle.task_model.specs.declared.stream.Instance.{Instance}
use Rattle.task_model.specs.declared.task.GroundAction.{GroundAction}
use Rattle.task_model.specs.declared.task.Task.{Task}
use Rattle.transcript_model.specs.Dreaming.{MoreAreSupposed, IsDreamAfter, next_sent}
use Rattle.transcript_model.specs.Legal.{IsLegal}
use Rattle.task_model.specs.Fit.{IsFit}
use Rattle.transcript_model.specs.Rounds.{Limits}
use Rattle.transcript_model.specs.Transcript.{names_of}
use Rattle.transcript_model.specs.declared.entry.Call.{Call}
use Rattle.transcript_model.specs.declared.entry.DreamUse.{DreamUse}
use Rattle.transcript_model.specs.declared.entry.Entry.{Entry}
use Rattle.transcript_model.specs.declared.entry.Entry.TheVariants as entry

-- ---- lists

-- There is one list after so many passes.
abbrev pub SupposedListsAreOne : Type 0
SupposedListsAreOne =
    (task : Task) (known : Known) (notes : List Note) (tried : List Instance) (depth : ℕ) (xs ys : List dreams.SupposedEntry)
    → AreSupposed task known notes tried depth xs → AreSupposed task known notes tried depth ys → xs ≡ ys

-- Where more entries than so many are supposed, the list has more.
abbrev pub MoreAreTooMany : Type 0
MoreAreTooMany =
    (most : ℕ) (task : Task) (known : Known) (notes : List Note) (tried : List Instance) (depth : ℕ)
    (list : List dreams.SupposedEntry) → MoreAreSupposed most task known notes tried depth
    → AreSupposed task known notes tried depth list → most < length list

-- Each entry of the list has support among those before it.
abbrev pub ListsHaveSupport : Type 0
ListsHaveSupport =
    (task : Task) (known : Known) (notes : List Note) (tried : List Instance) (depth : ℕ) (list : List dreams.SupposedEntry)
    → AreSupposed task known notes tried depth list → HaveSupport task known list list

-- ---- dreams

-- Whether a plan is valid doesn't rest on the names.
abbrev pub PlansIgnoreNames : Type 0
PlansIgnoreNames =
    (task : Task) (known : Known) (names : List (List ℕ)) (steps : List GroundAction) (cost : ℕ)
    → IsValid task known steps cost
    → IsValid task (record { names = names; facts = known.facts; values = known.values }) steps cost

-- What a dream uses determines its entries.
abbrev pub DreamsAreOne : Type 0
DreamsAreOne =
    (limits : Limits) (task : Task) (before : List Entry) (tried : List Instance) (uses : List DreamUse)
    (steps others : List Call) (xs ys : List dreams.SupposedEntry) → IsDreamAfter limits task before tried uses steps xs
    → IsDreamAfter limits task before tried uses others ys → xs ≡ ys

-- Behind a dream something is asked: its first entry, if nothing else.
abbrev pub ADreamAsks : Type 0
ADreamAsks =
    (limits : Limits) (task : Task) (before : List Entry) (tried : List Instance) (uses : List DreamUse)
    (steps : List Call) (entries : List dreams.SupposedEntry) (number : ℕ) → IsFit task → IsLegal limits.version task before
    → IsDreamAfter limits task before tried uses steps entries
    → 0 < length (next_sent task (before ++ entry.Dream uses steps ∷ []) (length (names_of task before)) [] number []
    entries)
