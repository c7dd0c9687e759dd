-- Laws of places. Each is the contract of a public function of `laws.rt`, and so is proved.
use Rattle.std.specs.Prelude.{◌≡◌, ◌⊎◌, ◌↔◌, ◌<◌, ◌≤◌, List, [], All, true, false}
use Rattle.course_check.specs.Courses.{Course, Leads, course_at_first}
use Rattle.course_check.specs.Places.{AwaitsPhase, AwaitsLine, IsCutOff, LeadsOn, ModePlace, at_start, resting}
use Rattle.turn_laws.specs.Modes.{Leaves}
use Rattle.task_model.specs.declared.task.Task.{Task}
use Rattle.transcript_model.specs.Rounds.{Limits, Share}
use Rattle.transcript_model.specs.Turns.{AreTurns, AreTurnsOf, IncrementalTurn, Kept, Stage, between, after_cut, inside}
use Rattle.transcript_model.specs.declared.entry.Entry.{Entry}

-- a place is between two turns, behind a batch that was cut, or inside a turn: in a batch, or where
-- another line of the turn comes
abbrev pub IsPlaceAt : ModePlace → Stage → Type 0
IsPlaceAt p between = AwaitsPhase p resting
IsPlaceAt p after_cut = IsCutOff p
IsPlaceAt p inside = (0 < p.batch.answers) ⊎ AwaitsLine p

-- Entries that lead somewhere are turns of the mode, the last of which stops there.
abbrev pub ModeCoursesAreTurns : Type 0
ModeCoursesAreTurns =
    (limits : Limits) (task : Task) (entries : List Entry) (p : ModePlace)
    → All (λ (s : Share). 1 ≤ s.workers) limits.pools → LeadsOn limits task at_start [] entries p
    → (stage : Stage) × IsPlaceAt p stage × AreTurnsOf limits.mode limits task entries stage

-- Turns of the mode lead somewhere; whole ones lead between two turns, and behind a batch that was
-- cut they lead there.
abbrev pub TurnsAreModeCourses : Type 0
TurnsAreModeCourses =
    (limits : Limits) (task : Task) (entries : List Entry) (stage : Stage)
    → AreTurnsOf limits.mode limits task entries stage
    → (p : ModePlace) × LeadsOn limits task at_start [] entries p × (¬ (stage ≡ inside) → IsPlaceAt p stage)

-- The same entries lead to one place.
abbrev pub ModeCoursesAreOne : Type 0
ModeCoursesAreOne =
    (limits : Limits) (task : Task) (entries : List Entry) (p q : ModePlace)
    → LeadsOn limits task at_start [] entries p → LeadsOn limits task at_start [] entries q → p ≡ q

-- Whole turns leave what is kept where the entries lead, and that alone; and between two turns it
-- is left.
abbrev pub LeftIsOne : Type 0
LeftIsOne =
    (limits : Limits) (task : Task) (entries : List Entry) (p : ModePlace) (k : Kept)
    → All (λ (s : Share). 1 ≤ s.workers) limits.pools → LeadsOn limits task at_start [] entries p
    → Leaves limits task entries k ↔ (IsPlaceAt p between × (k ≡ p.kept))

-- ---- levels alone

-- the entries are turns of incremental mode
abbrev pub AreIncremental : Limits → Task → List Entry → Stage → Type 0
AreIncremental limits task entries stage =
    AreTurns limits task (IncrementalTurn limits task) tt [] entries stage

-- a course stands between levels, behind one that was cut, or inside one
abbrev pub IsAt : Course → Stage → Type 0
IsAt c between = (c.answers ≡ 0) × (c.is_cut ≡ false)
IsAt c after_cut = (c.answers ≡ 0) × (c.is_cut ≡ true)
IsAt c inside = 0 < c.answers

-- Entries that lead somewhere are turns of incremental mode, the last of which stops there.
abbrev pub LevelCoursesAreTurns : Type 0
LevelCoursesAreTurns =
    (limits : Limits) (task : Task) (entries : List Entry) (c : Course)
    → All (λ (p : Share). 1 ≤ p.workers) limits.pools → Leads limits task course_at_first [] entries c
    → (stage : Stage) × IsAt c stage × AreIncremental limits task entries stage

-- Turns of incremental mode lead somewhere; whole ones lead between levels, and behind a batch that was cut they lead
-- there.
abbrev pub TurnsAreLevelCourses : Type 0
TurnsAreLevelCourses =
    (limits : Limits) (task : Task) (entries : List Entry) (stage : Stage) → AreIncremental limits task entries stage
    → (c : Course) × Leads limits task course_at_first [] entries c × (¬ (stage ≡ inside) → IsAt c stage)

-- The same entries lead to one place.
abbrev pub LevelCoursesAreOne : Type 0
LevelCoursesAreOne =
    (limits : Limits) (task : Task) (entries : List Entry) (c d : Course) → Leads limits task course_at_first [] entries c
    → Leads limits task course_at_first [] entries d → c ≡ d
