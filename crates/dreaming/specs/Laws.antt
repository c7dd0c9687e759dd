-- Laws of dreams after a transcript. Each is the contract of a public function of `laws.rt`.
use Rattle.std.specs.Prelude.{◌++◌, ◌≤◌, List, length}
use Rattle.dreaming.specs.Answers.{HasSureNoDreamAfter}
use Rattle.lemmas.specs.Lists.{AreDistinct}
use Rattle.task_model.specs.Dreams as dreams
use Rattle.task_model.specs.Dreams.{entry_names}
use Rattle.task_model.specs.Fit.{IsFit}
use Rattle.task_model.specs.declared.limits.TheConstants.{MOST_SUPPOSED}
use Rattle.task_model.specs.declared.stream.Instance.{Instance}
use Rattle.task_model.specs.declared.task.Task.{Task}
use Rattle.transcript_model.specs.Dreaming.{AreSupposedAfter, HasNoDreamAfter}
use Rattle.transcript_model.specs.Rounds.{Limits}
use Rattle.transcript_model.specs.Transcript.{names_of}
use Rattle.transcript_model.specs.declared.entry.Entry.{Entry}

-- Where there is surely no dream there is none, as a report says it.
abbrev pub SureIsNone : Type 0
SureIsNone =
    (limits : Limits) (task : Task) (before : List Entry) (tried : List Instance)
    → HasSureNoDreamAfter limits task before tried → HasNoDreamAfter limits task before tried

-- Of a fit task no placeholder of at most 20,000 supposed entries has the name of another placeholder, or of an object
-- of the transcript.
abbrev pub PlaceholdersAreOwn : Type 0
PlaceholdersAreOwn =
    (limits : Limits) (task : Task) (before : List Entry) (tried : List Instance) (list : List dreams.SupposedEntry)
    → IsFit task → AreSupposedAfter limits task before tried list → length list ≤ MOST_SUPPOSED
    → AreDistinct (names_of task before ++ entry_names 1 list)
