-- No placeholder has the name of another object.
use Rattle.std.proofs.Common.{◌++◌, ◌≤◌, List, length}
use Rattle.learning.proofs.FitStreamLemmas.{fit_parts}
use Rattle.turn_laws.proofs.DreamFreshLemmas.{few_outputs}
use Rattle.lemmas.specs.Lists.{AreDistinct}
use Rattle.optimistic_set.proofs.PlaceholderLemmas.{names_distinct}
use Rattle.task_model.specs.Dreams as dreams
use Rattle.task_model.specs.Dreams.{entry_names}
use Rattle.task_model.specs.Fit.{IsFit}
use Rattle.task_model.specs.declared.stream.Instance.{Instance}
use Rattle.task_model.specs.declared.task.Task.{Task}
use Rattle.transcript_model.proofs.LegalPrefixLemmas.{names_of-distinct}
use Rattle.transcript_model.proofs.NamedObjectLemmas.{fit_stream_at}
use Rattle.transcript_model.specs.Dreaming.{AreSupposedAfter}
use Rattle.transcript_model.specs.Rounds.{Limits}
use Rattle.transcript_model.specs.Transcript.{known_of, names_of, notes_of}
use Rattle.transcript_model.specs.declared.entry.Entry.{Entry}
use Rattle.dreaming.proofs.AfterLemmas.{names_real}

pub own_names : (limits : Limits) (task : Task) (before : List Entry) (tried : List Instance) (list : List dreams.SupposedEntry)
    → IsFit task
    → AreSupposedAfter limits task before tried list → length list ≤ 20000
    → AreDistinct (names_of task before ++ entry_names 1 list)
own_names limits task before tried list fit so few =
    names_distinct (names_of task before) list (names_of-distinct task before fit.problem.objects.names.distinct)
    (names_real task fit before)
    (few_outputs task (known_of task before) (notes_of task before) tried limits.depth 8 list so
    (λ k s at. (fit_parts task.domain s (fit_stream_at task k s fit at)).outputs))
    few
