-- What a fit task has few of.
use Rattle.std.proofs.Common.{◌≤◌, length, leb-true}
use Rattle.std.specs.Cmp.{first_so}
use Rattle.std.specs.List.{list_all}
use Rattle.task_model.specs.Fit.{IsFit, is_fit_stream, is_short}
use Rattle.task_model.specs.declared.task.Task.{Task}

pub few_streams : (task : Task) → IsFit task → length task.streams ≤ 8388608
few_streams task fit =
    leb-true (length task.streams) 8388608
    (first_so (is_short task.streams) (list_all (is_fit_stream task.domain) task.streams) fit.streams.each)
