-- Accepted streams are fit.
use Rattle.std.specs.Prelude.{List}
use Rattle.task_model.specs.Fit.{AreFitStreams}
use Rattle.task_model.specs.declared.domain.Domain.{Domain}
use Rattle.task_model.specs.declared.stream.Stream.{Stream}
use Rattle.task_model.specs.declared.task.Problem.{Problem}

-- The streams are fit for tasks of this domain, whatever their problem is.
abbrev pub AreFitOver : Domain → List Stream → Type 0
AreFitOver d streams =
    (problem : Problem)
    → AreFitStreams (record { domain = d; problem = problem; streams = streams })
