use Rattle.std.proofs.Common.{◌≡◌, List, subst, sym}
use Rattle.problem_reader.specs.Fitness.{IsFitOver}
use Rattle.stream_reader.specs.Fitness.{AreFitOver}
use Rattle.task_model.specs.Fit.{IsFit, IsFitDomain}
use Rattle.task_model.specs.declared.domain.Domain.{Domain}
use Rattle.task_model.specs.declared.stream.Stream.{Stream}
use Rattle.task_model.specs.declared.task.Problem.{Problem}
use Rattle.worked_tasks.proofs.reading.task.Goals as goal

-- a task of three parts that are fit over one another
fit_together : (read d e : Domain) (p : Problem) (ss : List Stream) → IsFitDomain read
    → IsFitOver d p → AreFitOver e ss → d ≡ read → e ≡ read
    → IsFit (record { domain = read; problem = p; streams = ss })
fit_together read d e p ss fit over streams is also = record {
  domain = fit;
  problem = subst (λ x. IsFitOver x p) is over ss;
  streams = subst (λ x. AreFitOver x ss) also streams p;
}

pub returns : goal.returns
returns c =
    let fit = fit_together c.in_ok-domain.domain.value c.deref.result.now c.deref-2.result.now c.in_ok-problem.problem.value
    c.in_ok-streams.streams.value
    c.in_ok-domain.ensures.fit c.in_ok-problem.ensures c.in_ok-streams.ensures c.deref.ensures c.deref-2.ensures in
    subst IsFit (sym c.in_ok-new.ensures.ok)
    (subst (λ d. IsFit (record { domain = d; problem = c.into_inner-2.result; streams = c.into_inner-3.result })) (sym c.into_inner.ensures)
    (subst (λ p. IsFit (record { domain = c.in_ok-domain.domain.value; problem = p; streams = c.into_inner-3.result }))
    (sym c.into_inner-2.ensures)
    (subst (λ ss. IsFit (record { domain = c.in_ok-domain.domain.value; problem = c.in_ok-problem.problem.value; streams = ss }))
    (sym c.into_inner-3.ensures) fit)))
