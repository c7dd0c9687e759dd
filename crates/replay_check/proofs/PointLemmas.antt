-- What is said at a point of a transcript, said by what the transcript is judged by.
use Rattle.std.proofs.Common.{ℕ, List, subst}
use Rattle.course_check.specs.declared.point.BatchPoint.{BatchPoint}
use Rattle.learning.specs.declared.knowledge.Knowledge.{Knowledge}
use Rattle.pools.specs.Pools.{shares_of}
use Rattle.task_model.specs.Known.{Known}
use Rattle.task_model.specs.Streams.{Note}
use Rattle.task_model.specs.declared.task.Task.{Task}
use Rattle.transcript_model.specs.Rounds.{Share}
use Rattle.replay_check.specs.Turns.{IsPointOf}
use Rattle.replay_check.specs.declared.bounds.Bounds.{Bounds}

pub at_point : (b : Bounds) (l : Knowledge) (p : BatchPoint) → IsPointOf b l p
    → (Holds : Task → Known → List Note → List Share → ℕ → Type 0)
    → Holds p.task.now p.facts.now.known p.queue.now (shares_of p.pools.now) p.calls
    → Holds b.task.now l.facts.known l.queue (shares_of b.pools.now) b.calls
at_point b l p is Holds holds =
    subst (λ task. Holds task l.facts.known l.queue (shares_of b.pools.now) b.calls) is.task_is
    (subst (λ known. Holds p.task.now known l.queue (shares_of b.pools.now) b.calls) is.known_is
    (subst (λ notes. Holds p.task.now p.facts.now.known notes (shares_of b.pools.now) b.calls) is.notes_is
    (subst (λ pools. Holds p.task.now p.facts.now.known p.queue.now (shares_of pools) b.calls) is.pools_is
    (subst (λ calls. Holds p.task.now p.facts.now.known p.queue.now (shares_of p.pools.now) calls) is.calls_is holds))))
