use Rattle.std.proofs.Common.{[], sym, subst}
use Rattle.course_check.specs.Agendas.{ModeAgenda}
use Rattle.replay_check.proofs.StandingsAskLemmas.{stands_first}
use Rattle.replay_check.specs.Standings.{StandsBehind, limits_by}
use Rattle.replay_check.proofs.standing.Standing.new.Goals as goal

pub returns : goal.returns
returns c =
    let b = c.args.bounds.now in
    record {
      stands = subst (λ (a : ModeAgenda). StandsBehind (limits_by b) b.task.now [] c.in_ok-knowledge.knowledge a)
          (sym c.new-course.ensures) (stands_first (limits_by b) b.task.now c.in_ok-knowledge.knowledge (c.in_ok-knowledge.ensures b.version));
      decided = λ place there. absurd (cc);
    }
