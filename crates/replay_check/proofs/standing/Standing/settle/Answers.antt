use Rattle.std.proofs.Common.{refl, arith}
use Rattle.std.proofs.lemmas.Bool.{and_parts}
use Rattle.std.proofs.lemmas.Result.{on_ok_weaker}
use Rattle.course_check.specs.Agendas.{HasSettled}
use Rattle.course_check.specs.BatchAgendas.{is_over}
use Rattle.course_check.specs.Places.{is_repeated}
use Rattle.replay_check.proofs.PointLemmas.{at_point}
use Rattle.replay_check.proofs.standing.Standing.settle.Goals as goal

pub settle-requires-clause-left : goal.settle-requires-clause-left
settle-requires-clause-left c = λ settles.
    let a = c.args.self.now.course in
    let run = c.requires.run (and_parts (is_over a.batch) (is_repeated a.phase) settles).1 in
    let left = run.left in
    omega (arith, left, c.point-point.ensures.calls_is)

pub returns : goal.returns
returns c =
    let s = c.args.self.now in
    on_ok_weaker c.settle.result
    (λ h. record {
      settled = at_point c.args.bounds.now s.knowledge c.point-point.result c.point-point.ensures
          (λ task known notes pools calls. HasSettled task known notes c.args.entries.now pools calls s.course c.settle.new.self) h;
      knowledge_is = refl;
    }) c.settle.ensures
