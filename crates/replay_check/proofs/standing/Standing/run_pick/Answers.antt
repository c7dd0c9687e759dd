use Rattle.std.proofs.Common.{◌≡◌, length, refl, subst, arith}
use Rattle.std.proofs.lemmas.Result.{on_ok_weaker}
use Rattle.course_check.specs.Agendas.{HasPicked}
use Rattle.pools.specs.Pools.{shares_of}
use Rattle.replay_check.proofs.PointLemmas.{at_point}
use Rattle.replay_check.proofs.standing.Standing.run_pick.Goals as goal

pub pick-requires-clause-left : goal.pick-requires-clause-left
pick-requires-clause-left c =
    omega (arith, c.requires.left, c.len-before.ensures, c.args.self.now.knowledge.asked.ok, c.point-point.ensures.calls_is)

pub returns : goal.returns
returns c = λ k at.
    let b = c.args.bounds.now in
    let s = c.args.self.now in
    let l = s.knowledge in
    let p = c.point-point.result in
    let before : c.len-before.result ≡ length l.asked.items = omega (arith, c.len-before.ensures, l.asked.ok) in
    on_ok_weaker c.pick.result
    (λ h. record {
      picked = at_point b l p c.point-point.ensures
          (λ task known notes pools calls. HasPicked task known notes pools c.args.skeleton k c.args.from (length l.asked.items) calls
          s.course c.pick.new.self)
          (subst (λ n.
          HasPicked p.task.now p.facts.now.known p.queue.now (shares_of p.pools.now) c.args.skeleton k c.args.from n p.calls s.course
          c.pick.new.self) before h);
      knowledge_is = refl;
    }) (c.pick.ensures k at)
