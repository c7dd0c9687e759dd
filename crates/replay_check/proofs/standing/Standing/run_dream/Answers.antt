use Rattle.std.proofs.Common.{◌≡◌, [], length, refl, subst, arith}
use Rattle.std.proofs.lemmas.Result.{on_ok_weaker}
use Rattle.course_check.specs.Agendas.{ModeAgenda, MovesOn, with_run}
use Rattle.course_check.specs.Places.{resting}
use Rattle.pools.specs.Pools.{shares_of}
use Rattle.replay_check.proofs.PointLemmas.{at_point}
use Rattle.replay_check.proofs.standing.Standing.run_dream.Goals as goal

pub follow_dream-requires : goal.follow_dream-requires
follow_dream-requires c =
    omega (arith, c.requires.left, c.len-before.ensures, c.args.self.now.knowledge.asked.ok, c.point-point.ensures.calls_is)

pub returns : goal.returns
returns c =
    let b = c.args.bounds.now in
    let s = c.args.self.now in
    let l = s.knowledge in
    let p = c.point-point.result in
    let entries = c.args.dream.items in
    let before : c.len-before.result ≡ length l.asked.items = omega (arith, c.len-before.ensures, l.asked.ok) in
    let run : with_run s.course entries c.name_count-real.result c.args.from c.len-before.result
    ≡ with_run s.course entries (length l.facts.known.names) c.args.from (length l.asked.items) =
    λ i. with_run s.course entries (c.name_count-real.ensures.count i) c.args.from (before i) in
    on_ok_weaker c.follow_dream.result
    (λ m. record {
      moves = at_point b l p c.point-point.ensures
          (λ task known notes pools calls. MovesOn task known notes [] pools resting calls
          (with_run s.course entries (length l.facts.known.names) c.args.from (length l.asked.items)) c.follow_dream.new.self)
          (subst (λ (a : ModeAgenda).
          MovesOn p.task.now p.facts.now.known p.queue.now [] (shares_of p.pools.now) resting p.calls a c.follow_dream.new.self) run m);
      knowledge_is = refl;
    }) c.follow_dream.ensures
