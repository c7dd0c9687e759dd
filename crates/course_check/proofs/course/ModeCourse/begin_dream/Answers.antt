use Rattle.std.proofs.Common.{◌-◌, ap, arith}
use Rattle.course_check.specs.Agendas.{ModeAgenda}
use Rattle.instance_queue.specs.Level.{due_instances}
use Rattle.course_check.proofs.AgendasLemmas.{dream_begins, firsts_are}
use Rattle.pools.specs.Pools.{shares_of}
use Rattle.course_check.proofs.course.ModeCourse.begin_dream.Goals as goal

pub returns-clause-begins : goal.returns-clause-begins
returns-clause-begins c =
    let dues = c.args.asks.items in
    let left = c.args.calls - c.args.before in
    dream_begins c.self.inside c.args.self.now (shares_of c.args.pools.now) dues c.args.before c.args.calls c.begin.new.self
    c.join.new.self (due_instances c.split_at.result.0.now) c.self.view_is c.in_ok-join.ensures
    (firsts_are left c.min-count.result c.len.result dues c.as_slice.result.now c.split_at.result.0.now
    (omega (arith, c.len.ensures, c.args.asks.ok))
    c.min-count.ensures c.as_slice.ensures.value c.split_at.ensures.front) c.begin.ensures

pub returns-clause-run : goal.returns-clause-run
returns-clause-run c = ap (λ (a : ModeAgenda). a.run) c.self.view_is
