use Rattle.std.proofs.Common.{[], ap}
use Rattle.std.proofs.lemmas.Result.{on_ok_weaker}
use Rattle.course_check.proofs.NextLemmas.{moves_from}
use Rattle.course_check.specs.Agendas.{ModeAgenda, shown_mode, with_run}
use Rattle.course_check.specs.Places.{resting}
use Rattle.pools.specs.Pools.{shares_of}
use Rattle.course_check.proofs.course.ModeCourse.follow_dream.Goals as goal

pub returns : goal.returns
returns c =
    let s = c.self.inside in
    let old = shown_mode (record {
      batch = s.batch;
      phase = s.phase;
      tried = s.tried;
      skeletons = s.skeletons;
      run = c.new.result;
      alloc = s.alloc;
    }) in
    on_ok_weaker c.begin_next.result
    (λ m. moves_from c.args.point.now.task.now c.args.point.now.facts.now.known c.args.point.now.queue.now [] (shares_of c.args.point.now.pools.now) resting c.args.point.now.calls old
    (with_run c.args.self.now c.args.entries.items c.args.real c.args.from c.args.before) c.begin_next.new.self
    c.new.ensures (ap (λ (a : ModeAgenda). a.kept) c.self.view_is) m)
    c.begin_next.ensures
