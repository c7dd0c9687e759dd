use Rattle.round_run.proofs.GoingLemmas.{of_parts}
use Rattle.turn_run.specs.Deciding.{MayDecide}
use Rattle.turn_run.proofs.situation.situation_on.Goals as goal

pub returns-clause-may : goal.returns-clause-may
returns-clause-may c =
    let m = c.requires.may in
    of_parts MayDecide c.args.desk.now c.task.result.now c.head.result.now c.session.result.now c.task.ensures c.head.ensures.is
    c.session.ensures.is (record {
      runnable = c.session.ensures.desk.runnable;
      session = c.session.ensures.desk.session;
      head = m.of;
      working = m.working;
      learnt = m.learnt;
      within = m.within;
    })

pub returns-clause-lies : goal.returns-clause-lies
returns-clause-lies c = record { task = c.task.ensures; head = c.head.ensures.is; session = c.session.ensures.is }
