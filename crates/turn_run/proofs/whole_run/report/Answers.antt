use Rattle.std.proofs.Common.{ap, arith, count_by, length, subst, sym, ◌∙◌}
use Rattle.std.specs.Io.KnownBytes.{Appends}
use Rattle.round_run.proofs.GoingLemmas.{cause_behind}
use Rattle.turn_run.proofs.ReportingLemmas.{causes_written, reports_handed}
use Rattle.turn_run.proofs.ReportsLemmas.{broken_end, broken_head, broken_turns, reported, run_calls, told_so_far}
use Rattle.turn_run.proofs.TabledLemmas.{run_tabled}
use Rattle.round_run.specs.TurnLines.{Advances, TurnBreaks}
use Rattle.turn_run.specs.Reports.{text_of_end}
use Rattle.turn_run.specs.Turns.{IsFrontOfRun}
use Rattle.report_text.specs.Prints.{CutOff}
use Rattle.report_text.specs.Texts.{text_of_head}
use Rattle.io_world.specs.Faults.{last_count}
use Rattle.round_run.proofs.CallsStopLemmas.{ran_of}
use Rattle.round_run.proofs.LedLemmas.{led_as, led_none}
use Rattle.round_run.proofs.StoppedLemmas.{written_cause}
use Rattle.round_run.specs.Dialogue.{workers_in}
use Rattle.round_run.specs.Rolling.{Goes, Stopped}
use Rattle.round_run.specs.declared.fault.RunFault.TheVariants.{Write}
use Rattle.session_core.specs.State.{State}
use Rattle.task_model.specs.declared.task.Task.{Task}
use Rattle.transcript_model.specs.Legal.{asks_of, is_level}
use Rattle.transcript_model.specs.declared.head.Head.{Head}
use Rattle.turn_run.proofs.whole_run.report.Goals as goal

pub returns-in_err-print_head : goal.returns-in_err-print_head
returns-in_err-print_head g c =
    let desk = c.args.desk.now in
    let fault = c.in_err-print_head.field-0.0 in
    let old = g.O.Sink.taken c.args.out.now in
    let mid = g.O.Sink.taken c.print_head.new.out in
    let cut = subst (λ (h : Head). CutOff old mid (text_of_head desk.task h)) c.head-head.ensures.is
    (subst (λ (t : Task). CutOff old mid (text_of_head t c.head-head.result.now)) c.task.ensures c.in_err-print_head.ensures.told) in
    record {
      ends = reports_handed desk desk _ fault c.from_residual.result c.from_residual.ensures.1
          (broken_head desk.task desk.head (g.H.Host.spoken c.args.host.now) fault (g.H.Host.log c.args.host.now) old mid
          c.in_err-print_head.ensures.only cut)
          c.requires.still.still.state
          (causes_written g.H.Host.last _ _ _ _ fault c.in_err-print_head.ensures.only (omega arith) c.in_err-print_head.ensures.cause)
          (led_none (g.met.H.Host.stays c.args.host.now));
    }

pub returns-in_err-outcome : goal.returns-in_err-outcome
returns-in_err-outcome g c =
    let desk = c.args.desk.now in
    let task = desk.task in
    let head = desk.head in
    let new = c.run_turns.new.desk in
    let fault = c.in_err-outcome.field-0.0 in
    let old = g.O.Sink.taken c.args.out.now in
    let mid = g.O.Sink.taken c.print_head.new.out in
    let now = g.O.Sink.taken c.run_turns.new.out in
    let was = g.H.Host.log c.args.host.now in
    let log = g.H.Host.log c.run_turns.new.host in
    let spoken = g.H.Host.spoken c.run_turns.new.host in
    let goes = c.in_err-outcome.ensures.goes in
    let first = subst (λ (h : Head). Appends old mid (text_of_head task h)) c.head-head.ensures.is
    (subst (λ (t : Task). Appends old mid (text_of_head t c.head-head.result.now)) c.task.ensures c.in_ok-print_head.ensures.told) in
    let stopped = subst (λ es. Stopped head.version task (workers_in head) (IsFrontOfRun head task) es fault mid now spoken
    (TurnBreaks task head es fault was log)) c.requires.still.new.entries goes.stopped in
    record {
      ends = reports_handed desk new _ fault c.from_residual-in_err-outcome.result c.from_residual-in_err-outcome.ensures.1
          (broken_turns task head spoken fault was log old mid now first stopped) goes.state
          (record {
            host = goes.causes.host;
            sink = cause_behind Write last_count (g.O.Sink.faults c.args.out.now) (g.O.Sink.faults c.print_head.new.out)
                (g.O.Sink.faults c.run_turns.new.out) _ c.in_ok-print_head.ensures.cause.later goes.causes.sink;
          }) goes.led;
    }

pub returns-in_err-print_end : goal.returns-in_err-print_end
returns-in_err-print_end g c =
    let desk = c.args.desk.now in
    let task = desk.task in
    let head = desk.head in
    let new = c.run_turns.new.desk in
    let entries = new.state.entries in
    let o = c.in_ok-outcome.outcome in
    let fault = c.in_err-print_end.field-0.0 in
    let old = g.O.Sink.taken c.args.out.now in
    let mid = g.O.Sink.taken c.print_head.new.out in
    let now = g.O.Sink.taken c.run_turns.new.out in
    let last = g.O.Sink.taken c.print_end.new.out in
    let was = g.H.Host.log c.args.host.now in
    let log = g.H.Host.log c.run_turns.new.host in
    let spoken = g.H.Host.spoken c.run_turns.new.host in
    let goes = c.in_ok-outcome.ensures.goes in
    let ran = goes.ran in
    let order = subst (λ es. Advances task head es entries was log) c.requires.still.new.entries goes.adds.order in
    let first = subst (λ (h : Head). Appends old mid (text_of_head task h)) c.head-head.ensures.is
    (subst (λ (t : Task). Appends old mid (text_of_head t c.head-head.result.now)) c.task.ensures c.in_ok-print_head.ensures.told) in
    let so_far = told_so_far task head spoken entries old mid now first
    (subst (λ es. Goes es entries mid now) c.requires.still.new.entries goes.adds.goes) in
    let cut = subst (λ (h : Head). CutOff now last (text_of_end h.version o)) c.head-head.ensures.is c.in_err-print_end.ensures.told in
    record {
      ends = reports_handed desk new _ fault c.from_residual-in_err-print_end.result c.from_residual-in_err-print_end.ensures.1
          (broken_end task head spoken entries o fault was log old now last ran.run ran.talks
          (run_tabled task head entries o spoken c.requires.fit c.head-head.ensures.desk.runnable ran.run ran.talks) order.runs ran.needed
          so_far c.in_err-print_end.ensures.only cut) goes.state
          (causes_written g.H.Host.last _ _ _ _ fault c.in_err-print_end.ensures.only goes.causes.host.later
          (cause_behind Write last_count (g.O.Sink.faults c.args.out.now) (g.O.Sink.faults c.run_turns.new.out)
          (g.O.Sink.faults c.print_end.new.out) _
          (omega (arith, c.in_ok-print_head.ensures.cause.later, goes.causes.sink.later)) c.in_err-print_end.ensures.cause))
          (led_as goes.led);
    }

pub count_levels-requires : goal.count_levels-requires
count_levels-requires g c =
    let goes = c.in_ok-outcome.ensures.goes in
    let desk = c.args.desk.now in
    omega (
      arith,
      ap (count_by is_level) (c.entries.ensures ∙ ap (λ (x : State). x.entries) c.session-session.ensures.is),
      goes.ran.levels,
      goes.ran.asks,
      run_calls desk.task desk.head c.run_turns.new.desk.state.entries c.in_ok-outcome.outcome goes.ran.run,
      c.head-head.ensures.desk.runnable.fit.calls,
    )

pub returns : goal.returns
returns g c =
    let desk = c.args.desk.now in
    let task = desk.task in
    let head = desk.head in
    let new = c.run_turns.new.desk in
    let entries = new.state.entries in
    let o = c.in_ok-outcome.outcome in
    let old = g.O.Sink.taken c.args.out.now in
    let mid = g.O.Sink.taken c.print_head.new.out in
    let now = g.O.Sink.taken c.run_turns.new.out in
    let last = g.O.Sink.taken c.print_end.new.out in
    let was = g.H.Host.log c.args.host.now in
    let log = g.H.Host.log c.run_turns.new.host in
    let spoken = g.H.Host.spoken c.run_turns.new.host in
    let goes = c.in_ok-outcome.ensures.goes in
    let ran = goes.ran in
    let order = subst (λ es. Advances task head es entries was log) c.requires.still.new.entries goes.adds.order in
    let first = subst (λ (h : Head). Appends old mid (text_of_head task h)) c.head-head.ensures.is
    (subst (λ (t : Task). Appends old mid (text_of_head t c.head-head.result.now)) c.task.ensures c.in_ok-print_head.ensures.told) in
    let so_far = told_so_far task head spoken entries old mid now first
    (subst (λ es. Goes es entries mid now) c.requires.still.new.entries goes.adds.goes) in
    let end = subst (λ (h : Head). Appends now last (text_of_end h.version o)) c.head-head.ensures.is c.in_ok-print_end.ensures.told in
    let asks = c.asks.ensures ∙ ap (λ (x : State). length x.asked) c.session-session.ensures.is in
    record {
      ends = record {
        reported = reported task head spoken entries o c.count_levels.result c.asks.result was log old now last ran.run ran.talks
            (run_tabled task head entries o spoken c.requires.fit c.head-head.ensures.desk.runnable ran.run ran.talks)
            (ran_of task head entries was log order.runs)
            (c.count_levels.ensures ∙ ap (count_by is_level)
            (c.entries.ensures ∙ ap (λ (x : State). x.entries) c.session-session.ensures.is))
            (asks ∙ ran.asks) so_far end;
        broken = tt;
        untouched = λ none.
            let asked = sym asks ∙ none in
            (goes.still (sym ran.asks ∙ asked ∙ sym (ap asks_of c.requires.still.new.entries)), c.in_ok-outcome.ensures.idle asked);
        state = goes.state;
        causes = record {
          host = record { later = goes.causes.host.later; cause = λ is. absurd (cc) };
          sink = written_cause _ _ _ _ _ _ c.in_ok-print_head.ensures.cause.later goes.causes.sink.later
              c.in_ok-print_end.ensures.cause.later;
        };
        led = goes.led;
      };
    }
