use Rattle.std.proofs.Common.{◌∙◌, ap, refl, subst}
use Rattle.io_world.specs.Logs.{Calls, said_of, told_of}
use Rattle.restart_host.proofs.ChildrenLemmas.{idle_below}
use Rattle.restart_host.specs.Leads.{AreDoneBelow}
use Rattle.round_run.specs.Told.{stretch}
use Rattle.run_command.proofs.FailedLemmas.{failures_in, run_failed}
use Rattle.run_command.proofs.CountedLemmas.{caused_below, counted_below, told_failed}
use Rattle.run_command.proofs.RestartsLemmas.{heard_again, none_wanted, ok_with}
use Rattle.run_command.specs.Heard.{course_of, heard_over}
use Rattle.run_command.proofs.restarts.run_again.Goals as goal

pub returns-clause-ran : goal.returns-clause-ran
returns-clause-ran g c =
    let old = c.args.outer.now in
    let new = c.run_in_mode.new.host in
    let e = c.run_in_mode.ensures.ran in
    let led = e.led.leads.2 in
    record {
      heard = record { spoken = said_of new.log; was = told_of old.log; now = told_of new.log };
      by = heard_again old.left _
          (heard_over (stretch g.H.Host g.O.Sink old.host.now new.host.now c.args.out.now c.run_in_mode.new.out)) _
          c.requires.some (record {
            calls = new.log;
            spoken = refl;
            was = ap told_of c.requires.fresh.0;
            now = refl;
            whole = λ not. led.whole (e.led.quiet (none_wanted c.run_in_mode.result not))
                ∙ ap (λ (l : Calls). l.whole) c.requires.fresh.0;
            events = led.events;
            log = led.log;
            done = λ whole.
                subst (λ es. AreDoneBelow es new.log.events (g.H.Host.log old.host.now) (g.H.Host.log new.host.now) led.events)
                (ap (λ (l : Calls). l.events) c.requires.fresh.0) (led.done whole);
          });
      reported = e.reported;
      broken = e.broken;
      unneeded = ok_with _ _ c.run_in_mode.result (λ ran still none.
          (ap (λ r. told_of r.log) (still none), ap (λ r. r.host.now) (still none))) e.unneeded;
      idle = λ k. new.ties k ∙ idle_below new.children.items e.idle k;
      host = caused_below g.H.Host.last _ _ e.led.wanted led c.requires.fresh.1 new.over c.run_in_mode.result e.host;
      failed = counted_below g.H.Host.last _ _ e.led.wanted led c.requires.fresh.1 new.over c.run_in_mode.result e.host
          c.requires.fresh.0
          (λ some.
          let quiet = e.led.quiet (none_wanted c.run_in_mode.result some) in (
            quiet,
            told_failed new.log (told_of old.log) (failures_in c.run_in_mode.result) (ap told_of c.requires.fresh.0)
                (led.whole quiet ∙ ap (λ (l : Calls). l.whole) c.requires.fresh.0)
                (run_failed c.args.task.now c.args.head.now (said_of new.log) (told_of old.log) (told_of new.log)
                (g.O.Sink.taken c.args.out.now) (g.O.Sink.taken c.run_in_mode.new.out) c.run_in_mode.result some e.reported e.broken),
          ))
          (course_of (stretch g.H.Host g.O.Sink old.host.now new.host.now c.args.out.now c.run_in_mode.new.out)) refl refl refl led.log;
      sink = e.sink;
    }
