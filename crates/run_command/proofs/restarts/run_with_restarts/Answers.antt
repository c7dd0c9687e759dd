use Rattle.std.proofs.Common.{arith, ap, Err, inl, refl, []}
use Rattle.io_world.proofs.TalksLemmas.{extends_none}
use Rattle.report_text.proofs.PrintsLemmas.{appends_none}
use Rattle.round_run.proofs.StoppedLemmas.{handed_err}
use Rattle.round_run.specs.Told.{stretch}
use Rattle.round_run.specs.declared.fault.RunFault.TheVariants.{Generator, Memory}
use Rattle.run_command.proofs.CountedLemmas.{counted_still}
use Rattle.run_command.proofs.RestartsLemmas.{heard_silent, moved, plain_run, silent, silent_stops}
use Rattle.run_command.specs.Heard.{EndsHeard, course_of}
use Rattle.run_command.proofs.restarts.run_with_restarts.Goals as goal

pub returns-then-restarts-eq0 : goal.returns-then-restarts-eq0
returns-then-restarts-eq0 g c = record {
  ran = plain_run c.args.restarts c.if-restarts-eq0.true c.args.task.now c.args.head.now _ c.run_in_mode.result
      (λ same. ap g.H.Host.log same) c.run_in_mode.ensures.ran;
}

-- no memory for the room

pub returns-in_err-children : goal.returns-in_err-children
returns-in_err-children g c = record {
  ran = moved (EndsHeard c.args.restarts c.args.task.now c.args.head.now
      (stretch g.H.Host g.O.Sink c.args.host.now c.args.host.now c.args.out.now c.args.out.now)) c.from_residual.result (Err Memory)
      (handed_err c.from_residual.result Memory c.from_residual.ensures.1) (record {
        heard = silent c.args.restarts (g.H.Host.spoken c.args.host.now) (g.H.Host.log c.args.host.now);
        by = heard_silent c.args.restarts _ (g.H.Host.spoken c.args.host.now) (g.H.Host.log c.args.host.now);
        reported = tt;
        broken = record {
          text = [];
          form = inl (refl, refl, silent_stops c.args.restarts (g.H.Host.spoken c.args.host.now) (g.H.Host.log c.args.host.now));
          told = appends_none (g.O.Sink.taken c.args.out.now);
        };
        unneeded = tt;
        idle = c.requires.may.idle;
        host = record { later = omega arith; cause = λ is. absurd (cc (is)) };
        failed = counted_still Generator Memory c.args.restarts
            (course_of (stretch g.H.Host g.O.Sink c.args.host.now c.args.host.now c.args.out.now c.args.out.now)) (Err Memory)
            (λ is. absurd (cc (is))) (extends_none (g.H.Host.log c.args.host.now));
        sink = record { later = omega arith; cause = λ is. absurd (cc (is)) };
      });
}
