use Rattle.std.proofs.Common.{◌≡◌, Result, Ok, Err, ap, inl, inr, refl, subst, sym}
use Rattle.io_world.proofs.TalksLemmas.{extends_none}
use Rattle.command_line.specs.Held.{held_solve}
use Rattle.round_run.proofs.CallsRunLemmas.{stops_none}
use Rattle.round_run.proofs.StoppedLemmas.{handed_err}
use Rattle.round_run.specs.declared.fault.RunFault.TheVariants as fault
use Rattle.command_files.specs.Outside.{outside_of, written_of}
use Rattle.command_files.specs.declared.stop.Stop.{Stop}
use Rattle.command_files.specs.declared.stop.Stop.TheVariants as stop
use Rattle.turn_run.specs.declared.whole_run.Ran.{Ran}
use Rattle.run_command.proofs.CausesLemmas.{host_of_lined, lined_at_text, lined_spares, spared, unfailed}
use Rattle.run_command.proofs.ReportsLemmas.{made_failed, made_solved, unread_spares}
use Rattle.run_command.proofs.CountedLemmas.{counted_behind, counted_still, counted_stopped}
use Rattle.run_command.specs.Heard.{AreCounted}
use Rattle.command_line.specs.Words.{SolveWords}
use Rattle.round_run.specs.Told.{course}
use Rattle.run_command.proofs.MakingLemmas.{made_in_range, made_seen, makes_run, solved_made, unsolved_made}
use Rattle.run_command.specs.Making.{MakesRun}
use Rattle.run_command.specs.Works.{seen_made}
use Rattle.run_command.proofs.maker.make.Goals as goal

pub report-requires-clause-within : goal.report-requires-clause-within
report-requires-clause-within g c = made_in_range (held_solve c.in_ok-words.words) c.in_ok-words.ensures

-- memory is wanting for the words or for the texts

pub returns-in_err-words-clause-ends : goal.returns-in_err-words-clause-ends
returns-in_err-words-clause-ends g c =
    subst (MakesRun c.args.number (outside_of (seen_made c.args.number) g.H.Host.spoken g.H.Host.log c.args.host.now c.args.host.now)
    (c.args.host.now ≡ c.args.host.now) (written_of g.O.Sink.taken c.args.out.now c.args.out.now))
    (sym (handed_err c.from_residual.result (stop.Run fault.Memory) c.from_residual.ensures.1))
    (inr (record { nothing = refl; cause = inl (refl, stops_none (g.H.Host.log c.args.host.now)) }))

pub returns-in_err-files-clause-ends : goal.returns-in_err-files-clause-ends
returns-in_err-files-clause-ends g c =
    subst (MakesRun c.args.number (outside_of (seen_made c.args.number) g.H.Host.spoken g.H.Host.log c.args.host.now c.args.host.now)
    (c.args.host.now ≡ c.args.host.now) (written_of g.O.Sink.taken c.args.out.now c.args.out.now))
    (sym (handed_err c.from_residual-in_err-files.result (stop.Run fault.Memory) c.from_residual-in_err-files.ensures.1))
    (inr (record { nothing = refl; cause = inl (refl, stops_none (g.H.Host.log c.args.host.now)) }))

-- the task has no outcome

pub returns-in-Err-clause-ends : goal.returns-in-Err-clause-ends
returns-in-Err-clause-ends g c = inr (record {
  nothing = refl;
  cause = inr (record {
    inner = _;
    none = unsolved_made c.args.number _ (made_seen c.args.number _ c.in_ok-files.ensures) (held_solve c.in_ok-words.words)
        c.in_ok-words.ensures _ _ _ _ c.in-Err.stop (made_failed (held_solve c.in_ok-words.words) c.in_ok-words.ensures
        (outside_of _ g.H.Host.spoken g.H.Host.log c.args.host.now c.report.new.host) _ _ c.in-Err.stop c.in-Err.ensures.reported);
    other = unfailed c.report.result c.in-Err.stop c.in-Err.is c.report.ensures.sink;
  });
})

-- it has one

pub returns-clause-ends : goal.returns-clause-ends
returns-clause-ends g c =
    makes_run c.args.number _ _ _ _ c.in-Ok.ran
    (solved_made c.args.number _ (made_seen c.args.number _ c.in_ok-files.ensures) (held_solve c.in_ok-words.words)
    c.in_ok-words.ensures _ _ _ _ _ c.in-Ok.ran (made_solved (held_solve c.in_ok-words.words) c.in_ok-words.ensures
    (outside_of _ g.H.Host.spoken g.H.Host.log c.args.host.now c.report.new.host) _ _ c.in-Ok.ran c.in-Ok.ensures.reported))
    c.show.result c.show.ensures.shown

pub returns-in-Err-clause-sink : goal.returns-in-Err-clause-sink
returns-in-Err-clause-sink g c =
    spared _ c.in-Err.stop _ refl (unfailed c.report.result c.in-Err.stop c.in-Err.is c.report.ensures.sink)

pub returns-clause-host : goal.returns-clause-host
returns-clause-host g c = host_of_lined _ _ _ c.show.result c.show.ensures.shown _ _ _ c.report.ensures.host.later

pub returns-clause-leaves : goal.returns-clause-leaves
returns-clause-leaves g c = lined_at_text _ _ _ _ c.show.result c.show.ensures.shown

pub returns-clause-failed : goal.returns-clause-failed
returns-clause-failed g c =
    counted_behind (stop.Run fault.Generator) (stop.Run fault.Memory) 0 _ c.in-Ok.ran c.show.result
    (lined_spares _ _ _ c.show.result c.show.ensures.shown)
    (subst (λ n. AreCounted n (course g.H.Host c.args.host.now c.report.new.host) (let r : Result Ran Stop = Ok c.in-Ok.ran in r))
    (ap (λ (w : SolveWords). w.restarts) c.in_ok-words.ensures) c.in-Ok.ensures.failed)

pub returns-in-Err-clause-failed : goal.returns-in-Err-clause-failed
returns-in-Err-clause-failed g c =
    counted_stopped (stop.Run fault.Generator) (stop.Run fault.Memory) 0 _ c.in-Err.stop
    (subst (λ n. AreCounted n (course g.H.Host c.args.host.now c.report.new.host) (let r : Result Ran Stop = Err c.in-Err.stop in r))
    (ap (λ (w : SolveWords). w.restarts) c.in_ok-words.ensures) c.in-Err.ensures.failed)

pub returns-in_err-words-clause-failed : goal.returns-in_err-words-clause-failed
returns-in_err-words-clause-failed g c =
    counted_still (stop.Run fault.Generator) (stop.Run fault.Memory) 0 _ c.from_residual.result
    (unread_spares c.from_residual.result (stop.Run fault.Memory) _ c.from_residual.ensures.1 tt)
    (extends_none (g.H.Host.log c.args.host.now))

pub returns-in_err-files-clause-failed : goal.returns-in_err-files-clause-failed
returns-in_err-files-clause-failed g c =
    counted_still (stop.Run fault.Generator) (stop.Run fault.Memory) 0 _ c.from_residual-in_err-files.result
    (unread_spares c.from_residual-in_err-files.result (stop.Run fault.Memory) _ c.from_residual-in_err-files.ensures.1 tt)
    (extends_none (g.H.Host.log c.args.host.now))
