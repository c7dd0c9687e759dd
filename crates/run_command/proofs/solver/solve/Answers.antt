use Rattle.std.proofs.Common.{ap, Err}
use Rattle.command_line.specs.Held.{held_solve}
use Rattle.round_run.proofs.StoppedLemmas.{same_err}
use Rattle.round_run.specs.declared.fault.RunFault.TheVariants as fault
use Rattle.command_files.specs.declared.stop.Stop.TheVariants.{Run}
use Rattle.run_command.proofs.CountedLemmas.{counted_done, counted_stopped}
use Rattle.run_command.proofs.RestartsLemmas.{heard_weaker}
use Rattle.run_command.proofs.solver.solve.Goals as goal

pub returns-in-Ok-clause-ends : goal.returns-in-Ok-clause-ends
returns-in-Ok-clause-ends g c =
    let r = c.in-Ok.ensures.reported in
    record {
      heard = r.heard;
      by = heard_weaker (held_solve c.args.words.now).restarts _ _ _ _ (λ is. absurd (cc (is))) r.by;
      ends = record { ran = c.in-Ok.ran; kind = c.status_of.ensures; solved = r.solved };
    }

pub returns-in-Err-clause-ends : goal.returns-in-Err-clause-ends
returns-in-Err-clause-ends g c =
    let r = c.in-Err.ensures.reported in
    record {
      heard = r.heard;
      by = heard_weaker (held_solve c.args.words.now).restarts _ _ _ _ (λ is. ap Err (same_err is)) r.by;
      ends = r.failed;
    }

pub returns-in-Ok-clause-failed : goal.returns-in-Ok-clause-failed
returns-in-Ok-clause-failed g c =
    counted_done (Run fault.Generator) (Run fault.Memory) (Run fault.Generator) (Run fault.Memory) c.args.words.now.restarts _ _ _
    c.in-Ok.ensures.failed

pub returns-in-Err-clause-failed : goal.returns-in-Err-clause-failed
returns-in-Err-clause-failed g c =
    counted_stopped (Run fault.Generator) (Run fault.Memory) c.args.words.now.restarts _ c.in-Err.stop c.in-Err.ensures.failed
