use Rattle.std.proofs.Common.{◌∙◌, inr, refl}
use Rattle.run_command.proofs.HeadsLemmas.{head_alone, head_runs}
use Rattle.command_files.proofs.InputsLemmas.{later_on}
use Rattle.run_command.proofs.CausesLemmas.{no_cause}
use Rattle.io_world.proofs.TalksLemmas.{extends_none}
use Rattle.run_command.proofs.ReportsLemmas.{counted_handed, lacks_handed, unread_report, unread_spares}
use Rattle.run_command.proofs.CountedLemmas.{counted_done, counted_still}
use Rattle.run_command.proofs.RestartsLemmas.{heard_weaker}
use Rattle.round_run.specs.declared.fault.RunFault.TheVariants as fault
use Rattle.command_files.specs.declared.stop.Stop.TheVariants as stop
use Rattle.run_command.proofs.PoolsLemmas.{asks_all, ends_at_grid, ends_at_pools, ends_in, ends_named, means_in, pools_served, read_in, reads_more, spelled_in}
use Rattle.command_line.specs.Held.{held_solve}
use Rattle.command_files.specs.Inputs.{file_at, task_files}
use Rattle.command_files.specs.declared.stop.FileRole.TheVariants as role
use Rattle.run_command.proofs.solver.report.Goals as goal

pub returns-in_err-task-clause-reported : goal.returns-in_err-task-clause-reported
returns-in_err-task-clause-reported g c =
    unread_report (held_solve c.args.words.now) _ (g.H.Host.spoken c.args.host.now) (g.H.Host.log c.args.host.now) _ _
    c.from_residual.result c.in_err-task.field-0.0 c.from_residual.ensures.1
    (ends_named (held_solve c.args.words.now) _ c.in_err-task.field-0.0
    (ends_in c.paths_of-paths.ensures _ (c.in_err-task.ensures.stop _)))

pub returns-in_err-meant-clause-reported : goal.returns-in_err-meant-clause-reported
returns-in_err-meant-clause-reported g c =
    let t = spelled_in c.paths_of-paths.ensures c.in_ok-task.ensures.task in
    unread_report (held_solve c.args.words.now) _ (g.H.Host.spoken c.args.host.now) (g.H.Host.log c.args.host.now) _ _
    c.from_residual-in_err-meant.result c.in_err-meant.field-0.0 c.from_residual-in_err-meant.ensures.1
    (ends_at_pools (held_solve c.args.words.now) c.in_ok-task.task
    (g.F.Files.told c.args.files.now) _ _ _ c.read_task.ensures.later _ _ _ t
    (read_in _ _ c.paths_of-paths.ensures c.in_ok-task.ensures.asked) _ c.read_task.ensures.same c.in_err-meant.field-0.0
    (c.in_err-meant.ensures.stop t.domain t.problem t.streams t.spelled))

pub returns-in_err-pools-clause-reported : goal.returns-in_err-pools-clause-reported
returns-in_err-pools-clause-reported g c =
    unread_report (held_solve c.args.words.now) _ (g.H.Host.spoken c.args.host.now) (g.H.Host.log c.args.host.now) _ _
    c.from_residual-in_err-pools.result c.in_err-pools.field-0.0 c.from_residual-in_err-pools.ensures.1
    (ends_at_grid (held_solve c.args.words.now) c.in_ok-task.task c.in_ok-meant.meant (g.F.Files.told c.args.files.now) _ _ _
    (later_on _ _ _ c.read_task.ensures.later c.meant_pools.ensures.later) _ _ _
    (spelled_in c.paths_of-paths.ensures c.in_ok-task.ensures.task)
    (means_in (held_solve c.args.words.now) c.in_ok-task.task c.in_ok-meant.meant c.read_task.ensures.same
    c.in_ok-meant.ensures.pools)
    (reads_more _ _ _ (task_files (held_solve c.args.words.now).files) (file_at role.Map (held_solve c.args.words.now).path)
    (read_in _ _ c.paths_of-paths.ensures c.in_ok-task.ensures.asked) c.in_ok-meant.ensures.asked) _
    (c.meant_pools.ensures.same ∙ c.read_task.ensures.same) c.in_err-pools.field-0.0 c.in_err-pools.ensures.stop)

pub run_with_restarts-requires : goal.run_with_restarts-requires
run_with_restarts-requires g c =
    let served = pools_served (g.F.Files.told c.args.files.now) _ _ c.read_task.ensures.same c.meant_pools.ensures.same
    (held_solve c.args.words.now) c.in_ok-task.task c.in_ok-meant.meant c.in_ok-pools.pools c.in_ok-meant.ensures.pools
    c.in_ok-pools.ensures.text in
    record {
      may = record {
        fit = c.in_ok-task.ensures.fit;
        runnable = head_runs c.in_ok-task.task (g.F.Files.told c.args.files.now) (held_solve c.args.words.now) c.head_of-head.result
            (c.head_of-head.ensures _ _ served) c.requires.within;
        is = refl;
        alone = head_alone c.in_ok-task.task (g.F.Files.told c.args.files.now) (held_solve c.args.words.now)
            c.head_of-head.result (c.head_of-head.ensures _ _ served) c.requires.within;
        idle = c.requires.idle;
      };
    }

pub returns-in-Ok-clause-reported : goal.returns-in-Ok-clause-reported
returns-in-Ok-clause-reported g c =
    let served = pools_served (g.F.Files.told c.args.files.now) _ _ c.read_task.ensures.same c.meant_pools.ensures.same
    (held_solve c.args.words.now) c.in_ok-task.task c.in_ok-meant.meant c.in_ok-pools.pools c.in_ok-meant.ensures.pools
    c.in_ok-pools.ensures.text in
    let e = c.in-Ok.ensures.ran in
    record {
      heard = e.heard;
      by = heard_weaker (held_solve c.args.words.now).restarts _ _ _ _ (λ is. absurd (cc (is))) e.by;
      solved = record {
        task = c.in_ok-task.task;
        head = c.head_of-head.result;
        posed = record {
          spelled = (spelled_in c.paths_of-paths.ensures c.in_ok-task.ensures.task);
          fit = c.in_ok-task.ensures.fit;
          headed = c.head_of-head.ensures _ _ served;
        };
        reported = e.reported;
        unneeded = e.unneeded;
        asks = asks_all (held_solve c.args.words.now) c.in_ok-task.task c.in_ok-meant.meant (g.F.Files.told c.args.files.now) _ _ _
            (later_on _ _ _ c.read_task.ensures.later c.meant_pools.ensures.later) _ _ _
            (spelled_in c.paths_of-paths.ensures c.in_ok-task.ensures.task)
            (means_in (held_solve c.args.words.now) c.in_ok-task.task c.in_ok-meant.meant c.read_task.ensures.same
            c.in_ok-meant.ensures.pools)
            (reads_more _ _ _ (task_files (held_solve c.args.words.now).files) (file_at role.Map (held_solve c.args.words.now).path)
            (read_in _ _ c.paths_of-paths.ensures c.in_ok-task.ensures.asked) c.in_ok-meant.ensures.asked) c.in_ok-pools.ensures.asked;
      };
      failed = tt;
    }

pub returns-clause-reported : goal.returns-clause-reported
returns-clause-reported g c =
    let served = pools_served (g.F.Files.told c.args.files.now) _ _ c.read_task.ensures.same c.meant_pools.ensures.same
    (held_solve c.args.words.now) c.in_ok-task.task c.in_ok-meant.meant c.in_ok-pools.pools c.in_ok-meant.ensures.pools
    c.in_ok-pools.ensures.text in
    let e = c.in-Err.ensures.ran in
    record {
      heard = e.heard;
      by = heard_weaker (held_solve c.args.words.now).restarts _ _ _ _ (lacks_handed c.in-Err.fault) e.by;
      solved = tt;
      failed = inr (record {
        fault = c.in-Err.fault;
        is = refl;
        task = c.in_ok-task.task;
        head = c.head_of-head.result;
        posed = record {
          spelled = (spelled_in c.paths_of-paths.ensures c.in_ok-task.ensures.task);
          fit = c.in_ok-task.ensures.fit;
          headed = c.head_of-head.ensures _ _ served;
        };
        broken = e.broken;
        asks = asks_all (held_solve c.args.words.now) c.in_ok-task.task c.in_ok-meant.meant (g.F.Files.told c.args.files.now) _ _ _
            (later_on _ _ _ c.read_task.ensures.later c.meant_pools.ensures.later) _ _ _
            (spelled_in c.paths_of-paths.ensures c.in_ok-task.ensures.task)
            (means_in (held_solve c.args.words.now) c.in_ok-task.task c.in_ok-meant.meant c.read_task.ensures.same
            c.in_ok-meant.ensures.pools)
            (reads_more _ _ _ (task_files (held_solve c.args.words.now).files) (file_at role.Map (held_solve c.args.words.now).path)
            (read_in _ _ c.paths_of-paths.ensures c.in_ok-task.ensures.asked) c.in_ok-meant.ensures.asked) c.in_ok-pools.ensures.asked;
      });
    }

pub returns-in-Ok-clause-failed : goal.returns-in-Ok-clause-failed
returns-in-Ok-clause-failed g c =
    counted_done fault.Generator fault.Memory (stop.Run fault.Generator) (stop.Run fault.Memory) c.args.words.now.restarts _ _ _
    c.in-Ok.ensures.ran.failed

pub returns-clause-failed : goal.returns-clause-failed
returns-clause-failed g c = counted_handed c.in-Err.fault c.args.words.now.restarts _ c.in-Err.ensures.ran.failed

pub returns-in_err-task-clause-failed : goal.returns-in_err-task-clause-failed
returns-in_err-task-clause-failed g c =
    counted_still (stop.Run fault.Generator) (stop.Run fault.Memory) c.args.words.now.restarts _ c.from_residual.result
    (unread_spares c.from_residual.result c.in_err-task.field-0.0 _ c.from_residual.ensures.1 c.in_err-task.ensures.input)
    (extends_none (g.H.Host.log c.args.host.now))

pub returns-in_err-meant-clause-failed : goal.returns-in_err-meant-clause-failed
returns-in_err-meant-clause-failed g c =
    counted_still (stop.Run fault.Generator) (stop.Run fault.Memory) c.args.words.now.restarts _
    c.from_residual-in_err-meant.result
    (unread_spares c.from_residual-in_err-meant.result c.in_err-meant.field-0.0 _ c.from_residual-in_err-meant.ensures.1
    c.in_err-meant.ensures.input) (extends_none (g.H.Host.log c.args.host.now))

pub returns-in_err-pools-clause-failed : goal.returns-in_err-pools-clause-failed
returns-in_err-pools-clause-failed g c =
    counted_still (stop.Run fault.Generator) (stop.Run fault.Memory) c.args.words.now.restarts _
    c.from_residual-in_err-pools.result
    (unread_spares c.from_residual-in_err-pools.result c.in_err-pools.field-0.0 _ c.from_residual-in_err-pools.ensures.1
    c.in_err-pools.ensures.input) (extends_none (g.H.Host.log c.args.host.now))

pub returns-in_err-task-clause-host : goal.returns-in_err-task-clause-host
returns-in_err-task-clause-host g c =
    no_cause c.from_residual.result c.in_err-task.field-0.0
    (stop.Run fault.Generator) _ _ c.from_residual.ensures.1 c.in_err-task.ensures.input (λ n. n)

pub returns-in_err-task-clause-sink : goal.returns-in_err-task-clause-sink
returns-in_err-task-clause-sink g c =
    no_cause c.from_residual.result c.in_err-task.field-0.0
    (stop.Run fault.Write) _ _ c.from_residual.ensures.1 c.in_err-task.ensures.input (λ n. n)

pub returns-in_err-meant-clause-host : goal.returns-in_err-meant-clause-host
returns-in_err-meant-clause-host g c =
    no_cause c.from_residual-in_err-meant.result c.in_err-meant.field-0.0
    (stop.Run fault.Generator) _ _ c.from_residual-in_err-meant.ensures.1 c.in_err-meant.ensures.input (λ n. n)

pub returns-in_err-meant-clause-sink : goal.returns-in_err-meant-clause-sink
returns-in_err-meant-clause-sink g c =
    no_cause c.from_residual-in_err-meant.result c.in_err-meant.field-0.0
    (stop.Run fault.Write) _ _ c.from_residual-in_err-meant.ensures.1 c.in_err-meant.ensures.input (λ n. n)

pub returns-in_err-pools-clause-host : goal.returns-in_err-pools-clause-host
returns-in_err-pools-clause-host g c =
    no_cause c.from_residual-in_err-pools.result c.in_err-pools.field-0.0
    (stop.Run fault.Generator) _ _ c.from_residual-in_err-pools.ensures.1 c.in_err-pools.ensures.input (λ n. n)

pub returns-in_err-pools-clause-sink : goal.returns-in_err-pools-clause-sink
returns-in_err-pools-clause-sink g c =
    no_cause c.from_residual-in_err-pools.result c.in_err-pools.field-0.0
    (stop.Run fault.Write) _ _ c.from_residual-in_err-pools.ensures.1 c.in_err-pools.ensures.input (λ n. n)
