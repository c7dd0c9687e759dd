use Rattle.std.proofs.Common.{false, ◌∙◌, ◌<◌, ◌+◌, ap, arith, length, map, option_copied, rules, string_bytes, subst, sym, Err, Ok}
use Rattle.std.specs.List.{flat_map}
use Rattle.lemmas.specs.Lists.{numbers_from}
use Rattle.io_world.specs.Faults.{Extends}
use Rattle.io_world.specs.Talks.{Logs, started}
use Rattle.io_world.proofs.TalksLemmas.{extends_none}
use Rattle.io_world.specs.declared.host.HostFault.{HostFault}
use Rattle.round_run.proofs.CallsRunLemmas.{child_refused, child_started}
use Rattle.round_run.proofs.LedLemmas.{joined, led_handed, led_none, led_then}
use Rattle.round_run.proofs.StartsLemmas.{IdleFrom, RunBefore, found_worker, has_words, idle_further, idle_still, keeps_then, passed_over, worker_low, runs_more, starts_whole}
use Rattle.round_run.proofs.StoppedLemmas.{handed}
use Rattle.round_run.proofs.lines.Lines.start_all.Goals as goal
use Rattle.round_run.proofs.lines.Lines.start_all.Goals.{in-Some+in_ok-start_child, in_default}
use Rattle.round_run.specs.Calls.{start_at, start_in}
use Rattle.round_run.specs.Held.{Held, is_child_running}
use Rattle.io_world.specs.Leads.{IsLed}
use Rattle.round_run.specs.Resting.{KeepsSilent}
use Rattle.round_run.specs.Rolling.{IsHostFault}

pub start_child-requires-clause-may : goal.start_child-requires-clause-may
start_child-requires-clause-may g c =
    let pools = c.args.pools.now in
    let own = found_worker pools c.loop-child.child c.in-Some.pool.now (sym c.pool_with.ensures ∙ ap option_copied c.in-Some.is) in
    record {
      number = omega (arith, c.loop-child-test.true);
      words = subst (λ ws. 0 < length ws) (sym c.as_slice.ensures) (has_words pools c.requires.pools own.0 c.in-Some.pool.now own.1);
      idle = c.loop-child.invariant.left own.0 c.loop-child.child c.in-Some.pool.now (omega arith) own.1 own.2;
    }

pub loop-child-init : goal.loop-child-init
loop-child-init g c = record {
  state = c.requires.state;
  done = search rules;
  left = search rules;
  quiet = search rules;
  log = search rules;
  host = search rules;
  led = led_none (g.met.H.Host.stays c.args.host.now);
}

pub loop-child-preserved : goal.loop-child-preserved
loop-child-preserved g c =
    let pools = c.args.pools.now in
    let child = c.loop-child.child in
    let was = is_child_running c.loop-child.self in record {
      state = search rules;
      done = elim c.match-pool_with.branch as (λ w. RunBefore pools (child + 1) (is_child_running c.match-pool_with.self)) [
        | in-Some+in_ok-start_child w ↦
            subst (λ (s : Held). RunBefore pools (child + 1) (is_child_running s)) (sym w.self-is)
            (runs_more pools child was (is_child_running w.start_child.new.self) w.in_ok-start_child.ensures.starts.running
            c.loop-child.invariant.done)
        | in_default w ↦
            subst (λ (s : Held). RunBefore pools (child + 1) (is_child_running s)) (sym w.self-is)
            (passed_over pools child was (sym c.pool_with.ensures ∙ ap option_copied w.in_default.is) c.loop-child.invariant.done)
      ];
      left = elim c.match-pool_with.branch as (λ w. IdleFrom pools (child + 1) (is_child_running c.match-pool_with.self)) [
        | in-Some+in_ok-start_child w ↦
            subst (λ (s : Held). IdleFrom pools (child + 1) (is_child_running s)) (sym w.self-is)
            (idle_further pools child was (is_child_running w.start_child.new.self) w.in_ok-start_child.ensures.starts.running
            c.loop-child.invariant.left)
        | in_default w ↦
            subst (λ (s : Held). IdleFrom pools (child + 1) (is_child_running s)) (sym w.self-is)
            (idle_still pools child was c.loop-child.invariant.left)
      ];
      quiet = elim c.match-pool_with.branch as (λ w.
          KeepsSilent c.args.self.now c.match-pool_with.self (g.H.Host.spoken c.args.host.now)
          (g.H.Host.spoken c.match-pool_with.host)) [
            | in-Some+in_ok-start_child w ↦
                subst (λ (s : Held). KeepsSilent c.args.self.now s (g.H.Host.spoken c.args.host.now)
                (g.H.Host.spoken c.match-pool_with.host)) (sym w.self-is)
                (subst (λ h. KeepsSilent c.args.self.now w.start_child.new.self (g.H.Host.spoken c.args.host.now)
                (g.H.Host.spoken h)) (sym w.host-is)
                (keeps_then c.args.self.now c.loop-child.self w.start_child.new.self (g.H.Host.spoken c.args.host.now)
                (g.H.Host.spoken c.loop-child.host) (g.H.Host.spoken w.start_child.new.host) c.loop-child.invariant.quiet
                w.start_child.ensures.starts.quiet))
            | in_default w ↦
                subst (λ (s : Held). KeepsSilent c.args.self.now s (g.H.Host.spoken c.args.host.now)
                (g.H.Host.spoken c.match-pool_with.host)) (sym w.self-is)
                (subst (λ h. KeepsSilent c.args.self.now c.loop-child.self (g.H.Host.spoken c.args.host.now)
                (g.H.Host.spoken h)) (sym w.host-is) c.loop-child.invariant.quiet)
          ];
      log = elim c.match-pool_with.branch as (λ w.
          Extends (g.H.Host.log c.args.host.now)
          (g.H.Host.log c.match-pool_with.host) (flat_map (start_at pools) (numbers_from 0 (child + 1)))) [
            | in-Some+in_ok-start_child w ↦
                subst (λ h. Extends (g.H.Host.log c.args.host.now)
                (g.H.Host.log h) (flat_map (start_at pools) (numbers_from 0 (child + 1))))
                (sym w.host-is)
                (child_started pools child (g.H.Host.log c.args.host.now) (g.H.Host.log c.loop-child.host)
                (g.H.Host.log w.start_child.new.host) c.loop-child.invariant.log
                (subst (λ o. Extends (g.H.Host.log c.loop-child.host) (g.H.Host.log w.start_child.new.host) (start_in child o))
                (sym (ap option_copied w.in-Some.is) ∙ c.pool_with.ensures)
                (subst (λ ws. Logs (g.H.Host.log c.loop-child.host)
                (g.H.Host.log w.start_child.new.host) (started child (map string_bytes ws) (Ok tt))) w.as_slice.ensures
                w.in_ok-start_child.ensures.starts.log)))
            | in_default w ↦
                subst (λ h. Extends (g.H.Host.log c.args.host.now)
                (g.H.Host.log h) (flat_map (start_at pools) (numbers_from 0 (child + 1))))
                (sym w.host-is)
                (child_started pools child (g.H.Host.log c.args.host.now) (g.H.Host.log c.loop-child.host)
                (g.H.Host.log c.loop-child.host) c.loop-child.invariant.log
                (subst (λ o. Extends (g.H.Host.log c.loop-child.host) (g.H.Host.log c.loop-child.host) (start_in child o))
                (sym (ap option_copied w.in_default.is) ∙ c.pool_with.ensures) (extends_none (g.H.Host.log c.loop-child.host))))
          ];
      host = search rules;
      led = elim c.match-pool_with.branch as (λ w. IsLed (g.H.Host.leads c.args.host.now c.match-pool_with.host) false) [
        | in-Some+in_ok-start_child w ↦
            subst (λ h. IsLed (g.H.Host.leads c.args.host.now h) false) (sym w.host-is)
            (led_then (joined g.H.Host g.met.H.Host.chains c.args.host.now c.loop-child.host w.start_child.new.host)
            c.loop-child.invariant.led w.in_ok-start_child.ensures.starts.led)
        | in_default w ↦
            subst (λ h. IsLed (g.H.Host.leads c.args.host.now h) false) (sym w.host-is) c.loop-child.invariant.led
      ];
    }

pub returns : goal.returns
returns g c = record {
  starts = record {
    state = c.loop-child.invariant.state;
    running = λ k child p at is.
        c.loop-child.invariant.done k child p
        (omega (arith, c.loop-child-test.false, worker_low c.args.pools.now c.requires.pools k child p at is)) at is;
    quiet = c.loop-child.invariant.quiet;
    log = subst (Extends (g.H.Host.log c.args.host.now) (g.H.Host.log c.loop-child.host))
        (starts_whole c.args.pools.now c.loop-child.child (omega (arith, c.loop-child-test.false, c.loop-child.auto.child-end)))
        c.loop-child.invariant.log;
    refused = tt;
    only = tt;
    cause = search rules;
    led = c.loop-child.invariant.led;
  };
}

pub returns-in_err-start_child : goal.returns-in_err-start_child
returns-in_err-start_child g c =
    let fault = c.in_err-start_child.field-0.0 in
    let child = c.loop-child.child in
    let starts = c.in_err-start_child.ensures.starts in
    record {
      starts = record {
        state = starts.state;
        running = search rules;
        quiet = keeps_then c.args.self.now c.loop-child.self c.start_child.new.self (g.H.Host.spoken c.args.host.now)
            (g.H.Host.spoken c.loop-child.host) (g.H.Host.spoken c.start_child.new.host) c.loop-child.invariant.quiet starts.quiet;
        log = search rules;
        refused = handed c.from_residual.result fault _ c.from_residual.ensures.1
            (child_refused c.args.pools.now child c.in-Some.pool.now fault (g.H.Host.log c.args.host.now)
            (g.H.Host.log c.loop-child.host) (g.H.Host.log c.start_child.new.host)
            c.loop-child-test.true (sym c.pool_with.ensures ∙ ap option_copied c.in-Some.is) c.loop-child.invariant.log
            (subst (λ ws. (cause : HostFault) × IsHostFault cause fault
            × Logs (g.H.Host.log c.loop-child.host) (g.H.Host.log c.start_child.new.host) (started child (map string_bytes ws) (Err cause)))
            c.as_slice.ensures starts.refused));
        only = search rules;
        cause = search rules;
        led = led_handed _ fault c.from_residual.result c.from_residual.ensures.1
            (led_then (joined g.H.Host g.met.H.Host.chains c.args.host.now c.loop-child.host c.start_child.new.host)
            c.loop-child.invariant.led starts.led);
      };
    }
