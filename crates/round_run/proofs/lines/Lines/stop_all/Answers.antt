use Rattle.std.proofs.Common.{◌≡◌, ◌∙◌, arith, refl, subst, inl, inr, false, rules, sym}
use Rattle.std.proofs.lemmas.Bool.{cases_lt}
use Rattle.round_run.proofs.StartsLemmas.{not_started_past}
use Rattle.round_run.specs.Held.{Held, is_child_running}
use Rattle.round_run.proofs.lines.Lines.stop_all.Goals as goal
use Rattle.round_run.proofs.lines.Lines.stop_all.Goals.{then-running, else-running}
use Rattle.round_run.specs.Calls.{LogStops}
use Rattle.round_run.proofs.CallsRunLemmas.{stops_more}

pub returns : goal.returns
returns g c = record {
  stops = record {
    idle = λ child. elim (cases_lt child 17) [
      | inl less ↦ c.loop-child.invariant.stopped child (omega (arith, less, c.loop-child-test.false))
      | inr more ↦
          c.loop-child.invariant.others child (omega (arith, more, c.loop-child.invariant.most))
          ∙ subst (λ (h : Held). is_child_running h child ≡ false) c.self.view_is
          (not_started_past c.self.inside.started child (omega (arith, more, c.self.invariant.1)))
    ];
    none = c.loop-child.invariant.none;
    stops = c.loop-child.invariant.stops;
    spoken = c.loop-child.invariant.spoken;
    later = c.loop-child.invariant.host;
    leads = c.loop-child.invariant.leads;
  };
}

pub loop-child-init : goal.loop-child-init
loop-child-init g c = record {
  stopped = search rules;
  others = search rules;
  most = search rules;
  none = λ idle. refl;
  stops = search rules;
  spoken = search rules;
  host = search rules;
  leads = g.met.H.Host.stays c.args.host.now;
}

pub loop-child-preserved : goal.loop-child-preserved
loop-child-preserved g c = record {
  stopped = search rules;
  others = search rules;
  most = search rules;
  none = search rules;
  stops = elim c.if-running.branch as (λ w. LogStops (g.H.Host.log c.args.host.now) (g.H.Host.log c.if-running.host)) [
    | then-running w ↦
        subst (λ h. LogStops (g.H.Host.log c.args.host.now) (g.H.Host.log h)) (sym w.host-is)
        (stops_more c.loop-child.child w.stop.result (g.H.Host.log c.args.host.now)
        (g.H.Host.log c.loop-child.host) (g.H.Host.log w.stop.new.self) c.loop-child.invariant.stops w.stop.ensures.log)
    | else-running w ↦ subst (λ h. LogStops (g.H.Host.log c.args.host.now) (g.H.Host.log h)) (sym w.host-is) c.loop-child.invariant.stops
  ];
  spoken = search rules;
  host = search rules;
  leads = elim c.if-running.branch as (λ w. g.H.Host.leads c.args.host.now c.if-running.host false) [
    | then-running w ↦
        subst (λ h. g.H.Host.leads c.args.host.now h false) (sym w.host-is)
        (g.met.H.Host.chains c.args.host.now c.loop-child.host w.stop.new.self false c.loop-child.invariant.leads w.stop.ensures.leads)
    | else-running w ↦ subst (λ h. g.H.Host.leads c.args.host.now h false) (sym w.host-is) c.loop-child.invariant.leads
  ];
}
