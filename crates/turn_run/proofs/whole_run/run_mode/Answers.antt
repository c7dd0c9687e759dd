use Rattle.std.proofs.Common.{◌∙◌, subst, sym}
use Rattle.round_run.proofs.LedLemmas.{still_host}
use Rattle.turn_run.proofs.ReportingLemmas.{ends_memory, ends_stopped}
use Rattle.turn_run.specs.Deciding.{IsHeadFor}
use Rattle.session_core.specs.Session.{IsNew, IsOf}
use Rattle.task_model.specs.Fit.{IsFit}
use Rattle.task_model.specs.declared.task.Task.{Task}
use Rattle.transcript_model.specs.declared.head.Head.{Head}
use Rattle.turn_run.proofs.whole_run.run_mode.Goals as goal

pub returns-in_err-desk : goal.returns-in_err-desk
returns-in_err-desk g c = record {
  ran = ends_memory c.args.task.now c.args.head.now (still_host g.H.Host g.met.H.Host.stays c.args.host.now) (g.O.Sink.taken c.args.out.now)
      (g.O.Sink.faults c.args.out.now) c.from_residual.result c.from_residual.ensures.1 c.requires.may.idle;
}

pub report-result-requires : goal.report-result-requires
report-result-requires g c =
    let clean = c.in_ok-desk.ensures.clean in
    let desk = c.in_ok-desk.desk in
    let idle = c.requires.may.idle in
    record {
      fit = subst IsFit (sym clean.task) c.requires.may.fit;
      mode = subst (IsHeadFor g.M.Turns.mode g.M.PlanSearch.cheapest) (sym clean.head) (record {
        is = c.requires.may.is;
        seeks = record { is = c.requires.seeks; alone = λ asked. c.requires.may.is ∙ c.requires.may.alone asked };
      });
      fresh = c.requires.fresh;
      still = record {
        new = subst (λ (t : Task). IsNew t desk.state) (sym clean.task) clean.new;
        of = subst (λ (h : Head). IsOf h desk.state) (sym clean.head) clean.of;
        still = record { idle = idle; state = λ k. clean.idle k ∙ sym (idle k); empty = clean.empty };
      };
    }

pub returns : goal.returns
returns g c =
    let clean = c.in_ok-desk.ensures.clean in
    record {
      ran = ends_stopped c.args.task.now c.args.head.now c.in_ok-desk.desk c.report-result.new.desk g.H.Host.last _ _ _
          c.report-result.result clean.task clean.head c.report-result.ensures.ends c.stop_all.ensures.stops
          (g.met.H.Host.ends c.args.host.now c.report-result.new.host c.stop_all.new.host) (λ first second. second ∙ first);
    }
