use Rattle.std.proofs.Common.{◌<◌, ◌∙◌, ap, arith, false, length, refl, slice_set, subst, sym, is_ok}
use Rattle.io_world.specs.Faults.{last_count}
use Rattle.io_world.specs.Logs.{Calls}
use Rattle.restart_host.proofs.ChildrenLemmas.{flags_alive, kept_at, on_at, one_more, started_on}
use Rattle.restart_host.proofs.HostLemmas.{carries_lost, carries_tried, counts_most, ok_so, over_after}
use Rattle.restart_host.proofs.NotedLemmas.{noted_lost}
use Rattle.restart_host.proofs.TiedLemmas.{noted_so, tied_started}
use Rattle.restart_host.specs.Tied.{IsTied}
use Rattle.restart_host.proofs.restart_host.RestartHostHost.start.Goals as goal

pub invariant_of-self-2 : goal.invariant_of-self-2
invariant_of-self-2 g c =
    let within : c.args.child < length c.args.self.now.children.items =
    omega (arith, c.args.self.now.children.ok.0, c.args.self.now.all, c.requires.number) in
    record {
      all = c.args.self.now.all;
      ties = flags_alive c.args.self.now.children.items c.args.child c.start_child-answer.new.kept
          (g.H.Host.running c.args.self.now.host.now)
          (g.H.Host.running c.start_child-answer.new.host) within c.args.self.now.ties
          c.start_child-answer.ensures.tried.called.others c.start_child-answer.ensures.runs.ties;
      room = one_more c.args.self.now.children.items c.args.child c.index_mut.result.now c.start_child-answer.new.kept
          c.args.self.now.log.kept c.start_child-answer.new.log.kept (is_ok c.start_child-answer.result) within
          c.index_mut.ensures.value
          c.start_child-answer.ensures.runs.running c.args.self.now.room c.start_child-answer.ensures.room.0
          (ok_so c.start_child-answer.result _ c.start_child-answer.ensures.room.1);
      over = over_after last_count c.args.self.now.faults c.tally.new.faults c.args.self.now.left
          c.start_child-answer.new.left c.start_child-answer.result
          c.args.self.now.over c.start_child-answer.ensures.tried.fewer c.start_child-answer.ensures.tried.spent
          c.tally.ensures.count;
      tied = λ whole.
          let tried = c.start_child-answer.ensures.tried in
          let noted = c.start_child-answer.ensures.noted in
          subst
          (λ calls. IsTied (slice_set c.args.self.now.children.items c.args.child c.start_child-answer.new.kept) calls
          (g.H.Host.log c.start_child-answer.new.host)) (sym (noted_so _ _ _ c.start_child-answer.result noted whole))
          (tied_started c.args.self.now.children.items c.args.child c.start_child-answer.new.kept c.args.self.now.log.events _
          c.start_child-answer.result (g.H.Host.log c.args.self.now.host.now) (g.H.Host.log c.start_child-answer.new.host)
          tried.called.events within (c.args.self.now.tied (noted_lost _ _ _ c.start_child-answer.result noted whole))
          tried.called.log tried.called.on c.start_child-answer.ensures.runs.running c.start_child-answer.ensures.fresh
          (tried.called.does whole));
    }

pub returns-clause-running : goal.returns-clause-running
returns-clause-running g c =
    let within : c.args.child < length c.args.self.now.children.items =
    omega (arith, c.args.self.now.children.ok.0, c.args.self.now.all, c.requires.number) in
    let idle = sym (on_at c.args.self.now.children.items c.args.child c.index_mut.result.now within
    c.index_mut.ensures.value) ∙ c.requires.idle in
    started_on c.args.self.now.children.items c.args.child c.index_mut.result.now c.start_child-answer.new.kept
    c.start_child-answer.result within
    c.index_mut.ensures.value idle c.start_child-answer.ensures.runs.running

pub returns-clause-leads : goal.returns-clause-leads
returns-clause-leads g c = (
  refl,
  c.start_child-answer.ensures.leads,
  carries_tried c.args.child g.H.Host.last _ _ c.start_child-answer.result _ c.start_child-answer.ensures.tried
      (counts_most last_count c.args.self.now.faults c.tally.new.faults c.start_child-answer.result c.tally.ensures.count)
      c.start_child-answer.ensures.noted refl
      (λ past was whole. (
        noted_so _ _ _ c.start_child-answer.result c.start_child-answer.ensures.noted whole,
        c.start_child-answer.ensures.tried.called.does whole,
      )),
)

pub returns-in_default-clause-leads : goal.returns-in_default-clause-leads
returns-in_default-clause-leads g c = (
  refl,
  record { wanted = false; quiet = λ is. refl; leads = g.met.H.Host.stays c.args.self.now.host.now },
  carries_lost g.H.Host.last _ c.lose.new.self (ap (λ (calls : Calls). calls.whole) c.lose.ensures),
)

pub start_child-answer-requires-clause-idle : goal.start_child-answer-requires-clause-idle
start_child-answer-requires-clause-idle g c =
    let within : c.args.child < length c.args.self.now.children.items =
    omega (arith, c.args.self.now.children.ok.0, c.args.self.now.all, c.requires.number) in
    kept_at c.args.self.now.children.items c.args.child c.index_mut.result.now (g.H.Host.running c.args.self.now.host.now) false
    c.requires.number within c.index_mut.ensures.value c.args.self.now.ties c.requires.idle
