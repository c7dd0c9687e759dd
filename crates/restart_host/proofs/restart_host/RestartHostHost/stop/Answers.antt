use Rattle.std.proofs.Common.{◌∙◌, ◌<◌, Ok, [], arith, length, refl, slice_set, subst, sym, true}
use Rattle.restart_host.proofs.ChildrenLemmas.{becomes_off, flags_alive, kept_at, on_at, one_less, some_on}
use Rattle.io_world.specs.Talks.{stopped}
use Rattle.restart_host.proofs.HostLemmas.{carries_called, led_by}
use Rattle.restart_host.proofs.TiedLemmas.{tied_stopped}
use Rattle.restart_host.specs.Tied.{IsTied}
use Rattle.restart_host.proofs.restart_host.RestartHostHost.stop.Goals as goal

pub stop_child-requires-clause-room : goal.stop_child-requires-clause-room
stop_child-requires-clause-room g c =
    let within : c.args.child < length c.args.self.now.children.items =
    omega (arith, c.args.self.now.children.ok.0, c.args.self.now.all, c.requires.number) in
    let some = some_on c.args.self.now.children.items c.args.child c.index_mut.result.now within c.index_mut.ensures.value
    (sym (on_at c.args.self.now.children.items c.args.child c.index_mut.result.now within c.index_mut.ensures.value) ∙ c.requires.runs) in
    omega (arith, some, c.args.self.now.room)

pub stop_child-requires-clause-runs : goal.stop_child-requires-clause-runs
stop_child-requires-clause-runs g c =
    let within : c.args.child < length c.args.self.now.children.items =
    omega (arith, c.args.self.now.children.ok.0, c.args.self.now.all, c.requires.number) in
    kept_at c.args.self.now.children.items c.args.child c.index_mut.result.now (g.H.Host.running c.args.self.now.host.now) true
    c.requires.number within c.index_mut.ensures.value c.args.self.now.ties c.requires.runs

pub invariant_of-self : goal.invariant_of-self
invariant_of-self g c =
    let within : c.args.child < length c.args.self.now.children.items =
    omega (arith, c.args.self.now.children.ok.0, c.args.self.now.all, c.requires.number) in
    let runs = sym (on_at c.args.self.now.children.items c.args.child c.index_mut.result.now within c.index_mut.ensures.value)
    ∙ c.requires.runs in
    record {
      all = c.args.self.now.all;
      ties = flags_alive c.args.self.now.children.items c.args.child c.stop_child.new.kept (g.H.Host.running c.args.self.now.host.now)
          (g.H.Host.running c.stop_child.new.host) within c.args.self.now.ties (c.stop_child.ensures.called []).others
          c.stop_child.ensures.idle.ties;
      room = one_less c.args.self.now.children.items c.args.child c.index_mut.result.now c.stop_child.new.kept
          c.args.self.now.log.kept c.stop_child.new.log.kept within c.index_mut.ensures.value runs c.stop_child.ensures.idle.running
          c.args.self.now.room c.stop_child.ensures.noted.0;
      over = c.args.self.now.over;
      tied = λ whole.
          let called = c.stop_child.ensures.called [] in
          let noted = c.stop_child.ensures.noted.1 in
          subst
          (λ calls. IsTied (slice_set c.args.self.now.children.items c.args.child c.stop_child.new.kept) calls
          (g.H.Host.log c.stop_child.new.host)) (sym noted.events)
          (tied_stopped c.args.self.now.children.items c.args.child c.stop_child.new.kept c.args.self.now.log.events []
          (g.H.Host.log c.args.self.now.host.now) (g.H.Host.log c.stop_child.new.host) called.events within
          (c.args.self.now.tied (sym noted.whole ∙ whole)) called.log called.on c.stop_child.ensures.idle.running);
    }

pub returns-clause-running : goal.returns-clause-running
returns-clause-running g c =
    let within : c.args.child < length c.args.self.now.children.items =
    omega (arith, c.args.self.now.children.ok.0, c.args.self.now.all, c.requires.number) in
    becomes_off c.args.self.now.children.items c.args.child c.stop_child.new.kept within c.stop_child.ensures.idle.running

pub returns-clause-leads : goal.returns-clause-leads
returns-clause-leads g c = (
  refl,
  led_by _ c.stop_child.ensures.leads,
  carries_called c.args.child g.H.Host.last _ _ (stopped c.args.child (Ok tt)) (c.stop_child.ensures.called []) refl refl
      c.stop_child.ensures.noted.1
      (λ past was whole. (c.stop_child.ensures.noted.1.events, (refl, (c.stop_child.ensures.called []).does))),
)
