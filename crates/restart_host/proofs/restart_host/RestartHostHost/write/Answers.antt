use Rattle.std.proofs.Common.{◌<◌, ◌∙◌, arith, length, refl, slice_set, subst, sym}
use Rattle.io_world.specs.Faults.{last_count}
use Rattle.restart_host.proofs.ChildrenLemmas.{as_many, flags_alive, on_at, same_on}
use Rattle.restart_host.proofs.HostLemmas.{carries_tried, counts_most, over_after}
use Rattle.restart_host.proofs.NotedLemmas.{noted_lost}
use Rattle.restart_host.proofs.TiedLemmas.{get_at, noted_so, tied_wrote, wrote_done}
use Rattle.restart_host.specs.Tied.{IsTied}
use Rattle.restart_host.proofs.restart_host.RestartHostHost.write.Goals as goal

pub invariant_of-self : goal.invariant_of-self
invariant_of-self g c =
    let within : c.args.child < length c.args.self.now.children.items =
    omega (arith, c.args.self.now.children.ok.0, c.args.self.now.all, c.requires.number) in
    let runs = sym (on_at c.args.self.now.children.items c.args.child c.index_mut.result.now within
    c.index_mut.ensures.value) ∙ c.requires.runs in
    record {
      all = c.args.self.now.all;
      ties = flags_alive c.args.self.now.children.items c.args.child c.write_child-answer.new.kept
          (g.H.Host.running c.args.self.now.host.now)
          (g.H.Host.running c.write_child-answer.new.host) within c.args.self.now.ties
          c.write_child-answer.ensures.tried.called.others c.write_child-answer.ensures.runs.ties;
      room = as_many c.args.self.now.children.items c.args.child c.index_mut.result.now c.write_child-answer.new.kept
          c.args.self.now.log.kept c.write_child-answer.new.log.kept within c.index_mut.ensures.value
          (c.write_child-answer.ensures.runs.running ∙ sym runs)
          c.args.self.now.room c.write_child-answer.ensures.noted.0;
      over = over_after last_count c.args.self.now.faults c.tally.new.faults c.args.self.now.left
          c.write_child-answer.new.left c.write_child-answer.result
          c.args.self.now.over c.write_child-answer.ensures.tried.fewer c.write_child-answer.ensures.tried.spent
          c.tally.ensures.count;
      tied = λ whole.
          let tried = c.write_child-answer.ensures.tried in
          let noted = c.write_child-answer.ensures.noted.1 in
          subst
          (λ calls. IsTied (slice_set c.args.self.now.children.items c.args.child c.write_child-answer.new.kept) calls
          (g.H.Host.log c.write_child-answer.new.host)) (sym (noted_so _ _ _ c.write_child-answer.result noted whole))
          (tied_wrote c.args.self.now.children.items c.args.child c.index_mut.result.now c.write_child-answer.new.kept
          c.args.self.now.log.events c.args.bytes.now c.write_child-answer.result (g.H.Host.log c.args.self.now.host.now)
          (g.H.Host.log c.write_child-answer.new.host) tried.called.events within
          (get_at c.args.self.now.children.items c.args.child c.index_mut.result.now within c.index_mut.ensures.value) runs
          (c.args.self.now.tied (noted_lost _ _ _ c.write_child-answer.result noted whole)) tried.called.log tried.called.on c.write_child-answer.ensures.words
          c.write_child-answer.ensures.all c.write_child-answer.ensures.asked (tried.called.does whole) c.write_child-answer.ensures.runs.running);
    }

pub returns-clause-running : goal.returns-clause-running
returns-clause-running g c =
    let within : c.args.child < length c.args.self.now.children.items =
    omega (arith, c.args.self.now.children.ok.0, c.args.self.now.all, c.requires.number) in
    let runs = sym (on_at c.args.self.now.children.items c.args.child c.index_mut.result.now within
    c.index_mut.ensures.value) ∙ c.requires.runs in
    same_on c.args.self.now.children.items c.args.child c.index_mut.result.now c.write_child-answer.new.kept within
    c.index_mut.ensures.value (c.write_child-answer.ensures.runs.running ∙ sym runs)

pub returns-clause-leads : goal.returns-clause-leads
returns-clause-leads g c =
    let within : c.args.child < length c.args.self.now.children.items =
    omega (arith, c.args.self.now.children.ok.0, c.args.self.now.all, c.requires.number) in
    let runs = sym (on_at c.args.self.now.children.items c.args.child c.index_mut.result.now within
    c.index_mut.ensures.value) ∙ c.requires.runs in (
      refl,
      c.write_child-answer.ensures.leads,
      carries_tried c.args.child g.H.Host.last _ _ c.write_child-answer.result _ c.write_child-answer.ensures.tried
          (counts_most last_count c.args.self.now.faults c.tally.new.faults c.write_child-answer.result c.tally.ensures.count)
          c.write_child-answer.ensures.noted.1 refl
          (λ past was whole. (
            noted_so _ _ _ c.write_child-answer.result c.write_child-answer.ensures.noted.1 whole,
            wrote_done c.args.self.now.children.items c.args.child c.index_mut.result.now c.write_child-answer.new.kept
                c.args.self.now.log.events c.args.bytes.now c.write_child-answer.result (g.H.Host.log c.args.self.now.host.now)
                (g.H.Host.log c.write_child-answer.new.host) c.write_child-answer.ensures.tried.called.events within
                (get_at c.args.self.now.children.items c.args.child c.index_mut.result.now within c.index_mut.ensures.value) runs
                (c.args.self.now.tied (noted_lost _ _ _ c.write_child-answer.result c.write_child-answer.ensures.noted.1 whole)) c.write_child-answer.ensures.tried.called.log
                c.write_child-answer.ensures.tried.called.on c.write_child-answer.ensures.words c.write_child-answer.ensures.all c.write_child-answer.ensures.asked (c.write_child-answer.ensures.tried.called.does whole) c.requires.some past was,
          )),
    )
