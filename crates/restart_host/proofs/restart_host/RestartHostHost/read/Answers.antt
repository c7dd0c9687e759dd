use Rattle.std.proofs.Common.{◌<◌, ◌∙◌, arith, length, refl, slice_set, subst, sym}
use Rattle.io_world.specs.Faults.{last_count}
use Rattle.restart_host.proofs.ChildrenLemmas.{as_many, flags_alive, on_at, same_on}
use Rattle.restart_host.proofs.HostLemmas.{carries_tried, counts_most, over_after}
use Rattle.restart_host.proofs.NotedLemmas.{given_failed, given_some, noted_lost}
use Rattle.restart_host.proofs.TiedLemmas.{get_at, noted_so, read_done, tied_read}
use Rattle.restart_host.specs.Tied.{IsTied}
use Rattle.restart_host.proofs.restart_host.RestartHostHost.read.Goals as goal

pub invariant_of-self : goal.invariant_of-self
invariant_of-self g c =
    let within : c.args.child < length c.args.self.now.children.items =
    omega (arith, c.args.self.now.children.ok.0, c.args.self.now.all, c.requires.number) in
    let runs = sym (on_at c.args.self.now.children.items c.args.child c.index_mut.result.now within
    c.index_mut.ensures.value) ∙ c.requires.runs in
    record {
      all = c.args.self.now.all;
      ties = flags_alive c.args.self.now.children.items c.args.child c.read_child-answer.new.kept
          (g.H.Host.running c.args.self.now.host.now)
          (g.H.Host.running c.read_child-answer.new.host) within c.args.self.now.ties
          c.read_child-answer.ensures.tried.called.others c.read_child-answer.ensures.runs.ties;
      room = as_many c.args.self.now.children.items c.args.child c.index_mut.result.now c.read_child-answer.new.kept
          c.args.self.now.log.kept c.read_child-answer.new.log.kept within c.index_mut.ensures.value
          (c.read_child-answer.ensures.runs.running ∙ sym runs)
          c.args.self.now.room c.read_child-answer.ensures.noted.0;
      over = over_after last_count c.args.self.now.faults c.tally.new.faults c.args.self.now.left
          c.read_child-answer.new.left c.read_child-answer.result
          c.args.self.now.over c.read_child-answer.ensures.tried.fewer c.read_child-answer.ensures.tried.spent
          c.tally.ensures.count;
      tied = λ whole.
          let tried = c.read_child-answer.ensures.tried in
          let noted = c.read_child-answer.ensures.noted.1 in
          subst
          (λ calls. IsTied (slice_set c.args.self.now.children.items c.args.child c.read_child-answer.new.kept) calls
          (g.H.Host.log c.read_child-answer.new.host)) (sym (noted_so _ _ _ c.read_child-answer.result noted whole))
          (tied_read c.args.self.now.children.items c.args.child _ c.index_mut.result.now c.read_child-answer.new.kept
          c.args.self.now.log.events _ (g.H.Host.log c.args.self.now.host.now)
          (g.H.Host.log c.read_child-answer.new.host) tried.called.events within
          (get_at c.args.self.now.children.items c.args.child c.index_mut.result.now within c.index_mut.ensures.value) runs
          (c.args.self.now.tied (noted_lost _ _ _ c.read_child-answer.result noted whole)) tried.called.log tried.called.on c.read_child-answer.ensures.words
          (tried.called.does whole) c.read_child-answer.ensures.runs.running);
    }

pub returns-clause-running : goal.returns-clause-running
returns-clause-running g c =
    let within : c.args.child < length c.args.self.now.children.items =
    omega (arith, c.args.self.now.children.ok.0, c.args.self.now.all, c.requires.number) in
    let runs = sym (on_at c.args.self.now.children.items c.args.child c.index_mut.result.now within
    c.index_mut.ensures.value) ∙ c.requires.runs in
    same_on c.args.self.now.children.items c.args.child c.index_mut.result.now c.read_child-answer.new.kept within
    c.index_mut.ensures.value (c.read_child-answer.ensures.runs.running ∙ sym runs)

pub returns-clause-leads : goal.returns-clause-leads
returns-clause-leads g c =
    let within : c.args.child < length c.args.self.now.children.items =
    omega (arith, c.args.self.now.children.ok.0, c.args.self.now.all, c.requires.number) in
    let runs = sym (on_at c.args.self.now.children.items c.args.child c.index_mut.result.now within
    c.index_mut.ensures.value) ∙ c.requires.runs in (
      refl,
      c.read_child-answer.ensures.leads,
      carries_tried c.args.child g.H.Host.last _ _ c.read_child-answer.result _ c.read_child-answer.ensures.tried
          (counts_most last_count c.args.self.now.faults c.tally.new.faults c.read_child-answer.result c.tally.ensures.count)
          c.read_child-answer.ensures.noted.1 (given_failed c.read_child-answer.result c.read_child-answer.new.room)
          (λ past was whole. (
            noted_so _ _ _ c.read_child-answer.result c.read_child-answer.ensures.noted.1 whole,
            read_done c.args.self.now.children.items c.args.child (length c.args.room.now) c.index_mut.result.now c.read_child-answer.new.kept
                c.args.self.now.log.events _ (g.H.Host.log c.args.self.now.host.now)
                (g.H.Host.log c.read_child-answer.new.host) c.read_child-answer.ensures.tried.called.events within
                (get_at c.args.self.now.children.items c.args.child c.index_mut.result.now within c.index_mut.ensures.value) runs
                (c.args.self.now.tied (noted_lost _ _ _ c.read_child-answer.result c.read_child-answer.ensures.noted.1 whole)) c.read_child-answer.ensures.tried.called.log
                c.read_child-answer.ensures.tried.called.on c.read_child-answer.ensures.words (c.read_child-answer.ensures.tried.called.does whole)
                (given_some c.read_child-answer.result c.read_child-answer.new.room c.read_child-answer.ensures.count) past was,
          )),
    )
