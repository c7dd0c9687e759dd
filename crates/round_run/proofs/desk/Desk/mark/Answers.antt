use Rattle.std.proofs.Common.{◌≡◌, false, subst, sym}
use Rattle.round_run.proofs.QuietLemmas.{mark_turn}
use Rattle.round_run.specs.Desk.{AtDesk, IsFrontOfMark, OnTurn, RestsAt}
use Rattle.round_run.specs.Told.{quiet}
use Rattle.round_run.specs.TurnLines.{IsMarked}
use Rattle.round_run.specs.Talking.{held_of}
use Rattle.session_core.specs.Session.{IsLearnt}
use Rattle.round_run.proofs.desk.Desk.mark.Goals as goal

pub mark-requires-clause-working : goal.mark-requires-clause-working
mark-requires-clause-working g c = subst (λ (d : AtDesk). d.state.failed ≡ false) (sym c.self.view_is) c.requires.working

pub mark-requires-clause-learnt : goal.mark-requires-clause-learnt
mark-requires-clause-learnt g c = subst (λ (d : AtDesk). IsLearnt d.state) (sym c.self.view_is) c.requires.learnt

pub invariant_of-self : goal.invariant_of-self
invariant_of-self g c = record {
  runnable = c.self.invariant.runnable;
  session = c.mark.ensures.marks.kept c.self.inside.task.now c.self.invariant.session;
}

pub returns : goal.returns
returns g c = record {
  goes = λ last host rests.
      let task = c.self.inside.task.now in
      let head = c.self.inside.head.now in
      let s = c.self.inside.session in
      let held = c.self.inside.lines in
      let new = c.mark.new.session in
      let e = c.args.entry in
      let here = subst (λ (d : AtDesk). RestsAt d host) (sym c.self.view_is) rests in
      let after : AtDesk = record { task = task; head = head; state = new; held = held } in
      let old = g.O.Sink.taken c.args.out.now in
      let now = g.O.Sink.taken c.mark.new.out in
      let lost = g.O.Sink.faults c.args.out.now in
      let lost_now = g.O.Sink.faults c.mark.new.out in
      subst (λ (d : AtDesk). OnTurn d after (quiet last host old now lost lost_now) (λ _. IsMarked e d.state new)
      (IsFrontOfMark d.state.entries e) c.mark.result) c.self.view_is
      (mark_turn task head held e c.requires.mark s new host here last old now lost lost_now c.mark.result c.mark.ensures.marks.marked
      (c.mark.ensures.marks.kept task c.self.invariant.session) c.mark.ensures.marks.goes
      (c.mark.ensures.marks.stopped task host.running (held_of held) host.spoken here.works.listens.session here.works.listens.told
      here.started)
      c.mark.ensures.marks.only c.mark.ensures.marks.cause);
}
