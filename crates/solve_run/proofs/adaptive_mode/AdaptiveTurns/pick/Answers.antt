use Rattle.std.proofs.Common.{◌∙◌, ◌+◌, Ok, Err, Result, ap, arith, get_or, length, refl, subst, sym}
use Rattle.round_run.proofs.LedLemmas.{joined as joins, still_host}
use Rattle.round_run.proofs.QuietLemmas.{turn_alone}
use Rattle.solve_run.proofs.PickLemmas.{front_given_up, pick_front, ran_asked, ran_given_up}
use Rattle.solve_run.specs.Batching.{IsFrontBehindLine, RanBehindLine}
use Rattle.solve_run.specs.Skeletons.{IsFrontOfPick, RanPick, kept_of}
use Rattle.turn_run.specs.declared.turns.Turned.TheVariants as turned
use Rattle.round_run.proofs.GoingLemmas.{rests_on, turn_handed, turn_ok, turn_then}
use Rattle.round_run.specs.Desk.{IsFrontOfMark}
use Rattle.round_run.specs.TurnLines.{IsMarked, opens_requests}
use Rattle.round_run.specs.declared.fault.RunFault.{RunFault}
use Rattle.skeletons.proofs.SkeletonLemmas.{item_is, item_within, same_item}
use Rattle.skeletons.specs.Skeletons.{skeletons_in}
use Rattle.transcript_model.specs.declared.entry.Entry.TheVariants as entry
use Rattle.solve_run.proofs.adaptive_mode.AdaptiveTurns.pick.Goals as goal

pub overflow_cast-number : goal.overflow_cast-number
overflow_cast-number g c =
    let works = c.requires.rests.works in
    omega (arith, c.requires.may.low, c.requires.may.left, works.listens.session.calls, works.of.calls)

pub overflow_add-number : goal.overflow_add-number
overflow_add-number g c =
    let works = c.requires.rests.works in
    omega (arith, c.requires.may.low, c.requires.may.left, works.listens.session.calls, works.of.calls)

pub bounds-list-place : goal.bounds-list-place
bounds-list-place g c =
    let may = c.requires.may in
    let within = item_within c.args.self.now.skeletons.items c.args.place may.skeleton may.picked.there in
    omega (arith, within, ap length c.as_slice-list.ensures.value)

pub run_behind-requires-clause-may : goal.run_behind-requires-clause-may
run_behind-requires-clause-may g c = record {
  mark = refl;
  opens = ap (λ m. opens_requests m (entry.Pick (c.args.place + 1))) c.requires.mode;
  left = c.requires.may.left;
}

pub returns-in_err-ended : goal.returns-in_err-ended
returns-in_err-ended g c =
    let old = c.args.desk.now in
    let new = c.run_behind.new.desk in
    let s = old.state in
    let task = old.task in
    let head = old.head in
    let place = c.args.place in
    let may = c.requires.may in
    let items = c.args.self.now.skeletons.items in
    let tried = c.args.self.now.tried in
    let kept = kept_of items tried in
    let line = entry.Pick (place + 1) in
    let same = item_is items place c.index-list-place.result may.skeleton may.picked.there
    (c.index-list-place.is ∙ ap (λ list. get_or list place c.index-list-place.result) c.as_slice-list.ensures.value) in
    let real = c.index-list-place.result.real in
    let entries = c.as_slice-entries.result.now in
    record {
      goes = turn_handed old new _ (RanBehindLine head task real entries line s new.state tried c.run_behind.new.tried) _
          (IsFrontBehindLine head task real entries s.entries line) (IsFrontOfPick head task kept s.entries) c.in_err-ended.field-0.0
          c.from_residual.result c.from_residual.ensures.1 c.in_err-ended.ensures.goes
          (λ es legal f. pick_front head task kept s.entries place may.skeleton may.picked es
          (subst (λ r. IsFrontBehindLine head task r may.skeleton.entries s.entries line es) (ap (λ x. x.real) same)
          (subst (λ list. IsFrontBehindLine head task real list s.entries line es)
          (c.as_slice-entries.ensures.value ∙ ap (λ x. x.entries) same) f)));
    }

pub count-requires-clause-place : goal.count-requires-clause-place
count-requires-clause-place g c =
    let may = c.requires.may in
    item_within c.args.self.now.skeletons.items c.args.place may.skeleton may.picked.there

pub count-requires-clause-room : goal.count-requires-clause-room
count-requires-clause-room g c = λ s at.
    let may = c.requires.may in
    let works = c.requires.rests.works in
    let same = same_item (skeletons_in c.args.self.now.skeletons.items) c.args.place s may.skeleton at may.picked.there in
    omega (arith, ap (λ x. x.picks) same, may.picks, may.left, works.listens.session.calls, works.of.calls)

pub returns-then-now-made : goal.returns-then-now-made
returns-then-now-made g c =
    let old = c.args.desk.now in
    let new = c.run_behind.new.desk in
    let s = old.state in
    let task = old.task in
    let head = old.head in
    let place = c.args.place in
    let may = c.requires.may in
    let items = c.args.self.now.skeletons.items in
    let tried = c.args.self.now.tried in
    let joined = c.run_behind.new.tried in
    let kept = kept_of items tried in
    let line = entry.Pick (place + 1) in
    let b = c.in_ok-ended.ended in
    let goes = c.in_ok-ended.ensures.goes in
    let same = item_is items place c.index-list-place.result may.skeleton may.picked.there
    (c.index-list-place.is ∙ ap (λ list. get_or list place c.index-list-place.result) c.as_slice-list.ensures.value) in
    let real = c.index-list-place.result.real in
    let entries = c.as_slice-entries.result.now in
    let counted_now = (rests_on old new goes.same goes.holds).works.listens.session.counted in
    record {
      goes = turn_ok old new _ (RanBehindLine head task real entries line s new.state tried joined)
          (RanPick head task kept (kept_of c.count.new.skeletons.items joined) s new.state)
          (IsFrontBehindLine head task real entries s.entries line) (IsFrontOfPick head task kept s.entries) b c.turned.result goes
          (λ run.
          let ran = subst (λ r. RanBehindLine head task r may.skeleton.entries line s new.state tried joined b) (ap (λ x. x.real) same)
          (subst (λ list. RanBehindLine head task real list line s new.state tried joined b)
          (c.as_slice-entries.ensures.value ∙ ap (λ x. x.entries) same) run) in
          ran_asked head task kept s.entries place may.skeleton may.picked s new.state refl may.left
          c.requires.rests.works.listens.session.counted counted_now joined b ran
          (λ equal. c.if-now-made.true (c.asks-now.ensures ∙ ap (λ x. length x.asked) c.session-2.ensures.is ∙ equal
          ∙ sym (c.asks-made.ensures ∙ ap (λ x. length x.asked) c.session.ensures.is)))
          (skeletons_in c.count.new.skeletons.items) (c.count.ensures may.skeleton may.picked.there) c.turned.result
          c.turned.ensures.done c.turned.ensures.spent);
    }

pub mark-requires-clause-working : goal.mark-requires-clause-working
mark-requires-clause-working g c = c.in_ok-ended.ensures.goes.holds.works.listens.working

pub mark-requires-clause-learnt : goal.mark-requires-clause-learnt
mark-requires-clause-learnt g c = c.in_ok-ended.ensures.goes.holds.works.learnt

pub returns-in_err-mark : goal.returns-in_err-mark
returns-in_err-mark g c =
    let old = c.args.desk.now in
    let mid = c.run_behind.new.desk in
    let new = c.mark.new.self in
    let s = old.state in
    let task = old.task in
    let head = old.head in
    let place = c.args.place in
    let may = c.requires.may in
    let items = c.args.self.now.skeletons.items in
    let tried = c.args.self.now.tried in
    let joined = c.run_behind.new.tried in
    let kept = kept_of items tried in
    let line = entry.Pick (place + 1) in
    let last = entry.Retire (place + 1) in
    let b = c.in_ok-ended.ended in
    let fault = c.in_err-mark.field-0.0 in
    let first = c.in_ok-ended.ensures.goes in
    let same = item_is items place c.index-list-place.result may.skeleton may.picked.there
    (c.index-list-place.is ∙ ap (λ list. get_or list place c.index-list-place.result) c.as_slice-list.ensures.value) in
    let real = c.index-list-place.result.real in
    let entries = c.as_slice-entries.result.now in
    let ran = subst (λ r. RanBehindLine head task r may.skeleton.entries line s mid.state tried joined b) (ap (λ x. x.real) same)
    (subst (λ list. RanBehindLine head task real list line s mid.state tried joined b)
    (c.as_slice-entries.ensures.value ∙ ap (λ x. x.entries) same) first.ran) in
    let front = IsFrontOfPick head task kept s.entries in
    record {
      goes = turn_handed old new _ (λ _. IsMarked last mid.state new.state) _ front front fault c.from_residual-in_err-mark.result
          c.from_residual-in_err-mark.ensures.1
          (turn_then old mid new g.H.Host.last _ _ _
          (joins g.H.Host g.met.H.Host.chains c.args.host.now c.run_behind.new.host c.run_behind.new.host)
          (RanBehindLine head task real entries line s mid.state tried joined)
          (IsFrontBehindLine head task real entries s.entries line) (λ t h _. IsMarked last mid.state new.state)
          (λ t h. IsFrontOfMark mid.state.entries last) (λ _. IsMarked last mid.state new.state) front b
          (let r : Result (Unit {0}) RunFault = Err fault in r) first (turn_alone _ _
          (still_host g.H.Host g.met.H.Host.stays c.run_behind.new.host) _ _ _ _ _ _ _
          (c.in_err-mark.ensures.goes g.H.Host.last _ first.holds))
          (λ x marked. marked)
          (λ es legal there. front_given_up head task kept s.entries place may.skeleton may.picked s mid.state refl may.left
          c.requires.rests.works.listens.session.counted
          (rests_on old mid first.same first.holds).works.listens.session.counted joined b ran
          (sym (c.asks-now.ensures ∙ ap (λ x. length x.asked) c.session-2.ensures.is) ∙ c.if-now-made.false
          ∙ c.asks-made.ensures ∙ ap (λ x. length x.asked) c.session.ensures.is) es there))
          (λ es legal f. f);
    }

pub returns : goal.returns
returns g c =
    let old = c.args.desk.now in
    let mid = c.run_behind.new.desk in
    let new = c.mark.new.self in
    let s = old.state in
    let task = old.task in
    let head = old.head in
    let place = c.args.place in
    let may = c.requires.may in
    let items = c.args.self.now.skeletons.items in
    let tried = c.args.self.now.tried in
    let joined = c.run_behind.new.tried in
    let kept = kept_of items tried in
    let line = entry.Pick (place + 1) in
    let last = entry.Retire (place + 1) in
    let b = c.in_ok-ended.ended in
    let first = c.in_ok-ended.ensures.goes in
    let same = item_is items place c.index-list-place.result may.skeleton may.picked.there
    (c.index-list-place.is ∙ ap (λ list. get_or list place c.index-list-place.result) c.as_slice-list.ensures.value) in
    let real = c.index-list-place.result.real in
    let entries = c.as_slice-entries.result.now in
    let ran = subst (λ r. RanBehindLine head task r may.skeleton.entries line s mid.state tried joined b) (ap (λ x. x.real) same)
    (subst (λ list. RanBehindLine head task real list line s mid.state tried joined b)
    (c.as_slice-entries.ensures.value ∙ ap (λ x. x.entries) same) first.ran) in
    let counted_now = (rests_on old mid first.same first.holds).works.listens.session.counted in
    let none = sym (c.asks-now.ensures ∙ ap (λ x. length x.asked) c.session-2.ensures.is) ∙ c.if-now-made.false
    ∙ c.asks-made.ensures ∙ ap (λ x. length x.asked) c.session.ensures.is in
    let front = IsFrontOfPick head task kept s.entries in
    record {
      goes = turn_ok old new _ (λ _. IsMarked last mid.state new.state)
          (RanPick head task kept (kept_of c.count-2.new.skeletons.items joined) s new.state) front front c.in_ok-mark.field-0 turned.Done
          (turn_then old mid new g.H.Host.last _ _ _
          (joins g.H.Host g.met.H.Host.chains c.args.host.now c.run_behind.new.host c.run_behind.new.host)
          (RanBehindLine head task real entries line s mid.state tried joined)
          (IsFrontBehindLine head task real entries s.entries line) (λ t h _. IsMarked last mid.state new.state)
          (λ t h. IsFrontOfMark mid.state.entries last) (λ _. IsMarked last mid.state new.state) front b
          (let r : Result (Unit {0}) RunFault = Ok c.in_ok-mark.field-0 in r) first
          (turn_alone _ _ (still_host g.H.Host g.met.H.Host.stays c.run_behind.new.host) _ _ _ _ _ _ _
          (c.in_ok-mark.ensures.goes g.H.Host.last _ first.holds)) (λ x marked. marked)
          (λ es legal there. front_given_up head task kept s.entries place may.skeleton may.picked s mid.state refl may.left
          c.requires.rests.works.listens.session.counted counted_now joined b ran none es there))
          (λ marked. ran_given_up head task kept s.entries place may.skeleton may.picked s mid.state refl may.left
          c.requires.rests.works.listens.session.counted counted_now joined b ran none new.state marked.entries
          (skeletons_in c.count-2.new.skeletons.items) (c.count-2.ensures may.skeleton may.picked.there));
    }
