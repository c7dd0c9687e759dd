use Rattle.std.proofs.Common.{◌++◌, ◌∷◌, ◌∙◌, [], append_assoc, ap, arith, length, refl, subst}
use Rattle.round_run.proofs.LedLemmas.{joined, still_host}
use Rattle.round_run.proofs.QuietLemmas.{turn_alone}
use Rattle.round_run.specs.Told.{host_told}
use Rattle.solve_run.proofs.PickLemmas.{behind_pick_front, behind_pick_marked}
use Rattle.solve_run.specs.Skeletons.{IsFrontBehindPick, IsFrontOfPick, RanBehindPick, RanPick, kept_of}
use Rattle.solve_run.proofs.PartLemmas.{all_working}
use Rattle.round_run.proofs.GoingLemmas.{turn_handed, turn_then}
use Rattle.round_run.specs.Desk.{IsFrontOfMark}
use Rattle.round_run.specs.TurnLines.{IsMarked}
use Rattle.transcript_model.specs.Rounds.{limits_of}
use Rattle.transcript_model.specs.Turns.{IsPickTurn}
use Rattle.transcript_model.specs.declared.head.Head.{Head}
use Rattle.solve_run.proofs.adaptive_mode.AdaptiveTurns.pick_behind.Goals as goal

pub returns-in_err-mark : goal.returns-in_err-mark
returns-in_err-mark g c =
    let old = c.args.desk.now in
    let s = old.state in
    let works = c.requires.rests.works in
    let line = c.args.line in
    let kept = kept_of c.args.self.now.skeletons.items c.args.self.now.tried in
    record {
      goes = turn_handed old c.mark.new.self _ (λ _. IsMarked line s c.mark.new.self.state) _ (IsFrontOfMark s.entries line)
          (IsFrontBehindPick old.head old.task kept s.entries line) c.in_err-mark.field-0.0 c.from_residual.result
          c.from_residual.ensures.1 (turn_alone _ _ (still_host g.H.Host g.met.H.Host.stays c.args.host.now) _ _ _ _ _ _ _
          (c.in_err-mark.ensures.goes g.H.Host.last _ c.requires.rests))
          (λ es legal there. behind_pick_marked old.head old.task kept s.entries line es c.args.place c.requires.may.skeleton
          c.requires.may.picked
          (all_working old c.requires.rests) there);
    }

pub pick-requires-clause-mode : goal.pick-requires-clause-mode
pick-requires-clause-mode g c =
    let first = c.in_ok-mark.ensures.goes g.H.Host.last (host_told g.H.Host c.args.host.now) c.requires.rests in
    ap (λ (h : Head). h.mode) first.same.head ∙ c.requires.mode

pub pick-requires-clause-rests : goal.pick-requires-clause-rests
pick-requires-clause-rests g c =
    (c.in_ok-mark.ensures.goes g.H.Host.last (host_told g.H.Host c.args.host.now)
    c.requires.rests).holds

pub pick-requires-clause-may : goal.pick-requires-clause-may
pick-requires-clause-may g c =
    let first = c.in_ok-mark.ensures.goes g.H.Host.last (host_told g.H.Host c.args.host.now) c.requires.rests in
    let may = c.requires.may in
    let asked = ap length first.ran.asked in
    record {
      skeleton = may.skeleton;
      picked = may.picked;
      left = omega (arith, asked, ap (λ (h : Head). h.calls) first.same.head, may.left);
      low = omega (arith, asked, may.low);
      picks = omega (arith, asked, may.picks);
    }

pub returns : goal.returns
returns g c =
    let old = c.args.desk.now in
    let mid = c.mark.new.self in
    let new = c.pick.new.desk in
    let s = old.state in
    let task = old.task in
    let head = old.head in
    let line = c.args.line in
    let kept = kept_of c.args.self.now.skeletons.items c.args.self.now.tried in
    let next = kept_of c.pick.new.self.skeletons.items c.pick.new.self.tried in
    let first = turn_alone _ _ (still_host g.H.Host g.met.H.Host.stays c.args.host.now) _ _ _ _ _ _ _
    (c.in_ok-mark.ensures.goes g.H.Host.last _ c.requires.rests) in
    let marked = first.ran in
    record {
      goes = turn_then old mid new g.H.Host.last _ _ _
          (joined g.H.Host g.met.H.Host.chains c.args.host.now c.args.host.now c.pick.new.host) (λ _. IsMarked line s mid.state)
          (IsFrontOfMark s.entries line)
          (λ t h. RanPick h t kept next mid.state new.state) (λ t h. IsFrontOfPick h t kept mid.state.entries)
          (RanBehindPick head task kept next line s new.state) (IsFrontBehindPick head task kept s.entries line)
          c.in_ok-mark.field-0 c.pick.result first c.pick.ensures.goes
          (λ t ran. record {
            now = line ∷ ran.now;
            pushed = ran.pushed ∙ ap (λ es. es ++ ran.now) marked.entries ∙ append_assoc s.entries (line ∷ []) ran.now;
            last = ran.last;
            cut = ran.cut;
            behind = record {
              rest = ran.now;
              is = refl;
              pick = subst (λ es. IsPickTurn (limits_of head) task kept es ran.now ran.last ran.cut) marked.entries ran.turn;
            };
            ended = ran.ended;
          })
          (λ es legal f. behind_pick_front head task kept s.entries line mid.state.entries es marked.entries f);
    }
