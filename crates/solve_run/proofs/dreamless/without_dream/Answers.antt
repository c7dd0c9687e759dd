use Rattle.std.proofs.Common.{◌++◌, ◌∷◌, [], Err, Ok, Result, length, not, sym, subst, refl}
use Rattle.round_run.proofs.LedLemmas.{joined, still_host}
use Rattle.round_run.proofs.QuietLemmas.{turn_alone}
use Rattle.round_run.specs.Told.{host_told}
use Rattle.solve_run.proofs.DreamlessLemmas.{dreamless_marked, ran_dreamless, some_tried}
use Rattle.solve_run.proofs.FocusingLemmas.{empty_front}
use Rattle.solve_run.proofs.PartLemmas.{all_working}
use Rattle.solve_run.specs.Focusing.{IsFrontOfDreamless, RanDreaming, RanDreamless}
use Rattle.turn_run.proofs.TurnsLevelLemmas.{turn_marked}
use Rattle.turn_run.specs.Turns.{IsTurn}
use Rattle.solve_run.specs.Levels.{IsFrontOfFallback, RanFallback}
use Rattle.round_run.proofs.GoingLemmas.{rests_on, turn_handed, turn_ok, turn_then}
use Rattle.round_run.specs.Desk.{IsFrontOfMark}
use Rattle.round_run.specs.TurnLines.{IsMarked}
use Rattle.round_run.specs.declared.ending.Batch.{Batch}
use Rattle.round_run.specs.declared.fault.RunFault.{RunFault}
use Rattle.transcript_model.specs.Legal.{IsLegal}
use Rattle.transcript_model.specs.declared.entry.Entry.TheVariants as entry
use Rattle.solve_run.proofs.dreamless.without_dream.Goals as goal

pub returns-in_err-mark : goal.returns-in_err-mark
returns-in_err-mark g c =
    let old = c.args.desk.now in
    let s = old.state in
    let works = c.requires.rests.works in
    let h = works.listens.session in
    record {
      goes = turn_handed old c.mark.new.self _ (λ _. IsMarked entry.Nothing s c.mark.new.self.state) _
          (IsFrontOfMark s.entries entry.Nothing) (IsFrontOfDreamless old.task old.head c.args.tried.now s.entries)
          c.in_err-mark.field-0.0 c.from_residual.result c.from_residual.ensures.1
          (turn_alone _ _ (still_host g.H.Host g.met.H.Host.stays c.args.host.now) _ _ _ _ _ _ _
          (c.in_err-mark.ensures.goes g.H.Host.last _ c.requires.rests))
          (λ es legal there skeletons may. dreamless_marked old.head old.task skeletons may h.fit c.args.tried.now c.args.dues.now s
          (subst (λ v. IsLegal v old.task s.entries) works.of.version h.legal) c.requires.begins
          (all_working old c.requires.rests) c.requires.none es there);
    }

pub fall_back-requires-clause-rests : goal.fall_back-requires-clause-rests
fall_back-requires-clause-rests g c =
    (c.in_ok-mark.ensures.goes g.H.Host.last (host_told g.H.Host c.args.host.now)
    c.requires.rests).holds

pub fall_back-requires-clause-turn : goal.fall_back-requires-clause-turn
fall_back-requires-clause-turn g c =
    let old = c.args.desk.now in
    let mid = c.mark.new.self in
    let s = old.state in
    let dues = c.args.dues.now in
    let works = c.requires.rests.works in
    let h = works.listens.session in
    let first = c.in_ok-mark.ensures.goes g.H.Host.last (host_told g.H.Host c.args.host.now) c.requires.rests in
    subst (λ x. IsTurn x mid.task mid.state.entries (length mid.state.asked) dues) (sym first.same.head)
    (subst (λ x. IsTurn old.head x mid.state.entries (length mid.state.asked) dues) (sym first.same.task)
    (subst (λ es. IsTurn old.head old.task es (length mid.state.asked) dues) (sym first.ran.entries)
    (subst (λ asked. IsTurn old.head old.task (s.entries ++ entry.Nothing ∷ []) (length asked) dues) (sym first.ran.asked)
    (turn_marked old.head old.task s.entries (length s.asked) dues entry.Nothing refl h.fit
    (subst (λ v. IsLegal v old.task s.entries) works.of.version h.legal) c.requires.begins.turn))))

pub returns-in_err-ended : goal.returns-in_err-ended
returns-in_err-ended g c =
    let old = c.args.desk.now in
    let mid = c.mark.new.self in
    let new = c.fall_back.new.desk in
    let s = old.state in
    let dues = c.args.dues.now in
    let tried = c.args.tried.now in
    let is_tried = not c.is_empty-is_tried.result in
    let even = some_tried tried c.is_empty-is_tried.result c.is_empty-is_tried.ensures in
    let front = IsFrontOfDreamless old.task old.head tried s.entries in
    let fault = c.in_err-ended.field-0.0 in
    let first = turn_alone _ _ (still_host g.H.Host g.met.H.Host.stays c.args.host.now) _ _ _ _ _ _ _
    (c.in_ok-mark.ensures.goes g.H.Host.last _ c.requires.rests) in
    record {
      goes = turn_handed old new _ (RanFallback old.task old.head is_tried dues mid.state new.state) _ front front fault
          c.from_residual-in_err-ended.result c.from_residual-in_err-ended.ensures.1
          (turn_then old mid new g.H.Host.last _ _ _
          (joined g.H.Host g.met.H.Host.chains c.args.host.now c.args.host.now c.fall_back.new.host)
          (λ _. IsMarked entry.Nothing s mid.state) (IsFrontOfMark s.entries entry.Nothing)
          (λ t h b. RanFallback t h is_tried dues mid.state new.state b) (λ t h. IsFrontOfFallback h t is_tried mid.state.entries)
          (RanFallback old.task old.head is_tried dues mid.state new.state) front c.in_ok-mark.field-0
          (let r : Result Batch RunFault = Err fault in r) first c.in_err-ended.ensures.goes (λ b ran. ran)
          (λ es legal f skeletons may. empty_front old.head old.task skeletons may tried is_tried s.entries mid.state.entries es
          c.requires.none even first.ran.entries f))
          (λ es legal f. f);
    }

pub returns : goal.returns
returns g c =
    let old = c.args.desk.now in
    let mid = c.mark.new.self in
    let new = c.fall_back.new.desk in
    let s = old.state in
    let dues = c.args.dues.now in
    let tried = c.args.tried.now in
    let is_tried = not c.is_empty-is_tried.result in
    let even = some_tried tried c.is_empty-is_tried.result c.is_empty-is_tried.ensures in
    let front = IsFrontOfDreamless old.task old.head tried s.entries in
    let b = c.in_ok-ended.ended in
    let first = turn_alone _ _ (still_host g.H.Host g.met.H.Host.stays c.args.host.now) _ _ _ _ _ _ _
    (c.in_ok-mark.ensures.goes g.H.Host.last _ c.requires.rests) in
    let all = turn_then old mid new g.H.Host.last _ _ _
    (joined g.H.Host g.met.H.Host.chains c.args.host.now c.args.host.now c.fall_back.new.host) (λ _. IsMarked entry.Nothing s mid.state)
    (IsFrontOfMark s.entries entry.Nothing)
    (λ t h x. RanFallback t h is_tried dues mid.state new.state x) (λ t h. IsFrontOfFallback h t is_tried mid.state.entries)
    (RanFallback old.task old.head is_tried dues mid.state new.state) front c.in_ok-mark.field-0
    (let r : Result Batch RunFault = Ok b in r) first c.in_ok-ended.ensures.goes (λ x ran. ran)
    (λ es legal f skeletons may. empty_front old.head old.task skeletons may tried is_tried s.entries mid.state.entries es
    c.requires.none even first.ran.entries f) in
    record {
      goes = turn_ok old new _ (RanFallback old.task old.head is_tried dues mid.state new.state)
          (RanDreamless old.task old.head tried c.clear.new.self s new.state) front front b c.turned.result all
          (λ ran skeletons may. subst (λ next. RanDreaming old.task old.head skeletons tried next s new.state c.turned.result)
          (sym c.clear.ensures)
          (ran_dreamless old.head old.task skeletons may tried dues s mid.state new.state first.ran c.requires.none c.requires.begins
          is_tried even b ran new.held _ _ (rests_on old new all.same all.holds) c.turned.result c.turned.ensures.done
          c.turned.ensures.spent));
    }
