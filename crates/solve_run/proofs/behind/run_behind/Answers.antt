use Rattle.std.proofs.Common.{◌++◌, ◌∷◌, ◌∙◌, [], append_assoc, ap, arith, length, refl, subst}
use Rattle.round_run.proofs.LedLemmas.{still_host}
use Rattle.round_run.proofs.QuietLemmas.{turn_alone}
use Rattle.round_run.specs.Told.{host_told}
use Rattle.solve_run.proofs.BatchGoingLemmas.{batches_behind}
use Rattle.solve_run.proofs.BehindLemmas.{behind_front, behind_marked}
use Rattle.solve_run.specs.Batching.{IsFrontBehindLine, IsFrontOfBatches, RanBatches, RanBehindLine}
use Rattle.solve_run.proofs.PartLemmas.{all_working}
use Rattle.turn_run.specs.Turns.{cut_by}
use Rattle.round_run.proofs.GoingLemmas.{turn_handed}
use Rattle.round_run.specs.Desk.{IsFrontOfMark}
use Rattle.round_run.specs.TurnLines.{IsMarked}
use Rattle.transcript_model.specs.Rounds.{limits_of}
use Rattle.transcript_model.specs.Turns.{AreBatches}
use Rattle.transcript_model.specs.declared.head.Head.{Head}
use Rattle.solve_run.proofs.behind.run_behind.Goals as goal

pub run_batches-requires-clause-rests : goal.run_batches-requires-clause-rests
run_batches-requires-clause-rests g c =
    (c.in_ok-mark.ensures.goes g.H.Host.last (host_told g.H.Host c.args.host.now)
    c.requires.rests).holds

pub run_batches-requires-clause-left : goal.run_batches-requires-clause-left
run_batches-requires-clause-left g c =
    let first = c.in_ok-mark.ensures.goes g.H.Host.last (host_told g.H.Host c.args.host.now) c.requires.rests in
    omega (arith, ap length first.ran.asked, ap (λ (h : Head). h.calls) first.same.head, c.requires.may.left)

pub returns : goal.returns
returns g c =
    let old = c.args.desk.now in
    let mid = c.mark.new.self in
    let new = c.run_batches.new.desk in
    let s = old.state in
    let task = old.task in
    let head = old.head in
    let line = c.args.line in
    let real = c.args.needs.now.real in
    let entries = c.args.needs.now.entries.now in
    let tried = c.args.tried.now in
    let joined = c.run_batches.new.tried in
    let first = c.in_ok-mark.ensures.goes g.H.Host.last (host_told g.H.Host c.args.host.now) c.requires.rests in
    let marked = first.ran in
    record {
      goes = batches_behind line c.requires.may.mark old mid new c.requires.may.opens g.H.Host.last _ _ _ refl
          (IsFrontOfMark s.entries line) (λ t h. RanBatches h t real entries mid.state new.state tried joined)
          (λ t h. IsFrontOfBatches h t real entries [] mid.state.entries)
          (RanBehindLine head task real entries line s new.state tried joined) (IsFrontBehindLine head task real entries s.entries line)
          c.in_ok-mark.field-0 c.run_batches.result first c.run_batches.ensures.goes
          (λ b ran. record {
            now = line ∷ ran.now;
            pushed = ran.pushed ∙ ap (λ es. es ++ ran.now) marked.entries ∙ append_assoc s.entries (line ∷ []) ran.now;
            after = ran.after;
            batches = record {
              rest = ran.now;
              is = refl;
              batches = subst (λ es. AreBatches (limits_of head) task real entries [] es ran.now ran.after (cut_by b))
                  marked.entries ran.batches;
            };
            joins = ran.joins;
            sure = ran.sure;
          })
          (λ es legal f. behind_front head task real entries s.entries line mid.state.entries es marked.entries f);
    }

pub returns-in_err-mark : goal.returns-in_err-mark
returns-in_err-mark g c =
    let old = c.args.desk.now in
    let s = old.state in
    let works = c.requires.rests.works in
    let line = c.args.line in
    let real = c.args.needs.now.real in
    let entries = c.args.needs.now.entries.now in
    record {
      goes = turn_handed old c.mark.new.self _ (λ _. IsMarked line s c.mark.new.self.state) _ (IsFrontOfMark s.entries line)
          (IsFrontBehindLine old.head old.task real entries s.entries line) c.in_err-mark.field-0.0 c.from_residual.result
          c.from_residual.ensures.1 (turn_alone _ _ (still_host g.H.Host g.met.H.Host.stays c.args.host.now) _ _ _ _ _ _ _
          (c.in_err-mark.ensures.goes g.H.Host.last _ c.requires.rests))
          (λ es legal there. behind_marked old.head old.task real entries s.entries line es
          (all_working old c.requires.rests) there);
    }
