use Rattle.std.proofs.Common.{◌++◌, ◌∷◌, ◌∙◌, [], sym, subst, ap, append_assoc, arith, length, refl}
use Rattle.session_core.specs.Ready.{AreReady}
use Rattle.instance_queue.specs.Level.{due_instances}
use Rattle.pools.specs.Pools.{AreFitPools}
use Rattle.transcript_model.specs.Rounds.{IsBatch, limits_of}
use Rattle.round_run.proofs.LedLemmas.{still_host}
use Rattle.round_run.proofs.QuietLemmas.{turn_alone}
use Rattle.round_run.specs.Told.{host_told}
use Rattle.turn_run.proofs.AskingLemmas.{asked_front, asked_marked}
use Rattle.round_run.proofs.GoingLemmas.{line_then, turn_handed}
use Rattle.turn_run.proofs.TurnsLevelLemmas.{batch_asks, ready_marked}
use Rattle.turn_run.specs.Asking.{IsFrontBehind, RanBehind}
use Rattle.round_run.specs.Desk.{IsFrontOfMark}
use Rattle.round_run.specs.TurnLines.{IsMarked}
use Rattle.round_run.proofs.RollingFrontLemmas.{all_work}
use Rattle.round_run.specs.Batches.{EndsBatch}
use Rattle.round_run.specs.Resting.{IsFrontOfBatch, RanBatch}
use Rattle.turn_run.proofs.asks.ask_behind.Goals as goal

pub batch-requires-clause-ready : goal.batch-requires-clause-ready
batch-requires-clause-ready g c =
    let old = c.args.desk.now in
    let h = c.requires.rests.works.listens.session in
    let first = c.in_ok-mark.ensures.goes g.H.Host.last (host_told g.H.Host c.args.host.now) c.requires.rests in
    subst (λ t. AreReady t c.mark.new.self.state.entries c.args.dues.now) (sym first.same.task)
    (subst (λ es. AreReady old.task es c.args.dues.now) (sym first.ran.entries)
    (ready_marked old.state.version old.task old.state.entries c.args.dues.now c.args.entry c.requires.may.mark h.fit h.legal
    c.requires.may.ready))

pub batch-requires-clause-rests : goal.batch-requires-clause-rests
batch-requires-clause-rests g c =
    (c.in_ok-mark.ensures.goes g.H.Host.last (host_told g.H.Host c.args.host.now)
    c.requires.rests).holds

pub returns : goal.returns
returns g c =
    let old = c.args.desk.now in
    let s = old.state in
    let mid = c.mark.new.self in
    let new = c.batch.new.self in
    let task = old.task in
    let head = old.head in
    let e = c.args.entry in
    let dues = c.args.dues.now in
    let list = due_instances dues in
    let first = c.in_ok-mark.ensures.goes g.H.Host.last (host_told g.H.Host c.args.host.now) c.requires.rests in
    let marked = first.ran in
    let rests = c.requires.rests in
    record {
      goes = line_then e c.requires.may.mark old mid new c.requires.may.opens g.H.Host.last _ _ _ refl
          (IsFrontOfMark s.entries e) (λ t h b. RanBatch t h dues mid.state new.state b)
          (λ t h. IsFrontOfBatch t h mid.state.entries dues) (RanBehind task head e dues s new.state)
          (IsFrontBehind head task s.entries e list) c.in_ok-mark.field-0 c.batch.result first c.batch.ensures.goes
          (λ b ran there none. omega (
            arith,
            none,
            batch_asks task new.state.entries (length mid.state.asked) (length new.state.asked) head.calls (length dues) b
                (omega (arith, ap length marked.asked, c.requires.may.left)) c.requires.may.some ran.ends,
            ap length marked.asked,
            rests.works.listens.session.counted,
            there.works.listens.session.counted,
          ))
          (λ b ran.
          let here = subst (λ asked. EndsBatch task new.state.entries (length asked) (length new.state.asked) head.calls (length dues) b)
          marked.asked ran.ends in
          record {
            now = e ∷ ran.more;
            pushed = ran.pushed ∙ ap (λ es. es ++ ran.more) marked.entries ∙ append_assoc s.entries (e ∷ []) ran.more;
            asks = record {
              rest = ran.more;
              is = refl;
              batch = subst (λ es. IsBatch (limits_of head) task es list ran.more) marked.entries ran.batch;
            };
            more = batch_asks task new.state.entries (length s.asked) (length new.state.asked) head.calls (length dues) b
                c.requires.may.left c.requires.may.some here;
            ends = here;
          })
          (λ es legal f. asked_front head task s.entries e list mid.state.entries es marked.entries f);
    }

pub returns-in_err-mark : goal.returns-in_err-mark
returns-in_err-mark g c =
    let old = c.args.desk.now in
    let rests = c.requires.rests in
    let list = due_instances c.args.dues.now in
    record {
      goes = turn_handed old c.mark.new.self _ (λ _. IsMarked c.args.entry old.state c.mark.new.self.state) _
          (IsFrontOfMark old.state.entries c.args.entry) (IsFrontBehind old.head old.task old.state.entries c.args.entry list)
          c.in_err-mark.field-0.0 c.from_residual.result c.from_residual.ensures.1
          (turn_alone _ _ (still_host g.H.Host g.met.H.Host.stays c.args.host.now) _ _ _ _ _ _ _
          (c.in_err-mark.ensures.goes g.H.Host.last _ rests))
          (λ es legal there. asked_marked old.head old.task old.state.entries c.args.entry list es
          (all_work old.head.pools (subst (AreFitPools old.task) rests.works.of.pools rests.works.listens.session.pools).some) there);
    }
