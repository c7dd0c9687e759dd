use Rattle.std.proofs.Common.{◌≡◌, ◌⊎◌, ◌<◌, ◌∙◌, [], Err, None, Ok, Option, Result, Some, ap, arith, inl, inr, length, refl, subst, sym, ℕ}
use Rattle.std.specs.Prelude.{⊤}
use Rattle.round_run.proofs.LedLemmas.{joined as joins, still_host}
use Rattle.solve_run.proofs.BatchGoingLemmas.{batch_handed, batch_ok, batch_still, next_behind}
use Rattle.solve_run.proofs.BatchesLemmas.{ran_all, ran_cut, so_far_next, so_far_none}
use Rattle.solve_run.specs.Batching.{Called, HasProgress, IsFrontOfBatches, RanBatches, RanNext, RanNextBatch, RanSome}
use Rattle.round_run.proofs.GoingLemmas.{rests_on}
use Rattle.round_run.specs.declared.ending.Batch.{Batch}
use Rattle.round_run.specs.declared.ending.Batch.TheVariants.{CallsSpent, Done}
use Rattle.round_run.specs.declared.fault.RunFault.{RunFault}
use Rattle.session_core.specs.State.{State}
use Rattle.transcript_model.specs.declared.head.Head.{Head}
use Rattle.solve_run.proofs.batches.run_batches.Goals as goal

-- more was asked, whatever was asked before
more_asked : (first now new : ℕ) (P : Type 0) → ((now ≡ first) × P) ⊎ (first < now) → now < new → first < new
more_asked first now new P (inl same) more = omega (arith, same.0, more)
more_asked first now new P (inr less) more = omega (arith, less, more)

pub batches-init : goal.batches-init
batches-init g c =
    let desk = c.args.desk.now in
    let s = desk.state in
    let needs = c.args.needs.now in
    record {
      goes = batch_still desk (still_host g.H.Host g.met.H.Host.stays c.args.host.now) (g.O.Sink.taken c.args.out.now)
          (g.O.Sink.faults c.args.out.now) (λ (_ : Unit {0}). ⊤) _ tt
          c.requires.rests tt;
      within = omega (arith, c.requires.left);
      so_far = so_far_none desk.head desk.task needs.real needs.entries.now s c.new-gone.result c.args.tried.now
          (c.new-gone.ensures.none desk.task s.entries);
      real = c.new-gone.ensures.real;
      begun = inl (refl, refl);
    }

pub next_batch-requires-clause-rests : goal.next_batch-requires-clause-rests
next_batch-requires-clause-rests g c = c.batches.invariant.goes.holds

pub next_batch-requires-clause-may : goal.next_batch-requires-clause-may
next_batch-requires-clause-may g c =
    let i = c.batches.invariant in
    record {
      progress = subst (λ t. HasProgress t c.batches.desk.state.entries c.batches.gone) (sym i.goes.same.task)
          (i.so_far.sent, i.so_far.progress);
      within = omega (arith, i.within, ap (λ (h : Head). h.calls) i.goes.same.head);
    }

pub returns-in_err-ran : goal.returns-in_err-ran
returns-in_err-ran g c =
    let old = c.args.desk.now in
    let desk = c.batches.desk in
    let new = c.next_batch.new.desk in
    let i = c.batches.invariant in
    let real = c.args.needs.now.real in
    let entries = c.args.needs.now.entries.now in
    let fault = c.in_err-ran.field-0.0 in
    let front = IsFrontOfBatches old.head old.task real entries [] old.state.entries in
    record {
      goes = batch_handed old new _ _ _
          (RanNextBatch old.head old.task entries desk.state new.state c.batches.gone c.next_batch.new.gone c.batches.tried
          c.next_batch.new.tried (g.H.Host.log c.batches.host) (g.H.Host.log c.next_batch.new.host))
          _ front front fault c.from_residual.result c.from_residual.ensures.1
          (next_behind old desk new g.H.Host.last _ _ _
          (joins g.H.Host g.met.H.Host.chains c.args.host.now c.batches.host c.next_batch.new.host) real entries c.batches.gone c.next_batch.new.gone c.args.tried.now c.batches.tried
          c.next_batch.new.tried i.so_far i.real (let r : Result (Option Batch) RunFault = Err fault in r) i.goes
          c.in_err-ran.ensures.goes)
          (λ es legal f. f);
    }

pub returns-in-None : goal.returns-in-None
returns-in-None g c =
    let old = c.args.desk.now in
    let desk = c.batches.desk in
    let new = c.next_batch.new.desk in
    let s = desk.state in
    let i = c.batches.invariant in
    let so = i.so_far in
    let real = c.args.needs.now.real in
    let entries = c.args.needs.now.entries.now in
    let gone = c.batches.gone in
    let later = c.next_batch.new.gone in
    let tried = c.batches.tried in
    let joined = c.next_batch.new.tried in
    let was = g.H.Host.log c.batches.host in
    let now = g.H.Host.log c.next_batch.new.host in
    let x = c.in_ok-ran.ran in
    let front = IsFrontOfBatches old.head old.task real entries [] old.state.entries in
    let all = next_behind old desk new g.H.Host.last _ _ _
    (joins g.H.Host g.met.H.Host.chains c.args.host.now c.batches.host c.next_batch.new.host) real entries gone later c.args.tried.now tried joined so i.real
    (let r : Result (Option Batch) RunFault = Ok x in r) i.goes c.in_ok-ran.ensures.goes in
    let asks = subst (Called old.head old.task s new.state was now) c.in-None.is all.ran.asks in
    let counted_now = (rests_on old new all.same all.holds).works.listens.session.counted in
    record {
      goes = batch_ok old new _ _ _ (RanNextBatch old.head old.task entries s new.state gone later tried joined was now)
          (RanBatches old.head old.task real entries old.state new.state c.args.tried.now joined) front front x Done all
          (λ runs. record {
            runs = runs;
            still = λ none.
                elim i.begun [
                  | inl still ↦ asks.1 ∙ still.1
                  | inr more ↦ absurd (omega (
                    arith,
                    more,
                    none,
                    c.requires.rests.works.listens.session.counted,
                    counted_now,
                    ap (λ (y : State). length y.asked) asks.0,
                  ))
                ];
          })
          (λ done.
          let ran = subst (λ r. RanNext old.head old.task r entries s new.state later tried joined so.sent None) i.real
          (subst (RanNext old.head old.task gone.real entries s new.state later tried joined so.sent) c.in-None.is
          (done.ran so.sent so.progress)) in
          ran_all old.head old.task real entries old.state s new.state gone later c.args.tried.now tried joined so ran.0 ran.1 ran.2);
    }

pub returns-in-CallsSpent : goal.returns-in-CallsSpent
returns-in-CallsSpent g c =
    let old = c.args.desk.now in
    let desk = c.batches.desk in
    let new = c.next_batch.new.desk in
    let s = desk.state in
    let i = c.batches.invariant in
    let so = i.so_far in
    let real = c.args.needs.now.real in
    let entries = c.args.needs.now.entries.now in
    let gone = c.batches.gone in
    let later = c.next_batch.new.gone in
    let tried = c.batches.tried in
    let joined = c.next_batch.new.tried in
    let was = g.H.Host.log c.batches.host in
    let now = g.H.Host.log c.next_batch.new.host in
    let x = c.in_ok-ran.ran in
    let front = IsFrontOfBatches old.head old.task real entries [] old.state.entries in
    let all = next_behind old desk new g.H.Host.last _ _ _
    (joins g.H.Host g.met.H.Host.chains c.args.host.now c.batches.host c.next_batch.new.host) real entries gone later c.args.tried.now tried joined so i.real
    (let r : Result (Option Batch) RunFault = Ok x in r) i.goes c.in_ok-ran.ensures.goes in
    let is = c.in-Some.is ∙ ap Some c.in-CallsSpent.is in
    let asks = subst (Called old.head old.task s new.state was now) is all.ran.asks in
    let first = c.requires.rests.works.listens.session.counted in
    let last = (rests_on old new all.same all.holds).works.listens.session.counted in
    record {
      goes = batch_ok old new _ _ _ (RanNextBatch old.head old.task entries s new.state gone later tried joined was now)
          (RanBatches old.head old.task real entries old.state new.state c.args.tried.now joined) front front x CallsSpent all
          (λ runs. record {
            runs = runs;
            still = λ none.
                elim i.begun [
                  | inl still ↦
                      let more : length s.asked < length new.state.asked = asks.1 (omega (arith, still.0, c.requires.left)) in
                      absurd (omega (arith, still.0, more, none, first, last))
                  | inr more ↦ absurd (omega (arith, more, asks.0, none, first, last))
                ];
          })
          (λ done.
          let ran = subst (λ r. RanSome old.head old.task r entries s new.state later tried joined so.sent CallsSpent) i.real
          (subst (RanNext old.head old.task gone.real entries s new.state later tried joined so.sent) is (done.ran so.sent so.progress)) in
          ran_cut old.head old.task real entries old.state s new.state gone later c.args.tried.now tried joined so ran asks.2);
    }

pub batches-preserved : goal.batches-preserved
batches-preserved g c =
    let old = c.args.desk.now in
    let desk = c.batches.desk in
    let new = c.next_batch.new.desk in
    let s = desk.state in
    let i = c.batches.invariant in
    let so = i.so_far in
    let real = c.args.needs.now.real in
    let entries = c.args.needs.now.entries.now in
    let gone = c.batches.gone in
    let later = c.next_batch.new.gone in
    let tried = c.batches.tried in
    let joined = c.next_batch.new.tried in
    let was = g.H.Host.log c.batches.host in
    let now = g.H.Host.log c.next_batch.new.host in
    let x = c.in_ok-ran.ran in
    let front = IsFrontOfBatches old.head old.task real entries [] old.state.entries in
    let all = next_behind old desk new g.H.Host.last _ _ _
    (joins g.H.Host g.met.H.Host.chains c.args.host.now c.batches.host c.next_batch.new.host) real entries gone later c.args.tried.now tried joined so i.real
    (let r : Result (Option Batch) RunFault = Ok x in r) i.goes c.in_ok-ran.ensures.goes in
    let is = c.in-Some.is ∙ ap Some c.in-Done.is in
    let asks = subst (Called old.head old.task s new.state was now) is all.ran.asks in
    let ran = subst (λ r. RanSome old.head old.task r entries s new.state later tried joined so.sent Done) i.real
    (subst (RanNext old.head old.task gone.real entries s new.state later tried joined so.sent) is (all.ran.ran so.sent so.progress)) in
    record {
      goes = batch_ok old new _ _ _ (RanNextBatch old.head old.task entries s new.state gone later tried joined was now)
          (λ (_ : Unit {0}). ⊤) front front x tt all (λ order. order) (λ done. tt);
      within = asks.1;
      so_far = so_far_next old.head old.task real entries old.state s new.state gone later c.args.tried.now tried joined so ran;
      real = ran.stays;
      begun = inr (more_asked (length old.state.asked) (length s.asked) (length new.state.asked) _ i.begun asks.0);
    }

pub batches-smaller : goal.batches-smaller
batches-smaller g c =
    let old = c.args.desk.now in
    let desk = c.batches.desk in
    let new = c.next_batch.new.desk in
    let i = c.batches.invariant in
    let asks = subst (Called desk.head desk.task desk.state new.state (g.H.Host.log c.batches.host) (g.H.Host.log c.next_batch.new.host))
    (c.in-Some.is ∙ ap Some c.in-Done.is) c.in_ok-ran.ensures.goes.ran.asks in
    omega (arith, asks.0, asks.1, ap (λ (h : Head). h.calls) i.goes.same.head)
