use Rattle.std.proofs.Common.{◌++◌, ◌∙◌, ap, inl, refl, subst, sym}
use Rattle.std.specs.Prelude.{⊤}
use Rattle.round_run.proofs.LedLemmas.{still_host}
use Rattle.solve_run.proofs.DreamtLemmas.{dreamt_front, firsts_after, may_ask, ran_dreamt}
use Rattle.solve_run.proofs.FocusingLemmas.{dreamt}
use Rattle.solve_run.specs.Focusing.{RanFocused, carried}
use Rattle.instance_queue.specs.Level.{due_instances}
use Rattle.turn_run.specs.Advancing.{IsFrontOfTurn}
use Rattle.turn_run.specs.Asking.{IsFrontBehind, RanBehind}
use Rattle.round_run.proofs.GoingLemmas.{rests_on, turn_handed, turn_ok}
use Rattle.round_run.proofs.QuietLemmas.{turn_memory}
use Rattle.round_run.specs.declared.fault.RunFault.TheVariants.{Memory}
use Rattle.task_model.specs.Fit.{IsFit}
use Rattle.transcript_model.specs.Legal.{IsLegal}
use Rattle.transcript_model.specs.Rounds.{limits_of}
use Rattle.solve_run.proofs.first_batch.FirstBatchDreamBatches.ask.Goals as goal

pub first_asks-requires : goal.first_asks-requires
first_asks-requires g c = subst IsFit (sym c.task.ensures) c.requires.rests.works.listens.session.fit

pub returns-in_err-asks : goal.returns-in_err-asks
returns-in_err-asks g c =
    let desk = c.args.desk.now in
    let front = IsFrontOfTurn desk.task desk.head (carried c.args.tried.now) desk.state.entries in
    record {
      goes = turn_handed desk desk _ (λ (_ : Unit {0}). ⊤) _ front front Memory c.from_residual.result c.from_residual.ensures.1
          (turn_memory desk (still_host g.H.Host g.met.H.Host.stays c.args.host.now) (g.O.Sink.taken c.args.out.now)
          (g.O.Sink.faults c.args.out.now) (λ (_ : Unit {0}). ⊤) front
          Memory c.requires.rests refl (λ legal. inl refl))
          (λ es legal f. f);
    }

pub returns-in_err-join : goal.returns-in_err-join
returns-in_err-join g c =
    let desk = c.args.desk.now in
    let front = IsFrontOfTurn desk.task desk.head (carried c.args.tried.now) desk.state.entries in
    record {
      goes = turn_handed desk desk _ (λ (_ : Unit {0}). ⊤) _ front front Memory c.from_residual-in_err-join.result
          c.from_residual-in_err-join.ensures.1
          (turn_memory desk (still_host g.H.Host g.met.H.Host.stays c.args.host.now) (g.O.Sink.taken c.args.out.now)
          (g.O.Sink.faults c.args.out.now) (λ (_ : Unit {0}). ⊤) front
          Memory c.requires.rests refl (λ legal. inl refl))
          (λ es legal f. f);
    }

pub ask_behind-requires-clause-may : goal.ask_behind-requires-clause-may
ask_behind-requires-clause-may g c =
    let old = c.args.desk.now in
    let s = old.state in
    let works = c.requires.rests.works in
    let h = works.listens.session in
    let dream = c.args.dream in
    may_ask old.head old.task h.fit c.requires.mode c.args.tried.now dream.line dream.entries.items s
    (subst (λ v. IsLegal v old.task s.entries) works.of.version h.legal)
    (dreamt (limits_of old.head) old.task s.entries c.args.tried.now dream.line dream.entries.items c.requires.dream)
    c.as_slice-2.result.now
    (firsts_after old.task s works.listens.working works.learnt h _ _ _ _ _ _ _ _ _ _ c.facts-facts.ensures c.session.ensures.is
    c.queue-queue.ensures c.session-2.ensures.is c.task.ensures c.name_count-real.ensures.count c.as_slice-needs.ensures.value
    c.as_slice-2.ensures.value c.in_ok-asks.ensures)
    c.requires.room

pub returns-in_err-ended : goal.returns-in_err-ended
returns-in_err-ended g c =
    let old = c.args.desk.now in
    let new = c.ask_behind.new.desk in
    let s = old.state in
    let works = c.requires.rests.works in
    let h = works.listens.session in
    let dream = c.args.dream in
    let dues = c.as_slice-2.result.now in
    record {
      goes = turn_handed old new _ (RanBehind old.task old.head dream.line dues s new.state) _
          (IsFrontBehind old.head old.task s.entries dream.line (due_instances dues))
          (IsFrontOfTurn old.task old.head (carried c.args.tried.now) s.entries) c.in_err-ended.field-0.0
          c.from_residual-in_err-ended.result c.from_residual-in_err-ended.ensures.1 c.in_err-ended.ensures.goes
          (λ es legal f. dreamt_front old.head old.task h.fit c.requires.mode c.args.tried.now dream.line dream.entries.items s
          (subst (λ v. IsLegal v old.task s.entries) works.of.version h.legal)
          (dreamt (limits_of old.head) old.task s.entries c.args.tried.now dream.line dream.entries.items c.requires.dream) dues
          (firsts_after old.task s works.listens.working works.learnt h _ _ _ _ _ _ _ _ _ _ c.facts-facts.ensures c.session.ensures.is
          c.queue-queue.ensures c.session-2.ensures.is c.task.ensures c.name_count-real.ensures.count c.as_slice-needs.ensures.value
          c.as_slice-2.ensures.value c.in_ok-asks.ensures)
          c.requires.room es f);
    }

pub returns : goal.returns
returns g c =
    let old = c.args.desk.now in
    let new = c.ask_behind.new.desk in
    let s = old.state in
    let task = old.task in
    let head = old.head in
    let tried = c.args.tried.now in
    let works = c.requires.rests.works in
    let h = works.listens.session in
    let dream = c.args.dream in
    let dues = c.as_slice-2.result.now in
    let b = c.in_ok-ended.ended in
    let goes = c.in_ok-ended.ensures.goes in
    let joined = c.in_ok-join.ensures
    ∙ ap (λ ds. tried ++ due_instances ds) (c.as_slice.ensures.value ∙ sym c.as_slice-2.ensures.value) in
    record {
      goes = turn_ok old new _ (RanBehind task head dream.line dues s new.state)
          (RanFocused task head tried c.join.new.self s new.state)
          (IsFrontBehind head task s.entries dream.line (due_instances dues)) (IsFrontOfTurn task head (carried tried) s.entries) b
          c.turned.result goes
          (λ ran. subst (λ next. RanFocused task head tried next s new.state c.turned.result) (sym joined)
          (ran_dreamt head task h.fit c.requires.mode tried dream.line dream.entries.items s
          (subst (λ v. IsLegal v task s.entries) works.of.version h.legal)
          (dreamt (limits_of head) task s.entries tried dream.line dream.entries.items c.requires.dream) dues
          (firsts_after task s works.listens.working works.learnt h _ _ _ _ _ _ _ _ _ _ c.facts-facts.ensures c.session.ensures.is
          c.queue-queue.ensures c.session-2.ensures.is c.task.ensures c.name_count-real.ensures.count c.as_slice-needs.ensures.value
          c.as_slice-2.ensures.value c.in_ok-asks.ensures)
          c.requires.room h.counted new.state b ran new.held _ _ (rests_on old new goes.same goes.holds) c.turned.result
          c.turned.ensures.done c.turned.ensures.spent));
    }
