use Rattle.std.proofs.Common.{◌≡◌, ◌==◌, ◌∙◌, ◌++◌, ◌+◌, Err, None, Result, Some, ap, arith, drop, length, refl, subst, sym}
use Rattle.std.proofs.lemmas.List.{length-append}
use Rattle.std.specs.Prelude.{⊤, List}
use Rattle.round_run.proofs.LedLemmas.{joined, still_host}
use Rattle.solve_run.proofs.BatchGoingLemmas.{batch_handed, batch_memory, batch_ok, batch_still, batch_then}
use Rattle.solve_run.proofs.BatchesLemmas.{IsChosen, asks_next, front_done, front_here, front_next, none_next, noted_next, ran_next, ready_next}
use Rattle.solve_run.specs.Batching.{IsFrontOfNext, RanNextBatch}
use Rattle.dream_asks.specs.Next.{AreDuesOf, AreNext}
use Rattle.dream_asks.specs.Noting.{NotesAnswers}
use Rattle.dream_asks.specs.Progress.{Progress}
use Rattle.dream_asks.specs.declared.asks.DreamAsk.{DreamAsk}
use Rattle.solve_run.proofs.PartLemmas.{all_working}
use Rattle.instance_queue.specs.Level.{due_instances}
use Rattle.instance_queue.specs.declared.due.Due.{Due}
use Rattle.turn_run.proofs.TurnsOutcomeLemmas.{names_known, spent_sure}
use Rattle.round_run.proofs.BatchLemmas.{empty_of, filled_of}
use Rattle.round_run.proofs.GoingLemmas.{rests_on}
use Rattle.round_run.specs.Resting.{IsFrontOfBatch, RanBatch}
use Rattle.round_run.specs.declared.ending.Batch.TheVariants.{CallsSpent, Done}
use Rattle.round_run.specs.declared.fault.RunFault.{RunFault}
use Rattle.round_run.specs.declared.fault.RunFault.TheVariants.{Memory}
use Rattle.session_core.specs.State.{State}
use Rattle.task_model.specs.Dreams as dreams
use Rattle.task_model.specs.Known.{Known}
use Rattle.task_model.specs.Streams.{Note}
use Rattle.task_model.specs.declared.task.Task.{Task}
use Rattle.transcript_model.specs.Legal.{IsLegal}
use Rattle.solve_run.proofs.batches.next_batch.Goals as goal

-- by what a session knows and has noted these are asked next
abbrev chosen : (task : Task) (s x y : State) (p : Progress) (entries : List dreams.SupposedEntry) (asks : List DreamAsk) (at : Task)
    (known : Known) (notes : List Note) → known ≡ x.known → x ≡ s → notes ≡ y.notes → y ≡ s → at ≡ task
    → AreNext at known notes p entries asks → IsChosen task s p entries asks
chosen task s x y p entries asks at known notes known_is first notes_is second same next = record {
  known = known;
  notes = notes;
  known_is = known_is ∙ ap (λ (z : State). z.known) first;
  notes_is = notes_is ∙ ap (λ (z : State). z.notes) second;
  next = subst (λ t. AreNext t known notes p entries asks) same next;
}

-- with these turns
turned : (notes : List Note) (list asks : List DreamAsk) (dues slice : List Due) → list ≡ asks → slice ≡ dues
    → AreDuesOf notes list dues → AreDuesOf notes asks slice
turned notes list asks dues slice same is of =
    subst (λ xs. AreDuesOf notes xs slice) same (subst (AreDuesOf notes list) (sym is) of)

pub returns-in_err-asks : goal.returns-in_err-asks
returns-in_err-asks g c =
    let old = c.args.desk.now in
    let works = c.requires.rests.works in
    let front = IsFrontOfNext old.head old.task c.args.entries.now c.args.gone.now old.state.entries in
    record {
      goes = batch_handed old old _ _ _ (λ (_ : Unit {0}). ⊤) _ front front Memory c.from_residual.result c.from_residual.ensures.1
          (batch_memory old (still_host g.H.Host g.met.H.Host.stays c.args.host.now) (g.O.Sink.taken c.args.out.now)
          (g.O.Sink.faults c.args.out.now) (λ (_ : Unit {0}). ⊤) front
          c.requires.rests
          (λ sent is. front_here old.head old.task c.args.gone.now.real c.args.entries.now
          (all_working old c.requires.rests) sent old.state.entries))
          (λ es legal f. f);
    }

pub returns-in_err-dues : goal.returns-in_err-dues
returns-in_err-dues g c =
    let old = c.args.desk.now in
    let works = c.requires.rests.works in
    let front = IsFrontOfNext old.head old.task c.args.entries.now c.args.gone.now old.state.entries in
    record {
      goes = batch_handed old old _ _ _ (λ (_ : Unit {0}). ⊤) _ front front Memory c.from_residual-in_err-dues.result
          c.from_residual-in_err-dues.ensures.1
          (batch_memory old (still_host g.H.Host g.met.H.Host.stays c.args.host.now) (g.O.Sink.taken c.args.out.now)
          (g.O.Sink.faults c.args.out.now) (λ (_ : Unit {0}). ⊤) front
          c.requires.rests
          (λ sent is. front_here old.head old.task c.args.gone.now.real c.args.entries.now
          (all_working old c.requires.rests) sent old.state.entries))
          (λ es legal f. f);
    }

pub returns-then-is_empty : goal.returns-then-is_empty
returns-then-is_empty g c =
    let old = c.args.desk.now in
    let s = old.state in
    let works = c.requires.rests.works in
    let gone = c.args.gone.now in
    let entries = c.args.entries.now in
    let asks = c.in_ok-asks.asks.items in
    let next = chosen old.task s _ _ gone entries asks _ _ _ c.facts-facts.ensures c.session.ensures.is c.queue-queue.ensures
    c.session-2.ensures.is c.task.ensures c.in_ok-asks.ensures in
    let none = empty_of asks
    (ap (λ xs. length xs == 0) (sym c.as_slice.ensures.value) ∙ sym c.is_empty.ensures ∙ c.if-is_empty.true) in
    record {
      goes = batch_still old (still_host g.H.Host g.met.H.Host.stays c.args.host.now) (g.O.Sink.taken c.args.out.now)
          (g.O.Sink.faults c.args.out.now) _ _ None c.requires.rests
          (record {
            ran = λ sent is. (
              none_next old.task s works.listens.working works.learnt works.listens.session gone entries asks next none sent is,
              refl,
              refl,
            );
            asks = (refl, refl);
          });
    }

pub overflow_add-first : goal.overflow_add-first
overflow_add-first g c =
    let works = c.requires.rests.works in
    omega (
      arith,
      c.asks-first.ensures,
      ap (λ (x : State). length x.asked) c.session-3.ensures.is,
      c.requires.may.within,
      works.listens.session.calls,
      works.of.calls,
    )

pub batch-requires-clause-ready : goal.batch-requires-clause-ready
batch-requires-clause-ready g c =
    let old = c.args.desk.now in
    let s = old.state in
    let works = c.requires.rests.works in
    let gone = c.args.gone.now in
    let entries = c.args.entries.now in
    let asks = c.in_ok-asks.asks.items in
    let next = chosen old.task s _ _ gone entries asks _ _ _ c.facts-facts.ensures c.session.ensures.is c.queue-queue.ensures
    c.session-2.ensures.is c.task.ensures c.in_ok-asks.ensures in
    ready_next old.task s works.listens.working works.learnt works.listens.session gone entries asks next next.notes
    c.as_slice-3.result.now next.notes_is
    (turned next.notes _ asks _ _ c.as_slice-2.ensures.value c.as_slice-3.ensures.value c.in_ok-dues.ensures) c.requires.may.progress

pub returns-in_err-batch : goal.returns-in_err-batch
returns-in_err-batch g c =
    let old = c.args.desk.now in
    let new = c.batch.new.self in
    let s = old.state in
    let works = c.requires.rests.works in
    let gone = c.args.gone.now in
    let entries = c.args.entries.now in
    let asks = c.in_ok-asks.asks.items in
    let dues = c.as_slice-3.result.now in
    let next = chosen old.task s _ _ gone entries asks _ _ _ c.facts-facts.ensures c.session.ensures.is c.queue-queue.ensures
    c.session-2.ensures.is c.task.ensures c.in_ok-asks.ensures in
    let of = turned next.notes _ asks _ dues c.as_slice-2.ensures.value c.as_slice-3.ensures.value c.in_ok-dues.ensures in
    let some = filled_of asks
    (ap (λ xs. length xs == 0) (sym c.as_slice.ensures.value) ∙ sym c.is_empty.ensures ∙ c.if-is_empty.false) in
    let fault = c.in_err-batch.field-0.0 in
    let front = IsFrontOfNext old.head old.task entries gone s.entries in
    record {
      goes = batch_handed old new _ _ _ (RanBatch old.task old.head dues s new.state) _ (IsFrontOfBatch old.task old.head s.entries dues)
          front fault c.from_residual-in_err-batch.result c.from_residual-in_err-batch.ensures.1 c.in_err-batch.ensures.goes
          (λ es legal f sent is. front_next old.task s works.listens.working works.learnt works.listens.session gone entries asks next
          next.notes dues next.notes_is of old.head some sent is
          (all_working old c.requires.rests) es f);
    }

pub returns-in-CallsSpent : goal.returns-in-CallsSpent
returns-in-CallsSpent g c =
    let old = c.args.desk.now in
    let new = c.batch.new.self in
    let s = old.state in
    let task = old.task in
    let head = old.head in
    let works = c.requires.rests.works in
    let gone = c.args.gone.now in
    let entries = c.args.entries.now in
    let tried = c.args.tried.now in
    let asks = c.in_ok-asks.asks.items in
    let dues = c.as_slice-3.result.now in
    let goes = c.in_ok-batch.ensures.goes in
    let after = (rests_on old new goes.same goes.holds).works in
    let next = chosen task s _ _ gone entries asks _ _ _ c.facts-facts.ensures c.session.ensures.is c.queue-queue.ensures
    c.session-2.ensures.is c.task.ensures c.in_ok-asks.ensures in
    let of = turned next.notes _ asks _ dues c.as_slice-2.ensures.value c.as_slice-3.ensures.value c.in_ok-dues.ensures in
    let some = filled_of asks
    (ap (λ xs. length xs == 0) (sym c.as_slice.ensures.value) ∙ sym c.is_empty.ensures ∙ c.if-is_empty.false) in
    let ran = subst (RanBatch task head dues s new.state) c.in-CallsSpent.is goes.ran in
    record {
      goes = batch_ok old new _ _ _ (RanBatch task head dues s new.state)
          (RanNextBatch head task entries s new.state gone gone tried tried (g.H.Host.log c.args.host.now) (g.H.Host.log c.batch.new.host))
          (IsFrontOfBatch task head s.entries dues) _ c.in_ok-batch.field-0 (Some CallsSpent) goes (λ order. order)
          (λ first. record {
            ran = λ sent is. ran_next task s works.listens.working works.learnt works.listens.session gone entries asks next next.notes
                dues
                next.notes_is of head some sent is new.state gone tried tried CallsSpent ran c.requires.may.within refl
                (λ e. absurd (let bad : CallsSpent ≡ Done = e in cc)) (λ e. absurd (let bad : CallsSpent ≡ Done = e in cc));
            asks = asks_next task s works.listens.working works.learnt works.listens.session gone entries asks next next.notes dues
                next.notes_is
                of head some c.requires.may.progress.0 c.requires.may.progress.1 new.state (g.H.Host.log c.args.host.now)
                (g.H.Host.log c.batch.new.host) CallsSpent ran c.requires.may.within
                (λ spent. spent_sure head task new.state (length s.asked) (length dues) CallsSpent after.listens.working after.learnt
                after.listens.session after.of refl ran.ends);
          });
    }

pub note-requires : goal.note-requires
note-requires g c =
    let old = c.args.desk.now in
    let ran = c.in_ok-batch.ensures.goes.ran in
    omega (
      arith,
      ap length c.entries-from.ensures,
      ap (λ (x : State). length x.entries) c.session-4.ensures.is,
      ap (λ (x : State). length x.entries) c.session-in-Done.ensures.is,
      ap length ran.pushed,
      length-append old.state.entries ran.more,
    )

pub returns-in_err-note-in-Done : goal.returns-in_err-note-in-Done
returns-in_err-note-in-Done g c =
    let old = c.args.desk.now in
    let new = c.batch.new.self in
    let s = old.state in
    let task = old.task in
    let head = old.head in
    let works = c.requires.rests.works in
    let gone = c.args.gone.now in
    let entries = c.args.entries.now in
    let tried = c.args.tried.now in
    let asks = c.in_ok-asks.asks.items in
    let dues = c.as_slice-3.result.now in
    let goes = c.in_ok-batch.ensures.goes in
    let next = chosen task s _ _ gone entries asks _ _ _ c.facts-facts.ensures c.session.ensures.is c.queue-queue.ensures
    c.session-2.ensures.is c.task.ensures c.in_ok-asks.ensures in
    let of = turned next.notes _ asks _ dues c.as_slice-2.ensures.value c.as_slice-3.ensures.value c.in_ok-dues.ensures in
    let some = filled_of asks
    (ap (λ xs. length xs == 0) (sym c.as_slice.ensures.value) ∙ sym c.is_empty.ensures ∙ c.if-is_empty.false) in
    let ran = subst (RanBatch task head dues s new.state) c.in-Done.is goes.ran in
    let front = IsFrontOfNext head task entries gone s.entries in
    let work = all_working old c.requires.rests in
    record {
      goes = batch_handed old new _ _ _ (λ (_ : Unit {0}). ⊤) _ front front Memory c.from_residual-in_err-note-in-Done.result
          c.from_residual-in_err-note-in-Done.ensures.1
          (batch_then old new new g.H.Host.last _ _ _
          (joined g.H.Host g.met.H.Host.chains c.args.host.now c.batch.new.host c.batch.new.host) (RanBatch task head dues s new.state)
          (IsFrontOfBatch task head s.entries dues)
          (λ t h (_ : Unit {0}). ⊤) (λ t h. front) (λ (_ : Unit {0}). ⊤) front c.in_ok-batch.field-0
          (let r : Result (Unit {0}) RunFault = Err Memory in r) goes
          (batch_memory new (still_host g.H.Host g.met.H.Host.stays c.batch.new.host) (g.O.Sink.taken c.batch.new.out)
          (g.O.Sink.faults c.batch.new.out) (λ (_ : Unit {0}). ⊤)
          front goes.holds
          (λ sent is. front_done task s works.listens.working works.learnt works.listens.session gone entries asks next next.notes dues
          next.notes_is of head some sent is new.state gone tried tried Done ran work c.requires.may.within refl))
          (λ x done. tt) (λ es legal f. f))
          (λ es legal f. f);
    }

pub returns-in_err-join-in-Done : goal.returns-in_err-join-in-Done
returns-in_err-join-in-Done g c =
    let old = c.args.desk.now in
    let new = c.batch.new.self in
    let s = old.state in
    let task = old.task in
    let head = old.head in
    let works = c.requires.rests.works in
    let gone = c.args.gone.now in
    let entries = c.args.entries.now in
    let tried = c.args.tried.now in
    let asks = c.in_ok-asks.asks.items in
    let dues = c.as_slice-3.result.now in
    let goes = c.in_ok-batch.ensures.goes in
    let next = chosen task s _ _ gone entries asks _ _ _ c.facts-facts.ensures c.session.ensures.is c.queue-queue.ensures
    c.session-2.ensures.is c.task.ensures c.in_ok-asks.ensures in
    let of = turned next.notes _ asks _ dues c.as_slice-2.ensures.value c.as_slice-3.ensures.value c.in_ok-dues.ensures in
    let some = filled_of asks
    (ap (λ xs. length xs == 0) (sym c.as_slice.ensures.value) ∙ sym c.is_empty.ensures ∙ c.if-is_empty.false) in
    let ran = subst (RanBatch task head dues s new.state) c.in-Done.is goes.ran in
    let front = IsFrontOfNext head task entries gone s.entries in
    let work = all_working old c.requires.rests in
    record {
      goes = batch_handed old new _ _ _ (λ (_ : Unit {0}). ⊤) _ front front Memory c.from_residual-in_err-join-in-Done.result
          c.from_residual-in_err-join-in-Done.ensures.1
          (batch_then old new new g.H.Host.last _ _ _
          (joined g.H.Host g.met.H.Host.chains c.args.host.now c.batch.new.host c.batch.new.host) (RanBatch task head dues s new.state)
          (IsFrontOfBatch task head s.entries dues)
          (λ t h (_ : Unit {0}). ⊤) (λ t h. front) (λ (_ : Unit {0}). ⊤) front c.in_ok-batch.field-0
          (let r : Result (Unit {0}) RunFault = Err Memory in r) goes
          (batch_memory new (still_host g.H.Host g.met.H.Host.stays c.batch.new.host) (g.O.Sink.taken c.batch.new.out)
          (g.O.Sink.faults c.batch.new.out) (λ (_ : Unit {0}). ⊤)
          front goes.holds
          (λ sent is. front_done task s works.listens.working works.learnt works.listens.session gone entries asks next next.notes dues
          next.notes_is of head some sent is new.state gone tried tried Done ran work c.requires.may.within refl))
          (λ x done. tt) (λ es legal f. f))
          (λ es legal f. f);
    }

pub returns : goal.returns
returns g c =
    let old = c.args.desk.now in
    let new = c.batch.new.self in
    let s = old.state in
    let task = old.task in
    let head = old.head in
    let works = c.requires.rests.works in
    let gone = c.args.gone.now in
    let later = c.note.new.gone in
    let entries = c.args.entries.now in
    let tried = c.args.tried.now in
    let joined = c.join.new.self in
    let asks = c.in_ok-asks.asks.items in
    let dues = c.as_slice-3.result.now in
    let goes = c.in_ok-batch.ensures.goes in
    let after = (rests_on old new goes.same goes.holds).works in
    let next = chosen task s _ _ gone entries asks _ _ _ c.facts-facts.ensures c.session.ensures.is c.queue-queue.ensures
    c.session-2.ensures.is c.task.ensures c.in_ok-asks.ensures in
    let of = turned next.notes _ asks _ dues c.as_slice-2.ensures.value c.as_slice-3.ensures.value c.in_ok-dues.ensures in
    let some = filled_of asks
    (ap (λ xs. length xs == 0) (sym c.as_slice.ensures.value) ∙ sym c.is_empty.ensures ∙ c.if-is_empty.false) in
    let ran = subst (RanBatch task head dues s new.state) c.in-Done.is goes.ran in
    let first = c.asks-first.result + 1 in
    let from = length c.entries-from.result.now in
    let noted = subst (λ (x : State). NotesAnswers x.known.names (drop from x.entries) first asks gone later) c.session-in-Done.ensures.is
    (subst (λ list. NotesAnswers c.session-in-Done.result.now.known.names (drop from c.session-in-Done.result.now.entries) first list gone
    later) c.as_slice-in-Done.ensures.value c.in_ok-note-in-Done.ensures.noted) in
    record {
      goes = batch_ok old new _ _ _ (RanBatch task head dues s new.state)
          (RanNextBatch head task entries s new.state gone later tried joined (g.H.Host.log c.args.host.now)
          (g.H.Host.log c.batch.new.host))
          (IsFrontOfBatch task head s.entries dues) _ c.in_ok-batch.field-0 (Some Done) goes (λ order. order)
          (λ done. record {
            ran = λ sent is. ran_next task s works.listens.working works.learnt works.listens.session gone entries asks next next.notes
                dues
                next.notes_is of head some sent is new.state later tried joined Done ran c.requires.may.within c.note.ensures.real
                (λ whole. noted_next task s works.listens.working works.learnt works.listens.session gone entries asks next next.notes dues
                next.notes_is of head some sent is new.state later tried joined Done ran new.state.known.names first from refl
                (subst (λ v. IsLegal v task new.state.entries) after.of.version after.listens.session.legal)
                after.listens.session.counted
                (names_known task new.state after.listens.working after.learnt after.listens.session new.state.known refl)
                (ap (λ n. n + 1) (c.asks-first.ensures ∙ ap (λ (x : State). length x.asked) c.session-3.ensures.is))
                (ap length (c.entries-from.ensures ∙ ap (λ (x : State). x.entries) c.session-4.ensures.is)) noted)
                (λ whole. c.in_ok-join-in-Done.ensures
                ∙ ap (λ list. tried ++ due_instances list) (c.as_slice-in-Done-2.ensures.value ∙ sym c.as_slice-3.ensures.value));
            asks = asks_next task s works.listens.working works.learnt works.listens.session gone entries asks next next.notes dues
                next.notes_is
                of head some c.requires.may.progress.0 c.requires.may.progress.1 new.state (g.H.Host.log c.args.host.now)
                (g.H.Host.log c.batch.new.host) Done ran c.requires.may.within (λ e. absurd (let bad : Done ≡ CallsSpent = e in cc));
          });
    }
