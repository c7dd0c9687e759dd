use Rattle.std.proofs.Common.{◌≡◌, ◌+◌, ◌-◌, List, take, arith, ap, ◌∙◌, sym, subst, Some, slice_get, get_or, take_all}
use Rattle.std.proofs.lemmas.Option.{slice_get_within, get_or_from_slice_get}
use Rattle.fact_store.proofs.GrowthLemmas.{between_then}
use Rattle.fact_store.specs.Growth.{Grows, IsFrontOf}
use Rattle.fact_store.specs.Store.{Store}
use Rattle.lemmas.proofs.Results.{on_err}
use Rattle.task_model.specs.Known.{Known}
use Rattle.task_model.specs.Streams.{Note}
use Rattle.transcript_model.specs.Transcript.{Asked, known_of, notes_of, known_with, notes_with}
use Rattle.learning.proofs.LearningLemmas.{IsAnswerAt, answer_at, grown_on, noted_on, other_at, request_read, stands_in_all}
use Rattle.learning.proofs.LearningTupleLemmas.{lies_then}
use Rattle.learning.specs.Learning.{MayLearn}
use Rattle.learning.proofs.learn.learn_from.Goals as goal
use Rattle.learning.proofs.learn.learn_from.Goals.{in-Some+in_ok-learn_answer, in_default}
use Rattle.lemmas.proofs.ListTests.{get_some}

here : (c : goal.In-Some)
    → IsAnswerAt c.args.task.now c.args.asked.now c.args.entries.now c.requires.can c.loop-place.place c.in-Some.number
    c.index-entries-place.result
here c =
    answer_at c.args.task.now c.args.asked.now c.args.entries.now c.requires.can c.loop-place.place c.in-Some.number
    c.index-entries-place.result
    (get_some c.args.entries.now c.loop-place.place c.index-entries-place.result c.loop-place-test.true c.index-entries-place.is)
    (sym c.answered.ensures ∙ c.in-Some.is)

pub overflow_sub-instance : goal.overflow_sub-instance
overflow_sub-instance c = (here c).some

pub bounds-asked-number : goal.bounds-asked-number
bounds-asked-number c =
    slice_get_within c.args.asked.now (c.in-Some.number - 1) (here c).request.instance (here c).is

pub bounds-as_slice-instance : goal.bounds-as_slice-instance
bounds-as_slice-instance c =
    let h = answer_at c.args.task.now c.args.asked.now c.args.entries.now c.requires.can c.loop-place.place c.in-Some.number
    c.index-entries-place.result
    (get_some c.args.entries.now c.loop-place.place c.index-entries-place.result c.loop-place-test.true c.index-entries-place.is)
    (sym c.answered.ensures ∙ c.in-Some.is) in
    let i = c.index-asked-number.result in
    let instance : i ≡ h.request.instance =
    c.index-asked-number.is ∙ get_or_from_slice_get c.args.asked.now (c.in-Some.number - 1) h.request.instance i h.is in
    let there : slice_get c.as_slice.result.now i.stream ≡ Some h.request.stream =
    (λ j. slice_get (c.as_slice.ensures j) (instance j).stream) ∙ h.streamed in
    slice_get_within c.as_slice.result.now i.stream h.request.stream there

pub learn_answer-requires : goal.learn_answer-requires
learn_answer-requires c =
    let task = c.args.task.now in
    let e = c.index-entries-place.result in
    let h = answer_at task c.args.asked.now c.args.entries.now c.requires.can c.loop-place.place c.in-Some.number e
    (get_some c.args.entries.now c.loop-place.place e c.loop-place-test.true c.index-entries-place.is)
    (sym c.answered.ensures ∙ c.in-Some.is) in
    let i = c.index-asked-number.result in
    let s = c.index-as_slice-instance.result in
    let asked : record { stream = s; instance = i } ≡ h.request =
    request_read task c.args.asked.now c.args.entries.now c.requires.can c.loop-place.place c.in-Some.number e h i s
    c.index-asked-number.is (c.index-as_slice-instance.is ∙ ap (λ ss. get_or ss i.stream s) c.as_slice.ensures) in
    subst (λ (a : Asked). MayLearn task c.loop-place.facts.known c.loop-place.queue a e) (sym asked)
    (subst (λ (k : Known). MayLearn task k c.loop-place.queue h.request e) (sym c.loop-place.invariant.known)
    (subst (λ (ns : List Note). MayLearn task (known_of task (take c.loop-place.place c.args.entries.now)) ns h.request e)
    (sym c.loop-place.invariant.notes) h.may))

pub loop-place-preserved : goal.loop-place-preserved
loop-place-preserved c =
    let task = c.args.task.now in
    let asked = c.args.asked.now in
    let entries = c.args.entries.now in
    let place = c.loop-place.place in
    let e = c.index-entries-place.result in
    let at : slice_get entries place ≡ Some e = get_some entries place e c.loop-place-test.true c.index-entries-place.is in
    elim c.match-answered.branch [
      | in-Some+in_ok-learn_answer w ↦
          let h = answer_at task asked entries c.requires.can place w.in-Some.number e at (sym c.answered.ensures ∙ w.in-Some.is) in
          let i = w.index-asked-number.result in
          let s = w.index-as_slice-instance.result in
          let a : record { stream = s; instance = i } ≡ h.request =
          request_read task asked entries c.requires.can place w.in-Some.number e h i s w.index-asked-number.is
          (w.index-as_slice-instance.is ∙ ap (λ ss. get_or ss i.stream s) w.as_slice.ensures) in
          let known : c.match-answered.facts.known ≡ known_of task (take (place + 1) entries) =
          ap (λ (f : Store). f.known) w.facts-is ∙ w.in_ok-learn_answer.ensures.known
          ∙ (λ j. known_with task (c.loop-place.invariant.known j) (a j) e) ∙ sym h.known in
          let notes : c.match-answered.queue ≡ notes_of task (take (place + 1) entries) =
          w.queue-is ∙ w.in_ok-learn_answer.ensures.notes ∙ (λ j. notes_with (c.loop-place.invariant.notes j) (a j) e) ∙ sym h.notes in
          record {
            known = known;
            notes = notes;
            grown = grown_on task asked entries c.requires.can place e at c.args.facts.now.known c.loop-place.facts.known
                c.match-answered.facts.known c.loop-place.invariant.grown c.loop-place.invariant.known known;
            more = noted_on task asked entries c.requires.can place e at c.args.queue.now c.loop-place.queue c.match-answered.queue
                c.loop-place.invariant.more c.loop-place.invariant.notes notes;
          }
      | in_default w ↦
          let h = other_at task asked entries c.requires.can place e at (sym c.answered.ensures ∙ w.in_default.is) in
          let known : c.match-answered.facts.known ≡ known_of task (take (place + 1) entries) =
          ap (λ (f : Store). f.known) w.facts-is ∙ c.loop-place.invariant.known ∙ sym h.known in
          let notes : c.match-answered.queue ≡ notes_of task (take (place + 1) entries) =
          w.queue-is ∙ c.loop-place.invariant.notes ∙ sym h.notes in
          record {
            known = known;
            notes = notes;
            grown = grown_on task asked entries c.requires.can place e at c.args.facts.now.known c.loop-place.facts.known
                c.match-answered.facts.known c.loop-place.invariant.grown c.loop-place.invariant.known known;
            more = noted_on task asked entries c.requires.can place e at c.args.queue.now c.loop-place.queue c.match-answered.queue
                c.loop-place.invariant.more c.loop-place.invariant.notes notes;
          }
    ]

pub returns-clause-known : goal.returns-clause-known
returns-clause-known c =
    c.loop-place.invariant.known
    ∙ ap (known_of c.args.task.now) (take_all c.loop-place.place c.args.entries.now (omega (arith, c.loop-place-test.false)))

pub returns-clause-notes : goal.returns-clause-notes
returns-clause-notes c =
    c.loop-place.invariant.notes
    ∙ ap (notes_of c.args.task.now) (take_all c.loop-place.place c.args.entries.now (omega (arith, c.loop-place-test.false)))

-- ---- where memory is wanting

pub returns-in_err-learn_answer-clause-part : goal.returns-in_err-learn_answer-clause-part
returns-in_err-learn_answer-clause-part c =
    let task = c.args.task.now in
    let asked = c.args.asked.now in
    let entries = c.args.entries.now in
    let place = c.loop-place.place in
    let e = c.index-entries-place.result in
    let at : slice_get entries place ≡ Some e = get_some entries place e c.loop-place-test.true c.index-entries-place.is in
    let h = answer_at task asked entries c.requires.can place c.in-Some.number e at (sym c.answered.ensures ∙ c.in-Some.is) in
    let i = c.index-asked-number.result in
    let s = c.index-as_slice-instance.result in
    let one : Asked = record { stream = s; instance = i } in
    let a : one ≡ h.request =
    request_read task asked entries c.requires.can place c.in-Some.number e h i s c.index-asked-number.is
    (c.index-as_slice-instance.is ∙ ap (λ ss. get_or ss i.stream s) c.as_slice.ensures) in
    let now = c.loop-place.facts.known in
    let next = known_with task now one e in
    let is : next ≡ known_of task (take (place + 1) entries) =
    (λ j. known_with task (c.loop-place.invariant.known j) (a j) e) ∙ sym h.known in
    let later : Grows next (known_of task entries) =
    subst (λ (k : Known). Grows k (known_of task entries)) (sym is)
    (stands_in_all task asked entries c.requires.can (place + 1) (omega (arith, c.loop-place-test.true))).known in
    on_err c.from_residual.result _
    (lies_then c.args.facts.now.known now c.learn_answer.new.facts.known next (known_of task entries) c.loop-place.invariant.grown
    c.in_err-learn_answer.ensures.part later)

pub returns-in_err-learn_answer-clause-noted : goal.returns-in_err-learn_answer-clause-noted
returns-in_err-learn_answer-clause-noted c =
    let task = c.args.task.now in
    let asked = c.args.asked.now in
    let entries = c.args.entries.now in
    let place = c.loop-place.place in
    let e = c.index-entries-place.result in
    let at : slice_get entries place ≡ Some e = get_some entries place e c.loop-place-test.true c.index-entries-place.is in
    let h = answer_at task asked entries c.requires.can place c.in-Some.number e at (sym c.answered.ensures ∙ c.in-Some.is) in
    let i = c.index-asked-number.result in
    let s = c.index-as_slice-instance.result in
    let one : Asked = record { stream = s; instance = i } in
    let a : one ≡ h.request =
    request_read task asked entries c.requires.can place c.in-Some.number e h i s c.index-asked-number.is
    (c.index-as_slice-instance.is ∙ ap (λ ss. get_or ss i.stream s) c.as_slice.ensures) in
    let now = c.loop-place.queue in
    let next = notes_with now one e in
    let is : next ≡ notes_of task (take (place + 1) entries) =
    (λ j. notes_with (c.loop-place.invariant.notes j) (a j) e) ∙ sym h.notes in
    let later : IsFrontOf next (notes_of task entries) =
    subst (λ (ns : List Note). IsFrontOf ns (notes_of task entries)) (sym is)
    (stands_in_all task asked entries c.requires.can (place + 1) (omega (arith, c.loop-place-test.true))).notes in
    on_err c.from_residual.result _
    (between_then c.args.queue.now now c.learn_answer.new.queue next (notes_of task entries) c.loop-place.invariant.more
    c.in_err-learn_answer.ensures.noted later)
