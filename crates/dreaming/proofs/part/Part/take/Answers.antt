use Rattle.std.proofs.Common.{◌≡◌, ◌∙◌, ◌++◌, ◌∷◌, [], length, slice_get, sym, ap}
use Rattle.std.proofs.lemmas.Option.{same_Some, none-some}
use Rattle.std.specs.Option.{option_copied}
use Rattle.task_model.specs.Known.{with_facts, with_values}
use Rattle.task_model.specs.Streams.{certified_by, worth_by}
use Rattle.task_model.specs.declared.stream.Instance.{Instance}
use Rattle.task_model.specs.declared.stream.Stream.{Stream}
use Rattle.transcript_model.proofs.NamedObjectLemmas.{fit_stream_at}
use Rattle.dreaming.proofs.PartLemmas.{one_taken}
use Rattle.dreaming.specs.Parts.{Portion}
use Rattle.dreaming.proofs.part.Part.take.Goals as goal

pub unreachable-requires : goal.unreachable-requires
unreachable-requires c =
    let p = c.requires.part.plain.each c.args.place c.entry-entry.result.now c.entry-entry.ensures in
    none-some p.stream
    (sym (ap option_copied c.in_default.is) ∙ c.stream_of.ensures
    ∙ ap (λ (i : Instance). slice_get c.args.task.now.streams i.stream) c.instance-instance.ensures ∙ p.named)

pub add_certified-requires-clause-stream : goal.add_certified-requires-clause-stream
add_certified-requires-clause-stream c =
    fit_stream_at c.args.task.now c.instance-instance.result.now.stream c.in-Some.stream.now c.requires.part.plain.base.fit
    (sym c.in-Some.ensures)

pub add_certified-requires-clause-inputs : goal.add_certified-requires-clause-inputs
add_certified-requires-clause-inputs c =
    let p = c.requires.part.plain.each c.args.place c.entry-entry.result.now c.entry-entry.ensures in
    let same : p.stream ≡ c.in-Some.stream.now =
    same_Some p.stream c.in-Some.stream.now
    (sym p.named ∙ ap (λ (i : Instance). slice_get c.args.task.now.streams i.stream) (sym c.instance-instance.ensures)
    ∙ sym c.in-Some.ensures) in
    ap length c.as_slice-inputs.ensures ∙ ap (λ (i : Instance). length i.inputs) c.instance-instance.ensures ∙ p.inputs
    ∙ ap (λ (s : Stream). length s.inputs) same

pub add_certified-requires-clause-outputs : goal.add_certified-requires-clause-outputs
add_certified-requires-clause-outputs c =
    let p = c.requires.part.plain.each c.args.place c.entry-entry.result.now c.entry-entry.ensures in
    let same : p.stream ≡ c.in-Some.stream.now =
    same_Some p.stream c.in-Some.stream.now
    (sym p.named ∙ ap (λ (i : Instance). slice_get c.args.task.now.streams i.stream) (sym c.instance-instance.ensures)
    ∙ sym c.in-Some.ensures) in
    ap length c.outputs-outputs.ensures ∙ p.outputs ∙ ap (λ (s : Stream). length s.outputs) same

pub returns-clause-part : goal.returns-clause-part
returns-clause-part c =
    let stream = c.in-Some.stream.now in
    let inputs = c.as_slice-inputs.ensures ∙ ap (λ (i : Instance). i.inputs) c.instance-instance.ensures in
    let outputs = c.outputs-outputs.ensures in
    let view = c.self.view_is in
    one_taken c.args.task.now c.args.self.now _ c.args.place c.entry-entry.result.now stream c.requires.part c.entry-entry.ensures
    (ap (λ (i : Instance). slice_get c.args.task.now.streams i.stream) (sym c.instance-instance.ensures) ∙ sym c.in-Some.ensures)
    (ap (λ (p : Portion). p.base) view) (ap (λ (p : Portion). p.list) view)
    (c.in_ok-push.ensures.items ∙ ap (λ (p : Portion). p.places ++ c.args.place ∷ []) view)
    (ap (λ (p : Portion). p.known.names) view)
    (c.in_ok-add_certified.ensures.facts
    ∙ (λ k. with_facts (view k).known.facts (certified_by c.args.task.now.domain stream (inputs k) (outputs k))))
    (c.in_ok-add_certified.ensures.values ∙ (λ k. with_values (view k).known.values (worth_by stream (inputs k) 0)))
