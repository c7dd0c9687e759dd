use Rattle.std.proofs.Common.{◌≡◌, ◌+◌, ◌++◌, ◌∷◌, [], ◌∙◌, length, sym, ap, refl, arith}
use Rattle.std.proofs.lemmas.Option.{same_Some}
use Rattle.learning.proofs.FitStreamLemmas.{fit_parts}
use Rattle.lemmas.proofs.Numbers.{length-numbers_from}
use Rattle.lemmas.specs.Lists.{numbers_from}
use Rattle.task_model.specs.Dreams.{placeholders}
use Rattle.task_model.specs.Known.{with_facts, with_values}
use Rattle.task_model.specs.Streams.{certified_by, worth_by}
use Rattle.task_model.specs.declared.stream.Stream.{Stream}
use Rattle.transcript_model.proofs.NamedObjectLemmas.{fit_stream_at}
use Rattle.optimistic_set.proofs.DraftLemmas.{few_draft_names, draft_pushed, entry_pushed}
use Rattle.optimistic_set.specs.Drafts.{IsPlainInstance}
use Rattle.optimistic_set.specs.declared.draft.Draft.{Draft}
use Rattle.optimistic_set.proofs.draft.Draft.add_entry.Goals as goal

pub overflow_cast-first : goal.overflow_cast-first
overflow_cast-first c =
    let few = few_draft_names c.args.task.now c.args.self.now.facts.now.known c.requires.base c.args.self.now c.requires.draft in
    omega (arith, few, c.len.ensures, c.args.self.now.names.ok.0)

pub overflow_add-first : goal.overflow_add-first
overflow_add-first c =
    let few = few_draft_names c.args.task.now c.args.self.now.facts.now.known c.requires.base c.args.self.now c.requires.draft in
    omega (arith, few, c.len.ensures, c.args.self.now.names.ok.0, c.name_count.ensures.few)

pub fresh_objects-requires : goal.fresh_objects-requires
fresh_objects-requires c =
    let task = c.args.task.now in
    let few = few_draft_names task c.args.self.now.facts.now.known c.requires.base c.args.self.now c.requires.draft in
    let parts = fit_parts task.domain c.in-Some.stream.now
    (fit_stream_at task c.args.instance.now.stream c.in-Some.stream.now c.requires.base.fit (sym c.in-Some.ensures)) in
    omega (arith, few, c.len.ensures, c.args.self.now.names.ok.0, c.name_count.ensures.few, parts.outputs, c.len-2.ensures)

pub add_certified-requires-clause-stream : goal.add_certified-requires-clause-stream
add_certified-requires-clause-stream c =
    fit_stream_at c.args.task.now c.args.instance.now.stream c.in-Some.stream.now c.requires.base.fit (sym c.in-Some.ensures)

pub add_certified-requires-clause-outputs : goal.add_certified-requires-clause-outputs
add_certified-requires-clause-outputs c =
    ap length (c.as_slice-2.ensures ∙ c.in_ok-outputs.ensures) ∙ length-numbers_from (c.name_count.result + c.len.result) c.len-2.result
    ∙ c.len-2.ensures

pub add_placeholders-requires : goal.add_placeholders-requires
add_placeholders-requires c =
    let task = c.args.task.now in
    let parts = fit_parts task.domain c.in-Some.stream.now
    (fit_stream_at task c.args.instance.now.stream c.in-Some.stream.now c.requires.base.fit (sym c.in-Some.ensures)) in
    omega (arith, parts.outputs, c.len-4.ensures)

pub returns-clause-draft : goal.returns-clause-draft
returns-clause-draft c =
    let task = c.args.task.now in
    let known = c.args.self.now.facts.now.known in
    let base = c.requires.base in
    let d = c.requires.draft in
    let p = c.requires.instance in
    let s = c.in-Some.stream.now in
    let same : s ≡ p.stream = same_Some s p.stream (c.in-Some.ensures ∙ p.named) in
    let q : IsPlainInstance task (known.names ++ c.args.self.now.names.items) c.args.instance.now =
    record
    { stream = s; named = sym c.in-Some.ensures; inputs = p.inputs ∙ ap (λ (t : Stream). length t.inputs) (sym same); given = p.given }
    in
    let long : c.len.result ≡ length c.args.self.now.names.items = omega (arith, c.len.ensures, c.args.self.now.names.ok.0) in
    let number : c.len-3.result ≡ length c.args.self.now.entries.items = omega (arith, c.len-3.ensures, c.args.self.now.entries.ok.0) in
    let outputs = c.in_ok-outputs.outputs in
    let fresh : outputs ≡ numbers_from (length known.names + length c.args.self.now.names.items) (length s.outputs) =
    c.in_ok-outputs.ensures ∙ (λ k. numbers_from (c.name_count.ensures.count k + long k) (c.len-2.ensures k)) in
    let names =
    c.in_ok-add_placeholders.ensures ∙ (λ k. c.args.self.now.names.items ++ placeholders (number k + 1) 1 (c.len-4.ensures k)) in
    let facts = c.in_ok-add_certified.ensures.facts
    ∙ (λ k. with_facts (known.facts ++ c.args.self.now.more.facts)
    (certified_by task.domain s (c.as_slice.ensures k) (c.as_slice-2.ensures k))) in
    let values = c.in_ok-add_certified.ensures.values
    ∙ (λ k. with_values (known.values ++ c.args.self.now.more.values) (worth_by s (c.as_slice.ensures k) 0)) in
    let entries = c.in_ok-push.ensures.items
    ∙ ap (λ e. c.args.self.now.entries.items ++ e ∷ [])
    (c.new.ensures ∙ (λ k. record { instance = c.in_ok-copy.ensures k; outputs = outputs })) in
    let new : Draft = record {
      facts = c.args.self.now.facts;
      names = c.add_placeholders.new.names;
      more = c.add_certified.new.more;
      entries = c.push.new.self;
      asked = c.add.new.self;
    } in
    draft_pushed task known base c.args.self.now new c.args.instance.now outputs d q c.requires.room refl fresh names facts values entries
    c.in_ok-add.ensures.ok

pub returns-clause-pushed : goal.returns-clause-pushed
returns-clause-pushed c =
    let task = c.args.task.now in
    let known = c.args.self.now.facts.now.known in
    let base = c.requires.base in
    let d = c.requires.draft in
    let p = c.requires.instance in
    let s = c.in-Some.stream.now in
    let same : s ≡ p.stream = same_Some s p.stream (c.in-Some.ensures ∙ p.named) in
    let q : IsPlainInstance task (known.names ++ c.args.self.now.names.items) c.args.instance.now =
    record
    { stream = s; named = sym c.in-Some.ensures; inputs = p.inputs ∙ ap (λ (t : Stream). length t.inputs) (sym same); given = p.given }
    in
    let long : c.len.result ≡ length c.args.self.now.names.items = omega (arith, c.len.ensures, c.args.self.now.names.ok.0) in
    let number : c.len-3.result ≡ length c.args.self.now.entries.items = omega (arith, c.len-3.ensures, c.args.self.now.entries.ok.0) in
    let outputs = c.in_ok-outputs.outputs in
    let fresh : outputs ≡ numbers_from (length known.names + length c.args.self.now.names.items) (length s.outputs) =
    c.in_ok-outputs.ensures ∙ (λ k. numbers_from (c.name_count.ensures.count k + long k) (c.len-2.ensures k)) in
    let names =
    c.in_ok-add_placeholders.ensures ∙ (λ k. c.args.self.now.names.items ++ placeholders (number k + 1) 1 (c.len-4.ensures k)) in
    let facts = c.in_ok-add_certified.ensures.facts
    ∙ (λ k. with_facts (known.facts ++ c.args.self.now.more.facts)
    (certified_by task.domain s (c.as_slice.ensures k) (c.as_slice-2.ensures k))) in
    let values = c.in_ok-add_certified.ensures.values
    ∙ (λ k. with_values (known.values ++ c.args.self.now.more.values) (worth_by s (c.as_slice.ensures k) 0)) in
    let entries = c.in_ok-push.ensures.items
    ∙ ap (λ e. c.args.self.now.entries.items ++ e ∷ [])
    (c.new.ensures ∙ (λ k. record { instance = c.in_ok-copy.ensures k; outputs = outputs })) in
    let new : Draft = record {
      facts = c.args.self.now.facts;
      names = c.add_placeholders.new.names;
      more = c.add_certified.new.more;
      entries = c.push.new.self;
      asked = c.add.new.self;
    } in
    entry_pushed task known base c.args.self.now new c.args.instance.now outputs d q c.requires.room refl fresh names facts values entries
    c.in_ok-add.ensures.ok
