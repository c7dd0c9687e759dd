use Rattle.std.proofs.Common.{ap, ◌∙◌, slice_get}
use Rattle.fact_store.proofs.StoreLemmas.{stays}
use Rattle.fact_store.proofs.NamePlaceLemmas.{put_or_not, name_put, found_name}
use Rattle.fact_store.proofs.facts.Facts.add_name.Goals as goal
use Rattle.lemmas.proofs.Results.{on_err}
use Rattle.task_model.specs.Known.{with_name}

pub returns-in_err-place-clause-err : goal.returns-in_err-place-clause-err
returns-in_err-place-clause-err c =
    on_err c.from_residual.result _
    (stays _ c.args.self.now (c.in_err-place.ensures.err ∙ ap (λ s. s.known.names) c.self.view_is)
    (ap (λ s. s.known.facts) c.self.view_is) (ap (λ s. s.known.values) c.self.view_is))

pub invariant_of-self-inside : goal.invariant_of-self-inside
invariant_of-self-inside c =
    let old = c.self.inside.names.keys in
    let new = c.insert_full.new.self.keys in
    let cases = put_or_not c.insert_full.result old new c.args.name c.insert_full.ensures.keys c.insert_full.ensures.err in (
      name_put (record { names = old; facts = c.self.inside.facts; values = c.self.inside.values }) new c.args.name cases
          c.self.inside.coherent,
      tt,
    )

pub returns-clause-object : goal.returns-clause-object
returns-clause-object c =
    ap (slice_get c.insert_full.new.self.keys) c.new.ensures
    ∙ found_name c.insert_full.new.self.keys c.args.name c.in_ok-place.place c.in_ok-place.ensures.stored.0
    c.in_ok-place.ensures.stored.1 c.in_ok-place.ensures.stored.2

pub returns-clause-names : goal.returns-clause-names
returns-clause-names c =
    c.in_ok-place.ensures.keys ∙ ap (λ ns. with_name ns c.args.name) (ap (λ s. s.known.names) c.self.view_is)
