use Rattle.std.proofs.Common.{ap, sym, ◌∙◌, slice_get}
use Rattle.std.specs.List.{list_any}
use Rattle.lemmas.proofs.ListTests.{find_passes}
use Rattle.task_model.specs.Known.{same_numbers}
use Rattle.fact_store.proofs.NamePlaceLemmas.{found_name, absent_name}
use Rattle.fact_store.proofs.facts.Facts.place_of.Goals as goal

pub returns-in_err-place-clause-none : goal.returns-in_err-place-clause-none
returns-in_err-place-clause-none c =
    rw c.from_residual.ensures (absent_name c.args.self.now.known.names c.args.name.now
    (ap (list_any (same_numbers c.args.name.now)) (sym (ap (λ s. s.known.names) c.self.view_is)) ∙ sym c.in_err-place.ensures.found))

pub returns-clause-found : goal.returns-clause-found
returns-clause-found c =
    let keys = c.self.inside.names.keys in
    let name = c.args.name.now in
    ap (slice_get c.args.self.now.known.names) c.new.ensures
    ∙ ap (λ ns. slice_get ns c.in_ok-place.place) (sym (ap (λ s. s.known.names) c.self.view_is))
    ∙ found_name keys name c.in_ok-place.place _ c.in_ok-place.ensures.stored
    (find_passes (same_numbers name) keys _ (sym c.in_ok-place.ensures.key))
