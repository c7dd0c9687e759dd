use Rattle.std.proofs.Common.{◌≡◌, ◌<◌, length, refl, subst, sym}
use Rattle.std.specs.List.{remove as remove_at}
use Rattle.task_model.specs.State.{remove}
use Rattle.state_store.specs.Rows.{IsRow, state_of}
use Rattle.state_store.proofs.EditsLemmas.{parts_at, place_at, take_found, take_missing}
use Rattle.state_store.proofs.edits.take_one.Goals as goal

taken : (c : goal.After-remove)
    → IsRow c.args.numbered.now (remove_at c.args.row.now.items c.in-Ok.place)
    × (state_of c.args.numbered.now (remove_at c.args.row.now.items c.in-Ok.place)
    ≡ remove (state_of c.args.numbered.now c.args.row.now.items) c.args.atom.now)
taken c =
    let atoms = c.args.numbered.now in
    let row = c.args.row.now.items in
    let within : c.in-Ok.place < length row =
    subst (λ xs. c.in-Ok.place < length xs) c.as_slice.ensures.value c.in-Ok.ensures.bound in
    take_found atoms row c.requires c.args.atom.now c.in-Ok.place within
    (place_at atoms atoms row c.as_slice.result.now c.args.atom.now c.in-Ok.place refl c.as_slice.ensures.value c.in-Ok.ensures.position)

pub returns-in-Ok-clause-row : goal.returns-in-Ok-clause-row
returns-in-Ok-clause-row c = subst (IsRow c.args.numbered.now) (sym c.remove.ensures.items) (taken c).0

pub returns-in-Ok-clause-state : goal.returns-in-Ok-clause-state
returns-in-Ok-clause-state c =
    subst (λ xs. state_of c.args.numbered.now xs ≡ remove (state_of c.args.numbered.now c.args.row.now.items) c.args.atom.now)
    (sym c.remove.ensures.items) (taken c).1

pub returns-in_default-clause-state : goal.returns-in_default-clause-state
returns-in_default-clause-state c =
    let atoms = c.args.numbered.now in
    let row = c.args.row.now.items in
    let place = c.in_default.field-0 in
    take_missing atoms row c.requires c.args.atom.now place
    (parts_at atoms atoms row c.as_slice.result.now c.args.atom.now place refl c.as_slice.ensures.value c.requires
    c.in_default.ensures.position)
