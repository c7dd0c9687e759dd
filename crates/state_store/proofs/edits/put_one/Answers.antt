use Rattle.std.proofs.Common.{◌≡◌, ◌≤◌, ◌<◌, length, subst, sym}
use Rattle.std.specs.List.{insert as insert_at}
use Rattle.task_model.specs.State.{insert}
use Rattle.state_store.specs.Rows.{IsRow, state_of}
use Rattle.state_store.proofs.EditsLemmas.{parts_at, place_at, put_found, put_missing}
use Rattle.state_store.proofs.edits.put_one.Goals as goal
use Rattle.state_store.proofs.edits.put_one.Goals.{In_ok-insert}

put : (c : In_ok-insert)
    → IsRow c.number_of.new.numbered.keys (insert_at c.args.row.now.items c.in-Err.place c.in_ok-number.number)
    × (state_of c.number_of.new.numbered.keys (insert_at c.args.row.now.items c.in-Err.place c.in_ok-number.number)
    ≡ insert (state_of c.args.numbered.now.keys c.args.row.now.items) c.args.atom.now)
put c =
    let atoms = c.args.numbered.now.keys in
    let row = c.args.row.now.items in
    let within : c.in-Err.place ≤ length row =
    subst (λ xs. c.in-Err.place ≤ length xs) c.as_slice-2.ensures.value c.in-Err.ensures.bound in
    let parts =
    parts_at atoms c.as_slice.result.now row c.as_slice-2.result.now c.args.atom.now c.in-Err.place c.as_slice.ensures.keys
    c.as_slice-2.ensures.value c.requires.row c.in-Err.ensures.position in
    put_missing atoms row c.requires.row c.args.atom.now c.in-Err.place c.number_of.new.numbered.keys c.in_ok-number.number
    c.number_of.ensures.grows c.in_ok-number.ensures.number within parts

pub returns-in_ok-insert-clause-row : goal.returns-in_ok-insert-clause-row
returns-in_ok-insert-clause-row c =
    subst (IsRow c.number_of.new.numbered.keys) (sym c.in_ok-insert.ensures.items) (put c).0

pub returns-in_ok-insert-clause-state : goal.returns-in_ok-insert-clause-state
returns-in_ok-insert-clause-state c =
    subst (λ xs. state_of c.number_of.new.numbered.keys xs
    ≡ insert (state_of c.args.numbered.now.keys c.args.row.now.items) c.args.atom.now)
    (sym c.in_ok-insert.ensures.items) (put c).1

pub returns-in_default-clause-state : goal.returns-in_default-clause-state
returns-in_default-clause-state c =
    let atoms = c.args.numbered.now.keys in
    let row = c.args.row.now.items in
    let place = c.in_default.field-0 in
    let within : place < length row = subst (λ xs. place < length xs) c.as_slice-2.ensures.value c.in_default.ensures.bound in
    put_found atoms row c.requires.row c.args.atom.now place within
    (place_at atoms c.as_slice.result.now row c.as_slice-2.result.now c.args.atom.now place c.as_slice.ensures.keys
    c.as_slice-2.ensures.value c.in_default.ensures.position)
