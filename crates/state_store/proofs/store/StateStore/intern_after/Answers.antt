use Rattle.std.proofs.Common.{map, get_or, ap, sym, ◌∙◌, subst}
use Rattle.lemmas.proofs.Results.{on_err}
use Rattle.lemmas.specs.Lists.{AreDistinct}
use Rattle.state_store.specs.Changed.{state_after}
use Rattle.state_store.specs.Rows.{states_of, AreRows, IsRow}
use Rattle.state_store.proofs.KeptLemmas.{IsPutIn, grown_rows, grown_view, put_rows, put_place, put_fresh, put_states, is_row, is_state, after_is}
use Rattle.state_store.proofs.store.StateStore.intern_after.Goals as goal
use Rattle.state_store.proofs.store.StateStore.intern_after.Goals.{In_ok-place}

pub take_out-requires : goal.take_out-requires
take_out-requires c =
    let atoms = c.self.inside.atoms.keys in
    let keys = c.self.inside.rows.keys in
    let key = c.index-as_slice-from.result in
    let at = c.index-as_slice-from.is ∙ ap (λ ks. get_or ks c.args.from key) c.as_slice.ensures.keys in
    let is : IsRow atoms key.items =
    is_row (λ v. v.items) atoms keys key c.args.from c.args.self.now c.self.view_is c.requires.there at c.self.invariant in
    subst (λ a. IsRow a c.in_ok-row.row.items) (sym c.as_slice-2.ensures.keys)
    (subst (IsRow atoms) (sym (c.in_ok-row.ensures.items ∙ c.as_slice-old.ensures.value)) is)

pub invariant_of-self : goal.invariant_of-self
invariant_of-self c =
    grown_rows (λ v. v.items) c.self.inside.atoms.keys c.put_in.new.numbered.keys c.self.inside.rows.keys c.args.self.now
    c.self.view_is c.self.invariant c.put_in.ensures.grows c.put_in.ensures.distinct

pub returns-in_err-put_in-clause-distinct : goal.returns-in_err-put_in-clause-distinct
returns-in_err-put_in-clause-distinct c =
    (grown_rows (λ v. v.items) c.self.inside.atoms.keys c.put_in.new.numbered.keys c.self.inside.rows.keys c.args.self.now
    c.self.view_is c.self.invariant c.put_in.ensures.grows c.put_in.ensures.distinct).kept.distinct

pub returns-in_err-put_in-clause-err : goal.returns-in_err-put_in-clause-err
returns-in_err-put_in-clause-err c =
    on_err c.from_residual-in_err-put_in.result _
    (grown_view (λ v. v.items) c.self.inside.atoms.keys c.put_in.new.numbered.keys c.self.inside.rows.keys c.args.self.now
    c.self.view_is c.self.invariant c.put_in.ensures.grows c.put_in.ensures.distinct)

pub invariant_of-self-in_err-place : goal.invariant_of-self-in_err-place
invariant_of-self-in_err-place c =
    subst (λ ks. AreRows c.put_in.new.numbered.keys (map (λ v. v.items) ks)) (sym c.in_err-place.ensures.err)
    (grown_rows (λ v. v.items) c.self.inside.atoms.keys c.put_in.new.numbered.keys c.self.inside.rows.keys c.args.self.now
    c.self.view_is c.self.invariant c.put_in.ensures.grows c.put_in.ensures.distinct)

pub returns-in_err-place-clause-distinct : goal.returns-in_err-place-clause-distinct
returns-in_err-place-clause-distinct c =
    subst (λ ks. AreDistinct (states_of c.put_in.new.numbered.keys (map (λ v. v.items) ks))) (sym c.in_err-place.ensures.err)
    (grown_rows (λ v. v.items) c.self.inside.atoms.keys c.put_in.new.numbered.keys c.self.inside.rows.keys c.args.self.now
    c.self.view_is c.self.invariant c.put_in.ensures.grows c.put_in.ensures.distinct).kept.distinct

pub returns-in_err-place-clause-err : goal.returns-in_err-place-clause-err
returns-in_err-place-clause-err c =
    on_err c.from_residual-in_err-place.result _
    (ap (λ ks. states_of c.put_in.new.numbered.keys (map (λ v. v.items) ks)) c.in_err-place.ensures.err
    ∙ grown_view (λ v. v.items) c.self.inside.atoms.keys c.put_in.new.numbered.keys c.self.inside.rows.keys c.args.self.now
    c.self.view_is c.self.invariant c.put_in.ensures.grows c.put_in.ensures.distinct)

put : (c : In_ok-place)
    → IsPutIn (λ v. v.items) c.self.inside.atoms.keys c.put_in.new.numbered.keys c.self.inside.rows.keys
    c.insert_full.new.self.keys c.put_in.new.row c.in_ok-place.place c.in_ok-place.is_new c.args.self.now
    (state_after c.args.self.now c.args.from c.args.gone.now c.args.come.now)
put c =
    let atoms = c.self.inside.atoms.keys in
    let keys = c.self.inside.rows.keys in
    let key = c.index-as_slice-from.result in
    let at = c.index-as_slice-from.is ∙ ap (λ ks. get_or ks c.args.from key) c.as_slice.ensures.keys in
    let here = is_state (λ v. v.items) atoms keys key c.args.from c.args.self.now c.self.view_is c.requires.there at in record {
      view = c.self.view_is;
      are = c.self.invariant;
      grows = c.put_in.ensures.grows;
      distinct = c.put_in.ensures.distinct;
      is = c.in_ok-put_in.ensures.row;
      of =
          after_is atoms c.as_slice-2.result.now key.items c.in_ok-row.row.items c.take_out.new.row.items c.args.self.now c.args.from
          c.args.gone.now c.args.come.now _ c.as_slice-2.ensures.keys (c.in_ok-row.ensures.items ∙ c.as_slice-old.ensures.value) here
          c.take_out.ensures.state c.in_ok-put_in.ensures.state;
      few = c.requires.few;
      keys = c.in_ok-place.ensures.keys;
      added = c.in_ok-place.ensures.added;
      stored = c.in_ok-place.ensures.stored;
    }

pub invariant_of-self-2 : goal.invariant_of-self-2
invariant_of-self-2 c =
    put_rows (λ v. v.items) c.self.inside.atoms.keys c.put_in.new.numbered.keys c.self.inside.rows.keys
    c.insert_full.new.self.keys c.put_in.new.row c.in_ok-place.place c.in_ok-place.is_new c.args.self.now
    (state_after c.args.self.now c.args.from c.args.gone.now c.args.come.now) (put c)

pub returns-clause-place : goal.returns-clause-place
returns-clause-place c =
    put_place (λ v. v.items) c.self.inside.atoms.keys c.put_in.new.numbered.keys c.self.inside.rows.keys
    c.insert_full.new.self.keys c.put_in.new.row c.in_ok-place.place c.in_ok-place.is_new c.args.self.now
    (state_after c.args.self.now c.args.from c.args.gone.now c.args.come.now) (put c)

pub returns-clause-fresh : goal.returns-clause-fresh
returns-clause-fresh c =
    put_fresh (λ v. v.items) c.self.inside.atoms.keys c.put_in.new.numbered.keys c.self.inside.rows.keys
    c.insert_full.new.self.keys c.put_in.new.row c.in_ok-place.place c.in_ok-place.is_new c.args.self.now
    (state_after c.args.self.now c.args.from c.args.gone.now c.args.come.now) (put c)

pub returns-clause-states : goal.returns-clause-states
returns-clause-states c =
    put_states (λ v. v.items) c.self.inside.atoms.keys c.put_in.new.numbered.keys c.self.inside.rows.keys
    c.insert_full.new.self.keys c.put_in.new.row c.in_ok-place.place c.in_ok-place.is_new c.args.self.now
    (state_after c.args.self.now c.args.from c.args.gone.now c.args.come.now) (put c)

pub returns-clause-distinct : goal.returns-clause-distinct
returns-clause-distinct c =
    (put_rows (λ v. v.items) c.self.inside.atoms.keys c.put_in.new.numbered.keys c.self.inside.rows.keys
    c.insert_full.new.self.keys c.put_in.new.row c.in_ok-place.place c.in_ok-place.is_new c.args.self.now
    (state_after c.args.self.now c.args.from c.args.gone.now c.args.come.now) (put c)).kept.distinct
