use Rattle.std.proofs.Common.{map, ap, sym, ◌∙◌, subst}
use Rattle.lemmas.proofs.Results.{on_err}
use Rattle.lemmas.specs.Lists.{AreDistinct}
use Rattle.state_store.specs.Rows.{states_of, AreRows}
use Rattle.state_store.proofs.RowsLemmas.{row_of}
use Rattle.state_store.proofs.KeptLemmas.{IsPutIn, grown_rows, grown_view, put_rows, put_place, put_fresh, put_states}
use Rattle.state_store.proofs.store.StateStore.intern.Goals as goal

pub invariant_of-self : goal.invariant_of-self
invariant_of-self c =
    grown_rows (λ v. v.items) c.self.inside.atoms.keys c.numbers_of.new.numbered.keys c.self.inside.rows.keys c.args.self.now
    c.self.view_is c.self.invariant c.numbers_of.ensures.grows c.numbers_of.ensures.distinct

pub returns-in_err-row-clause-distinct : goal.returns-in_err-row-clause-distinct
returns-in_err-row-clause-distinct c =
    (grown_rows (λ v. v.items) c.self.inside.atoms.keys c.numbers_of.new.numbered.keys c.self.inside.rows.keys c.args.self.now
    c.self.view_is c.self.invariant c.numbers_of.ensures.grows c.numbers_of.ensures.distinct).kept.distinct

pub returns-in_err-row-clause-err : goal.returns-in_err-row-clause-err
returns-in_err-row-clause-err c =
    on_err c.from_residual.result _
    (grown_view (λ v. v.items) c.self.inside.atoms.keys c.numbers_of.new.numbered.keys c.self.inside.rows.keys c.args.self.now
    c.self.view_is c.self.invariant c.numbers_of.ensures.grows c.numbers_of.ensures.distinct)

pub invariant_of-self-in_err-place : goal.invariant_of-self-in_err-place
invariant_of-self-in_err-place c =
    subst (λ ks. AreRows c.numbers_of.new.numbered.keys (map (λ v. v.items) ks)) (sym c.in_err-place.ensures.err)
    (grown_rows (λ v. v.items) c.self.inside.atoms.keys c.numbers_of.new.numbered.keys c.self.inside.rows.keys c.args.self.now
    c.self.view_is c.self.invariant c.numbers_of.ensures.grows c.numbers_of.ensures.distinct)

pub returns-in_err-place-clause-distinct : goal.returns-in_err-place-clause-distinct
returns-in_err-place-clause-distinct c =
    subst (λ ks. AreDistinct (states_of c.numbers_of.new.numbered.keys (map (λ v. v.items) ks))) (sym c.in_err-place.ensures.err)
    (grown_rows (λ v. v.items) c.self.inside.atoms.keys c.numbers_of.new.numbered.keys c.self.inside.rows.keys c.args.self.now
    c.self.view_is c.self.invariant c.numbers_of.ensures.grows c.numbers_of.ensures.distinct).kept.distinct

pub returns-in_err-place-clause-err : goal.returns-in_err-place-clause-err
returns-in_err-place-clause-err c =
    on_err c.from_residual-in_err-place.result _
    (ap (λ ks. states_of c.numbers_of.new.numbered.keys (map (λ v. v.items) ks)) c.in_err-place.ensures.err
    ∙ grown_view (λ v. v.items) c.self.inside.atoms.keys c.numbers_of.new.numbered.keys c.self.inside.rows.keys c.args.self.now
    c.self.view_is c.self.invariant c.numbers_of.ensures.grows c.numbers_of.ensures.distinct)

put : (c : goal.After-drop-state-inside-2)
    → IsPutIn (λ v. v.items) c.self.inside.atoms.keys c.numbers_of.new.numbered.keys c.self.inside.rows.keys c.insert_full.new.self.keys
    c.in_ok-row.row c.in_ok-place.place c.in_ok-place.fresh c.args.self.now c.args.state
put c =
    let row = c.in_ok-row.row.items in
    let of = row_of c.numbers_of.new.numbered.keys row c.args.state c.in_ok-row.ensures.known
    (c.in_ok-row.ensures.row ∙ c.as_slice.ensures) in record {
      view = c.self.view_is;
      are = c.self.invariant;
      grows = c.numbers_of.ensures.grows;
      distinct = c.numbers_of.ensures.distinct;
      is = of.1;
      of = of.0;
      few = c.requires;
      keys = c.in_ok-place.ensures.keys;
      added = c.in_ok-place.ensures.added;
      stored = c.in_ok-place.ensures.stored;
    }

pub invariant_of-self-2 : goal.invariant_of-self-2
invariant_of-self-2 c =
    put_rows (λ v. v.items) c.self.inside.atoms.keys c.numbers_of.new.numbered.keys c.self.inside.rows.keys c.insert_full.new.self.keys
    c.in_ok-row.row c.in_ok-place.place c.in_ok-place.fresh c.args.self.now c.args.state (put c)

pub returns-clause-place : goal.returns-clause-place
returns-clause-place c =
    put_place (λ v. v.items) c.self.inside.atoms.keys c.numbers_of.new.numbered.keys c.self.inside.rows.keys c.insert_full.new.self.keys
    c.in_ok-row.row c.in_ok-place.place c.in_ok-place.fresh c.args.self.now c.args.state (put c)

pub returns-clause-fresh : goal.returns-clause-fresh
returns-clause-fresh c =
    put_fresh (λ v. v.items) c.self.inside.atoms.keys c.numbers_of.new.numbered.keys c.self.inside.rows.keys c.insert_full.new.self.keys
    c.in_ok-row.row c.in_ok-place.place c.in_ok-place.fresh c.args.self.now c.args.state (put c)

pub returns-clause-states : goal.returns-clause-states
returns-clause-states c =
    put_states (λ v. v.items) c.self.inside.atoms.keys c.numbers_of.new.numbered.keys c.self.inside.rows.keys c.insert_full.new.self.keys
    c.in_ok-row.row c.in_ok-place.place c.in_ok-place.fresh c.args.self.now c.args.state (put c)

pub returns-clause-distinct : goal.returns-clause-distinct
returns-clause-distinct c =
    (put_rows (λ v. v.items) c.self.inside.atoms.keys c.numbers_of.new.numbered.keys c.self.inside.rows.keys c.insert_full.new.self.keys
    c.in_ok-row.row c.in_ok-place.place c.in_ok-place.fresh c.args.self.now c.args.state (put c)).kept.distinct
