use Rattle.std.proofs.Common.{◌≡◌, ◌+◌, ◌++◌, ◌∷◌, [], ◌||◌, Bool, true, false, true≢false, set, take, map, length, replicate, refl, sym, ap, ◌∙◌}
use Rattle.std.proofs.lemmas.List.{take_all}
use Rattle.std.proofs.lemmas.Simd.{splat_is_map}
use Rattle.std.proofs.lemmas.List.Folds.{list_any_at}
use Rattle.std.specs.Cmp.{eq_by_cmp_equiv}
use Rattle.std.specs.FinMap as finite
use Rattle.std.specs.List.{list_any}
use Rattle.std.specs.Ordering.{eq_by_cmp}
use Rattle.std.specs.Vec.{vec_items}
use Rattle.lemmas.proofs.ListTests.{get_some}
use Rattle.lemmas.proofs.Members.{next_taken}
use Rattle.state_store.proofs.RowsLemmas.{place_is}
use Rattle.task_model.proofs.StateLemmas.{atoms_total}
use Rattle.task_model.proofs.StateOrderLemmas.{same_atom, ties}
use Rattle.task_model.specs.AtomOrder.{atom_cmp}
use Rattle.task_model.specs.declared.fact.Atom.{Atom}
use Rattle.grounder.proofs.AsksLemmas.{any_pushed, mark_none, mark_there}
use Rattle.grounder.proofs.asks.marks_of.Goals as goal
use Rattle.grounder.proofs.asks.marks_of.Goals.{in-Some, in_default}

pub loop-atom-init : goal.loop-atom-init
loop-atom-init c =
    c.in_ok-marks.ensures.items_if_clones_equal (λ y e. e) ∙ ap (λ n. replicate n false) c.len.ensures.len
    ∙ splat_is_map c.args.numbered.now.keys (length c.args.numbered.now.keys) false refl

pub loop-atom-preserved : goal.loop-atom-preserved
loop-atom-preserved c =
    let keys = c.args.numbered.now.keys in
    let atoms = c.as_slice-atom-items.result.now in
    let atom = c.atom-item.result in
    let index = c.loop-atom.atom-index in
    let next : take (index + 1) atoms ≡ take index atoms ++ atom ∷ [] =
    next_taken atoms index atom (get_some atoms index atom c.loop-atom-test.true c.atom-item.is) in
    let g : Atom → Bool = λ a. list_any (eq_by_cmp atom_cmp a) (take index atoms) in
    let h : Atom → Bool = λ a. list_any (eq_by_cmp atom_cmp a) (take (index + 1) atoms) in
    let more : (a : Atom) → h a ≡ (g a || eq_by_cmp atom_cmp a atom) =
    λ a. ap (list_any (eq_by_cmp atom_cmp a)) next ∙ any_pushed (eq_by_cmp atom_cmp a) (take index atoms) atom in
    elim c.match-get_index_of.branch [
      | in-Some w ↦
          ap vec_items w.marks-is ∙ ap (λ xs. set xs w.in-Some.place true) c.loop-atom.invariant
          ∙ sym (mark_there atom g h more keys c.requires w.in-Some.place
          (place_is keys atom w.in-Some.place (sym w.in-Some.ensures.index)))
      | in_default w ↦
          ap vec_items w.marks-is ∙ c.loop-atom.invariant
          ∙ sym (mark_none atom g h more keys (λ there. true≢false
          (sym (list_any_at (same_atom atom) keys there.0 atom there.1
          (ap (same_atom atom) there.2 ∙ ties atom atom ∙ (eq_by_cmp_equiv atoms_total).refl atom)) ∙ sym w.in_default.ensures.found)))
    ]

pub returns : goal.returns
returns c =
    let keys = c.args.numbered.now.keys in
    let state = c.args.state.now in
    let whole = take_all c.loop-atom.atom-index c.as_slice-atom-items.result.now c.loop-atom-test.false in
    c.loop-atom.invariant
    ∙ (λ i. map (λ a. list_any (eq_by_cmp atom_cmp a) (whole i)) keys)
    ∙ (λ i. map (λ a. list_any (eq_by_cmp atom_cmp a) (c.as_slice-atom-items.ensures i)) keys)
    ∙ (λ i. map (λ a. sym (finite.contains_key-keys state a) i) keys)
