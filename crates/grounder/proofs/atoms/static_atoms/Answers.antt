use Rattle.std.proofs.Common.{◌≡◌, ◌+◌, sym, ap, subst, ◌∙◌, take, ◌++◌, ◌∷◌, [], add-one}
use Rattle.std.proofs.lemmas.List.{take_all}
use Rattle.std.specs.List.{list_all}
use Rattle.std.specs.Vec.{vec_items}
use Rattle.formula_eval.specs.Readable.{is_readable}
use Rattle.lemmas.proofs.ListTests.{all_at, get_some}
use Rattle.lemmas.proofs.Members.{take_next}
use Rattle.grounder.proofs.PartsLemmas.{readable_tops, needed_none, needed_next, needed_past}
use Rattle.grounder.specs.Parts.{AreNeeded}
use Rattle.grounder.proofs.atoms.static_atoms.Goals.{in-Some+in_ok-push, in_default}
use Rattle.grounder.proofs.atoms.static_atoms.Goals as goal

pub static_atom-requires-clause-readable : goal.static_atom-requires-clause-readable
static_atom-requires-clause-readable c =
    let domain = c.args.domain.now in
    let parts = c.tops-part-items.result.now in
    all_at (is_readable domain) parts c.loop-part.part-index c.part-item.result
    (ap (λ xs. list_all (is_readable domain) xs) c.tops-part-items.ensures
    ∙ readable_tops domain c.args.condition.now c.requires.readable)
    (get_some parts c.loop-part.part-index c.part-item.result c.loop-part-test.true c.part-item.is)

pub loop-part-init : goal.loop-part-init
loop-part-init c = subst (AreNeeded c.args.domain.now []) (sym c.new-atoms.ensures.items) (needed_none c.args.domain.now)

pub loop-part-preserved : goal.loop-part-preserved
loop-part-preserved c =
    let domain = c.args.domain.now in
    let parts = c.tops-part-items.result.now in
    let index = c.loop-part.part-index in
    let part = c.part-item.result in
    let front = take index parts in
    let next : take (index + 1) parts ≡ front ++ part ∷ [] =
    ap (λ n. take n parts) (add-one index)
    ∙ take_next parts index part (get_some parts index part c.loop-part-test.true c.part-item.is) in
    subst (λ xs. AreNeeded domain xs c.match-static_atom.atoms.items) (sym next)
    (elim c.match-static_atom.branch [
      | in-Some+in_ok-push w ↦
          subst (AreNeeded domain (front ++ part ∷ [])) (sym (ap vec_items w.atoms-is ∙ w.in_ok-push.ensures.items))
          (needed_next domain front c.loop-part.atoms.items part w.in-Some.atom c.loop-part.invariant w.in-Some.ensures)
      | in_default w ↦
          subst (AreNeeded domain (front ++ part ∷ [])) (ap vec_items (sym w.atoms-is))
          (needed_past domain front c.loop-part.atoms.items part w.in_default.ensures c.loop-part.invariant)
    ])

pub returns : goal.returns
returns c =
    let parts = c.tops-part-items.result.now in
    subst (λ xs. AreNeeded c.args.domain.now xs c.loop-part.atoms.items)
    (take_all c.loop-part.part-index parts c.loop-part-test.false ∙ c.tops-part-items.ensures) c.loop-part.invariant
