use Rattle.std.proofs.Common.{◌<◌, ◌++◌, ◌∷◌, [], length, All, ap, sym, ◌∙◌, subst}
use Rattle.std.proofs.lemmas.List.{take_more}
use Rattle.state_store.specs.Rows.{row_atoms}
use Rattle.state_store.proofs.RowsLemmas.{numbers_more, known_more, grows_on}
use Rattle.state_store.proofs.rows.numbers_of.Goals as goal

pub loop-atom-preserved : goal.loop-atom-preserved
loop-atom-preserved c =
    let old = c.loop-atom.numbered.keys in
    let new = c.number_of.new.numbered.keys in
    let row = c.loop-atom.row.items in
    let n = c.in_ok-number_of.field-0 in
    let atom = c.atom-item.result in
    let index = c.loop-atom.atom-index in
    let grows = c.number_of.ensures.grows in
    let pushed = c.in_ok-push.ensures.items in (
      ap (row_atoms new) pushed ∙ numbers_more old new row n atom grows c.loop-atom.invariant.1 c.in_ok-number_of.ensures.number
          ∙ (λ i. c.loop-atom.invariant.0 i ++ c.atom-item.is i ∷ [])
          ∙ sym (take_more c.args.atoms.now index atom c.loop-atom-test.true),
      subst (All (λ n. n < length new)) (sym pushed)
          (known_more old new row n atom grows c.loop-atom.invariant.1 c.in_ok-number_of.ensures.number),
      grows_on c.args.numbered.now.keys old new c.loop-atom.invariant.2 grows,
      c.number_of.ensures.distinct,
    )
