use Rattle.std.proofs.Common.{◌+◌, ◌-◌, ◌/◌, ◌<◌, length, arith}
use Rattle.state_store.specs.Rows.{row_atoms}
use Rattle.state_store.proofs.EditsLemmas.{row_sorted, below_more, above_less, atom_at}
use Rattle.state_store.proofs.edits.place_in.Goals as goal

pub loop-low-preserved-in-Less : goal.loop-low-preserved-in-Less
loop-low-preserved-in-Less c =
    let atoms = c.args.numbered.now in
    let row = c.args.row.now in
    let m = c.loop-low.low + (c.loop-low.high - c.loop-low.low) / 2 in
    let within : m < length row = omega (arith, c.loop-low-test.true, c.loop-low.invariant.1) in
    let at = atom_at atoms row m c.index-numbered-row.result c.requires.known within c.index-numbered-row.is in (
      omega (arith, c.loop-low-test.true, c.loop-low.invariant.0),
      c.loop-low.invariant.1,
      below_more c.args.atom.now (row_atoms atoms row) (row_sorted atoms row c.requires) m c.index-numbered-row.result at (cc),
      c.loop-low.invariant.3,
    )

pub loop-low-preserved : goal.loop-low-preserved
loop-low-preserved c =
    let atoms = c.args.numbered.now in
    let row = c.args.row.now in
    let m = c.loop-low.low + (c.loop-low.high - c.loop-low.low) / 2 in
    let within : m < length row = omega (arith, c.loop-low-test.true, c.loop-low.invariant.1) in
    let at = atom_at atoms row m c.index-numbered-row.result c.requires.known within c.index-numbered-row.is in (
      omega (arith, c.loop-low-test.true, c.loop-low.invariant.0),
      omega (arith, c.loop-low-test.true, c.loop-low.invariant.1),
      c.loop-low.invariant.2,
      above_less c.args.atom.now (row_atoms atoms row) (row_sorted atoms row c.requires) m c.index-numbered-row.result at (cc),
    )
