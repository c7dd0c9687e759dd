use Rattle.std.proofs.Common.{sym}
use Rattle.state_store.proofs.RowsLemmas.{distinct_of, place_is}
use Rattle.state_store.proofs.rows.place_of.Goals as goal

pub returns-clause-distinct : goal.returns-clause-distinct
returns-clause-distinct c =
    distinct_of c.insert_full.new.self.keys c.insert_full.ensures.unique

pub returns-in-Some-clause-place : goal.returns-in-Some-clause-place
returns-in-Some-clause-place c =
    place_is c.args.numbered.now.keys c.args.atom.now c.in-Some.place (sym c.in-Some.ensures.index)
