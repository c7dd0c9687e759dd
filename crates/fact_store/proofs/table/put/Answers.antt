use Rattle.std.proofs.Common.{◌≡◌, sym}
use Rattle.fact_store.specs.Tables.{Key, places_in}
use Rattle.fact_store.proofs.ListPlaceLemmas.{no_value, places_more, places_same}
use Rattle.fact_store.proofs.table.put.Goals as goal
use Rattle.indexmap.specs.IndexMap.{with_value_at}
use Rattle.lemmas.proofs.Results.{on_err}

pub returns-in_err-push-in-Some-get_index_mut-clause-err :
    goal.returns-in_err-push-in-Some-get_index_mut-clause-err
returns-in_err-push-in-Some-get_index_mut-clause-err c =
    let lists = c.args.lists.now in
    on_err c.from_residual.result
    ((q : Key) → places_in (with_value_at lists c.in-Some.at c.push.new.self) q ≡ places_in lists q)
    (places_same lists c.in-Some.at c.args.key c.in-Some-get_index_mut.list.now c.push.new.self c.get_index_mut.ensures.unique
    c.in-Some.ensures.found (sym c.in-Some-get_index_mut.ensures.value) c.in_err-push-in-Some-get_index_mut.ensures.err)

-- the key stands there, so there is a list
pub unreachable-requires : goal.unreachable-requires
unreachable-requires c =
    no_value c.args.lists.now.entries c.in-Some.at c.args.key c.in-Some.ensures.found (sym c.in-None.ensures.value)

pub returns-in-Some-clause-ok : goal.returns-in-Some-clause-ok
returns-in-Some-clause-ok c =
    places_more c.args.lists.now c.in-Some.at c.args.key c.in-Some-get_index_mut.list.now c.push.new.self
    c.get_index_mut.ensures.unique c.in-Some.ensures.found (sym c.in-Some-get_index_mut.ensures.value) c.args.place
    c.in_ok-push-in-Some-get_index_mut.ensures.ok
