use Rattle.std.proofs.Common.{Some, ap, sym, ◌∙◌}
use Rattle.fact_store.proofs.ListPlaceLemmas.{key_there, sought_key}
use Rattle.fact_store.proofs.table.list_of.Goals as goal

pub returns-clause-found : goal.returns-clause-found
returns-clause-found c =
    let entries = c.args.lists.now.entries in
    let key = c.in_ok-at.field-0-1.now in
    key_there entries c.in_ok-at.at key c.in_ok-at.field-0-2.now c.in_ok-at.ensures.entry
    ∙ ap Some (sym (sought_key entries c.args.key key (sym c.in_ok-at.ensures.key)))
