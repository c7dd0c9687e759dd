use Rattle.name_tables.proofs.GraphsCycleLemmas.{cyclic_by}
use Rattle.name_tables.proofs.graph.is_cyclic.Goals as goal

pub returns : goal.returns
returns c =
    cyclic_by c.args.edges.now c.args.number c.in_ok-reached.reached.keys c.contains.result c.in_ok-reached.ensures c.contains.ensures
