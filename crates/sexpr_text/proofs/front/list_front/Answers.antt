use Rattle.sexpr_text.proofs.TreesLemmas.{list_shown}
use Rattle.sexpr_text.proofs.front.list_front.Goals as goal

pub returns : goal.returns
returns c = list_shown c.args.count c.args.place c.min-inside.result c.args.behind.now c.min-inside.ensures
