use Rattle.sexpr_text.proofs.ReadingLemmas.{answered_found, answered_only, answered_small, answered_clean, answered_least}
use Rattle.sexpr_text.proofs.reader.read_tree.Goals as goal

pub returns-clause-found : goal.returns-clause-found
returns-clause-found c = answered_found c.args.bytes.now c.read.result c.read.ensures

pub returns-clause-only : goal.returns-clause-only
returns-clause-only c = answered_only c.args.bytes.now c.read.result c.read.ensures

pub returns-clause-small : goal.returns-clause-small
returns-clause-small c = answered_small c.args.bytes.now c.read.result c.read.ensures

pub returns-clause-clean : goal.returns-clause-clean
returns-clause-clean c = answered_clean c.args.bytes.now c.read.result c.read.ensures

pub returns-clause-first : goal.returns-clause-first
returns-clause-first c = answered_least c.args.bytes.now c.read.result c.read.ensures
