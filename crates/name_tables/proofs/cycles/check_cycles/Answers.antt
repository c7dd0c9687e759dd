use Rattle.name_tables.proofs.CyclesLemmas.{pass_all, pass_more}
use Rattle.name_tables.proofs.cycles.check_cycles.Goals as goal

pub loop-candidate-preserved : goal.loop-candidate-preserved
loop-candidate-preserved c =
    pass_more c.args.kind c.args.edges.now c.args.candidates.now c.loop-candidate.candidate-index _ c.args.so_far c.loop-candidate.found
    c.in_ok-found.found c.loop-candidate-test.true c.in_ok-found.ensures c.loop-candidate.invariant

pub returns : goal.returns
returns c =
    pass_all c.args.kind c.args.edges.now c.args.candidates.now c.loop-candidate.candidate-index c.args.so_far c.loop-candidate.found
    c.loop-candidate-test.false c.loop-candidate.invariant
