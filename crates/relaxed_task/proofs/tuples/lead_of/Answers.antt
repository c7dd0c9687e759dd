use Rattle.lemmas.proofs.ListTests.{all_at, get_some}
use Rattle.fact_join.specs.Answers.{is_pattern_of}
use Rattle.relaxed_task.proofs.tuples.lead_of.Goals as goal

pub returns-then-has_variable : goal.returns-then-has_variable
returns-then-has_variable c =
    let atoms = c.args.atoms.now in
    all_at (is_pattern_of c.args.width) atoms c.loop-atom.atom-index c.atom-item.result c.requires
    (get_some atoms c.loop-atom.atom-index c.atom-item.result c.loop-atom-test.true c.atom-item.is)
