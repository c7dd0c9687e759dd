use Rattle.std.proofs.Common.{◌≡◌, ◌∙◌, ap}
use Rattle.task_model.specs.Known.{atom_fact}
use Rattle.task_model.specs.Streams.{fact_of}
use Rattle.task_model.specs.Truth.{slots_of, objects_at}
use Rattle.learning.proofs.CertifiedLemmas.{mapped_more}
use Rattle.learning.proofs.certified.add_atoms.Goals as goal

pub loop-pattern-preserved : goal.loop-pattern-preserved
loop-pattern-preserved c =
    let row : c.objects_at-row.result ≡ objects_at (slots_of c.args.args.now) c.pattern-item.result.args =
    c.objects_at-row.ensures ∙ (λ i. objects_at (c.new-env.ensures i) (c.as_slice.ensures i)) in
    c.in_ok-push.ensures.items
    ∙ mapped_more (fact_of (slots_of c.args.args.now)) c.args.patterns.now c.loop-pattern.pattern-index c.pattern-item.result
    c.pattern-item.result
    c.args.facts.now.items c.loop-pattern.facts.items (atom_fact c.pattern-item.result.pred c.objects_at-row.result)
    c.loop-pattern-test.true c.pattern-item.is
    (ap (atom_fact c.pattern-item.result.pred) row) c.loop-pattern.invariant
