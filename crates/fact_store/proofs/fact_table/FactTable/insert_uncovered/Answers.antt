use Rattle.std.proofs.Common.{◌∙◌, ap, inl}
use Rattle.task_model.specs.Known.{with_fact}
use Rattle.fact_store.proofs.TablesLemmas.{all_kept}
use Rattle.fact_store.proofs.fact_table.FactTable.insert_uncovered.Goals as goal

pub invariant_of-self-2 : goal.invariant_of-self-2
invariant_of-self-2 c =
    let kept = all_kept c.self.inside.facts.keys c.insert.new.self.keys c.args.fact c.self.inside.objects
    c.self.inside.atoms_at.items
    (inl (c.in_ok-fresh.ensures.keys ∙ ap (with_fact c.self.inside.facts.keys) c.in_ok-new.ensures)) c.self.invariant in
    record { objects = kept.objects; atoms_at = c.add_tables.ensures c.insert.new.self.keys kept.atoms_at }
