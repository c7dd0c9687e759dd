use Rattle.std.proofs.Common.{Bor, List, ℕ, map, take, sym, subst}
use Rattle.std.proofs.lemmas.List.{take_all}
use Rattle.shown_plan.proofs.SourcesLemmas.{next_entry}
use Rattle.shown_plan.proofs.sources.sources_of.Goals as goal
use Rattle.shown_plan.specs.Sources.{AreSources}

pub loop-entry-preserved : goal.loop-entry-preserved
loop-entry-preserved c =
    subst (λ es. AreSources (λ (k : Bor (List ℕ)). k.now)
    (map (λ (n : Bor (List ℕ)). n.now) c.args.names.now.keys) es c.note_entry.new.sources)
    (sym (next_entry c.args.entries.now c.loop-entry.entry-index c.entry-item.result c.loop-entry-test.true c.entry-item.is))
    (c.note_entry.ensures (map (λ (n : Bor (List ℕ)). n.now) c.args.names.now.keys)
    (take c.loop-entry.entry-index c.args.entries.now) c.loop-entry.invariant)

pub returns : goal.returns
returns c =
    subst (λ es. AreSources (λ (k : Bor (List ℕ)). k.now) (map (λ (n : Bor (List ℕ)). n.now) c.args.names.now.keys) es c.loop-entry.sources)
    (take_all c.loop-entry.entry-index c.args.entries.now c.loop-entry-test.false) c.loop-entry.invariant
