use Rattle.std.proofs.Common.{◌≡◌, ◌++◌, drop}
use Rattle.std.specs.List.{list_any}
use Rattle.dream_asks.proofs.NextLemmas.{seen_in}
use Rattle.dream_asks.specs.Next.{asks_by}
use Rattle.task_model.specs.Streams.{same_instance}
use Rattle.dream_asks.proofs.gone.Gone.next_asks.Given as goal

-- these are the asks of the first entries, and the others are still to be looked at
abbrev pub invariant-loop-entry : goal.invariant-loop-entry
invariant-loop-entry l =
    asks_by l.task l.facts.known l.queue l.self (λ i. list_any (same_instance i) l.self.taken) l.entries
    ≡ l.asks.items
    ++ asks_by l.task l.facts.known l.queue l.self (seen_in l.now l.self.taken) (drop l.entry-index l.entries)
