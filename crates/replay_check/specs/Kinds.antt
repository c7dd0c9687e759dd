-- The kinds of breach, in their order.
use Rattle.std.specs.Prelude.{ℕ}
use Rattle.replay_check.specs.declared.verdict.BreachKind.{BreachKind}
use Rattle.replay_check.specs.declared.verdict.BreachKind.TheVariants as kind

-- the number of a kind, by which the kinds of one line are ordered
abbrev pub breach_number : BreachKind → ℕ
breach_number kind.Text = 1
breach_number kind.Head = 2
breach_number kind.Ask = 3
breach_number kind.Answer = 4
breach_number kind.Order = 5
breach_number kind.Dream = 6
breach_number kind.Plan = 7
breach_number kind.Cost = 8
breach_number kind.From = 9
breach_number kind.Outcome = 10
