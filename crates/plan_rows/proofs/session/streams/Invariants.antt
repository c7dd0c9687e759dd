use Rattle.std.proofs.Common.{◌≡◌}
use Rattle.lemmas.specs.Lists.{numbers_from}
use Rattle.plan_rows.proofs.session.streams.Given as goal

abbrev pub invariant-loop-place : goal.invariant-loop-place
invariant-loop-place l = l.all.items ≡ numbers_from 0 l.place
