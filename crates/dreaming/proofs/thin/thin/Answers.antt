use Rattle.dreaming.proofs.thin.thin.Goals as goal

pub returns-then-not-some : goal.returns-then-not-some
returns-then-not-some c = record {
  kept = c.in_ok-some.ensures.kept;
  needed = c.in_ok-some.ensures.needed c.if-not-some.true c.if-size-eq1.true;
}
