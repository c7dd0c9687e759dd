use Rattle.std.proofs.Common.{◌≡◌, map, take}
use Rattle.fact_store.proofs.initial.add_names.Given as goal

-- the objects that were passed have their numbers
abbrev pub invariant-loop-declared : goal.invariant-loop-declared
invariant-loop-declared l = record {
  names : l.facts.known.names ≡ map (λ d. d.name) (take l.declared-index l.objects);
  facts : l.facts.known.facts ≡ l.initial.facts.known.facts;
  values : l.facts.known.values ≡ l.initial.facts.known.values;
}
