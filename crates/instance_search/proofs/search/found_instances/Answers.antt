use Rattle.std.proofs.Common.{subst, rules, ◌≡◌}
use Rattle.std.proofs.lemmas.Fn.{always_returns_same}
use Rattle.std.specs.List.Sorted.{IsSortedBy}
use Rattle.std.specs.Ordering.{is_lt}
use Rattle.instance_search.proofs.InstanceOrderLemmas.{comes_before, instances_ranked, found_sorted}
use Rattle.instance_search.proofs.search.found_instances.Goals as goal

pub returns-clause-found : goal.returns-clause-found
returns-clause-found g c =
    let names = c.args.names.now in
    let ys = c.sort_by.new.self.items in
    let up : IsSortedBy (comes_before names) ys =
    c.in_ok-sort_by.ensures.sorted (comes_before names) (instances_ranked names)
    (always_returns_same _ (λ a r. is_lt r ≡ comes_before names a.0.now a.1.0.now) _ (λ a r q k. search rules)) in
    found_sorted c.args.task.now (g.L.Look.known c.args.look.now) (g.S.Sought.seeks c.args.sought.now)
    (g.met.L.Look.coherent c.args.look.now) c.in_ok-instances.instances.items ys c.in_ok-instances.ensures.found
    c.sort_by.ensures.permutation
    (subst (λ ns. IsSortedBy (comes_before ns) ys) c.requires.names up)
