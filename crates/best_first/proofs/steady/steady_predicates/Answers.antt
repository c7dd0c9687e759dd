use Rattle.std.proofs.Common.{◌≡◌, subst, sym, true}
use Rattle.best_first.specs.Steady.{has_steady_items}
use Rattle.best_first.proofs.SteadyLemmas.{none_marked}
use Rattle.best_first.proofs.steady.steady_predicates.Goals as goal

pub returns : goal.returns
returns c =
    let domain = c.args.domain.now in
    subst (λ marks. has_steady_items domain marks ≡ true) (sym c.new.ensures.items) (none_marked domain)
