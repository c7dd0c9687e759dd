use Rattle.std.proofs.Common.{List, length, sym, ap, subst, ◌∙◌, arith}
use Rattle.std.proofs.lemmas.List.{with_items_is}
use Rattle.std.proofs.lemmas.Option.{slice_get_within}
use Rattle.lemmas.specs.Lists.{AreDistinct}
use Rattle.task_model.specs.State.{items}
use Rattle.task_model.specs.declared.fact.Atom.{Atom}
use Rattle.optimal_search.specs.GoalLemmas.{distinct_items}
use Rattle.optimal_search.specs.Share.{goals_of}
use Rattle.optimal_search.specs.Shares.{PaysShares}
use Rattle.optimal_search.specs.declared.share.Share.{Share}
use Rattle.optimal_search.proofs.shares.Shares.new.Goals as goal

pub share_all-requires-clause-distinct : goal.share_all-requires-clause-distinct
share_all-requires-clause-distinct g c =
    subst (λ (gs : List Atom). AreDistinct gs) (sym (ap goals_of c.deref_mut.ensures.value ∙ c.in_ok-shares.ensures))
    (distinct_items c.in_ok-goals.goals)

pub returns : goal.returns
returns g c =
    let task = c.args.task.now in
    let known = g.L.Look.known c.args.look.now in
    let new = c.share_all.new.shares in
    let v = c.in_ok-shares.shares in
    let same = with_items_is v new
    (omega (arith, c.share_all.auto.shares, ap length c.deref_mut.ensures.value, v.ok.0)) in
    record {
      goals =
          ap goals_of same ∙ c.in_ok-share_all.ensures.goals ∙ ap goals_of c.deref_mut.ensures.value
          ∙ c.in_ok-shares.ensures
          ∙ ap items c.in_ok-goals.ensures;
      paid = λ number action named.
          subst (λ (ss : List Share). PaysShares task known action ss) (sym same)
          (c.in_ok-share_all.ensures.paid number action (slice_get_within task.domain.actions number action named)
          named);
    }
