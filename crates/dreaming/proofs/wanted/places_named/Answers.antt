use Rattle.std.proofs.Common.{◌∙◌, ◌+◌, ◌<◌, ◌≤◌, ℕ, List, length, sym, ap, subst, arith, All}
use Rattle.std.specs.Ordering.{nat_cmp}
use Rattle.lemmas.specs.Lists.{AreAscending}
use Rattle.dreaming.proofs.PlacesLemmas.{below_next, below_more, ascend_more}
use Rattle.dreaming.proofs.wanted.places_named.Goals as goal
use Rattle.dreaming.proofs.wanted.places_named.Goals.{then-takes+in_ok-push, else-takes}

pub loop-place-preserved : goal.loop-place-preserved
loop-place-preserved c =
    let place = c.loop-place.place in
    let old = c.loop-place.places.items in
    let h = c.loop-place.invariant in
    let most : place + 1 ≤ length c.args.supposed.now.list =
    omega (arith, c.loop-place-test.true, c.len-place-end.ensures) in
    elim c.if-takes.branch [
      | then-takes+in_ok-push w ↦
          let are = ap (λ v. v.items) w.places-is ∙ w.in_ok-push.ensures.items in
          record {
            below = subst (λ (ps : List ℕ). All (λ p. p < place + 1) ps) (sym are) (below_more place old h.below);
            ascend = subst (λ (ps : List ℕ). AreAscending nat_cmp ps) (sym are) (ascend_more place old h.below h.ascend);
            most = most;
          }
      | else-takes w ↦
          let are = ap (λ v. v.items) w.places-is in
          record {
            below = subst (λ (ps : List ℕ). All (λ p. p < place + 1) ps) (sym are) (below_next place old h.below);
            ascend = subst (λ (ps : List ℕ). AreAscending nat_cmp ps) (sym are) h.ascend;
            most = most;
          }
    ]
