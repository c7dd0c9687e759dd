use Rattle.std.proofs.Common.{◌≡◌, ◌↔◌, ◌∙◌, IsTrue, length, sym, subst}
use Rattle.std.specs.List.{list_all}
use Rattle.plan_deorder.proofs.ListedLemmas.{kept_by_places}
use Rattle.plan_deorder.specs.Listed.{is_pair_kept}
use Rattle.plan_deorder.specs.Orders.{IsOrderListing, Keeps}
use Rattle.plan_deorder.proofs.listing.keeps.Goals as goal

pub returns-in-Some : goal.returns-in-Some
returns-in-Some c =
    let pairs = c.args.order.now.pairs in
    let listing = c.args.listing.now in
    let places = c.in-Some.places.items in
    let count = length c.args.order.now.stages in
    let found = rw c.in-Some.is at c.in_ok-places.ensures.some in
    let all : c.keep_all.result ≡ list_all (is_pair_kept places) pairs =
    c.keep_all.ensures ∙ (λ i. list_all (is_pair_kept (c.as_slice.ensures.value i)) (c.as_slice-in-Some.ensures i)) in
    let listed = subst (λ n. IsOrderListing n listing) c.len.ensures found.0 in
    subst (λ yes. IsTrue yes ↔ Keeps pairs count listing) (sym all) (kept_by_places listing places count pairs listed found.1)
