use Rattle.std.proofs.Common.{◌≡◌, ◌↔◌, ◌+◌, ◌++◌, ◌∷◌, [], true, take, slice_index_or, sym, ap, subst, ◌∙◌, add-one}
use Rattle.lemmas.proofs.Members.{take_next}
use Rattle.lemmas.specs.Lists.{has_number}
use Rattle.plan_deorder.proofs.OccurringLemmas.{more_ways}
use Rattle.plan_deorder.proofs.StageLemmas.{stage_found}
use Rattle.plan_deorder.specs.Occurring.{IsWay}
use Rattle.plan_deorder.proofs.reads.reached_from_each.Goals as goal

pub loop-start-preserved : goal.loop-start-preserved
loop-start-preserved c p =
    let edges = c.args.edges.now in
    let starts = c.args.starts.now in
    let index = c.loop-start.start-index in
    let start = slice_index_or starts index 0 in
    let reached = c.loop-start.reached.items in
    let more = c.in_ok-more.more.keys in
    let next : take (index + 1) starts ≡ take index starts ++ start ∷ [] =
    ap (λ n. take n starts) (add-one index)
    ∙ take_next starts index start (stage_found starts index c.loop-start-test.true) in
    let new : c.extend_from_slice.new.self.items ≡ reached ++ more =
    c.in_ok-extend_from_slice.ensures.items ∙ ap (λ ys. reached ++ ys) c.as_slice.ensures.keys in
    subst (λ xs. (has_number xs p ≡ true) ↔ IsWay edges (take (index + 1) starts) p) (sym new)
    (subst (λ ss. (has_number (reached ++ more) p ≡ true) ↔ IsWay edges ss p) (sym next)
    (more_ways edges (take index starts) start reached more c.loop-start.invariant c.in_ok-more.ensures p))
