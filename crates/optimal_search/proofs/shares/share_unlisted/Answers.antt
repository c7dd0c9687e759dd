use Rattle.std.proofs.Common.{◌≡◌, ◌*◌, ◌/◌, ◌≤◌, List, length, map, sym, ap, subst, ◌∙◌, arith}
use Rattle.std.proofs.Math.Nat.{div-mul-le_self}
use Rattle.task_model.specs.declared.domain.Pattern.{Pattern}
use Rattle.optimal_search.proofs.PayLemmas.{unlisted_pays}
use Rattle.optimal_search.specs.Share.{AreLower, is_named, lowered}
use Rattle.optimal_search.specs.ShareLemmas.{lower_mapped}
use Rattle.optimal_search.specs.Shares.{PaysShares, own_least}
use Rattle.optimal_search.specs.declared.share.Share.{Share}
use Rattle.optimal_search.specs.declared.shares.TheConstants.{UNIT}
use Rattle.optimal_search.proofs.shares.share_unlisted.Goals as goal

pub returns-clause-lower : goal.returns-clause-lower
returns-clause-lower c =
    let old = c.args.shares.now in
    subst (AreLower old) (sym c.lower_named.ensures)
    (lower_mapped (is_named c.as_slice-adds.result.now) (c.saturating_mul-cost.result / c.max-width.result) old)

pub returns-clause-paid : goal.returns-clause-paid
returns-clause-paid c known =
    let task = c.args.task.now in
    let action = c.args.action.now in
    let old = c.args.shares.now in
    let most = c.saturating_mul-cost.result / c.max-width.result in
    let divided = div-mul-le_self c.saturating_mul-cost.result c.max-width.result in
    let dear : c.own_least.result * 1048576 ≡ own_least task action * UNIT = ap (λ n. n * UNIT) c.own_least.ensures in
    let paid : most * c.max-width.result ≤ own_least task action * UNIT =
    omega (arith, divided, c.saturating_mul-cost.ensures, dear) in
    let few : length action.adds ≤ c.max-width.result =
    omega (arith, c.max-width.ensures, ap length c.as_slice-adds.ensures) in
    let new = c.lower_named.ensures ∙ ap (λ (ps : List Pattern). map (lowered (is_named ps) most) old)
    c.as_slice-adds.ensures in
    subst (λ (ss : List Share). PaysShares task known action ss) (sym new)
    (unlisted_pays task known action old most c.max-width.result c.requires.distinct few paid)
