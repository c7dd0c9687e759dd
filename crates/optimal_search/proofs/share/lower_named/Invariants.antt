use Rattle.std.proofs.Common.{◌≡◌, ◌++◌, map, take, drop}
use Rattle.optimal_search.specs.Share.{is_named, lowered}
use Rattle.optimal_search.proofs.share.lower_named.Given as goal

-- those so far are lowered
abbrev pub invariant-loop-share : goal.invariant-loop-share
invariant-loop-share l =
    l.shares ≡ map (lowered (is_named l.adds) l.most) (take l.share-index l.initial.shares)
    ++ drop l.share-index l.initial.shares
