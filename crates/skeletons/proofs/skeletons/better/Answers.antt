use Rattle.std.proofs.Common.{take, subst, ap, arith}
use Rattle.skeletons.proofs.SkeletonLemmas.{item_best, next_better, next_first, next_kept, next_passed}
use Rattle.skeletons.specs.Skeletons.{IsNextPick, skeletons_in}
use Rattle.skeletons.specs.declared.skeletons.Skeleton as stored
use Rattle.skeletons.proofs.skeletons.better.Goals as goal

pub returns-then-skeleton : goal.returns-then-skeleton
returns-then-skeleton c =
    next_passed c.args.skeletons.now c.args.place c.requires.place c.index-skeletons-place.result c.index-skeletons-place.is c.args.best
    c.if-skeleton.true c.requires.best

pub returns-in-None : goal.returns-in-None
returns-in-None c =
    next_first c.args.skeletons.now c.args.place c.requires.place c.index-skeletons-place.result c.index-skeletons-place.is
    c.if-skeleton.false (subst (IsNextPick (take c.args.place (skeletons_in c.args.skeletons.now))) c.in-None.is c.requires.best)

pub bounds-skeletons-other : goal.bounds-skeletons-other
bounds-skeletons-other c =
    item_best c.args.skeletons.now c.args.place c.in-Some.other
    (subst (IsNextPick (take c.args.place (skeletons_in c.args.skeletons.now))) c.in-Some.is c.requires.best)

pub returns-then-skeleton-skeletons : goal.returns-then-skeleton-skeletons
returns-then-skeleton-skeletons c =
    let same = ap (λ (y : stored.Skeleton). y.picks) c.index-skeletons-other.is in
    next_better c.args.skeletons.now c.args.place c.requires.place c.index-skeletons-place.result c.index-skeletons-place.is
    c.in-Some.other c.index-skeletons-other.result c.index-skeletons-other.is
    (subst (IsNextPick (take c.args.place (skeletons_in c.args.skeletons.now))) c.in-Some.is c.requires.best) c.if-skeleton.false
    (omega (arith, c.if-skeleton-skeletons.true, same))

pub returns-else-skeleton-skeletons : goal.returns-else-skeleton-skeletons
returns-else-skeleton-skeletons c =
    let same = ap (λ (y : stored.Skeleton). y.picks) c.index-skeletons-other.is in
    next_kept c.args.skeletons.now c.args.place c.requires.place c.index-skeletons-place.result c.index-skeletons-place.is
    c.in-Some.other c.index-skeletons-other.result c.index-skeletons-other.is
    (subst (IsNextPick (take c.args.place (skeletons_in c.args.skeletons.now))) c.in-Some.is c.requires.best)
    (omega (arith, c.if-skeleton-skeletons.false, same))
