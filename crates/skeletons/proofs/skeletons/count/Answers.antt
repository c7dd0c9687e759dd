use Rattle.std.proofs.Common.{refl, arith}
use Rattle.skeletons.proofs.SkeletonLemmas.{counted_pick, item_there}
use Rattle.skeletons.specs.Skeletons.{skeleton_of}
use Rattle.skeletons.proofs.skeletons.count.Goals as goal

pub overflow_add-skeleton : goal.overflow_add-skeleton
overflow_add-skeleton c =
    let old = c.index_mut-skeleton.result.now in
    omega (
      arith,
      c.requires.room (skeleton_of old) (item_there c.args.skeletons.now.items c.args.place old c.requires.place
          c.index_mut-skeleton.ensures.value),
    )

pub returns : goal.returns
returns c = λ s at.
    let old = c.index_mut-skeleton.result.now in
    counted_pick c.args.skeletons.now.items c.args.place old _ s at c.index_mut-skeleton.ensures.value refl refl refl
