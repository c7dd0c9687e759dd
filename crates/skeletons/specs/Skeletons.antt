-- The skeletons of adaptive mode.
use Rattle.std.specs.Prelude.{◌≡◌, ℕ, List, map, true, Option, IfSome, IfNone}
use Rattle.std.specs.List.{list_all}
use Rattle.skeletons.specs.declared.skeletons.Skeleton as stored
use Rattle.transcript_model.specs.Turns.{IsPicked, Skeleton}

-- a dream that is kept, as the definition of turns has it
abbrev pub skeleton_of : stored.Skeleton → Skeleton
skeleton_of s = record { entries = s.entries.items; real = s.real; picks = s.picks; retired = s.retired }

-- the dreams that are kept, as the definition of turns has them
abbrev pub skeletons_in : List stored.Skeleton → List Skeleton
skeletons_in = map skeleton_of

-- the place of the skeleton that is next, or that all are given up
pub record IsNextPick (skeletons : List Skeleton) (best : Option ℕ) : Type 0 where
  pub some : IfSome best (λ place. (s : Skeleton) × IsPicked skeletons place s)
  pub none : IfNone best (list_all (λ (s : Skeleton). s.retired) skeletons ≡ true)
