use Rattle.std.proofs.Common.{◌∙◌, [], ◌∷◌, ap, false}
use Rattle.std.proofs.lemmas.List.{map-append}
use Rattle.skeletons.specs.Skeletons.{skeleton_of, skeletons_in}
use Rattle.skeletons.proofs.skeletons.keep.Goals as goal

pub returns-clause-ok : goal.returns-clause-ok
returns-clause-ok c =
    ap skeletons_in c.in_ok-push.ensures.items
    ∙ map-append skeleton_of c.args.skeletons.now.items
    (record { entries = c.args.entries; real = c.args.real; picks = 0; retired = false } ∷ [])
