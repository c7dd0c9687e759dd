use Rattle.std.proofs.Common.{◌≡◌, ◌≤◌, true, subst, sym}
use Rattle.grid_text.specs.Entries.{Item}
use Rattle.grid_text.specs.Grids.{GridFile, is_inside}
use Rattle.grid_text.proofs.RightLinesLemmas.{small_region}
use Rattle.grid_text.proofs.grid.Grid.add.Goals as goal

pub region_of-requires : goal.region_of-requires
region_of-requires c =
    let grid = c.args.self.now in
    let inside = subst (λ (i : Item). is_inside grid i.sort i.rect ≡ true) (sym c.item.view_is) c.requires in
    small_region grid c.item.inside.sort c.item.inside.rect inside c.in-Region.is
    (subst (λ (g : GridFile). g.width ≤ 1000) c.self.view_is c.self.invariant.0)
    (subst (λ (g : GridFile). g.height ≤ 1000) c.self.view_is c.self.invariant.1)
