use Rattle.command_files.proofs.MapsLemmas.{grid_is_utf8}
use Rattle.command_files.proofs.maps.text_of.Goals as goal

pub unreachable-requires : goal.unreachable-requires
unreachable-requires c =
    let never = c.in-Err.ensures.succeeds (grid_is_utf8 c.args.read.bytes.items c.args.read.grid c.requires) in
    absurd (cc)
