use Rattle.std.proofs.Common.{◌≡◌, None, sym, ap, ◌∙◌, position}
use Rattle.std.specs.Str.{bytes_eq}
use Rattle.grid_text.specs.declared.grid.Block.{Block}
use Rattle.grid_play.proofs.MoveLemmas.{no_target}
use Rattle.grid_play.proofs.moves.target_of.Goals as goal

pub returns-in_err-place : goal.returns-in_err-place
returns-in_err-place c =
    let blocks = c.args.grid.now.blocks in
    let none : position (λ (b : Block). bytes_eq b.name c.block-item.result) blocks ≡ None =
    ap (λ w. position (λ (b : Block). bytes_eq b.name w) blocks) (sym c.bytes.ensures)
    ∙ sym c.place_of.ensures ∙ c.in_err-place.was in
    c.from_residual.ensures
    ∙ sym (no_target c.args.grid.now c.args.words.now c.block-item.result c.in-len4.len_at_least c.in-len4.len_below c.block-item.is none)
