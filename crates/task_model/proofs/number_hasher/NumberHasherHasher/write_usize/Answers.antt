use Rattle.std.proofs.Common.{ap, sym, ◌∙◌}
use Rattle.std.proofs.lemmas.Nat.{from_le_bytes-to_le_bytes_8}
use Rattle.std.specs.Hash.{le_bytes}
use Rattle.task_model.specs.Hashes.{hashed_with}
use Rattle.task_model.proofs.number_hasher.NumberHasherHasher.write_usize.Goals as goal

pub returns : goal.returns
unfolding le_bytes
returns c =
    ap (λ s. record { state = s })
    (c.added-self.ensures ∙ ap (hashed_with c.args.self.now.state) (sym (from_le_bytes-to_le_bytes_8 c.args.i c.ranges.i.fits)))
