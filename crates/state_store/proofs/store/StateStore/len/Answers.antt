use Rattle.std.proofs.Common.{map, length, ap, sym, ◌∙◌}
use Rattle.std.proofs.lemmas.List.{length-map}
use Rattle.state_store.specs.Rows.{state_of}
use Rattle.state_store.proofs.store.StateStore.len.Goals as goal

pub returns : goal.returns
returns c =
    let keys = c.self.inside.rows.keys in
    c.len.ensures.len ∙ sym (length-map keys (λ v. v.items))
    ∙ sym (length-map (map (λ v. v.items) keys) (state_of c.self.inside.atoms.keys)) ∙ ap length c.self.view_is
