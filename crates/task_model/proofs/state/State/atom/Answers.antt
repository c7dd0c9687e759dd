use Rattle.std.proofs.Common.{◌≡◌, ap, sym, ◌∙◌, slice_get, length, arith, Some}
use Rattle.task_model.specs.State.{items, len}
use Rattle.task_model.proofs.StateLemmas.{items-from_list, len-from_list}
use Rattle.task_model.proofs.state.State.atom.Goals as goal
use Rattle.std.proofs.lemmas.Option.{slice_get-get_or}

pub index-requires : goal.index-requires
index-requires c =
    let ks = c.self.inside.atoms.items in
    let size : len c.args.self.now ≡ length ks = sym (ap len c.self.view_is) ∙ len-from_list ks c.self.invariant in
    omega (arith, c.self.inside.atoms.ok.0)

pub returns : goal.returns
returns c =
    let ks = c.self.inside.atoms.items in
    let size : len c.args.self.now ≡ length ks = sym (ap len c.self.view_is) ∙ len-from_list ks c.self.invariant in
    let found : slice_get ks c.args.place ≡ Some c.index.result.now =
    slice_get-get_or ks c.args.place c.index.result.now (omega arith) ∙ ap Some (sym c.index.ensures) in
    ap (λ s. slice_get (items s) c.args.place) (sym c.self.view_is)
    ∙ ap (λ xs. slice_get xs c.args.place) (items-from_list ks c.self.invariant) ∙ found
