use Rattle.std.proofs.Common.{◌≡◌, ◌∙◌, ◌++◌, ◌∷◌, [], map, ap, ℕ, unwrap_or, option_map, slice_get}
use Rattle.std.proofs.lemmas.Result.{on_ok_weaker}
use Rattle.task_model.specs.Known.{type_fact}
use Rattle.learning.proofs.CertifiedLemmas.{three_mapped}
use Rattle.learning.proofs.certified.add_types.Goals as goal

pub returns : goal.returns
returns c =
    let f = λ (s : ℕ). type_fact s c.args.object in
    let second : c.add_each-2.new.facts.items ≡ c.add_each.new.facts.items ++ map f
    (unwrap_or (option_map (λ s. s.above) (slice_get c.args.domain.now.sorts c.args.sort)) []) =
    c.in_ok-add_each-2.ensures ∙ ap (λ xs. c.add_each.new.facts.items ++ map f xs) c.supertypes.ensures in
    on_ok_weaker c.add_each-3.result (λ e.
    three_mapped f (c.args.sort ∷ []) _ (0 ∷ []) c.args.facts.now.items c.add_each.new.facts.items c.add_each-2.new.facts.items
    c.add_each-3.new.facts.items c.in_ok-add_each.ensures second e) c.add_each-3.ensures
