use Rattle.std.proofs.Common.{◌++◌, ◌∷◌, [], ◌∙◌, ap, sym, cond}
use Rattle.std.specs.List.{list_any}
use Rattle.task_model.specs.Streams.{same_instance}
use Rattle.optimistic_set.proofs.TriedLemmas.{same_pushed}
use Rattle.optimistic_set.proofs.tried.Tried.add.Goals as goal

pub invariant_of-self-2 : goal.invariant_of-self-2
invariant_of-self-2 c = λ i.
    ap (λ xs. list_any (same_instance i) xs)
    (c.in_ok-insert.ensures.keys ∙ ap (λ a. cond (list_any (same_instance a) c.self.inside.set.keys) c.self.inside.set.keys
    (c.self.inside.set.keys ++ a ∷ [])) c.in_ok-key.ensures)
    ∙ same_pushed c.self.inside.set.keys c.self.inside.list.items c.args.instance.now c.self.invariant i
    ∙ ap (λ xs. list_any (same_instance i) xs)
    (sym (c.in_ok-push.ensures.items ∙ (λ k. c.in_ok-reserve.ensures.items k ++ c.in_ok-last.ensures k ∷ [])))
