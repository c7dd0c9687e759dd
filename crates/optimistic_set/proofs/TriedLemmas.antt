-- Sets with the members of a list.
use Rattle.std.proofs.Common.{◌≡◌, true, false, cond, ◌||◌, List, [], ◌∷◌, ◌++◌, refl, sym, ap, ◌∙◌}
use Rattle.std.proofs.lemmas.List.Folds.{list_any-append}
use Rattle.std.specs.List.{list_any}
use Rattle.lemmas.proofs.Bools.{or_false}
use Rattle.instance_search.proofs.InstanceOrderLemmas.{instance_decided}
use Rattle.task_model.specs.Streams.{same_instance}
use Rattle.task_model.specs.declared.stream.Instance.{Instance}
use Rattle.optimistic_set.specs.Members.{HaveSame}

-- one more in both
pub same_pushed : (set list : List Instance) (a : Instance) → HaveSame set list
    → HaveSame (cond (list_any (same_instance a) set) set (set ++ a ∷ [])) (list ++ a ∷ [])
same_pushed set list a same i =
    elim (list_any (same_instance a) set) as
    (λ b. list_any (same_instance a) set ≡ b
    → list_any (same_instance i) (cond b set (set ++ a ∷ [])) ≡ list_any (same_instance i) (list ++ a ∷ [])) [
      | true ↦ λ there. same i ∙ already there ∙ sym (list_any-append (same_instance i) list (a ∷ []))
      | false ↦ λ _.
          list_any-append (same_instance i) set (a ∷ [])
          ∙ ap (λ b. b || list_any (same_instance i) (a ∷ [])) (same i)
          ∙ sym (list_any-append (same_instance i) list (a ∷ []))
    ] refl
  where
    already : list_any (same_instance a) set ≡ true
        → list_any (same_instance i) list ≡ (list_any (same_instance i) list || list_any (same_instance i) (a ∷ []))
    already there =
        elim (same_instance i a) as
        (λ b. same_instance i a ≡ b → list_any (same_instance i) list ≡ (list_any (same_instance i) list || (b || false))) [
          | true ↦ λ e.
              let is : i ≡ a = (instance_decided i a).0 e in
              let found : list_any (same_instance i) list ≡ true =
              sym (same i) ∙ ap (λ x. list_any (same_instance x) set) is ∙ there in
              rw found
          | false ↦ λ e. sym (or_false (list_any (same_instance i) list))
        ] refl
