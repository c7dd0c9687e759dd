-- Names of placeholders, put into a table one after another.
use Rattle.std.proofs.Common.{◌≡◌, ℕ, ◌+◌, ◌<◌, ◌≤◌, arith, true, false, cond, List, [], ◌∷◌, ◌++◌, length, take, inl, inr, sym, ap, ◌∙◌, Some, None, slice_get, Contains}
use Rattle.std.proofs.lemmas.Bool.{false_from_ne_true}
use Rattle.std.proofs.lemmas.List.{length-append, take_more}
use Rattle.std.proofs.lemmas.List.Elements.{Contains-append_cases}
use Rattle.std.proofs.lemmas.Option.{get_or_from_slice_get}
use Rattle.lemmas.proofs.Members.{from_take, get_behind, place_of}
use Rattle.dreaming.proofs.PartLemmas.{plain_few}
use Rattle.dreaming.specs.Parts.{IsListed}
use Rattle.lemmas.specs.Lists.{AreDistinct}
use Rattle.name_tables.proofs.NamesLemmas.{name_found, name_there, place_named, place_there}
use Rattle.name_tables.specs.Names.{has_name, with_table_name}
use Rattle.name_tables.specs.Names as tables
use Rattle.optimistic_set.proofs.DraftLemmas.{few_names}
use Rattle.optimistic_set.specs.Dreamable.{Dreamable}
use Rattle.task_model.specs.Dreams.{entry_names}
use Rattle.task_model.specs.Known.{Known}
use Rattle.task_model.specs.declared.task.Task.{Task}

-- one name more of distinct ones
pub name_next : (names : List (List ℕ)) (i : ℕ) (name : List ℕ) → AreDistinct names → i < length names
    → slice_get names i ≡ Some name → with_table_name (take i names) name ≡ take (i + 1) names
name_next names i name distinct lt at =
    ap (λ b. cond b (take i names) (take i names ++ name ∷ [])) absent
    ∙ ap (λ n. take i names ++ n ∷ []) (sym (get_or_from_slice_get names i name name at))
    ∙ sym (take_more names i name lt)
  where
    clash : has_name name (take i names) ≡ true → ⊥
    clash there =
        let found = name_found name (take i names) there in
        let early = from_take names i found.0 name found.1 in
        let same : found.0 ≡ i = distinct found.0 i name early.1 at in
        omega (arith, same, early.0)

    absent : has_name name (take i names) ≡ false
    absent = false_from_ne_true (has_name name (take i names)) clash

-- the placeholders of a list are few
pub few_placeholders : (task : Task) (d : Dreamable) (names : List (List ℕ)) → IsListed task d
    → d.known.names ≡ d.base.names ++ names → length names ≤ 160000
few_placeholders task d names h is =
    let are : d.base.names ++ names ≡ d.base.names ++ entry_names 1 d.list = sym is ∙ ap (λ (k : Known). k.names) h.known in
    omega (
      arith,
      ap length are,
      length-append d.base.names names,
      length-append d.base.names (entry_names 1 d.list),
      few_names 1 d.list (plain_few task d.base d.list h.plain),
      h.plain.few,
    )

-- ---- looking up

-- what stands behind the first names
pub found_behind : (names more : List (List ℕ)) (name : List ℕ) (place : ℕ) → tables.table_place name more ≡ Some place
    → slice_get (names ++ more) (length names + place) ≡ Some name
found_behind names more name place is = get_behind names more place name (place_named name more place is)

-- a name that is in neither
pub in_neither : (names more : List (List ℕ)) (name : List ℕ) → ¬ (Contains names name) → tables.table_place name more ≡ None
    → ¬ (Contains (names ++ more) name)
in_neither names more name first none there =
    elim (Contains-append_cases names more name there) [
      | inl early ↦ first early
      | inr late ↦
          let at = place_of more name late in
          let found = place_there name more (name_there name more at.0 at.1) in
          let no : None ≡ Some found.0 = sym none ∙ found.1 in
          absurd (cc)
    ]
