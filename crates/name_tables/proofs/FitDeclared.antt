-- Declared names with their types, where they have no faults.
use Rattle.std.proofs.Common.{◌≡◌, ℕ, zero, suc, ◌+◌, ◌<◌, ◌≤◌, true, false, cond, nat_lt, List, [], ◌∷◌, ◌++◌, map, length, refl, sym, ap, ◌∙◌, subst, arith, Option, Some, None, slice_get, le-leb, ltb-true, length-append}
use Rattle.std.specs.Cmp.{first_so, second_so}
use Rattle.std.specs.List.{list_all}
use Rattle.std.proofs.lemmas.Bool.{and_from, false_from_ne_true}
use Rattle.lemmas.proofs.ListTests.{all_push}
use Rattle.sexpr_text.specs.Trees.{Trees, nothing, word, list}
use Rattle.task_model.specs.Fit.{AreFitObjects, AreNames, are_places, is_name}
use Rattle.lemmas.specs.Lists.{AreDistinct}
use Rattle.task_model.specs.declared.domain.Declared as declared
use Rattle.task_model.specs.declared.domain.Domain.{Domain}
use Rattle.form_reader.specs.declared.groups.Spot.{Spot}
use Rattle.form_reader.specs.declared.groups.Spot.TheVariants.{Start}
use Rattle.form_reader.specs.declared.words.WordSort.TheVariants.{Name}
use Rattle.form_reader.specs.Rows.{after_word, groups_faults}
use Rattle.name_tables.specs.Declarations.{Typed, declare, declare_each, declared_by, declared_list, number_put, put_number}
use Rattle.name_tables.specs.Names.{has_name, table_place, with_table_name}
use Rattle.name_tables.specs.Variables.{is_named, named_sorts, named_words, seen_after, types_names}
use Rattle.name_tables.proofs.GraphsOrderLemmas.{Ascends, ascends_places, ascends_with}
use Rattle.name_tables.proofs.FitGroups.{sort_places, sorts_as_long, words_are_names}
use Rattle.name_tables.proofs.NamesLemmas.{name_there, place_named, place_there}
use Rattle.task_model.proofs.KnownLemmas.{with_name-distinct}
use Rattle.task_model.specs.Known.{with_names}

-- ---- one name more

pub named_with : (names : List (List ℕ)) (name : List ℕ) → list_all is_name names ≡ true
    → is_name name ≡ true → list_all is_name (with_table_name names name) ≡ true
named_with names name all one =
    elim (has_name name names) as (λ b. list_all is_name (cond b names (names ++ name ∷ [])) ≡ true) [
      | true ↦ all
      | false ↦ all_push is_name names name all one
    ]

-- ---- names behind others, each once

pub named_names : (names ns : List (List ℕ)) → list_all is_name names ≡ true
    → list_all is_name ns ≡ true → list_all is_name (with_names names ns) ≡ true
named_names names [] e f = e
named_names names (n ∷ ns) e f =
    named_names (with_table_name names n) ns (named_with names n e (first_so (is_name n) (list_all is_name ns) f))
    (second_so (is_name n) (list_all is_name ns) f)

pub seen_names : (names : List (List ℕ)) (spot : Spot) (ts : Trees)
    → seen_after names spot ts ≡ with_names names (named_words spot ts)
seen_names names spot nothing = refl
seen_names names spot (list items at rest) = refl
seen_names names spot (word text at rest) =
    seen_names (cond (is_named spot text) (with_table_name names text) names) (after_word spot text) rest
    ∙ elim (is_named spot text) as (λ b.
    with_names (cond b (with_table_name names text) names) (named_words (after_word spot text) rest)
    ≡ with_names names (cond b (text ∷ named_words (after_word spot text) rest) (named_words (after_word spot text) rest))) [
      | true ↦ refl
      | false ↦ refl
    ]

-- ---- names with their types

-- each list ascends, of places of a list of this size
abbrev pub AllAscend : ℕ → List (List ℕ) → Type 0
AllAscend size [] = Unit {0}
AllAscend size (ns ∷ lists) = Ascends 0 size ns × AllAscend size lists

pub record AreTyped (size : ℕ) (t : Typed) : Type 0 where
  pub distinct : AreDistinct t.names
  pub named : list_all is_name t.names ≡ true
  pub even : length t.names ≡ length t.sorts
  pub ascend : AllAscend size t.sorts

push_ascends : (size : ℕ) (lists : List (List ℕ)) (n : ℕ) → n < size → AllAscend size lists
    → AllAscend size (lists ++ (n ∷ []) ∷ [])
push_ascends size [] n lt a = ((omega arith, lt, tt), tt)
push_ascends size (ns ∷ lists) n lt a = (a.0, push_ascends size lists n lt a.1)

pub put_behind : (ns : List ℕ) (lists : List (List ℕ)) (place n : ℕ) (o : Option (List ℕ))
    → put_number (ns ∷ lists) (suc place) n o ≡ ns ∷ put_number lists place n o
put_behind ns lists place n None = refl
put_behind ns lists place n (Some old) = refl

put_ascends : (size : ℕ) (lists : List (List ℕ)) (place n : ℕ) → n < size → AllAscend size lists
    → AllAscend size (number_put lists place n)
put_ascends size [] place n lt a = tt
put_ascends size (ns ∷ lists) zero n lt a = (ascends_with 0 size ns n (omega arith) lt a.0, a.1)
put_ascends size (ns ∷ lists) (suc place) n lt a =
    subst (AllAscend size) (sym (put_behind ns lists place n (slice_get lists place))) (a.0, put_ascends size lists place n lt a.1)

pub put_long : (lists : List (List ℕ)) (place n : ℕ)
    → length (number_put lists place n) ≡ length lists
put_long [] place n = refl
put_long (ns ∷ lists) zero n = refl
put_long (ns ∷ lists) (suc place) n =
    ap length (put_behind ns lists place n (slice_get lists place))
    ∙ ap suc (put_long lists place n)

typed_by : (size : ℕ) (t : Typed) (name : List ℕ) (sort : ℕ) (o : Option ℕ)
    → table_place name t.names ≡ o → AreTyped size t → is_name name ≡ true → sort < size
    → AreTyped size (declared_by t name sort o)
typed_by size t name sort (Some place) e a one lt = record {
  distinct = a.distinct;
  named = a.named;
  even = a.even ∙ sym (put_long t.sorts place sort);
  ascend = put_ascends size t.sorts place sort lt a.ascend;
}
typed_by size t name sort None e a one lt =
    let absent : has_name name t.names ≡ false =
    false_from_ne_true (has_name name t.names)
    (λ h. let found = place_there name t.names h in let none : None ≡ Some found.0 = sym e ∙ found.1 in cc) in
    record {
      distinct = with_name-distinct t.names name a.distinct;
      named = named_with t.names name a.named one;
      even =
          ap (λ b. length (cond b t.names (t.names ++ name ∷ []))) absent
          ∙ length-append t.names (name ∷ []) ∙ ap (λ n. n + 1) a.even
          ∙ sym (length-append t.sorts ((sort ∷ []) ∷ []));
      ascend = push_ascends size t.sorts sort lt a.ascend;
    }

pub typed_each : (size : ℕ) (t : Typed) (ns : List (List ℕ)) (ss : List ℕ) → AreTyped size t
    → list_all is_name ns ≡ true → list_all (λ n. nat_lt n size) ss ≡ true
    → AreTyped size (declare_each t ns ss)
typed_each size t [] ss a e f = a
typed_each size t (n ∷ ns) [] a e f = a
typed_each size t (n ∷ ns) (s ∷ ss) a e f =
    typed_each size (declare t n s) ns ss
    (typed_by size t n s (table_place n t.names) refl a
    (first_so (is_name n) (list_all is_name ns) e) (ltb-true s size (first_so (nat_lt s size) (list_all (λ n. nat_lt n size) ss) f)))
    (second_so (is_name n) (list_all is_name ns) e) (second_so (nat_lt s size) (list_all (λ n. nat_lt n size) ss) f)

-- a list of names with types, as it stands in a text
pub typed_groups : (sorts : List (List ℕ)) (t : Typed) (place : ℕ) (ts : Trees) → 0 < length sorts
    → AreTyped (length sorts) t → groups_faults Name place Start ts ≡ []
    → types_names sorts Start ts ≡ []
    → AreTyped (length sorts) (declare_each t (named_words Start ts) (named_sorts sorts Start 0 ts))
typed_groups sorts t place ts typed a f n =
    typed_each (length sorts) t (named_words Start ts) (named_sorts sorts Start 0 ts) a
    (words_are_names place Start ts f) (sort_places sorts typed Start 0 ts n)

-- ---- the names of what is declared

declared_name : (t : Typed) (name : List ℕ) (sort : ℕ) (o : Option ℕ) → table_place name t.names ≡ o
    → (declared_by t name sort o).names ≡ with_table_name t.names name
declared_name t name sort None e = refl
declared_name t name sort (Some place) e =
    sym (ap (λ b. cond b t.names (t.names ++ name ∷ [])) (name_there name t.names place (place_named name t.names place e)))

pub declared_names : (t : Typed) (ns : List (List ℕ)) (ss : List ℕ) → length ss ≡ length ns
    → (declare_each t ns ss).names ≡ with_names t.names ns
declared_names t [] ss e = refl
declared_names t (n ∷ ns) [] e = absurd (omega arith)
declared_names t (n ∷ ns) (s ∷ ss) e =
    declared_names (declare t n s) ns ss (omega arith)
    ∙ ap (λ m. with_names m ns) (declared_name t n s (table_place n t.names) refl)

pub groups_declared : (sorts : List (List ℕ)) (t : Typed) (ts : Trees)
    → (declare_each t (named_words Start ts) (named_sorts sorts Start 0 ts)).names ≡ with_names t.names (named_words Start ts)
groups_declared sorts t ts =
    declared_names t (named_words Start ts) (named_sorts sorts Start 0 ts) (sorts_as_long sorts ts)

-- ---- as the task has them

pub list_named : (ns ss : List (List ℕ)) → length ns ≡ length ss
    → map (λ (d : declared.Declared). d.name) (declared_list ns ss) ≡ ns
list_named [] ss e = refl
list_named (n ∷ ns) [] e = absurd (omega arith)
list_named (n ∷ ns) (s ∷ ss) e = ap (λ ms. n ∷ ms) (list_named ns ss (omega arith))

pub list_long : (ns ss : List (List ℕ)) → length ns ≡ length ss
    → length (declared_list ns ss) ≡ length ns
list_long [] ss e = refl
list_long (n ∷ ns) [] e = absurd (omega arith)
list_long (n ∷ ns) (s ∷ ss) e = ap suc (list_long ns ss (omega arith))

list_typed : (size : ℕ) (ns ss : List (List ℕ)) → size ≤ 8388608 → AllAscend size ss
    → list_all (λ (d : declared.Declared). are_places size d.sorts) (declared_list ns ss) ≡ true
list_typed size [] ss few a = refl
list_typed size (n ∷ ns) [] few a = refl
list_typed size (n ∷ ns) (s ∷ ss) few a =
    and_from (are_places size s) (list_all (λ (d : declared.Declared). are_places size d.sorts) (declared_list ns ss))
    (ascends_places size s few a.0) (list_typed size ns ss few a.1)

-- names with types are fit as constants or objects of a domain with so many types
pub typed_fit : (domain : Domain) (t : Typed) → length domain.sorts ≤ 8388608
    → length t.names ≤ 8388608 → AreTyped (length domain.sorts) t
    → AreFitObjects domain (declared_list t.names t.sorts)
typed_fit domain t few short a = record {
  names = subst AreNames (sym (list_named t.names t.sorts a.even)) (record { each = a.named; distinct = a.distinct });
  types = list_typed (length domain.sorts) t.names t.sorts few a.ascend;
  short = le-leb (length (declared_list t.names t.sorts)) 8388608 (omega (arith, list_long t.names t.sorts a.even));
}
