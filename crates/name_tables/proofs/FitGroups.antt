-- Names and variables with types, where they have no faults.
use Rattle.std.proofs.Common.{◌≡◌, ℕ, zero, suc, ◌+◌, ◌<◌, ◌≤◌, Bool, true, false, not, ◌==◌, nat_lt, List, [], ◌∷◌, ◌++◌, length, refl, sym, ap, ◌∙◌, subst, arith, unwrap_or, le-leb, lt-ltb, length-append, if◌then◌else◌}
use Rattle.std.specs.List.{list_all}
use Rattle.std.proofs.lemmas.Bool.{and_from, eqb-false, not-true}
use Rattle.lemmas.proofs.Members.{append_nil_first, append_nil_second}
use Rattle.lemmas.proofs.ListTests.{all_append}
use Rattle.sexpr_text.specs.Trees.{Trees, nothing, word, list}
use Rattle.task_model.specs.Fit.{are_places, is_name, is_short}
use Rattle.form_reader.specs.declared.groups.Spot.{Spot}
use Rattle.form_reader.specs.declared.groups.Spot.TheVariants.{Start, Named, Typed}
use Rattle.form_reader.specs.declared.words.WordSort.TheVariants.{Name}
use Rattle.form_reader.specs.declared.fault.InputKind.TheVariants.{Unknown, TooMany}
use Rattle.form_reader.specs.Faults.{shape}
use Rattle.form_reader.specs.Rows.{after_word, groups_faults, is_dash}
use Rattle.name_tables.specs.Names.{has_name}
use Rattle.name_tables.specs.Variables.{copies, is_named, named_sorts, named_words, scope_names, sort_of, types_names, unless}
use Rattle.name_tables.proofs.NoFaultLemmas.{chosen, met}
use Rattle.name_tables.proofs.NamesLemmas.{place_there, place_within}

-- ---- as many types as names

pub copies_long : (k n : ℕ) → length (copies k n) ≡ k
copies_long zero n = refl
copies_long (suc k) n = ap suc (copies_long k n)

pub sorts_long : (sorts : List (List ℕ)) (spot : Spot) (waiting : ℕ) (ts : Trees)
    → length (named_sorts sorts spot waiting ts) ≡ waiting + length (named_words spot ts)
sorts_long sorts spot waiting nothing = copies_long waiting 0 ∙ omega arith
sorts_long sorts spot waiting (list items at rest) = copies_long waiting 0 ∙ omega arith
sorts_long sorts Start waiting (word text at rest) =
    sorts_long sorts Named (waiting + 1) rest ∙ omega arith
sorts_long sorts Named waiting (word text at rest) =
    elim (is_dash text) as (λ b.
    length (if not b then named_sorts sorts Named (waiting + 1) rest else named_sorts sorts Typed waiting rest)
    ≡ waiting
    + length
    (if not b then text ∷ named_words (if b then Typed else Named) rest else named_words (if b then Typed else Named) rest)) [
      | true ↦ sorts_long sorts Typed waiting rest
      | false ↦ sorts_long sorts Named (waiting + 1) rest ∙ omega arith
    ]
sorts_long sorts Typed waiting (word text at rest) =
    length-append (copies waiting (sort_of sorts text)) (named_sorts sorts Start 0 rest)
    ∙ ap (λ n. n + length (named_sorts sorts Start 0 rest)) (copies_long waiting (sort_of sorts text))
    ∙ ap (λ n. waiting + n) (sorts_long sorts Start 0 rest) ∙ omega arith

pub sorts_as_long : (sorts : List (List ℕ)) (ts : Trees)
    → length (named_sorts sorts Start 0 ts) ≡ length (named_words Start ts)
sorts_as_long sorts ts = sorts_long sorts Start 0 ts ∙ omega arith

-- ---- each type is there

all_copies : (p : ℕ → Bool) (k n : ℕ) → p n ≡ true → list_all p (copies k n) ≡ true
all_copies p zero n t = refl
all_copies p (suc k) n t = and_from (p n) (list_all p (copies k n)) t (all_copies p k n t)

pub sort_there : (sorts : List (List ℕ)) (text : List ℕ) → has_name text sorts ≡ true
    → sort_of sorts text < length sorts
sort_there sorts text e =
    let found = place_there text sorts e in
    subst (λ n. n < length sorts) (ap (λ o. unwrap_or o 0) (sym found.1)) (place_within text sorts found.0 found.1)

module _ (sorts : List (List ℕ)) (typed : 0 < length sorts) where
  abbrev is_place : ℕ → Bool
  is_place n = nat_lt n (length sorts)

  first_place : is_place 0 ≡ true
  first_place = lt-ltb 0 (length sorts) typed

  pub sort_places : (spot : Spot) (waiting : ℕ) (ts : Trees) → types_names sorts spot ts ≡ []
      → list_all (λ n. nat_lt n (length sorts)) (named_sorts sorts spot waiting ts) ≡ true
  sort_places spot waiting nothing e = all_copies is_place waiting 0 first_place
  sort_places spot waiting (list items at rest) e = all_copies is_place waiting 0 first_place
  sort_places Start waiting (word text at rest) e = sort_places Named (waiting + 1) rest e
  sort_places Named waiting (word text at rest) e =
      elim (is_dash text) as (λ b.
      types_names sorts (if b then Typed else Named) rest ≡ []
      → list_all (λ n. nat_lt n (length sorts))
      (if not b then named_sorts sorts Named (waiting + 1) rest else named_sorts sorts Typed waiting rest)
      ≡ true) [
        | true ↦ λ f. sort_places Typed waiting rest f
        | false ↦ λ f. sort_places Named (waiting + 1) rest f
      ] e
  sort_places Typed waiting (word text at rest) e =
      let there =
      met (has_name text sorts) Unknown at
      (append_nil_first (unless (has_name text sorts) Unknown at) (types_names sorts Start rest) e) in
      all_append is_place (copies waiting (sort_of sorts text)) (named_sorts sorts Start 0 rest)
      (all_copies is_place waiting (sort_of sorts text) (lt-ltb (sort_of sorts text) (length sorts) (sort_there sorts text there)))
      (sort_places Start 0 rest (append_nil_second (unless (has_name text sorts) Unknown at) (types_names sorts Start rest) e))

  -- the types of few names are places in the list of types
  pub few_places : (ts : Trees) → length (named_words Start ts) ≤ 8388608
      → types_names sorts Start ts ≡ []
      → are_places (length sorts) (named_sorts sorts Start 0 ts) ≡ true
  few_places ts few e =
      and_from (is_short (named_sorts sorts Start 0 ts)) (list_all is_place (named_sorts sorts Start 0 ts))
      (le-leb (length (named_sorts sorts Start 0 ts)) 8388608 (omega (arith, sorts_as_long sorts ts))) (sort_places Start 0 ts e)

-- ---- how many variables are in scope

pub scope_bound : (size : ℕ) (spot : Spot) (ts : Trees) → size ≤ 16 → scope_names size spot ts ≡ []
    → size + length (named_words spot ts) ≤ 16
scope_bound size spot nothing few e = omega arith
scope_bound size spot (list items at rest) few e = omega arith
scope_bound size spot (word text at rest) few e =
    elim (is_named spot text) as (λ b.
    (if b then unless (not (size == 16)) TooMany at else []) ++ scope_names (if b then size + 1 else size) (after_word spot text) rest
    ≡ []
    → size + length (if b then text ∷ named_words (after_word spot text) rest else named_words (after_word spot text) rest) ≤ 16) [
      | true ↦ λ f.
          let room : (size == 16) ≡ false =
          not-true (size == 16) (met (not (size == 16)) TooMany at
          (append_nil_first (unless (not (size == 16)) TooMany at) (scope_names (size + 1) (after_word spot text) rest) f)) in
          let more : (size + 1) + length (named_words (after_word spot text) rest) ≤ 16 =
          scope_bound (size + 1) (after_word spot text) rest (omega (arith, eqb-false size 16 room))
          (append_nil_second (unless (not (size == 16)) TooMany at) (scope_names (size + 1) (after_word spot text) rest) f) in
          omega arith
      | false ↦ λ f. scope_bound size (after_word spot text) rest few f
    ] e

-- ---- each name is one

pub words_are_names : (place : ℕ) (spot : Spot) (ts : Trees) → groups_faults Name place spot ts ≡ []
    → list_all is_name (named_words spot ts) ≡ true
words_are_names place spot nothing e = refl
words_are_names place spot (list items at rest) e = refl
words_are_names place Start (word text at rest) e =
    let parts = chosen (is_name text) (groups_faults Name place Named rest) (shape at) [] e in
    and_from (is_name text) (list_all is_name (named_words Named rest)) parts.0 (words_are_names place Named rest parts.1)
words_are_names place Named (word text at rest) e =
    elim (is_dash text) as (λ b.
    (if (if b then true else is_name text) then groups_faults Name place (if b then Typed else Named) rest else shape at ∷ []) ≡ []
    → list_all is_name
    (if not b then text ∷ named_words (if b then Typed else Named) rest else named_words (if b then Typed else Named) rest)
    ≡ true) [
      | true ↦ λ f. words_are_names place Typed rest f
      | false ↦ λ f.
          let parts = chosen (is_name text) (groups_faults Name place Named rest) (shape at) [] f in
          and_from (is_name text) (list_all is_name (named_words Named rest)) parts.0 (words_are_names place Named rest parts.1)
    ] e
words_are_names place Typed (word text at rest) e =
    words_are_names place Start rest (chosen (is_name text) (groups_faults Name place Start rest) (shape at) [] e).1
