-- Which predicates are derived, and that they are few.
use Rattle.std.proofs.Common.{◌≡◌, ℕ, zero, suc, ◌+◌, ◌<◌, ◌≤◌, Bool, true, false, ◌||◌, not, ◌==◌, cond, if◌then◌else◌, List, [], ◌∷◌, ◌++◌, map, length, count_by, refl, sym, ap, ◌∙◌, subst, arith, inl, inr, Some, slice_get, unwrap_or, eqb-true, eq-eqb, length-append}
use Rattle.std.specs.List.{list_any}
use Rattle.std.proofs.lemmas.Bool.{and_from, or_cases, or_left, or_right, eqb-false, not-true, false_from_ne_true}
use Rattle.std.proofs.lemmas.List.{length-map}
use Rattle.std.proofs.lemmas.List.Sums.{sum_by-cons}
use Rattle.std.proofs.lemmas.Option.{same_Some}
use Rattle.lemmas.proofs.Members.{append_nil_first, append_nil_second}
use Rattle.sexpr_text.specs.Trees.{Trees, nothing, word, list}
use Rattle.task_model.specs.Fit.{is_derived_role}
use Rattle.lemmas.specs.Lists.{numbers_from}
use Rattle.task_model.specs.Roles as roles
use Rattle.task_model.specs.Roles.{role_of}
use Rattle.task_model.specs.declared.domain.Derived as rule
use Rattle.task_model.specs.declared.domain.Domain as domain
use Rattle.task_model.specs.declared.domain.Role.TheVariants.{Static, Fluent, Derived}
use Rattle.form_reader.specs.declared.fault.InputKind.TheVariants.{TooMany}
use Rattle.form_reader.specs.declared.items.TextKind.TheVariants as text
use Rattle.form_reader.specs.Items.{item_of}
use Rattle.form_reader.specs.Rows.{head_of, tail_of}
use Rattle.name_tables.specs.Names.{has_name, table_place, with_table_name}
use Rattle.name_tables.specs.declared.vocabulary.Vocabulary.{Vocabulary}
use Rattle.name_tables.proofs.NoFaultLemmas.{met}
use Rattle.name_tables.proofs.NamesLemmas.{name_found, name_there, place_named, has_with}
use Rattle.domain_reader.proofs.FitItems.{AreClean, IsClean}
use Rattle.domain_reader.proofs.FitNames.{Known, known_with}
use Rattle.domain_reader.proofs.FitRules.{derived_rule, rule_pred, rule_there}
use Rattle.domain_reader.specs.Domains.{rule_of, rules_of}
use Rattle.domain_reader.specs.Names.{counts_as_derived, crowded, seen_once, too_many_derived}
use Rattle.domain_reader.specs.Tables.{headed, heads_in, is_derived_item}

-- a role is Derived where an item heads the predicate
pub derived_by : (d : domain.Domain) (pred : ℕ)
    → is_derived_role (role_of d pred) ≡ roles.is_derived d pred
unfolding role_of
derived_by d pred =
    elim (roles.is_derived d pred) as
    (λ b. is_derived_role (if b then Derived else (if roles.is_changed d pred then Fluent else Static)) ≡ b) [
      | true ↦ refl
      | false ↦ elim (roles.is_changed d pred) as (λ c. is_derived_role (if c then Fluent else Static) ≡ false) [
        | true ↦ refl
        | false ↦ refl
      ]
    ]

-- ---- what items head

abbrev is_headed : ℕ → rule.Derived → Bool
is_headed pred r = r.pred == pred

heads_kept : (names : List (List ℕ)) (body : Trees) → Known names (heads_in names body)
heads_kept names nothing n h = h
heads_kept names (word w at rest) n h = heads_kept names rest n h
heads_kept names (list items at rest) n h =
    elim (is_derived_item (item_of text.Domain (head_of items))) as
    (λ b. has_name n (heads_in (if b then with_table_name names (headed items) else names) rest) ≡ true) [
      | true ↦ heads_kept (with_table_name names (headed items)) rest n (known_with names (headed items) n h)
      | false ↦ heads_kept names rest n h
    ]

-- the names of derived predicates that are there
abbrev counted_in : (predicates names : List (List ℕ)) → Trees → List (List ℕ)
counted_in predicates names nothing = names
counted_in predicates names (word w at rest) = counted_in predicates names rest
counted_in predicates names (list items at rest) =
    counted_in predicates (seen_once (counts_as_derived predicates items) (headed items) names) rest

counted_kept : (predicates names : List (List ℕ)) (body : Trees)
    → Known names (counted_in predicates names body)
counted_kept predicates names nothing n h = h
counted_kept predicates names (word w at rest) n h = counted_kept predicates names rest n h
counted_kept predicates names (list items at rest) n h =
    elim (counts_as_derived predicates items) as
    (λ b. has_name n (counted_in predicates (if b then with_table_name names (headed items) else names) rest) ≡ true) [
      | true ↦ counted_kept predicates (with_table_name names (headed items)) rest n (known_with names (headed items) n h)
      | false ↦ counted_kept predicates names rest n h
    ]

-- a predicate that an item heads: its name heads the item, and is counted
pub record IsDerivedName (v : Vocabulary) (heads counted : List (List ℕ)) (pred : ℕ) : Type 0 where
  pub name : List ℕ
  pub place : table_place name v.predicates.names ≡ Some pred
  pub is_head : has_name name heads ≡ true
  pub counts : has_name name counted ≡ true

module _ (v : Vocabulary) (clean_heads : List (List ℕ)) where
  abbrev predicates : List (List ℕ)
  predicates = v.predicates.names

  headed_name : (items rest : Trees) (names counted : List (List ℕ)) (pred : ℕ)
      → is_derived_item (item_of text.Domain (head_of items)) ≡ true
      → IsClean v clean_heads (item_of text.Domain (head_of items)) (tail_of items)
      → ((rule_of v (tail_of items)).pred == pred) ≡ true →
      IsDerivedName v
      (heads_in (if is_derived_item (item_of text.Domain (head_of items)) then with_table_name names (headed items) else names) rest)
      (counted_in predicates (seen_once (counts_as_derived predicates items) (headed items) counted) rest) pred
  headed_name items rest names counted pred e c same =
      let it = item_of text.Domain (head_of items) in
      let found = rule_there v (tail_of items) (derived_rule v clean_heads it (tail_of items) e c) in
      let at : table_place (headed items) predicates ≡ Some pred =
      found.1 ∙ ap Some (sym (rule_pred v (tail_of items) found.0 found.1) ∙ eqb-true (rule_of v (tail_of items)).pred pred same) in
      let there : has_name (headed items) predicates ≡ true =
      name_there (headed items) predicates pred (place_named (headed items) predicates pred at) in
      let counts : counts_as_derived predicates items ≡ true = and_from (is_derived_item it) (has_name (headed items) predicates) e there in
      record {
        name = headed items;
        place = at;
        is_head = subst (λ b. has_name (headed items) (heads_in (if b then with_table_name names (headed items) else names) rest) ≡ true)
            (sym e) (heads_kept (with_table_name names (headed items)) rest (headed items) (has_with names (headed items)));
        counts = subst
            (λ b. has_name (headed items) (counted_in predicates (if b then with_table_name counted (headed items) else counted) rest) ≡ true)
            (sym counts) (counted_kept predicates (with_table_name counted (headed items)) rest (headed items) (has_with counted (headed items)));
      }

  pub headed_names : (names counted : List (List ℕ)) (body : Trees) (pred : ℕ)
      → AreClean v clean_heads body → list_any (is_headed pred) (rules_of v body) ≡ true
      → IsDerivedName v (heads_in names body) (counted_in predicates counted body) pred
  headed_names names counted nothing pred c h = absurd (cc)
  headed_names names counted (word w at rest) pred c h = headed_names names counted rest pred c h
  headed_names names counted (list items at rest) pred c h =
      let it = item_of text.Domain (head_of items) in
      elim (is_derived_item it) as (λ b.
      is_derived_item it ≡ b → list_any (is_headed pred) ((if b then rule_of v (tail_of items) ∷ [] else []) ++ rules_of v rest) ≡ true
      → IsDerivedName v (heads_in (if is_derived_item it then with_table_name names (headed items) else names) rest)
      (counted_in predicates (seen_once (counts_as_derived predicates items) (headed items) counted) rest) pred) [
        | true ↦ λ e g. elim (or_cases ((rule_of v (tail_of items)).pred == pred) (list_any (is_headed pred) (rules_of v rest)) g) [
          | inl same ↦ headed_name items rest names counted pred e c.0 same
          | inr more ↦
              headed_names (if is_derived_item it then with_table_name names (headed items) else names)
              (seen_once (counts_as_derived predicates items) (headed items) counted) rest pred c.1 more
        ]
        | false ↦ λ e g. headed_names (if is_derived_item it then with_table_name names (headed items) else names)
            (seen_once (counts_as_derived predicates items) (headed items) counted) rest pred c.1 g
      ] refl h

-- ---- an effect's predicate isn't derived

module _ (d : domain.Domain) (v : Vocabulary) (clean_heads : List (List ℕ)) (body : Trees)
    (clean : AreClean v clean_heads body) (rules : d.derived ≡ rules_of v body) where
  derived_named : (pred : ℕ) → is_derived_role (role_of d pred) ≡ true
      → IsDerivedName v (heads_in [] body) (counted_in v.predicates.names [] body) pred
  derived_named pred h =
      headed_names v clean_heads [] [] body pred clean
      (subst (λ rs. list_any (is_headed pred) rs ≡ true) rules (sym (derived_by d pred) ∙ h))

  pub not_derived : (name : List ℕ) (pred : ℕ) → table_place name v.predicates.names ≡ Some pred
      → has_name name (heads_in [] body) ≡ false → is_derived_role (role_of d pred) ≡ false
  not_derived name pred at absent =
      false_from_ne_true (is_derived_role (role_of d pred))
      (λ h.
      let found = derived_named pred h in
      let same : name ≡ found.name =
      same_Some name found.name
      (sym (place_named name v.predicates.names pred at) ∙ place_named found.name v.predicates.names pred found.place) in
      let there : has_name name (heads_in [] body) ≡ true = subst (λ n. has_name n (heads_in [] body) ≡ true) (sym same) found.is_head in
      let clash : true ≡ false = sym there ∙ absent in cc)

-- ---- few predicates are derived

counted_few : (predicates names : List (List ℕ)) (body : Trees) → length names ≤ 64
    → too_many_derived predicates names body ≡ [] → length (counted_in predicates names body) ≤ 64
counted_few predicates names nothing few n = few
counted_few predicates names (word w at rest) few n = counted_few predicates names rest few n
counted_few predicates names (list items at rest) few n =
    elim (counts_as_derived predicates items) as
    (λ b. crowded b (headed items) at names ++ too_many_derived predicates (seen_once b (headed items) names) rest ≡ []
    → length (counted_in predicates (seen_once b (headed items) names) rest) ≤ 64) [
      | true ↦ λ m.
          let own = crowded true (headed items) at names in
          let room : (has_name (headed items) names || not (length names == 64)) ≡ true =
          met (has_name (headed items) names || not (length names == 64)) TooMany at
          (append_nil_first own (too_many_derived predicates (with_table_name names (headed items)) rest) m) in
          counted_few predicates (with_table_name names (headed items)) rest (grown names (headed items) few room)
          (append_nil_second own (too_many_derived predicates (with_table_name names (headed items)) rest) m)
      | false ↦ λ m. counted_few predicates names rest few m
    ] n
  where
    grown : (names : List (List ℕ)) (name : List ℕ) → length names ≤ 64
        → (has_name name names || not (length names == 64)) ≡ true
        → length (with_table_name names name) ≤ 64
    grown names name few room =
        elim (has_name name names) as
        (λ b. (b || not (length names == 64)) ≡ true
        → length (if b then names else names ++ name ∷ []) ≤ 64) [
          | true ↦ λ _. few
          | false ↦ λ r. omega (arith, few, length-append names (name ∷ []), eqb-false (length names) 64 (not-true (length names == 64) r))
        ] room

-- how many pass
abbrev how_many : {A : Type 0} → (A → Bool) → List A → ℕ
how_many p [] = 0
how_many p (x ∷ xs) = cond (p x) 1 0 + how_many p xs

how_many_is : {A : Type 0} (p : A → Bool) (xs : List A) → count_by p xs ≡ how_many p xs
how_many_is p [] = refl
how_many_is p (x ∷ xs) =
    sum_by-cons (λ y. cond (p y) 1 0) x xs ∙ ap (λ n. cond (p x) 1 0 + n) (how_many_is p xs)

-- at most one number of a row is this one
one_counted : (m first count : ℕ) → how_many (λ k. m == k) (numbers_from first count) ≤ 1
one_counted m first zero = omega arith
one_counted m first (suc count) =
    elim (m == first) as (λ b. (m == first) ≡ b → cond b 1 0 + how_many (λ k. m == k) (numbers_from (first + 1) count) ≤ 1) [
      | true ↦ λ e. omega (arith, none_counted m (first + 1) count (omega (arith, eqb-true m first e)))
      | false ↦ λ _. omega (arith, one_counted m (first + 1) count)
    ] refl
  where
    none_counted : (m first count : ℕ) → m < first
        → how_many (λ k. m == k) (numbers_from first count) ≡ 0
    none_counted m first zero lt = refl
    none_counted m first (suc count) lt =
        ap (λ b. cond b 1 0 + how_many (λ k. m == k) (numbers_from (first + 1) count))
        (false_from_ne_true (m == first) (λ e. omega (arith, eqb-true m first e)))
        ∙ ap (λ n. 0 + n) (none_counted m (first + 1) count (omega arith))

either_counted : (p q : ℕ → Bool) (ks : List ℕ)
    → how_many (λ k. p k || q k) ks ≤ how_many p ks + how_many q ks
either_counted p q [] = omega arith
either_counted p q (k ∷ ks) =
    elim (p k) as
    (λ b. cond (b || q k) 1 0 + how_many (λ n. p n || q n) ks ≤ (cond b 1 0 + how_many p ks) + (cond (q k) 1 0 + how_many q ks)) [
      | true ↦ omega (arith, either_counted p q ks)
      | false ↦ omega (arith, either_counted p q ks)
    ]

among_counted : (ms : List ℕ) (first count : ℕ)
    → how_many (λ k. list_any (λ m. m == k) ms) (numbers_from first count) ≤ length ms
among_counted [] first zero = omega arith
among_counted [] first (suc count) = omega (arith, among_counted [] (first + 1) count)
among_counted (m ∷ ms) first count =
    omega (
      arith,
      either_counted (λ k. m == k) (λ k. list_any (λ n. n == k) ms) (numbers_from first count),
      one_counted m first count,
      among_counted ms first count,
    )

fewer_counted : (p q : ℕ → Bool) → ((k : ℕ) → p k ≡ true → q k ≡ true) → (ks : List ℕ)
    → how_many p ks ≤ how_many q ks
fewer_counted p q so [] = omega arith
fewer_counted p q so (k ∷ ks) =
    elim (p k) as (λ b. p k ≡ b → cond b 1 0 + how_many p ks ≤ cond (q k) 1 0 + how_many q ks) [
      | true ↦ λ e. subst (λ b. 1 + how_many p ks ≤ cond b 1 0 + how_many q ks) (sym (so k e)) (omega (arith, fewer_counted p q so ks))
      | false ↦ λ _. omega (arith, fewer_counted p q so ks)
    ] refl

mapped_counted : {A B : Type 0} (f : A → B) (p : B → Bool) (xs : List A)
    → how_many p (map f xs) ≡ how_many (λ x. p (f x)) xs
mapped_counted f p [] = refl
mapped_counted f p (x ∷ xs) = ap (λ n. cond (p (f x)) 1 0 + n) (mapped_counted f p xs)

-- the places of names
abbrev places_in : List (List ℕ) → List (List ℕ) → List ℕ
places_in table names = map (λ name. unwrap_or (table_place name table) 0) names

place_among : (table names : List (List ℕ)) (name : List ℕ) (i k : ℕ)
    → slice_get names i ≡ Some name → table_place name table ≡ Some k
    → list_any (λ m. m == k) (places_in table names) ≡ true
place_among table [] name i k e at = absurd (cc)
place_among table (n ∷ ns) name zero k e at =
    let same : n ≡ name = same_Some n name e in
    or_left (unwrap_or (table_place n table) 0 == k) (list_any (λ m. m == k) (places_in table ns))
    (eq-eqb (unwrap_or (table_place n table) 0) k (ap (λ m. unwrap_or (table_place m table) 0) same ∙ ap (λ o. unwrap_or o 0) at))
place_among table (n ∷ ns) name (suc i) k e at =
    or_right (unwrap_or (table_place n table) 0 == k) (list_any (λ m. m == k) (places_in table ns)) (place_among table ns name i k e at)

pub few_derived : (d : domain.Domain) (v : Vocabulary) (clean_heads : List (List ℕ)) (body : Trees)
    → AreClean v clean_heads body → d.derived ≡ rules_of v body
    → too_many_derived v.predicates.names [] body ≡ []
    → d.roles ≡ map (role_of d) (numbers_from 0 (length d.predicates))
    → count_by is_derived_role d.roles ≤ 64
few_derived d v clean_heads body clean rules none roles =
    let table = v.predicates.names in
    let counted = counted_in table [] body in
    let places = places_in table counted in
    let among : (k : ℕ) → is_derived_role (role_of d k) ≡ true → list_any (λ m. m == k) places ≡ true = λ k h.
    let found = derived_named d v clean_heads body clean rules k h in
    let at = name_found found.name counted found.counts in
    place_among table counted found.name at.0 k at.1 found.place in
    omega (
      arith,
      ap (count_by is_derived_role) roles ∙ how_many_is is_derived_role (map (role_of d) (numbers_from 0 (length d.predicates)))
          ∙ mapped_counted (role_of d) is_derived_role (numbers_from 0 (length d.predicates)),
      fewer_counted (λ k. is_derived_role (role_of d k)) (λ k. list_any (λ m. m == k) places) among (numbers_from 0 (length d.predicates)),
      among_counted places 0 (length d.predicates),
      length-map counted (λ name. unwrap_or (table_place name table) 0),
      counted_few table [] body (omega arith) none,
    )
