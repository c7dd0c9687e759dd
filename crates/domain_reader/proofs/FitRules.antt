-- The derived predicates of a domain without faults are fit.
use Rattle.std.proofs.Common.{◌≡◌, ℕ, ◌+◌, ◌≤◌, true, false, ◌&&◌, nat_le, if◌then◌else◌, List, [], ◌∷◌, ◌++◌, length, refl, sym, ap, ◌∙◌, subst, arith, Option, Some, None, unwrap_or, le-leb, leb-true}
use Rattle.std.specs.List.{list_all}
use Rattle.std.proofs.lemmas.Bool.{and_from}
use Rattle.lemmas.proofs.Members.{append_nil_first, append_nil_second}
use Rattle.lemmas.proofs.ListTests.{all_append}
use Rattle.sexpr_text.specs.Trees.{Trees, nothing, word, list, depth, place_of_first as tree_place, size}
use Rattle.task_model.specs.Fit.{are_fit_params, are_places, has_arity, is_fit_condition, is_fit_item}
use Rattle.lemmas.specs.Lists.{numbers_from}
use Rattle.task_model.specs.declared.domain.Domain as domain
use Rattle.form_reader.proofs.RowsLemmas.{tail_small, tail_shallow}
use Rattle.form_reader.specs.declared.fault.Fault.{Fault}
use Rattle.form_reader.specs.declared.fault.InputKind.TheVariants.{TooMany}
use Rattle.form_reader.specs.declared.groups.Spot.TheVariants.{Start}
use Rattle.form_reader.specs.declared.items.Item.{Item}
use Rattle.form_reader.specs.declared.items.Item.TheVariants as item
use Rattle.form_reader.specs.declared.items.TextKind.TheVariants as text
use Rattle.form_reader.specs.declared.words.WordSort.TheVariants.{Predicate}
use Rattle.form_reader.specs.Conditions.{single_faults}
use Rattle.form_reader.specs.Faults.{shape}
use Rattle.form_reader.specs.Items.{derived_faults, item_of}
use Rattle.form_reader.specs.Rows.{declaration_faults, head_of, inner_of, tail_of}
use Rattle.name_tables.specs.Conditions.{conditions_names}
use Rattle.name_tables.specs.Names.{Signed, table_place}
use Rattle.name_tables.specs.Terms.{declared_place, use_names}
use Rattle.name_tables.specs.Variables.{doubles_names, named_sorts, named_words, scope_names, types_names, unless}
use Rattle.name_tables.specs.Vocabulary.{arity_at, arity_of}
use Rattle.name_tables.specs.declared.vocabulary.Vocabulary.{Vocabulary}
use Rattle.name_tables.proofs.FitConditions.{single_fits}
use Rattle.name_tables.proofs.FitGroups.{few_places, sorts_as_long}
use Rattle.name_tables.proofs.FitTerms.{AreFilled, Knows, filled_first, use_there}
use Rattle.name_tables.proofs.NoFaultLemmas.{some_fault}
use Rattle.domain_reader.proofs.FitItems.{AreClean, IsClean}
use Rattle.domain_reader.proofs.FitNames.{few_declared}
use Rattle.domain_reader.specs.Domains.{rule_of, rules_of}
use Rattle.domain_reader.specs.Names.{declaration_names, derived_names, head_names}
use Rattle.domain_reader.specs.Tables.{is_derived_item}

-- a name that is used without fault is there
pub place_used : (s : Signed) (o : Option ℕ) (count at place : ℕ)
    → use_names (arity_at s o) count at place ≡ [] → (p : ℕ) × (o ≡ Some p)
place_used s None count at place e = absurd (cc)
place_used s (Some p) count at place e = (p, refl)

-- ---- an item without faults

-- what stands behind `:derived` has no faults
pub record IsRule (v : Vocabulary) (rest : Trees) : Type 0 where
  pub place : ℕ
  pub formed : derived_faults place rest ≡ []
  pub named : derived_names v rest ≡ []

pub derived_rule : (v : Vocabulary) (heads : List (List ℕ)) (it : Item) (rest : Trees)
    → is_derived_item it ≡ true → IsClean v heads it rest → IsRule v rest
derived_rule v heads item.Derived rest e c =
    record { place = c.place; formed = c.formed; named = c.named }
derived_rule v heads _ rest e c = absurd (cc)

-- its head and its body have no faults
record IsHeaded (v : Vocabulary) (rest : Trees) : Type 0 where
  pub place : ℕ
  pub head_place : ℕ
  pub body_formed : single_faults place (tail_of rest) ≡ []
  pub head_named : head_names v head_place (inner_of rest) ≡ []
  pub body_named : conditions_names v (named_words Start (tail_of (inner_of rest))) (tail_of rest) ≡ []

rule_headed : (v : Vocabulary) (rest : Trees) → IsRule v rest → IsHeaded v rest
rule_headed v nothing r = absurd (some_fault (shape r.place) [] r.formed)
rule_headed v (word w at rest) r = absurd (some_fault (shape at) [] r.formed)
rule_headed v (list items at rest) r = record {
  place = r.place;
  head_place = at;
  body_formed = append_nil_second (declaration_faults Predicate at items) (single_faults r.place rest) r.formed;
  head_named = append_nil_first (head_names v at items) (conditions_names v (named_words Start (tail_of items)) rest) r.named;
  body_named = append_nil_second (head_names v at items) (conditions_names v (named_words Start (tail_of items)) rest) r.named;
}

module _ (v : Vocabulary) (rest : Trees) (h : IsHeaded v rest) where
  abbrev head : Trees
  head = inner_of rest

  abbrev vars : Trees
  vars = tail_of head

  abbrev uses : List Fault
  uses = use_names (arity_of v.predicates (head_of head)) (length (named_words Start vars)) (tree_place head) h.head_place

  abbrev declares : List Fault
  declares = declaration_names v.sorts h.head_place vars

  front : uses ++ declares ≡ []
  front = append_nil_first (uses ++ declares) (scope_names 0 Start vars) h.head_named

  no_use : uses ≡ []
  no_use = append_nil_first uses declares front

  no_declared : declares ≡ []
  no_declared = append_nil_second uses declares front

  -- the predicate is there
  head_there : (p : ℕ) × (table_place (head_of head) v.predicates.names ≡ Some p)
  head_there =
      place_used v.predicates (table_place (head_of head) v.predicates.names) (length (named_words Start vars))
      (tree_place head) h.head_place no_use

  few : length (named_words Start vars) ≤ 8
  few = leb-true (length (named_words Start vars)) 8 (few_declared v.sorts h.head_place vars no_declared)

  types : types_names v.sorts Start vars ≡ []
  types =
      let bound = unless (nat_le (length (named_words Start vars)) 8) TooMany h.head_place in
      append_nil_first (types_names v.sorts Start vars)
      (doubles_names [] Start vars) (append_nil_first (types_names v.sorts Start vars ++ doubles_names [] Start vars) bound no_declared)

-- ---- the predicate of an item

pub rule_there : (v : Vocabulary) (rest : Trees) → IsRule v rest
    → (p : ℕ) × (table_place (head_of (inner_of rest)) v.predicates.names ≡ Some p)
rule_there v rest r = head_there v rest (rule_headed v rest r)

-- no fault of its body
pub rule_body : (v : Vocabulary) (rest : Trees) → IsRule v rest
    → conditions_names v (named_words Start (tail_of (inner_of rest))) (tail_of rest) ≡ []
rule_body v rest r = (rule_headed v rest r).body_named

pub rule_pred : (v : Vocabulary) (rest : Trees) (p : ℕ)
    → table_place (head_of (inner_of rest)) v.predicates.names ≡ Some p → (rule_of v rest).pred ≡ p
rule_pred v rest p e = ap (λ o. unwrap_or o 0) e

-- ---- fitness

module _ (v : Vocabulary) (d : domain.Domain) (knows : Knows v d (length d.constants)) where
  rule_fits : (rest : Trees) → IsRule v rest → size rest ≤ 8388608 → depth rest ≤ 64
      → is_fit_item d (rule_of v rest) ≡ true
  rule_fits rest r small shallow =
      let h = rule_headed v rest r in
      let vars = tail_of (inner_of rest) in
      let scope = named_words Start vars in
      let params = named_sorts v.sorts Start 0 vars in
      let long : length params ≡ length scope = sorts_as_long v.sorts vars in
      let short : length scope ≤ 8 = few v rest h in
      let places : are_places (length d.sorts) params ≡ true =
      subst (λ n. are_places n params ≡ true)
      (sym knows.sorts) (few_places v.sorts knows.typed vars (omega (arith, short)) (types v rest h)) in
      let counted : nat_le (length params) 16 ≡ true = le-leb (length params) 16 (omega (arith, short, long)) in
      let arity : has_arity d.predicates (rule_of v rest).pred (length params) ≡ true =
      (λ i. has_arity (knows.predicates i) (declared_place v.predicates (head_of (inner_of rest))) (long i))
      ∙ use_there v.predicates (head_of (inner_of rest)) (length scope) (tree_place (inner_of rest)) h.head_place (no_use v rest h) in
      let slots : AreFilled (numbers_from 0 (length params)) (length scope) =
      subst (AreFilled (numbers_from 0 (length params))) long (filled_first (length params)) in
      let body : is_fit_condition d (length d.constants) (numbers_from 0 (length params)) (rule_of v rest).body ≡ true =
      single_fits v d (length d.constants) knows scope (numbers_from 0 (length params)) slots (omega (arith, short)) h.place
      (tail_of rest) (omega (arith, tail_small rest)) (omega (arith, tail_shallow rest)) h.body_formed h.body_named in
      and_from (are_fit_params d params && has_arity d.predicates (rule_of v rest).pred (length params))
      (is_fit_condition d (length d.constants) (numbers_from 0 (length params)) (rule_of v rest).body)
      (and_from (are_fit_params d params) (has_arity d.predicates (rule_of v rest).pred (length params))
      (and_from (nat_le (length params) 16) (are_places (length d.sorts) params) counted places) arity) body

  here_fits : (heads : List (List ℕ)) (it : Item) (rest : Trees) → IsClean v heads it rest
      → size rest ≤ 8388608 → depth rest ≤ 64
      → list_all (is_fit_item d) (if is_derived_item it then rule_of v rest ∷ [] else []) ≡ true
  here_fits heads it rest c small shallow =
      elim (is_derived_item it) as (λ b. is_derived_item it ≡ b → list_all (is_fit_item d) (if b then rule_of v rest ∷ [] else []) ≡ true) [
        | true ↦ λ e. and_from (is_fit_item d (rule_of v rest)) true (rule_fits rest (derived_rule v heads it rest e c) small shallow) refl
        | false ↦ λ _. refl
      ] refl

  pub rules_fit : (heads : List (List ℕ)) (body : Trees) → AreClean v heads body
      → size body ≤ 8388608 → depth body ≤ 64 → list_all (is_fit_item d) (rules_of v body) ≡ true
  rules_fit heads nothing c small shallow = refl
  rules_fit heads (word w at rest) c small shallow = rules_fit heads rest c (omega arith) shallow
  rules_fit heads (list items at rest) c small shallow =
      let it = item_of text.Domain (head_of items) in
      all_append (is_fit_item d) (if is_derived_item it then rule_of v (tail_of items) ∷ [] else [])
      (rules_of v rest) (here_fits heads it (tail_of items) c.0 (omega (arith, tail_small items)) (omega (arith, tail_shallow items)))
      (rules_fit heads rest c.1 (omega arith) (omega arith))

pub rules_long : (v : Vocabulary) (body : Trees) → length (rules_of v body) ≤ size body
rules_long v nothing = omega arith
rules_long v (word w at rest) = omega (arith, rules_long v rest)
rules_long v (list items at rest) =
    elim (is_derived_item (item_of text.Domain (head_of items))) as
    (λ b. length ((if b then rule_of v (tail_of items) ∷ [] else []) ++ rules_of v rest) ≤ size items + 2 + size rest) [
      | true ↦ omega (arith, rules_long v rest)
      | false ↦ omega (arith, rules_long v rest)
    ]
