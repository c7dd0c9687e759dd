-- The predicates, functions and constants of a domain without faults are fit.
use Rattle.std.proofs.Common.{◌≡◌, ℕ, ◌+◌, ◌<◌, ◌≤◌, true, nat_le, if◌then◌else◌, List, [], ◌∷◌, codes, map, length, refl, sym, ap, ◌∙◌, subst, arith, le-leb}
use Rattle.std.specs.Cmp.{first_so, second_so}
use Rattle.std.specs.List.{list_all}
use Rattle.std.proofs.lemmas.Bool.{and_from}
use Rattle.std.proofs.lemmas.Option.{slice_get_within}
use Rattle.sexpr_text.specs.Trees.{Trees, nothing, word, list, size}
use Rattle.lemmas.proofs.Members.{distinct_nil}
use Rattle.task_model.specs.Fit.{AreFitObjects, AreFitSignatures, AreNames}
use Rattle.task_model.specs.declared.domain.Domain as domain
use Rattle.task_model.specs.declared.domain.Signature.{Signature}
use Rattle.form_reader.specs.declared.groups.Spot.TheVariants.{Start}
use Rattle.form_reader.specs.declared.items.Item.{Item}
use Rattle.form_reader.specs.declared.items.Item.TheVariants as item
use Rattle.form_reader.specs.declared.items.TextKind.TheVariants as text
use Rattle.form_reader.specs.Items.{item_of}
use Rattle.form_reader.specs.Rows.{head_of, tail_of}
use Rattle.name_tables.specs.Declarations.{Typed, declare_each, signature_list, no_typed}
use Rattle.name_tables.specs.Names.{Signed}
use Rattle.name_tables.specs.Variables.{named_sorts, named_words}
use Rattle.name_tables.specs.declared.vocabulary.Vocabulary.{Vocabulary}
use Rattle.name_tables.proofs.FitDeclared.{AreTyped, groups_declared, list_long, seen_names, typed_fit, typed_groups}
use Rattle.name_tables.proofs.FitTerms.{Knows}
use Rattle.domain_reader.proofs.FitItems.{AreClean, IsClean}
use Rattle.domain_reader.proofs.FitNames.{AreTables, IsSigned, tables_fit}
use Rattle.domain_reader.proofs.FitSorts.{sorts_many}
use Rattle.domain_reader.specs.Cycles.{type_edges}
use Rattle.domain_reader.specs.Domains.{ArePartsOf, constants_in, is_constants}
use Rattle.domain_reader.specs.Tables.{no_names, vocabulary_in, with_item, with_items}
use Rattle.name_tables.specs.Texts.{body_of}
use Rattle.task_model.specs.Known.{with_names}

-- ---- predicates and functions

list_named : (ns : List (List ℕ)) (as' : List ℕ) → length ns ≡ length as'
    → map (λ (s : Signature). s.name) (signature_list ns as') ≡ ns
list_named [] as' e = refl
list_named (n ∷ ns) [] e = absurd (omega arith)
list_named (n ∷ ns) (a ∷ as') e = ap (λ ms. n ∷ ms) (list_named ns as' (omega arith))

signatures_long : (ns : List (List ℕ)) (as' : List ℕ) → length (signature_list ns as') ≤ length ns
signatures_long [] as' = omega arith
signatures_long (n ∷ ns) [] = omega arith
signatures_long (n ∷ ns) (a ∷ as') = omega (arith, signatures_long ns as')

list_few : (ns : List (List ℕ)) (as' : List ℕ) → list_all (λ a. nat_le a 8) as' ≡ true
    → list_all (λ (s : Signature). nat_le s.arity 8) (signature_list ns as') ≡ true
list_few [] as' e = refl
list_few (n ∷ ns) [] e = refl
list_few (n ∷ ns) (a ∷ as') e =
    and_from (nat_le a 8) (list_all (λ (s : Signature). nat_le s.arity 8) (signature_list ns as'))
    (first_so (nat_le a 8) (list_all (λ b. nat_le b 8) as') e)
    (list_few ns as' (second_so (nat_le a 8) (list_all (λ b. nat_le b 8) as') e))

pub signatures_fit : (most : ℕ) (s : Signed) (all : List Signature) → IsSigned most s
    → most ≤ 8388608 → all ≡ signature_list s.names s.arities → AreFitSignatures all
signatures_fit most s all i few e =
    subst AreFitSignatures (sym e) (
    record {
      names = subst AreNames (sym (list_named s.names s.arities i.even)) (record { each = i.table.named; distinct = i.table.distinct });
      arities = list_few s.names s.arities i.arities;
      short = le-leb (length (signature_list s.names s.arities)) 8388608 (omega (arith, signatures_long s.names s.arities, i.table.few));
    }
    )

-- ---- constants

module _ (whole : Vocabulary) (heads : List (List ℕ)) (typed : 0 < length whole.sorts) where
  constants_item : (t : Typed) (it : Item) (rest : Trees) → IsClean whole heads it rest
      → AreTyped (length whole.sorts) t
      → AreTyped (length whole.sorts)
      (if is_constants it then declare_each t (named_words Start rest) (named_sorts whole.sorts Start 0 rest) else t)
  constants_item t item.Constants rest c a =
      typed_groups whole.sorts t c.place rest typed a c.formed c.named
  constants_item t _ rest c a = a

  constants_typed : (t : Typed) (body : Trees) → AreClean whole heads body
      → AreTyped (length whole.sorts) t
      → AreTyped (length whole.sorts) (constants_in whole.sorts t body)
  constants_typed t nothing c a = a
  constants_typed t (word w at rest) c a = constants_typed t rest c a
  constants_typed t (list items at rest) c a =
      let it = item_of text.Domain (head_of items) in
      constants_typed (if is_constants it
      then declare_each t (named_words Start (tail_of items)) (named_sorts whole.sorts Start 0 (tail_of items)) else t) rest c.1
      (constants_item t it (tail_of items) c.0 a)

-- the constants are those of the table
same_item : (sorts : List (List ℕ)) (v : Vocabulary) (t : Typed) (it : Item) (rest : Trees)
    → t.names ≡ v.objects
    → (if is_constants it then declare_each t (named_words Start rest) (named_sorts sorts Start 0 rest) else t).names
    ≡ (with_item v it rest).objects
same_item sorts v t item.Constants rest e =
    groups_declared sorts t rest ∙ ap (λ names. with_names names (named_words Start rest)) e
    ∙ sym (seen_names v.objects Start rest)
same_item sorts v t _ rest e = e

same_constants : (sorts : List (List ℕ)) (v : Vocabulary) (t : Typed) (body : Trees)
    → t.names ≡ v.objects → (constants_in sorts t body).names ≡ (with_items v body).objects
same_constants sorts v t nothing e = e
same_constants sorts v t (word w at rest) e = same_constants sorts v t rest e
same_constants sorts v t (list items at rest) e =
    let it = item_of text.Domain (head_of items) in
    same_constants sorts (with_item v it (tail_of items))
    (if is_constants it then declare_each t (named_words Start (tail_of items)) (named_sorts sorts Start 0 (tail_of items)) else t) rest
    (same_item sorts v t it (tail_of items) e)

-- ---- a domain without faults

module _ (t : Trees) (d : domain.Domain) (heads : List (List ℕ)) (clean : AreClean (vocabulary_in (body_of t)) heads (body_of t))
    (small : size (body_of t) ≤ 4194304) (parts : ArePartsOf (vocabulary_in (body_of t)) t d) where
  abbrev v : Vocabulary
  v = vocabulary_in (body_of t)

  abbrev typed : Typed
  typed = constants_in v.sorts no_typed (body_of t)

  tables : AreTables (size (body_of t) + 2) v
  tables = tables_fit heads (body_of t) clean

  pub some_type : 0 < length v.sorts
  some_type = slice_get_within v.sorts 0 (codes "object") tables.object

  pub many_sorts : length d.sorts ≡ length v.sorts
  many_sorts = sorts_many (type_edges v.sorts (body_of t)) 0 v.sorts d.sorts parts.sorts

  are_typed : AreTyped (length v.sorts) typed
  are_typed =
      constants_typed v heads some_type no_typed
      (body_of t) clean (record { distinct = distinct_nil; named = refl; even = refl; ascend = tt })

  same : typed.names ≡ v.objects
  same = same_constants v.sorts no_names no_typed (body_of t) refl

  pub predicates_fit : AreFitSignatures d.predicates
  predicates_fit = signatures_fit (size (body_of t) + 2) v.predicates d.predicates tables.predicates (omega (arith, small)) parts.predicates

  pub functions_fit : AreFitSignatures d.functions
  functions_fit = signatures_fit (size (body_of t) + 2) v.functions d.functions tables.functions (omega (arith, small)) parts.functions

  pub constants_fit : AreFitObjects d d.constants
  constants_fit =
      subst (AreFitObjects d) (sym parts.constants)
      (typed_fit d typed (omega (arith, small, many_sorts, tables.sorts.few))
      (omega (arith, small, ap length same, tables.objects.few)) (subst (λ n. AreTyped n typed) (sym many_sorts) are_typed))

  pub knows : Knows v d (length d.constants)
  knows = record {
    predicates = parts.predicates;
    functions = parts.functions;
    sorts = many_sorts;
    typed = some_type;
    objects_long =
        ap length parts.constants ∙ list_long typed.names typed.sorts are_typed.even
        ∙ ap length same;
  }
