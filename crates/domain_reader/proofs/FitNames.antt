-- The tables of names of a domain without faults.
use Rattle.std.proofs.Common.{◌≡◌, ℕ, ◌+◌, ◌≤◌, true, false, ◌&&◌, not, cond, if◌then◌else◌, nat_le, List, [], ◌∷◌, ◌++◌, codes, length, refl, sym, ap, ◌∙◌, subst, arith, Option, Some, None, slice_get, length-append}
use Rattle.std.specs.Cmp.{first_so, second_so}
use Rattle.std.specs.List.{list_all}
use Rattle.std.specs.Str.{bytes_eq}
use Rattle.sexpr_text.specs.Trees.{Trees, nothing, word, list, size}
use Rattle.lemmas.proofs.Members.{distinct_nil, distinct_push, append_nil_first, append_nil_second}
use Rattle.lemmas.proofs.ListTests.{any_append_left, all_push}
use Rattle.task_model.specs.Fit.{is_name}
use Rattle.lemmas.specs.Lists.{AreDistinct}
use Rattle.form_reader.proofs.RowsLemmas.{tail_small}
use Rattle.form_reader.specs.declared.fault.Fault.{Fault}
use Rattle.form_reader.specs.declared.fault.InputKind.TheVariants.{TooMany}
use Rattle.form_reader.specs.declared.groups.Spot.{Spot}
use Rattle.form_reader.specs.declared.groups.Spot.TheVariants.{Start, Named, Typed}
use Rattle.form_reader.specs.declared.items.Item.{Item}
use Rattle.form_reader.specs.declared.items.Item.TheVariants as item
use Rattle.form_reader.specs.declared.items.TextKind.TheVariants.{Domain}
use Rattle.form_reader.specs.declared.words.WordSort.{WordSort}
use Rattle.form_reader.specs.declared.words.WordSort.TheVariants.{Name, Predicate, Variable}
use Rattle.form_reader.specs.Effects.{is_total_cost}
use Rattle.form_reader.specs.Faults.{shape}
use Rattle.form_reader.specs.Items.{after_function_word, function_list_faults, function_word_fault, functions_faults, item_of, or_behind, predicates_faults}
use Rattle.form_reader.specs.Rows.{after_word, declaration_faults, groups_faults, head_of, is_dash, list_fault, tail_of}
use Rattle.form_reader.specs.Words.{is_change, is_connective, is_of, is_predicate_name}
use Rattle.name_tables.specs.Names.{Signed, has_name, with_table_name, with_signature}
use Rattle.name_tables.specs.Variables.{doubles_names, is_named, named_words, seen_after, types_names, unless}
use Rattle.name_tables.specs.declared.vocabulary.Vocabulary.{Vocabulary}
use Rattle.name_tables.proofs.FitDeclared.{named_names, named_with, seen_names}
use Rattle.name_tables.proofs.FitGroups.{words_are_names}
use Rattle.name_tables.proofs.NoFaultLemmas.{chosen, met, some_fault}
use Rattle.name_tables.proofs.VariablesWidthLemmas.{name_long}
use Rattle.domain_reader.proofs.FitItems.{AreClean, IsClean}
use Rattle.domain_reader.specs.Names.{declaration_names, functions_names, predicates_names, total_cost_names}
use Rattle.domain_reader.specs.Tables.{declared_arity, functions_in, no_names, predicates_in, types_in, vocabulary_in, with_item, with_items}
use Rattle.task_model.proofs.KnownLemmas.{length_with_name, with_name-distinct, length_with_names, with_names-distinct}

-- ---- a table of names, each once and a name, and at most so many

pub record IsTable (most : ℕ) (names : List (List ℕ)) : Type 0 where
  pub distinct : AreDistinct names
  pub named : list_all is_name names ≡ true
  pub few : length names ≤ most

pub table_more : (most more : ℕ) (names : List (List ℕ)) → most ≤ more → IsTable most names
    → IsTable more names
table_more most more names le t =
    record { distinct = t.distinct; named = t.named; few = omega (arith, t.few) }

pub table_with : (most : ℕ) (names : List (List ℕ)) (name : List ℕ) → IsTable most names
    → is_name name ≡ true → IsTable (most + 1) (with_table_name names name)
table_with most names name t one = record {
  distinct = with_name-distinct names name t.distinct;
  named = named_with names name t.named one;
  few = omega (arith, t.few, length_with_name names name);
}

-- all names of the list are names of the table
abbrev pub Known : List (List ℕ) → List (List ℕ) → Type 0
Known names table = (n : List ℕ) → has_name n names ≡ true → has_name n table ≡ true

pub known_with : (names : List (List ℕ)) (name : List ℕ) → Known names (with_table_name names name)
known_with names name n h =
    elim (has_name name names) as (λ b. has_name n (cond b names (names ++ name ∷ [])) ≡ true) [
      | true ↦ h
      | false ↦ any_append_left (bytes_eq n) names (name ∷ []) h
    ]

-- ---- types

type_there : (spot : Spot) (text : List ℕ) (place at : ℕ) (rest : Trees) → is_dash text ≡ false
    → groups_faults Name place spot (word text at rest) ≡ [] → is_name text ≡ true
type_there Start text place at rest other e =
    (chosen (is_name text) (groups_faults Name place Named rest) (shape at) [] e).0
type_there Named text place at rest other e =
    let f : (if is_name text then groups_faults Name place Named rest else shape at ∷ []) ≡ [] =
    subst (λ b. (if (if b then true else is_name text) then groups_faults Name place (if b then Typed else Named) rest
    else shape at ∷ [])
    ≡ []) other e in
    (chosen (is_name text) (groups_faults Name place Named rest) (shape at) [] f).0
type_there Typed text place at rest other e =
    (chosen (is_name text) (groups_faults Name place Start rest) (shape at) [] e).0

pub rest_formed : (spot : Spot) (text : List ℕ) (place at : ℕ) (rest : Trees)
    → groups_faults Name place spot (word text at rest) ≡ []
    → groups_faults Name place (after_word spot text) rest ≡ []
rest_formed Start text place at rest e =
    (chosen (is_name text) (groups_faults Name place Named rest) (shape at) [] e).1
rest_formed Named text place at rest e =
    (chosen (if is_dash text then true else is_name text) (groups_faults Name place (after_word Named text) rest) (shape at) [] e).1
rest_formed Typed text place at rest e =
    (chosen (is_name text) (groups_faults Name place Start rest) (shape at) [] e).1

pub types_table : (most place : ℕ) (spot : Spot) (names : List (List ℕ)) (ts : Trees)
    → IsTable most names → groups_faults Name place spot ts ≡ []
    → IsTable (most + size ts) (types_in names ts)
types_table most place spot names nothing t e = table_more most (most + 0) names (omega arith) t
types_table most place spot names (list items at rest) t e = absurd (list_stands spot e)
  where
    list_stands : (spot : Spot) → groups_faults Name place spot (list items at rest) ≡ [] → ⊥
    list_stands spot f = some_fault (list_fault spot items at) [] f
types_table most place spot names (word text at rest) t e =
    elim (is_dash text) as
    (λ b. is_dash text ≡ b → IsTable (most + (length text + size rest)) (types_in (cond b names (with_table_name names text)) rest)) [
      | true ↦ λ _. table_more (most + size rest) (most + (length text + size rest)) (types_in names rest)
          (omega arith) (types_table most place (after_word spot text) names rest t (rest_formed spot text place at rest e))
      | false ↦ λ other.
          let one = type_there spot text place at rest other e in
          table_more (most + 1 + size rest) (most + (length text + size rest)) (types_in (with_table_name names text) rest)
          (omega (arith, name_long text one))
          (types_table (most + 1) place (after_word spot text) (with_table_name names text) rest
          (table_with most names text t one) (rest_formed spot text place at rest e))
    ] refl

-- ---- constants

-- words of names have letters
pub words_few : (place : ℕ) (spot : Spot) (ts : Trees)
    → list_all is_name (named_words spot ts) ≡ true → length (named_words spot ts) ≤ size ts
words_few place spot nothing e = omega arith
words_few place spot (list items at rest) e = omega arith
words_few place spot (word text at rest) e =
    elim (is_named spot text) as (λ b.
    list_all is_name (cond b (text ∷ named_words (after_word spot text) rest) (named_words (after_word spot text) rest)) ≡ true
    → length (cond b (text ∷ named_words (after_word spot text) rest) (named_words (after_word spot text) rest))
    ≤ length text + size rest) [
      | true ↦ λ f. omega (
        arith,
        name_long text (first_so (is_name text) (list_all is_name (named_words (after_word spot text) rest)) f),
        words_few place (after_word spot text) rest
            (second_so (is_name text) (list_all is_name (named_words (after_word spot text) rest)) f),
      )
      | false ↦ λ f. omega (arith, words_few place (after_word spot text) rest f)
    ] e

pub seen_table : (most place : ℕ) (names : List (List ℕ)) (ts : Trees) → IsTable most names
    → groups_faults Name place Start ts ≡ [] → IsTable (most + size ts) (seen_after names Start ts)
seen_table most place names ts t e =
    let own = words_are_names place Start ts e in
    subst (IsTable (most + size ts)) (sym (seen_names names Start ts)) (
    record {
      distinct = with_names-distinct names (named_words Start ts) t.distinct;
      named = named_names names (named_words Start ts) t.named own;
      few = omega (arith, length_with_names names (named_words Start ts), words_few place Start ts own, t.few);
    }
    )

-- ---- predicates and functions

pub record IsSigned (most : ℕ) (s : Signed) : Type 0 where
  pub table : IsTable most s.names
  pub even : length s.names ≡ length s.arities
  pub arities : list_all (λ a. nat_le a 8) s.arities ≡ true

pub signed_more : (most more : ℕ) (s : Signed) → most ≤ more → IsSigned most s → IsSigned more s
signed_more most more s le i =
    record { table = table_more most more s.names le i.table; even = i.even; arities = i.arities }

pub signed_with : (most : ℕ) (s : Signed) (name : List ℕ) (arity : ℕ) → IsSigned most s
    → is_name name ≡ true → nat_le arity 8 ≡ true
    → IsSigned (most + 1) (with_signature s name arity)
signed_with most s name arity i one few =
    elim (has_name name s.names) as (λ b.
    has_name name s.names ≡ b
    → IsSigned (most + 1) (cond b s (record { names = s.names ++ name ∷ []; arities = s.arities ++ arity ∷ [] }))) [
      | true ↦ λ _. signed_more most (most + 1) s (omega arith) i
      | false ↦ λ absent. record {
        table = subst (λ b. IsTable (most + 1) (cond b s.names (s.names ++ name ∷ []))) absent (table_with most s.names name i.table one);
        even =
            length-append s.names (name ∷ []) ∙ ap (λ n. n + 1) i.even
            ∙ sym (length-append s.arities (arity ∷ []));
        arities = all_push (λ a. nat_le a 8) s.arities arity i.arities few;
      }
    ] refl

pub predicate_name : (text : List ℕ) → is_predicate_name text ≡ true → is_name text ≡ true
predicate_name text e =
    first_so (is_name text) (not (is_connective text)) (first_so (is_name text && not (is_connective text)) (not (is_change text)) e)

head_named : (head : WordSort) (place : ℕ) (items : Trees)
    → ((text : List ℕ) → is_of head text ≡ true → is_name text ≡ true)
    → declaration_faults head place items ≡ [] → is_name (head_of items) ≡ true
head_named head place nothing names e = absurd (some_fault (shape place) [] e)
head_named head place (list items at rest) names e = absurd (some_fault (shape at) [] e)
head_named head place (word text at rest) names e =
    names text (chosen (is_of head text) (groups_faults Variable place Start rest) (shape at) [] e).0

-- a declaration has at most 8 variables
pub few_declared : (sorts : List (List ℕ)) (place : ℕ) (vars : Trees)
    → declaration_names sorts place vars ≡ [] → nat_le (length (named_words Start vars)) 8 ≡ true
few_declared sorts place vars e =
    met (nat_le (length (named_words Start vars)) 8) TooMany place
    (append_nil_second (types_names sorts Start vars ++ doubles_names [] Start vars)
    (unless (nat_le (length (named_words Start vars)) 8) TooMany place) e)

pub predicates_signed : (most : ℕ) (sorts : List (List ℕ)) (s : Signed) (ts : Trees)
    → IsSigned most s → predicates_faults ts ≡ [] → predicates_names sorts ts ≡ []
    → IsSigned (most + size ts) (predicates_in s ts)
predicates_signed most sorts s nothing i f n = signed_more most (most + 0) s (omega arith) i
predicates_signed most sorts s (word text at rest) i f n = absurd (some_fault (shape at) [] f)
predicates_signed most sorts s (list items at rest) i f n =
    let name = head_named Predicate at items predicate_name
    (append_nil_first (declaration_faults Predicate at items) (predicates_faults rest) f) in
    let few = few_declared sorts at (tail_of items)
    (append_nil_first (declaration_names sorts at (tail_of items)) (predicates_names sorts rest) n) in
    let s' = with_signature s (head_of items) (length (named_words Start (tail_of items))) in
    signed_more (most + 1 + size rest) (most + (size items + 2 + size rest)) (predicates_in s' rest) (omega arith)
    (predicates_signed (most + 1) sorts s' rest (signed_with most s (head_of items) (length (named_words Start (tail_of items))) i name few)
    (append_nil_second (declaration_faults Predicate at items) (predicates_faults rest) f)
    (append_nil_second (declaration_names sorts at (tail_of items)) (predicates_names sorts rest) n))

few_arguments : (name : List ℕ) (vars : Trees) → nat_le (length (named_words Start vars)) 8 ≡ true
    → nat_le (declared_arity name vars) 8 ≡ true
few_arguments name vars few =
    elim (is_total_cost name) as (λ b. nat_le (if b then 0 else length (named_words Start vars)) 8 ≡ true) [
      | true ↦ refl
      | false ↦ few
    ]

word_behind : (spot : Spot) (text : List ℕ) (at : ℕ) (behind : List Fault)
    → or_behind (function_word_fault spot text at) behind ≡ [] → behind ≡ []
word_behind spot text at behind e = by (function_word_fault spot text at) e
  where
    by : (o : Option Fault) → or_behind o behind ≡ [] → behind ≡ []
    by None f = f
    by (Some x) f = absurd (some_fault x [] f)

list_formed : (spot : Spot) (items : Trees) (at : ℕ) (behind : List Fault)
    → function_list_faults spot items at behind ≡ []
    → (declaration_faults Name at items ≡ []) × (behind ≡ [])
list_formed Start items at behind e =
    (append_nil_first (declaration_faults Name at items) behind e, append_nil_second (declaration_faults Name at items) behind e)
list_formed Named items at behind e =
    (append_nil_first (declaration_faults Name at items) behind e, append_nil_second (declaration_faults Name at items) behind e)
list_formed Typed items at behind e = absurd (some_fault (list_fault Typed items at) [] e)

pub functions_signed : (most place : ℕ) (spot : Spot) (sorts : List (List ℕ)) (s : Signed) (ts : Trees)
    → IsSigned most s → functions_faults place spot ts ≡ [] → functions_names sorts ts ≡ []
    → IsSigned (most + size ts) (functions_in s ts)
functions_signed most place spot sorts s nothing i f n =
    signed_more most (most + 0) s (omega arith) i
functions_signed most place spot sorts s (word text at rest) i f n =
    signed_more (most + size rest) (most + (length text + size rest)) (functions_in s rest) (omega arith)
    (functions_signed most place (after_function_word spot) sorts s rest i
    (word_behind spot text at (functions_faults place (after_function_word spot) rest) f) n)
functions_signed most place spot sorts s (list items at rest) i f n =
    let formed = list_formed spot items at (functions_faults place Named rest) f in
    let own = total_cost_names at items ++ declaration_names sorts at (tail_of items) in
    let declared =
    append_nil_second (total_cost_names at items)
    (declaration_names sorts at (tail_of items)) (append_nil_first own (functions_names sorts rest) n) in
    let name = head_named Name at items (λ text e. e) formed.0 in
    let few = few_declared sorts at (tail_of items) declared in
    let s' = with_signature s (head_of items) (declared_arity (head_of items) (tail_of items)) in
    signed_more (most + 1 + size rest) (most + (size items + 2 + size rest)) (functions_in s' rest) (omega arith)
    (functions_signed (most + 1) place Named sorts s' rest
    (signed_with most s (head_of items) (declared_arity (head_of items) (tail_of items)) i name
    (few_arguments (head_of items) (tail_of items) few)) formed.1 (append_nil_second own (functions_names sorts rest) n))

-- ---- all tables

pub record AreTables (most : ℕ) (v : Vocabulary) : Type 0 where
  pub sorts : IsTable most v.sorts
  pub object : slice_get v.sorts 0 ≡ Some (codes "object")
  pub predicates : IsSigned most v.predicates
  pub functions : IsSigned most v.functions
  pub objects : IsTable most v.objects

pub tables_more : (most more : ℕ) (v : Vocabulary) → most ≤ more → AreTables most v
    → AreTables more v
tables_more most more v le a = record {
  sorts = table_more most more v.sorts le a.sorts;
  object = a.object;
  predicates = signed_more most more v.predicates le a.predicates;
  functions = signed_more most more v.functions le a.functions;
  objects = table_more most more v.objects le a.objects;
}

first_with : (names : List (List ℕ)) (name first : List ℕ) → slice_get names 0 ≡ Some first
    → slice_get (with_table_name names name) 0 ≡ Some first
first_with [] name first e = absurd (cc)
first_with (n ∷ ns) name first e =
    elim (has_name name (n ∷ ns)) as (λ b. slice_get (cond b (n ∷ ns) (n ∷ ns ++ name ∷ [])) 0 ≡ Some first) [
      | true ↦ e
      | false ↦ e
    ]

types_first : (names : List (List ℕ)) (ts : Trees) (first : List ℕ) → slice_get names 0 ≡ Some first
    → slice_get (types_in names ts) 0 ≡ Some first
types_first names nothing first e = e
types_first names (list items at rest) first e = types_first names rest first e
types_first names (word text at rest) first e =
    types_first (cond (is_dash text) names (with_table_name names text)) rest first
    (elim (is_dash text) as (λ b. slice_get (cond b names (with_table_name names text)) 0 ≡ Some first) [
      | true ↦ e
      | false ↦ first_with names text first e
    ])

module _ (whole : Vocabulary) (heads : List (List ℕ)) where
  tables_item : (most : ℕ) (v : Vocabulary) (it : Item) (rest : Trees) → IsClean whole heads it rest
      → AreTables most v → AreTables (most + size rest) (with_item v it rest)
  tables_item most v item.Types rest c a =
      let more = tables_more most (most + size rest) v (omega arith) a in
      record {
        sorts = types_table most c.place Start v.sorts rest a.sorts c.formed;
        object = types_first v.sorts rest (codes "object") a.object;
        predicates = more.predicates;
        functions = more.functions;
        objects = more.objects;
      }
  tables_item most v item.Constants rest c a =
      let more = tables_more most (most + size rest) v (omega arith) a in
      record {
        sorts = more.sorts;
        object = a.object;
        predicates = more.predicates;
        functions = more.functions;
        objects = seen_table most c.place v.objects rest a.objects c.formed;
      }
  tables_item most v item.Predicates rest c a =
      let more = tables_more most (most + size rest) v (omega arith) a in
      record {
        sorts = more.sorts;
        object = a.object;
        predicates = predicates_signed most whole.sorts v.predicates rest a.predicates c.formed c.named;
        functions = more.functions;
        objects = more.objects;
      }
  tables_item most v item.Functions rest c a =
      let more = tables_more most (most + size rest) v (omega arith) a in
      record {
        sorts = more.sorts;
        object = a.object;
        predicates = more.predicates;
        functions = functions_signed most c.place Start whole.sorts v.functions rest a.functions c.formed c.named;
        objects = more.objects;
      }
  tables_item most v _ rest c a = tables_more most (most + size rest) v (omega arith) a

  tables_items : (most : ℕ) (v : Vocabulary) (body : Trees) → AreClean whole heads body
      → AreTables most v → AreTables (most + size body) (with_items v body)
  tables_items most v nothing c a = tables_more most (most + 0) v (omega arith) a
  tables_items most v (word w at rest) c a =
      tables_more (most + size rest) (most + (length w + size rest)) (with_items v rest) (omega arith) (tables_items most v rest c a)
  tables_items most v (list items at rest) c a =
      let v' = with_item v (item_of Domain (head_of items)) (tail_of items) in
      tables_more (most + size (tail_of items) + size rest) (most + (size items + 2 + size rest))
      (with_items v' rest) (omega (arith, tail_small items))
      (tables_items (most + size (tail_of items)) v' rest c.1 (tables_item most v (item_of Domain (head_of items)) (tail_of items) c.0 a))

tables_first : AreTables 1 no_names
tables_first = record {
  sorts = record
      { distinct = distinct_push [] (codes "object") distinct_nil (λ c. absurd (omega (arith, c.1))); named = refl; few = omega arith };
  object = refl;
  predicates = record { table = record { distinct = distinct_nil; named = refl; few = omega arith }; even = refl; arities = refl };
  functions = record { table = record { distinct = distinct_nil; named = refl; few = omega arith }; even = refl; arities = refl };
  objects = record { distinct = distinct_nil; named = refl; few = omega arith };
}

-- the tables of a domain with such items
pub tables_fit : (heads : List (List ℕ)) (body : Trees) → AreClean (vocabulary_in body) heads body
    → AreTables (size body + 2) (vocabulary_in body)
tables_fit heads body c =
    let v = with_items no_names body in
    let a = tables_items (vocabulary_in body) heads 1 no_names body c tables_first in
    let more = tables_more (1 + size body) (size body + 2) v (omega arith) a in
    record {
      sorts = more.sorts;
      object = more.object;
      predicates = more.predicates;
      functions =
          signed_more (1 + size body + 1) (size body + 2) (with_signature v.functions (codes "total-cost") 0)
          (omega arith) (signed_with (1 + size body) v.functions (codes "total-cost") 0 a.functions refl refl);
      objects = more.objects;
    }
