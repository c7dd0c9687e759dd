-- A problem's names over a domain that was read.
use Rattle.std.proofs.Common.{◌≡◌, ℕ, ◌+◌, Bool, true, false, cond, List, [], ◌∷◌, length, refl, sym, ap, ◌∙◌}
use Rattle.sexpr_text.specs.Trees.{Trees, nothing, word, list}
use Rattle.task_model.specs.declared.domain.Domain as domain
use Rattle.task_model.specs.declared.domain.Sort as sort
use Rattle.form_reader.specs.declared.groups.Spot.TheVariants.{Start}
use Rattle.form_reader.specs.declared.items.Item.{Item}
use Rattle.form_reader.specs.declared.items.Item.TheVariants as item
use Rattle.form_reader.specs.declared.items.TextKind.TheVariants as text
use Rattle.form_reader.specs.Items.{item_of}
use Rattle.form_reader.specs.Rows.{head_of, tail_of}
use Rattle.name_tables.proofs.FitGroups.{sorts_long}
use Rattle.name_tables.specs.Declarations.{Typed, declare_each, no_typed}
use Rattle.name_tables.specs.Names.{with_table_name}
use Rattle.name_tables.specs.Variables.{named_sorts, named_words, seen_after}
use Rattle.name_tables.specs.Vocabulary.{nothing_signed, put_constants, put_signatures, put_sorts}
use Rattle.name_tables.specs.declared.vocabulary.Vocabulary.{Vocabulary}
use Rattle.domain_reader.specs.Cycles.{AreSorts, no_sorts, more_sorts, type_edges}
use Rattle.domain_reader.specs.Domains.{IsDomainRead, constants_in, is_constants}
use Rattle.domain_reader.specs.Tables.{no_names, vocabulary_in, with_item, with_items}
use Rattle.name_tables.specs.Texts.{body_of}
use Rattle.problem_reader.specs.Laws.{NamesAreTheDomains}
use Rattle.problem_reader.specs.Tables.{problem_names, object_names_in, with_objects}
use Rattle.problem_reader.proofs.TablesObjectLemmas.{constants_put, even_each, names_each, none_more, seen_put}
use Rattle.problem_reader.proofs.TablesLemmas.{built, put, signed_again}

-- ---- types

sorts_put : (names : List (List ℕ)) (edges : List (List ℕ)) (k : ℕ) (ns : List (List ℕ)) (ss : List sort.Sort)
    → AreSorts edges k ns ss → put_sorts names ss ≡ put names ns
sorts_put names edges k [] [] no_sorts = refl
sorts_put names edges k [] (s ∷ ss) x = elim x [ ]
sorts_put names edges k (n ∷ ns) [] x = elim x [ ]
sorts_put names edges k (n ∷ ns) (s ∷ ss) (more_sorts above more) =
    sorts_put (with_table_name names n) edges (k + 1) ns ss more

-- ---- constants

-- what an item adds to the constants' names
objects_by : (v : Vocabulary) (it : Item) (rest : Trees)
    → (with_item v it rest).objects ≡ cond (is_constants it) (seen_after v.objects Start rest) v.objects
objects_by v item.Types rest = refl
objects_by v item.Constants rest = refl
objects_by v item.Predicates rest = refl
objects_by v item.Functions rest = refl
objects_by v item.Requirements rest = refl
objects_by v item.Derived rest = refl
objects_by v item.Action rest = refl
objects_by v item.Domain rest = refl
objects_by v item.Objects rest = refl
objects_by v item.Init rest = refl
objects_by v item.Goal rest = refl
objects_by v item.Metric rest = refl
objects_by v item.Stream rest = refl
objects_by v item.CostStream rest = refl
objects_by v item.Unknown rest = refl
objects_by v item.NoItem rest = refl

abbrev declared_here : List (List ℕ) → Typed → Trees → Typed
declared_here sorts t rest =
    declare_each t (named_words Start rest) (named_sorts sorts Start 0 rest)

names_here : (sorts : List (List ℕ)) (t : Typed) (names : List (List ℕ)) (rest : Trees) (b : Bool)
    → names ≡ t.names
    → cond b (seen_after names Start rest) names ≡ (cond b (declared_here sorts t rest) t).names
names_here sorts t names rest true e =
    seen_put names Start rest ∙ ap (λ m. put m (named_words Start rest)) e
    ∙ sym (names_each t (named_words Start rest)
    (named_sorts sorts Start 0 rest) (sorts_long sorts Start 0 rest ∙ none_more (length (named_words Start rest))))
names_here sorts t names rest false e = e

even_here : (sorts : List (List ℕ)) (t : Typed) (rest : Trees) (b : Bool)
    → length t.names ≡ length t.sorts
    → length (cond b (declared_here sorts t rest) t).names ≡ length (cond b (declared_here sorts t rest) t).sorts
even_here sorts t rest true h =
    even_each t (named_words Start rest) (named_sorts sorts Start 0 rest) h
even_here sorts t rest false h = h

objects_same : (sorts : List (List ℕ)) (v : Vocabulary) (t : Typed) (body : Trees)
    → v.objects ≡ t.names → (with_items v body).objects ≡ (constants_in sorts t body).names
objects_same sorts v t nothing e = e
objects_same sorts v t (word w at rest) e = objects_same sorts v t rest e
objects_same sorts v t (list items at rest) e =
    objects_same sorts (with_item v (item_of text.Domain (head_of items)) (tail_of items))
    (cond (is_constants (item_of text.Domain (head_of items))) (declared_here sorts t (tail_of items)) t) rest
    (objects_by v (item_of text.Domain (head_of items)) (tail_of items)
    ∙ names_here sorts t v.objects (tail_of items) (is_constants (item_of text.Domain (head_of items))) e)

pub constants_even : (sorts : List (List ℕ)) (t : Typed) (body : Trees) → length t.names ≡ length t.sorts
    → length (constants_in sorts t body).names ≡ length (constants_in sorts t body).sorts
constants_even sorts t nothing h = h
constants_even sorts t (word w at rest) h = constants_even sorts t rest h
constants_even sorts t (list items at rest) h =
    constants_even sorts (cond (is_constants (item_of text.Domain (head_of items))) (declared_here sorts t (tail_of items)) t) rest
    (even_here sorts t (tail_of items) (is_constants (item_of text.Domain (head_of items))) h)

-- ---- all names

module _ (t : Trees) (d : domain.Domain) (read : IsDomainRead t d) where
  abbrev v : Vocabulary
  v = vocabulary_in (body_of t)

  known_sorts : put_sorts [] d.sorts ≡ v.sorts
  known_sorts =
      sorts_put [] (type_edges v.sorts (body_of t)) 0 v.sorts d.sorts read.domain.parts.sorts
      ∙ (built (body_of t)).sorts

  known_predicates : put_signatures nothing_signed d.predicates ≡ v.predicates
  known_predicates =
      ap (put_signatures nothing_signed) read.domain.parts.predicates
      ∙ signed_again v.predicates (built (body_of t)).predicates

  known_functions : put_signatures nothing_signed d.functions ≡ v.functions
  known_functions =
      ap (put_signatures nothing_signed) read.domain.parts.functions
      ∙ signed_again v.functions (built (body_of t)).functions

  abbrev typed : Typed
  typed = constants_in v.sorts no_typed (body_of t)

  known_objects : put_constants [] d.constants ≡ v.objects
  known_objects =
      ap (put_constants []) read.domain.parts.constants
      ∙ constants_put [] typed.names typed.sorts (constants_even v.sorts no_typed (body_of t) refl)
      ∙ ap (put []) (sym (objects_same v.sorts no_names no_typed (body_of t) refl)) ∙ (built (body_of t)).objects

  known : (body : Trees) → problem_names d body ≡ with_objects v body
  known body =
      λ k. record {
        sorts = known_sorts k;
        predicates = known_predicates k;
        functions = known_functions k;
        objects = object_names_in (known_objects k) body;
      }

pub names_are_known : NamesAreTheDomains
names_are_known t d body read = known t d read body
