-- The objects of a problem without faults, over a fit domain.
use Rattle.std.proofs.Common.{◌≡◌, ℕ, suc, ◌+◌, ◌<◌, ◌≤◌, Bool, true, false, cond, nat_lt, List, [], ◌∷◌, ◌++◌, take, length, refl, sym, ap, subst, ◌∙◌, arith, ltb-true}
use Rattle.std.specs.Cmp.{first_so, second_so}
use Rattle.std.specs.List.{list_all}
use Rattle.std.proofs.lemmas.Bool.{and_from, leb-true, cond-true}
use Rattle.sexpr_text.specs.Trees.{Trees, nothing, word, list, size}
use Rattle.lemmas.proofs.Members.{distinct_nil, none_both}
use Rattle.task_model.specs.Fit.{AreFitObjects, IsFitDomain, are_places, is_name, is_short}
use Rattle.task_model.specs.declared.domain.Declared as declared
use Rattle.task_model.specs.declared.domain.Domain.{Domain}
use Rattle.form_reader.proofs.RowsLemmas.{tail_small}
use Rattle.form_reader.specs.declared.groups.Spot.TheVariants.{Start}
use Rattle.form_reader.specs.declared.items.Item.{Item}
use Rattle.form_reader.specs.declared.items.Item.TheVariants as item
use Rattle.form_reader.specs.declared.items.TextKind.TheVariants as text
use Rattle.form_reader.specs.declared.words.WordSort.TheVariants.{Name}
use Rattle.form_reader.specs.Items.{body_faults, item_faults, item_of, items_faults}
use Rattle.form_reader.specs.Rows.{groups_faults, head_of, tail_of}
use Rattle.name_tables.specs.Declarations.{Typed, declare, declare_each, declared_list, no_typed}
use Rattle.name_tables.specs.Names.{has_name, with_table_name}
use Rattle.name_tables.specs.Variables.{named_sorts, named_words, seen_after, types_names}
use Rattle.name_tables.specs.Vocabulary.{put_constants}
use Rattle.name_tables.specs.declared.vocabulary.Vocabulary.{Vocabulary}
use Rattle.name_tables.proofs.FitDeclared.{AreTyped, list_long, list_named, typed_each, typed_fit, typed_groups}
use Rattle.name_tables.proofs.FitGroups.{sorts_as_long}
use Rattle.name_tables.proofs.FitVocabulary.{constant_names, constants_put, sorts_some}
use Rattle.name_tables.proofs.NamesFreshLemmas.{fresh_from}
use Rattle.name_tables.proofs.NamesLemmas.{has_with}
use Rattle.problem_reader.specs.Names.{problem_body_names, problem_items_names}
use Rattle.problem_reader.specs.Problems.{all_typed, constants_typed, declare_all, objects_typed}
use Rattle.problem_reader.specs.Tables.{has_type, is_objects, object_names_in}
use Rattle.problem_reader.proofs.TablesObjectLemmas.{names_declared, names_each, seen_put}
use Rattle.problem_reader.proofs.TablesAppendLemmas.{BeginsWith, begins_each, begins_itself, begins_twice, declared_length, first_ones}

-- ---- constants

-- each constant has a type
abbrev pub HaveTypes : List declared.Declared → Type 0
HaveTypes [] = Unit {0}
HaveTypes (c ∷ cs) = (0 < length c.sorts) × HaveTypes cs

again : (t : Typed) (n : List ℕ) (ss : List ℕ) → has_name n t.names ≡ true
    → (declare_all t n ss).names ≡ t.names
again t n [] e = refl
again t n (s ∷ ss) e =
    let same : (declare t n s).names ≡ t.names = names_declared t n s ∙ cond-true (has_name n t.names) t.names (t.names ++ n ∷ []) e in
    again (declare t n s) n ss (ap (has_name n) same ∙ e) ∙ same

once_named : (t : Typed) (n : List ℕ) (ss : List ℕ) → 0 < length ss
    → (declare_all t n ss).names ≡ with_table_name t.names n
once_named t n [] h = absurd (omega arith)
once_named t n (s ∷ ss) h =
    again (declare t n s) n ss (ap (has_name n) (names_declared t n s) ∙ has_with t.names n)
    ∙ names_declared t n s

constants_named : (t : Typed) (cs : List declared.Declared) → HaveTypes cs
    → (constants_typed t cs).names ≡ put_constants t.names cs
constants_named t [] h = refl
constants_named t (c ∷ cs) h =
    constants_named (declare_all t c.name c.sorts) cs h.1
    ∙ ap (λ ns. put_constants ns cs) (once_named t c.name c.sorts h.0)

typed_all : (sorts : ℕ) (t : Typed) (n : List ℕ) (ss : List ℕ) → is_name n ≡ true
    → list_all (λ s. nat_lt s sorts) ss ≡ true → AreTyped sorts t
    → AreTyped sorts (declare_all t n ss)
typed_all sorts t n [] e f a = a
typed_all sorts t n (s ∷ ss) e f a =
    typed_all sorts (declare t n s) n ss e (second_so (nat_lt s sorts) (list_all (λ s. nat_lt s sorts) ss) f)
    (typed_each sorts t (n ∷ []) (s ∷ []) a (and_from (is_name n) true e refl)
    (and_from (nat_lt s sorts) true (first_so (nat_lt s sorts) (list_all (λ s. nat_lt s sorts) ss) f) refl))

typed_constants : (sorts : ℕ) (t : Typed) (cs : List declared.Declared)
    → list_all is_name (constant_names cs) ≡ true
    → list_all (λ (c : declared.Declared). are_places sorts c.sorts) cs ≡ true → AreTyped sorts t
    → AreTyped sorts (constants_typed t cs)
typed_constants sorts t [] e f a = a
typed_constants sorts t (c ∷ cs) e f a =
    let places = first_so (are_places sorts c.sorts) (list_all (λ (c : declared.Declared). are_places sorts c.sorts) cs) f in
    typed_constants sorts (declare_all t c.name c.sorts) cs (second_so (is_name c.name) (list_all is_name (constant_names cs)) e)
    (second_so (are_places sorts c.sorts) (list_all (λ (c : declared.Declared). are_places sorts c.sorts) cs) f)
    (typed_all sorts t c.name c.sorts (first_so (is_name c.name) (list_all is_name (constant_names cs)) e)
    (second_so (is_short c.sorts) (list_all (λ s. nat_lt s sorts) c.sorts) places) a)

none_typed : (sorts : ℕ) → AreTyped sorts no_typed
none_typed sorts = record { even = refl; named = refl; distinct = distinct_nil; ascend = tt }

-- ---- an `:objects` item

abbrev declared_here : List (List ℕ) → Typed → Trees → Typed
declared_here sorts t rest =
    declare_each t (named_words Start rest) (named_sorts sorts Start 0 rest)

abbrev grown_by : List (List ℕ) → Typed → Item → Trees → Typed
grown_by sorts t it rest = cond (is_objects it) (declared_here sorts t rest) t

begins_here : (sorts : List (List ℕ)) (t : Typed) (rest : Trees) (b : Bool)
    → BeginsWith t.names (cond b (declared_here sorts t rest) t).names
begins_here sorts t rest true =
    begins_each t (named_words Start rest) (named_sorts sorts Start 0 rest)
begins_here sorts t rest false = begins_itself t.names

begins_all : (sorts : List (List ℕ)) (t : Typed) (body : Trees)
    → BeginsWith t.names (objects_typed sorts t body).names
begins_all sorts t nothing = begins_itself t.names
begins_all sorts t (word w at rest) = begins_all sorts t rest
begins_all sorts t (list items at rest) =
    let it : Item = item_of text.Problem (head_of items) in
    begins_twice t.names (grown_by sorts t it (tail_of items)).names (objects_typed sorts (grown_by sorts t it (tail_of items)) rest).names
    (begins_here sorts t (tail_of items) (is_objects it)) (begins_all sorts (grown_by sorts t it (tail_of items)) rest)

same_here : (sorts : List (List ℕ)) (t : Typed) (rest : Trees) (b : Bool)
    → (cond b (declared_here sorts t rest) t).names ≡ cond b (seen_after t.names Start rest) t.names
same_here sorts t rest true =
    names_each t (named_words Start rest) (named_sorts sorts Start 0 rest) (sorts_as_long sorts rest)
    ∙ sym (seen_put t.names Start rest)
same_here sorts t rest false = refl

same_all : (sorts : List (List ℕ)) (t : Typed) (body : Trees)
    → (objects_typed sorts t body).names ≡ object_names_in t.names body
same_all sorts t nothing = refl
same_all sorts t (word w at rest) = same_all sorts t rest
same_all sorts t (list items at rest) =
    let it : Item = item_of text.Problem (head_of items) in
    same_all sorts (grown_by sorts t it (tail_of items)) rest
    ∙ ap (λ ns. object_names_in ns rest) (same_here sorts t (tail_of items) (is_objects it))

-- where each constant has a type, the names that were declared with types are those that the problem looks up
pub names_typed : (d : Domain) (sorts : List (List ℕ)) (body : Trees) → HaveTypes d.constants
    → (all_typed d sorts body).names ≡ object_names_in (put_constants [] d.constants) body
names_typed d sorts body typed =
    same_all sorts (constants_typed no_typed d.constants) body
    ∙ ap (λ ns. object_names_in ns body) (constants_named no_typed d.constants typed)

pub types_tested : (cs : List declared.Declared) → list_all has_type cs ≡ true → HaveTypes cs
types_tested [] e = tt
types_tested (c ∷ cs) e = (
  ltb-true 0 (length c.sorts) (first_so (has_type c) (list_all has_type cs) e),
  types_tested cs (second_so (has_type c) (list_all has_type cs) e),
)

-- the names of such an item, without faults
record AreGood (v : Vocabulary) (rest : Trees) : Type 0 where
  place : ℕ
  formed : groups_faults Name place Start rest ≡ []
  known : types_names v.sorts Start rest ≡ []

good_by : (v : Vocabulary) (d : Domain) (it : Item) (place at : ℕ) (rest : Trees)
    → is_objects it ≡ true → body_faults it place at rest ≡ [] → problem_body_names v d it rest ≡ []
    → AreGood v rest
good_by v d item.Objects place at rest e f g = record { place = place; formed = f; known = g }
good_by v d it place at rest e f g = absurd (cc)

good : (v : Vocabulary) (d : Domain) (place : ℕ) (items : Trees)
    → item_faults text.Problem place items ≡ []
    → problem_body_names v d (item_of text.Problem (head_of items)) (tail_of items) ≡ []
    → is_objects (item_of text.Problem (head_of items)) ≡ true → AreGood v (tail_of items)
good v d place nothing f g e = absurd (cc)
good v d place (list items at rest) f g e = absurd (cc)
good v d place (word w at rest) f g e = good_by v d (item_of text.Problem w) place at rest e f g

module _ (v : Vocabulary) (d : Domain) (typed : 0 < length v.sorts) where
  typed_here : (t : Typed) (rest : Trees) (b : Bool) → (b ≡ true → AreGood v rest)
      → AreTyped (length v.sorts) t
      → AreTyped (length v.sorts) (cond b (declared_here v.sorts t rest) t)
  typed_here t rest true are a =
      typed_groups v.sorts t (are refl).place rest typed a (are refl).formed (are refl).known
  typed_here t rest false are a = a

  typed_objects : (t : Typed) (body : Trees) → items_faults text.Problem body ≡ []
      → problem_items_names v d body ≡ [] → AreTyped (length v.sorts) t
      → AreTyped (length v.sorts) (objects_typed v.sorts t body)
  typed_objects t nothing e f a = a
  typed_objects t (word w at rest) e f a = absurd (cc)
  typed_objects t (list items at rest) e f a =
      let it : Item = item_of text.Problem (head_of items) in
      let forms = none_both (item_faults text.Problem at items) (items_faults text.Problem rest) e in
      let names = none_both (problem_body_names v d it (tail_of items)) (problem_items_names v d rest) f in
      typed_objects (grown_by v.sorts t it (tail_of items)) rest forms.1 names.1
      (typed_here t (tail_of items) (is_objects it) (good v d at items forms.0 names.0) a)

  few_here : (t : Typed) (rest : Trees) (b : Bool) → (b ≡ true → AreGood v rest)
      → length (cond b (declared_here v.sorts t rest) t).names ≤ length t.names + size rest
  few_here t rest true are = declared_length v.sorts t (are refl).place rest (are refl).formed
  few_here t rest false are = omega arith

  few_objects : (t : Typed) (body : Trees) → items_faults text.Problem body ≡ []
      → problem_items_names v d body ≡ []
      → length (objects_typed v.sorts t body).names ≤ length t.names + size body
  few_objects t nothing e f = omega arith
  few_objects t (word w at rest) e f = absurd (cc)
  few_objects t (list items at rest) e f =
      let it : Item = item_of text.Problem (head_of items) in
      let forms = none_both (item_faults text.Problem at items) (items_faults text.Problem rest) e in
      let names = none_both (problem_body_names v d it (tail_of items)) (problem_items_names v d rest) f in
      let more = few_objects (grown_by v.sorts t it (tail_of items)) rest forms.1 names.1 in
      let here = few_here t (tail_of items) (is_objects it) (good v d at items forms.0 names.0) in
      omega (arith, more, here, tail_small items)

-- ---- all objects

-- what a fit domain that was read has: each constant has a type, and they take no more bytes than a text may have
pub record AreConstants (cs : List declared.Declared) : Type 0 where
  pub typed : HaveTypes cs
  pub few : length cs ≤ 4194304

module _ (d : Domain) (v : Vocabulary) (body : Trees) (fit : IsFitDomain d) (constants : AreConstants d.constants)
    (sorts : length v.sorts ≡ length d.sorts) (formed : items_faults text.Problem body ≡ [])
    (named : problem_items_names v d body ≡ []) where
  some : 0 < length v.sorts
  some = sorts_some d v fit sorts

  abbrev all : Typed
  all = all_typed d v.sorts body

  places : list_all (λ (c : declared.Declared). are_places (length v.sorts) c.sorts) d.constants ≡ true
  places =
      ap (λ k. list_all (λ (c : declared.Declared). are_places k c.sorts) d.constants) sorts
      ∙ fit.constants.types

  typed_whole : AreTyped (length v.sorts) all
  typed_whole =
      typed_objects v d some (constants_typed no_typed d.constants) body formed named
      (typed_constants (length v.sorts) no_typed d.constants fit.constants.names.each places (none_typed (length v.sorts)))

  pub constants_are : (constants_typed no_typed d.constants).names ≡ constant_names d.constants
  constants_are =
      constants_named no_typed d.constants constants.typed
      ∙ constants_put [] d.constants (fresh_from [] (constant_names d.constants) fit.constants.names.distinct)

  length_mapped : (cs : List declared.Declared) → length (constant_names cs) ≡ length cs
  length_mapped [] = refl
  length_mapped (c ∷ cs) = ap (λ m. suc m) (length_mapped cs)

  abbrev pub all_objects : List declared.Declared
  all_objects = declared_list all.names all.sorts

  pub objects_named : constant_names all_objects ≡ all.names
  objects_named = list_named all.names all.sorts typed_whole.even

  pub objects_long : length all_objects ≡ length all.names
  objects_long = list_long all.names all.sorts typed_whole.even

  -- the names that the problem looks up
  pub objects_same : all.names ≡ object_names_in (put_constants [] d.constants) body
  objects_same = names_typed d v.sorts body constants.typed

  pub objects_fit : size body ≤ 4194304 → AreFitObjects d all_objects
  objects_fit small =
      let many = few_objects v d some (constants_typed no_typed d.constants) body formed named in
      let long : length (constants_typed no_typed d.constants).names ≡ length d.constants =
      ap length constants_are ∙ length_mapped d.constants in
      typed_fit d all (leb-true (length d.sorts) 8388608 fit.types.short)
      (omega (arith, many, long, constants.few, small)) (subst (λ k. AreTyped k all) sorts typed_whole)

  -- the constants are the first of them
  pub constants_first : constant_names d.constants ≡ take (length d.constants) (constant_names all_objects)
  constants_first =
      let begins : BeginsWith (constant_names d.constants) all.names =
      subst (λ ns. BeginsWith ns all.names) constants_are (begins_all v.sorts (constants_typed no_typed d.constants) body) in
      first_ones (constant_names d.constants) all.names begins ∙ (λ i. take (length_mapped d.constants i) (sym objects_named i))
