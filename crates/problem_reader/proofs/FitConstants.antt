-- The constants of a domain that was read: each has a type, and they are few.
use Rattle.std.proofs.Common.{◌≡◌, ℕ, zero, suc, ◌+◌, ◌<◌, ◌≤◌, Bool, true, false, cond, ◌==◌, nat_lt, List, [], ◌∷◌, ◌++◌, length, refl, sym, ap, subst, ◌∙◌, Option, Some, None, slice_get, slice_set, arith}
use Rattle.std.proofs.lemmas.Bool.{cond_both}
use Rattle.lemmas.proofs.Members.{none_both}
use Rattle.sexpr_text.specs.Trees.{Trees, nothing, word, list, size}
use Rattle.task_model.specs.declared.domain.Domain as domain
use Rattle.form_reader.proofs.RowsLemmas.{tail_small}
use Rattle.form_reader.specs.declared.groups.Spot.TheVariants.{Start}
use Rattle.form_reader.specs.declared.items.Item.{Item}
use Rattle.form_reader.specs.declared.items.Item.TheVariants as item
use Rattle.form_reader.specs.declared.items.TextKind.TheVariants as text
use Rattle.form_reader.specs.declared.words.WordSort.TheVariants.{Name}
use Rattle.form_reader.specs.Items.{body_faults, item_faults, item_of, items_faults}
use Rattle.form_reader.specs.Rows.{groups_faults, head_of, tail_of}
use Rattle.form_reader.specs.Texts.{form_faults}
use Rattle.name_tables.specs.Declarations.{Typed, declare, declare_each, declared_by, declared_list, put_number, no_typed}
use Rattle.name_tables.specs.Graphs.{ascending_with}
use Rattle.name_tables.specs.Names.{table_place}
use Rattle.name_tables.specs.Variables.{named_sorts, named_words}
use Rattle.name_tables.proofs.TextsLemmas.{body_less}
use Rattle.name_tables.proofs.TitleLemmas.{titled}
use Rattle.name_tables.proofs.FitDeclared.{list_long}
use Rattle.domain_reader.specs.Domains.{IsDomainRead, constants_in, is_constants}
use Rattle.domain_reader.specs.Domains as domains
use Rattle.name_tables.specs.Texts.{body_of}
use Rattle.problem_reader.proofs.FitObjects.{AreConstants, HaveTypes}
use Rattle.problem_reader.proofs.TablesAppendLemmas.{declared_length}
use Rattle.problem_reader.proofs.TablesDomainLemmas.{constants_even}

-- ---- each has a type

-- no list is empty
abbrev AllSome : List (List ℕ) → Type 0
AllSome [] = Unit {0}
AllSome (ns ∷ lists) = (0 < length ns) × AllSome lists

some_with : (ns : List ℕ) (n : ℕ) → 0 < length (ascending_with ns n)
some_with [] n = omega arith
some_with (m ∷ ms) n =
    cond_both (nat_lt n m) (n ∷ m ∷ ms) (cond (n == m) (m ∷ ms) (m ∷ ascending_with ms n)) (λ xs. 0 < length xs) (λ less. omega arith)
    (λ more. cond_both (n == m) (m ∷ ms) (m ∷ ascending_with ms n) (λ xs. 0 < length xs) (λ same. omega arith) (λ other. omega arith))

some_push : (lists : List (List ℕ)) (n : ℕ) → AllSome lists → AllSome (lists ++ (n ∷ []) ∷ [])
some_push [] n s = (omega arith, tt)
some_push (ns ∷ lists) n s = (s.0, some_push lists n s.1)

some_set : (lists : List (List ℕ)) (k n : ℕ) (old : List ℕ) → AllSome lists
    → AllSome (slice_set lists k (ascending_with old n))
some_set [] k n old s = s
some_set (ns ∷ lists) zero n old s = (some_with old n, s.1)
some_set (ns ∷ lists) (suc k) n old s = (s.0, some_set lists k n old s.1)

some_put : (lists : List (List ℕ)) (place n : ℕ) (o : Option (List ℕ)) → AllSome lists
    → AllSome (put_number lists place n o)
some_put lists place n None s = s
some_put lists place n (Some old) s = some_set lists place n old s

some_declared : (t : Typed) (name : List ℕ) (n : ℕ) (o : Option ℕ) → AllSome t.sorts
    → AllSome (declared_by t name n o).sorts
some_declared t name n None s = some_push t.sorts n s
some_declared t name n (Some place) s = some_put t.sorts place n (slice_get t.sorts place) s

some_each : (t : Typed) (ns : List (List ℕ)) (ss : List ℕ) → AllSome t.sorts
    → AllSome (declare_each t ns ss).sorts
some_each t [] ss s = s
some_each t (n ∷ ns) [] s = s
some_each t (n ∷ ns) (k ∷ ks) s =
    some_each (declare t n k) ns ks (some_declared t n k (table_place n t.names) s)

abbrev declared_here : List (List ℕ) → Typed → Trees → Typed
declared_here sorts t rest =
    declare_each t (named_words Start rest) (named_sorts sorts Start 0 rest)

abbrev grown_by : List (List ℕ) → Typed → Item → Trees → Typed
grown_by sorts t it rest = cond (is_constants it) (declared_here sorts t rest) t

some_here : (sorts : List (List ℕ)) (t : Typed) (rest : Trees) (b : Bool) → AllSome t.sorts
    → AllSome (cond b (declared_here sorts t rest) t).sorts
some_here sorts t rest true s =
    some_each t (named_words Start rest) (named_sorts sorts Start 0 rest) s
some_here sorts t rest false s = s

some_in : (sorts : List (List ℕ)) (t : Typed) (body : Trees) → AllSome t.sorts
    → AllSome (constants_in sorts t body).sorts
some_in sorts t nothing s = s
some_in sorts t (word w at rest) s = some_in sorts t rest s
some_in sorts t (list items at rest) s =
    let it : Item = item_of text.Domain (head_of items) in
    some_in sorts (grown_by sorts t it (tail_of items)) rest (some_here sorts t (tail_of items) (is_constants it) s)

list_typed : (ns ss : List (List ℕ)) → AllSome ss → HaveTypes (declared_list ns ss)
list_typed [] ss s = tt
list_typed (n ∷ ns) [] s = tt
list_typed (n ∷ ns) (k ∷ ks) s = (s.0, list_typed ns ks s.1)

-- ---- as many names as lists of types

-- ---- each takes a byte

record IsGood (rest : Trees) : Type 0 where
  place : ℕ
  formed : groups_faults Name place Start rest ≡ []

good_by : (it : Item) (place at : ℕ) (rest : Trees) → is_constants it ≡ true
    → body_faults it place at rest ≡ [] → IsGood rest
good_by item.Constants place at rest e f = record { place = place; formed = f }
good_by it place at rest e f = absurd (cc)

good : (place : ℕ) (items : Trees) → item_faults text.Domain place items ≡ []
    → is_constants (item_of text.Domain (head_of items)) ≡ true → IsGood (tail_of items)
good place nothing f e = absurd (cc)
good place (list items at rest) f e = absurd (cc)
good place (word w at rest) f e = good_by (item_of text.Domain w) place at rest e f

few_here : (sorts : List (List ℕ)) (t : Typed) (rest : Trees) (b : Bool) → (b ≡ true → IsGood rest)
    → length (cond b (declared_here sorts t rest) t).names ≤ length t.names + size rest
few_here sorts t rest true is = declared_length sorts t (is refl).place rest (is refl).formed
few_here sorts t rest false is = omega arith

few_in : (sorts : List (List ℕ)) (t : Typed) (body : Trees) → items_faults text.Domain body ≡ []
    → length (constants_in sorts t body).names ≤ length t.names + size body
few_in sorts t nothing e = omega arith
few_in sorts t (word w at rest) e = absurd (cc)
few_in sorts t (list items at rest) e =
    let it : Item = item_of text.Domain (head_of items) in
    let forms = none_both (item_faults text.Domain at items) (items_faults text.Domain rest) e in
    let more = few_in sorts (grown_by sorts t it (tail_of items)) rest forms.1 in
    let here = few_here sorts t (tail_of items) (is_constants it) (good at items forms.0) in
    omega (arith, more, here, tail_small items)

formed_items : (t : Trees) → form_faults text.Domain t ≡ []
    → items_faults text.Domain (body_of t) ≡ []
formed_items nothing e = refl
formed_items (word w at rest) e = absurd (cc)
formed_items (list items at rest) e = (titled text.Domain items at rest e).items

pub constants_read : (t : Trees) (d : domain.Domain) → IsDomainRead t d → size t ≤ 4194304
    → AreConstants d.constants
constants_read t d read small =
    let sorts : List (List ℕ) = (domains.domain_names t).sorts in
    let made : Typed = constants_in sorts no_typed (body_of t) in
    let even : length made.names ≡ length made.sorts = constants_even sorts no_typed (body_of t) refl in
    let few = few_in sorts no_typed (body_of t) (formed_items t read.formed) in
    let long : length d.constants ≡ length made.names = ap length read.domain.parts.constants ∙ list_long made.names made.sorts even in
    record {
      typed = subst HaveTypes (sym read.domain.parts.constants) (list_typed made.names made.sorts (some_in sorts no_typed (body_of t) tt));
      few = omega (arith, long, few, small, body_less t);
    }
