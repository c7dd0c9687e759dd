-- The names of a domain that is read.
use Rattle.std.proofs.Common.{◌≡◌, ℕ, true, false, cond, ◌||◌, List, [], ◌∷◌, ◌++◌, map, length, length-append, refl, sym, ap, subst, ◌∙◌, arith, ◌⊎◌, inl, inr, Contains, codes, ◌↔◌}
use Rattle.std.proofs.lemmas.Bool.{false≢true}
use Rattle.std.specs.Str.{bytes_eq}
use Rattle.lemmas.proofs.Ascending.{contains_cases, contains_here, contains_none}
use Rattle.lemmas.proofs.Bools.{from_or_false}
use Rattle.lemmas.proofs.Distinct.{from_mapped, in_mapped}
use Rattle.sexpr_text.specs.Trees.{Trees, nothing, word, list}
use Rattle.form_reader.specs.Items.{domain_item_of}
use Rattle.form_reader.specs.Rows.{head_of, tail_of}
use Rattle.form_reader.specs.declared.groups.Spot.TheVariants.{Start}
use Rattle.form_reader.specs.declared.items.Item.{Item}
use Rattle.form_reader.specs.declared.items.Item.TheVariants as item
use Rattle.name_tables.proofs.NamesLemmas.{name_itself, same_name}
use Rattle.name_tables.specs.Declarations.{signature_list}
use Rattle.name_tables.specs.Names.{Signed, has_name, with_table_name, with_signature}
use Rattle.name_tables.specs.Texts.{body_of}
use Rattle.name_tables.specs.Variables.{named_words}
use Rattle.name_tables.specs.Vocabulary.{with_total_cost}
use Rattle.name_tables.specs.declared.vocabulary.Vocabulary.{Vocabulary}
use Rattle.domain_reader.proofs.FitSorts.{sorts_named}
use Rattle.domain_reader.specs.Cycles.{type_edges}
use Rattle.domain_reader.specs.Domains.{ArePartsOf, IsDomainRead, action_of, actions_of, domain_names}
use Rattle.domain_reader.specs.Names.{is_action}
use Rattle.domain_reader.specs.Tables.{declared_arity, functions_in, no_names, predicates_in, with_item, with_items}
use Rattle.task_model.specs.declared.domain.Action.{Action}
use Rattle.task_model.specs.declared.domain.Domain.{Domain}
use Rattle.task_model.specs.declared.domain.Signature.{Signature}
use Rattle.task_model.specs.declared.domain.Sort as sort
use Rattle.table_laws.proofs.ItemLemmas.{IsKeyOf, action_item, from_rows, functions_item, in_rows, key_of_domain, predicates_item, types_item}
use Rattle.table_laws.proofs.ObjectLemmas.{constants_declared}
use Rattle.table_laws.proofs.TableLemmas.{DeclaredIn, from_has, functions_forth, functions_keep, functions_put, has_from, predicates_forth, predicates_keep, predicates_put, signature_names, types_forth, types_keep, types_put, with_forth, with_keeps, with_puts}
use Rattle.table_laws.specs.Declared.{HasDeclaredNames, IsDeclaredIn, IsFunctionName, IsItemName, IsTypeName}
use Rattle.table_laws.specs.Rows.{HasItem, HasList, HasWord}

abbrev step : Vocabulary → Trees → Vocabulary
step v items = with_item v (domain_item_of (head_of items)) (tail_of items)

-- ---- a table that items of one key fill

-- Items of one key put what they add into a table, and no other item does.
record IsFilledBy (key : List ℕ) (Adds : Trees → List ℕ → Type 0) (get : Vocabulary → List (List ℕ)) : Type 0 where
  forth : (v : Vocabulary) (items : Trees) (n : List ℕ) → has_name n (get (step v items)) ≡ true
      → (has_name n (get v) ≡ true) ⊎ ((head_of items ≡ key) × Adds (tail_of items) n)
  keeps : (v : Vocabulary) (items : Trees) (n : List ℕ) → has_name n (get v) ≡ true
      → has_name n (get (step v items)) ≡ true
  puts : (v : Vocabulary) (items : Trees) (n : List ℕ) → head_of items ≡ key → Adds (tail_of items) n
      → has_name n (get (step v items)) ≡ true

module _ (key : List ℕ) (Adds : Trees → List ℕ → Type 0) (get : Vocabulary → List (List ℕ))
    (filled : IsFilledBy key Adds get) where
  abbrev Given : Trees → List ℕ → Type 0
  Given body n = (row : Trees) × HasItem key body row × Adds row n

  items_forth : (v : Vocabulary) (body : Trees) (n : List ℕ) → has_name n (get (with_items v body)) ≡ true
      → (has_name n (get v) ≡ true) ⊎ Given body n
  items_forth v nothing n h = inl h
  items_forth v (word text at rest) n h = later (items_forth v rest n h)
    where
      later : (has_name n (get v) ≡ true) ⊎ Given rest n → (has_name n (get v) ≡ true) ⊎ Given (word text at rest) n
      later (inl old) = inl old
      later (inr g) =
          inr (g.0, record { items = g.1.items; there = g.1.there; head = g.1.head; is = g.1.is }, g.2)
  items_forth v (list items at rest) n h = by (items_forth (step v items) rest n h)
    where
      front : (has_name n (get v) ≡ true) ⊎ ((head_of items ≡ key) × Adds (tail_of items) n)
          → (has_name n (get v) ≡ true) ⊎ Given (list items at rest) n
      front (inl old) = inl old
      front (inr new) =
          inr (tail_of items, record { items = items; there = inl refl; head = new.0; is = refl }, new.1)

      by : (has_name n (get (step v items)) ≡ true) ⊎ Given rest n
          → (has_name n (get v) ≡ true) ⊎ Given (list items at rest) n
      by (inl first) = front (filled.forth v items n first)
      by (inr g) =
          inr (g.0, record { items = g.1.items; there = inr g.1.there; head = g.1.head; is = g.1.is }, g.2)

  items_keep : (v : Vocabulary) (body : Trees) (n : List ℕ) → has_name n (get v) ≡ true
      → has_name n (get (with_items v body)) ≡ true
  items_keep v nothing n h = h
  items_keep v (word text at rest) n h = items_keep v rest n h
  items_keep v (list items at rest) n h = items_keep (step v items) rest n (filled.keeps v items n h)

  items_put : (v : Vocabulary) (body items : Trees) (n : List ℕ) → HasList items body → head_of items ≡ key
      → Adds (tail_of items) n → has_name n (get (with_items v body)) ≡ true
  items_put v nothing items n there head adds = absurd there
  items_put v (word text at rest) items n there head adds = items_put v rest items n there head adds
  items_put v (list other at rest) items n (inl same) head adds =
      items_keep (step v other) rest n
      (filled.puts v other n (sym (ap head_of same) ∙ head) (subst (λ i. Adds (tail_of i) n) same adds))
  items_put v (list other at rest) items n (inr there) head adds =
      items_put (step v other) rest items n there head adds

  items_given : (v : Vocabulary) (body : Trees) (n : List ℕ) → Given body n → has_name n (get (with_items v body)) ≡ true
  items_given v body n g =
      items_put v body g.1.items n g.1.there g.1.head (subst (λ row. Adds row n) g.1.is g.2)

-- ---- types

abbrev TypeIn : Trees → List ℕ → Type 0
TypeIn row n = HasWord n row × ¬ (n ≡ codes "-")

module _ (v : Vocabulary) (row : Trees) (n w : List ℕ) where
  type_by : (i : Item) → IsKeyOf i w → has_name n (with_item v i row).sorts ≡ true
      → (has_name n v.sorts ≡ true) ⊎ ((w ≡ codes ":types") × TypeIn row n)
  type_by item.Types e h = by (types_forth v.sorts row n h)
    where
      by : (has_name n v.sorts ≡ true) ⊎ TypeIn row n → (has_name n v.sorts ≡ true) ⊎ ((w ≡ codes ":types") × TypeIn row n)
      by (inl old) = inl old
      by (inr new) = inr (e, new)
  type_by i e h = inl h

  type_keeps : (i : Item) → has_name n v.sorts ≡ true → has_name n (with_item v i row).sorts ≡ true
  type_keeps item.Types h = types_keep v.sorts row n h
  type_keeps i h = h

  predicate_by : (i : Item) → IsKeyOf i w → has_name n (with_item v i row).predicates.names ≡ true
      → (has_name n v.predicates.names ≡ true) ⊎ ((w ≡ codes ":predicates") × DeclaredIn row n)
  predicate_by item.Predicates e h = by (predicates_forth v.predicates row n h)
    where
      by : (has_name n v.predicates.names ≡ true) ⊎ DeclaredIn row n
          → (has_name n v.predicates.names ≡ true) ⊎ ((w ≡ codes ":predicates") × DeclaredIn row n)
      by (inl old) = inl old
      by (inr new) = inr (e, new)
  predicate_by i e h = inl h

  predicate_keeps : (i : Item) → has_name n v.predicates.names ≡ true → has_name n (with_item v i row).predicates.names ≡ true
  predicate_keeps item.Predicates h = predicates_keep v.predicates row n h
  predicate_keeps i h = h

  function_by : (i : Item) → IsKeyOf i w → has_name n (with_item v i row).functions.names ≡ true
      → (has_name n v.functions.names ≡ true) ⊎ ((w ≡ codes ":functions") × DeclaredIn row n)
  function_by item.Functions e h = by (functions_forth v.functions row n h)
    where
      by : (has_name n v.functions.names ≡ true) ⊎ DeclaredIn row n
          → (has_name n v.functions.names ≡ true) ⊎ ((w ≡ codes ":functions") × DeclaredIn row n)
      by (inl old) = inl old
      by (inr new) = inr (e, new)
  function_by i e h = inl h

  function_keeps : (i : Item) → has_name n v.functions.names ≡ true → has_name n (with_item v i row).functions.names ≡ true
  function_keeps item.Functions h = functions_keep v.functions row n h
  function_keeps i h = h

-- the item of a word that is a key
kind_is : (w key : List ℕ) (i : Item) → w ≡ key → domain_item_of key ≡ i → domain_item_of w ≡ i
kind_is w key i e f = ap domain_item_of e ∙ f

types_filled : IsFilledBy (codes ":types") TypeIn (λ v. v.sorts)
types_filled = record {
  forth = λ v items n h.
      type_by v (tail_of items) n (head_of items) (domain_item_of (head_of items)) (key_of_domain (head_of items)) h;
  keeps = λ v items n h. type_keeps v (tail_of items) n (head_of items) (domain_item_of (head_of items)) h;
  puts = λ v items n e adds. subst (λ i. has_name n (with_item v i (tail_of items)).sorts ≡ true)
      (sym (kind_is (head_of items) (codes ":types") item.Types e types_item))
      (types_put v.sorts (tail_of items) n adds.0 adds.1);
}

predicates_filled : IsFilledBy (codes ":predicates") DeclaredIn (λ v. v.predicates.names)
predicates_filled = record {
  forth = λ v items n h.
      predicate_by v (tail_of items) n (head_of items) (domain_item_of (head_of items)) (key_of_domain (head_of items)) h;
  keeps = λ v items n h. predicate_keeps v (tail_of items) n (head_of items) (domain_item_of (head_of items)) h;
  puts = λ v items n e adds. subst (λ i. has_name n (with_item v i (tail_of items)).predicates.names ≡ true)
      (sym (kind_is (head_of items) (codes ":predicates") item.Predicates e predicates_item))
      (predicates_put v.predicates (tail_of items) n adds.0 adds.1 adds.2);
}

functions_filled : IsFilledBy (codes ":functions") DeclaredIn (λ v. v.functions.names)
functions_filled = record {
  forth = λ v items n h.
      function_by v (tail_of items) n (head_of items) (domain_item_of (head_of items)) (key_of_domain (head_of items)) h;
  keeps = λ v items n h. function_keeps v (tail_of items) n (head_of items) (domain_item_of (head_of items)) h;
  puts = λ v items n e adds. subst (λ i. has_name n (with_item v i (tail_of items)).functions.names ≡ true)
      (sym (kind_is (head_of items) (codes ":functions") item.Functions e functions_item))
      (functions_put v.functions (tail_of items) n adds.0 adds.1 adds.2);
}

-- ---- the tables of a domain

nothing_has : (n : List ℕ) → has_name n [] ≡ true → ⊥
nothing_has n h = false≢true h

module _ (body : Trees) (n : List ℕ) where
  abbrev all : Vocabulary
  all = with_items no_names body

  type_names : (has_name n all.sorts ≡ true) ↔ IsTypeName body n
  type_names = (λ h. forth (items_forth (codes ":types") TypeIn (λ v. v.sorts) types_filled no_names body n h), back)
    where
      forth : (has_name n (codes "object" ∷ []) ≡ true)
          ⊎ ((row : Trees) × HasItem (codes ":types") body row × TypeIn row n) → IsTypeName body n
      forth (inl old) = inl (same_name n (codes "object") (from_or_false (bytes_eq n (codes "object")) old))
      forth (inr g) = inr (g.0, g.1, g.2.0, g.2.1)

      back : IsTypeName body n → has_name n all.sorts ≡ true
      back (inl e) =
          items_keep (codes ":types") TypeIn (λ v. v.sorts) types_filled no_names body n
          (ap (λ b. b || false) (name_itself n (codes "object") e))
      back (inr g) =
          items_given (codes ":types") TypeIn (λ v. v.sorts) types_filled no_names body n (g.0, g.1, (g.2, g.3))

  predicate_names : (has_name n all.predicates.names ≡ true) ↔ IsDeclaredIn (codes ":predicates") body n
  predicate_names = (
    λ h. forth (items_forth (codes ":predicates") DeclaredIn (λ v. v.predicates.names) predicates_filled no_names body n h),
    λ g. items_given (codes ":predicates") DeclaredIn (λ v. v.predicates.names) predicates_filled no_names body n g,
  )
    where
      forth : (has_name n [] ≡ true) ⊎ IsDeclaredIn (codes ":predicates") body n → IsDeclaredIn (codes ":predicates") body n
      forth (inl old) = absurd (nothing_has n old)
      forth (inr g) = g

  function_names : (has_name n (with_total_cost all).functions.names ≡ true) ↔ IsFunctionName body n
  function_names = (λ h. forth (with_forth all.functions.names (codes "total-cost") n (sym named ∙ h)), λ g. named ∙ back g)
    where
      named : has_name n (with_total_cost all).functions.names
          ≡ has_name n (with_table_name all.functions.names (codes "total-cost"))
      named = ap (has_name n) (signature_names all.functions (codes "total-cost") 0)

      given : (has_name n [] ≡ true) ⊎ IsDeclaredIn (codes ":functions") body n → IsFunctionName body n
      given (inl old) = absurd (nothing_has n old)
      given (inr g) = inr g

      forth : (has_name n all.functions.names ≡ true) ⊎ (n ≡ codes "total-cost") → IsFunctionName body n
      forth (inl h) =
          given (items_forth (codes ":functions") DeclaredIn (λ v. v.functions.names) functions_filled no_names body n h)
      forth (inr e) = inl e

      back : IsFunctionName body n → has_name n (with_table_name all.functions.names (codes "total-cost")) ≡ true
      back (inl e) = with_puts all.functions.names (codes "total-cost") n e
      back (inr g) =
          with_keeps all.functions.names (codes "total-cost") n
          (items_given (codes ":functions") DeclaredIn (λ v. v.functions.names) functions_filled no_names body n g)

-- ---- signatures

-- both lists of a table are as long
abbrev Even : Signed → Type 0
Even s = length s.names ≡ length s.arities

even_with : (s : Signed) (name : List ℕ) (arity : ℕ) → Even s → Even (with_signature s name arity)
even_with s name arity e =
    elim (has_name name s.names) as
    (λ b. Even (cond b s (record { names = s.names ++ name ∷ []; arities = s.arities ++ arity ∷ [] }))) [
      | true ↦ e
      | false ↦ omega (arith, length-append s.names (name ∷ []), length-append s.arities (arity ∷ []), e)
    ]

even_predicates : (s : Signed) (t : Trees) → Even s → Even (predicates_in s t)
even_predicates s nothing e = e
even_predicates s (word text at rest) e = even_predicates s rest e
even_predicates s (list items at rest) e =
    even_predicates (with_signature s (head_of items) (length (named_words Start (tail_of items)))) rest
    (even_with s (head_of items) (length (named_words Start (tail_of items))) e)

even_functions : (s : Signed) (t : Trees) → Even s → Even (functions_in s t)
even_functions s nothing e = e
even_functions s (word text at rest) e = even_functions s rest e
even_functions s (list items at rest) e =
    even_functions (with_signature s (head_of items) (declared_arity (head_of items) (tail_of items))) rest
    (even_with s (head_of items) (declared_arity (head_of items) (tail_of items)) e)

abbrev BothEven : Vocabulary → Type 0
BothEven v = Even v.predicates × Even v.functions

even_item : (v : Vocabulary) (i : Item) (row : Trees) → BothEven v → BothEven (with_item v i row)
even_item v item.Predicates row e = (even_predicates v.predicates row e.0, e.1)
even_item v item.Functions row e = (e.0, even_functions v.functions row e.1)
even_item v i row e = e

even_items : (v : Vocabulary) (body : Trees) → BothEven v → BothEven (with_items v body)
even_items v nothing e = e
even_items v (word text at rest) e = even_items v rest e
even_items v (list items at rest) e =
    even_items (step v items) rest (even_item v (domain_item_of (head_of items)) (tail_of items) e)

signatures_named : (ns : List (List ℕ)) (as' : List ℕ) → length ns ≡ length as'
    → map (λ (s : Signature). s.name) (signature_list ns as') ≡ ns
signatures_named [] as' e = refl
signatures_named (n ∷ ns) [] e = absurd (omega (arith, e))
signatures_named (n ∷ ns) (a ∷ as') e = ap (λ ms. n ∷ ms) (signatures_named ns as' (omega (arith, e)))

-- ---- actions

one_member : (x y : Action) → Contains (x ∷ []) y → y ≡ x
one_member x y m = by (contains_cases x [] y m)
  where
    by : (x ≡ y) ⊎ Contains [] y → y ≡ x
    by (inl same) = sym same
    by (inr none) = absurd (contains_none y none)

action_in : (v : Vocabulary) (w : List ℕ) (row : Trees) (i : Item) → IsKeyOf i w → (a : Action)
    → Contains (cond (is_action i) (action_of v row ∷ []) []) a → (w ≡ codes ":action") × (a ≡ action_of v row)
action_in v w row item.Action e a m = (e, one_member (action_of v row) a m)
action_in v w row i e a m = absurd (contains_none a m)

abbrev given_actions : Vocabulary → Trees → List Action
given_actions v items = cond (is_action (domain_item_of (head_of items))) (action_of v (tail_of items) ∷ []) []

-- each action is that of an item
pub from_actions : (v : Vocabulary) (body : Trees) (a : Action) → Contains (actions_of v body) a
    → (row : Trees) × HasItem (codes ":action") body row × (a ≡ action_of v row)
from_actions v body a m =
    let found = from_rows (given_actions v) (actions_of v) refl (λ text at rest. refl) (λ items at rest. refl) body a m in
    let it = action_in v (head_of found.0) (tail_of found.0) (domain_item_of (head_of found.0)) (key_of_domain (head_of found.0)) a found.2 in
    (tail_of found.0, record { items = found.0; there = found.1; head = it.0; is = refl }, it.1)

in_actions : (v : Vocabulary) (body row : Trees) → HasItem (codes ":action") body row
    → Contains (actions_of v body) (action_of v row)
in_actions v body row i =
    let kind = kind_is (head_of i.items) (codes ":action") item.Action i.head action_item in
    let mine : Contains (given_actions v i.items) (action_of v (tail_of i.items)) =
    subst (λ k. Contains (cond (is_action k) (action_of v (tail_of i.items) ∷ []) []) (action_of v (tail_of i.items))) (sym kind)
    (contains_here (action_of v (tail_of i.items)) []) in
    subst (λ r. Contains (actions_of v body) (action_of v r)) (sym i.is)
    (in_rows (given_actions v) (actions_of v) refl (λ text at rest. refl) (λ items at rest. refl) body i.items
    (action_of v (tail_of i.items)) i.there mine)

-- ---- the law

named_as : (ns ms : List (List ℕ)) (n : List ℕ) (P : Type 0) → ms ≡ ns → (has_name n ns ≡ true) ↔ P → Contains ms n ↔ P
named_as ns ms n P e both = (
  λ m. both.0 (has_from ns n (subst (λ xs. Contains xs n) e m)),
  λ p. subst (λ xs. Contains xs n) (sym e) (from_has ns n (both.1 p)),
)

actions_forth : (v : Vocabulary) (body : Trees) (actions : List Action) → actions ≡ actions_of v body → (n : List ℕ)
    → Contains (map (λ (a : Action). a.name) actions) n → IsItemName (codes ":action") body n
actions_forth v body actions are n m =
    let found = from_mapped (λ (a : Action). a.name) actions n m in
    let item = from_actions v body found.0 (subst (λ xs. Contains xs found.0) are found.1) in
    (item.0, item.1, found.2 ∙ ap (λ (a : Action). a.name) item.2)

actions_back : (v : Vocabulary) (body : Trees) (actions : List Action) → actions ≡ actions_of v body → (n : List ℕ)
    → IsItemName (codes ":action") body n → Contains (map (λ (a : Action). a.name) actions) n
actions_back v body actions are n named =
    let there = subst (λ xs. Contains xs (action_of v named.0)) (sym are) (in_actions v body named.0 named.1) in
    subst (λ x. Contains (map (λ (a : Action). a.name) actions) x) (sym named.2)
    (in_mapped (λ (a : Action). a.name) actions (action_of v named.0) there)

pub names_declared : (t : Trees) (d : Domain) → IsDomainRead t d → HasDeclaredNames (body_of t) d
names_declared t d is =
    let body = body_of t in
    let v = domain_names t in
    let all = with_items no_names body in
    let parts : ArePartsOf v t d = is.domain.parts in
    let even = even_items no_names body (refl, refl) in
    record {
      types = λ n.
          named_as v.sorts (map (λ (s : sort.Sort). s.name) d.sorts) n (IsTypeName body n)
          (sorts_named (type_edges v.sorts body) 0 v.sorts d.sorts parts.sorts) (type_names body n);
      predicates = λ n.
          named_as v.predicates.names (map (λ (s : Signature). s.name) d.predicates) n (IsDeclaredIn (codes ":predicates") body n)
          (ap (map (λ (s : Signature). s.name)) parts.predicates
          ∙ signatures_named v.predicates.names v.predicates.arities even.0) (predicate_names body n);
      functions = λ n.
          named_as v.functions.names (map (λ (s : Signature). s.name) d.functions) n (IsFunctionName body n)
          (ap (map (λ (s : Signature). s.name)) parts.functions
          ∙ signatures_named v.functions.names v.functions.arities (even_with all.functions (codes "total-cost") 0 even.1))
          (function_names body n);
      constants = constants_declared t d is;
      actions = λ n. (actions_forth v body d.actions parts.actions n, actions_back v body d.actions parts.actions n);
    }
