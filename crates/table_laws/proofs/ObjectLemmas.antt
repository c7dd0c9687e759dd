-- The names of constants and objects.
use Rattle.std.proofs.Common.{◌≡◌, ℕ, Bool, true, false, cond, List, [], ◌∷◌, map, refl, sym, ap, subst, ◌∙◌, ◌⊎◌, inl, inr, Contains, codes, ◌↔◌}
use Rattle.std.proofs.lemmas.Bool.{false≢true}
use Rattle.lemmas.proofs.Ascending.{contains_cases, contains_here, contains_later, contains_none}
use Rattle.sexpr_text.specs.Trees.{Trees, nothing, word, list}
use Rattle.form_reader.specs.Items.{domain_item_of, problem_item_of}
use Rattle.form_reader.specs.Rows.{head_of, tail_of}
use Rattle.form_reader.specs.declared.groups.Spot.TheVariants.{Start}
use Rattle.form_reader.specs.declared.items.Item.{Item}
use Rattle.form_reader.specs.declared.items.Item.TheVariants as item
use Rattle.name_tables.proofs.FitDeclared.{groups_declared, list_named}
use Rattle.name_tables.specs.Declarations.{Typed as Table, declare, declare_each, no_typed}
use Rattle.name_tables.specs.Names.{has_name}
use Rattle.name_tables.specs.Texts.{body_of}
use Rattle.name_tables.specs.Variables.{named_sorts, named_words}
use Rattle.domain_reader.specs.Domains.{IsDomainRead, constants_in, domain_names, is_constants}
use Rattle.problem_reader.specs.Problems.{IsProblemRead, constants_typed, declare_all, objects_typed}
use Rattle.problem_reader.specs.Tables.{is_objects, problem_names}
use Rattle.task_model.specs.declared.domain.Declared as declared
use Rattle.task_model.specs.declared.domain.Domain.{Domain}
use Rattle.task_model.specs.declared.task.Problem.{Problem}
use Rattle.table_laws.proofs.ItemLemmas.{IsKeyOf, constants_item, key_of_domain, key_of_problem, objects_item}
use Rattle.table_laws.proofs.TableLemmas.{from_has, has_from, with_forth, with_keeps, with_puts}
use Rattle.table_laws.specs.Declared.{IsGroupName, IsObjectName}
use Rattle.table_laws.specs.Rows.{HasList, HasName}
use Rattle.table_laws.proofs.NamedLemmas.{EvenTable, declare_names, even_declare, even_each, named_back, named_forth, with_names_forth, with_names_keep, with_names_put}

-- ---- objects and constants of a row of items

module _ (key : List ℕ) (is : Trees → Bool) (sorts : List (List ℕ)) (fold : Table → Trees → Table)
    (keyed : (items : Trees) → is items ≡ true → head_of items ≡ key)
    (found : (items : Trees) → head_of items ≡ key → is items ≡ true)
    (at_end : (t : Table) → fold t nothing ≡ t)
    (at_word : (t : Table) (text : List ℕ) (at : ℕ) (rest : Trees) → fold t (word text at rest) ≡ fold t rest)
    (at_list : (t : Table) (items : Trees) (at : ℕ) (rest : Trees) → fold t (list items at rest)
    ≡ fold (cond (is items) (declare_each t (named_words Start (tail_of items)) (named_sorts sorts Start 0 (tail_of items))) t) rest)
    (n : List ℕ) where
  abbrev Has : Table → Type 0
  Has t = has_name n t.names ≡ true

  abbrev put_items : Table → Trees → Table
  put_items t items =
      cond (is items) (declare_each t (named_words Start (tail_of items)) (named_sorts sorts Start 0 (tail_of items))) t

  row_forth : (t : Table) (items : Trees) → Has (put_items t items)
      → Has t ⊎ ((head_of items ≡ key) × HasName Start n (tail_of items))
  row_forth t items =
      elim (is items) as
      (λ b. is items ≡ b
      → Has (cond b (declare_each t (named_words Start (tail_of items)) (named_sorts sorts Start 0 (tail_of items))) t)
      → Has t ⊎ ((head_of items ≡ key) × HasName Start n (tail_of items))) [
        | true ↦ λ e h. by (keyed items e)
            (with_names_forth (named_words Start (tail_of items)) t.names n
            (sym (ap (has_name n) (groups_declared sorts t (tail_of items))) ∙ h))
        | false ↦ λ _ h. inl h
      ] refl
    where
      by : head_of items ≡ key → Has t ⊎ Contains (named_words Start (tail_of items)) n
          → Has t ⊎ ((head_of items ≡ key) × HasName Start n (tail_of items))
      by head (inl old) = inl old
      by head (inr new) = inr (head, named_forth (tail_of items) Start n new)

  row_keeps : (t : Table) (items : Trees) → Has t → Has (put_items t items)
  row_keeps t items h =
      elim (is items) as
      (λ b. Has (cond b (declare_each t (named_words Start (tail_of items)) (named_sorts sorts Start 0 (tail_of items))) t)) [
        | true ↦ ap (has_name n) (groups_declared sorts t (tail_of items))
            ∙ with_names_keep (named_words Start (tail_of items)) t.names n h
        | false ↦ h
      ]

  row_puts : (t : Table) (items : Trees) → head_of items ≡ key → HasName Start n (tail_of items) → Has (put_items t items)
  row_puts t items head there =
      subst
      (λ b. Has (cond b (declare_each t (named_words Start (tail_of items)) (named_sorts sorts Start 0 (tail_of items))) t))
      (sym (found items head))
      (ap (has_name n) (groups_declared sorts t (tail_of items))
      ∙ with_names_put (named_words Start (tail_of items)) t.names n (named_back (tail_of items) Start n there))

  row_even : (t : Table) (items : Trees) → EvenTable t → EvenTable (put_items t items)
  row_even t items even =
      elim (is items) as
      (λ b. EvenTable (cond b (declare_each t (named_words Start (tail_of items)) (named_sorts sorts Start 0 (tail_of items))) t)) [
        | true ↦ even_each (named_words Start (tail_of items)) (named_sorts sorts Start 0 (tail_of items)) t even
        | false ↦ even
      ]

  body_forth : (t : Table) (body : Trees) → Has (fold t body) → Has t ⊎ IsGroupName key body n
  body_forth t nothing h = inl (subst Has (at_end t) h)
  body_forth t (word text at rest) h = later (body_forth t rest (subst Has (at_word t text at rest) h))
    where
      later : Has t ⊎ IsGroupName key rest n → Has t ⊎ IsGroupName key (word text at rest) n
      later (inl old) = inl old
      later (inr g) = inr (g.0, record { items = g.1.items; there = g.1.there; head = g.1.head; is = g.1.is }, g.2)
  body_forth t (list items at rest) h = by (body_forth (put_items t items) rest (subst Has (at_list t items at rest) h))
    where
      front : Has t ⊎ ((head_of items ≡ key) × HasName Start n (tail_of items))
          → Has t ⊎ IsGroupName key (list items at rest) n
      front (inl old) = inl old
      front (inr new) = inr (tail_of items, record { items = items; there = inl refl; head = new.0; is = refl }, new.1)

      by : Has (put_items t items) ⊎ IsGroupName key rest n → Has t ⊎ IsGroupName key (list items at rest) n
      by (inl first) = front (row_forth t items first)
      by (inr g) = inr (g.0, record { items = g.1.items; there = inr g.1.there; head = g.1.head; is = g.1.is }, g.2)

  body_keeps : (t : Table) (body : Trees) → Has t → Has (fold t body)
  body_keeps t nothing h = subst Has (sym (at_end t)) h
  body_keeps t (word text at rest) h = subst Has (sym (at_word t text at rest)) (body_keeps t rest h)
  body_keeps t (list items at rest) h =
      subst Has (sym (at_list t items at rest)) (body_keeps (put_items t items) rest (row_keeps t items h))

  body_puts : (t : Table) (body items : Trees) → HasList items body → head_of items ≡ key
      → HasName Start n (tail_of items) → Has (fold t body)
  body_puts t nothing items there head named = absurd there
  body_puts t (word text at rest) items there head named =
      subst Has (sym (at_word t text at rest)) (body_puts t rest items there head named)
  body_puts t (list other at rest) items (inl same) head named =
      subst Has (sym (at_list t other at rest))
      (body_keeps (put_items t other) rest
      (row_puts t other (sym (ap head_of same) ∙ head) (subst (λ i. HasName Start n (tail_of i)) same named)))
  body_puts t (list other at rest) items (inr there) head named =
      subst Has (sym (at_list t other at rest)) (body_puts (put_items t other) rest items there head named)

  body_given : (t : Table) (body : Trees) → IsGroupName key body n → Has (fold t body)
  body_given t body g =
      body_puts t body g.1.items g.1.there g.1.head (subst (λ row. HasName Start n row) g.1.is g.2)

  body_even : (t : Table) (body : Trees) → EvenTable t → EvenTable (fold t body)
  body_even t nothing even = subst EvenTable (sym (at_end t)) even
  body_even t (word text at rest) even = subst EvenTable (sym (at_word t text at rest)) (body_even t rest even)
  body_even t (list items at rest) even =
      subst EvenTable (sym (at_list t items at rest)) (body_even (put_items t items) rest (row_even t items even))

-- ---- the constants of a domain

constants_key : (i : Item) (w : List ℕ) → IsKeyOf i w → is_constants i ≡ true → w ≡ codes ":constants"
constants_key item.Constants w key e = key
constants_key i w key e = absurd (false≢true e)

objects_key : (i : Item) (w : List ℕ) → IsKeyOf i w → is_objects i ≡ true → w ≡ codes ":objects"
objects_key item.Objects w key e = key
objects_key i w key e = absurd (false≢true e)

named_by : (ns : List (List ℕ)) (ds : List declared.Declared) (n : List ℕ) (P : Type 0)
    → map (λ (d : declared.Declared). d.name) ds ≡ ns → (has_name n ns ≡ true → P) → (P → has_name n ns ≡ true)
    → Contains (map (λ (d : declared.Declared). d.name) ds) n ↔ P
named_by ns ds n P e to from = (
  λ m. to (has_from ns n (subst (λ xs. Contains xs n) e m)),
  λ p. subst (λ xs. Contains xs n) (sym e) (from_has ns n (from p)),
)

abbrev constant_item : Trees → Bool
constant_item items = is_constants (domain_item_of (head_of items))

constant_keyed : (items : Trees) → constant_item items ≡ true → head_of items ≡ codes ":constants"
constant_keyed items e =
    constants_key (domain_item_of (head_of items)) (head_of items) (key_of_domain (head_of items)) e

constant_found : (items : Trees) → head_of items ≡ codes ":constants" → constant_item items ≡ true
constant_found items e = ap (λ w. is_constants (domain_item_of w)) e ∙ ap is_constants constants_item

nothing_has : (n : List ℕ) (P : Type 0) → (has_name n [] ≡ true) ⊎ P → P
nothing_has n P (inl old) = absurd (false≢true old)
nothing_has n P (inr p) = p

pub constants_declared : (t : Trees) (d : Domain) → IsDomainRead t d → (n : List ℕ)
    → Contains (map (λ (c : declared.Declared). c.name) d.constants) n ↔ IsGroupName (codes ":constants") (body_of t) n
constants_declared t d is n =
    let body = body_of t in
    let sorts = (domain_names t).sorts in
    let table = constants_in sorts no_typed body in
    let even = body_even (codes ":constants") constant_item sorts (constants_in sorts) constant_keyed constant_found
    (λ t. refl) (λ t text at rest. refl) (λ t items at rest. refl) n no_typed body refl in
    let names = ap (map (λ (c : declared.Declared). c.name)) is.domain.parts.constants ∙ list_named table.names table.sorts even in
    named_by table.names d.constants n (IsGroupName (codes ":constants") body n) names
    (λ h. nothing_has n (IsGroupName (codes ":constants") body n)
    (body_forth (codes ":constants") constant_item sorts (constants_in sorts) constant_keyed constant_found
    (λ t. refl) (λ t text at rest. refl) (λ t items at rest. refl) n no_typed body h))
    (body_given (codes ":constants") constant_item sorts (constants_in sorts) constant_keyed constant_found
    (λ t. refl) (λ t text at rest. refl) (λ t items at rest. refl) n no_typed body)

-- ---- the objects of a problem

some_sorts : (s : ℕ) (ss : List ℕ) → ¬ (s ∷ ss ≡ [])
some_sorts s ss e = absurd (cc)

all_forth : (ss : List ℕ) (t : Table) (name n : List ℕ) → has_name n (declare_all t name ss).names ≡ true
    → (has_name n t.names ≡ true) ⊎ (¬ (ss ≡ []) × (n ≡ name))
all_forth [] t name n h = inl h
all_forth (s ∷ ss) t name n h = by (all_forth ss (declare t name s) name n h)
  where
    front : (has_name n t.names ≡ true) ⊎ (n ≡ name) → (has_name n t.names ≡ true) ⊎ (¬ (s ∷ ss ≡ []) × (n ≡ name))
    front (inl old) = inl old
    front (inr same) = inr (some_sorts s ss, same)

    by : (has_name n (declare t name s).names ≡ true) ⊎ (¬ (ss ≡ []) × (n ≡ name))
        → (has_name n t.names ≡ true) ⊎ (¬ (s ∷ ss ≡ []) × (n ≡ name))
    by (inl first) = front (with_forth t.names name n (sym (ap (has_name n) (declare_names t name s)) ∙ first))
    by (inr later) = inr (some_sorts s ss, later.1)

all_keep : (ss : List ℕ) (t : Table) (name n : List ℕ) → has_name n t.names ≡ true
    → has_name n (declare_all t name ss).names ≡ true
all_keep [] t name n h = h
all_keep (s ∷ ss) t name n h =
    all_keep ss (declare t name s) name n (ap (has_name n) (declare_names t name s) ∙ with_keeps t.names name n h)

all_put : (ss : List ℕ) (t : Table) (name n : List ℕ) → ¬ (ss ≡ []) → n ≡ name → has_name n (declare_all t name ss).names ≡ true
all_put [] t name n some e = absurd (some refl)
all_put (s ∷ ss) t name n some e =
    all_keep ss (declare t name s) name n (ap (has_name n) (declare_names t name s) ∙ with_puts t.names name n e)

all_even : (ss : List ℕ) (t : Table) (name : List ℕ) → EvenTable t → EvenTable (declare_all t name ss)
all_even [] t name even = even
all_even (s ∷ ss) t name even = all_even ss (declare t name s) name (even_declare t name s even)

-- a constant with a type has the name
abbrev IsConstant : List declared.Declared → List ℕ → Type 0
IsConstant cs n = (c : declared.Declared) × Contains cs c × ¬ (c.sorts ≡ []) × (n ≡ c.name)

constants_forth : (cs : List declared.Declared) (t : Table) (n : List ℕ) → has_name n (constants_typed t cs).names ≡ true
    → (has_name n t.names ≡ true) ⊎ IsConstant cs n
constants_forth [] t n h = inl h
constants_forth (c ∷ cs) t n h = by (constants_forth cs (declare_all t c.name c.sorts) n h)
  where
    front : (has_name n t.names ≡ true) ⊎ (¬ (c.sorts ≡ []) × (n ≡ c.name)) → (has_name n t.names ≡ true) ⊎ IsConstant (c ∷ cs) n
    front (inl old) = inl old
    front (inr new) = inr (c, contains_here c cs, new.0, new.1)

    by : (has_name n (declare_all t c.name c.sorts).names ≡ true) ⊎ IsConstant cs n
        → (has_name n t.names ≡ true) ⊎ IsConstant (c ∷ cs) n
    by (inl first) = front (all_forth c.sorts t c.name n first)
    by (inr g) = inr (g.0, contains_later c cs g.0 g.1, g.2, g.3)

constants_keep : (cs : List declared.Declared) (t : Table) (n : List ℕ) → has_name n t.names ≡ true
    → has_name n (constants_typed t cs).names ≡ true
constants_keep [] t n h = h
constants_keep (c ∷ cs) t n h = constants_keep cs (declare_all t c.name c.sorts) n (all_keep c.sorts t c.name n h)

constants_put : (cs : List declared.Declared) (t : Table) (n : List ℕ) (c : declared.Declared) → Contains cs c
    → ¬ (c.sorts ≡ []) → n ≡ c.name → has_name n (constants_typed t cs).names ≡ true
constants_put [] t n c there some e = absurd (contains_none c there)
constants_put (b ∷ cs) t n c there some e =
    by (contains_cases b cs c there) (λ later. constants_put cs (declare_all t b.name b.sorts) n c later some e)
  where
    by : (b ≡ c) ⊎ Contains cs c → (Contains cs c → has_name n (constants_typed (declare_all t b.name b.sorts) cs).names ≡ true)
        → has_name n (constants_typed (declare_all t b.name b.sorts) cs).names ≡ true
    by (inl same) further =
        constants_keep cs (declare_all t b.name b.sorts) n
        (all_put b.sorts t b.name n (λ none. some (ap (λ (x : declared.Declared). x.sorts) (sym same) ∙ none))
        (e ∙ ap (λ (x : declared.Declared). x.name) (sym same)))
    by (inr later) further = further later

constants_even : (cs : List declared.Declared) (t : Table) → EvenTable t → EvenTable (constants_typed t cs)
constants_even [] t even = even
constants_even (c ∷ cs) t even = constants_even cs (declare_all t c.name c.sorts) (all_even c.sorts t c.name even)

abbrev object_item : Trees → Bool
object_item items = is_objects (problem_item_of (head_of items))

object_keyed : (items : Trees) → object_item items ≡ true → head_of items ≡ codes ":objects"
object_keyed items e =
    objects_key (problem_item_of (head_of items)) (head_of items) (key_of_problem (head_of items)) e

object_found : (items : Trees) → head_of items ≡ codes ":objects" → object_item items ≡ true
object_found items e = ap (λ w. is_objects (problem_item_of w)) e ∙ ap is_objects objects_item

pub objects_declared : (d : Domain) (t : Trees) (p : Problem) → IsProblemRead d t p → (n : List ℕ)
    → Contains (map (λ (o : declared.Declared). o.name) p.objects) n ↔ IsObjectName d (body_of t) n
objects_declared d t p is n =
    let body = body_of t in
    let sorts = (problem_names d body).sorts in
    let first = constants_typed no_typed d.constants in
    let table = objects_typed sorts first body in
    let even = body_even (codes ":objects") object_item sorts (objects_typed sorts) object_keyed object_found
    (λ t. refl) (λ t text at rest. refl) (λ t items at rest. refl) n first body (constants_even d.constants no_typed refl) in
    let names = ap (λ (q : Problem). map (λ (o : declared.Declared). o.name) q.objects) is.problem
    ∙ list_named table.names table.sorts even in
    named_by table.names p.objects n (IsObjectName d body n) names
    (λ h. to (body_forth (codes ":objects") object_item sorts (objects_typed sorts) object_keyed object_found
    (λ t. refl) (λ t text at rest. refl) (λ t items at rest. refl) n first body h))
    (λ g. from sorts first refl g)
  where
    only : (has_name n [] ≡ true) ⊎ IsConstant d.constants n → IsObjectName d (body_of t) n
    only (inl old) = absurd (false≢true old)
    only (inr g) = inl g

    to : (has_name n (constants_typed no_typed d.constants).names ≡ true) ⊎ IsGroupName (codes ":objects") (body_of t) n
        → IsObjectName d (body_of t) n
    to (inl h) = only (constants_forth d.constants no_typed n h)
    to (inr g) = inr g

    from : (sorts : List (List ℕ)) (first : Table) → first ≡ constants_typed no_typed d.constants → IsObjectName d (body_of t) n
        → has_name n (objects_typed sorts first (body_of t)).names ≡ true
    from sorts first is (inl g) =
        body_keeps (codes ":objects") object_item sorts (objects_typed sorts) object_keyed object_found
        (λ t. refl) (λ t text at rest. refl) (λ t items at rest. refl) n first (body_of t)
        (subst (λ (x : Table). has_name n x.names ≡ true) (sym is) (constants_put d.constants no_typed n g.0 g.1 g.2 g.3))
    from sorts first is (inr g) =
        body_given (codes ":objects") object_item sorts (objects_typed sorts) object_keyed object_found
        (λ t. refl) (λ t text at rest. refl) (λ t items at rest. refl) n first (body_of t) g
