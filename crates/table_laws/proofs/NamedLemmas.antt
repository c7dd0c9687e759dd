-- The names of groups, and tables that they are put into.
use Rattle.std.proofs.Common.{◌≡◌, ℕ, Bool, true, false, cond, not, List, [], ◌∷◌, length, length-append, refl, sym, ap, subst, ◌∙◌, arith, ◌⊎◌, inl, inr, Contains, codes, Option, None, Some}
use Rattle.std.proofs.lemmas.Bool.{false≢true}
use Rattle.lemmas.proofs.Ascending.{contains_cases, contains_here, contains_later, contains_none}
use Rattle.sexpr_text.specs.Trees.{Trees, nothing, word, list}
use Rattle.form_reader.specs.Rows.{is_dash}
use Rattle.form_reader.specs.declared.groups.Spot.{Spot}
use Rattle.form_reader.specs.declared.groups.Spot.TheVariants.{Start, Named, Typed}
use Rattle.name_tables.proofs.FitDeclared.{declared_names, put_long}
use Rattle.name_tables.proofs.NamesFreshLemmas.{name_new}
use Rattle.name_tables.proofs.NamesLemmas.{name_itself, place_there, same_name}
use Rattle.name_tables.specs.Declarations.{Typed as Table, declare, declare_each, declared_by}
use Rattle.name_tables.specs.Names.{has_name, table_place, with_table_name}
use Rattle.name_tables.specs.Variables.{named_words}
use Rattle.task_model.specs.Known.{with_names}
use Rattle.table_laws.proofs.TableLemmas.{with_forth, with_keeps, with_puts}
use Rattle.table_laws.specs.Rows.{HasName}

-- ---- the names of groups

pub name_behind : (text : List ℕ) (n : List ℕ) (xs : List (List ℕ)) → Contains (text ∷ xs) n → (n ≡ text) ⊎ Contains xs n
name_behind text n xs m = by (contains_cases text xs n m)
  where
    by : (text ≡ n) ⊎ Contains xs n → (n ≡ text) ⊎ Contains xs n
    by (inl same) = inl (sym same)
    by (inr later) = inr later

pub name_front : (text n : List ℕ) (xs : List (List ℕ)) → (n ≡ text) ⊎ Contains xs n → Contains (text ∷ xs) n
name_front text n xs (inl same) = subst (λ m. Contains (text ∷ xs) m) (sym same) (contains_here text xs)
name_front text n xs (inr later) = contains_later text xs n later

abbrev at_dash : Bool → List ℕ → Trees → List (List ℕ)
at_dash true text rest = named_words Typed rest
at_dash false text rest = text ∷ named_words Named rest

dashed : (text : List ℕ) (at : ℕ) (rest : Trees) → named_words Named (word text at rest) ≡ at_dash (is_dash text) text rest
dashed text at rest =
    elim (is_dash text) as
    (λ b. cond (not b) (text ∷ named_words (cond b Typed Named) rest) (named_words (cond b Typed Named) rest) ≡ at_dash b text rest) [
      | true ↦ refl
      | false ↦ refl
    ]

pub named_forth : (t : Trees) (spot : Spot) (n : List ℕ) → Contains (named_words spot t) n → HasName spot n t
named_forth nothing spot n m = absurd (contains_none n m)
named_forth (list items at rest) spot n m = absurd (contains_none n m)
named_forth (word text at rest) Start n m = by (name_behind text n (named_words Named rest) m) (named_forth rest Named n)
  where
    by : (n ≡ text) ⊎ Contains (named_words Named rest) n → (Contains (named_words Named rest) n → HasName Named n rest)
        → (n ≡ text) ⊎ HasName Named n rest
    by (inl same) further = inl same
    by (inr later) further = inr (further later)
named_forth (word text at rest) Named n m =
    by (is_dash text) refl (subst (λ xs. Contains xs n) (dashed text at rest) m) (named_forth rest Typed n)
    (named_forth rest Named n)
  where
    more : ¬ (text ≡ codes "-") → (n ≡ text) ⊎ Contains (named_words Named rest) n
        → (Contains (named_words Named rest) n → HasName Named n rest) → HasName Named n (word text at rest)
    more other (inl same) further = inr (other, inl same)
    more other (inr later) further = inr (other, inr (further later))

    by : (b : Bool) → is_dash text ≡ b → Contains (at_dash b text rest) n → (Contains (named_words Typed rest) n → HasName Typed n rest)
        → (Contains (named_words Named rest) n → HasName Named n rest) → HasName Named n (word text at rest)
    by true e m typed named = inl (same_name text (codes "-") e, typed m)
    by false e m typed named =
        more (λ same. false≢true (sym e ∙ name_itself text (codes "-") same))
        (name_behind text n (named_words Named rest) m) named
named_forth (word text at rest) Typed n m = named_forth rest Start n m

pub named_back : (t : Trees) (spot : Spot) (n : List ℕ) → HasName spot n t → Contains (named_words spot t) n
named_back nothing spot n there = absurd there
named_back (list items at rest) spot n there = absurd there
named_back (word text at rest) Start n there = name_front text n (named_words Named rest) (by there (named_back rest Named n))
  where
    by : (n ≡ text) ⊎ HasName Named n rest → (HasName Named n rest → Contains (named_words Named rest) n)
        → (n ≡ text) ⊎ Contains (named_words Named rest) n
    by (inl same) further = inl same
    by (inr later) further = inr (further later)
named_back (word text at rest) Named n there =
    subst (λ xs. Contains xs n) (sym (dashed text at rest))
    (by (is_dash text) refl there (named_back rest Typed n) (named_back rest Named n))
  where
    more : (n ≡ text) ⊎ HasName Named n rest → (HasName Named n rest → Contains (named_words Named rest) n)
        → Contains (text ∷ named_words Named rest) n
    more (inl same) further = name_front text n (named_words Named rest) (inl same)
    more (inr later) further = name_front text n (named_words Named rest) (inr (further later))

    by : (b : Bool) → is_dash text ≡ b → HasName Named n (word text at rest)
        → (HasName Typed n rest → Contains (named_words Typed rest) n)
        → (HasName Named n rest → Contains (named_words Named rest) n) → Contains (at_dash b text rest) n
    by true e (inl dash) typed named = typed dash.1
    by true e (inr other) typed named = absurd (other.0 (same_name text (codes "-") e))
    by false e (inl dash) typed named = absurd (false≢true (sym e ∙ name_itself text (codes "-") dash.0))
    by false e (inr other) typed named = more other.1 named
named_back (word text at rest) Typed n there = named_back rest Start n there

-- ---- tables of names with types

pub with_names_forth : (ns names : List (List ℕ)) (n : List ℕ) → has_name n (with_names names ns) ≡ true
    → (has_name n names ≡ true) ⊎ Contains ns n
with_names_forth [] names n h = inl h
with_names_forth (m ∷ ns) names n h = by (with_names_forth ns (with_table_name names m) n h)
  where
    front : (has_name n names ≡ true) ⊎ (n ≡ m) → (has_name n names ≡ true) ⊎ Contains (m ∷ ns) n
    front (inl old) = inl old
    front (inr same) = inr (name_front m n ns (inl same))

    by : (has_name n (with_table_name names m) ≡ true) ⊎ Contains ns n → (has_name n names ≡ true) ⊎ Contains (m ∷ ns) n
    by (inl first) = front (with_forth names m n first)
    by (inr later) = inr (name_front m n ns (inr later))

pub with_names_keep : (ns names : List (List ℕ)) (n : List ℕ) → has_name n names ≡ true → has_name n (with_names names ns) ≡ true
with_names_keep [] names n h = h
with_names_keep (m ∷ ns) names n h = with_names_keep ns (with_table_name names m) n (with_keeps names m n h)

pub with_names_put : (ns names : List (List ℕ)) (n : List ℕ) → Contains ns n → has_name n (with_names names ns) ≡ true
with_names_put [] names n there = absurd (contains_none n there)
with_names_put (m ∷ ns) names n there = by (name_behind m n ns there) (with_names_put ns (with_table_name names m) n)
  where
    by : (n ≡ m) ⊎ Contains ns n → (Contains ns n → has_name n (with_names (with_table_name names m) ns) ≡ true)
        → has_name n (with_names (with_table_name names m) ns) ≡ true
    by (inl same) further = with_names_keep ns (with_table_name names m) n (with_puts names m n same)
    by (inr later) further = further later

pub declare_names : (t : Table) (name : List ℕ) (sort : ℕ) → (declare t name sort).names ≡ with_table_name t.names name
declare_names t name sort = declared_names t (name ∷ []) (sort ∷ []) refl

-- both lists of a table are as long
abbrev pub EvenTable : Table → Type 0
EvenTable t = length t.names ≡ length t.sorts

new_place : (name : List ℕ) (names : List (List ℕ)) → table_place name names ≡ None → has_name name names ≡ false
new_place name names none =
    elim (has_name name names) as (λ b. has_name name names ≡ b → b ≡ false) [
      | true ↦ λ there. let at = place_there name names there in absurd (let f = sym none ∙ at.1 in cc)
      | false ↦ λ _. refl
    ] refl

even_by : (t : Table) (name : List ℕ) (sort : ℕ) (o : Option ℕ) → table_place name t.names ≡ o → EvenTable t
    → EvenTable (declared_by t name sort o)
even_by t name sort None none even =
    let names = ap length (name_new t.names name (new_place name t.names none)) in
    omega (arith, names, length-append t.names (name ∷ []), length-append t.sorts ((sort ∷ []) ∷ []), even)
even_by t name sort (Some place) at even = even ∙ sym (put_long t.sorts place sort)

pub even_declare : (t : Table) (name : List ℕ) (sort : ℕ) → EvenTable t → EvenTable (declare t name sort)
even_declare t name sort even = even_by t name sort (table_place name t.names) refl even

pub even_each : (ns : List (List ℕ)) (ss : List ℕ) (t : Table) → EvenTable t → EvenTable (declare_each t ns ss)
even_each [] ss t even = even
even_each (n ∷ ns) [] t even = even
even_each (n ∷ ns) (s ∷ ss) t even = even_each ns ss (declare t n s) (even_declare t n s even)
