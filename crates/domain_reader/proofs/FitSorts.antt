-- The types of a domain without faults are fit.
use Rattle.std.proofs.Common.{◌≡◌, ℕ, zero, suc, ◌+◌, ◌<◌, Bool, true, false, ◌&&◌, not, cond, ◌==◌, nat_lt, if◌then◌else◌, List, [], ◌∷◌, ◌++◌, codes, map, length, refl, sym, ap, ◌∙◌, subst, arith, ◌⊎◌, inl, inr, Some, None, slice_get, ltb-true, eq-eqb}
use Rattle.std.specs.Cmp.{first_so, second_so}
use Rattle.std.specs.List.{list_any, list_all}
use Rattle.std.proofs.lemmas.Bool.{or_cases, or_left, eqb-true, false_from_ne_true}
use Rattle.sexpr_text.specs.Trees.{Trees, nothing, word, list, size}
use Rattle.task_model.specs.Fit.{is_name}
use Rattle.lemmas.specs.Lists.{LeadsAlong, has_number}
use Rattle.task_model.specs.declared.domain.Sort as sort
use Rattle.form_reader.specs.declared.fault.InputKind.TheVariants.{Unknown}
use Rattle.form_reader.specs.declared.groups.Spot.{Spot}
use Rattle.form_reader.specs.declared.groups.Spot.TheVariants.{Start, Named, Typed}
use Rattle.form_reader.specs.declared.items.Item.{Item}
use Rattle.form_reader.specs.declared.items.Item.TheVariants as item
use Rattle.form_reader.specs.declared.items.TextKind.TheVariants.{Domain}
use Rattle.form_reader.specs.Items.{item_of}
use Rattle.form_reader.specs.Rows.{after_word, groups_faults, head_of, is_dash, tail_of}
use Rattle.form_reader.specs.Faults.{shape}
use Rattle.form_reader.specs.declared.words.WordSort.TheVariants.{Name}
use Rattle.lemmas.proofs.Members.{push_cases}
use Rattle.lemmas.proofs.ListTests.{any_append_left, any_append_right}
use Rattle.name_tables.specs.Declarations.{number_put}
use Rattle.name_tables.specs.declared.vocabulary.Vocabulary.{Vocabulary}
use Rattle.name_tables.specs.Graphs.{HasWay, ascending, has_edge}
use Rattle.name_tables.specs.Names.{has_name, with_table_name}
use Rattle.name_tables.specs.Variables.{is_named, named_sorts, named_words, seen_after, sort_of, types_names, unless}
use Rattle.name_tables.proofs.GraphsOrderLemmas.{ascending_in, in_ascending, number_any}
use Rattle.name_tables.proofs.FitGroups.{sort_places}
use Rattle.name_tables.proofs.NamesLemmas.{name_found, name_there, same_name, has_with}
use Rattle.name_tables.proofs.NoFaultLemmas.{chosen}
use Rattle.domain_reader.proofs.FitItems.{AreClean, IsClean}
use Rattle.domain_reader.proofs.FitEdges.{is_candidate, put_keeps, put_leads}
use Rattle.domain_reader.proofs.FitNames.{Known, known_with, rest_formed}
use Rattle.domain_reader.specs.Cycles.{AreSorts, no_sorts, more_sorts, IsAbove, edge_put, edges_each, edges_in, first_edges, is_types, listed_in, listed_row, under_object}
use Rattle.domain_reader.specs.Tables.{types_in, with_item, with_items}
use Rattle.name_tables.specs.declared.cycles.Candidate.{Candidate}

-- ---- each word of `:types` is a type

types_kept : (names : List (List ℕ)) (ts : Trees) → Known names (types_in names ts)
types_kept names nothing n h = h
types_kept names (list items at rest) n h = types_kept names rest n h
types_kept names (word text at rest) n h =
    elim (is_dash text) as (λ b. has_name n (types_in (cond b names (with_table_name names text)) rest) ≡ true) [
      | true ↦ types_kept names rest n h
      | false ↦ types_kept (with_table_name names text) rest n (known_with names text n h)
    ]

-- all words of a row but dashes are types
abbrev RowKnown : List (List ℕ) → Trees → Type 0
RowKnown table nothing = Unit {0}
RowKnown table (word text at rest) =
    (is_dash text ≡ false → has_name text table ≡ true) × RowKnown table rest
RowKnown table (list items at rest) = RowKnown table rest

row_known : (names table : List (List ℕ)) (ts : Trees) → Known (types_in names ts) table
    → RowKnown table ts
row_known names table nothing k = tt
row_known names table (list items at rest) k = row_known names table rest k
row_known names table (word text at rest) k =
    (λ other. here other k, row_known (cond (is_dash text) names (with_table_name names text)) table rest k)
  where
    here : is_dash text ≡ false
        → Known (types_in (cond (is_dash text) names (with_table_name names text)) rest) table
        → has_name text table ≡ true
    here other known =
        subst (λ b. Known (types_in (cond b names (with_table_name names text)) rest) table) other known text
        (types_kept (with_table_name names text) rest text (has_with names text))

dash_no_name : (text : List ℕ) → is_name text ≡ true → is_dash text ≡ false
dash_no_name text e =
    false_from_ne_true (is_dash text)
    (λ h. let f : is_name (codes "-") ≡ true = subst (λ t. is_name t ≡ true) (same_name text (codes "-") h) e in cc)

types_known : (table : List (List ℕ)) (place : ℕ) (spot : Spot) (ts : Trees)
    → groups_faults Name place spot ts ≡ [] → RowKnown table ts → types_names table spot ts ≡ []
types_known table place spot nothing f k = refl
types_known table place spot (list items at rest) f k = refl
types_known table place Start (word text at rest) f k =
    types_known table place Named rest (rest_formed Start text place at rest f) k.1
types_known table place Named (word text at rest) f k =
    types_known table place (after_word Named text) rest (rest_formed Named text place at rest f) k.1
types_known table place Typed (word text at rest) f k =
    let one : is_name text ≡ true = (chosen (is_name text) (groups_faults Name place Start rest) (shape at) [] f).0 in
    ap (λ b. unless b Unknown at ++ types_names table Start rest) (k.0 (dash_no_name text one))
    ∙ types_known table place Start rest (rest_formed Typed text place at rest f) k.1

known_item : (v : Vocabulary) (it : Item) (rest : Trees) → Known v.sorts (with_item v it rest).sorts
known_item v item.Types rest = types_kept v.sorts rest
known_item v _ rest = λ n h. h

known_items : (v : Vocabulary) (body : Trees) → Known v.sorts (with_items v body).sorts
known_items v nothing n h = h
known_items v (word w at rest) n h = known_items v rest n h
known_items v (list items at rest) n h =
    known_items (with_item v (item_of Domain (head_of items)) (tail_of items)) rest n
    (known_item v (item_of Domain (head_of items)) (tail_of items) n h)

-- ---- listings

module _ (sorts : List (List ℕ)) (L : ℕ → Type 0) where
  abbrev AllListed : List (List ℕ) → Type 0
  AllListed [] = Unit {0}
  AllListed (n ∷ ns) = L (sort_of sorts n) × AllListed ns

  abbrev SeenListed : List (List ℕ) → Type 0
  SeenListed seen = (n : List ℕ) → has_name n seen ≡ true → L (sort_of sorts n)

  abbrev Lists : List Candidate → Type 0
  Lists cs = (k : ℕ) → is_candidate cs k ≡ true → L k

  -- the word is listed: it was seen, or it is a candidate here
  word_listed : (seen : List (List ℕ)) (text : List ℕ) (at : ℕ) → SeenListed seen
      → Lists (if not (has_name text seen) then record { node = sort_of sorts text; place = at } ∷ [] else [])
      → L (sort_of sorts text)
  word_listed seen text at s l =
      elim (has_name text seen) as (λ b.
      has_name text seen ≡ b → Lists (if not b then record { node = sort_of sorts text; place = at } ∷ [] else [])
      → L (sort_of sorts text)) [
        | true ↦ λ t _. s text t
        | false ↦ λ _ here. here (sort_of sorts text)
            (or_left (sort_of sorts text == sort_of sorts text) false (eq-eqb (sort_of sorts text) (sort_of sorts text) refl))
      ] refl l

  seen_more : (seen : List (List ℕ)) (text : List ℕ) → SeenListed seen → L (sort_of sorts text)
      → SeenListed (with_table_name seen text)
  seen_more seen text s here n h =
      elim (has_name text seen) as (λ b. has_name n (cond b seen (seen ++ text ∷ [])) ≡ true → L (sort_of sorts n)) [
        | true ↦ λ g. s n g
        | false ↦ λ g. by (name_found n (seen ++ text ∷ []) g)
      ] h
    where
      by : (i : ℕ) × (slice_get (seen ++ text ∷ []) i ≡ Some n) → L (sort_of sorts n)
      by found =
          elim (push_cases seen text found.0 n found.1) [
            | inl e ↦ s n (name_there n seen found.0 e)
            | inr e ↦ subst (λ m. L (sort_of sorts m)) (sym e.1) here
          ]

  lists_front : (cs ds : List Candidate) → Lists (cs ++ ds) → Lists cs
  lists_front cs ds l k h = l k (any_append_left (λ (c : Candidate). c.node == k) cs ds h)

  lists_back : (cs ds : List Candidate) → Lists (cs ++ ds) → Lists ds
  lists_back cs ds l k h = l k (any_append_right (λ (c : Candidate). c.node == k) cs ds h)

  row_listed : (seen : List (List ℕ)) (spot : Spot) (ts : Trees) → SeenListed seen
      → Lists (listed_row sorts seen spot ts)
      → AllListed (named_words spot ts) × SeenListed (seen_after seen spot ts)
  row_listed seen spot nothing s l = (tt, s)
  row_listed seen spot (list items at rest) s l = (tt, s)
  row_listed seen spot (word text at rest) s l =
      elim (is_named spot text) as (λ b.
      Lists ((if b && not (has_name text seen) then record { node = sort_of sorts text; place = at } ∷ [] else [])
      ++ listed_row sorts (if b then with_table_name seen text else seen) (after_word spot text) rest)
      → AllListed (if b then text ∷ named_words (after_word spot text) rest else named_words (after_word spot text) rest)
      × SeenListed (seen_after (if b then with_table_name seen text else seen) (after_word spot text) rest)) [
        | true ↦ λ m.
            let candidate : List Candidate =
            if not (has_name text seen) then record { node = sort_of sorts text; place = at } ∷ [] else [] in
            let here : L (sort_of sorts text) =
            word_listed seen text at s (lists_front candidate (listed_row sorts (with_table_name seen text) (after_word spot text) rest) m) in
            let more = row_listed (with_table_name seen text) (after_word spot text) rest (seen_more seen text s here)
            (lists_back candidate (listed_row sorts (with_table_name seen text) (after_word spot text) rest) m) in
            ((here, more.0), more.1)
        | false ↦ λ m. row_listed seen (after_word spot text) rest s m
      ] l

-- ---- what types are under

-- Each edge leads to a type, each type but the first is under the first, and what else is under a type is listed.
pub record IsUnder (size : ℕ) (L : ℕ → Type 0) (edges : List (List ℕ)) : Type 0 where
  pub within : (a b : ℕ) → has_edge edges a b ≡ true → b < size
  pub object : (a : ℕ) → 0 < a → a < size → has_edge edges a 0 ≡ true
  pub listed : (a b : ℕ) → has_edge edges a b ≡ true → ((b ≡ 0) × (0 < a)) ⊎ L a

under_leads : (ns : List (List ℕ)) (a b : ℕ) → has_edge (under_object ns) a b ≡ true → b ≡ 0
under_leads [] a b h = absurd (cc)
under_leads (n ∷ ns) zero b h =
    elim (or_cases (b == 0) false h) [ inl e ↦ eqb-true b 0 e | inr e ↦ absurd (cc) ]
under_leads (n ∷ ns) (suc a) b h = under_leads ns a b h

under_gets : (ns : List (List ℕ)) (a : ℕ) → a < length ns → has_edge (under_object ns) a 0 ≡ true
under_gets [] a lt = absurd (omega arith)
under_gets (n ∷ ns) zero lt = refl
under_gets (n ∷ ns) (suc a) lt = under_gets ns a (omega arith)

pub first_under : (L : ℕ → Type 0) (names : List (List ℕ))
    → IsUnder (length names) L (first_edges names)
first_under L [] = record { within = λ a b h. absurd (cc); object = λ a pos lt. absurd (omega arith); listed = λ a b h. absurd (cc) }
first_under L (n ∷ ns) = record { within = within; object = object; listed = listed }
  where
    within : (a b : ℕ) → has_edge ([] ∷ under_object ns) a b ≡ true → b < suc (length ns)
    within zero b h = absurd (cc)
    within (suc a) b h = omega (arith, under_leads ns a b h)

    object : (a : ℕ) → 0 < a → a < suc (length ns) → has_edge ([] ∷ under_object ns) a 0 ≡ true
    object zero pos lt = absurd (omega arith)
    object (suc a) pos lt = under_gets ns a (omega arith)

    listed : (a b : ℕ) → has_edge ([] ∷ under_object ns) a b ≡ true → ((b ≡ 0) × (0 < a)) ⊎ L a
    listed zero b h = absurd (cc)
    listed (suc a) b h = inl (under_leads ns a b h, omega arith)

under_put : (size : ℕ) (L : ℕ → Type 0) (edges : List (List ℕ)) (below above : ℕ) → above < size
    → L below → IsUnder size L edges → IsUnder size L (number_put edges below above)
under_put size L edges below above lt l u = record {
  within = λ a b h. elim (put_leads edges below above a b h) [ inl e ↦ u.within a b e | inr e ↦ omega (arith, e.1) ];
  object = λ a pos less. put_keeps edges below above a 0 (u.object a pos less);
  listed = λ a b h. elim (put_leads edges below above a b h) [ inl e ↦ u.listed a b e | inr e ↦ inr (subst L (sym e.0) l) ];
}

under_edge : (size : ℕ) (L : ℕ → Type 0) (edges : List (List ℕ)) (below above : ℕ) → above < size
    → L below → IsUnder size L edges → IsUnder size L (edge_put edges below above)
under_edge size L edges below above lt l u =
    elim ((below == 0) && (above == 0)) as (λ b. IsUnder size L (if b then edges else number_put edges below above)) [
      | true ↦ u
      | false ↦ under_put size L edges below above lt l u
    ]

under_each : (size : ℕ) (L : ℕ → Type 0) (sorts edges : List (List ℕ)) (ns : List (List ℕ)) (above : List ℕ)
    → AllListed sorts L ns → list_all (λ n. nat_lt n size) above ≡ true → IsUnder size L edges
    → IsUnder size L (edges_each sorts edges ns above)
under_each size L sorts edges [] above l e u = u
under_each size L sorts edges (n ∷ ns) [] l e u = u
under_each size L sorts edges (n ∷ ns) (a ∷ as') l e u =
    under_each size L sorts (edge_put edges (sort_of sorts n) a) ns as' l.1
    (second_so (nat_lt a size) (list_all (λ n. nat_lt n size) as') e)
    (under_edge size L edges (sort_of sorts n) a (ltb-true a size (first_so (nat_lt a size) (list_all (λ n. nat_lt n size) as') e)) l.0 u)

module _ (whole : Vocabulary) (heads : List (List ℕ)) (L : ℕ → Type 0) (typed : 0 < length whole.sorts) where
  -- what a `:types` item lists
  under_item : (edges seen : List (List ℕ)) (v : Vocabulary) (it : Item) (rest : Trees)
      → IsClean whole heads it rest → Known (with_item v it rest).sorts whole.sorts
      → SeenListed whole.sorts L seen
      → Lists whole.sorts L (if is_types it then listed_row whole.sorts seen Start rest else [])
      → IsUnder (length whole.sorts) L edges →
      SeenListed whole.sorts L (if is_types it then seen_after seen Start rest else seen)
      × IsUnder (length whole.sorts) L
      (if is_types it then edges_each whole.sorts edges (named_words Start rest) (named_sorts whole.sorts Start 0 rest) else edges)
  under_item edges seen v item.Types rest c k s l u =
      let row = row_listed whole.sorts L seen Start rest s l in
      let types : types_names whole.sorts Start rest ≡ [] =
      types_known whole.sorts c.place Start rest c.formed (row_known v.sorts whole.sorts rest k) in (
        row.1,
        under_each (length whole.sorts) L whole.sorts edges (named_words Start rest)
            (named_sorts whole.sorts Start 0 rest) row.0 (sort_places whole.sorts typed Start 0 rest types) u,
      )
  under_item edges seen v _ rest c k s l u = (s, u)

  pub under_items : (edges seen : List (List ℕ)) (v : Vocabulary) (body : Trees)
      → AreClean whole heads body → Known (with_items v body).sorts whole.sorts
      → SeenListed whole.sorts L seen → Lists whole.sorts L (listed_in whole.sorts seen body)
      → IsUnder (length whole.sorts) L edges
      → IsUnder (length whole.sorts) L (edges_in whole.sorts edges body)
  under_items edges seen v nothing c k s l u = u
  under_items edges seen v (word w at rest) c k s l u = under_items edges seen v rest c k s l u
  under_items edges seen v (list items at rest) c k s l u =
      let it = item_of Domain (head_of items) in
      let row = if is_types it then listed_row whole.sorts seen Start (tail_of items) else [] in
      let seen' = if is_types it then seen_after seen Start (tail_of items) else seen in
      let v' = with_item v it (tail_of items) in
      let one = under_item edges seen v it (tail_of items) c.0
      (λ n h. k n (known_items v' rest n h)) s (lists_front whole.sorts L row (listed_in whole.sorts seen' rest) l) u in
      under_items (if is_types it
      then edges_each whole.sorts edges (named_words Start (tail_of items)) (named_sorts whole.sorts Start 0 (tail_of items))
      else edges) seen' v' rest c.1 k one.0 (lists_back whole.sorts L row (listed_in whole.sorts seen' rest) l) one.1

-- ---- no cycles

pub no_sort_seen : (sorts : List (List ℕ)) (L : ℕ → Type 0) → SeenListed sorts L []
no_sort_seen sorts L n h = absurd (cc)

module _ (size : ℕ) (edges : List (List ℕ)) (L : ℕ → Type 0) (u : IsUnder size L edges) (free : (k : ℕ) → L k → ¬ (HasWay edges k k)) where
  -- the first type is under nothing
  first_free : (b : ℕ) → has_edge edges 0 b ≡ true → ⊥
  first_free b h =
      elim (u.listed 0 b h) [
        | inl e ↦ omega (arith, e.1)
        | inr l ↦ free 0 l (back b h)
      ]
    where
      back : (b : ℕ) → has_edge edges 0 b ≡ true → HasWay edges 0 0
      back zero h = record { between = []; steps = h }
      back (suc b) h = record { between = suc b ∷ []; steps = (h, u.object (suc b) (omega arith) (u.within 0 (suc b) h)) }

  -- what is led to from the first type on the way
  pub from_first : (between : List ℕ) (b : ℕ) → LeadsAlong (has_edge edges) 0 between b → ⊥
  from_first [] b l = first_free b l
  from_first (m ∷ ms) b l = first_free m l.0

  pub none_around : (k : ℕ) (between : List ℕ) → LeadsAlong (has_edge edges) k between k → ⊥
  none_around k [] l =
      elim (u.listed k k l) [
        | inl e ↦ omega (arith, e.0, e.1)
        | inr f ↦ free k f (record { between = []; steps = l })
      ]
  none_around k (m ∷ ms) l =
      elim (u.listed k m l.0) [
        | inl e ↦ from_first ms k (subst (λ n. LeadsAlong (has_edge edges) n ms k) e.0 l.1)
        | inr f ↦ free k f (record { between = m ∷ ms; steps = l })
      ]

-- ---- the types as the task has them

-- a supertype, as fit tasks test for it
abbrev pub has_above : sort.Sort → ℕ → Bool
has_above s b = list_any (λ n. n == b) s.above

pub above_way : (edges : List (List ℕ)) (k : ℕ) (above : List ℕ) (b : ℕ) → IsAbove edges k above
    → list_any (λ n. n == b) above ≡ true → HasWay edges k b
above_way edges k above b i h =
    let there : has_number (ascending [] i.reached) b ≡ true = ap (λ ns. has_number ns b) (sym i.sorted) ∙ sym (number_any above b) ∙ h in
    elim (in_ascending [] i.reached b there) [
      | inl e ↦ absurd (cc)
      | inr e ↦ i.right.only b e
    ]

pub way_above : (edges : List (List ℕ)) (k : ℕ) (above : List ℕ) (b : ℕ) → IsAbove edges k above
    → HasWay edges k b → list_any (λ n. n == b) above ≡ true
way_above edges k above b i w =
    number_any above b ∙ ap (λ ns. has_number ns b) i.sorted ∙ ascending_in [] i.reached b (inr (i.right.all b w.between w.steps))

pub sorts_named : (edges : List (List ℕ)) (k : ℕ) (ns : List (List ℕ)) (ss : List sort.Sort)
    → AreSorts edges k ns ss → map (λ (s : sort.Sort). s.name) ss ≡ ns
sorts_named edges k [] [] no_sorts = refl
sorts_named edges k [] (s ∷ ss) x = elim x [ ]
sorts_named edges k (n ∷ ns) [] x = elim x [ ]
sorts_named edges k (n ∷ ns) (s ∷ ss) (more_sorts above more) =
    ap (λ ms. n ∷ ms) (sorts_named edges (k + 1) ns ss more)

pub sorts_many : (edges : List (List ℕ)) (k : ℕ) (ns : List (List ℕ)) (ss : List sort.Sort)
    → AreSorts edges k ns ss → length ss ≡ length ns
sorts_many edges k [] [] no_sorts = refl
sorts_many edges k [] (s ∷ ss) x = elim x [ ]
sorts_many edges k (n ∷ ns) [] x = elim x [ ]
sorts_many edges k (n ∷ ns) (s ∷ ss) (more_sorts above more) =
    ap suc (sorts_many edges (k + 1) ns ss more)

pub sort_at : (edges : List (List ℕ)) (k : ℕ) (ns : List (List ℕ)) (ss : List sort.Sort) (i : ℕ) (s : sort.Sort)
    → AreSorts edges k ns ss → slice_get ss i ≡ Some s → IsAbove edges (k + i) s.above
sort_at edges k [] [] i s x e = absurd (cc)
sort_at edges k [] (t ∷ ts) i s x e = elim x [ ]
sort_at edges k (n ∷ ns) [] i s x e = absurd (cc)
sort_at edges k (n ∷ ns) (t ∷ ts) zero s (more_sorts above more) e =
    let same : t ≡ s = cc in
    let here : k ≡ k + 0 = omega arith in
    subst (λ (r : sort.Sort). IsAbove edges (k + 0) r.above) same (subst (λ m. IsAbove edges m t.above) here above)
sort_at edges k (n ∷ ns) (t ∷ ts) (suc i) s (more_sorts above more) e =
    let next : k + 1 + i ≡ k + suc i = omega arith in
    subst (λ m. IsAbove edges m s.above) next (sort_at edges (k + 1) ns ts i s more e)

pub nothing_in : (ns : List ℕ) → ((b : ℕ) → list_any (λ n. n == b) ns ≡ true → ⊥) → ns ≡ []
nothing_in [] none = refl
nothing_in (n ∷ ns) none =
    absurd (none n (or_left (n == n) (list_any (λ m. m == n) ns) (eq-eqb n n refl)))

pub first_sort : (ns : List (List ℕ)) (ss : List sort.Sort) → map (λ (s : sort.Sort). s.name) ss ≡ ns
    → slice_get ns 0 ≡ Some (codes "object")
    → ((s : sort.Sort) → slice_get ss 0 ≡ Some s → s.above ≡ [])
    → slice_get ss 0 ≡ Some (record { name = codes "object"; above = [] })
first_sort ns [] e f none =
    let g : None ≡ Some (codes "object") = ap (λ ms. slice_get ms 0) e ∙ f in absurd (cc)
first_sort ns (s ∷ ss) e f none =
    let g : Some s.name ≡ Some (codes "object") = ap (λ ms. slice_get ms 0) e ∙ f in
    let same : s.name ≡ codes "object" = cc in
    λ i. Some (record { name = same i; above = none s refl i })
