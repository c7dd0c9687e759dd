-- What each type is directly under: the edges that `:types` items put.
use Rattle.std.proofs.Common.{◌≡◌, ℕ, ◌<◌, ◌==◌, true, false, cond, ◌&&◌, List, [], ◌∷◌, length, refl, sym, ap, subst, ◌∙◌, ◌⊎◌, inl, inr, codes, eqb-true, eq-eqb}
use Rattle.std.proofs.lemmas.Bool.{false≢true}
use Rattle.sexpr_text.specs.Trees.{Trees, nothing, word, list}
use Rattle.form_reader.specs.Items.{domain_item_of}
use Rattle.form_reader.specs.Rows.{head_of, tail_of}
use Rattle.form_reader.specs.declared.groups.Spot.TheVariants.{Start}
use Rattle.form_reader.specs.declared.items.Item.{Item}
use Rattle.form_reader.specs.declared.items.Item.TheVariants as item
use Rattle.name_tables.proofs.FitDeclared.{put_long}
use Rattle.name_tables.specs.Declarations.{number_put}
use Rattle.name_tables.specs.Graphs.{has_edge}
use Rattle.name_tables.specs.Variables.{named_sorts, named_words, sort_of}
use Rattle.domain_reader.proofs.FitEdges.{put_gets, put_keeps, put_leads}
use Rattle.domain_reader.specs.Cycles.{edge_put, edges_each, edges_in, is_types}
use Rattle.table_laws.proofs.ItemLemmas.{IsKeyOf, key_of_domain, types_item}
use Rattle.table_laws.specs.Rows.{HasList}
use Rattle.table_laws.specs.Under.{HasTyped, IsListedUnder}
use Rattle.table_laws.proofs.GroupLemmas.{Paired, all_back, all_forth}

-- ---- edges

module _ (sorts : List (List ℕ)) where
  abbrev pub NotBoth : ℕ → ℕ → Type 0
  NotBoth a b = ¬ ((a ≡ 0) × (b ≡ 0))

  zero_both : (a b : ℕ) → ((a == 0) && (b == 0)) ≡ true → (a ≡ 0) × (b ≡ 0)
  zero_both a b =
      elim (a == 0) as (λ x. (a == 0) ≡ x → (x && (b == 0)) ≡ true → (a ≡ 0) × (b ≡ 0)) [
        | true ↦ λ e f. (eqb-true a 0 e, eqb-true b 0 f)
        | false ↦ λ e f. absurd (false≢true f)
      ] refl

  both_zero : (a b : ℕ) → a ≡ 0 → b ≡ 0 → ((a == 0) && (b == 0)) ≡ true
  both_zero a b e f = ap (λ x. x && (b == 0)) (eq-eqb a 0 e) ∙ eq-eqb b 0 f

  edge_forth : (edges : List (List ℕ)) (below above a b : ℕ) → has_edge (edge_put edges below above) a b ≡ true
      → (has_edge edges a b ≡ true) ⊎ ((a ≡ below) × (b ≡ above) × NotBoth below above)
  edge_forth edges below above a b =
      elim ((below == 0) && (above == 0)) as
      (λ x. ((below == 0) && (above == 0)) ≡ x → has_edge (cond x edges (number_put edges below above)) a b ≡ true
      → (has_edge edges a b ≡ true) ⊎ ((a ≡ below) × (b ≡ above) × NotBoth below above)) [
        | true ↦ λ _ h. inl h
        | false ↦ λ e h. by e (put_leads edges below above a b h)
      ] refl
    where
      by : ((below == 0) && (above == 0)) ≡ false → (has_edge edges a b ≡ true) ⊎ ((a ≡ below) × (b ≡ above))
          → (has_edge edges a b ≡ true) ⊎ ((a ≡ below) × (b ≡ above) × NotBoth below above)
      by e (inl old) = inl old
      by e (inr new) = inr (new.0, new.1, λ zeros. false≢true (sym e ∙ both_zero below above zeros.0 zeros.1))

  edge_keeps : (edges : List (List ℕ)) (below above a b : ℕ) → has_edge edges a b ≡ true
      → has_edge (edge_put edges below above) a b ≡ true
  edge_keeps edges below above a b h =
      elim ((below == 0) && (above == 0)) as (λ x. has_edge (cond x edges (number_put edges below above)) a b ≡ true) [
        | true ↦ h
        | false ↦ put_keeps edges below above a b h
      ]

  edge_gets : (edges : List (List ℕ)) (below above : ℕ) → below < length edges → NotBoth below above
      → has_edge (edge_put edges below above) below above ≡ true
  edge_gets edges below above lt proper =
      elim ((below == 0) && (above == 0)) as
      (λ x. ((below == 0) && (above == 0)) ≡ x → has_edge (cond x edges (number_put edges below above)) below above ≡ true) [
        | true ↦ λ e. absurd (proper (zero_both below above e))
        | false ↦ λ _. put_gets edges below above lt
      ] refl

  edge_long : (edges : List (List ℕ)) (below above : ℕ) → length (edge_put edges below above) ≡ length edges
  edge_long edges below above =
      elim ((below == 0) && (above == 0)) as (λ x. length (cond x edges (number_put edges below above)) ≡ length edges) [
        | true ↦ refl
        | false ↦ put_long edges below above
      ]

  -- an edge that a name and the number beside it put
  abbrev pub PutBy : ℕ → ℕ → List (List ℕ) → List ℕ → Type 0
  PutBy a b ns ss = (n : List ℕ) × Paired n b ns ss × (a ≡ sort_of sorts n) × NotBoth a b

  each_forth : (ns : List (List ℕ)) (ss : List ℕ) (edges : List (List ℕ)) (a b : ℕ)
      → has_edge (edges_each sorts edges ns ss) a b ≡ true → (has_edge edges a b ≡ true) ⊎ PutBy a b ns ss
  each_forth [] ss edges a b h = inl h
  each_forth (n ∷ ns) [] edges a b h = inl h
  each_forth (n ∷ ns) (s ∷ ss) edges a b h = by (each_forth ns ss (edge_put edges (sort_of sorts n) s) a b h)
    where
      front : (has_edge edges a b ≡ true) ⊎ ((a ≡ sort_of sorts n) × (b ≡ s) × NotBoth (sort_of sorts n) s)
          → (has_edge edges a b ≡ true) ⊎ PutBy a b (n ∷ ns) (s ∷ ss)
      front (inl old) = inl old
      front (inr new) =
          inr (n, inl (refl, new.1), new.0, λ zeros. new.2 (sym new.0 ∙ zeros.0, sym new.1 ∙ zeros.1))

      by : (has_edge (edge_put edges (sort_of sorts n) s) a b ≡ true) ⊎ PutBy a b ns ss
          → (has_edge edges a b ≡ true) ⊎ PutBy a b (n ∷ ns) (s ∷ ss)
      by (inl first) = front (edge_forth edges (sort_of sorts n) s a b first)
      by (inr g) = inr (g.0, inr g.1, g.2, g.3)

  each_keeps : (ns : List (List ℕ)) (ss : List ℕ) (edges : List (List ℕ)) (a b : ℕ) → has_edge edges a b ≡ true
      → has_edge (edges_each sorts edges ns ss) a b ≡ true
  each_keeps [] ss edges a b h = h
  each_keeps (n ∷ ns) [] edges a b h = h
  each_keeps (n ∷ ns) (s ∷ ss) edges a b h =
      each_keeps ns ss (edge_put edges (sort_of sorts n) s) a b (edge_keeps edges (sort_of sorts n) s a b h)

  each_long : (ns : List (List ℕ)) (ss : List ℕ) (edges : List (List ℕ))
      → length (edges_each sorts edges ns ss) ≡ length edges
  each_long [] ss edges = refl
  each_long (n ∷ ns) [] edges = refl
  each_long (n ∷ ns) (s ∷ ss) edges =
      each_long ns ss (edge_put edges (sort_of sorts n) s) ∙ edge_long edges (sort_of sorts n) s

  each_gets : (ns : List (List ℕ)) (ss : List ℕ) (edges : List (List ℕ)) (n : List ℕ) (b : ℕ) → Paired n b ns ss
      → sort_of sorts n < length edges → NotBoth (sort_of sorts n) b
      → has_edge (edges_each sorts edges ns ss) (sort_of sorts n) b ≡ true
  each_gets [] ss edges n b p lt proper = absurd p
  each_gets (m ∷ ns) [] edges n b p lt proper = absurd p
  each_gets (m ∷ ns) (s ∷ ss) edges n b (inl here) lt proper =
      let same : sort_of sorts n ≡ sort_of sorts m = ap (sort_of sorts) here.0 in
      each_keeps ns ss (edge_put edges (sort_of sorts m) s) (sort_of sorts n) b
      (subst (λ x. has_edge (edge_put edges (sort_of sorts m) s) x b ≡ true) (sym same)
      (subst (λ x. has_edge (edge_put edges (sort_of sorts m) s) (sort_of sorts m) x ≡ true) (sym here.1)
      (edge_gets edges (sort_of sorts m) s (subst (λ x. x < length edges) same lt)
      (λ zeros. proper (same ∙ zeros.0, here.1 ∙ zeros.1)))))
  each_gets (m ∷ ns) (s ∷ ss) edges n b (inr later) lt proper =
      each_gets ns ss (edge_put edges (sort_of sorts m) s) n b later
      (subst (λ x. sort_of sorts n < x) (sym (edge_long edges (sort_of sorts m) s)) lt) proper

-- ---- the items of a domain

abbrev pub put_item : List (List ℕ) → List (List ℕ) → Trees → List (List ℕ)
put_item sorts edges items =
    cond (is_types (domain_item_of (head_of items)))
    (edges_each sorts edges (named_words Start (tail_of items)) (named_sorts sorts Start 0 (tail_of items))) edges

types_key : (i : Item) (w : List ℕ) → IsKeyOf i w → is_types i ≡ true → w ≡ codes ":types"
types_key item.Types w key e = key
types_key i w key e = absurd (false≢true e)

module _ (sorts : List (List ℕ)) (object : sort_of sorts (codes "object") ≡ 0) (a b : ℕ) where
  abbrev pub Listed : Trees → Type 0
  Listed body = IsListedUnder body sorts a b

  item_forth : (edges : List (List ℕ)) (items : Trees) → has_edge (put_item sorts edges items) a b ≡ true
      → (has_edge edges a b ≡ true)
      ⊎ ((head_of items ≡ codes ":types") × PutBy sorts a b (named_words Start (tail_of items)) (named_sorts sorts Start 0 (tail_of items)))
  item_forth edges items =
      elim (is_types (domain_item_of (head_of items))) as
      (λ x. is_types (domain_item_of (head_of items)) ≡ x
      → has_edge (cond x (edges_each sorts edges (named_words Start (tail_of items)) (named_sorts sorts Start 0 (tail_of items))) edges) a b ≡ true
      → (has_edge edges a b ≡ true)
      ⊎ ((head_of items ≡ codes ":types") × PutBy sorts a b (named_words Start (tail_of items)) (named_sorts sorts Start 0 (tail_of items)))) [
        | true ↦ λ e h. by (types_key (domain_item_of (head_of items)) (head_of items) (key_of_domain (head_of items)) e)
            (each_forth sorts (named_words Start (tail_of items)) (named_sorts sorts Start 0 (tail_of items)) edges a b h)
        | false ↦ λ _ h. inl h
      ] refl
    where
      by : head_of items ≡ codes ":types"
          → (has_edge edges a b ≡ true) ⊎ PutBy sorts a b (named_words Start (tail_of items)) (named_sorts sorts Start 0 (tail_of items))
          → (has_edge edges a b ≡ true)
          ⊎ ((head_of items ≡ codes ":types") × PutBy sorts a b (named_words Start (tail_of items)) (named_sorts sorts Start 0 (tail_of items)))
      by head (inl old) = inl old
      by head (inr new) = inr (head, new)

  item_keeps : (edges : List (List ℕ)) (items : Trees) → has_edge edges a b ≡ true → has_edge (put_item sorts edges items) a b ≡ true
  item_keeps edges items h =
      elim (is_types (domain_item_of (head_of items))) as
      (λ x. has_edge (cond x (edges_each sorts edges (named_words Start (tail_of items)) (named_sorts sorts Start 0 (tail_of items))) edges) a b ≡ true) [
        | true ↦ each_keeps sorts (named_words Start (tail_of items)) (named_sorts sorts Start 0 (tail_of items)) edges a b h
        | false ↦ h
      ]

  item_long : (edges : List (List ℕ)) (items : Trees) → length (put_item sorts edges items) ≡ length edges
  item_long edges items =
      elim (is_types (domain_item_of (head_of items))) as
      (λ x. length (cond x (edges_each sorts edges (named_words Start (tail_of items)) (named_sorts sorts Start 0 (tail_of items))) edges) ≡ length edges) [
        | true ↦ each_long sorts (named_words Start (tail_of items)) (named_sorts sorts Start 0 (tail_of items)) edges
        | false ↦ refl
      ]

  -- a name of a group in the row of the item, with its type, puts the edge
  item_gets : (edges : List (List ℕ)) (items : Trees) (name type : List ℕ) → head_of items ≡ codes ":types"
      → HasTyped Start name type (tail_of items) → a ≡ sort_of sorts name → b ≡ sort_of sorts type → ¬ ((a ≡ 0) × (b ≡ 0))
      → a < length edges → has_edge (put_item sorts edges items) a b ≡ true
  item_gets edges items name type head typed low high proper lt =
      let row = tail_of items in
      let pair = (all_back sorts object name b row).2 (type, typed, high) in
      let put = each_gets sorts (named_words Start row) (named_sorts sorts Start 0 row) edges name b pair
      (subst (λ x. x < length edges) low lt) (λ zeros. proper (low ∙ zeros.0, zeros.1)) in
      subst
      (λ x. has_edge (cond x (edges_each sorts edges (named_words Start row) (named_sorts sorts Start 0 row)) edges) a b ≡ true)
      (sym (ap (λ w. is_types (domain_item_of w)) head ∙ ap is_types types_item))
      (subst (λ x. has_edge (edges_each sorts edges (named_words Start row) (named_sorts sorts Start 0 row)) x b ≡ true) (sym low) put)

  pub in_forth : (edges : List (List ℕ)) (body : Trees) → has_edge (edges_in sorts edges body) a b ≡ true
      → (has_edge edges a b ≡ true) ⊎ Listed body
  in_forth edges nothing h = inl h
  in_forth edges (word text at rest) h = later (in_forth edges rest h)
    where
      later : (has_edge edges a b ≡ true) ⊎ Listed rest → (has_edge edges a b ≡ true) ⊎ Listed (word text at rest)
      later (inl old) = inl old
      later (inr l) = inr (record {
        row = l.row;
        item = record { items = l.item.items; there = l.item.there; head = l.item.head; is = l.item.is };
        name = l.name;
        type = l.type;
        typed = l.typed;
        low_is = l.low_is;
        high_is = l.high_is;
        proper = l.proper;
      })
  in_forth edges (list items at rest) h = by (in_forth (put_item sorts edges items) rest h)
    where
      front : (has_edge edges a b ≡ true)
          ⊎ ((head_of items ≡ codes ":types") × PutBy sorts a b (named_words Start (tail_of items)) (named_sorts sorts Start 0 (tail_of items)))
          → (has_edge edges a b ≡ true) ⊎ Listed (list items at rest)
      front (inl old) = inl old
      front (inr new) =
          let typed = (all_forth sorts object new.1.0 b (tail_of items)).2 new.1.1 in
          inr (record {
            row = tail_of items;
            item = record { items = items; there = inl refl; head = new.0; is = refl };
            name = new.1.0;
            type = typed.0;
            typed = typed.1;
            low_is = new.1.2;
            high_is = typed.2;
            proper = new.1.3;
          })

      by : (has_edge (put_item sorts edges items) a b ≡ true) ⊎ Listed rest
          → (has_edge edges a b ≡ true) ⊎ Listed (list items at rest)
      by (inl first) = front (item_forth edges items first)
      by (inr l) = inr (record {
        row = l.row;
        item = record { items = l.item.items; there = inr l.item.there; head = l.item.head; is = l.item.is };
        name = l.name;
        type = l.type;
        typed = l.typed;
        low_is = l.low_is;
        high_is = l.high_is;
        proper = l.proper;
      })

  pub in_keeps : (edges : List (List ℕ)) (body : Trees) → has_edge edges a b ≡ true → has_edge (edges_in sorts edges body) a b ≡ true
  in_keeps edges nothing h = h
  in_keeps edges (word text at rest) h = in_keeps edges rest h
  in_keeps edges (list items at rest) h = in_keeps (put_item sorts edges items) rest (item_keeps edges items h)

  pub in_gets : (edges : List (List ℕ)) (body items : Trees) (name type : List ℕ) → HasList items body
      → head_of items ≡ codes ":types" → HasTyped Start name type (tail_of items) → a ≡ sort_of sorts name
      → b ≡ sort_of sorts type → ¬ ((a ≡ 0) × (b ≡ 0)) → a < length edges → has_edge (edges_in sorts edges body) a b ≡ true
  in_gets edges nothing items name type there head typed low high proper lt = absurd there
  in_gets edges (word text at rest) items name type there head typed low high proper lt =
      in_gets edges rest items name type there head typed low high proper lt
  in_gets edges (list other at rest) items name type (inl same) head typed low high proper lt =
      in_keeps (put_item sorts edges other) rest
      (item_gets edges other name type (sym (ap head_of same) ∙ head) (subst (λ i. HasTyped Start name type (tail_of i)) same typed)
      low high proper lt)
  in_gets edges (list other at rest) items name type (inr there) head typed low high proper lt =
      in_gets (put_item sorts edges other) rest items name type there head typed low high proper
      (subst (λ x. a < x) (sym (item_long edges other)) lt)
