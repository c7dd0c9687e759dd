-- The types of a domain are fit, all of them.
use Rattle.std.proofs.Common.{◌≡◌, ℕ, ◌+◌, ◌<◌, ◌≤◌, Bool, true, nat_lt, List, [], ◌∷◌, ◌++◌, codes, length, refl, sym, ◌∙◌, subst, arith, Some, slice_get, le-leb, lt-ltb}
use Rattle.std.specs.List.{list_all}
use Rattle.std.proofs.lemmas.Bool.{false_from_ne_true}
use Rattle.std.proofs.lemmas.Option.{slice_get_within}
use Rattle.sexpr_text.specs.Trees.{Trees, size}
use Rattle.task_model.specs.Fit.{AreFitSorts, AreNames, are_places}
use Rattle.task_model.specs.declared.domain.Sort as sort
use Rattle.form_reader.specs.declared.fault.InputKind.TheVariants.{TypeCycle}
use Rattle.lemmas.proofs.ListTests.{all_from}
use Rattle.name_tables.specs.Graphs.{HasWay}
use Rattle.name_tables.proofs.GraphsOrderLemmas.{Ascends, ascends_all, ascends_places}
use Rattle.name_tables.proofs.GraphsLemmas.{number_there}
use Rattle.domain_reader.proofs.FitItems.{AreClean}
use Rattle.domain_reader.proofs.FitEdges.{is_candidate, none_cyclic, way_joined, way_within}
use Rattle.domain_reader.proofs.FitNames.{tables_fit}
use Rattle.domain_reader.specs.Cycles.{AreSorts, IsAbove, first_edges, listed_in, type_edges}
use Rattle.name_tables.specs.Cycles.{CycleFaults}
use Rattle.domain_reader.specs.Tables.{no_names, vocabulary_in}
use Rattle.domain_reader.proofs.FitSorts.{IsUnder, above_way, first_sort, first_under, from_first, has_above, no_sort_seen, none_around, nothing_in, sort_at, sorts_many, sorts_named, under_items, way_above}

-- ---- all of it

module _ (size : ℕ) (edges names : List (List ℕ)) (all : List sort.Sort) (L : ℕ → Type 0) (u : IsUnder size L edges)
    (free : (k : ℕ) → L k → ¬ (HasWay edges k k)) (are : AreSorts edges 0 names all) (long : length names ≡ size)
    (few : size ≤ 8388608) where
  own : (k : ℕ) (s : sort.Sort) → slice_get all k ≡ Some s → IsAbove edges k s.above
  own k s e = let here : 0 + k ≡ k = omega arith in subst (λ n. IsAbove edges n s.above) here (sort_at edges 0 names all k s are e)

  many : length all ≡ size
  many = sorts_many edges 0 names all are ∙ long

  abbrev is_place : ℕ → Bool
  is_place n = nat_lt n size

  reached_places : (k : ℕ) (above : List ℕ) → IsAbove edges k above → are_places size above ≡ true
  reached_places k above i =
      let reached : list_all is_place i.reached ≡ true =
      all_from is_place i.reached (λ j b e. lt-ltb b size (within b (i.right.only b (number_there i.reached j b e)))) in
      ascends_places size above few (subst (Ascends 0 size) (sym i.sorted) (ascends_all size [] i.reached reached tt))
    where
      within : (b : ℕ) → HasWay edges k b → b < size
      within b w = way_within edges (λ n. n < size) u.within k w.between b w.steps

  sorts_fit : AreNames names → slice_get names 0 ≡ Some (codes "object") → AreFitSorts all
  sorts_fit are_names object = record {
    names = subst AreNames (sym (sorts_named edges 0 names all are)) are_names;
    first = first_sort names all (sorts_named edges 0 names all are) object
        (λ s e. nothing_in s.above
        (λ b h. let w = above_way edges 0 s.above b (own 0 s e) h in from_first size edges L u free w.between b w.steps));
    short = le-leb (length all) 8388608 (omega (arith, many));
    places = all_from (λ (s : sort.Sort). are_places (length all) s.above) all
        (λ k s e. subst (λ n. are_places n s.above ≡ true) (sym many) (reached_places k s.above (own k s e)));
    proper = λ k s e. false_from_ne_true (has_above s k)
        (λ h. let w = above_way edges k s.above k (own k s e) h in none_around size edges L u free k w.between w.steps);
    closed = λ k a b s t at_k above_a at_a above_b.
        let first = above_way edges k s.above a (own k s at_k) above_a in
        let second = above_way edges a t.above b (own a t at_a) above_b in
        way_above edges k s.above b (own k s at_k)
        (record {
          between = first.between ++ a ∷ second.between;
          steps = way_joined edges k first.between a second.between b first.steps second.steps;
        });
  }

-- the types of a domain whose items have no faults and whose types are on no cycle
pub types_fit : (heads : List (List ℕ)) (body : Trees) (all : List sort.Sort)
    → AreClean (vocabulary_in body) heads body → size body ≤ 4194304
    → CycleFaults TypeCycle (type_edges (vocabulary_in body).sorts body) (listed_in (vocabulary_in body).sorts [] body) []
    → AreSorts (type_edges (vocabulary_in body).sorts body) 0 (vocabulary_in body).sorts all
    → AreFitSorts all
types_fit heads body all clean small none are =
    let v = vocabulary_in body in
    let tables = tables_fit heads body clean in
    let listed = listed_in v.sorts [] body in
    let edges = type_edges v.sorts body in
    let L : ℕ → Type 0 = λ k. is_candidate listed k ≡ true in
    let typed : 0 < length v.sorts = slice_get_within v.sorts 0 (codes "object") tables.object in
    let u = under_items v heads L typed (first_edges v.sorts) [] no_names body clean (λ n h. h) (no_sort_seen v.sorts L)
    (λ k h. h) (first_under L v.sorts) in
    sorts_fit (length v.sorts) edges v.sorts all L u (none_cyclic listed [] none refl) are refl
    (omega (arith, tables.sorts.few)) (record { each = tables.sorts.named; distinct = tables.sorts.distinct }) tables.object
