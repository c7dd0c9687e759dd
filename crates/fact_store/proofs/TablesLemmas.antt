-- Tables, as facts come and as a table goes on over them.
use Rattle.std.proofs.Common.{◌≡◌, ℕ, zero, suc, ◌+◌, ◌-◌, ◌≤◌, Bool, true, false, cond, ◌==◌, ◌⊎◌, inl, inr, List, [], ◌∷◌, ◌++◌, map, length, take, drop, slice_get, refl, sym, ap, subst, ◌∙◌, None, Some, arith, eqb-true, length-append}
use Rattle.std.proofs.lemmas.List.{take-append-le, take-append-drop, length-map, map-append, append-nil}
use Rattle.std.proofs.lemmas.List.Elements.{filter-append}
use Rattle.std.proofs.lemmas.Map.Steps.{set_value_same}
use Rattle.std.specs.Cmp.{first_so, second_so}
use Rattle.std.specs.Map.{lookup, set_value}
use Rattle.indexmap.specs.IndexMap.{IndexMap, get}
use Rattle.smallvec.specs.SmallVec.{SmallVec}
use Rattle.task_model.specs.Known.{is_fact, with_fact}
use Rattle.task_model.specs.declared.fact.Fact.{Fact}
use Rattle.lemmas.proofs.Members.{get_append, next_taken}
use Rattle.fact_store.proofs.LeastLemmas.{one_more}
use Rattle.fact_store.specs.Tables.{AreCovered, CoverPlaces, Covers, Key, facts_with, has_key, is_key, group_key, places_found, places_in, same_key}
use Rattle.fact_store.specs.declared.table.Group.{Group}
use Rattle.fact_store.specs.declared.table.Group.TheVariants.{Objects, AtomsAt}
use Rattle.fact_store.specs.declared.table.Table.{Table}

-- ---- the places of a key

pub keys_same : (a b : Key) → same_key a b ≡ true → a ≡ b
keys_same a b e =
    λ i. (eqb-true a.0 b.0 (first_so (a.0 == b.0) (a.1 == b.1) e) i, eqb-true a.1 b.1 (second_so (a.0 == b.0) (a.1 == b.1) e) i)

module _ {S : Type 0} (old new : IndexMap Key (SmallVec ℕ) S) where
  -- one place more
  pub places_put : (key : Key) (places : SmallVec ℕ) (place : ℕ)
      → places.items ≡ places_in old key ++ place ∷ []
      → ((q : Key) → get same_key new q ≡ cond (same_key key q) (Some places) (get same_key old q))
      → (q : Key)
      → places_in new q ≡ cond (same_key key q) (places_in old q ++ place ∷ []) (places_in old q)
  places_put key places place more is q =
      ap places_found (is q)
      ∙ elim (same_key key q) as (λ b.
      same_key key q ≡ b
      → places_found (cond b (Some places) (get same_key old q)) ≡ cond b (places_in old q ++ place ∷ []) (places_in old q)) [
        | true ↦ λ e. more ∙ ap (λ k. places_in old k ++ place ∷ []) (keys_same key q e)
        | false ↦ λ _. refl
      ] refl

  pub places_stay : new.entries ≡ old.entries → (q : Key) → places_in new q ≡ places_in old q
  places_stay e q = ap (λ es. places_found (lookup (same_key q) es)) e

  -- a list that is written back as it was
  pub places_back : (key : Key) (was places : SmallVec ℕ) → get same_key old key ≡ Some was
      → places ≡ was → new.entries ≡ set_value (same_key key) old.entries places → (q : Key)
      → places_in new q ≡ places_in old q
  places_back key was places found same is =
      places_stay (is ∙ ap (set_value (same_key key) old.entries) same ∙ set_value_same (same_key key) old.entries was found)

-- ---- what stands at the places

get_behind : {A : Type 0} (xs ys : List A) (i : ℕ) → length xs ≤ i
    → slice_get (xs ++ ys) i ≡ slice_get ys (i - length xs)
get_behind [] ys i h = let e : i ≡ i - 0 = omega arith in ap (slice_get ys) e
get_behind (x ∷ xs) ys zero h = absurd (omega arith)
get_behind (x ∷ xs) ys (suc i) h =
    let below : length xs ≤ i = omega arith in
    let e : i - length xs ≡ suc i - suc (length xs) = omega arith in
    get_behind xs ys i below ∙ ap (slice_get ys) e

-- places stay right where facts come behind
stand_still : {A : Type 0} (xs more : List A) (places : List ℕ) (found : List A)
    → map (slice_get xs) places ≡ map Some found
    → map (slice_get (xs ++ more)) places ≡ map Some found
stand_still xs more [] [] e = refl
stand_still xs more [] (f ∷ fs) e = absurd (cc)
stand_still xs more (p ∷ ps) [] e = absurd (cc)
stand_still xs more (p ∷ ps) (f ∷ fs) e =
    let here : slice_get xs p ≡ Some f = cc in
    let there : map (slice_get xs) ps ≡ map Some fs = cc in
    let now : slice_get (xs ++ more) p ≡ Some f = get_append xs more p f here in
    let rest : map (slice_get (xs ++ more)) ps ≡ map Some fs = stand_still xs more ps fs there in
    cc

at_place : {A : Type 0} (xs : List A) (places : List ℕ) (found rest : List A) (i n : ℕ)
    → map (slice_get xs) places ≡ map Some found → slice_get places i ≡ Some n
    → slice_get xs n ≡ slice_get (found ++ rest) i
at_place xs [] found rest i n e at = absurd (cc)
at_place xs (p ∷ ps) [] rest i n e at = absurd (cc)
at_place xs (p ∷ ps) (f ∷ fs) rest zero n e at =
    let here : slice_get xs p ≡ Some f = cc in
    let same : p ≡ n = cc in
    ap (slice_get xs) (sym same) ∙ here
at_place xs (p ∷ ps) (f ∷ fs) rest (suc i) n e at =
    let there : map (slice_get xs) ps ≡ map Some fs = cc in
    at_place xs ps fs rest i n there at

module _ (group : Group) (facts : List Fact) (table : Table) (covers : Covers group facts table) (q : Key) where
  parts : facts_with group q (take table.done facts) ++ facts_with group q (drop table.done facts) ≡ facts_with group q facts
  parts =
      sym (filter-append (has_key group q) (take table.done facts) (drop table.done facts))
      ∙ ap (facts_with group q) (take-append-drop table.done facts)

  as_many : length (places_in table.lists q) ≡ length (facts_with group q (take table.done facts))
  as_many =
      sym (length-map (places_in table.lists q) (slice_get facts)) ∙ ap length (covers.places q)
      ∙ length-map (facts_with group q (take table.done facts)) Some

  -- those that the table covers and those that it doesn't are all
  pub counted : length (places_in table.lists q) + length (facts_with group q (drop table.done facts)) ≡ length (facts_with group q facts)
  counted =
      ap (λ n. n + length (facts_with group q (drop table.done facts))) as_many
      ∙ sym (length-append (facts_with group q (take table.done facts)) (facts_with group q (drop table.done facts))) ∙ ap length parts

  pub covered_at : (i n : ℕ) → slice_get (places_in table.lists q) i ≡ Some n
      → slice_get facts n ≡ slice_get (facts_with group q facts) i
  covered_at i n at =
      at_place facts (places_in table.lists q) (facts_with group q (take table.done facts))
      (facts_with group q (drop table.done facts)) i n (covers.places q) at
      ∙ ap (λ fs. slice_get fs i) parts

  pub uncovered_at : (i : ℕ) → length (places_in table.lists q) ≤ i
      → slice_get (facts_with group q (drop table.done facts)) (i - length (places_in table.lists q))
      ≡ slice_get (facts_with group q facts) i
  uncovered_at i past =
      let beyond : length (facts_with group q (take table.done facts)) ≤ i = omega (arith, as_many, past) in
      ap (λ n. slice_get (facts_with group q (drop table.done facts)) (i - n)) as_many
      ∙ sym (get_behind (facts_with group q (take table.done facts)) (facts_with group q (drop table.done facts)) i beyond)
      ∙ ap (λ fs. slice_get fs i) parts

-- ---- one fact more

module _ (group : Group) (facts : List Fact) (old new : Table) (fact : Fact)
    (covers : Covers group facts old) (at : slice_get facts old.done ≡ Some fact) where
  found_more : (q : Key)
      → facts_with group q (take (old.done + 1) facts)
      ≡ facts_with group q (take old.done facts) ++ cond (has_key group q fact) (fact ∷ []) []
  found_more q =
      ap (facts_with group q) (next_taken facts old.done fact at)
      ∙ filter-append (has_key group q) (take old.done facts) (fact ∷ [])

  -- under its key, if it has one, its place was put
  covers_more : (q : Key) → new.done ≡ old.done + 1
      → places_in new.lists q ≡ places_in old.lists q ++ cond (has_key group q fact) (old.done ∷ []) []
      → map (slice_get facts) (places_in new.lists q) ≡ map Some (facts_with group q (take new.done facts))
  covers_more q next put =
      ap (map (slice_get facts)) put
      ∙ map-append (slice_get facts) (places_in old.lists q) (cond (has_key group q fact) (old.done ∷ []) [])
      ∙ (λ i. covers.places q i ++ one (has_key group q fact) i)
      ∙ sym (map-append Some (facts_with group q (take old.done facts)) (cond (has_key group q fact) (fact ∷ []) []))
      ∙ ap (map Some) (sym (found_more q) ∙ ap (λ n. facts_with group q (take n facts)) (sym next))
    where
      one : (b : Bool)
          → map (slice_get facts) (cond b (old.done ∷ []) []) ≡ map Some (cond b (fact ∷ []) [])
      one true = ap (λ o. o ∷ []) at
      one false = refl

  pub covers_one : (key : Key) → group_key group fact ≡ Some key → new.done ≡ old.done + 1
      → ((q : Key) → places_in new.lists q ≡ cond (same_key key q) (places_in old.lists q ++ old.done ∷ []) (places_in old.lists q))
      → Covers group facts new
  covers_one key is next put = record {
    within = subst (λ n. n ≤ length facts) (sym next) (one_more facts old.done fact at);
    places = λ q. covers_more q next (put q ∙ either (same_key key q) (places_in old.lists q)
        ∙ ap (λ o. places_in old.lists q ++ cond (is_key o q) (old.done ∷ []) []) (sym is));
  }
    where
      either : (b : Bool) (ps : List ℕ)
          → cond b (ps ++ old.done ∷ []) ps ≡ ps ++ cond b (old.done ∷ []) []
      either true ps = refl
      either false ps = sym (append-nil ps)

  pub covers_none : group_key group fact ≡ None → new.done ≡ old.done + 1
      → ((q : Key) → places_in new.lists q ≡ places_in old.lists q) → Covers group facts new
  covers_none is next same = record {
    within = subst (λ n. n ≤ length facts) (sym next) (one_more facts old.done fact at);
    places = λ q. covers_more q next (same q ∙ sym (append-nil (places_in old.lists q))
        ∙ ap (λ o. places_in old.lists q ++ cond (is_key o q) (old.done ∷ []) []) (sym is));
  }

-- ---- facts that come

covers_pushed : (group : Group) (facts more : List Fact) (table : Table) → Covers group facts table
    → Covers group (facts ++ more) table
covers_pushed group facts more table covers = record {
  within = let w = covers.within in omega (arith, length-append facts more);
  places = λ q. stand_still facts more (places_in table.lists q) (facts_with group q (take table.done facts)) (covers.places q)
      ∙ ap (λ fs. map Some (facts_with group q fs)) (sym (take-append-le table.done facts more covers.within));
}

pub covers_kept : (group : Group) (facts new : List Fact) (fact : Fact) (table : Table)
    → (new ≡ with_fact facts fact) ⊎ (new ≡ facts) → Covers group facts table
    → Covers group new table
covers_kept group facts new fact table cases covers =
    elim cases [
      | inl e ↦ subst (λ fs. Covers group fs table) (sym e)
          (elim (is_fact facts fact) as (λ b. Covers group (cond b facts (facts ++ fact ∷ [])) table)
          [ true ↦ covers | false ↦ covers_pushed group facts (fact ∷ []) table covers ])
      | inr e ↦ subst (λ fs. Covers group fs table) (sym e) covers
    ]

-- ---- tables that come

last_or_before : {A : Type 0} (xs : List A) (x y : A) (i : ℕ) → slice_get (xs ++ x ∷ []) i ≡ Some y
    → (slice_get xs i ≡ Some y) ⊎ (x ≡ y)
last_or_before [] x y zero e = inr cc
last_or_before [] x y (suc i) e = absurd (cc)
last_or_before (z ∷ zs) x y zero e = inl e
last_or_before (z ∷ zs) x y (suc i) e = last_or_before zs x y i e

-- the table that comes is right about all facts of which it covers none
pub tables_pushed : (facts : List Fact) (tables new : List Table) (table : Table) (b : Bool)
    → new ≡ cond b (tables ++ table ∷ []) tables
    → ((group : Group) (facts : List Fact) → Covers group facts table) → CoverPlaces facts tables
    → CoverPlaces facts new
tables_pushed facts tables new table b is empty cover =
    subst (CoverPlaces facts) (sym is) (either b)
  where
    either : (b : Bool) → CoverPlaces facts (cond b (tables ++ table ∷ []) tables)
    either true = λ place found at.
        elim (last_or_before tables table found place at) [
          | inl before ↦ cover place found before
          | inr last ↦ subst (Covers (AtomsAt place) facts) last (empty (AtomsAt place) facts)
        ]
    either false = cover

pub all_kept : (facts new : List Fact) (fact : Fact) (by_type : Table) (by_place : List Table)
    → (new ≡ with_fact facts fact) ⊎ (new ≡ facts) → AreCovered facts by_type by_place
    → AreCovered new by_type by_place
all_kept facts new fact by_type by_place cases covered = record {
  objects = covers_kept Objects facts new fact by_type cases covered.objects;
  atoms_at = λ place table at. covers_kept (AtomsAt place) facts new fact table cases (covered.atoms_at place table at);
}
