-- Above a type are exactly those that it is under, by what `:types` lists.
use Rattle.std.proofs.Common.{◌≡◌, ℕ, zero, suc, ◌+◌, ◌<◌, ◌==◌, true, false, cond, List, [], ◌∷◌, ◌++◌, length, refl, sym, ap, subst, ◌∙◌, arith, ◌⊎◌, inl, inr, Contains, codes, None, Some, unwrap_or, nat_lt, lt-ltb, eqb-true, eq-eqb}
use Rattle.std.proofs.lemmas.Bool.{cond-true, false≢true}
use Rattle.std.specs.List.{list_any}
use Rattle.std.proofs.lemmas.Map.Keys.{any_passes_from_place}
use Rattle.lemmas.proofs.Bools.{from_or_false}
use Rattle.lemmas.proofs.ListTests.{number_found}
use Rattle.lemmas.proofs.Members.{member_at, place_of as contained}
use Rattle.lemmas.specs.Lists.{LeadsAlong}
use Rattle.sexpr_text.specs.Trees.{Trees, nothing, word, list}
use Rattle.form_reader.specs.Items.{domain_item_of}
use Rattle.form_reader.specs.Rows.{head_of, is_dash, tail_of}
use Rattle.form_reader.specs.declared.groups.Spot.TheVariants.{Start}
use Rattle.form_reader.specs.declared.items.Item.{Item}
use Rattle.form_reader.specs.declared.items.Item.TheVariants as item
use Rattle.name_tables.proofs.NamesLemmas.{place_within}
use Rattle.name_tables.specs.Graphs.{HasWay, has_edge}
use Rattle.name_tables.specs.Names.{has_name, table_place, with_table_name}
use Rattle.name_tables.specs.Texts.{body_of}
use Rattle.name_tables.specs.Variables.{sort_of}
use Rattle.domain_reader.proofs.FitSorts.{above_way, sort_at, sorts_named, way_above}
use Rattle.domain_reader.specs.Cycles.{IsAbove, first_edges, type_edges, under_object}
use Rattle.domain_reader.specs.Domains.{IsDomainRead, domain_names}
use Rattle.domain_reader.specs.Tables.{no_names, types_in, with_item, with_items}
use Rattle.name_tables.specs.declared.vocabulary.Vocabulary.{Vocabulary}
use Rattle.task_model.specs.declared.domain.Domain.{Domain}
use Rattle.table_laws.specs.Under.{AreClosed, HasTyped, IsDirectlyUnder, IsListedUnder, IsUnder, directly, further}
use Rattle.table_laws.proofs.EdgeLemmas.{in_forth, in_gets, in_keeps}

-- ---- before `:types` is read

under_forth : (ns : List (List ℕ)) (a b : ℕ) → has_edge (under_object ns) a b ≡ true → (a < length ns) × (b ≡ 0)
under_forth [] a b h = absurd (false≢true h)
under_forth (n ∷ ns) zero b h = (omega arith, eqb-true b 0 (from_or_false (b == 0) h))
under_forth (n ∷ ns) (suc a) b h = let more = under_forth ns a b h in (omega (arith, more.0), more.1)

under_back : (ns : List (List ℕ)) (a : ℕ) → a < length ns → has_edge (under_object ns) a 0 ≡ true
under_back [] a lt = absurd (omega (arith, lt))
under_back (n ∷ ns) zero lt = refl
under_back (n ∷ ns) (suc a) lt = under_back ns a (omega (arith, lt))

under_long : (ns : List (List ℕ)) → length (under_object ns) ≡ length ns
under_long [] = refl
under_long (n ∷ ns) = ap suc (under_long ns)

first_forth : (ns : List (List ℕ)) (a b : ℕ) → has_edge (first_edges ns) a b ≡ true → (0 < a) × (a < length ns) × (b ≡ 0)
first_forth [] a b h = absurd (false≢true h)
first_forth (n ∷ ns) zero b h = absurd (false≢true h)
first_forth (n ∷ ns) (suc a) b h = let more = under_forth ns a b h in (omega arith, omega (arith, more.0), more.1)

first_back : (ns : List (List ℕ)) (a : ℕ) → 0 < a → a < length ns → has_edge (first_edges ns) a 0 ≡ true
first_back [] a some lt = absurd (omega (arith, lt))
first_back (n ∷ ns) zero some lt = absurd (omega (arith, some))
first_back (n ∷ ns) (suc a) some lt = under_back ns a (omega (arith, lt))

first_long : (ns : List (List ℕ)) → length (first_edges ns) ≡ length ns
first_long [] = refl
first_long (n ∷ ns) = ap suc (under_long ns)

-- ---- the closure

sort_within : (sorts : List (List ℕ)) (n : List ℕ) → 0 < length sorts → sort_of sorts n < length sorts
sort_within sorts n some =
    elim (table_place n sorts) as (λ o. table_place n sorts ≡ o → unwrap_or o 0 < length sorts) [
      | None ↦ λ _. some
      | Some place ↦ λ e. place_within n sorts place e
    ] refl

module _ (sorts : List (List ℕ)) (object : sort_of sorts (codes "object") ≡ 0) (some : 0 < length sorts) (body : Trees) where
  step_forth : (a b : ℕ) → has_edge (type_edges sorts body) a b ≡ true → IsDirectlyUnder body sorts a b
  step_forth a b h = by (in_forth sorts object a b (first_edges sorts) body h)
    where
      by : (has_edge (first_edges sorts) a b ≡ true) ⊎ IsListedUnder body sorts a b → IsDirectlyUnder body sorts a b
      by (inl first) = inl (first_forth sorts a b first)
      by (inr listed) = inr listed

  step_back : (a b : ℕ) → IsDirectlyUnder body sorts a b → has_edge (type_edges sorts body) a b ≡ true
  step_back a b (inl under) =
      in_keeps sorts object a b (first_edges sorts) body
      (subst (λ x. has_edge (first_edges sorts) a x ≡ true) (sym under.2) (first_back sorts a under.0 under.1))
  step_back a b (inr l) =
      in_gets sorts object a b (first_edges sorts) body l.item.items l.name l.type l.item.there l.item.head
      (subst (HasTyped Start l.name l.type) l.item.is l.typed) l.low_is l.high_is l.proper
      (subst (λ x. a < x) (sym (first_long sorts)) (subst (λ x. x < length sorts) (sym l.low_is) (sort_within sorts l.name some)))

  way_forth : (a : ℕ) (between : List ℕ) (b : ℕ) → LeadsAlong (has_edge (type_edges sorts body)) a between b → IsUnder body sorts a b
  way_forth a [] b way = directly (step_forth a b way)
  way_forth a (m ∷ ms) b way = further (step_forth a m way.0) (way_forth m ms b way.1)

  way_back : {a b : ℕ} → IsUnder body sorts a b → HasWay (type_edges sorts body) a b
  way_back {a} {b} (directly step) = record { between = []; steps = step_back a b step }
  way_back {a} {b} (further {middle = m} step more) =
      let way = way_back more in record { between = m ∷ way.between; steps = (step_back a m step, way.steps) }

-- ---- `object` is the first type

abbrev Begins : List (List ℕ) → Type 0
Begins names = (tail : List (List ℕ)) × (names ≡ codes "object" ∷ tail)

begins_with : (names : List (List ℕ)) (name : List ℕ) → Begins names → Begins (with_table_name names name)
begins_with names name begins =
    elim (has_name name names) as (λ b. Begins (cond b names (names ++ name ∷ []))) [
      | true ↦ begins
      | false ↦ (begins.0 ++ name ∷ [], ap (λ ns. ns ++ name ∷ []) begins.1)
    ]

begins_put : (names : List (List ℕ)) (text : List ℕ) → Begins names → Begins (cond (is_dash text) names (with_table_name names text))
begins_put names text begins =
    elim (is_dash text) as (λ b. Begins (cond b names (with_table_name names text))) [
      | true ↦ begins
      | false ↦ begins_with names text begins
    ]

begins_types : (t : Trees) (names : List (List ℕ)) → Begins names → Begins (types_in names t)
begins_types nothing names begins = begins
begins_types (list items at rest) names begins = begins_types rest names begins
begins_types (word text at rest) names begins =
    begins_types rest (cond (is_dash text) names (with_table_name names text)) (begins_put names text begins)

begins_item : (v : Vocabulary) (i : Item) (row : Trees) → Begins v.sorts → Begins (with_item v i row).sorts
begins_item v item.Types row begins = begins_types row v.sorts begins
begins_item v i row begins = begins

begins_items : (v : Vocabulary) (body : Trees) → Begins v.sorts → Begins (with_items v body).sorts
begins_items v nothing begins = begins
begins_items v (word text at rest) begins = begins_items v rest begins
begins_items v (list items at rest) begins =
    begins_items (with_item v (domain_item_of (head_of items)) (tail_of items)) rest
    (begins_item v (domain_item_of (head_of items)) (tail_of items) begins)

object_first : (tail : List (List ℕ)) → sort_of (codes "object" ∷ tail) (codes "object") ≡ 0
object_first tail =
    ap (λ o. unwrap_or o 0)
    (cond-true (nat_lt 0 (length (codes "object" ∷ tail))) (Some 0) None
    (lt-ltb 0 (length (codes "object" ∷ tail)) (omega arith)))

object_is : (names : List (List ℕ)) → Begins names → sort_of names (codes "object") ≡ 0
object_is names begins = ap (λ ns. sort_of ns (codes "object")) begins.1 ∙ object_first begins.0

some_names : (names : List (List ℕ)) → Begins names → 0 < length names
some_names names begins = omega (arith, ap length begins.1)

-- ---- the law

above_member : (above : List ℕ) (b : ℕ) → list_any (λ n. n == b) above ≡ true → Contains above b
above_member above b h = let at = number_found above b h in member_at above at.0 b at.1

member_above : (above : List ℕ) (b : ℕ) → Contains above b → list_any (λ n. n == b) above ≡ true
member_above above b m =
    let at = contained above b m in any_passes_from_place (λ n. n == b) above at.0 b at.1 (eq-eqb b b refl)

pub above_closed : (t : Trees) (d : Domain) → IsDomainRead t d → AreClosed (body_of t) d
above_closed t d is k s at b =
    let body = body_of t in
    let sorts = (domain_names t).sorts in
    let edges = type_edges sorts body in
    let begins = begins_items no_names body ([], refl) in
    let object = object_is sorts begins in
    let some = some_names sorts begins in
    let index : 0 + k ≡ k = omega arith in
    let above = subst (λ m. IsAbove edges m s.above) index (sort_at edges 0 sorts d.sorts k s is.domain.parts.sorts at) in
    let names = sorts_named edges 0 sorts d.sorts is.domain.parts.sorts in (
      λ m. let way = above_way edges k s.above b above (member_above s.above b m) in
          subst (λ ns. IsUnder body ns k b) (sym names) (way_forth sorts object some body k way.between b way.steps),
      λ under. above_member s.above b
          (way_above edges k s.above b above (way_back sorts object some body (subst (λ ns. IsUnder body ns k b) names under))),
    )
