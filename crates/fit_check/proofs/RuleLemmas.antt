-- A derived predicate rests on itself where an item does.
use Rattle.std.proofs.Common.{◌≡◌, ℕ, true, ◌&&◌, ◌==◌, List, [], ◌∷◌, refl, sym, ap, ◌∙◌, subst, Option, Some, None, slice_get, eqb-true, eq-eqb}
use Rattle.std.specs.Cmp.{first_so, second_so}
use Rattle.std.proofs.lemmas.Bool.{and_from}
use Rattle.std.proofs.lemmas.Map.Keys.{any_passes_from_place}
use Rattle.task_model.specs.Fit.{depends, mentions}
use Rattle.lemmas.specs.Lists.{LeadsAlong}
use Rattle.task_model.specs.declared.domain.Derived.{Derived}
use Rattle.task_model.specs.declared.domain.Domain.{Domain}
use Rattle.lemmas.proofs.ListTests.{any_found, one_there}
use Rattle.lemmas.proofs.Walks.{Way}
use Rattle.fit_check.specs.Cycles.{IsAcyclic}
use Rattle.fit_check.specs.Tests.{item_leads, mentions_head}

-- an item at its place
abbrev HasItem : Domain → ℕ → Derived → Type 0
HasItem domain i d = slice_get domain.derived i ≡ Some d

item_edge : (domain : Domain) (i j : ℕ) (d e : Derived) → HasItem domain i d → HasItem domain j e
    → item_leads domain i j ≡ mentions e.pred d.body
item_edge domain i j d e f g = λ k. mentions_head (f k) (g k)

both_there : (a b : Option Derived) → mentions_head a b ≡ true
    → (d : Derived) × (e : Derived) × (a ≡ Some d) × (b ≡ Some e) × (mentions e.pred d.body ≡ true)
both_there (Some d) (Some e) h = (d, e, refl, refl, h)
both_there None b h = absurd (cc)
both_there (Some d) None h = absurd (cc)

edge_found : (domain : Domain) (i j : ℕ) → item_leads domain i j ≡ true
    → (d : Derived) × (e : Derived) × HasItem domain i d × HasItem domain j e × (mentions e.pred d.body ≡ true)
edge_found domain i j h = both_there (slice_get domain.derived i) (slice_get domain.derived j) h

-- an item heads the first predicate and mentions the second
rule_found : (domain : Domain) (head pred : ℕ) → depends domain head pred ≡ true
    → (i : ℕ) × (d : Derived) × HasItem domain i d × (d.pred ≡ head) × (mentions pred d.body ≡ true)
rule_found domain head pred h =
    let found = any_found (λ (d : Derived). (d.pred == head) && mentions pred d.body) domain.derived h in
    let d = found.1 in (
      found.0,
      d,
      found.2,
      eqb-true d.pred head (first_so (d.pred == head) (mentions pred d.body) found.3),
      second_so (d.pred == head) (mentions pred d.body) found.3,
    )

-- an item that heads the first, from which each that heads the last is reached
to_items : (domain : Domain) (between : List ℕ) (from to : ℕ)
    → LeadsAlong (depends domain) from between to
    → (i : ℕ) × (d : Derived) × HasItem domain i d × (d.pred ≡ from)
    × ((j : ℕ) (e : Derived) → HasItem domain j e → e.pred ≡ to → Way (item_leads domain) i j)
to_items domain [] from to h =
    let found = rule_found domain from to h in (
      found.0,
      found.1,
      found.2,
      found.3,
      λ j e g same. ([], item_edge domain found.0 j found.1 e found.2 g ∙ ap (λ p. mentions p found.1.body) same ∙ found.4),
    )
to_items domain (x ∷ xs) from to h =
    let found = rule_found domain from x h.0 in
    let rest = to_items domain xs x to h.1 in (
      found.0,
      found.1,
      found.2,
      found.3,
      λ j e g same.
          let way = rest.4 j e g same in (
            rest.0 ∷ way.0,
            (item_edge domain found.0 rest.0 found.1 rest.1 found.2 rest.2 ∙ ap (λ p. mentions p found.1.body) rest.3 ∙ found.4, way.1),
          ),
    )

depends_by : (domain : Domain) (i : ℕ) (d : Derived) (pred : ℕ) → HasItem domain i d
    → mentions pred d.body ≡ true
    → depends domain d.pred pred ≡ true
depends_by domain i d pred f h =
    any_passes_from_place (λ (x : Derived). (x.pred == d.pred) && mentions pred x.body) domain.derived i d f
    (and_from (d.pred == d.pred) (mentions pred d.body) (eq-eqb d.pred d.pred refl) h)

to_predicates : (domain : Domain) (between : List ℕ) (i j : ℕ)
    → LeadsAlong (item_leads domain) i between j
    → (d : Derived) × (e : Derived) × HasItem domain i d × HasItem domain j e × Way (depends domain) d.pred e.pred
to_predicates domain [] i j h =
    let found = edge_found domain i j h in
    (found.0, found.1, found.2, found.3, ([], depends_by domain i found.0 found.1.pred found.2 found.4))
to_predicates domain (x ∷ xs) i j h =
    let found = edge_found domain i x h.0 in
    let rest = to_predicates domain xs x j h.1 in
    let same : found.1 ≡ rest.0 = one_there domain.derived x found.1 rest.0 found.3 rest.2 in
    let here : depends domain found.0.pred rest.0.pred ≡ true =
    depends_by domain i found.0 rest.0.pred found.2 (ap (λ (e : Derived). mentions e.pred found.0.body) (sym same) ∙ found.4) in
    (found.0, rest.1, found.2, rest.3, (rest.0.pred ∷ rest.4.0, (here, rest.4.1)))

pub rules_acyclic : (domain : Domain) → IsAcyclic (item_leads domain) → IsAcyclic (depends domain)
rules_acyclic domain acyclic pred between h =
    let found = to_items domain between pred pred h in
    let way = found.4 found.0 found.1 found.2 found.3 in
    acyclic found.0 way.0 way.1

pub items_acyclic : (domain : Domain) → IsAcyclic (depends domain) → IsAcyclic (item_leads domain)
items_acyclic domain acyclic node between h =
    let found = to_predicates domain between node node h in
    let same : found.0 ≡ found.1 = one_there domain.derived node found.0 found.1 found.2 found.3 in
    let way = subst (λ (e : Derived). Way (depends domain) found.0.pred e.pred) (sym same) found.4 in
    acyclic found.0.pred way.0 way.1
