-- No derived predicate of a domain without faults rests on itself.
use Rattle.std.proofs.Common.{◌≡◌, ℕ, suc, ◌<◌, Bool, true, false, ◌&&◌, ◌==◌, if◌then◌else◌, List, [], ◌∷◌, ◌++◌, length, refl, sym, ap, ◌∙◌, subst, arith, ◌⊎◌, inl, inr, Option, Some, None, unwrap_or, eqb-true, eq-eqb}
use Rattle.std.specs.Cmp.{first_so, second_so}
use Rattle.std.specs.List.{list_any}
use Rattle.std.proofs.lemmas.Bool.{or_cases, or_left}
use Rattle.lemmas.proofs.Members.{append_nil_first, append_nil_second}
use Rattle.lemmas.proofs.ListTests.{any_append_right}
use Rattle.sexpr_text.specs.Trees.{Trees, nothing, word, list}
use Rattle.task_model.specs.Condition.{Condition, Conditions, Atom, All as every, Any, Not}
use Rattle.task_model.specs.Fit.{any_mentions, depends, mentions}
use Rattle.lemmas.specs.Lists.{LeadsAlong}
use Rattle.task_model.specs.declared.condition.Term.{Term}
use Rattle.task_model.specs.declared.domain.Derived as rule
use Rattle.task_model.specs.declared.domain.Domain as domain
use Rattle.form_reader.specs.declared.fault.Fault.{Fault}
use Rattle.form_reader.specs.declared.fault.InputKind.TheVariants.{DerivedCycle}
use Rattle.form_reader.specs.declared.groups.Spot.TheVariants.{Start}
use Rattle.form_reader.specs.declared.items.TextKind.TheVariants as text
use Rattle.form_reader.specs.declared.words.ConditionHead.{ConditionHead}
use Rattle.form_reader.specs.declared.words.ConditionHead.TheVariants as head
use Rattle.form_reader.specs.Conditions.{by_condition}
use Rattle.form_reader.specs.Items.{item_of}
use Rattle.form_reader.specs.Rows.{head_of, inner_of, tail_of}
use Rattle.form_reader.specs.Words.{condition_head_of}
use Rattle.name_tables.specs.Conditions.{condition_by, condition_names, condition_of, conditions_names, conditions_of, equal_of, exists_names, exists_of, single_of, truth}
use Rattle.name_tables.specs.Graphs.{has_edge}
use Rattle.name_tables.specs.Names.{table_place}
use Rattle.name_tables.specs.Terms.{application_names, declared_place, terms_names, terms_of, use_names, width}
use Rattle.name_tables.specs.Variables.{named_words, variables_names}
use Rattle.name_tables.specs.Vocabulary.{arity_of}
use Rattle.name_tables.specs.declared.vocabulary.Vocabulary.{Vocabulary}
use Rattle.name_tables.proofs.FitDeclared.{put_long}
use Rattle.name_tables.proofs.NamesLemmas.{place_within}
use Rattle.domain_reader.proofs.FitItems.{AreClean, IsClean}
use Rattle.domain_reader.proofs.FitEdges.{is_candidate, none_cyclic, put_gets, put_keeps}
use Rattle.domain_reader.proofs.FitRules.{derived_rule, place_used, rule_body, rule_pred, rule_there}
use Rattle.domain_reader.specs.Cycles.{bodies_in, body_put, derived_edges, derived_in, derived_item, derived_place, mention_put, mentions_in, no_edges}
use Rattle.name_tables.specs.Cycles.{CycleFaults}
use Rattle.domain_reader.specs.Domains.{rule_of, rules_of}
use Rattle.domain_reader.specs.Tables.{headed, is_derived_item}
use Rattle.name_tables.specs.declared.cycles.Candidate.{Candidate}

-- ---- edges of the mentioned predicates

module _ (predicates : List (List ℕ)) where
  -- what was led to stays led to, and there are as many lists
  record Grows (old new : List (List ℕ)) : Type 0 where
    keeps : (a b : ℕ) → has_edge old a b ≡ true → has_edge new a b ≡ true
    long : length new ≡ length old

  grows_none : (edges : List (List ℕ)) → Grows edges edges
  grows_none edges = record { keeps = λ a b h. h; long = refl }

  grows_then : (a b c : List (List ℕ)) → Grows a b → Grows b c → Grows a c
  grows_then a b c g h =
      record { keeps = λ x y l. h.keeps x y (g.keeps x y l); long = h.long ∙ g.long }

  put_grows : (edges : List (List ℕ)) (from : ℕ) (o : Option ℕ)
      → Grows edges (mention_put edges from o)
  put_grows edges from None = grows_none edges
  put_grows edges from (Some pred) =
      record { keeps = λ a b h. put_keeps edges from pred a b h; long = put_long edges from pred }

  mentions_grow : (edges : List (List ℕ)) (from : ℕ) (ts : Trees)
      → Grows edges (mentions_in predicates edges from ts)
  mentions_grow edges from nothing = grows_none edges
  mentions_grow edges from (word text at rest) = mentions_grow edges from rest
  mentions_grow edges from (list items at rest) =
      let put = mention_put edges from (table_place (head_of items) predicates) in
      let inside = mentions_in predicates put from items in
      grows_then edges put (mentions_in predicates inside from rest) (put_grows edges from (table_place (head_of items) predicates))
      (grows_then put inside (mentions_in predicates inside from rest) (mentions_grow put from items) (mentions_grow inside from rest))

  -- the trees lead to a predicate
  abbrev Reaches : ℕ → ℕ → Trees → Type 0
  Reaches from b ts =
      (edges : List (List ℕ)) → from < length edges
      → has_edge (mentions_in predicates edges from ts) from b ≡ true

  reaches_first : (from b : ℕ) (items : Trees) (at : ℕ) (rest : Trees)
      → table_place (head_of items) predicates ≡ Some b → Reaches from b (list items at rest)
  reaches_first from b items at rest e edges lt =
      let put = mention_put edges from (table_place (head_of items) predicates) in
      let inside = mentions_in predicates put from items in
      let here : has_edge put from b ≡ true = subst (λ o. has_edge (mention_put edges from o) from b ≡ true) (sym e) (put_gets edges from b lt) in
      (mentions_grow inside from rest).keeps from b ((mentions_grow put from items).keeps from b here)

  reaches_inside : (from b : ℕ) (items : Trees) (at : ℕ) (rest : Trees) → Reaches from b items
      → Reaches from b (list items at rest)
  reaches_inside from b items at rest r edges lt =
      let put = mention_put edges from (table_place (head_of items) predicates) in
      (mentions_grow (mentions_in predicates put from items) from rest).keeps from b
      (r put (omega (arith, lt, (put_grows edges from (table_place (head_of items) predicates)).long)))

  reaches_behind : (from b : ℕ) (items : Trees) (at : ℕ) (rest : Trees) → Reaches from b rest
      → Reaches from b (list items at rest)
  reaches_behind from b items at rest r edges lt =
      let put = mention_put edges from (table_place (head_of items) predicates) in
      r (mentions_in predicates put from items)
      (omega (arith, lt, (put_grows edges from (table_place (head_of items) predicates)).long, (mentions_grow put from items).long))

  -- of the list of these trees, by its head or by what is in it
  abbrev ReachesList : ℕ → ℕ → Trees → Type 0
  ReachesList from b ts = (table_place (head_of ts) predicates ≡ Some b) ⊎ Reaches from b ts

  reaches_list : (from b : ℕ) (items : Trees) (at : ℕ) (rest : Trees) → ReachesList from b items
      → Reaches from b (list items at rest)
  reaches_list from b items at rest (inl e) = reaches_first from b items at rest e
  reaches_list from b items at rest (inr r) = reaches_inside from b items at rest r

-- ---- what a head chooses

record Chosen (h : ConditionHead) (P : Condition → Type 0) (parts : Conditions)
    (single quantified equal atom : Condition) (np ns nq ne nr na : List Fault) : Type 0 where
  all : np ≡ [] → P (every parts)
  any : np ≡ [] → P (Any parts)
  negated : ns ≡ [] → P (Not single)
  exist : nq ≡ [] → P quantified
  equals : P equal
  refused : P truth
  atoms : na ≡ [] → P atom

by_head : (h : ConditionHead) (P : Condition → Type 0) (parts : Conditions)
    (single quantified equal atom : Condition) (np ns nq ne nr na : List Fault)
    → Chosen h P parts single quantified equal atom np ns nq ne nr na
    → by_condition h np ns nq ne nr na ≡ [] → P (condition_by h parts single quantified equal atom)
by_head head.And P parts single quantified equal atom np ns nq ne nr na c n = c.all n
by_head head.Or P parts single quantified equal atom np ns nq ne nr na c n = c.any n
by_head head.Not P parts single quantified equal atom np ns nq ne nr na c n = c.negated n
by_head head.Exists P parts single quantified equal atom np ns nq ne nr na c n = c.exist n
by_head head.Equal P parts single quantified equal atom np ns nq ne nr na c n = c.equals
by_head head.Refused P parts single quantified equal atom np ns nq ne nr na c n = c.refused
by_head head.Atom P parts single quantified equal atom np ns nq ne nr na c n = c.atoms n

-- ---- what conditions mention

equal_mentions : (b : ℕ) (terms : List Term) → mentions b (equal_of terms) ≡ true → ⊥
equal_mentions b [] h = cc
equal_mentions b (s ∷ []) h = cc
equal_mentions b (s ∷ t ∷ ts) h = cc

module _ (v : Vocabulary) (from b : ℕ) where
  abbrev predicates : List (List ℕ)
  predicates = v.predicates.names

  atom_place : (scope : List (List ℕ)) (place : ℕ) (text : List ℕ) (at : ℕ) (rest : Trees)
      → application_names v.predicates v.objects scope place (word text at rest) ≡ []
      → (declared_place v.predicates text == b) ≡ true → table_place text predicates ≡ Some b
  atom_place scope place text at rest n same =
      let uses = use_names (arity_of v.predicates text) (width rest) at place in
      let found =
      place_used v.predicates (table_place text predicates)
      (width rest) at place (append_nil_first uses (terms_names v.objects scope rest) n) in
      found.1 ∙ ap Some (ap (λ o. unwrap_or o 0) (sym found.1) ∙ eqb-true (declared_place v.predicates text) b same)

  mutual
    conditions_reach : (scope : List (List ℕ)) (ts : Trees) → conditions_names v scope ts ≡ []
        → any_mentions b (conditions_of v scope ts) ≡ true → Reaches predicates from b ts
    conditions_reach scope nothing n h = absurd (cc)
    conditions_reach scope (word text at rest) n h = conditions_reach scope rest n h
    conditions_reach scope (list items at rest) n h =
        elim (or_cases (mentions b (condition_of v scope items)) (any_mentions b (conditions_of v scope rest)) h) [
          | inl e ↦ reaches_list predicates from b items at rest
              (condition_reaches scope at items (append_nil_first (condition_names v scope at items) (conditions_names v scope rest) n) e)
          | inr e ↦ reaches_behind predicates from b items at rest
              (conditions_reach scope rest (append_nil_second (condition_names v scope at items) (conditions_names v scope rest) n) e)
        ]

    condition_reaches : (scope : List (List ℕ)) (place : ℕ) (ts : Trees)
        → condition_names v scope place ts ≡ [] → mentions b (condition_of v scope ts) ≡ true
        → ReachesList predicates from b ts
    condition_reaches scope place nothing n h = absurd (cc)
    condition_reaches scope place (list items at rest) n h = absurd (cc)
    condition_reaches scope place (word text at rest) n h =
        by_head (condition_head_of text) (λ c. mentions b c ≡ true → ReachesList predicates from b (word text at rest))
        (conditions_of v scope rest) (single_of v scope rest) (exists_of v scope rest) (equal_of (terms_of v.objects scope rest))
        (Atom (declared_place v.predicates text) (terms_of v.objects scope rest))
        (conditions_names v scope rest) (conditions_names v scope rest) (exists_names v scope rest)
        (terms_names v.objects scope rest) [] (application_names v.predicates v.objects scope place (word text at rest))
        (record {
          all = λ m g. inr (conditions_reach scope rest m g);
          any = λ m g. inr (conditions_reach scope rest m g);
          negated = λ m g. inr (single_reaches scope rest m g);
          exist = λ m g. inr (exists_reaches scope rest m g);
          equals = λ g. absurd (equal_mentions b (terms_of v.objects scope rest) g);
          refused = λ g. absurd (cc);
          atoms = λ m g. inl (atom_place scope place text at rest m g);
        })
        n h

    single_reaches : (scope : List (List ℕ)) (ts : Trees) → conditions_names v scope ts ≡ []
        → mentions b (single_of v scope ts) ≡ true → Reaches predicates from b ts
    single_reaches scope nothing n h = absurd (cc)
    single_reaches scope (word text at rest) n h = absurd (cc)
    single_reaches scope (list items at rest) n h =
        reaches_list predicates from b items at rest
        (condition_reaches scope at items (append_nil_first (condition_names v scope at items) (conditions_names v scope rest) n) h)

    exists_reaches : (scope : List (List ℕ)) (ts : Trees) → exists_names v scope ts ≡ []
        → mentions b (exists_of v scope ts) ≡ true → Reaches predicates from b ts
    exists_reaches scope nothing n h = absurd (cc)
    exists_reaches scope (word text at rest) n h = absurd (cc)
    exists_reaches scope (list items at rest) n h =
        reaches_behind predicates from b items at rest
        (single_reaches (scope ++ named_words Start items) rest
        (append_nil_second (variables_names v.sorts (length scope) items)
        (conditions_names v (scope ++ named_words Start items) rest) n) h)

-- ---- the edges of a domain's items

no_edges_long : (ns : List (List ℕ)) → length (no_edges ns) ≡ length ns
no_edges_long [] = refl
no_edges_long (n ∷ ns) = ap suc (no_edges_long ns)

body_grows : (predicates edges : List (List ℕ)) (o : Option ℕ) (body : Trees)
    → Grows predicates edges (body_put predicates edges o body)
body_grows predicates edges None body = grows_none predicates edges
body_grows predicates edges (Some pred) body = mentions_grow predicates edges pred body

bodies_grow : (predicates edges : List (List ℕ)) (body : Trees)
    → Grows predicates edges (bodies_in predicates edges body)
bodies_grow predicates edges nothing = grows_none predicates edges
bodies_grow predicates edges (word w at rest) = bodies_grow predicates edges rest
bodies_grow predicates edges (list items at rest) =
    let put = body_put predicates edges (derived_place predicates items) (tail_of (tail_of items)) in
    grows_then predicates edges put (bodies_in predicates put rest)
    (body_grows predicates edges (derived_place predicates items) (tail_of (tail_of items))) (bodies_grow predicates put rest)

-- an item that heads the first predicate and mentions the second
abbrev rests : ℕ → ℕ → rule.Derived → Bool
rests a b r = (r.pred == a) && mentions b r.body

module _ (v : Vocabulary) (heads : List (List ℕ)) where
  abbrev table : List (List ℕ)
  table = v.predicates.names

  item_place : (items : Trees) (a : ℕ) → is_derived_item (item_of text.Domain (head_of items)) ≡ true
      → IsClean v heads (item_of text.Domain (head_of items)) (tail_of items)
      → ((rule_of v (tail_of items)).pred == a) ≡ true → derived_place table items ≡ Some a
  item_place items a e c same =
      let found = rule_there v (tail_of items) (derived_rule v heads (item_of text.Domain (head_of items)) (tail_of items) e c) in
      ap (λ b. if b then table_place (headed items) table else None) e ∙ found.1
      ∙ ap Some (sym (rule_pred v (tail_of items) found.0 found.1) ∙ eqb-true (rule_of v (tail_of items)).pred a same)

  placed_within : (items : Trees) (a : ℕ) → derived_place table items ≡ Some a → a < length table
  placed_within items a e =
      elim (is_derived_item (item_of text.Domain (head_of items))) as
      (λ b. (if b then table_place (headed items) table else None) ≡ Some a → a < length table) [
        | true ↦ λ f. place_within (headed items) table a f
        | false ↦ λ f. absurd (cc)
      ] e

  rule_leads : (edges : List (List ℕ)) (items : Trees) (a b : ℕ) → length edges ≡ length table
      → is_derived_item (item_of text.Domain (head_of items)) ≡ true
      → IsClean v heads (item_of text.Domain (head_of items)) (tail_of items)
      → rests a b (rule_of v (tail_of items)) ≡ true
      → has_edge (body_put table edges (derived_place table items) (tail_of (tail_of items))) a b ≡ true
  rule_leads edges items a b long e c h =
      let r = rule_of v (tail_of items) in
      let at : derived_place table items ≡ Some a = item_place items a e c (first_so (r.pred == a) (mentions b r.body) h) in
      let scope = named_words Start (tail_of (inner_of (tail_of items))) in
      let named = rule_body v (tail_of items) (derived_rule v heads (item_of text.Domain (head_of items)) (tail_of items) e c) in
      subst (λ o. has_edge (body_put table edges o (tail_of (tail_of items))) a b ≡ true) (sym at)
      (single_reaches v a b scope (tail_of (tail_of items)) named
      (second_so (r.pred == a) (mentions b r.body) h) edges (omega (arith, long, placed_within items a at)))

  rules_lead : (edges : List (List ℕ)) (body : Trees) (a b : ℕ) → length edges ≡ length table
      → AreClean v heads body → list_any (rests a b) (rules_of v body) ≡ true
      → has_edge (bodies_in table edges body) a b ≡ true
  rules_lead edges nothing a b long c h = absurd (cc)
  rules_lead edges (word w at rest) a b long c h = rules_lead edges rest a b long c h
  rules_lead edges (list items at rest) a b long c h =
      let it = item_of text.Domain (head_of items) in
      let put = body_put table edges (derived_place table items) (tail_of (tail_of items)) in
      let more = rules_lead put rest a b ((body_grows table edges (derived_place table items) (tail_of (tail_of items))).long ∙ long) c.1 in
      elim (is_derived_item it) as (λ d.
      is_derived_item it ≡ d → list_any (rests a b) ((if d then rule_of v (tail_of items) ∷ [] else []) ++ rules_of v rest) ≡ true
      → has_edge (bodies_in table put rest) a b ≡ true) [
        | true ↦ λ e g. elim (or_cases (rests a b (rule_of v (tail_of items))) (list_any (rests a b) (rules_of v rest)) g) [
          | inl f ↦ (bodies_grow table put rest).keeps a b (rule_leads edges items a b long e c.0 f)
          | inr f ↦ more f
        ]
        | false ↦ λ e g. more g
      ] refl h

  -- the predicate of an item is looked at
  rules_listed : (body : Trees) (a b : ℕ) → AreClean v heads body
      → list_any (rests a b) (rules_of v body) ≡ true
      → is_candidate (derived_in table body) a ≡ true
  rules_listed nothing a b c h = absurd (cc)
  rules_listed (word w at rest) a b c h = rules_listed rest a b c h
  rules_listed (list items at rest) a b c h =
      let it = item_of text.Domain (head_of items) in
      let own = derived_item (derived_place table items) at in
      let more : list_any (rests a b) (rules_of v rest) ≡ true → is_candidate (own ++ derived_in table rest) a ≡ true =
      λ f. any_append_right (λ (x : Candidate). x.node == a) own (derived_in table rest) (rules_listed rest a b c.1 f) in
      elim (is_derived_item it) as (λ d.
      is_derived_item it ≡ d → list_any (rests a b) ((if d then rule_of v (tail_of items) ∷ [] else []) ++ rules_of v rest) ≡ true
      → is_candidate (own ++ derived_in table rest) a ≡ true) [
        | true ↦ λ e g. elim (or_cases (rests a b (rule_of v (tail_of items))) (list_any (rests a b) (rules_of v rest)) g) [
          | inl f ↦
              let r = rule_of v (tail_of items) in
              let at_a : derived_place table items ≡ Some a = item_place items a e c.0 (first_so (r.pred == a) (mentions b r.body) f) in
              subst (λ o. is_candidate (derived_item o at ++ derived_in table rest) a ≡ true)
              (sym at_a) (or_left (a == a) (is_candidate (derived_in table rest) a) (eq-eqb a a refl))
          | inr f ↦ more f
        ]
        | false ↦ λ e g. more g
      ] refl h

pub rules_acyclic : (v : Vocabulary) (heads : List (List ℕ)) (d : domain.Domain) (body : Trees)
    → AreClean v heads body → d.derived ≡ rules_of v body
    → CycleFaults DerivedCycle (derived_edges v.predicates.names body) (derived_in v.predicates.names body) []
    → (pred : ℕ) (between : List ℕ) → ¬ (LeadsAlong (depends d) pred between pred)
rules_acyclic v heads d body clean rules acyclic pred between l =
    none_cyclic (derived_in v.predicates.names body) [] acyclic refl pred
    (listed between l) (record { between = between; steps = along pred between pred l })
  where
    rests_on : (a b : ℕ) → depends d a b ≡ true → list_any (rests a b) (rules_of v body) ≡ true
    rests_on a b h = subst (λ rs. list_any (rests a b) rs ≡ true) rules h

    step : (a b : ℕ) → depends d a b ≡ true
        → has_edge (derived_edges v.predicates.names body) a b ≡ true
    step a b h = rules_lead v heads (no_edges v.predicates.names) body a b (no_edges_long v.predicates.names) clean (rests_on a b h)

    along : (a : ℕ) (ms : List ℕ) (b : ℕ) → LeadsAlong (depends d) a ms b
        → LeadsAlong (has_edge (derived_edges v.predicates.names body)) a ms b
    along a [] b h = step a b h
    along a (m ∷ ms) b h = (step a m h.0, along m ms b h.1)

    listed : (ms : List ℕ) → LeadsAlong (depends d) pred ms pred
        → is_candidate (derived_in v.predicates.names body) pred ≡ true
    listed [] h = rules_listed v heads body pred pred clean (rests_on pred pred h)
    listed (m ∷ ms) h = rules_listed v heads body pred m clean (rests_on pred m h.0)
