-- The predicates that are listed are those that occur, and those on which others rest.
use Rattle.std.proofs.Common.{◌≡◌, ℕ, zero, suc, ◌+◌, ◌<◌, ◌==◌, Bool, true, false, ◌||◌, ◌&&◌, cond, List, [], ◌∷◌, ◌++◌, map, length, refl, sym, ap, ◌∙◌, subst, arith, slice_get, unwrap_or, Some, None, filter, nat_le, nat_lt, get_or, drop, ◌≤◌, inl, inr, ◌↔◌, eq-eqb, eqb-true}
use Rattle.std.proofs.lemmas.Bool.{and_from, or_cases, or_left, or_right}
use Rattle.std.proofs.lemmas.List.Folds.{list_all-append, list_any-append}
use Rattle.std.specs.Cmp.{first_so, second_so}
use Rattle.std.specs.List.{list_any, list_all}
use Rattle.formula_eval.proofs.ReadableLemmas.{has_place, roles_length}
use Rattle.lemmas.proofs.Bools.{and_false, from_or_false, not_both, or_false}
use Rattle.lemmas.proofs.ListTests.{all_at, any_found}
use Rattle.lemmas.specs.Lists.{LeadsAlong, has_number, numbers_from}
use Rattle.name_tables.specs.Graphs.{AreReached, has_edge}
use Rattle.plan_check.proofs.ReadableLemmas.{fit_action}
use Rattle.task_model.specs.Condition.{Condition, Conditions, Atom, Equal, All as every, Any, Not, Exists, none, more, parts_of}
use Rattle.task_model.specs.Fit.{IsFitDomain, any_mentions, are_fit_effects, are_fit_params, are_fit_patterns, depends, has_arity, is_fit_action, is_fit_condition, is_fit_item, is_fit_pattern, is_short, mentions, param_slots}
use Rattle.task_model.specs.declared.domain.Derived.{Derived}
use Rattle.task_model.specs.declared.domain.Domain.{Domain}
use Rattle.task_model.specs.declared.domain.Role.{Role}
use Rattle.task_model.specs.declared.domain.Role.TheVariants as role
use Rattle.task_model.specs.Roles.{is_changed, is_derived, role_of}
use Rattle.task_model.specs.declared.domain.Action.{Action}
use Rattle.task_model.specs.declared.domain.Pattern.{Pattern}
use Rattle.plan_deorder.specs.Occurring.{IsWay, all_occurring_in, below_in, occurring_in_body, fluents_of, is_fluent_role, occurring_in}
use Rattle.plan_deorder.specs.Touches.{ReadsAll, RestsOn, all_reads_in, any_inside, mentions_inside, reads_in}
use borrow.Author.Tests.{lt-ltb, ltb-true}

turned : (m n : ℕ) → (m == n) ≡ (n == m)
turned m n = by (m == n) refl (n == m) refl
  where
    by : (a : Bool) → (m == n) ≡ a → (b : Bool) → (n == m) ≡ b → a ≡ b
    by true e true f = refl
    by true e false f = absurd (not_both (n == m) (eq-eqb n m (sym (eqb-true m n e))) f)
    by false e true f = absurd (not_both (m == n) (eq-eqb m n (sym (eqb-true n m f))) e)
    by false e false f = refl

-- ---- in conditions

mutual
  pub occurs : (c : Condition) (p : ℕ) → has_number (occurring_in true c) p ≡ mentions p c
  occurs (Atom pred args) p = or_false (p == pred) ∙ turned p pred
  occurs (Equal s t) p = refl
  occurs (every parts) p = all_occur parts p
  occurs (Any parts) p = all_occur parts p
  occurs (Not part) p = occurs part p
  occurs (Exists first sorts body) p = occurs body p

  all_occur : (cs : Conditions) (p : ℕ) → has_number (all_occurring_in true cs) p ≡ any_mentions p cs
  all_occur none p = refl
  all_occur (more part parts) p =
      list_any-append (λ m. p == m) (occurring_in true part) (all_occurring_in true parts)
      ∙ (λ i. occurs part p i || all_occur parts p i)

mutual
  pub occurs_inside : (c : Condition) (p : ℕ) → has_number (occurring_in false c) p ≡ mentions_inside p c
  occurs_inside (Atom pred args) p = refl
  occurs_inside (Equal s t) p = refl
  occurs_inside (every parts) p = all_inside parts p
  occurs_inside (Any parts) p = all_inside parts p
  occurs_inside (Not part) p = occurs_inside part p
  occurs_inside (Exists first sorts body) p = occurs body p

  all_inside : (cs : Conditions) (p : ℕ) → has_number (all_occurring_in false cs) p ≡ any_inside p cs
  all_inside none p = refl
  all_inside (more part parts) p =
      list_any-append (λ m. p == m) (occurring_in false part) (all_occurring_in false parts)
      ∙ (λ i. occurs_inside part p i || all_inside parts p i)

-- ---- below a predicate

in_body : (d : Derived) (head p : ℕ) → has_number (occurring_in_body head d) p ≡ ((d.pred == head) && mentions p d.body)
in_body d head p = by (d.pred == head)
  where
    by : (b : Bool) → has_number (cond b (occurring_in true d.body) []) p ≡ (b && mentions p d.body)
    by true = occurs d.body p
    by false = refl

rests : (items : List Derived) (head p : ℕ)
    → has_number (below_in items head) p ≡ list_any (λ (d : Derived). (d.pred == head) && mentions p d.body) items
rests [] head p = refl
rests (d ∷ ds) head p =
    list_any-append (λ m. p == m) (occurring_in_body head d) (below_in ds head)
    ∙ (λ i. in_body d head p i || rests ds head p i)

-- what heads an item is a predicate of the domain
headed : (domain : Domain) (items : List Derived) → list_all (is_fit_item domain) items ≡ true → (head p : ℕ)
    → list_any (λ (d : Derived). (d.pred == head) && mentions p d.body) items ≡ true → head < length domain.predicates
headed domain [] fit head p e = absurd (cc)
headed domain (d ∷ ds) fit head p e =
    by (headed domain ds (second_so (is_fit_item domain d) (list_all (is_fit_item domain) ds) fit) head p) (d.pred == head) refl e
  where
    fits : is_fit_item domain d ≡ true
    fits = let both = fit in first_so (is_fit_item domain d) (list_all (is_fit_item domain) ds) both

    arity : has_arity domain.predicates d.pred (length d.params) ≡ true
    arity =
        let front = first_so (are_fit_params domain d.params && has_arity domain.predicates d.pred (length d.params)) _ fits in
        second_so (are_fit_params domain d.params) _ front

    by : (list_any (λ (x : Derived). (x.pred == head) && mentions p x.body) ds ≡ true → head < length domain.predicates)
        → (b : Bool) → (d.pred == head) ≡ b
        → ((b && mentions p d.body) || list_any (λ (x : Derived). (x.pred == head) && mentions p x.body) ds) ≡ true
        → head < length domain.predicates
    by rest true same e =
        subst (λ n. n < length domain.predicates) (eqb-true d.pred head same)
        (ltb-true d.pred (length domain.predicates) (has_place domain.predicates d.pred (length d.params) arity))
    by rest false other e = rest e

-- ---- edges

number_at : {A : Type 0} (f : ℕ → A) (first count k : ℕ) → k < count
    → slice_get (map f (numbers_from first count)) k ≡ Some (f (first + k))
number_at f first zero k h = absurd (omega arith)
number_at f first (suc count) zero h =
    let e : first ≡ first + 0 = omega arith in ap (λ n. Some (f n)) e
number_at f first (suc count) (suc k) h =
    let e : first + 1 + k ≡ first + suc k = omega arith in number_at f (first + 1) count k (omega arith) ∙ ap (λ n. Some (f n)) e

past : {A : Type 0} (f : ℕ → A) (first count k : ℕ) → (k < count → ⊥)
    → slice_get (map f (numbers_from first count)) k ≡ None
past f first zero k h = refl
past f first (suc count) zero h = absurd (h (omega arith))
past f first (suc count) (suc k) h = past f (first + 1) count k (λ l. h (omega (arith, l)))

abbrev pub edges_in : Domain → List (List ℕ)
edges_in domain = map (below_in domain.derived) (numbers_from 0 (length domain.predicates))

-- An edge leads from one predicate to another exactly where the one rests on the other in one step.
lead : (domain : Domain) → IsFitDomain domain → (a b : ℕ) → has_edge (edges_in domain) a b ≡ depends domain a b
lead domain fit a b =
    elim (nat_lt a size) as (λ t. nat_lt a size ≡ t → has_edge (edges_in domain) a b ≡ depends domain a b) [
      | true ↦ λ e. inside (ltb-true a size e)
      | false ↦ λ e. outside (λ l. not_both (nat_lt a size) (lt-ltb a size l) e)
    ] refl
  where
    size : ℕ
    size = length domain.predicates

    inside : a < size → has_edge (edges_in domain) a b ≡ depends domain a b
    inside h =
        let zeros : 0 + a ≡ a = omega arith in
        ap (λ o. has_number (unwrap_or o []) b)
        (number_at (below_in domain.derived) 0 size a h ∙ ap (λ n. Some (below_in domain.derived n)) zeros)
        ∙ rests domain.derived a b

    none : (a < size → ⊥) → (t : Bool) → depends domain a b ≡ t → false ≡ t
    none h true e = absurd (h (headed domain domain.derived (second_so (is_short domain.derived) _ fit.items) a b e))
    none h false e = refl

    outside : (a < size → ⊥) → has_edge (edges_in domain) a b ≡ depends domain a b
    outside h =
        ap (λ o. has_number (unwrap_or o []) b) (past (below_in domain.derived) 0 size a h)
        ∙ none h (depends domain a b) refl

along : (f g : ℕ → ℕ → Bool) → ((a b : ℕ) → f a b ≡ g a b) → (from : ℕ) (between : List ℕ) (to : ℕ)
    → LeadsAlong f from between to → LeadsAlong g from between to
along f g same from [] to w = sym (same from to) ∙ w
along f g same from (n ∷ ns) to w = (sym (same from n) ∙ w.0, along f g same n ns to w.1)

-- ---- those that are read whole

filtered : (q : ℕ → Bool) (xs : List ℕ) (p : ℕ) → has_number (filter q xs) p ≡ (q p && has_number xs p)
filtered q [] p = sym (and_false (q p))
filtered q (m ∷ ms) p = by (filtered q ms p) (q m) refl (p == m) refl
  where
    by : has_number (filter q ms) p ≡ (q p && has_number ms p) → (b : Bool) → q m ≡ b → (t : Bool) → (p == m) ≡ t
        → has_number (cond b (m ∷ filter q ms) (filter q ms)) p ≡ (q p && (t || has_number ms p))
    by rest true passes true same =
        let here : q p ≡ true = ap q (eqb-true p m same) ∙ passes in
        (λ i. same i || has_number (filter q ms) p) ∙ sym (λ i. here i && true)
    by rest true passes false other = (λ i. other i || has_number (filter q ms) p) ∙ rest
    by rest false fails true same =
        let here : q p ≡ false = ap q (eqb-true p m same) ∙ fails in
        rest ∙ (λ i. here i && has_number ms p) ∙ sym (λ i. here i && true)
    by rest false fails false other = rest

fluent : (r : Role) → is_fluent_role r ≡ true → r ≡ role.Fluent
fluent role.Static e = absurd (cc)
fluent role.Fluent e = refl
fluent role.Derived e = absurd (cc)

-- the fluents among what is reached and what stands inside an `exists` are those read whole
pub whole_are : (domain : Domain) → IsFitDomain domain → (c : Condition) (reached : List ℕ)
    → ((p : ℕ) → (has_number reached p ≡ true) ↔ IsWay (edges_in domain) (occurring_in true c) p)
    → (p : ℕ) → (has_number (fluents_of domain (reached ++ occurring_in false c)) p ≡ true) ↔ ReadsAll domain c p
whole_are domain fit c reached ways p = (from, to)
  where
    q : ℕ → Bool
    q n = is_fluent_role (role_of domain n)

    whole : has_number (fluents_of domain (reached ++ occurring_in false c)) p
        ≡ (q p && (has_number reached p || has_number (occurring_in false c) p))
    whole =
        filtered q (reached ++ occurring_in false c) p
        ∙ ap (λ b. q p && b) (list_any-append (λ m. p == m) reached (occurring_in false c))

    rest : IsWay (edges_in domain) (occurring_in true c) p → RestsOn domain c p
    rest w = record {
      derived = w.start;
      there = sym (occurs c w.start) ∙ w.begins;
      between = w.way.between;
      way = along (has_edge (edges_in domain)) (depends domain) (lead domain fit) w.start w.way.between p w.way.steps;
    }

    back : RestsOn domain c p → IsWay (edges_in domain) (occurring_in true c) p
    back r = record {
      start = r.derived;
      begins = occurs c r.derived ∙ r.there;
      way = record {
        between = r.between;
        steps = along (depends domain) (has_edge (edges_in domain)) (λ a b. sym (lead domain fit a b)) r.derived r.between p r.way;
      };
    }

    from : has_number (fluents_of domain (reached ++ occurring_in false c)) p ≡ true → ReadsAll domain c p
    from e =
        let both = sym whole ∙ e in
        record {
          fluent = fluent (role_of domain p) (first_so (q p) (has_number reached p || has_number (occurring_in false c) p) both);
          why = elim (or_cases (has_number reached p) (has_number (occurring_in false c) p)
              (second_so (q p) (has_number reached p || has_number (occurring_in false c) p) both)) [
                | inl far ↦ inr (rest ((ways p).0 far))
                | inr inside ↦ inl (sym (occurs_inside c p) ∙ inside)
              ];
        }

    to : ReadsAll domain c p → has_number (fluents_of domain (reached ++ occurring_in false c)) p ≡ true
    to r =
        whole ∙ and_from (q p) (has_number reached p || has_number (occurring_in false c) p) (ap is_fluent_role r.fluent)
        (elim r.why [
          | inl inside ↦ or_right (has_number reached p) (has_number (occurring_in false c) p) (occurs_inside c p ∙ inside)
          | inr far ↦ or_left (has_number reached p) (has_number (occurring_in false c) p) ((ways p).1 (back far))
        ])

-- ---- what the code finds, step by step

pub drop_occurring : (outside : Bool) (cs : List Condition) (i : ℕ) (c : Condition) → i < length cs → c ≡ get_or cs i c
    → all_occurring_in outside (parts_of (drop i cs)) ≡ occurring_in outside c ++ all_occurring_in outside (parts_of (drop (suc i) cs))
drop_occurring outside [] i c h e = absurd (omega arith)
drop_occurring outside (x ∷ xs) zero c h e =
    ap (λ y. occurring_in outside y ++ all_occurring_in outside (parts_of xs)) (sym e)
drop_occurring outside (x ∷ xs) (suc i) c h e = drop_occurring outside xs i c (omega arith) e

pub drop_reads : (domain : Domain) (slots : List ℕ) (cs : List Condition) (i : ℕ) (c : Condition) → i < length cs
    → c ≡ get_or cs i c
    → all_reads_in domain slots (parts_of (drop i cs)) ≡ reads_in domain slots c ++ all_reads_in domain slots (parts_of (drop (suc i) cs))
drop_reads domain slots [] i c h e = absurd (omega arith)
drop_reads domain slots (x ∷ xs) zero c h e =
    ap (λ y. reads_in domain slots y ++ all_reads_in domain slots (parts_of xs)) (sym e)
drop_reads domain slots (x ∷ xs) (suc i) c h e = drop_reads domain slots xs i c (omega arith) e

pub more_ways : (edges : List (List ℕ)) (starts : List ℕ) (start : ℕ) (reached others : List ℕ)
    → ((p : ℕ) → (has_number reached p ≡ true) ↔ IsWay edges starts p) → AreReached edges start others
    → (p : ℕ) → (has_number (reached ++ others) p ≡ true) ↔ IsWay edges (starts ++ start ∷ []) p
more_ways edges starts start reached others ways are p = (from, to)
  where
    grown : (s : ℕ) → has_number (starts ++ start ∷ []) s ≡ (has_number starts s || ((s == start) || false))
    grown s = list_any-append (λ m. s == m) starts (start ∷ [])

    from : has_number (reached ++ others) p ≡ true → IsWay edges (starts ++ start ∷ []) p
    from e =
        elim (or_cases (has_number reached p) (has_number others p) (sym (list_any-append (λ m. p == m) reached others) ∙ e)) [
          | inl before ↦
              let w = (ways p).0 before in
              record {
                start = w.start;
                begins = grown w.start ∙ or_left (has_number starts w.start) ((w.start == start) || false) w.begins;
                way = w.way;
              }
          | inr new ↦ record {
            start = start;
            begins = grown start ∙ or_right (has_number starts start) ((start == start) || false)
                (or_left (start == start) false (eq-eqb start start refl));
            way = are.only p new;
          }
        ]

    to : IsWay edges (starts ++ start ∷ []) p → has_number (reached ++ others) p ≡ true
    to w =
        list_any-append (λ m. p == m) reached others
        ∙ elim (or_cases (has_number starts w.start) ((w.start == start) || false) (sym (grown w.start) ∙ w.begins)) [
          | inl before ↦ or_left (has_number reached p) (has_number others p)
              ((ways p).1 (record { start = w.start; begins = before; way = w.way }))
          | inr new ↦
              let same = eqb-true w.start start (from_or_false (w.start == start) new) in
              or_right (has_number reached p) (has_number others p)
              (are.all p w.way.between (subst (λ s. LeadsAlong (has_edge edges) s w.way.between p) same w.way.steps))
        ]

-- ---- roles

-- what an effect changes is a predicate of the domain
changed_within : (domain : Domain) → IsFitDomain domain → (p : ℕ) → is_changed domain p ≡ true → p < length domain.predicates
changed_within domain fit p e =
    let found = any_found (λ (a : Action). list_any (λ (q : Pattern). q.pred == p) (a.adds ++ a.deletes)) domain.actions e in
    let a = found.1 in
    let fits : is_fit_action domain a ≡ true = fit_action domain fit found.0 a found.2 in
    let pattern = any_found (λ (q : Pattern). q.pred == p) (a.adds ++ a.deletes) found.3 in
    let q = pattern.1 in
    let both = list_all-append (is_fit_pattern domain (length domain.constants) (param_slots a)) a.adds a.deletes in
    let all = all_at (is_fit_pattern domain (length domain.constants) (param_slots a)) (a.adds ++ a.deletes) pattern.0 q
    (both ∙ patterns_fit domain a fits) pattern.2 in
    subst (λ n. n < length domain.predicates) (eqb-true q.pred p pattern.3)
    (ltb-true q.pred (length domain.predicates) (has_place domain.predicates q.pred (length q.args)
    (first_so (has_arity domain.predicates q.pred (length q.args)) _ all)))
  where
    patterns_fit : (domain : Domain) (a : Action) → is_fit_action domain a ≡ true
        → (list_all (is_fit_pattern domain (length domain.constants) (param_slots a)) a.adds
        && list_all (is_fit_pattern domain (length domain.constants) (param_slots a)) a.deletes) ≡ true
    patterns_fit domain a e =
        let slots = param_slots a in
        let p1 = are_fit_params domain a.params in
        let p2 = is_fit_condition domain (length domain.constants) slots a.condition in
        let p3 = are_fit_effects domain slots a.adds in
        let p4 = are_fit_effects domain slots a.deletes in
        let p5 = nat_le (length a.costs) 262144 in
        let e4 = first_so (p1 && p2 && p3 && p4) p5 (first_so (p1 && p2 && p3 && p4 && p5) _ e) in
        let adds = second_so (p1 && p2) p3 (first_so (p1 && p2 && p3) p4 e4) in
        let deletes = second_so (p1 && p2 && p3) p4 e4 in
        and_from _ _ (second_so (is_short a.adds) _ (first_so (are_fit_patterns domain (length domain.constants) slots a.adds) _ adds))
        (second_so (is_short a.deletes) _ (first_so (are_fit_patterns domain (length domain.constants) slots a.deletes) _ deletes))

fluent_changed : (domain : Domain) (p : ℕ) → is_fluent_role (role_of domain p) ≡ true → is_changed domain p ≡ true
unfolding role_of
fluent_changed domain p e = by (is_derived domain p) (is_changed domain p) e
  where
    by : (b c : Bool) → is_fluent_role (cond b role.Derived (cond c role.Fluent role.Static)) ≡ true → c ≡ true
    by true c e = absurd (cc)
    by false true e = refl
    by false false e = absurd (cc)

-- what is no place of the roles is no fluent
pub not_fluent : (domain : Domain) → IsFitDomain domain → (p : ℕ) → length domain.roles ≤ p
    → false ≡ is_fluent_role (role_of domain p)
not_fluent domain fit p h = by (is_fluent_role (role_of domain p)) refl
  where
    by : (b : Bool) → is_fluent_role (role_of domain p) ≡ b → false ≡ b
    by true e =
        let within = changed_within domain fit p (fluent_changed domain p e) in
        absurd (omega (arith, within, h, roles_length domain fit))
    by false e = refl
