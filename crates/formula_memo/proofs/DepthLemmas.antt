-- In a fit task a deeper limit on derived predicates changes no truth: none depends on itself, so on no way from one to
-- another are there more of them than items.
use Rattle.std.proofs.Common.{◌≡◌, ℕ, zero, suc, ◌+◌, ◌*◌, ◌<◌, ◌≤◌, Bool, true, false, cond, ◌&&◌, ◌||◌, ◌==◌, not, List, [], ◌∷◌, length, map, get_or, refl, sym, ap, ◌∙◌, subst, arith, Contains, inl, inr, eqb-true, eq-eqb}
use Rattle.std.proofs.lemmas.Bool.{both_ways, or_left, or_right, and_from}
use Rattle.std.proofs.lemmas.List.{length-map}
use Rattle.std.specs.Cmp.{first_so}
use Rattle.std.specs.List.{list_any}
use Rattle.lemmas.proofs.Ascending.{contains_none, contains_here, contains_later, contains_cases}
use Rattle.lemmas.proofs.Distinct.{distinct_cons}
use Rattle.lemmas.proofs.Members.{distinct_nil}
use Rattle.lemmas.proofs.Pigeonhole.{pigeons}
use Rattle.lemmas.proofs.Walks.{Way, join}
use Rattle.lemmas.specs.Lists.{AreDistinct}
use Rattle.task_model.specs.Condition.{Condition, Conditions, Atom, Equal, All as every, Any, Not, Exists, none, more, parts_of}
use Rattle.task_model.specs.Fit.{IsFitDomain, mentions, any_mentions, depends}
use Rattle.task_model.specs.Known.{Known, objects_of}
use Rattle.task_model.specs.Roles.{role_of, is_derived, is_changed}
use Rattle.task_model.specs.State.{Atoms}
use Rattle.task_model.specs.Truth.{truth, all_true, any_true, some_tuple, atom_as, atom_at, is_true, have_types, slots_of, objects_at}
use Rattle.task_model.specs.declared.condition.Term.{Term}
use Rattle.task_model.specs.declared.domain.Derived.{Derived}
use Rattle.task_model.specs.declared.domain.Domain.{Domain}
use Rattle.task_model.specs.declared.domain.Role.{Role}
use Rattle.task_model.specs.declared.domain.Role.TheVariants as role
use Rattle.formula_eval.specs.Judged.{derived_at}
use Rattle.formula_eval.proofs.ReadableLemmas.{derived_below}
use Rattle.formula_memo.specs.Rests.{RestsWithin, AllRest, PartsRest}

-- ---- tests of some

any_same : {A : Type 0} (f g : A → Bool) (xs : List A)
    → ((x : A) → Contains xs x → f x ≡ g x) → list_any f xs ≡ list_any g xs
any_same f g [] same = refl
any_same f g (x ∷ xs) same =
    λ i. same x (contains_here x xs) i || any_same f g xs (λ y c. same y (contains_later x xs y c)) i

any_of : {A : Type 0} (f : A → Bool) (xs : List A) (x : A) → Contains xs x → f x ≡ true
    → list_any f xs ≡ true
any_of f [] x c e = absurd (contains_none x c)
any_of f (y ∷ ys) x c e =
    elim (contains_cases y ys x c) [
      | inl same ↦ or_left (f y) (list_any f ys) (ap f same ∙ e)
      | inr later ↦ or_right (f y) (list_any f ys) (any_of f ys x later e)
    ]

any_first : {A : Type 0} (f g : A → Bool) (xs : List A) → list_any (λ x. f x && g x) xs ≡ true
    → list_any f xs ≡ true
any_first f g [] e = absurd (cc)
any_first f g (x ∷ xs) e =
    elim (f x && g x) as (λ b. (f x && g x) ≡ b → (b || list_any (λ y. f y && g y) xs) ≡ true → (f x || list_any f xs) ≡ true) [
      | true ↦ λ both _. or_left (f x) (list_any f xs) (first_so (f x) (g x) both)
      | false ↦ λ _ rest. or_right (f x) (list_any f xs) (any_first f g xs rest)
    ] refl e

-- ---- truth rests on the predicates that are mentioned

module _ (f g : ℕ → List ℕ → Bool) (objects : ℕ → List ℕ) where
  mutual
    same_truth : (c : Condition)
        → ((pred : ℕ) → mentions pred c ≡ true → (args : List ℕ) → f pred args ≡ g pred args)
        → (slots : List ℕ) → truth f objects c slots ≡ truth g objects c slots
    same_truth (Atom pred args) same slots = same pred (eq-eqb pred pred refl) (objects_at slots args)
    same_truth (Equal s t) same slots = refl
    same_truth (every parts) same slots = all_same parts same slots
    same_truth (Any parts) same slots = some_same parts same slots
    same_truth (Not part) same slots = λ i. not (same_truth part same slots i)
    same_truth (Exists first sorts body) same slots =
        λ i. some_tuple objects (λ s. same_truth body same s i) first sorts slots

    all_same : (cs : Conditions)
        → ((pred : ℕ) → any_mentions pred cs ≡ true → (args : List ℕ) → f pred args ≡ g pred args)
        → (slots : List ℕ) → all_true f objects cs slots ≡ all_true g objects cs slots
    all_same none same slots = refl
    all_same (more part parts) same slots =
        λ i. same_truth part (λ p m. same p (or_left (mentions p part) (any_mentions p parts) m)) slots i
        && all_same parts (λ p m. same p (or_right (mentions p part) (any_mentions p parts) m)) slots i

    some_same : (cs : Conditions)
        → ((pred : ℕ) → any_mentions pred cs ≡ true → (args : List ℕ) → f pred args ≡ g pred args)
        → (slots : List ℕ) → any_true f objects cs slots ≡ any_true g objects cs slots
    some_same none same slots = refl
    some_same (more part parts) same slots =
        λ i. same_truth part (λ p m. same p (or_left (mentions p part) (any_mentions p parts) m)) slots i
        || some_same parts (λ p m. same p (or_right (mentions p part) (any_mentions p parts) m)) slots i

-- ---- what rests within a depth

derived_head : (domain : Domain) (pred : ℕ) → role_of domain pred ≡ role.Derived
    → is_derived domain pred ≡ true
unfolding role_of
derived_head domain pred e =
    elim (is_derived domain pred) as
    (λ b. cond b role.Derived (cond (is_changed domain pred) role.Fluent role.Static) ≡ role.Derived → b ≡ true) [
      | true ↦ λ _. refl
      | false ↦ λ d.
          elim (is_changed domain pred) as (λ b. cond b role.Fluent role.Static ≡ role.Derived → false ≡ true) [
            | true ↦ λ c. absurd (cc)
            | false ↦ λ c. absurd (cc)
          ] d
    ] e

-- a predicate that rests on nothing isn't derived
pub not_derived : (domain : Domain) (pred : ℕ) → RestsWithin domain 0 pred
    → role_of domain pred ≡ role.Derived → ⊥
unfolding RestsWithin
not_derived domain pred rests e =
    both_ways (is_derived domain pred) rests (derived_head domain pred e)

-- what an item of the predicate has in its body rests less deep
pub body_rests : (domain : Domain) (depth pred : ℕ) (d : Derived)
    → RestsWithin domain (suc depth) pred
    → Contains domain.derived d → (d.pred == pred) ≡ true → AllRest domain depth d.body
unfolding RestsWithin
body_rests domain depth pred d rests there heads = record {
  each = λ next m. rests next (any_of (λ (x : Derived). (x.pred == pred) && mentions next x.body) domain.derived d there
      (and_from (d.pred == pred) (mentions next d.body) heads m));
}

module _ (domain : Domain) (known : Known) (state : Atoms) where
  same_bodies : (d e pred : ℕ) (args : List ℕ) → RestsWithin domain (suc d) pred
      → ((next : ℕ) → RestsWithin domain d next → (objects : List ℕ)
      → atom_at domain known state d next objects ≡ atom_at domain known state e next objects)
      → atom_as domain known state (suc d) role.Derived pred args ≡ atom_as domain known state (suc e) role.Derived pred args
  same_bodies d e pred args rests below =
      any_same _ _ domain.derived (λ item there. by item there (item.pred == pred) refl)
    where
      body : ℕ → Derived → Bool
      body n item =
          have_types known args item.params
          && truth (λ p objects. atom_as domain known state n (role_of domain p) p objects)
          (objects_of known.facts) item.body (slots_of args)

      by : (item : Derived) → Contains domain.derived item → (b : Bool) → (item.pred == pred) ≡ b
          → (b && have_types known args item.params
          && truth (λ p objects. atom_as domain known state d (role_of domain p) p objects)
          (objects_of known.facts) item.body (slots_of args))
          ≡ (b && have_types known args item.params
          && truth (λ p objects. atom_as domain known state e (role_of domain p) p objects)
          (objects_of known.facts) item.body (slots_of args))
      by item there true heads =
          ap (λ b. have_types known args item.params && b)
          (same_truth _ _ (objects_of known.facts) item.body
          (λ p m objects. below p ((body_rests domain d pred item rests there heads).each p m) objects) (slots_of args))
      by item there false heads = refl

  at_none : (e pred : ℕ) (args : List ℕ) (r : Role) → role_of domain pred ≡ r → RestsWithin domain 0 pred
      → atom_as domain known state 0 r pred args ≡ atom_as domain known state e r pred args
  at_none zero pred args role.Static is rests = refl
  at_none (suc e) pred args role.Static is rests = refl
  at_none zero pred args role.Fluent is rests = refl
  at_none (suc e) pred args role.Fluent is rests = refl
  at_none e pred args role.Derived is rests = absurd (not_derived domain pred rests is)

  by_role : (d e pred : ℕ) (args : List ℕ) (r : Role) → RestsWithin domain (suc d) pred
      → ((next : ℕ) → RestsWithin domain d next → (objects : List ℕ)
      → atom_at domain known state d next objects ≡ atom_at domain known state e next objects)
      → atom_as domain known state (suc d) r pred args ≡ atom_as domain known state (suc e) r pred args
  by_role d e pred args role.Static rests below = refl
  by_role d e pred args role.Fluent rests below = refl
  by_role d e pred args role.Derived rests below = same_bodies d e pred args rests below

  -- a depth within which the predicate rests is enough
  pub deep_enough : (d e pred : ℕ) (args : List ℕ) → d ≤ e → RestsWithin domain d pred
      → atom_at domain known state d pred args ≡ atom_at domain known state e pred args
  deep_enough zero e pred args le rests = at_none e pred args (role_of domain pred) refl rests
  deep_enough (suc d) zero pred args le rests = absurd (omega (arith, le))
  deep_enough (suc d) (suc e) pred args le rests =
      by_role d e pred args (role_of domain pred) rests
      (λ next less objects. deep_enough d e next objects (omega (arith, le)) less)

-- ---- ways without repetition

heads : Domain → List ℕ
heads domain = map (λ (d : Derived). d.pred) domain.derived

head_there : (ds : List Derived) (pred : ℕ) → list_any (λ (d : Derived). d.pred == pred) ds ≡ true
    → Contains (map (λ (d : Derived). d.pred) ds) pred
head_there [] pred e = absurd (cc)
head_there (d ∷ ds) pred e =
    elim (d.pred == pred) as (λ b. (d.pred == pred) ≡ b → (b || list_any (λ (x : Derived). x.pred == pred) ds) ≡ true
    → Contains (d.pred ∷ map (λ (x : Derived). x.pred) ds) pred) [
      | true ↦ λ same _. subst (λ n. Contains (n ∷ map (λ (x : Derived). x.pred) ds) pred) (sym (eqb-true d.pred pred same))
          (contains_here pred (map (λ (x : Derived). x.pred) ds))
      | false ↦ λ _ rest. contains_later d.pred (map (λ (x : Derived). x.pred) ds) pred (head_there ds pred rest)
    ] refl e

module _ (domain : Domain) (fit : IsFitDomain domain) where
  -- these were met on the way to the predicate
  record IsMet (met : List ℕ) (pred : ℕ) : Type 0 where
    pub distinct : AreDistinct met
    pub derived : (n : ℕ) → Contains met n → is_derived domain n ≡ true
    pub ways : (n : ℕ) → Contains met n → Way (depends domain) n pred

  fresh : (met : List ℕ) (pred : ℕ) → IsMet met pred → Contains met pred → ⊥
  fresh met pred is there = let way = is.ways pred there in fit.acyclic pred way.0 way.1

  next_met : (met : List ℕ) (pred next : ℕ) → IsMet met pred → depends domain pred next ≡ true
      → IsMet (pred ∷ met) next
  next_met met pred next is leads = record {
    distinct = distinct_cons pred met is.distinct (fresh met pred is);
    derived = λ n there.
        elim (contains_cases pred met n there) [
          | inl same ↦ subst (λ m. is_derived domain m ≡ true) same
              (any_first (λ (d : Derived). d.pred == pred) (λ (d : Derived). mentions next d.body) domain.derived leads)
          | inr later ↦ is.derived n later
        ];
    ways = λ n there.
        elim (contains_cases pred met n there) [
          | inl same ↦ subst (λ m. Way (depends domain) m next) same ([], leads)
          | inr later ↦ join (depends domain) n pred next (is.ways n later) ([], leads)
        ];
  }

  few_met : (met : List ℕ) → AreDistinct met
      → ((n : ℕ) → Contains met n → is_derived domain n ≡ true) → length met ≤ length domain.derived
  few_met met distinct derived =
      subst (λ n. length met ≤ n) (length-map domain.derived (λ (d : Derived). d.pred))
      (pigeons met (map (λ (d : Derived). d.pred) domain.derived) distinct
      (λ n there. head_there domain.derived n (derived n there)))

  rests_from : (depth : ℕ) (met : List ℕ) (pred : ℕ) → IsMet met pred
      → length domain.derived ≤ length met + depth
      → RestsWithin domain depth pred
  unfolding RestsWithin
  rests_from zero met pred is enough =
      elim (is_derived domain pred) as (λ b. is_derived domain pred ≡ b → b ≡ false) [
        | true ↦ λ e.
            let all = few_met (pred ∷ met) (distinct_cons pred met is.distinct (fresh met pred is)) (λ n there.
            elim (contains_cases pred met n there) [
              | inl same ↦ subst (λ m. is_derived domain m ≡ true) same e
              | inr later ↦ is.derived n later
            ]) in
            absurd (omega (arith, all, enough))
        | false ↦ λ e. refl
      ] refl
  rests_from (suc depth) met pred is enough =
      λ next leads. rests_from depth (pred ∷ met) next (next_met met pred next is leads) (omega (arith, enough))

  -- as deep as there are items is deep enough
  pub items_deep : (depth pred : ℕ) → length domain.derived ≤ depth → RestsWithin domain depth pred
  items_deep depth pred enough =
      rests_from depth [] pred (record {
        distinct = distinct_nil;
        derived = λ n there. absurd (contains_none n there);
        ways = λ n there. absurd (contains_none n there);
      }) (omega (arith, enough))

  -- a limit that is deeper changes no atom, and so no condition
  pub deeper_atom : (known : Known) (state : Atoms) (depth pred : ℕ) (args : List ℕ)
      → length domain.derived ≤ depth
      → atom_at domain known state (length domain.derived) pred args ≡ atom_at domain known state depth pred args
  deeper_atom known state depth pred args enough =
      deep_enough domain known state (length domain.derived) depth pred args enough
      (items_deep (length domain.derived) pred (omega arith))

  pub deeper_truth : (known : Known) (state : Atoms) (depth : ℕ) (c : Condition) (slots : List ℕ)
      → length domain.derived ≤ depth
      → is_true domain known state c slots ≡ truth (atom_at domain known state depth) (objects_of known.facts) c slots
  deeper_truth known state depth c slots enough =
      same_truth _ _ (objects_of known.facts) c (λ pred m args. deeper_atom known state depth pred args enough) slots

-- ---- parts

pub first_rests : (domain : Domain) (depth : ℕ) (part : Condition) (parts : Conditions)
    → PartsRest domain depth (more part parts) → AllRest domain depth part
first_rests domain depth part parts rests = record {
  each = λ pred m. rests.each pred (or_left (mentions pred part) (any_mentions pred parts) m);
}

pub others_rest : (domain : Domain) (depth : ℕ) (part : Condition) (parts : Conditions)
    → PartsRest domain depth (more part parts) → PartsRest domain depth parts
others_rest domain depth part parts rests = record {
  each = λ pred m. rests.each pred (or_right (mentions pred part) (any_mentions pred parts) m);
}

pub part_rests : (domain : Domain) (depth : ℕ) (cs : List Condition) (i : ℕ) (c : Condition)
    → PartsRest domain depth (parts_of cs) → i < length cs → c ≡ get_or cs i c → AllRest domain depth c
part_rests domain depth [] i c rests h e = absurd (omega arith)
part_rests domain depth (x ∷ xs) zero c rests h e =
    subst (AllRest domain depth) (sym e) (first_rests domain depth x (parts_of xs) rests)
part_rests domain depth (x ∷ xs) (suc i) c rests h e =
    part_rests domain depth xs i c (others_rest domain depth x (parts_of xs) rests) (omega arith) e

-- ---- conditions, by what they are made of

module _ (domain : Domain) (depth : ℕ) where
  pub atom_rests : (pred : ℕ) (args : List Term) → AllRest domain depth (Atom pred args)
      → RestsWithin domain depth pred
  atom_rests pred args rests = rests.each pred (eq-eqb pred pred refl)

  pub all_rest : (parts : Conditions) → AllRest domain depth (every parts) → PartsRest domain depth parts
  all_rest parts rests = record { each = λ pred m. rests.each pred m }

  pub any_rest : (parts : Conditions) → AllRest domain depth (Any parts) → PartsRest domain depth parts
  any_rest parts rests = record { each = λ pred m. rests.each pred m }

  pub not_rests : (part : Condition) → AllRest domain depth (Not part) → AllRest domain depth part
  not_rests part rests = record { each = λ pred m. rests.each pred m }

  pub exists_rests : (first : ℕ) (sorts : List ℕ) (body : Condition)
      → AllRest domain depth (Exists first sorts body) → AllRest domain depth body
  exists_rests first sorts body rests = record { each = λ pred m. rests.each pred m }

-- all conditions of a fit task
pub condition_rests : (domain : Domain) → IsFitDomain domain → (depth : ℕ) (c : Condition)
    → length domain.derived ≤ depth → AllRest domain depth c
condition_rests domain fit depth c enough = record { each = λ pred m. items_deep domain fit depth pred enough }

-- what follows by an item is true
pub derived_truth : (domain : Domain) (fit : IsFitDomain domain) (known : Known) (state : Atoms)
    (pred : ℕ) (args : List ℕ)
    → role_of domain pred ≡ role.Derived
    → derived_at domain known state (length domain.derived) pred args
    ≡ atom_at domain known state (length domain.derived) pred args
derived_truth domain fit known state pred args is =
    sym (derived_below domain known state pred args (suc (length domain.derived)) (length domain.derived) is refl)
    ∙ sym (deeper_atom domain fit known state (suc (length domain.derived)) pred args (omega arith))

pub deeper_heavier : (depth below weight : ℕ) → depth ≡ suc below
    → depth * weight ≡ below * weight + weight
deeper_heavier depth below weight e = ap (λ d. d * weight) e ∙ omega arith
