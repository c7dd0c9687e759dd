-- Steady conditions stay true as more atoms of fluents become true.
use Rattle.std.proofs.Common.{◌≡◌, ℕ, zero, suc, ◌+◌, List, [], ◌∷◌, length, Bool, true, false, not, ◌&&◌, ◌||◌, ◌==◌, refl, ap, ◌∙◌, subst, slice_set, eqb-true}
use Rattle.std.proofs.lemmas.Bool.{and_from, false≢true, or_left, or_right}
use Rattle.std.specs.Cmp.{first_so, second_so}
use Rattle.std.specs.List.{list_all, list_any}
use Rattle.task_model.specs.Condition.{Condition, Conditions, Atom, Equal, All as every, Any, Not, Exists, none, more}
use Rattle.task_model.specs.Known.{Known, objects_of}
use Rattle.task_model.specs.Roles.{role_of}
use Rattle.task_model.specs.State.{Atoms}
use Rattle.task_model.specs.Truth.{atom_as, all_true, any_true, have_types, is_true, objects_at, slots_of, some_tuple, truth}
use Rattle.task_model.specs.declared.domain.Derived.{Derived}
use Rattle.task_model.specs.declared.domain.Domain.{Domain}
use Rattle.task_model.specs.declared.domain.Role.{Role}
use Rattle.task_model.specs.declared.domain.Role.TheVariants as role
use Rattle.best_first.specs.Reach.{IsWithin}
use Rattle.best_first.specs.Steady.{are_steady, has_steady_items, is_marked, is_steady, is_steady_atom, is_steady_item}

-- ---- tests that grow

pub and_grows : (a b c d : Bool) → (a ≡ true → c ≡ true) → (b ≡ true → d ≡ true) → (a && b) ≡ true → (c && d) ≡ true
and_grows a b c d f g h = and_from c d (f (first_so a b h)) (g (second_so a b h))

or_grows : (a b c d : Bool) → (a ≡ true → c ≡ true) → (b ≡ true → d ≡ true) → (a || b) ≡ true → (c || d) ≡ true
or_grows true b c d f g h = or_left c d (f refl)
or_grows false b c d f g h = or_right c d (g h)

any_grows : {A : Type 0} (p q : A → Bool) → ((x : A) → p x ≡ true → q x ≡ true) → (xs : List A)
    → list_any p xs ≡ true → list_any q xs ≡ true
any_grows p q f [] h = h
any_grows p q f (x ∷ xs) h = or_grows (p x) (list_any p xs) (q x) (list_any q xs) (f x) (any_grows p q f xs) h

some_grows : (objects : ℕ → List ℕ) (p q : List ℕ → Bool) → ((slots : List ℕ) → p slots ≡ true → q slots ≡ true)
    → (sorts : List ℕ) (first : ℕ) (slots : List ℕ)
    → some_tuple objects p first sorts slots ≡ true → some_tuple objects q first sorts slots ≡ true
some_grows objects p q f [] first slots h = f slots h
some_grows objects p q f (sort ∷ sorts) first slots h =
    any_grows (λ o. some_tuple objects p (first + 1) sorts (slice_set slots first o))
    (λ o. some_tuple objects q (first + 1) sorts (slice_set slots first o))
    (λ o. some_grows objects p q f sorts (first + 1) (slice_set slots first o)) (objects sort) h

-- ---- conditions, where more atoms are true

module _ (domain : Domain) (marks : List Bool) (objects : ℕ → List ℕ) (p q : ℕ → List ℕ → Bool)
    (same : (pred : ℕ) (args : List ℕ) → is_steady_atom marks true (role_of domain pred) pred ≡ true → p pred args ≡ q pred args)
    (grown : (pred : ℕ) (args : List ℕ) → is_steady_atom marks false (role_of domain pred) pred ≡ true
    → p pred args ≡ true → q pred args ≡ true) where
  mutual
    fixed : (c : Condition) (slots : List ℕ) → is_steady domain marks true c ≡ true
        → truth p objects c slots ≡ truth q objects c slots
    fixed (Atom pred args) slots s = same pred (objects_at slots args) s
    fixed (Equal x y) slots s = refl
    fixed (every parts) slots s = fixed_all parts slots s
    fixed (Any parts) slots s = fixed_any parts slots s
    fixed (Not part) slots s = ap not (fixed part slots s)
    fixed (Exists first sorts body) slots s =
        ap (λ t. some_tuple objects t first sorts slots) (λ i z. fixed body z s i)

    fixed_all : (parts : Conditions) (slots : List ℕ) → are_steady domain marks true parts ≡ true
        → all_true p objects parts slots ≡ all_true q objects parts slots
    fixed_all none slots s = refl
    fixed_all (more part parts) slots s = λ i.
        fixed part slots (first_so (is_steady domain marks true part) (are_steady domain marks true parts) s) i
        && fixed_all parts slots (second_so (is_steady domain marks true part) (are_steady domain marks true parts) s) i

    fixed_any : (parts : Conditions) (slots : List ℕ) → are_steady domain marks true parts ≡ true
        → any_true p objects parts slots ≡ any_true q objects parts slots
    fixed_any none slots s = refl
    fixed_any (more part parts) slots s = λ i.
        fixed part slots (first_so (is_steady domain marks true part) (are_steady domain marks true parts) s) i
        || fixed_any parts slots (second_so (is_steady domain marks true part) (are_steady domain marks true parts) s) i

  mutual
    pub grows : (c : Condition) (slots : List ℕ) → is_steady domain marks false c ≡ true
        → truth p objects c slots ≡ true → truth q objects c slots ≡ true
    grows (Atom pred args) slots s h = grown pred (objects_at slots args) s h
    grows (Equal x y) slots s h = h
    grows (every parts) slots s h = grows_all parts slots s h
    grows (Any parts) slots s h = grows_any parts slots s h
    grows (Not part) slots s h = subst (λ b. not b ≡ true) (fixed part slots s) h
    grows (Exists first sorts body) slots s h =
        some_grows objects (truth p objects body) (truth q objects body) (λ z. grows body z s) sorts first slots h

    grows_all : (parts : Conditions) (slots : List ℕ) → are_steady domain marks false parts ≡ true
        → all_true p objects parts slots ≡ true → all_true q objects parts slots ≡ true
    grows_all none slots s h = h
    grows_all (more part parts) slots s h =
        and_grows (truth p objects part slots) (all_true p objects parts slots)
        (truth q objects part slots) (all_true q objects parts slots)
        (grows part slots (first_so (is_steady domain marks false part) (are_steady domain marks false parts) s))
        (grows_all parts slots (second_so (is_steady domain marks false part) (are_steady domain marks false parts) s)) h

    grows_any : (parts : Conditions) (slots : List ℕ) → are_steady domain marks false parts ≡ true
        → any_true p objects parts slots ≡ true → any_true q objects parts slots ≡ true
    grows_any none slots s h = h
    grows_any (more part parts) slots s h =
        or_grows (truth p objects part slots) (any_true p objects parts slots)
        (truth q objects part slots) (any_true q objects parts slots)
        (grows part slots (first_so (is_steady domain marks false part) (are_steady domain marks false parts) s))
        (grows_any parts slots (second_so (is_steady domain marks false part) (are_steady domain marks false parts) s)) h

-- ---- states within others

module _ (domain : Domain) (marks : List Bool) (known : Known) (state atoms : Atoms) (within : IsWithin state atoms) where
  static_same : (depth : ℕ) (r : Role) (pred : ℕ) (args : List ℕ) → is_steady_atom marks true r pred ≡ true
      → atom_as domain known state depth r pred args ≡ atom_as domain known atoms depth r pred args
  static_same zero role.Static pred args s = refl
  static_same (suc depth) role.Static pred args s = refl
  static_same depth role.Fluent pred args s = absurd (false≢true s)
  static_same depth role.Derived pred args s = absurd (false≢true s)

  -- an item of a marked predicate
  body_steady : (pred : ℕ) (d : Derived) → is_marked marks pred ≡ true → (d.pred == pred) ≡ true
      → is_steady_item domain marks d ≡ true → is_steady domain marks false d.body ≡ true
  body_steady pred d marked is steady =
      subst (λ m. (not m || is_steady domain marks false d.body) ≡ true) (ap (is_marked marks) (eqb-true d.pred pred is) ∙ marked) steady

  abbrev item_holds : (ℕ → List ℕ → Bool) → ℕ → List ℕ → Derived → Bool
  item_holds p pred args d =
      (d.pred == pred) && have_types known args d.params && truth p (objects_of known.facts) d.body (slots_of args)

  items_grow : (p q : ℕ → List ℕ → Bool) (pred : ℕ) (args : List ℕ) → is_marked marks pred ≡ true
      → ((n : ℕ) (xs : List ℕ) → is_steady_atom marks true (role_of domain n) n ≡ true → p n xs ≡ q n xs)
      → ((n : ℕ) (xs : List ℕ) → is_steady_atom marks false (role_of domain n) n ≡ true → p n xs ≡ true → q n xs ≡ true)
      → (items : List Derived) → list_all (is_steady_item domain marks) items ≡ true
      → list_any (item_holds p pred args) items ≡ true → list_any (item_holds q pred args) items ≡ true
  items_grow p q pred args marked same grown [] steady h = h
  items_grow p q pred args marked same grown (d ∷ ds) steady h =
      or_grows (item_holds p pred args d) (list_any (item_holds p pred args) ds)
      (item_holds q pred args d) (list_any (item_holds q pred args) ds)
      one (items_grow p q pred args marked same grown ds rest) h
    where
      here : is_steady_item domain marks d ≡ true
      here = first_so (is_steady_item domain marks d) (list_all (is_steady_item domain marks) ds) steady

      rest : list_all (is_steady_item domain marks) ds ≡ true
      rest = second_so (is_steady_item domain marks d) (list_all (is_steady_item domain marks) ds) steady

      typed : Bool
      typed = have_types known args d.params

      before : Bool
      before = truth p (objects_of known.facts) d.body (slots_of args)

      after : Bool
      after = truth q (objects_of known.facts) d.body (slots_of args)

      one : item_holds p pred args d ≡ true → item_holds q pred args d ≡ true
      one e =
          let front = first_so ((d.pred == pred) && typed) before e in
          let body =
          grows domain marks (objects_of known.facts) p q same grown d.body (slots_of args)
          (body_steady pred d marked (first_so (d.pred == pred) typed front) here) (second_so ((d.pred == pred) && typed) before e) in
          and_from ((d.pred == pred) && typed) after front body

  atom_grows : has_steady_items domain marks ≡ true → (depth : ℕ) (r : Role) (pred : ℕ) (args : List ℕ)
      → is_steady_atom marks false r pred ≡ true
      → atom_as domain known state depth r pred args ≡ true → atom_as domain known atoms depth r pred args ≡ true
  atom_grows steady zero role.Static pred args s h = h
  atom_grows steady (suc depth) role.Static pred args s h = h
  atom_grows steady zero role.Fluent pred args s h = within (record { pred = pred; args = args }) h
  atom_grows steady (suc depth) role.Fluent pred args s h = within (record { pred = pred; args = args }) h
  atom_grows steady zero role.Derived pred args s h = h
  atom_grows steady (suc depth) role.Derived pred args s h =
      items_grow (λ n xs. atom_as domain known state depth (role_of domain n) n xs)
      (λ n xs. atom_as domain known atoms depth (role_of domain n) n xs) pred args s
      (λ n xs. static_same depth (role_of domain n) n xs)
      (λ n xs. atom_grows steady depth (role_of domain n) n xs) domain.derived steady h

  -- what is steady and true in the state is true in the atoms
  pub steady_grows : has_steady_items domain marks ≡ true → (c : Condition) (slots : List ℕ)
      → is_steady domain marks false c ≡ true → is_true domain known state c slots ≡ true
      → is_true domain known atoms c slots ≡ true
  steady_grows steady =
      grows domain marks (objects_of known.facts) (λ n xs. atom_as domain known state (length domain.derived) (role_of domain n) n xs)
      (λ n xs. atom_as domain known atoms (length domain.derived) (role_of domain n) n xs)
      (λ n xs. static_same (length domain.derived) (role_of domain n) n xs)
      (λ n xs. atom_grows steady (length domain.derived) (role_of domain n) n xs)

-- where nothing is marked, nothing is said of what it follows by
pub none_marked : (domain : Domain) → has_steady_items domain [] ≡ true
none_marked domain = each domain.derived
  where
    each : (items : List Derived) → list_all (is_steady_item domain []) items ≡ true
    each [] = refl
    each (d ∷ ds) = each ds
