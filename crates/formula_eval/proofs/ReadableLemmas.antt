-- Fit tasks: their roles, and that their conditions can be read.
use Rattle.std.proofs.Common.{◌≡◌, ℕ, zero, suc, ◌+◌, ◌<◌, ◌≤◌, true, false, ◌&&◌, ◌||◌, ◌==◌, List, [], ◌∷◌, ◌++◌, length, get_or, refl, ap, ◌∙◌, subst, arith, nat_lt, nat_le, eqb-true}
use Rattle.std.specs.Cmp.{first_so, second_so}
use Rattle.std.specs.List.{list_any, list_all}
use Rattle.std.proofs.lemmas.Bool.{and_from}
use Rattle.std.proofs.lemmas.List.{append-nil, length-map}
use Rattle.lemmas.proofs.Numbers.{length-numbers_from, get-map-numbers}
use Rattle.lemmas.proofs.ListTests.{all_at_or}
use Rattle.task_model.specs.Condition.{Condition, Conditions, Atom, Equal, All as every, Any, Not, Exists, none, more}
use Rattle.task_model.specs.Fit.{IsFitDomain, has_arity, is_fit_term, is_sound, are_sound, count_of, is_fit_condition, are_places, is_fit_item, are_fit_params, is_short}
use Rattle.task_model.specs.Known.{Known}
use Rattle.lemmas.specs.Lists.{numbers_from}
use Rattle.task_model.specs.Roles.{role_of}
use Rattle.task_model.specs.State.{Atoms, contains}
use Rattle.task_model.specs.Known.{is_fact, atom_fact}
use Rattle.task_model.specs.Truth.{atom_as, atom_at}
use Rattle.task_model.specs.declared.condition.Term.{Term}
use Rattle.task_model.specs.declared.condition.Term.TheVariants.{Slot, Object}
use Rattle.task_model.specs.declared.domain.Derived.{Derived}
use Rattle.task_model.specs.declared.domain.Domain.{Domain}
use Rattle.task_model.specs.declared.domain.Role.{Role}
use Rattle.task_model.specs.declared.domain.Role.TheVariants as role
use Rattle.task_model.specs.declared.domain.Signature.{Signature}
use Rattle.formula_eval.specs.Judged.{derived_at}
use Rattle.formula_eval.specs.Readable.{is_readable, are_readable, is_readable_term}
use borrow.Author.Tests.{ltb-true, leb-true, lt-ltb}

-- ---- roles

pub roles_length : (domain : Domain) → IsFitDomain domain
    → length domain.roles ≡ length domain.predicates
roles_length domain fit =
    ap length fit.roles ∙ length-map _ (role_of domain)
    ∙ length-numbers_from 0 (length domain.predicates)

pub role_kept : (domain : Domain) → IsFitDomain domain → (k : ℕ) (d : Role)
    → k < length domain.predicates
    → get_or domain.roles k d ≡ role_of domain k
role_kept domain fit k d h =
    ap (λ rs. get_or rs k d) fit.roles ∙ get-map-numbers (role_of domain) 0 (length domain.predicates) k d h
    ∙ ap (role_of domain) (omega arith)

-- ---- atoms by role

module _ (domain : Domain) (known : Known) (state : Atoms) (pred : ℕ) (args : List ℕ) where
  static_atom : (depth : ℕ)
      → atom_as domain known state depth role.Static pred args ≡ is_fact known.facts (atom_fact pred args)
  static_atom zero = refl
  static_atom (suc depth) = refl

  fluent_atom : (depth : ℕ)
      → atom_as domain known state depth role.Fluent pred args ≡ contains state (record { pred = pred; args = args })
  fluent_atom zero = refl
  fluent_atom (suc depth) = refl

  pub static_at : (depth : ℕ) → role_of domain pred ≡ role.Static
      → atom_at domain known state depth pred args ≡ is_fact known.facts (atom_fact pred args)
  static_at depth e = ap (λ r. atom_as domain known state depth r pred args) e ∙ static_atom depth

  pub fluent_at : (depth : ℕ) → role_of domain pred ≡ role.Fluent
      → atom_at domain known state depth pred args ≡ contains state (record { pred = pred; args = args })
  fluent_at depth e = ap (λ r. atom_as domain known state depth r pred args) e ∙ fluent_atom depth

  pub derived_below : (depth below : ℕ) → role_of domain pred ≡ role.Derived → depth ≡ suc below
      → atom_at domain known state depth pred args ≡ derived_at domain known state below pred args
  derived_below depth below e d =
      ap (λ r. atom_as domain known state depth r pred args) e ∙ ap (λ n. atom_as domain known state n role.Derived pred args) d

  pub derived_at_none : (depth : ℕ) → role_of domain pred ≡ role.Derived → depth ≡ 0
      → atom_at domain known state depth pred args ≡ false
  derived_at_none depth e d =
      ap (λ r. atom_as domain known state depth r pred args) e ∙ ap (λ n. atom_as domain known state n role.Derived pred args) d

-- ---- conditions of fit tasks

below_sixteen : (filled : List ℕ) (n : ℕ) → list_all (λ s. nat_lt s 16) filled ≡ true
    → list_any (λ slot. slot == n) filled ≡ true
    → nat_lt n 16 ≡ true
below_sixteen [] n all some = absurd (cc)
below_sixteen (s ∷ ss) n all some =
    elim (s == n) as (λ b. (s == n) ≡ b → (b || list_any (λ slot. slot == n) ss) ≡ true → nat_lt n 16 ≡ true) [
      | true ↦ λ same _. subst (λ m. nat_lt m 16 ≡ true) (eqb-true s n same) (first_so (nat_lt s 16) (list_all (λ m. nat_lt m 16) ss) all)
      | false ↦ λ _ rest. below_sixteen ss n (second_so (nat_lt s 16) (list_all (λ m. nat_lt m 16) ss) all) rest
    ] refl some

pub fit_slots : (first n : ℕ) (filled : List ℕ) → first + n ≤ 16
    → list_all (λ s. nat_lt s 16) filled ≡ true
    → list_all (λ s. nat_lt s 16) (numbers_from first n ++ filled) ≡ true
fit_slots first zero filled h all = all
fit_slots first (suc n) filled h all =
    and_from (nat_lt first 16) _ (lt-ltb first 16 (omega arith)) (fit_slots (first + 1) n filled (omega arith) all)

readable_term : (objects : ℕ) (filled : List ℕ) (t : Term)
    → list_all (λ s. nat_lt s 16) filled ≡ true → is_fit_term objects filled t ≡ true
    → is_readable_term t ≡ true
readable_term objects filled (Slot n) all fit = below_sixteen filled n all fit
readable_term objects filled (Object o) all fit = refl

pub readable_terms : (objects : ℕ) (filled : List ℕ) (ts : List Term)
    → list_all (λ s. nat_lt s 16) filled ≡ true
    → list_all (is_fit_term objects filled) ts ≡ true → list_all is_readable_term ts ≡ true
readable_terms objects filled [] all fit = refl
readable_terms objects filled (t ∷ ts) all fit =
    and_from _ _ (readable_term objects filled t all (first_so (is_fit_term objects filled t) _ fit))
    (readable_terms objects filled ts all (second_so (is_fit_term objects filled t) _ fit))

-- what has an arity is a place of the list
pub has_place : (all : List Signature) (place n : ℕ) → has_arity all place n ≡ true
    → nat_lt place (length all) ≡ true
has_place [] place n e = absurd (cc)
has_place (s ∷ ss) zero n e = lt-ltb 0 (suc (length ss)) (omega arith)
has_place (s ∷ ss) (suc place) n e =
    lt-ltb (suc place) (suc (length ss)) (omega (arith, ltb-true place (length ss) (has_place ss place n e)))

pub few_arguments : (all : List Signature) (place n : ℕ)
    → list_all (λ (s : Signature). nat_le s.arity 8) all ≡ true
    → has_arity all place n ≡ true → nat_le n 8 ≡ true
few_arguments [] place n few e = absurd (cc)
few_arguments (s ∷ ss) zero n few e =
    subst (λ m. nat_le m 8 ≡ true) (eqb-true s.arity n e) (first_so (nat_le s.arity 8) _ few)
few_arguments (s ∷ ss) (suc place) n few e =
    few_arguments ss place n (second_so (nat_le s.arity 8) _ few) e

module _ (domain : Domain) (few : list_all (λ (s : Signature). nat_le s.arity 8) domain.predicates ≡ true) (objects : ℕ) where
  mutual
    readable_of_sound : (c : Condition) (filled : List ℕ)
        → list_all (λ s. nat_lt s 16) filled ≡ true
        → is_sound domain objects c filled ≡ true → is_readable domain c ≡ true
    readable_of_sound (Atom pred args) filled all e =
        let arity = first_so (has_arity domain.predicates pred (length args)) _ e in
        let terms = second_so (has_arity domain.predicates pred (length args)) _ e in
        and_from _ _ (and_from _ _ (has_place domain.predicates pred (length args) arity)
        (few_arguments domain.predicates pred (length args) few arity)) (readable_terms objects filled args all terms)
    readable_of_sound (Equal s t) filled all e =
        and_from _ _ (readable_term objects filled s all (first_so (is_fit_term objects filled s) _ e))
        (readable_term objects filled t all (second_so (is_fit_term objects filled s) _ e))
    readable_of_sound (every parts) filled all e =
        readable_of_sounds parts filled all (second_so (nat_le (count_of parts) 8388608) _ e)
    readable_of_sound (Any parts) filled all e =
        readable_of_sounds parts filled all (second_so (nat_le (count_of parts) 8388608) _ e)
    readable_of_sound (Not part) filled all e = readable_of_sound part filled all e
    readable_of_sound (Exists first sorts body) filled all e =
        let front = first_so (nat_le (first + length sorts) 16 && are_places (length domain.sorts) sorts) _ e in
        let within = first_so (nat_le (first + length sorts) 16) _ front in
        let rest = second_so (nat_le (first + length sorts) 16 && are_places (length domain.sorts) sorts) _ e in
        and_from _ _ within
        (readable_of_sound body _ (fit_slots first (length sorts) filled (leb-true (first + length sorts) 16 within) all) rest)

    readable_of_sounds : (cs : Conditions) (filled : List ℕ)
        → list_all (λ s. nat_lt s 16) filled ≡ true
        → are_sound domain objects cs filled ≡ true → are_readable domain cs ≡ true
    readable_of_sounds none filled all e = refl
    readable_of_sounds (more part parts) filled all e =
        and_from _ _ (readable_of_sound part filled all (first_so (is_sound domain objects part filled) _ e))
        (readable_of_sounds parts filled all (second_so (is_sound domain objects part filled) _ e))

-- the first slots, at most sixteen of them
pub few_slots : (n : ℕ) → n ≤ 16 → list_all (λ s. nat_lt s 16) (numbers_from 0 n) ≡ true
few_slots n few = subst (λ xs. list_all (λ s. nat_lt s 16) xs ≡ true) (append-nil (numbers_from 0 n)) (fit_slots 0 n [] (omega arith) refl)

-- a condition that is fit where at most sixteen slots are filled can be read
pub fit_readable : (domain : Domain) → IsFitDomain domain → (objects n : ℕ) → n ≤ 16
    → (c : Condition)
    → is_fit_condition domain objects (numbers_from 0 n) c ≡ true → is_readable domain c ≡ true
fit_readable domain fit objects n few c e =
    readable_of_sound domain fit.predicates.arities objects c (numbers_from 0 n)
    (few_slots n few) (first_so (is_sound domain objects c (numbers_from 0 n)) _ e)

-- ---- items

pub fit_item : (domain : Domain) → IsFitDomain domain → (i : ℕ) (d : Derived)
    → i < length domain.derived → d ≡ get_or domain.derived i d
    → is_fit_item domain d ≡ true
fit_item domain fit i d h e = all_at_or (is_fit_item domain) domain.derived i d (second_so (is_short domain.derived) _ fit.items) h e

pub item_params : (domain : Domain) (d : Derived) → is_fit_item domain d ≡ true
    → length d.params ≤ 16
item_params domain d e =
    let front = first_so (are_fit_params domain d.params && has_arity domain.predicates d.pred (length d.params)) _ e in
    let params = first_so (are_fit_params domain d.params) _ front in
    leb-true (length d.params) 16 (first_so (nat_le (length d.params) 16) _ params)

pub item_readable : (domain : Domain) → IsFitDomain domain → (d : Derived)
    → is_fit_item domain d ≡ true → is_readable domain d.body ≡ true
item_readable domain fit d e =
    fit_readable domain fit (length domain.constants) (length d.params) (item_params domain d e) d.body
    (second_so (are_fit_params domain d.params && has_arity domain.predicates d.pred (length d.params)) _ e)
