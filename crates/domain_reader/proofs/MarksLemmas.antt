-- Marked roles are those that the definition gives.
use Rattle.std.proofs.Common.{◌≡◌, ℕ, zero, suc, ◌+◌, ◌<◌, Bool, true, false, ◌||◌, ◌==◌, if◌then◌else◌, List, [], ◌∷◌, ◌++◌, length, map, replicate, refl, sym, ap, ◌∙◌, arith, slice_set, eqb-true, eq-eqb}
use Rattle.std.specs.List.{list_any}
use Rattle.std.proofs.lemmas.Bool.{false_from_ne_true}
use Rattle.lemmas.specs.Lists.{numbers_from}
use Rattle.task_model.specs.Roles.{role_of}
use Rattle.task_model.specs.declared.domain.Action.{Action}
use Rattle.task_model.specs.declared.domain.Derived as rule
use Rattle.task_model.specs.declared.domain.Domain.{Domain}
use Rattle.task_model.specs.declared.domain.Pattern.{Pattern}
use Rattle.task_model.specs.declared.domain.Role.{Role}
use Rattle.task_model.specs.declared.domain.Role.TheVariants.{Static, Fluent, Derived}
use Rattle.domain_reader.specs.Domains.{roles_of}
use Rattle.domain_reader.specs.Marks.{all_marked, changed_preds, fluents_marked, headed_preds}

-- ---- what a mark does to the roles of all numbers

-- a mark below them changes none
none_marked : (f : ℕ → Role) (m first count : ℕ) (role : Role) → m < first
    → map f (numbers_from first count) ≡ map (λ k. if m == k then role else f k) (numbers_from first count)
none_marked f m first zero role lt = refl
none_marked f m first (suc count) role lt =
    let apart : (m == first) ≡ false = false_from_ne_true (m == first) (λ e. omega (arith, eqb-true m first e)) in
    let here : f first ≡ (if m == first then role else f first) = sym (ap (λ b. if b then role else f first) apart) in
    let rest = none_marked f m (first + 1) count role (omega arith) in
    λ i. here i ∷ rest i

one_marked : (f : ℕ → Role) (first count place : ℕ) (role : Role)
    → slice_set (map f (numbers_from first count)) place role
    ≡ map (λ k. if first + place == k then role else f k) (numbers_from first count)
one_marked f first zero place role = refl
one_marked f first (suc count) zero role =
    let here : role ≡ (if first + 0 == first then role else f first) =
    sym (ap (λ b. if b then role else f first) (eq-eqb (first + 0) first (omega arith))) in
    let rest = none_marked f (first + 0) (first + 1) count role (omega arith) in
    λ i. here i ∷ rest i
one_marked f first (suc count) (suc place) role =
    let apart : (first + suc place == first) ≡ false =
    false_from_ne_true (first + suc place == first) (λ e. omega (arith, eqb-true (first + suc place) first e)) in
    let here : f first ≡ (if first + suc place == first then role else f first) = sym (ap (λ b. if b then role else f first) apart) in
    let same : (first + 1) + place ≡ first + suc place = omega arith in
    let rest = one_marked f (first + 1) count place role
    ∙ ap (λ m. map (λ k. if m == k then role else f k) (numbers_from (first + 1) count)) same in
    λ i. here i ∷ rest i

-- the role where one of the marks is, and else what was there
abbrev over : List ℕ → Role → (ℕ → Role) → ℕ → Role
over preds role f k = if list_any (λ p. p == k) preds then role else f k

shift : (role x : Role) (a b : Bool) → (if b then role else (if a then role else x)) ≡ (if a || b then role else x)
shift role x true true = refl
shift role x true false = refl
shift role x false true = refl
shift role x false false = refl

these_marked : (role : Role) (preds : List ℕ) (f : ℕ → Role) (n : ℕ)
    → all_marked role (map f (numbers_from 0 n)) preds ≡ map (over preds role f) (numbers_from 0 n)
these_marked role [] f n = refl
these_marked role (p ∷ ps) f n =
    let first : slice_set (map f (numbers_from 0 n)) p role ≡ map (λ k. if p == k then role else f k) (numbers_from 0 n) =
    one_marked f 0 n p role
    ∙ ap (λ m. map (λ k. if m == k then role else f k) (numbers_from 0 n)) (let same : 0 + p ≡ p = omega arith in same) in
    ap (λ rs. all_marked role rs ps) first ∙ these_marked role ps (λ k. if p == k then role else f k) n
    ∙ (λ i. map (λ k. shift role (f k) (p == k) (list_any (λ q. q == k) ps) i) (numbers_from 0 n))

-- ---- effects and items

any_mapped : {A : Type 0} (f : A → ℕ) (k : ℕ) (xs : List A) → list_any (λ n. n == k) (map f xs) ≡ list_any (λ x. f x == k) xs
any_mapped f k [] = refl
any_mapped f k (x ∷ xs) = ap (λ b. (f x == k) || b) (any_mapped f k xs)

or_assoc : (x y z : Bool) → x || (y || z) ≡ (x || y) || z
or_assoc true y z = refl
or_assoc false y z = refl

abbrev has_pattern : List Pattern → ℕ → Bool
has_pattern patterns k = list_any (λ (p : Pattern). p.pred == k) patterns

pattern_append : (xs ys : List Pattern) (k : ℕ) → has_pattern (xs ++ ys) k ≡ (has_pattern xs k || has_pattern ys k)
pattern_append [] ys k = refl
pattern_append (x ∷ xs) ys k =
    ap (λ b. (x.pred == k) || b) (pattern_append xs ys k) ∙ or_assoc (x.pred == k) (has_pattern xs k) (has_pattern ys k)

abbrev is_changed : List Action → ℕ → Bool
is_changed actions k = list_any (λ (a : Action). has_pattern (a.adds ++ a.deletes) k) actions

-- the marks of one action and of those behind it
changed_more : (a : Action) (more : Bool) (x : Role) (k : ℕ)
    → (if more then Fluent else over (changed_preds a.deletes) Fluent (λ _. over (changed_preds a.adds) Fluent (λ _. x) k) k)
    ≡ (if has_pattern (a.adds ++ a.deletes) k || more then Fluent else x)
changed_more a more x k =
    let adds = list_any (λ n. n == k) (changed_preds a.adds) in
    let deletes = list_any (λ n. n == k) (changed_preds a.deletes) in
    let both : (adds || deletes) ≡ has_pattern (a.adds ++ a.deletes) k =
    (λ i. any_mapped (λ (p : Pattern). p.pred) k a.adds i || any_mapped (λ (p : Pattern). p.pred) k a.deletes i)
    ∙ sym (pattern_append a.adds a.deletes k) in
    ap (λ r. if more then Fluent else r) (shift Fluent x adds deletes) ∙ shift Fluent x (adds || deletes) more
    ∙ ap (λ b. if b || more then Fluent else x) both

fluents_are : (actions : List Action) (f : ℕ → Role) (n : ℕ)
    → fluents_marked (map f (numbers_from 0 n)) actions ≡ map (λ k. if is_changed actions k then Fluent else f k) (numbers_from 0 n)
fluents_are [] f n = refl
fluents_are (a ∷ as') f n =
    ap (λ rs. fluents_marked (all_marked Fluent rs (changed_preds a.deletes)) as') (these_marked Fluent (changed_preds a.adds) f n)
    ∙ ap (λ rs. fluents_marked rs as') (these_marked Fluent (changed_preds a.deletes) (over (changed_preds a.adds) Fluent f) n)
    ∙ fluents_are as' (over (changed_preds a.deletes) Fluent (over (changed_preds a.adds) Fluent f)) n
    ∙ (λ i. map (λ k. changed_more a (is_changed as' k) (f k) k i) (numbers_from 0 n))

-- ---- all roles

all_static : (first n : ℕ) → replicate n Static ≡ map (λ _. Static) (numbers_from first n)
all_static first zero = refl
all_static first (suc n) = ap (λ rs. Static ∷ rs) (all_static (first + 1) n)

pub roles_are : (d : Domain)
    → all_marked Derived (fluents_marked (replicate (length d.predicates) Static) d.actions) (headed_preds d.derived) ≡ roles_of d
unfolding role_of
roles_are d =
    let n = length d.predicates in
    ap (λ rs. all_marked Derived (fluents_marked rs d.actions) (headed_preds d.derived)) (all_static 0 n)
    ∙ ap (λ rs. all_marked Derived rs (headed_preds d.derived)) (fluents_are d.actions (λ _. Static) n)
    ∙ these_marked Derived (headed_preds d.derived) (λ k. if is_changed d.actions k then Fluent else Static) n
    ∙ (λ i. map (λ k. if any_mapped (λ (r : rule.Derived). r.pred) k d.derived i then Derived
    else (if is_changed d.actions k then Fluent else Static)) (numbers_from 0 n))
