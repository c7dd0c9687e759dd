-- Instances: that a test tells them apart, their order, which are due, and that what is due is one list.
use Rattle.std.proofs.Common.{◌≡◌, ℕ, true, false, not, List, [], refl, sym, ap, ◌∙◌, subst, Option, Some, None, slice_get, Contains, arith, ◌==◌, map, IsSome, unwrap_or, eqb-true, eq-eqb, ◌∷◌}
use Rattle.std.proofs.lemmas.Bool.{and_from, not-true, not_from_false}
use Rattle.std.specs.List.{list_all}
use Rattle.std.specs.Cmp.{first_so, second_so, IsTotalOrder, then_total, on_total, nat_cmp_total}
use Rattle.task_model.specs.Known.{Known, IsIn, is_fact, same_numbers, type_fact}
use Rattle.task_model.specs.Streams.{Note, IsDue, AreDue, NothingIsDue, is_due, is_due_at, is_finished, fact_of, is_reachable, instance_cmp, name_at, same_instance}
use Rattle.task_model.specs.Truth.{has_type, have_types, slots_of}
use Rattle.task_model.specs.declared.domain.Pattern.{Pattern}
use Rattle.task_model.specs.declared.fact.Fact.{Fact}
use Rattle.task_model.specs.declared.stream.Instance.{Instance}
use Rattle.task_model.specs.declared.stream.Stream.{Stream}
use Rattle.task_model.specs.declared.task.Task.{Task}
use Rattle.std.specs.Cmp.Lexicographic.{lists_total, nat_list_cmp_total}
use Rattle.lemmas.proofs.Ascending.{same_list}
use Rattle.task_model.proofs.KnownLemmas.{numbers_decided}

-- ---- names of objects

pub named_at : (names : List (List ℕ)) (o : ℕ) → IsIn names o
    → slice_get names o ≡ Some (name_at names o)
named_at names o known = by (slice_get names o) refl known
  where
    by : (s : Option (List ℕ)) → slice_get names o ≡ s → IsSome s
        → slice_get names o ≡ Some (name_at names o)
    by None e none = absurd (cc)
    by (Some n) e some = e ∙ ap Some (sym (ap (λ (t : Option (List ℕ)). unwrap_or t []) e))

-- the names at places that have them
pub names_there : (names more : List (List ℕ)) (objects : List ℕ)
    → map (slice_get names) objects ≡ map Some more
    → map (name_at names) objects ≡ more
names_there names [] [] e = refl
names_there names [] (o ∷ os) e = absurd (cc)
names_there names (n ∷ more) [] e = absurd (cc)
names_there names (n ∷ more) (o ∷ os) e =
    let first : slice_get names o ≡ Some n = cc in
    let rest : map (slice_get names) os ≡ map Some more = cc in
    let name : name_at names o ≡ n = ap (λ (s : Option (List ℕ)). unwrap_or s []) first in
    λ i. name i ∷ names_there names more os rest i

-- ---- one instance

pub instances_same : (a b : Instance) → same_instance a b ≡ true → a ≡ b
instances_same a b e =
    let stream = first_so (a.stream == b.stream) (same_numbers a.inputs b.inputs) e in
    let inputs = second_so (a.stream == b.stream) (same_numbers a.inputs b.inputs) e in
    λ i. record { stream = eqb-true a.stream b.stream stream i; inputs = (numbers_decided a.inputs b.inputs).0 inputs i }

pub instance_itself : (a : Instance) → same_instance a a ≡ true
instance_itself a =
    and_from _ _ (eq-eqb a.stream a.stream refl) ((numbers_decided a.inputs a.inputs).1 refl)

pub instances_apart : (i other : Instance) → ¬ (i ≡ other) → same_instance i other ≡ false
instances_apart i other apart =
    elim (same_instance i other) as (λ b. same_instance i other ≡ b → b ≡ false)
    [ true ↦ λ e. absurd (apart (instances_same i other e)) | false ↦ λ _. refl ] refl

-- ---- their order

pub instances_total : (names : List (List ℕ)) → IsTotalOrder (instance_cmp names)
instances_total names =
    then_total (on_total (λ (i : Instance). i.stream) nat_cmp_total)
    (on_total (λ (i : Instance). map (name_at names) i.inputs) (lists_total nat_list_cmp_total))

-- all that is due is one list
pub due_once : (task : Task) (known : Known) (notes : List Note) (xs ys : List Instance)
    → AreDue task known notes xs
    → AreDue task known notes ys → xs ≡ ys
due_once task known notes xs ys first second =
    same_list (instance_cmp known.names) (instances_total known.names) xs ys first.ascend second.ascend
    (λ i m. (second.each i).1 ((first.each i).0 m)) (λ i m. (first.each i).1 ((second.each i).0 m))

-- ---- what is due

module _ (task : Task) (known : Known) (notes : List Note) (i : Instance) where
  due_at : (found : Option Stream) → slice_get task.streams i.stream ≡ found
      → is_due task known notes i ≡ true → IsDue task known notes i
  due_at None is e = let r : false ≡ true = rw is at e in absurd (cc)
  due_at (Some s) is e =
      let r : is_due_at known notes s i ≡ true = rw is at e in
      let reach = first_so (is_reachable s known i) (not (is_finished s notes i)) r in
      let rest = not-true (is_finished s notes i) (second_so (is_reachable s known i) (not (is_finished s notes i)) r) in
      record { stream = s; named = is; reachable = reach; unfinished = rest }

  -- an instance that passes the test is due
  pub due_holds : is_due task known notes i ≡ true → IsDue task known notes i
  due_holds e = due_at (slice_get task.streams i.stream) refl e

  -- an instance that is due passes the test
  pub due_passes : IsDue task known notes i → is_due task known notes i ≡ true
  due_passes d =
      let named : slice_get task.streams i.stream ≡ Some d.stream = d.named in
      let rest = not_from_false (is_finished d.stream notes i) d.unfinished in
      let at : is_due_at known notes d.stream i ≡ true =
      and_from (is_reachable d.stream known i) (not (is_finished d.stream notes i)) d.reachable rest in
      rw named at

module _ (task : Task) (known : Known) (notes : List Note) where
  -- where the list of all that are due is empty, nothing is due
  pub nothing_due : (instances : List Instance) → AreDue task known notes instances → instances ≡ []
      → NothingIsDue task known notes
  nothing_due instances due empty i d =
      let there : Contains [] i = subst (λ xs. Contains xs i) empty ((due.each i).1 d) in
      absurd (omega (arith, there.1))

-- ---- what is known stays known

module _ (known after : Known) (kept : (fact : Fact) → is_fact known.facts fact ≡ true → is_fact after.facts fact ≡ true) where
  types_kept : (objects sorts : List ℕ) → have_types known objects sorts ≡ true
      → have_types after objects sorts ≡ true
  types_kept [] [] e = refl
  types_kept [] (s ∷ ss) e = e
  types_kept (o ∷ os) [] e = e
  types_kept (o ∷ os) (s ∷ ss) e =
      and_from _ _ (kept (type_fact s o) (first_so (has_type known o s) (have_types known os ss) e))
      (types_kept os ss (second_so (has_type known o s) (have_types known os ss) e))

  patterns_kept : (slots : List ℕ) (ps : List Pattern)
      → list_all (λ p. is_fact known.facts (fact_of slots p)) ps ≡ true
      → list_all (λ p. is_fact after.facts (fact_of slots p)) ps ≡ true
  patterns_kept slots [] e = refl
  patterns_kept slots (p ∷ ps) e =
      and_from _ _ (kept (fact_of slots p) (first_so (is_fact known.facts (fact_of slots p)) _ e))
      (patterns_kept slots ps (second_so (is_fact known.facts (fact_of slots p)) _ e))

  pub reachable_kept : (s : Stream) (i : Instance) → is_reachable s known i ≡ true
      → is_reachable s after i ≡ true
  reachable_kept s i e =
      and_from _ _ (types_kept i.inputs s.inputs (first_so (have_types known i.inputs s.inputs) _ e))
      (patterns_kept (slots_of i.inputs) s.domain (second_so (have_types known i.inputs s.inputs) _ e))
