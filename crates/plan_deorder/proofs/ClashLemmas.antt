-- Sets that have what steps write and read clash exactly where the steps conflict.
use Rattle.std.proofs.Common.{◌≡◌, ◌↔◌, Bool, true, ◌||◌, List, sym, ap, ◌∙◌, subst, Contains, inl, inr}
use Rattle.std.proofs.lemmas.Bool.{or_cases, or_left, or_right}
use Rattle.std.proofs.lemmas.List.Elements.{Contains-append_left, Contains-append_right, Contains-append_cases}
use Rattle.std.proofs.lemmas.Option.{same_Some}
use Rattle.std.specs.FinMap as finite
use Rattle.std.specs.List.{list_any}
use Rattle.lemmas.proofs.ListTests.{any_found}
use Rattle.lemmas.proofs.Members.{member_at}
use Rattle.lemmas.specs.Lists.{has_number}
use Rattle.task_model.proofs.StateLemmas.{contains-from_list}
use Rattle.task_model.specs.State.{Atoms, contains, from_list, items}
use Rattle.task_model.specs.Truth.{slots_of}
use Rattle.task_model.specs.declared.fact.Atom.{Atom}
use Rattle.task_model.specs.declared.task.GroundAction.{GroundAction}
use Rattle.task_model.specs.declared.task.Task.{Task}
use Rattle.plan_deorder.proofs.SwapLemmas.{any_by, from_among, to_among}
use Rattle.plan_deorder.specs.Clashes.{IsTouchedBy, clash, disturbs, is_read, adds_deleted}
use Rattle.plan_deorder.specs.Touches.{Conflict, Disturbs, Meet, ReadsAtom, StepsConflict, adds_of, deletes_of, reads_in}
use Rattle.plan_deorder.specs.declared.touched.Touched.{Touched}

-- ---- members of sets

listed : (xs : List Atom) (x : Atom) → contains (from_list xs) x ≡ true → Contains xs x
listed xs x e = from_among x xs (sym (contains-from_list xs x) ∙ e)

is_listed : (xs : List Atom) (x : Atom) → Contains xs x → contains (from_list xs) x ≡ true
is_listed xs x c = contains-from_list xs x ∙ to_among x xs c

-- A member of the set passes the test.
record Passes (p : Atom → Bool) (s : Atoms) : Type 0 where
  x : Atom
  there : contains s x ≡ true
  passes : p x ≡ true

some_passes : (p : Atom → Bool) (s : Atoms) → list_any p (items s) ≡ true → Passes p s
some_passes p s e =
    let found = any_found p (items s) e in
    record {
      x = found.1;
      there = finite.contains_key-keys s found.1 ∙ to_among found.1 (items s) (member_at (items s) found.0 found.1 found.2);
      passes = found.3;
    }

passes_some : (p : Atom → Bool) (s : Atoms) (x : Atom) → contains s x ≡ true → p x ≡ true → list_any p (items s) ≡ true
passes_some p s x there passes =
    any_by p (items s) x (from_among x (items s) (sym (finite.contains_key-keys s x) ∙ there)) passes

-- ---- two steps

module _ (task : Task) (s t : GroundAction) (a b : Touched) (is : IsTouchedBy task s a) (are : IsTouchedBy task t b) where
  added : (x : Atom) → contains a.adds x ≡ true → Contains (adds_of is.action s.args) x
  added x e = listed (adds_of is.action s.args) x (ap (λ w. contains w x) (sym is.adds) ∙ e)

  deleted : (x : Atom) → contains a.deletes x ≡ true → Contains (deletes_of is.action s.args) x
  deleted x e = listed (deletes_of is.action s.args) x (ap (λ w. contains w x) (sym is.deletes) ∙ e)

  read : (x : Atom) → is_read b x ≡ true → ReadsAtom task.domain are.action.condition (slots_of t.args) x
  read x e =
      elim (or_cases (contains b.reads x) (has_number b.whole x.pred) e) [
        | inl one ↦ inl (listed (reads_in task.domain (slots_of t.args) are.action.condition) x (ap (λ w. contains w x) (sym are.reads) ∙ one))
        | inr all ↦ inr ((are.whole x.pred).0 all)
      ]

  reads_it : (x : Atom) → ReadsAtom task.domain are.action.condition (slots_of t.args) x → is_read b x ≡ true
  reads_it x r =
      elim r [
        | inl one ↦ or_left (contains b.reads x) (has_number b.whole x.pred)
            (ap (λ w. contains w x) are.reads ∙ is_listed (reads_in task.domain (slots_of t.args) are.action.condition) x one)
        | inr all ↦ or_right (contains b.reads x) (has_number b.whole x.pred) ((are.whole x.pred).1 all)
      ]

  meet_from : adds_deleted a b ≡ true → Meet (adds_of is.action s.args) (deletes_of are.action t.args)
  meet_from e =
      let found = some_passes (contains b.deletes) a.adds e in (
        found.x,
        added found.x found.there,
        listed (deletes_of are.action t.args) found.x (ap (λ w. contains w found.x) (sym are.deletes) ∙ found.passes),
      )

  meet_to : Meet (adds_of is.action s.args) (deletes_of are.action t.args) → adds_deleted a b ≡ true
  meet_to m =
      passes_some (contains b.deletes) a.adds m.0 (ap (λ w. contains w m.0) is.adds ∙ is_listed (adds_of is.action s.args) m.0 m.1)
      (ap (λ w. contains w m.0) are.deletes ∙ is_listed (deletes_of are.action t.args) m.0 m.2)

  disturbs_from : disturbs a b ≡ true → Disturbs task.domain is.action s.args are.action t.args
  disturbs_from e =
      elim (or_cases (list_any (is_read b) (items a.adds)) (list_any (is_read b) (items a.deletes)) e) [
        | inl adds ↦
            let found = some_passes (is_read b) a.adds adds in
            (found.x, Contains-append_left (adds_of is.action s.args) (deletes_of is.action s.args) found.x (added found.x found.there), read found.x found.passes)
        | inr deletes ↦
            let found = some_passes (is_read b) a.deletes deletes in
            (found.x, Contains-append_right (adds_of is.action s.args) (deletes_of is.action s.args) found.x (deleted found.x found.there), read found.x found.passes)
      ]

  disturbs_to : Disturbs task.domain is.action s.args are.action t.args → disturbs a b ≡ true
  disturbs_to d =
      elim (Contains-append_cases (adds_of is.action s.args) (deletes_of is.action s.args) d.0 d.1) [
        | inl adds ↦ or_left (list_any (is_read b) (items a.adds)) (list_any (is_read b) (items a.deletes))
            (passes_some (is_read b) a.adds d.0 (ap (λ w. contains w d.0) is.adds ∙ is_listed (adds_of is.action s.args) d.0 adds) (reads_it d.0 d.2))
        | inr deletes ↦ or_right (list_any (is_read b) (items a.adds)) (list_any (is_read b) (items a.deletes))
            (passes_some (is_read b) a.deletes d.0 (ap (λ w. contains w d.0) is.deletes ∙ is_listed (deletes_of is.action s.args) d.0 deletes) (reads_it d.0 d.2))
      ]

pub clashes : (task : Task) (s t : GroundAction) (a b : Touched) → IsTouchedBy task s a → IsTouchedBy task t b
    → (clash a b ≡ true) ↔ StepsConflict task s t
clashes task s t a b is are = (from, to)
  where
    conflict : clash a b ≡ true → Conflict task.domain is.action s.args are.action t.args
    conflict e =
        elim (or_cases (adds_deleted a b || adds_deleted b a) (disturbs a b || disturbs b a) e) [
          | inl met ↦ elim (or_cases (adds_deleted a b) (adds_deleted b a) met) [
            | inl first ↦ inl (meet_from task s t a b is are first)
            | inr second ↦ inr (inl (meet_from task t s b a are is second))
          ]
          | inr moved ↦ elim (or_cases (disturbs a b) (disturbs b a) moved) [
            | inl first ↦ inr (inr (inl (disturbs_from task s t a b is are first)))
            | inr second ↦ inr (inr (inr (disturbs_from task t s b a are is second)))
          ]
        ]

    from : clash a b ≡ true → StepsConflict task s t
    from e = record { first = is.action; second = are.action; names_first = is.named; names_second = are.named; conflict = conflict e }

    clash_by : Conflict task.domain is.action s.args are.action t.args → clash a b ≡ true
    clash_by c =
        elim c [
          | inl met ↦ or_left (adds_deleted a b || adds_deleted b a) (disturbs a b || disturbs b a)
              (or_left (adds_deleted a b) (adds_deleted b a) (meet_to task s t a b is are met))
          | inr rest ↦ elim rest [
            | inl met ↦ or_left (adds_deleted a b || adds_deleted b a) (disturbs a b || disturbs b a)
                (or_right (adds_deleted a b) (adds_deleted b a) (meet_to task t s b a are is met))
            | inr more ↦ elim more [
              | inl first ↦ or_right (adds_deleted a b || adds_deleted b a) (disturbs a b || disturbs b a)
                  (or_left (disturbs a b) (disturbs b a) (disturbs_to task s t a b is are first))
              | inr second ↦ or_right (adds_deleted a b || adds_deleted b a) (disturbs a b || disturbs b a)
                  (or_right (disturbs a b) (disturbs b a) (disturbs_to task t s b a are is second))
            ]
          ]
        ]

    to : StepsConflict task s t → clash a b ≡ true
    to c =
        let one : c.first ≡ is.action = same_Some _ _ (sym c.names_first ∙ is.named) in
        let other : c.second ≡ are.action = same_Some _ _ (sym c.names_second ∙ are.named) in
        clash_by (subst (λ x. Conflict task.domain x s.args are.action t.args) one
        (subst (λ y. Conflict task.domain c.first s.args y t.args) other c.conflict))
