-- Steps without a conflict may be exchanged, and one that conflicts with none before it may go first.
use Rattle.std.proofs.Common.{◌≡◌, ℕ, ◌+◌, Bool, true, false, ◌&&◌, ◌||◌, not, List, [], ◌∷◌, ◌++◌, refl, sym, ap, ◌∙◌, subst, arith, Contains, inl, inr}
use Rattle.std.proofs.lemmas.List.Folds.{list_any_at}
use Rattle.std.proofs.lemmas.List.Elements.{Contains-append_left, Contains-append_right}
use Rattle.std.specs.List.{list_any}
use Rattle.std.specs.Ordering.{eq_by_cmp}
use Rattle.std.specs.Cmp.{Equal-is, eq_by_cmp_equiv}
use Rattle.lemmas.proofs.Ascending.{contains_here, contains_later}
use Rattle.task_model.proofs.StateLemmas.{atoms_tied, atoms_total, same_atoms, contains-changed}
use Rattle.task_model.specs.AtomOrder.{atom_cmp}
use Rattle.task_model.specs.Known.{Known}
use Rattle.task_model.specs.Plans.{Executes}
use Rattle.task_model.specs.State.{Atoms, contains}
use Rattle.task_model.specs.Steps.{IsStep, effect_of}
use Rattle.task_model.specs.Truth.{is_true, slots_of}
use Rattle.task_model.specs.declared.domain.Action.{Action}
use Rattle.task_model.specs.declared.fact.Atom.{Atom}
use Rattle.task_model.specs.declared.task.GroundAction.{GroundAction}
use Rattle.task_model.specs.declared.task.Task.{Task}
use Rattle.plan_deorder.proofs.AgreeLemmas.{same_where_read}
use Rattle.plan_deorder.specs.Laws.{AreExchanged}
use Rattle.plan_deorder.specs.Touches.{Conflict, StepsConflict, adds_of, deletes_of, writes_of}

-- ---- members by comparing

abbrev pub among : Atom → List Atom → Bool
among x xs = list_any (eq_by_cmp atom_cmp x) xs

same_by_cmp : (x y : Atom) → eq_by_cmp atom_cmp x y ≡ true → x ≡ y
same_by_cmp x y e = atoms_tied x y ((Equal-is (atom_cmp x y)).0 e)

pub from_among : (x : Atom) (xs : List Atom) → among x xs ≡ true → Contains xs x
from_among x [] e = absurd (cc)
from_among x (y ∷ ys) e =
    elim (eq_by_cmp atom_cmp x y) as (λ b. eq_by_cmp atom_cmp x y ≡ b → (b || among x ys) ≡ true → Contains (y ∷ ys) x) [
      | true ↦ λ same _. subst (λ z. Contains (z ∷ ys) x) (same_by_cmp x y same) (contains_here x ys)
      | false ↦ λ _ rest. contains_later y ys x (from_among x ys rest)
    ] refl e

pub any_by : (p : Atom → Bool) (xs : List Atom) (x : Atom) → Contains xs x → p x ≡ true → list_any p xs ≡ true
any_by p xs x c e = list_any_at p xs c.0 x c.1 (ap p c.2 ∙ e)

pub to_among : (x : Atom) (xs : List Atom) → Contains xs x → among x xs ≡ true
to_among x xs c = any_by (eq_by_cmp atom_cmp x) xs x c ((eq_by_cmp_equiv atoms_total).refl x)

not_among : (x : Atom) (xs : List Atom) → ¬ (Contains xs x) → among x xs ≡ false
not_among x xs absent =
    elim (among x xs) as (λ b. among x xs ≡ b → b ≡ false) [
      | true ↦ λ e. absurd (absent (from_among x xs e))
      | false ↦ λ _. refl
    ] refl

-- ---- effects

-- an atom that an action doesn't write is there afterwards where it was
unwritten : (a : Action) (args : List ℕ) (s : Atoms) (x : Atom) → ¬ (Contains (writes_of a args) x)
    → contains (effect_of a args s) x ≡ contains s x
unwritten a args s x absent =
    contains-changed s (deletes_of a args) (adds_of a args) x
    ∙ (λ i. not_among x (adds_of a args) (λ c. absent (Contains-append_left (adds_of a args) (deletes_of a args) x c)) i
    || (not (not_among x (deletes_of a args) (λ c. absent (Contains-append_right (adds_of a args) (deletes_of a args) x c)) i)
    && contains s x))

exchange : (ap am bp bm s : Bool) → (ap && bm) ≡ false → (bp && am) ≡ false
    → (bp || (not bm && (ap || (not am && s)))) ≡ (ap || (not am && (bp || (not bm && s))))
exchange true am true true s e f = absurd (cc)
exchange true am true false s e f = refl
exchange true am false true s e f = absurd (cc)
exchange true am false false s e f = refl
exchange false true true bm s e f = absurd (cc)
exchange false false true bm s e f = refl
exchange false true false true s e f = refl
exchange false true false false s e f = refl
exchange false false false true s e f = refl
exchange false false false false s e f = refl

both_false : (x : Atom) (xs ys : List Atom) → (Contains xs x → Contains ys x → ⊥) → (among x xs && among x ys) ≡ false
both_false x xs ys apart =
    elim (among x xs) as (λ b. among x xs ≡ b → (b && among x ys) ≡ false) [
      | true ↦ λ e. not_among x ys (λ c. apart (from_among x xs e) c)
      | false ↦ λ _. refl
    ] refl

commute : (a b : Action) (args others : List ℕ) (s : Atoms)
    → ((x : Atom) → Contains (adds_of a args) x → Contains (deletes_of b others) x → ⊥)
    → ((x : Atom) → Contains (adds_of b others) x → Contains (deletes_of a args) x → ⊥)
    → effect_of b others (effect_of a args s) ≡ effect_of a args (effect_of b others s)
commute a b args others s first second =
    same_atoms _ _ (λ x.
    contains-changed (effect_of a args s) (deletes_of b others) (adds_of b others) x
    ∙ ap (λ c. among x (adds_of b others) || (not (among x (deletes_of b others)) && c))
    (contains-changed s (deletes_of a args) (adds_of a args) x)
    ∙ exchange (among x (adds_of a args)) (among x (deletes_of a args)) (among x (adds_of b others)) (among x (deletes_of b others))
    (contains s x) (both_false x (adds_of a args) (deletes_of b others) (first x))
    (both_false x (adds_of b others) (deletes_of a args) (second x))
    ∙ sym (ap (λ c. among x (adds_of a args) || (not (among x (deletes_of a args)) && c))
    (contains-changed s (deletes_of b others) (adds_of b others) x))
    ∙ sym (contains-changed (effect_of b others s) (deletes_of a args) (adds_of a args) x))

-- ---- steps

module _ (task : Task) (known : Known) where
  pub neighbours : (before middle after : Atoms) (s t : GroundAction) (m n : ℕ) → ¬ (StepsConflict task s t)
      → IsStep task known before s middle m → IsStep task known middle t after n
      → AreExchanged task known before s t after m n
  neighbours before middle after s t m n free p q = record {
    middle = effect_of q.action t.args before;
    second = record {
      action = q.action;
      named = q.named;
      typed = q.typed;
      condition = sym (later before p.leads) ∙ q.condition;
      costs = q.costs;
      leads = refl;
    };
    first = record {
      action = p.action;
      named = p.named;
      typed = p.typed;
      condition = earlier ∙ p.condition;
      costs = p.costs;
      leads = q.leads ∙ ap (effect_of q.action t.args) p.leads
          ∙ commute p.action q.action s.args t.args before (λ x c d. none (inl (x, c, d)))
          (λ x c d. none (inr (inl (x, c, d))));
    };
  }
    where
      none : Conflict task.domain p.action s.args q.action t.args → ⊥
      none c = free (record { first = p.action; second = q.action; names_first = p.named; names_second = q.named; conflict = c })

      later : (start : Atoms) → middle ≡ effect_of p.action s.args start
          → is_true task.domain known middle q.action.condition (slots_of t.args)
          ≡ is_true task.domain known start q.action.condition (slots_of t.args)
      later start e =
          same_where_read task.domain known middle start q.action.condition (slots_of t.args) (λ x r.
          ap (λ w. contains w x) e
          ∙ unwritten p.action s.args start x (λ c. none (inr (inr (inl (x, c, r))))))

      earlier : is_true task.domain known (effect_of q.action t.args before) p.action.condition (slots_of s.args)
          ≡ is_true task.domain known before p.action.condition (slots_of s.args)
      earlier =
          same_where_read task.domain known (effect_of q.action t.args before) before p.action.condition (slots_of s.args) (λ x r.
          unwritten q.action t.args before x (λ c. none (inr (inr (inr (x, c, r))))))

  pub goes_first : (start end : Atoms) (before later : List GroundAction) (s : GroundAction) (cost : ℕ)
      → ((t : GroundAction) → Contains before t → ¬ (StepsConflict task t s))
      → Executes task known start (before ++ s ∷ later) end cost
      → Executes task known start (s ∷ before ++ later) end cost
  goes_first start end [] later s cost free runs = runs
  goes_first start end (t ∷ before) later s cost free runs =
      let rest = goes_first runs.0 end before later s runs.2 (λ u c. free u (contains_later t before u c)) runs.4 in
      let swapped = neighbours start runs.0 rest.0 t s runs.1 rest.1 (free t (contains_here t before)) runs.3 rest.3 in
      let sum : cost ≡ rest.1 + (runs.1 + rest.2) = omega (arith, runs.5, rest.5) in
      (swapped.middle, rest.1, runs.1 + rest.2, swapped.second, (rest.0, runs.1, rest.2, swapped.first, rest.4, refl), sum)
