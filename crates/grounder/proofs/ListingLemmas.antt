-- The steps that are listed are those that can be taken.
use Rattle.std.proofs.Common.{◌≡◌, ℕ, ◌+◌, ◌<◌, ◌≤◌, ◌⊎◌, inl, inr, Bool, true, List, [], ◌∷◌, length, refl, sym, ap, ◌∙◌, subst, arith, Option, Some, None, is_some, slice_get, Contains, ◌↔◌, map, Result, Ok, Err, is_ok, OnOk}
use Rattle.std.proofs.lemmas.Bool.{cases_lt, and_from}
use Rattle.std.proofs.lemmas.List.Elements.{All-contains_itself, Contains-append_left, Contains-append_right, Contains-append_cases}
use Rattle.std.proofs.lemmas.Option.{slice_get_within, same_Some}
use Rattle.std.proofs.lemmas.List.Sorted.{IsPermutation-sym, Contains-permutation}
use Rattle.std.specs.Cmp.{first_so, second_so, nat_cmp_is, unsigned_ties}
use Rattle.std.specs.Cmp.Lexicographic.{slice_cmp, lists_ties, nat_list_cmp_total}
use Rattle.std.specs.List.Sorted.{IsPermutation, IsSorted, IsStrictlySortedBy}
use Rattle.std.specs.Ordering.{ordering_then, nat_cmp, is_eq}
use Rattle.std.specs.declared.cmp.Ordering.TheVariants.{Less, Equal}
use Rattle.task_model.specs.Known.{Known, same_numbers}
use Rattle.task_model.specs.State.{Atoms}
use Rattle.task_model.specs.Steps.{IsStep, cost_of, effect_of}
use Rattle.task_model.specs.Truth.{slots_of, have_types, is_true}
use Rattle.task_model.specs.declared.domain.Action.{Action}
use Rattle.task_model.specs.declared.task.GroundAction.{GroundAction}
use Rattle.task_model.specs.declared.task.Task.{Task}
use Rattle.grounder.specs.Applicable.{IsApplicable, AreApplicable, step_cmp}
use Rattle.grounder.specs.Listing.{can_take, AreArguments, AreStepsOf, AddsSteps}
use Rattle.grounder.proofs.PartsLemmas.{settled_where}
use Rattle.grounder.specs.Parts.{AreNeeded, tops_of}
use Rattle.lemmas.proofs.Ascending.{contains_none, contains_here, contains_later, contains_cases, all_from, all_at, rising_append, ascending}
use Rattle.lemmas.specs.Lists.{AreDistinct}
use Rattle.fact_join.proofs.OrderLemmas.{sorted_ascends, strictly_sorted}
use Rattle.fact_join.specs.Adding.{Adds}
use Rattle.fact_join.specs.Answers.{IsAnswer}
use Rattle.fact_join.specs.Partials.{Agrees}
use Rattle.fact_join.specs.declared.partial.Partial.{Partial}
use Rattle.fact_join.specs.declared.query.QueryAtom.{QueryAtom}
use Rattle.task_model.proofs.KnownLemmas.{numbers_decided}
use Rattle.lemmas.proofs.Distinct.{distinct_permuted}

pub on_ok_then : {T E P : Type 0} (r : Result T E) → is_ok r ≡ true → OnOk r P → P
on_ok_then (Ok x) e h = h
on_ok_then (Err x) e h = absurd (cc)

-- ---- the arguments of one action

some_value : {A : Type 0} (o : Option A) → is_some o ≡ true → (x : A) × (o ≡ Some x)
some_value None e = absurd (cc)
some_value (Some x) e = (x, refl)

is_some-of : {A : Type 0} (o : Option A) (x : A) → o ≡ Some x → is_some o ≡ true
is_some-of o x e = ap is_some e

numbers_tie : (xs ys : List ℕ) → slice_cmp nat_cmp xs ys ≡ Equal → xs ≡ ys
numbers_tie xs ys e = (numbers_decided xs ys).0 (lists_ties nat_cmp unsigned_ties xs ys ∙ ap is_eq e)

-- all of which something holds, each once, and sorted
pub sorted_all : (P : List ℕ → Type 0) (found rows : List (List ℕ)) → Adds P [] found
    → IsPermutation found rows → IsSorted (slice_cmp nat_cmp) rows
    → IsStrictlySortedBy (slice_cmp nat_cmp) rows × ((args : List ℕ) → Contains rows args ↔ P args)
sorted_all P found rows (more, is, all) moved up =
    let distinct : AreDistinct found = subst AreDistinct (sym is) all.distinct in (
      strictly_sorted (slice_cmp nat_cmp) rows
          (sorted_ascends (slice_cmp nat_cmp) nat_list_cmp_total numbers_tie rows
          (distinct_permuted same_numbers numbers_decided found rows moved distinct) up),
      λ args. (
        λ m. (all.each args).0
            (subst (λ xs. Contains xs args) is (Contains-permutation rows found args (IsPermutation-sym found rows moved) m)),
        λ p. Contains-permutation found rows args moved (subst (λ xs. Contains xs args) (sym is) ((all.each args).1 p)),
      ),
    )

module _ (task : Task) (known : Known) (state : Atoms) (action : Action) where
  abbrev takes : List ℕ → Bool
  takes args = can_take task known state action args

  answer_is : (partial : Partial) (atoms : List QueryAtom) → ((slots : List ℕ) → Agrees partial slots)
      → AreNeeded task.domain (tops_of action.condition) atoms → (args : List ℕ)
      → IsAnswer known action.params takes partial atoms args ↔ ((have_types known args action.params ≡ true) × (takes args ≡ true))
  answer_is partial atoms free needed args = (
    λ a. (a.types, a.wanted),
    λ (typed, can). record {
      agrees = free (slots_of args);
      types = typed;
      known_atoms =
          needed.known known (slots_of args)
          ∙ settled_where task.domain known state
          (slots_of args) action.condition (first_so (is_true task.domain known state action.condition (slots_of args)) _ can);
      wanted = can;
    },
  )

  -- the answers, sorted, are the arguments
  pub sorted_arguments : (partial : Partial) (atoms : List QueryAtom) (found rows : List (List ℕ))
      → ((slots : List ℕ) → Agrees partial slots)
      → AreNeeded task.domain (tops_of action.condition) atoms
      → Adds (IsAnswer known action.params takes partial atoms) [] found
      → IsPermutation found rows → IsSorted (slice_cmp nat_cmp) rows → AreArguments task known state action rows
  sorted_arguments partial atoms found rows free needed adds moved up =
      let all = sorted_all (IsAnswer known action.params takes partial atoms) found rows adds moved up in
      let is = answer_is partial atoms free needed in
      record {
        ascending = all.0;
        each = λ args. (λ m. (is args).0 ((all.1 args).0 m), λ p. (all.1 args).1 ((is args).1 p));
      }

-- ---- the steps of one action

nat_cmp-same : (n : ℕ) → nat_cmp n n ≡ Equal
nat_cmp-same n = sym (nat_cmp_is n n Equal refl)

abbrev pub step_with : ℕ → List ℕ → GroundAction
step_with number args = record { action = number; args = args }

from_steps : (number : ℕ) (rows : List (List ℕ)) (step : GroundAction)
    → Contains (map (step_with number) rows) step
    → (args : List ℕ) × Contains rows args × (step ≡ step_with number args)
from_steps number [] step m = absurd (contains_none step m)
from_steps number (args ∷ rows) step m =
    elim (contains_cases (step_with number args) (map (step_with number) rows) step m) [
      | inl e ↦ (args, contains_here args rows, sym e)
      | inr n ↦ let r = from_steps number rows step n in (r.0, contains_later args rows r.0 r.1, r.2)
    ]

in_steps : (number : ℕ) (rows : List (List ℕ)) (args : List ℕ) → Contains rows args
    → Contains (map (step_with number) rows) (step_with number args)
in_steps number [] args m = absurd (contains_none args m)
in_steps number (row ∷ rows) args m =
    elim (contains_cases row rows args m) [
      | inl e ↦ subst (λ r. Contains (map (step_with number) (row ∷ rows)) (step_with number r)) e
          (contains_here (step_with number row) (map (step_with number) rows))
      | inr n ↦ contains_later (step_with number row) (map (step_with number) rows) (step_with number args) (in_steps number rows args n)
    ]

steps_rise : (number : ℕ) (rows : List (List ℕ)) → IsStrictlySortedBy (slice_cmp nat_cmp) rows
    → IsStrictlySortedBy step_cmp (map (step_with number) rows)
unfolding IsStrictlySortedBy
steps_rise number [] up = tt
steps_rise number (row ∷ rows) (first, rest) = (
  all_from (λ step. step_cmp (step_with number row) step ≡ Less) (map (step_with number) rows) (λ step m.
      let r = from_steps number rows step m in
      ap (step_cmp (step_with number row)) r.2 ∙ ap (λ o. ordering_then o (slice_cmp nat_cmp row r.0)) (nat_cmp-same number)
      ∙ all_at (λ args. slice_cmp nat_cmp row args ≡ Less) rows first r.0 r.1),
  steps_rise number rows rest,
)

module _ (task : Task) (known : Known) (state : Atoms) (number : ℕ) (action : Action) where
  pub steps_of_action : slice_get task.domain.actions number ≡ Some action → (rows : List (List ℕ))
      → AreArguments task known state action rows
      → AreStepsOf task known state number (map (step_with number) rows)
  steps_of_action named rows are = record {
    ascending = steps_rise number rows are.ascending;
    each = λ step m.
        let r = from_steps number rows step m in
        let can = (are.each r.0).0 r.1 in
        let value = some_value (cost_of task known action r.0)
        (second_so (is_true task.domain known state action.condition (slots_of r.0)) _ can.1) in
        let is : IsStep task known state (step_with number r.0) (effect_of action r.0 state) value.0 = record {
          action = action;
          named = named;
          typed = can.0;
          condition =
              first_so (is_true task.domain known state action.condition (slots_of r.0)) _ can.1;
          costs = value.1;
          leads = refl;
        } in (
          ap (λ (s : GroundAction). s.action) r.2,
          subst (IsApplicable task known state) (sym r.2)
              (effect_of action r.0 state, value.0, is),
        );
    every = λ step same can.
        let s = can.2 in
        let here : s.action ≡ action = same_Some _ _ (sym s.named ∙ ap (slice_get task.domain.actions) same ∙ named) in
        let typed : have_types known step.args action.params ≡ true =
        ap (λ (a : Action). have_types known step.args a.params) (sym here) ∙ s.typed in
        let condition : is_true task.domain known state action.condition (slots_of step.args) ≡ true =
        ap (λ (a : Action). is_true task.domain known state a.condition (slots_of step.args)) (sym here) ∙ s.condition in
        let costs : is_some (cost_of task known action step.args) ≡ true =
        is_some-of _ can.1 (ap (λ (a : Action). cost_of task known a step.args) (sym here) ∙ s.costs) in
        let is : step_with number step.args ≡ step = λ i. record { action = sym same i; args = step.args } in
        subst (Contains (map (step_with number) rows)) is
        (in_steps number rows step.args ((are.each step.args).1 (typed, and_from _ _ condition costs)));
  }

-- ---- the steps of all actions

module _ (task : Task) (known : Known) (state : Atoms) where
  -- These are the steps of the first actions that can be taken, each once, in order.
  pub record AreListed (below : ℕ) (steps : List GroundAction) : Type 0 where
    pub ascending : IsStrictlySortedBy step_cmp steps
    pub each : (step : GroundAction) → Contains steps step
        → (step.action < below) × IsApplicable task known state step
    pub every : (step : GroundAction) → step.action < below → IsApplicable task known state step
        → Contains steps step

  pub listed_none : AreListed 0 []
  unfolding IsStrictlySortedBy
  listed_none = record { ascending = tt; each = λ step c. absurd (contains_none step c); every = λ step below can. absurd (omega arith) }

  pub listed_next : (number : ℕ) (old new : List GroundAction) → AreListed number old
      → AddsSteps task known state number old new
      → AreListed (number + 1) new
  listed_next number old new are adds = record {
    ascending = subst (IsStrictlySortedBy step_cmp) (sym adds.1)
        (rising_append step_cmp old adds.0 are.ascending adds.2.ascending
        (λ a b c d. by_action a b (omega (arith, (are.each a c).0, (adds.2.each b d).0))));
    each = λ step c.
        elim (Contains-append_cases old adds.0 step (subst (λ xs. Contains xs step) adds.1 c)) [
          | inl h ↦ let at = are.each step h in (omega (arith, at.0), at.1)
          | inr k ↦ let at = adds.2.each step k in (omega (arith, at.0), at.1)
        ];
    every = λ step below can.
        subst (λ xs. Contains xs step) (sym adds.1)
        (elim (at_most step.action number below) [
          | inl h ↦ Contains-append_left old adds.0 step (are.every step h can)
          | inr k ↦ Contains-append_right old adds.0 step (adds.2.every step k can)
        ]);
  }
    where
      at_most : (a n : ℕ) → a < n + 1 → (a < n) ⊎ (a ≡ n)
      at_most a n h = elim (cases_lt a n) [ inl k ↦ inl k | inr k ↦ inr (omega arith) ]

      by_action : (a b : GroundAction) → a.action < b.action → step_cmp a b ≡ Less
      by_action a b h = ap (λ r. ordering_then r (slice_cmp nat_cmp a.args b.args)) (sym (nat_cmp_is a.action b.action Less h))

  pub all_listed : (number : ℕ) (steps : List GroundAction) → length task.domain.actions ≤ number
      → AreListed number steps
      → AreApplicable task known state steps
  all_listed number steps end are = record {
    ascending = ascending step_cmp steps are.ascending;
    each = λ k d h. (are.each _ (All-contains_itself steps k d h)).1;
    every = λ step can. are.every step (omega (arith, end, slice_get_within task.domain.actions step.action can.2.action can.2.named)) can;
  }
