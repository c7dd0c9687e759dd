-- The arguments that what is static allows, and those of them with which an action can be taken.
use Rattle.std.proofs.Common.{◌≡◌, ℕ, Bool, true, List, [], is_some, refl, sym, ◌∙◌, Contains}
use Rattle.std.proofs.lemmas.Bool.{and_from}
use Rattle.std.proofs.lemmas.List.Kept.{IsStrictlySortedBy-filter}
use Rattle.std.specs.Cmp.{first_so, second_so}
use Rattle.std.specs.Cmp.Lexicographic.{slice_cmp}
use Rattle.std.specs.List.{list_all, filter}
use Rattle.std.specs.List.Sorted.{IsPermutation, IsSorted}
use Rattle.std.specs.Ordering.{nat_cmp}
use Rattle.fact_join.proofs.FactLemmas.{into_filter, from_filter}
use Rattle.fact_join.specs.Adding.{Adds}
use Rattle.fact_join.specs.Answers.{IsAnswer}
use Rattle.fact_join.specs.Partials.{Agrees}
use Rattle.fact_join.specs.declared.partial.Partial.{Partial}
use Rattle.fact_join.specs.declared.query.QueryAtom.{QueryAtom}
use Rattle.grounder.proofs.ListingLemmas.{sorted_all}
use Rattle.grounder.proofs.PartsLemmas.{settled_where, true_where}
use Rattle.grounder.specs.Candidates.{AreCandidateRows, can_go_on, is_part_open}
use Rattle.grounder.specs.Listing.{AreArguments, can_take}
use Rattle.grounder.specs.Parts.{AreNeeded, is_settled, tops_of}
use Rattle.task_model.specs.Known.{Known}
use Rattle.task_model.specs.State.{Atoms}
use Rattle.task_model.specs.Steps.{cost_of}
use Rattle.task_model.specs.Truth.{slots_of, have_types, is_true}
use Rattle.task_model.specs.declared.domain.Action.{Action}
use Rattle.task_model.specs.declared.domain.Domain.{Domain}
use Rattle.task_model.specs.declared.task.Task.{Task}

-- the answers, sorted, are the rows
pub sorted_rows : (domain : Domain) (known : Known) (action : Action) (partial : Partial)
    (atoms : List QueryAtom) (found rows : List (List ℕ))
    → ((slots : List ℕ) → Agrees partial slots) → AreNeeded domain (tops_of action.condition) atoms
    → Adds (IsAnswer known action.params (λ _. true) partial atoms) [] found
    → IsPermutation found rows → IsSorted (slice_cmp nat_cmp) rows → AreCandidateRows domain known action rows
sorted_rows domain known action partial atoms found rows free needed adds moved up =
    let all = sorted_all (IsAnswer known action.params (λ _. true) partial atoms) found rows adds moved up in
    record {
      ascending = all.0;
      each = λ args. (
        λ m.
            let a = (all.1 args).0 m in
            (a.types, sym (needed.known known (slots_of args)) ∙ a.known_atoms),
        λ (typed, settled).
            (all.1 args).1 (record {
              agrees = free (slots_of args);
              types = typed;
              known_atoms = needed.known known (slots_of args) ∙ settled;
              wanted = refl;
            }),
      );
    }

module _ (task : Task) (known : Known) (state : Atoms) (action : Action) where
  abbrev pub goes : List ℕ → Bool
  goes args = can_go_on task known state action args

  -- those of the rows of which the rest is true are the arguments with which the action can be taken
  pub going_rows : (rows : List (List ℕ)) → AreCandidateRows task.domain known action rows
      → AreArguments task known state action (filter goes rows)
  going_rows rows are = record {
    ascending = IsStrictlySortedBy-filter (slice_cmp nat_cmp) goes rows are.ascending;
    each = λ args. (λ m. to args (from_filter goes rows args m), λ p. from args p);
  }
    where
      settled : List ℕ → Bool
      settled args =
          list_all (is_settled task.domain known (slots_of args)) (tops_of action.condition)

      left : List ℕ → Bool
      left args =
          list_all (is_part_open task.domain known state (slots_of args)) (tops_of action.condition)

      priced : List ℕ → Bool
      priced args = is_some (cost_of task known action args)

      to : (args : List ℕ) → Contains rows args × (goes args ≡ true)
          → (have_types known args action.params ≡ true) × (can_take task known state action args ≡ true)
      to args (m, g) =
          let row = (are.each args).0 m in (
            row.0,
            and_from (is_true task.domain known state action.condition (slots_of args)) (priced args)
                (true_where task.domain known state (slots_of args) action.condition
                ∙ and_from (settled args) (left args) row.1 (first_so (left args) (priced args) g))
                (second_so (left args) (priced args) g),
          )

      from : (args : List ℕ)
          → (have_types known args action.params ≡ true) × (can_take task known state action args ≡ true)
          → Contains (filter goes rows) args
      from args (typed, can) =
          let t = first_so (is_true task.domain known state action.condition (slots_of args)) (priced args) can in
          let s = settled_where task.domain known state (slots_of args) action.condition t in
          let l = second_so (settled args) (left args) (sym (true_where task.domain known state (slots_of args) action.condition) ∙ t) in
          into_filter goes rows args ((are.each args).1 (typed, s))
          (and_from (left args) (priced args) l
          (second_so (is_true task.domain known state action.condition (slots_of args)) (priced args) can))
