-- The goal and the `:init` of a problem without faults.
use Rattle.std.proofs.Common.{◌≡◌, ℕ, ◌+◌, ◌≤◌, Bool, true, false, cond, [], ◌++◌, refl, arith}
use Rattle.lemmas.proofs.Members.{append_nil_second, none_both}
use Rattle.sexpr_text.specs.Trees.{Trees, nothing, word, list, depth, size}
use Rattle.task_model.specs.Fit.{is_fit_condition}
use Rattle.task_model.specs.declared.domain.Domain.{Domain}
use Rattle.form_reader.proofs.RowsLemmas.{tail_small, tail_shallow}
use Rattle.form_reader.specs.declared.items.Item.{Item}
use Rattle.form_reader.specs.declared.items.Item.TheVariants as item
use Rattle.form_reader.specs.declared.items.TextKind.TheVariants as text
use Rattle.form_reader.specs.Atoms.{facts_faults}
use Rattle.form_reader.specs.Conditions.{single_faults}
use Rattle.form_reader.specs.Items.{body_faults, item_faults, item_of, items_faults}
use Rattle.form_reader.specs.Rows.{head_of, tail_of}
use Rattle.name_tables.specs.Conditions.{conditions_names}
use Rattle.name_tables.specs.declared.vocabulary.Vocabulary.{Vocabulary}
use Rattle.name_tables.proofs.FitConditions.{single_fits}
use Rattle.name_tables.proofs.FitTerms.{Knows, filled_first}
use Rattle.problem_reader.specs.Names.{problem_body_names, facts_names, problem_items_names}
use Rattle.problem_reader.specs.Problems.{condition_of, goal_of, init_of, is_goal}
use Rattle.problem_reader.specs.Values.{is_init, nothing_given, row_names, row_put, values_names}

module _ (v : Vocabulary) (d : Domain) where
  -- ---- the goal

  -- a goal without faults
  record IsGoal (rest : Trees) : Type 0 where
    place : ℕ
    formed : single_faults place rest ≡ []
    named : conditions_names v [] rest ≡ []

  goal_by : (it : Item) (place at : ℕ) (rest : Trees) → is_goal it ≡ true
      → body_faults it place at rest ≡ [] → problem_body_names v d it rest ≡ [] → IsGoal rest
  goal_by item.Goal place at rest e f g = record { place = place; formed = f; named = g }
  goal_by it place at rest e f g = absurd (cc)

  is_good_goal : (place : ℕ) (items : Trees) → item_faults text.Problem place items ≡ []
      → problem_body_names v d (item_of text.Problem (head_of items)) (tail_of items) ≡ []
      → is_goal (item_of text.Problem (head_of items)) ≡ true → IsGoal (tail_of items)
  is_good_goal place nothing f g e = absurd (cc)
  is_good_goal place (list items at rest) f g e = absurd (cc)
  is_good_goal place (word w at rest) f g e = goal_by (item_of text.Problem w) place at rest e f g

  module _ (objects : ℕ) (knows : Knows v d objects) where
    abbrev IsFitGoal : Trees → Type 0
    IsFitGoal rest = is_fit_condition d objects [] (condition_of v rest) ≡ true

    goal_here : (b : Bool) (rest behind : Trees) → size rest ≤ 8388608 → depth rest ≤ 64
        → (b ≡ true → IsGoal rest) → IsFitGoal behind → IsFitGoal (cond b rest behind)
    goal_here true rest behind small shallow is more =
        single_fits v d objects knows [] [] (filled_first 0) (omega arith) (is refl).place rest small shallow
        (is refl).formed (is refl).named
    goal_here false rest behind small shallow is more = more

    pub goal_fit : (body : Trees) → size body ≤ 8388608 → depth body ≤ 64
        → items_faults text.Problem body ≡ [] → problem_items_names v d body ≡ [] → IsFitGoal (goal_of body)
    goal_fit nothing small shallow e f = refl
    goal_fit (word w at rest) small shallow e f = absurd (cc)
    goal_fit (list items at rest) small shallow e f =
        let it : Item = item_of text.Problem (head_of items) in
        let forms = none_both (item_faults text.Problem at items) (items_faults text.Problem rest) e in
        let names = none_both (problem_body_names v d it (tail_of items)) (problem_items_names v d rest) f in
        goal_here (is_goal it) (tail_of items) (goal_of rest) (omega (arith, tail_small items, small))
        (omega (arith, tail_shallow items, shallow)) (is_good_goal at items forms.0 names.0)
        (goal_fit rest (omega (arith, small)) (omega (arith, shallow)) forms.1 names.1)

  -- ---- the initial facts and values

  -- facts and values without faults
  pub record IsInit (rest : Trees) : Type 0 where
    pub formed : facts_faults rest ≡ []
    pub named : facts_names v d.roles rest ≡ []
    pub valued : row_names nothing_given rest ≡ []

  pub record IsFormed (rest : Trees) : Type 0 where
    pub formed : facts_faults rest ≡ []
    pub named : facts_names v d.roles rest ≡ []

  init_by : (it : Item) (place at : ℕ) (rest : Trees) → is_init it ≡ true
      → body_faults it place at rest ≡ [] → problem_body_names v d it rest ≡ [] → IsFormed rest
  init_by item.Init place at rest e f g =
      record { formed = append_nil_second _ (facts_faults rest) f; named = g }
  init_by it place at rest e f g = absurd (cc)

  is_good_init : (place : ℕ) (items : Trees) → item_faults text.Problem place items ≡ []
      → problem_body_names v d (item_of text.Problem (head_of items)) (tail_of items) ≡ []
      → is_init (item_of text.Problem (head_of items)) ≡ true → IsFormed (tail_of items)
  is_good_init place nothing f g e = absurd (cc)
  is_good_init place (list items at rest) f g e = absurd (cc)
  is_good_init place (word w at rest) f g e = init_by (item_of text.Problem w) place at rest e f g

  init_here : (b : Bool) (rest behind more : Trees) → (b ≡ true → IsFormed rest)
      → (cond b (row_names nothing_given rest) [] ++ values_names (cond b (row_put nothing_given rest) nothing_given) more ≡ [])
      → (values_names nothing_given more ≡ [] → IsInit behind) → IsInit (cond b rest behind)
  init_here true rest behind more is e next = record {
    formed = (is refl).formed;
    named = (is refl).named;
    valued = (none_both (row_names nothing_given rest) (values_names (row_put nothing_given rest) more) e).0;
  }
  init_here false rest behind more is e next = next e

  pub init_good : (body : Trees) → items_faults text.Problem body ≡ [] → problem_items_names v d body ≡ []
      → values_names nothing_given body ≡ [] → IsInit (init_of body)
  init_good nothing e f g = record { formed = refl; named = refl; valued = refl }
  init_good (word w at rest) e f g = absurd (cc)
  init_good (list items at rest) e f g =
      let it : Item = item_of text.Problem (head_of items) in
      let forms = none_both (item_faults text.Problem at items) (items_faults text.Problem rest) e in
      let names = none_both (problem_body_names v d it (tail_of items)) (problem_items_names v d rest) f in
      init_here (is_init it) (tail_of items) (init_of rest) rest (is_good_init at items forms.0 names.0) g (init_good rest forms.1 names.1)

init_less : (b : Bool) (rest behind : Trees) (n : ℕ) → size rest ≤ n → size behind ≤ n
    → size (cond b rest behind) ≤ n
init_less true rest behind n h k = h
init_less false rest behind n h k = k

pub init_small : (body : Trees) → size (init_of body) ≤ size body
init_small nothing = omega arith
init_small (word w at rest) = omega (arith, init_small rest)
init_small (list items at rest) =
    init_less (is_init (item_of text.Problem (head_of items))) (tail_of items) (init_of rest)
    (size items + 2 + size rest) (omega (arith, tail_small items)) (omega (arith, init_small rest))
