-- The forms of conditions (PDDL 2.1).
use Rattle.std.specs.Prelude.{ℕ, List, [], ◌∷◌, ◌++◌}
use Rattle.sexpr_text.specs.Trees.{Trees, nothing, word, list}
use Rattle.form_reader.specs.declared.fault.Fault.{Fault}
use Rattle.form_reader.specs.declared.groups.Spot.TheVariants.{Start}
use Rattle.form_reader.specs.declared.words.ConditionHead.{ConditionHead}
use Rattle.form_reader.specs.declared.words.ConditionHead.TheVariants.{And, Or, Not, Exists, Equal, Refused, Atom}
use Rattle.form_reader.specs.declared.words.WordSort.TheVariants.{Predicate, Term, Variable}
use Rattle.form_reader.specs.Faults.{shape, unsupported}
use Rattle.form_reader.specs.Rows.{application_faults, end_faults, groups_faults, two_faults}
use Rattle.form_reader.specs.Words.{condition_head_of}

-- what the head of a condition chooses
abbrev pub by_condition : {A : Type 0} → ConditionHead
    → (parts single quantified equal refused atom : A) → A
by_condition And parts single quantified equal refused atom = parts
by_condition Or parts single quantified equal refused atom = parts
by_condition Not parts single quantified equal refused atom = single
by_condition Exists parts single quantified equal refused atom = quantified
by_condition Equal parts single quantified equal refused atom = equal
by_condition Refused parts single quantified equal refused atom = refused
by_condition Atom parts single quantified equal refused atom = atom

abbrev mutual
  -- cond*
  pub conditions_faults : Trees → List Fault
  conditions_faults nothing = []
  conditions_faults (word text at rest) = shape at ∷ []
  conditions_faults (list items at rest) = condition_faults at items ++ conditions_faults rest

  -- () | (NAME term*) | (= term term) | (and cond*) | (or cond*) | (not cond) | (exists (vars) cond)
  pub condition_faults : ℕ → Trees → List Fault
  condition_faults place nothing = []
  condition_faults place (word text at rest) =
      by_condition (condition_head_of text) (conditions_faults rest)
      (single_faults place rest) (exists_faults place rest) (two_faults Term place rest) (unsupported place ∷ [])
      (application_faults Predicate Term place (word text at rest))
  condition_faults place (list items at rest) = shape at ∷ []

  -- one condition, and nothing more
  pub single_faults : ℕ → Trees → List Fault
  single_faults place nothing = shape place ∷ []
  single_faults place (word text at rest) = shape at ∷ []
  single_faults place (list items at rest) = condition_faults at items ++ end_faults rest

  -- (vars) cond
  pub exists_faults : ℕ → Trees → List Fault
  exists_faults place nothing = shape place ∷ []
  exists_faults place (word text at rest) = shape at ∷ []
  exists_faults place (list items at rest) =
      groups_faults Variable at Start items ++ single_faults place rest
