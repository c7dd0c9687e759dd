-- Conditions: their name faults, and what they are (PDDL 2.1).
use Rattle.std.specs.Prelude.{ℕ, List, [], ◌∷◌, ◌++◌, length}
use Rattle.sexpr_text.specs.Trees.{Trees, nothing, word, list}
use Rattle.task_model.specs.Condition.{Condition, Conditions, Atom, Equal, All as every, Any, Not, Exists, none, more}
use Rattle.task_model.specs.declared.condition.Term.{Term}
use Rattle.form_reader.specs.declared.fault.Fault.{Fault}
use Rattle.form_reader.specs.declared.groups.Spot.TheVariants.{Start}
use Rattle.form_reader.specs.declared.words.ConditionHead.{ConditionHead}
use Rattle.form_reader.specs.declared.words.ConditionHead.TheVariants as head
use Rattle.form_reader.specs.Conditions.{by_condition}
use Rattle.form_reader.specs.Words.{condition_head_of}
use Rattle.name_tables.specs.Terms.{application_names, declared_place, terms_names, terms_of}
use Rattle.name_tables.specs.Variables.{named_sorts, named_words, variables_names}
use Rattle.name_tables.specs.declared.vocabulary.Vocabulary.{Vocabulary}

-- the condition that is always true
abbrev pub truth : Condition
truth = every none

abbrev pub equal_of : List Term → Condition
equal_of [] = truth
equal_of (s ∷ []) = Equal s s
equal_of (s ∷ t ∷ ts) = Equal s t

-- what the head of a condition makes of it
abbrev pub condition_by : ConditionHead
    → (parts : Conditions) (single quantified equal atom : Condition) → Condition
condition_by head.And parts single quantified equal atom = every parts
condition_by head.Or parts single quantified equal atom = Any parts
condition_by head.Not parts single quantified equal atom = Not single
condition_by head.Exists parts single quantified equal atom = quantified
condition_by head.Equal parts single quantified equal atom = equal
condition_by head.Refused parts single quantified equal atom = truth
condition_by head.Atom parts single quantified equal atom = atom

module _ (v : Vocabulary) where
  abbrev mutual
    -- conditions in a row, with these variables in scope
    pub conditions_names : List (List ℕ) → Trees → List Fault
    conditions_names scope nothing = []
    conditions_names scope (word text at rest) = conditions_names scope rest
    conditions_names scope (list items at rest) =
        condition_names scope at items ++ conditions_names scope rest

    -- the condition that the list at a place is
    pub condition_names : List (List ℕ) → ℕ → Trees → List Fault
    condition_names scope place nothing = []
    condition_names scope place (word text at rest) =
        by_condition (condition_head_of text) (conditions_names scope rest)
        (conditions_names scope rest) (exists_names scope rest) (terms_names v.objects scope rest) []
        (application_names v.predicates v.objects scope place (word text at rest))
    condition_names scope place (list items at rest) = []

    -- variables, and then a condition in which they are in scope too
    pub exists_names : List (List ℕ) → Trees → List Fault
    exists_names scope nothing = []
    exists_names scope (word text at rest) = []
    exists_names scope (list items at rest) =
        variables_names v.sorts (length scope) items
        ++ conditions_names (scope ++ named_words Start items) rest

  abbrev mutual
    pub conditions_of : List (List ℕ) → Trees → Conditions
    conditions_of scope nothing = none
    conditions_of scope (word text at rest) = conditions_of scope rest
    conditions_of scope (list items at rest) =
        more (condition_of scope items) (conditions_of scope rest)

    pub condition_of : List (List ℕ) → Trees → Condition
    condition_of scope nothing = truth
    condition_of scope (word text at rest) =
        condition_by (condition_head_of text) (conditions_of scope rest) (single_of scope rest)
        (exists_of scope rest) (equal_of (terms_of v.objects scope rest))
        (Atom (declared_place v.predicates text) (terms_of v.objects scope rest))
    condition_of scope (list items at rest) = truth

    -- the first condition of a row
    pub single_of : List (List ℕ) → Trees → Condition
    single_of scope nothing = truth
    single_of scope (word text at rest) = truth
    single_of scope (list items at rest) = condition_of scope items

    -- the variables have the slots after those in scope
    pub exists_of : List (List ℕ) → Trees → Condition
    exists_of scope nothing = truth
    exists_of scope (word text at rest) = truth
    exists_of scope (list items at rest) =
        Exists (length scope) (named_sorts v.sorts Start 0 items) (single_of (scope ++ named_words Start items) rest)
