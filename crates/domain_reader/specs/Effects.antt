-- Effects: their name faults, and what they do (PDDL 2.1, IPC 2008).
use Rattle.std.specs.Prelude.{ℕ, Bool, ◌&&◌, not, if◌then◌else◌, List, [], ◌∷◌, ◌++◌}
use Rattle.std.specs.Str.Parse.{digits_value}
use Rattle.sexpr_text.specs.Trees.{Trees, nothing, word, list}
use Rattle.task_model.specs.declared.domain.CostTerm.{CostTerm}
use Rattle.task_model.specs.declared.domain.CostTerm.TheVariants.{Number, Value}
use Rattle.task_model.specs.declared.domain.Pattern.{Pattern}
use Rattle.form_reader.specs.declared.fault.Fault.{Fault}
use Rattle.form_reader.specs.declared.fault.InputKind.TheVariants.{EffectOnStatic}
use Rattle.form_reader.specs.Effects.{by_effect}
use Rattle.form_reader.specs.Rows.{head_of, inner_of, tail_of}
use Rattle.task_model.specs.Numbers.{is_number}
use Rattle.form_reader.specs.Words.{effect_head_of}
use Rattle.name_tables.specs.Names.{has_name}
use Rattle.name_tables.specs.Terms.{application_names, declared_place, pattern_of, terms_of}
use Rattle.name_tables.specs.Variables.{unless}
use Rattle.name_tables.specs.declared.vocabulary.Vocabulary.{Vocabulary}

-- a predicate that is there and that a `:derived` item heads
abbrev pub is_derived_name : Vocabulary → List (List ℕ) → List ℕ → Bool
is_derived_name v heads name = has_name name heads && has_name name v.predicates.names

-- the function term in a row, if there is one
abbrev pub cost_names : Vocabulary → List (List ℕ) → Trees → List Fault
cost_names v scope nothing = []
cost_names v scope (word text at rest) = []
cost_names v scope (list items at rest) = application_names v.functions v.objects scope at items

module _ (v : Vocabulary) (heads scope : List (List ℕ)) where
  -- an atom that an effect adds or takes away, as the list at this place
  abbrev pub changed_names : ℕ → Trees → List Fault
  changed_names place items =
      application_names v.predicates v.objects scope place items
      ++ unless (not (is_derived_name v heads (head_of items))) EffectOnStatic place

  -- the atom in a row
  abbrev pub negated_names : Trees → List Fault
  negated_names nothing = []
  negated_names (word text at rest) = []
  negated_names (list items at rest) = changed_names at items

  abbrev mutual
    pub effects_names : Trees → List Fault
    effects_names nothing = []
    effects_names (word text at rest) = effects_names rest
    effects_names (list items at rest) = effect_names at items ++ effects_names rest

    -- the effect that the list at a place is
    pub effect_names : ℕ → Trees → List Fault
    effect_names place nothing = []
    effect_names place (word text at rest) =
        by_effect (effect_head_of text) (effects_names rest) (negated_names rest)
        (cost_names v scope (tail_of rest)) [] (changed_names place (word text at rest))
    effect_names place (list items at rest) = []

-- What effects do: the atoms that they add and take away, and what they cost, in the order of the text.
pub record Done : Type 0 where
  pub adds : List Pattern
  pub deletes : List Pattern
  pub costs : List CostTerm

module _ (v : Vocabulary) (scope : List (List ℕ)) where
  -- a number, or a function term
  abbrev pub cost_term_of : Trees → CostTerm
  cost_term_of nothing = Number 0
  cost_term_of (word text at rest) = Number (if is_number text then digits_value 10 text else 0)
  cost_term_of (list items at rest) =
      Value (declared_place v.functions (head_of items)) (terms_of v.objects scope (tail_of items))

  abbrev pub added : Done → Trees → Done
  added c items = record c { adds = c.adds ++ pattern_of v scope items ∷ [] }

  abbrev pub taken : Done → Trees → Done
  taken c items = record c { deletes = c.deletes ++ pattern_of v scope items ∷ [] }

  abbrev pub charged : Done → Trees → Done
  charged c rest = record c { costs = c.costs ++ cost_term_of rest ∷ [] }

  -- what was done so far, and then these effects
  abbrev mutual
    pub after_effects : Done → Trees → Done
    after_effects c nothing = c
    after_effects c (word text at rest) = after_effects c rest
    after_effects c (list items at rest) = after_effects (after_effect c items) rest

    pub after_effect : Done → Trees → Done
    after_effect c nothing = c
    after_effect c (word text at rest) =
        by_effect (effect_head_of text) (after_effects c rest) (taken c (inner_of rest))
        (charged c (tail_of rest)) c (added c (word text at rest))
    after_effect c (list items at rest) = c
