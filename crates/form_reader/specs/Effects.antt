-- The forms of effects (PDDL 2.1, IPC 2008).
use Rattle.std.specs.Prelude.{ℕ, Bool, false, ◌&&◌, not, if◌then◌else◌, List, [], ◌∷◌, ◌++◌, codes}
use Rattle.std.specs.Str.{bytes_eq}
use Rattle.task_model.specs.Fit.{is_name}
use Rattle.sexpr_text.specs.Trees.{Trees, nothing, word, list}
use Rattle.form_reader.specs.declared.fault.Fault.{Fault}
use Rattle.form_reader.specs.declared.words.EffectHead.{EffectHead}
use Rattle.form_reader.specs.declared.words.EffectHead.TheVariants.{And, Not, Increase, Refused, Atom}
use Rattle.form_reader.specs.declared.words.WordSort.TheVariants.{Name, Predicate, Term}
use Rattle.form_reader.specs.Faults.{shape, unsupported, number}
use Rattle.form_reader.specs.Rows.{application_faults, end_faults}
use Rattle.task_model.specs.Numbers.{is_number}
use Rattle.form_reader.specs.Words.{effect_head_of}

-- one atom, and nothing more
abbrev pub negated_faults : ℕ → Trees → List Fault
negated_faults place nothing = shape place ∷ []
negated_faults place (word text at rest) = shape at ∷ []
negated_faults place (list items at rest) =
    application_faults Predicate Term at items ++ end_faults rest

abbrev pub is_total_cost : List ℕ → Bool
is_total_cost text = bytes_eq text (codes "total-cost")

-- a list that begins with the name of a function other than `total-cost`
abbrev pub is_other_function : Trees → Bool
is_other_function nothing = false
is_other_function (word text at rest) = is_name text && not (is_total_cost text)
is_other_function (list items at rest) = false

-- the word `total-cost`, and nothing more
abbrev pub total_cost_faults : ℕ → Trees → List Fault
total_cost_faults place nothing = shape place ∷ []
total_cost_faults place (word text at rest) =
    if is_total_cost text then end_faults rest else shape at ∷ []
total_cost_faults place (list items at rest) = shape at ∷ []

-- a number or a function term, and nothing more
abbrev pub cost_faults : ℕ → Trees → List Fault
cost_faults place nothing = shape place ∷ []
cost_faults place (word text at rest) = if is_number text then end_faults rest else number at ∷ []
cost_faults place (list items at rest) = application_faults Name Term at items ++ end_faults rest

-- (total-cost) cost
abbrev pub increase_faults : ℕ → Trees → List Fault
increase_faults place nothing = shape place ∷ []
increase_faults place (word text at rest) = shape at ∷ []
increase_faults place (list items at rest) =
    if is_other_function items then unsupported place ∷ [] else total_cost_faults at items ++ cost_faults place rest

-- what the head of an effect chooses
abbrev pub by_effect : {A : Type 0} → EffectHead → (parts negated increased refused atom : A) → A
by_effect And parts negated increased refused atom = parts
by_effect Not parts negated increased refused atom = negated
by_effect Increase parts negated increased refused atom = increased
by_effect Refused parts negated increased refused atom = refused
by_effect Atom parts negated increased refused atom = atom

abbrev mutual
  -- eff*
  pub effects_faults : Trees → List Fault
  effects_faults nothing = []
  effects_faults (word text at rest) = shape at ∷ []
  effects_faults (list items at rest) = effect_faults at items ++ effects_faults rest

  -- () | (and eff*) | (NAME term*) | (not (NAME term*)) | (increase (total-cost) cost)
  pub effect_faults : ℕ → Trees → List Fault
  effect_faults place nothing = []
  effect_faults place (word text at rest) =
      by_effect (effect_head_of text) (effects_faults rest) (negated_faults place rest)
      (increase_faults place rest) (unsupported place ∷ [])
      (application_faults Predicate Term place (word text at rest))
  effect_faults place (list items at rest) = shape at ∷ []
