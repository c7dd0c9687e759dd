-- What words there are.
use Rattle.std.specs.Prelude.{ℕ, Bool, true, false, ◌&&◌, ◌||◌, ◌==◌, not, if◌then◌else◌, List, [], ◌∷◌, codes}
use Rattle.std.specs.Char.{is_ascii_digit}
use Rattle.std.specs.Str.{bytes_eq}
use Rattle.task_model.specs.Fit.{is_name}
use Rattle.form_reader.specs.declared.words.WordSort.{WordSort}
use Rattle.form_reader.specs.declared.words.WordSort.TheVariants as sorts
use Rattle.form_reader.specs.declared.words.ConditionHead.{ConditionHead}
use Rattle.form_reader.specs.declared.words.ConditionHead.TheVariants as conditions
use Rattle.form_reader.specs.declared.words.EffectHead.{EffectHead}
use Rattle.form_reader.specs.declared.words.EffectHead.TheVariants as effects

-- `?` and a name
abbrev pub is_variable : List ℕ → Bool
is_variable [] = false
is_variable (b ∷ bs) = (b == 63) && is_name bs

-- a word that begins with `:`
abbrev pub is_keyword : List ℕ → Bool
is_keyword [] = false
is_keyword (b ∷ bs) = b == 58

abbrev pub begins_with_digit : List ℕ → Bool
begins_with_digit [] = false
begins_with_digit (b ∷ bs) = is_ascii_digit b

-- the heads of conditions that PDDL has and that aren't names of predicates
unfoldable pub is_connective : List ℕ → Bool
is_connective w =
    bytes_eq w (codes "and") || bytes_eq w (codes "or") || bytes_eq w (codes "not") || bytes_eq w (codes "exists")
    || bytes_eq w (codes "forall") || bytes_eq w (codes "imply") || bytes_eq w (codes "when")
    || bytes_eq w (codes "preference")

-- the further words that aren't names of predicates: heads of effects, and `either`
unfoldable pub is_change : List ℕ → Bool
is_change w =
    bytes_eq w (codes "increase") || bytes_eq w (codes "decrease") || bytes_eq w (codes "assign")
    || bytes_eq w (codes "scale-up") || bytes_eq w (codes "scale-down") || bytes_eq w (codes "either")

-- which words name predicates: names but for the heads that PDDL has
abbrev pub is_predicate_name : List ℕ → Bool
is_predicate_name w = is_name w && not (is_connective w) && not (is_change w)

-- whether a word may stand in a place of this sort
abbrev pub is_of : WordSort → List ℕ → Bool
is_of sorts.Any w = true
is_of sorts.Name w = is_name w
is_of sorts.Predicate w = is_predicate_name w
is_of sorts.Variable w = is_variable w
is_of sorts.Term w = is_name w || is_variable w

-- the heads of conditions that this project's profile leaves out
unfoldable pub is_refused_condition : List ℕ → Bool
is_refused_condition w =
    bytes_eq w (codes "forall") || bytes_eq w (codes "imply") || bytes_eq w (codes "when")
    || bytes_eq w (codes "preference") || bytes_eq w (codes "<") || bytes_eq w (codes ">")
    || bytes_eq w (codes "<=") || bytes_eq w (codes ">=")

unfoldable pub condition_head_of : List ℕ → ConditionHead
condition_head_of w =
    if bytes_eq w (codes "and") then conditions.And else
    if bytes_eq w (codes "or") then conditions.Or else
    if bytes_eq w (codes "not") then conditions.Not else
    if bytes_eq w (codes "exists") then conditions.Exists else
    if bytes_eq w (codes "=") then conditions.Equal else
    if is_refused_condition w then conditions.Refused else conditions.Atom

-- the heads of effects that this project's profile leaves out
unfoldable pub is_refused_effect : List ℕ → Bool
is_refused_effect w =
    bytes_eq w (codes "forall") || bytes_eq w (codes "when") || bytes_eq w (codes "assign")
    || bytes_eq w (codes "decrease") || bytes_eq w (codes "scale-up") || bytes_eq w (codes "scale-down")

unfoldable pub effect_head_of : List ℕ → EffectHead
effect_head_of w =
    if bytes_eq w (codes "and") then effects.And else
    if bytes_eq w (codes "not") then effects.Not else
    if bytes_eq w (codes "increase") then effects.Increase else
    if is_refused_effect w then effects.Refused else effects.Atom

-- the heads that a list in a stream's atoms may not have
unfoldable pub is_refused_in_atoms : List ℕ → Bool
is_refused_in_atoms w =
    bytes_eq w (codes "not") || bytes_eq w (codes "or") || bytes_eq w (codes "exists") || bytes_eq w (codes "forall")
    || bytes_eq w (codes "=")
