-- Names in groups take bytes of the text.
use Rattle.std.proofs.Common.{◌≡◌, ℕ, ◌+◌, ◌≤◌, Bool, true, false, cond, not, List, [], ◌∷◌, length, refl, arith}
use Rattle.sexpr_text.specs.Trees.{Trees, nothing, word, list, size}
use Rattle.task_model.specs.Fit.{is_name}
use Rattle.form_reader.specs.declared.groups.Spot.{Spot}
use Rattle.form_reader.specs.declared.groups.Spot.TheVariants.{Start, Named, Typed}
use Rattle.form_reader.specs.declared.words.WordSort.TheVariants.{Name}
use Rattle.form_reader.specs.Faults.{shape}
use Rattle.form_reader.specs.Rows.{after_word, can_stand, groups_faults, is_dash}
use Rattle.name_tables.specs.Variables.{is_named, named_words}
use Rattle.name_tables.proofs.NoFaultLemmas.{chosen}

stands_by : (b : Bool) (w : List ℕ) → cond b true (is_name w) ≡ true → not b ≡ true
    → is_name w ≡ true
stands_by true w e f = absurd (cc)
stands_by false w e f = e

stands : (spot : Spot) (w : List ℕ) → can_stand Name spot w ≡ true → is_named spot w ≡ true
    → is_name w ≡ true
stands Start w e f = e
stands Named w e f = stands_by (is_dash w) w e f
stands Typed w e f = absurd (cc)

pub name_long : (w : List ℕ) → is_name w ≡ true → 1 ≤ length w
name_long [] e = absurd (cc)
name_long (c ∷ cs) e = omega arith

length_step : (b : Bool) (w : List ℕ) (ws : List (List ℕ)) (n : ℕ) → (b ≡ true → is_name w ≡ true)
    → length ws ≤ n → length (cond b (w ∷ ws) ws) ≤ length w + n
length_step true w ws n e h = omega (arith, name_long w (e refl))
length_step false w ws n e h = omega arith

-- each name takes a byte
pub words_length : (place : ℕ) (spot : Spot) (ts : Trees) → groups_faults Name place spot ts ≡ []
    → length (named_words spot ts) ≤ size ts
words_length place spot nothing e = omega arith
words_length place spot (list items at rest) e = omega arith
words_length place spot (word w at rest) e =
    let c = chosen (can_stand Name spot w) (groups_faults Name place (after_word spot w) rest) (shape at) [] e in
    length_step (is_named spot w) w (named_words (after_word spot w) rest) (size rest)
    (stands spot w c.0) (words_length place (after_word spot w) rest c.1)
