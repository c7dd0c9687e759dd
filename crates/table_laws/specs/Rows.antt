-- What stands in a row of trees: its words, its lists, and the names of groups.
use Rattle.std.specs.Prelude.{◌≡◌, ◌⊎◌, ℕ, List, codes}
use Rattle.sexpr_text.specs.Trees.{Trees, nothing, word, list}
use Rattle.form_reader.specs.Rows.{head_of, tail_of}
use Rattle.form_reader.specs.declared.groups.Spot.{Spot}
use Rattle.form_reader.specs.declared.groups.Spot.TheVariants.{Start, Named, Typed}

-- the word stands in the row
abbrev pub HasWord : List ℕ → Trees → Type 0
HasWord text nothing = ⊥
HasWord text (word other at rest) = (text ≡ other) ⊎ HasWord text rest
HasWord text (list items at rest) = HasWord text rest

-- the list of these trees stands in the row
abbrev pub HasList : Trees → Trees → Type 0
HasList items nothing = ⊥
HasList items (word text at rest) = HasList items rest
HasList items (list other at rest) = (items ≡ other) ⊎ HasList items rest

-- A list that begins with this word stands in the row, and this stands behind that word.
pub record HasItem (key : List ℕ) (row behind : Trees) : Type 0 where
  pub items : Trees
  pub there : HasList items row
  pub head : head_of items ≡ key
  pub is : behind ≡ tail_of items

-- The name is one of groups in a row: each is a name and further names, up to a `-` with a type, or to the end. The
-- spot says what stood before: nothing of a group, a name of one, or its `-`.
abbrev pub HasName : Spot → List ℕ → Trees → Type 0
HasName spot name nothing = ⊥
HasName spot name (list items at rest) = ⊥
HasName Start name (word text at rest) = (name ≡ text) ⊎ HasName Named name rest
HasName Named name (word text at rest) =
    ((text ≡ codes "-") × HasName Typed name rest)
    ⊎ (¬ (text ≡ codes "-") × ((name ≡ text) ⊎ HasName Named name rest))
HasName Typed name (word type at rest) = HasName Start name rest
