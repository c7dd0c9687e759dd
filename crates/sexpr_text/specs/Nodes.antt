-- What a node of a row is, without how its letters lie in memory.
use Rattle.std.specs.Prelude.{ℕ, ◌≤◌, List, take}
use Rattle.sexpr_text.specs.declared.tree.Form.{Form}
use Rattle.sexpr_text.specs.declared.tree.Form.TheVariants as form
use Rattle.sexpr_text.specs.declared.tree.Seen.{Seen}
use Rattle.sexpr_text.specs.declared.tree.Seen.TheVariants as seen

-- a word with its letters and its place, or where a list begins, with how many nodes stand in it and its place
pub data Node : Type 0 where
  word : List ℕ → ℕ → Node
  list : ℕ → ℕ → Node

abbrev pub form_shown : Form → Node
form_shown (form.Short length letters place) = Node.word (take length letters) place
form_shown (form.Long letters place) = Node.word letters.value.items place
form_shown (form.List count place) = Node.list count place

-- the letters of a short word lie in it
abbrev pub IsShort : Form → Type 0
IsShort (form.Short length letters place) = length ≤ 22
IsShort _ = Unit {0}

abbrev pub seen_as : Seen → Node
seen_as (seen.Word text place) = Node.word text.now place
seen_as (seen.List count place) = Node.list count place
