-- Laws of readings. Each is a clause of a public function of `laws.rt`.
use Rattle.std.specs.Prelude.{◌≡◌, ◌↔◌, ◌⊎◌, ℕ, List, Ok, Err}
use Rattle.sexpr_text.specs.Faults.{IsLeastFault}
use Rattle.sexpr_text.specs.Reading.{reading}
use Rattle.sexpr_text.specs.Spelling.{Spells}
use Rattle.sexpr_text.specs.Trees.{Trees}
use Rattle.sexpr_text.specs.declared.fault.TextFault.{TextFault}

-- A text is read as a tree exactly where it spells it: its tokens are those of the tree, which is one list.
abbrev pub TreesAreSpelled : Type 0
TreesAreSpelled = (bytes : List ℕ) (t : Trees) → (reading bytes ≡ Ok t) ↔ Spells bytes t

-- A text is read as a fault exactly where it has the fault, and each other that it has comes after it.
abbrev pub FaultsAreLeast : Type 0
FaultsAreLeast = (bytes : List ℕ) (f : TextFault) → (reading bytes ≡ Err f) ↔ IsLeastFault bytes f

-- So each text either spells a tree or has a least fault.
abbrev pub EachTextIsRead : Type 0
EachTextIsRead = (bytes : List ℕ) → ((t : Trees) × Spells bytes t) ⊎ ((f : TextFault) × IsLeastFault bytes f)
