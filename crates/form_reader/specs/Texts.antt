-- Whole domains, problems and stream files.
use Rattle.std.specs.Prelude.{ℕ, Bool, false, ◌&&◌, ◌||◌, if◌then◌else◌, List, [], ◌∷◌, ◌++◌, codes}
use Rattle.std.specs.Str.{bytes_eq}
use Rattle.sexpr_text.specs.Trees.{Trees, nothing, word, list}
use Rattle.form_reader.specs.declared.fault.Fault.{Fault}
use Rattle.form_reader.specs.declared.items.TextKind.{TextKind}
use Rattle.form_reader.specs.declared.items.TextKind.TheVariants.{Domain, Problem, Streams}
use Rattle.form_reader.specs.declared.words.WordSort.TheVariants.{Name}
use Rattle.form_reader.specs.Faults.{shape}
use Rattle.form_reader.specs.Items.{items_faults}
use Rattle.form_reader.specs.Rows.{head_of, one_faults}

abbrev pub title_of : TextKind → List ℕ
title_of Domain = codes "domain"
title_of Problem = codes "problem"
title_of Streams = codes "stream"

-- `domain NAME` or the like
abbrev pub title_faults : TextKind → ℕ → Trees → List Fault
title_faults text place nothing = shape place ∷ []
title_faults text place (word w at rest) =
    if bytes_eq w (title_of text) then one_faults Name place rest else shape at ∷ []
title_faults text place (list items at rest) = shape at ∷ []

-- (domain NAME) ditem* or the like
abbrev pub titled_faults : TextKind → ℕ → Trees → List Fault
titled_faults text place nothing = shape place ∷ []
titled_faults text place (word w at rest) = shape at ∷ []
titled_faults text place (list items at rest) = title_faults text at items ++ items_faults text rest

-- define (domain NAME) ditem* or the like
abbrev pub define_faults : TextKind → ℕ → Trees → List Fault
define_faults text place nothing = shape place ∷ []
define_faults text place (word w at rest) =
    if bytes_eq w (codes "define") then titled_faults text place rest else shape at ∷ []
define_faults text place (list items at rest) = shape at ∷ []

-- a list that begins with this word is among them
abbrev pub has_item : List ℕ → Trees → Bool
has_item w nothing = false
has_item w (word text at rest) = has_item w rest
has_item w (list items at rest) = bytes_eq (head_of items) w || has_item w rest

-- a problem has a `:domain` and a `:goal`, wherever they stand
abbrev pub missing_faults : TextKind → ℕ → Trees → List Fault
missing_faults Domain place items = []
missing_faults Problem place items =
    if has_item (codes ":domain") items && has_item (codes ":goal") items then [] else shape place ∷ []
missing_faults Streams place items = []

-- All form faults of a text that is this row of one tree.
abbrev pub form_faults : TextKind → Trees → List Fault
form_faults text nothing = []
form_faults text (word w at rest) = shape at ∷ []
form_faults text (list items at rest) = missing_faults text at items ++ define_faults text at items
