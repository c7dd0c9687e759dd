-- Rows of words: terms, names, names and variables with types, and atoms.
--
-- Each function here and in the files above gives all faults of a form. The place is that of the list whose trees
-- these are. Behind a tree that can't stand where it stands nothing has a form to be judged by, so the list ends there.
use Rattle.std.specs.Prelude.{ℕ, ◌+◌, Bool, true, if◌then◌else◌, List, [], ◌∷◌, codes}
use Rattle.std.specs.Str.{bytes_eq}
use Rattle.sexpr_text.specs.Trees.{Trees, nothing, word, list}
use Rattle.form_reader.specs.declared.fault.Fault.{Fault}
use Rattle.form_reader.specs.declared.groups.Spot.{Spot}
use Rattle.form_reader.specs.declared.groups.Spot.TheVariants.{Start, Named, Typed}
use Rattle.form_reader.specs.declared.words.WordSort.{WordSort}
use Rattle.form_reader.specs.declared.words.WordSort.TheVariants.{Name, Variable}
use Rattle.form_reader.specs.Faults.{shape, unsupported}
use Rattle.form_reader.specs.Words.{is_of}

-- how many words and lists there are, which is what recursion goes down by
abbrev pub count : Trees → ℕ
count nothing = 0
count (word text place rest) = count rest + 1
count (list items place rest) = count items + count rest + 1

-- the word that a list begins with, or no letters
abbrev pub head_of : Trees → List ℕ
head_of nothing = []
head_of (word text place rest) = text
head_of (list items place rest) = []

-- the trees behind the first
abbrev pub tail_of : Trees → Trees
tail_of nothing = nothing
tail_of (word text place rest) = rest
tail_of (list items place rest) = rest

-- the trees in the first, if that is a list
abbrev pub inner_of : Trees → Trees
inner_of nothing = nothing
inner_of (word text place rest) = nothing
inner_of (list items place rest) = items

-- nothing more may stand
abbrev pub end_faults : Trees → List Fault
end_faults nothing = []
end_faults (word text at rest) = shape at ∷ []
end_faults (list items at rest) = shape at ∷ []

-- words of one sort, as many as there are
abbrev pub row_faults : WordSort → Trees → List Fault
row_faults sort nothing = []
row_faults sort (word text at rest) =
    if is_of sort text then row_faults sort rest else shape at ∷ []
row_faults sort (list items at rest) = shape at ∷ []

-- one word of a sort, and nothing more
abbrev pub one_faults : WordSort → ℕ → Trees → List Fault
one_faults sort place nothing = shape place ∷ []
one_faults sort place (word text at rest) =
    if is_of sort text then end_faults rest else shape at ∷ []
one_faults sort place (list items at rest) = shape at ∷ []

-- two words of a sort, and nothing more
abbrev pub two_faults : WordSort → ℕ → Trees → List Fault
two_faults sort place nothing = shape place ∷ []
two_faults sort place (word text at rest) =
    if is_of sort text then one_faults sort place rest else shape at ∷ []
two_faults sort place (list items at rest) = shape at ∷ []

-- `(NAME word*)`: an atom or a function term, whose head is of one sort and whose arguments are of another
abbrev pub application_faults : WordSort → WordSort → ℕ → Trees → List Fault
application_faults head args place nothing = shape place ∷ []
application_faults head args place (word text at rest) =
    if is_of head text then row_faults args rest else shape at ∷ []
application_faults head args place (list items at rest) = shape at ∷ []

-- Groups of names or of variables, each group with a type or without: `a b - t c`.

abbrev pub is_dash : List ℕ → Bool
is_dash text = bytes_eq text (codes "-")

-- whether the word may come next: a type behind `-`, and else a name or variable, or a `-` behind one
abbrev pub can_stand : WordSort → Spot → List ℕ → Bool
can_stand sort Start text = is_of sort text
can_stand sort Named text = if is_dash text then true else is_of sort text
can_stand sort Typed text = is_of Name text

abbrev pub after_word : Spot → List ℕ → Spot
after_word Start text = Named
after_word Named text = if is_dash text then Typed else Named
after_word Typed text = Start

-- a list never stands in groups, and `(either ..)` for a type is left out
abbrev pub list_fault : Spot → Trees → ℕ → Fault
list_fault Start items at = shape at
list_fault Named items at = shape at
list_fault Typed items at =
    if bytes_eq (head_of items) (codes "either") then unsupported at else shape at

-- behind `-` a type is missing
abbrev pub cut_faults : ℕ → Spot → List Fault
cut_faults place Start = []
cut_faults place Named = []
cut_faults place Typed = shape place ∷ []

abbrev pub groups_faults : WordSort → ℕ → Spot → Trees → List Fault
groups_faults sort place spot nothing = cut_faults place spot
groups_faults sort place spot (word text at rest) =
    if can_stand sort spot text then groups_faults sort place (after_word spot text) rest else shape at ∷ []
groups_faults sort place spot (list items at rest) = list_fault spot items at ∷ []

-- `(NAME vars)`: what declares a predicate or a function, and the head of a derived predicate
abbrev pub declaration_faults : WordSort → ℕ → Trees → List Fault
declaration_faults head place nothing = shape place ∷ []
declaration_faults head place (word text at rest) =
    if is_of head text then groups_faults Variable place Start rest else shape at ∷ []
declaration_faults head place (list items at rest) = shape at ∷ []
