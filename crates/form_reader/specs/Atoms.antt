-- The forms of facts and of streams' atoms.
use Rattle.std.specs.Prelude.{ℕ, Bool, false, ◌&&◌, if◌then◌else◌, List, [], ◌∷◌, ◌++◌, codes}
use Rattle.std.specs.Str.{bytes_eq}
use Rattle.sexpr_text.specs.Trees.{Trees, nothing, word, list}
use Rattle.form_reader.specs.declared.fault.Fault.{Fault}
use Rattle.form_reader.specs.declared.words.WordSort.TheVariants.{Name, Predicate, Term}
use Rattle.form_reader.specs.Faults.{shape, unsupported, number}
use Rattle.form_reader.specs.Effects.{is_total_cost}
use Rattle.form_reader.specs.Refused.{is_end}
use Rattle.form_reader.specs.Rows.{application_faults, end_faults}
use Rattle.task_model.specs.Numbers.{is_number}

-- a number, and nothing more
abbrev pub number_faults : ℕ → Trees → List Fault
number_faults place nothing = shape place ∷ []
number_faults place (word text at rest) = if is_number text then end_faults rest else number at ∷ []
number_faults place (list items at rest) = shape at ∷ []

-- (NAME NAME*) NUMBER
abbrev pub valued_faults : ℕ → Trees → List Fault
valued_faults place nothing = shape place ∷ []
valued_faults place (word text at rest) = shape at ∷ []
valued_faults place (list items at rest) =
    application_faults Name Name at items ++ number_faults place rest

-- (NAME NAME*) | (= (NAME NAME*) NUMBER)
abbrev pub fact_faults : ℕ → Trees → List Fault
fact_faults place nothing = shape place ∷ []
fact_faults place (word text at rest) =
    if bytes_eq text (codes "=") then valued_faults place rest
    else application_faults Predicate Name place (word text at rest)
fact_faults place (list items at rest) = shape at ∷ []

-- fact*
abbrev pub facts_faults : Trees → List Fault
facts_faults nothing = []
facts_faults (word text at rest) = shape at ∷ []
facts_faults (list items at rest) = fact_faults at items ++ facts_faults rest

abbrev mutual
  -- atoms*
  pub atom_rows_faults : Trees → List Fault
  atom_rows_faults nothing = []
  atom_rows_faults (word text at rest) = shape at ∷ []
  atom_rows_faults (list items at rest) = atoms_faults at items ++ atom_rows_faults rest

  -- () | (NAME term*) | (and atoms*)
  pub atoms_faults : ℕ → Trees → List Fault
  atoms_faults place nothing = []
  atoms_faults place (word text at rest) =
      if bytes_eq text (codes "and") then atom_rows_faults rest
      else application_faults Predicate Term place (word text at rest)
  atoms_faults place (list items at rest) = shape at ∷ []

-- the word `total-cost` alone
abbrev pub is_total_cost_alone : Trees → Bool
is_total_cost_alone nothing = false
is_total_cost_alone (word text at rest) = is_total_cost text && is_end rest
is_total_cost_alone (list items at rest) = false

-- (NAME term*), the function term that a cost stream gives a value; the total cost is none
abbrev pub worth_faults : ℕ → Trees → List Fault
worth_faults place items =
    if is_total_cost_alone items then unsupported place ∷ [] else application_faults Name Term place items
