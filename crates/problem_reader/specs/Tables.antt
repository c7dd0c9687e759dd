-- The names of a problem: those of its domain, and its objects.
use Rattle.std.specs.Prelude.{ℕ, Bool, true, false, if◌then◌else◌, List, length, nat_lt}
use Rattle.sexpr_text.specs.Trees.{Trees, nothing, word, list}
use Rattle.task_model.specs.declared.domain.Declared as declared
use Rattle.task_model.specs.declared.domain.Domain.{Domain}
use Rattle.form_reader.specs.declared.groups.Spot.TheVariants.{Start}
use Rattle.form_reader.specs.declared.items.Item.{Item}
use Rattle.form_reader.specs.declared.items.Item.TheVariants as item
use Rattle.form_reader.specs.declared.items.TextKind.TheVariants as text
use Rattle.form_reader.specs.Items.{item_of}
use Rattle.form_reader.specs.Rows.{head_of, tail_of}
use Rattle.name_tables.specs.Variables.{seen_after}
use Rattle.name_tables.specs.Vocabulary.{vocabulary_of}
use Rattle.name_tables.specs.declared.vocabulary.Vocabulary.{Vocabulary}

abbrev pub is_objects : Item → Bool
is_objects item.Objects = true
is_objects _ = false

-- The names in `:objects` behind those so far, each once.
abbrev pub object_names_in : List (List ℕ) → Trees → List (List ℕ)
object_names_in names nothing = names
object_names_in names (word w at rest) = object_names_in names rest
object_names_in names (list items at rest) =
    object_names_in
    (if is_objects (item_of text.Problem (head_of items)) then seen_after names Start (tail_of items) else names)
    rest

-- names with the objects that items declare behind the others
abbrev pub with_objects : Vocabulary → Trees → Vocabulary
with_objects v body = record v { objects = object_names_in v.objects body }

-- the names of a problem of this domain with these items: the domain's, and behind its constants the objects
abbrev pub problem_names : Domain → Trees → Vocabulary
problem_names d body = with_objects (vocabulary_of d) body

-- a constant that has a type
abbrev pub has_type : declared.Declared → Bool
has_type constant = nat_lt 0 (length constant.sorts)
