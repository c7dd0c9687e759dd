-- The name faults of a stream file, but for streams that lead to themselves.
use Rattle.std.specs.Prelude.{ℕ, ◌+◌, Bool, true, false, ◌==◌, not, if◌then◌else◌, List, [], ◌++◌, Option, Some, None}
use Rattle.sexpr_text.specs.Trees.{Trees, nothing, word, list}
use Rattle.task_model.specs.declared.domain.Role.{Role}
use Rattle.form_reader.specs.declared.fault.Fault.{Fault}
use Rattle.form_reader.specs.declared.fault.InputKind.TheVariants.{Duplicate, TooMany}
use Rattle.form_reader.specs.declared.groups.Spot.{Spot}
use Rattle.form_reader.specs.declared.groups.Spot.TheVariants.{Start}
use Rattle.form_reader.specs.declared.keys.Key.{Key}
use Rattle.form_reader.specs.declared.keys.Key.TheVariants as key
use Rattle.form_reader.specs.declared.keys.Keyed.{Keyed}
use Rattle.form_reader.specs.Keys.{key_of}
use Rattle.form_reader.specs.Rows.{after_word, head_of, tail_of}
use Rattle.name_tables.specs.Names.{has_name, with_table_name}
use Rattle.name_tables.specs.Terms.{application_names}
use Rattle.name_tables.specs.Texts.{repeated_names}
use Rattle.name_tables.specs.Variables.{doubles_names, is_named, seen_after, types_names, unless}
use Rattle.name_tables.specs.declared.vocabulary.Vocabulary.{Vocabulary}
use Rattle.stream_reader.specs.declared.tables.Scopes.{Scopes}
use Rattle.stream_reader.specs.Atoms.{atoms_names}
use Rattle.stream_reader.specs.Tables.{keys_of, kind_of, scopes_of}

-- ---- keys and their values

-- no input or output is the 9th of its list, where so many stand before it
abbrev pub ninth_names : ℕ → Spot → Trees → List Fault
ninth_names before spot nothing = []
ninth_names before spot (word text at rest) =
    (if is_named spot text then unless (not (before == 8)) TooMany at else [])
    ++ ninth_names (if is_named spot text then before + 1 else before) (after_word spot text) rest
ninth_names before spot (list items at rest) = []

-- a list of inputs or outputs: of types that are there, and at most 8
abbrev pub stream_variables_names : Vocabulary → Trees → List Fault
stream_variables_names v items = types_names v.sorts Start items ++ ninth_names 0 Start items

-- The value of a key, which is the list at this place. Outputs are in scope in `:certified` alone.
abbrev pub stream_value_names : Vocabulary → List Role → Scopes → Key → ℕ → Trees → List Fault
stream_value_names v roles scopes key.Inputs place items = stream_variables_names v items
stream_value_names v roles scopes key.Outputs place items = stream_variables_names v items
stream_value_names v roles scopes key.Domain place items = atoms_names v roles scopes.inputs place items
stream_value_names v roles scopes key.Certified place items = atoms_names v roles scopes.all place items
stream_value_names v roles scopes key.Value place items =
    application_names v.functions v.objects scopes.inputs place items
stream_value_names v roles scopes key.Parameters place items = []
stream_value_names v roles scopes key.Precondition place items = []
stream_value_names v roles scopes key.Effect place items = []
stream_value_names v roles scopes key.Unknown place items = []
stream_value_names v roles scopes key.NoKey place items = []

-- keys and their values; the key before a value is the word before it
abbrev pub stream_keys_names : Vocabulary → List Role → Scopes → Keyed → Key → Trees → List Fault
stream_keys_names v roles scopes keyed k nothing = []
stream_keys_names v roles scopes keyed k (word text at rest) =
    stream_keys_names v roles scopes keyed (key_of keyed text) rest
stream_keys_names v roles scopes keyed k (list items at rest) =
    stream_value_names v roles scopes k at items ++ stream_keys_names v roles scopes keyed k rest

-- the key of inputs or of outputs
abbrev pub has_variables : Key → Bool
has_variables key.Inputs = true
has_variables key.Outputs = true
has_variables _ = false

-- no variable stands twice among inputs and outputs, where these were seen before
abbrev pub second_variables : Keyed → List (List ℕ) → Key → Trees → List Fault
second_variables keyed seen k nothing = []
second_variables keyed seen k (word text at rest) =
    second_variables keyed seen (key_of keyed text) rest
second_variables keyed seen k (list items at rest) =
    (if has_variables k then doubles_names seen Start items else [])
    ++ second_variables keyed (if has_variables k then seen_after seen Start items else seen) k rest

-- ---- streams

-- the keys of a stream
abbrev pub stream_item_names : Vocabulary → List Role → Keyed → Trees → List Fault
stream_item_names v roles keyed keys =
    repeated_names [] keys ++ second_variables keyed [] key.NoKey keys
    ++ stream_keys_names v roles (scopes_of keys) keyed key.NoKey keys

-- a list of a stream file, if it is a stream
abbrev pub item_names : Vocabulary → List Role → Option Keyed → Trees → List Fault
item_names v roles None keys = []
item_names v roles (Some keyed) keys = stream_item_names v roles keyed keys

abbrev pub stream_items_names : Vocabulary → List Role → Trees → List Fault
stream_items_names v roles nothing = []
stream_items_names v roles (word text at rest) = stream_items_names v roles rest
stream_items_names v roles (list items at rest) =
    item_names v roles (kind_of items) (keys_of items) ++ stream_items_names v roles rest

-- no two streams have one name, where these were seen before; streams and cost streams share their names
abbrev pub second_streams : List (List ℕ) → Trees → List Fault
second_streams seen nothing = []
second_streams seen (word text at rest) = second_streams seen rest
second_streams seen (list items at rest) =
    unless (not (has_name (head_of (tail_of items)) seen)) Duplicate at
    ++ second_streams (with_table_name seen (head_of (tail_of items))) rest

-- all name faults but for those of streams that lead to themselves
abbrev pub stream_plain_names : Vocabulary → List Role → Trees → List Fault
stream_plain_names v roles body = stream_items_names v roles body ++ second_streams [] body
