-- The names that streams use, and the parts of a stream file.
use Rattle.std.specs.Prelude.{◌++◌, codes, Option, Some, None}
use Rattle.sexpr_text.specs.Trees.{Trees}
use Rattle.task_model.specs.declared.domain.Domain.{Domain}
use Rattle.form_reader.specs.declared.groups.Spot.TheVariants.{Start}
use Rattle.form_reader.specs.declared.items.Item.{Item}
use Rattle.form_reader.specs.declared.items.Item.TheVariants as item
use Rattle.form_reader.specs.declared.items.TextKind.TheVariants.{Streams}
use Rattle.form_reader.specs.declared.keys.Keyed.{Keyed}
use Rattle.form_reader.specs.declared.keys.Keyed.TheVariants as keyed
use Rattle.form_reader.specs.Items.{item_of}
use Rattle.form_reader.specs.Rows.{head_of, tail_of}
use Rattle.name_tables.specs.Texts.{value_at}
use Rattle.name_tables.specs.Variables.{named_words}
use Rattle.name_tables.specs.Vocabulary.{vocabulary_of, with_total_cost}
use Rattle.name_tables.specs.declared.vocabulary.Vocabulary.{Vocabulary}
use Rattle.stream_reader.specs.declared.tables.Scopes.{Scopes}

-- The names that streams use. The total cost is a function without arguments, declared or not.
abbrev pub stream_vocabulary : Domain → Vocabulary
stream_vocabulary d = with_total_cost (vocabulary_of d)

-- ---- the parts of a stream file

-- the kind of a stream with this item, if it is one
abbrev pub stream_kind : Item → Option Keyed
stream_kind item.Stream = Some keyed.Stream
stream_kind item.CostStream = Some keyed.CostStream
stream_kind _ = None

-- the kind of a stream that a list is, if it is one
abbrev pub kind_of : Trees → Option Keyed
kind_of items = stream_kind (item_of Streams (head_of items))

-- the keys behind the name
abbrev pub keys_of : Trees → Trees
keys_of items = tail_of (tail_of items)

-- The variables of a stream with these keys: its inputs, and its inputs and outputs.
abbrev pub scopes_of : Trees → Scopes
scopes_of keys =
    record {
      inputs = named_words Start (value_at (codes ":inputs") keys);
      all =
          named_words Start (value_at (codes ":inputs") keys)
          ++ named_words Start (value_at (codes ":outputs") keys);
    }
