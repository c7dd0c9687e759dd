-- The streams that a stream file spells.
use Rattle.std.specs.Prelude.{ℕ, List, [], ◌∷◌, ◌++◌, codes, Option, Some, None}
use Rattle.sexpr_text.specs.Trees.{Trees, nothing, word, list}
use Rattle.task_model.specs.declared.stream.Stream as stream
use Rattle.task_model.specs.declared.stream.Worth.{Worth}
use Rattle.form_reader.specs.declared.groups.Spot.TheVariants.{Start}
use Rattle.form_reader.specs.declared.keys.Keyed.{Keyed}
use Rattle.form_reader.specs.declared.keys.Keyed.TheVariants as keyed
use Rattle.form_reader.specs.Rows.{head_of, tail_of}
use Rattle.name_tables.specs.Terms.{declared_place, terms_of}
use Rattle.name_tables.specs.Variables.{named_sorts}
use Rattle.name_tables.specs.declared.vocabulary.Vocabulary.{Vocabulary}
use Rattle.stream_reader.specs.Atoms.{patterns_of}
use Rattle.stream_reader.specs.Tables.{kind_of, scopes_of}
use Rattle.name_tables.specs.Texts.{value_at}

-- the function term that a cost stream with these inputs gives values
abbrev pub worth_of : Vocabulary → List (List ℕ) → Keyed → Trees → Option Worth
worth_of v inputs keyed.CostStream items =
    Some
    (record { func = declared_place v.functions (head_of items); args = terms_of v.objects inputs (tail_of items) })
worth_of v inputs keyed.Stream items = None
worth_of v inputs keyed.Action items = None

-- A stream of this kind with this name and these keys. Slots are inputs from 0 and then outputs.
abbrev pub stream_of : Vocabulary → Keyed → List ℕ → Trees → stream.Stream
stream_of v keyed name keys =
    record {
      name = name;
      inputs = named_sorts v.sorts Start 0 (value_at (codes ":inputs") keys);
      outputs = named_sorts v.sorts Start 0 (value_at (codes ":outputs") keys);
      domain = patterns_of v (scopes_of keys).inputs (value_at (codes ":domain") keys);
      certified = patterns_of v (scopes_of keys).all (value_at (codes ":certified") keys);
      worth = worth_of v (scopes_of keys).inputs keyed (value_at (codes ":value") keys);
    }

-- the stream that a list of a stream file is, if it is one: NAME key*
abbrev pub item_streams : Vocabulary → Option Keyed → Trees → List stream.Stream
item_streams v None items = []
item_streams v (Some keyed) items = stream_of v keyed (head_of items) (tail_of items) ∷ []

-- the streams in the order of the text
abbrev pub streams_of : Vocabulary → Trees → List stream.Stream
streams_of v nothing = []
streams_of v (word text at rest) = streams_of v rest
streams_of v (list items at rest) =
    item_streams v (kind_of items) (tail_of items) ++ streams_of v rest
