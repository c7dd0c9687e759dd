-- The streams of the grid's tasks, read from their text.
use Rattle.std.proofs.Common.{◌≡◌, ℕ, List, [], codes, get_or, length, position, None, Ok, Option, Some, slice_get, refl, ap, sym, ◌∙◌}
use Rattle.form_reader.specs.Items.{stream_item_of}
use Rattle.laws.specs.Grid.{HasGridStreams, HasStream}
use Rattle.laws.specs.GridLaws.{GridTasksHaveStreams}
use Rattle.grid_text.specs.Tasks.{grid_task}
use Rattle.name_tables.specs.Texts.{body_of}
use Rattle.name_tables.specs.declared.vocabulary.Vocabulary.{Vocabulary}
use Rattle.sexpr_text.specs.Reading.{before, first_fault, levels, reading, unless_fault}
use Rattle.sexpr_text.specs.Tokens.{class_of, folded, tokens_of}
use Rattle.sexpr_text.specs.Trees.{Trees}
use Rattle.sexpr_text.specs.declared.fault.TextFault.{TextFault}
use Rattle.stream_reader.specs.Streams.{streams_of}
use Rattle.stream_reader.specs.Tables.{stream_vocabulary}
use Rattle.task_model.specs.Known.{same_numbers}
use Rattle.task_model.specs.declared.stream.Stream.{Stream}
use Rattle.task_model.specs.declared.task.Task.{Task}

tree_by : (fault : Option TextFault) (tree t : Trees) → unless_fault fault tree ≡ Ok t → t ≡ tree
tree_by None tree t e = let same : tree ≡ t = cc in sym same
tree_by (Some fault) tree t e = absurd (cc)

-- what is read is the tree of the tokens
tree_is : (bytes : List ℕ) (t : Trees) → reading bytes ≡ Ok t → t ≡ (levels (tokens_of bytes)).inner
unfolding reading
tree_is bytes t e = tree_by (first_fault (length bytes) before (tokens_of bytes)) (levels (tokens_of bytes)).inner t e

-- the text of the streams, which is the same for all numbers
text : List ℕ
text = (grid_task 1).streams

module _ (v : Vocabulary) where
  -- the streams that the text spells, whatever the domain's names
  made : List Stream
  made = streams_of v (body_of (levels (tokens_of text)).inner)

  no_stream : Stream
  no_stream = record { name = []; inputs = []; outputs = []; domain = []; certified = []; worth = None }

  stream_at : ℕ → Stream
  stream_at k = get_or made k no_stream

  module _ (task : Task) (is : task.streams ≡ made) where
    has_stream : (name : List ℕ) (outputs k : ℕ) → position (λ (s : Stream). same_numbers name s.name) made ≡ Some k
        → slice_get made k ≡ Some (stream_at k) → (stream_at k).worth ≡ None → length (stream_at k).outputs ≡ outputs
        → HasStream task name outputs
    has_stream name outputs k named at plain width = record {
      place = k;
      stream = stream_at k;
      named = ap (position (λ (s : Stream). same_numbers name s.name)) is ∙ named;
      at = ap (λ ss. slice_get ss k) is ∙ at;
      plain = plain;
      width = width;
    }

    has_all : HasGridStreams task
    unfolding text made stream_at no_stream class_of folded stream_item_of
    has_all = record {
      place = has_stream (codes "place") 1 0 refl refl refl refl;
      grasp = has_stream (codes "grasp") 1 1 refl refl refl refl;
      reach = has_stream (codes "reach") 1 2 refl refl refl refl;
      clear = has_stream (codes "clear") 0 3 refl refl refl refl;
    }

-- the streams of a tree that the text is read as
made_of : (task : Task) (t : Trees) → t ≡ (levels (tokens_of text)).inner
    → task.streams ≡ streams_of (stream_vocabulary task.domain) (body_of t)
    → task.streams ≡ made (stream_vocabulary task.domain)
unfolding made
made_of task t is are = are ∙ ap (λ tree. streams_of (stream_vocabulary task.domain) (body_of tree)) is

text_is : (n : ℕ) → (grid_task n).streams ≡ text
unfolding text
text_is n = refl

pub made_have_streams : GridTasksHaveStreams
made_have_streams n task spells =
    let is : spells.tree ≡ (levels (tokens_of text)).inner =
    tree_is text spells.tree (ap reading (sym (text_is n)) ∙ spells.spelled) in
    let v = stream_vocabulary task.domain in
    has_all v task (made_of task spells.tree is spells.holds.named.streams)
