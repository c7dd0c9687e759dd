-- Streams without faults, over a fit domain, are fit.
use Rattle.std.proofs.Common.{◌≡◌, ℕ, ◌+◌, ◌≤◌, Bool, true, false, cond, ◌||◌, List, [], ◌∷◌, ◌++◌, length, refl, sym, ap, subst, ◌∙◌, Option, Some, None, Result, Ok, Err, IfOk, codes, arith}
use Rattle.std.specs.List.{list_all}
use Rattle.std.specs.Str.{bytes_eq}
use Rattle.std.proofs.lemmas.Bool.{and_from, le-leb}
use Rattle.std.proofs.lemmas.Slice.Eq.{bytes_eq-Decides}
use Rattle.lemmas.proofs.Members.{none_both}
use Rattle.lemmas.proofs.ListTests.{all_append}
use Rattle.sexpr_text.specs.Trees.{Trees, nothing, word, list, size}
use Rattle.task_model.specs.Fit.{AreFitStreams, IsFitDomain, is_fit_stream, is_name, is_short}
use Rattle.task_model.specs.declared.domain.Domain.{Domain}
use Rattle.task_model.specs.declared.stream.Stream as stream
use Rattle.task_model.specs.declared.task.Problem.{Problem}
use Rattle.form_reader.proofs.RowsLemmas.{tail_small}
use Rattle.form_reader.specs.declared.fault.InputFault.{InputFault}
use Rattle.form_reader.specs.declared.items.Item.{Item}
use Rattle.form_reader.specs.declared.items.Item.TheVariants as item
use Rattle.form_reader.specs.declared.items.TextKind.TheVariants as text
use Rattle.form_reader.specs.declared.keys.Key.TheVariants as key
use Rattle.form_reader.specs.declared.keys.Keyed.{Keyed}
use Rattle.form_reader.specs.declared.keys.Keyed.TheVariants as keyed
use Rattle.form_reader.specs.declared.words.WordSort.TheVariants.{Name}
use Rattle.form_reader.specs.Faults.{shape}
use Rattle.form_reader.specs.Items.{body_faults, item_faults, item_of, items_faults}
use Rattle.form_reader.specs.Keys.{has_word, keyed_faults, keys_faults, missing_value_faults}
use Rattle.form_reader.specs.Rows.{head_of, tail_of}
use Rattle.form_reader.specs.Texts.{form_faults}
use Rattle.form_reader.specs.Words.{is_of}
use Rattle.name_tables.specs.Sizes.{IsBoundedTree}
use Rattle.name_tables.specs.declared.vocabulary.Vocabulary.{Vocabulary}
use Rattle.name_tables.proofs.NoFaultLemmas.{chosen, some_fault}
use Rattle.name_tables.proofs.TextsLemmas.{body_less}
use Rattle.name_tables.proofs.TitleLemmas.{titled}
use Rattle.stream_reader.specs.Fitness.{AreFitOver}
use Rattle.stream_reader.specs.Names.{item_names, stream_items_names, stream_keys_names, second_streams, second_variables, stream_item_names}
use Rattle.stream_reader.specs.Reading.{AreRead, StreamsRead, spelled_streams}
use Rattle.stream_reader.specs.Streams.{item_streams, stream_of, streams_of}
use Rattle.stream_reader.specs.Tables.{kind_of, scopes_of, stream_kind, stream_vocabulary}
use Rattle.name_tables.specs.Texts.{body_of, repeated_names}
use Rattle.stream_reader.proofs.FitStream.{cost_fit, stream_fit}
use Rattle.stream_reader.proofs.FitCycles.{acyclic}
use Rattle.stream_reader.proofs.TablesDomainLemmas.{AreKnown, names_are}
use Rattle.stream_reader.proofs.FitNames.{names_distinct, stream_names as names_of_streams}

-- ---- how many

short_by : (v : Vocabulary) (o : Option Keyed) (items : Trees) (ss : List stream.Stream) (n m : ℕ)
    → length ss ≤ n → length (item_streams v o items ++ ss) ≤ m + 2 + n
short_by v None items ss n m h = omega arith
short_by v (Some kind) items ss n m h = omega arith

-- each takes two bytes
streams_length : (v : Vocabulary) (body : Trees) → length (streams_of v body) ≤ size body
streams_length v nothing = omega arith
streams_length v (word w at rest) = omega (arith, streams_length v rest)
streams_length v (list items at rest) =
    short_by v (kind_of items) (tail_of items) (streams_of v rest) (size rest) (size items) (streams_length v rest)

-- ---- each

module _ (d : Domain) (v : Vocabulary) (over : IsFitDomain d) (known : AreKnown d v) where
  -- named and fit
  record AreGood (ss : List stream.Stream) : Type 0 where
    names : list_all is_name (names_of_streams ss) ≡ true
    fit : list_all (is_fit_stream d) ss ≡ true

  none_good : AreGood []
  none_good = record { names = refl; fit = refl }

  one_good : (s : stream.Stream) → is_name s.name ≡ true → is_fit_stream d s ≡ true
      → AreGood (s ∷ [])
  one_good s n f = record { names = and_from (is_name s.name) true n refl; fit = and_from (is_fit_stream d s) true f refl }

  names_append : (ss rest : List stream.Stream)
      → names_of_streams (ss ++ rest) ≡ names_of_streams ss ++ names_of_streams rest
  names_append [] rest = refl
  names_append (s ∷ ss) rest = ap (λ ns. s.name ∷ ns) (names_append ss rest)

  more_good : (ss rest : List stream.Stream) → AreGood ss → AreGood rest → AreGood (ss ++ rest)
  more_good ss rest p q = record {
    names =
        ap (list_all is_name) (names_append ss rest) ∙ all_append is_name (names_of_streams ss) (names_of_streams rest) p.names q.names;
    fit = all_append (is_fit_stream d) ss rest p.fit q.fit;
  }

  -- the name and the keys of a stream
  record IsKeyed (kind : Keyed) (rest : Trees) : Type 0 where
    place : ℕ
    name : is_name (head_of rest) ≡ true
    formed : keys_faults kind place (tail_of rest) ≡ []

  keyed_from : (kind : Keyed) (place : ℕ) (rest : Trees) → keyed_faults kind place rest ≡ []
      → IsKeyed kind rest
  keyed_from kind place nothing e = absurd (some_fault (shape place) [] e)
  keyed_from kind place (list items at rest) e = absurd (some_fault (shape at) [] e)
  keyed_from kind place (word w at rest) e =
      let c = chosen (is_of Name w) (keys_faults kind place rest) (shape at) [] e in record { place = place; name = c.0; formed = c.1 }

  keys_clean : (kind : Keyed) (keys : Trees) → stream_item_names v d.roles kind keys ≡ []
      → stream_keys_names v d.roles (scopes_of keys) kind key.NoKey keys ≡ []
  keys_clean kind keys e =
      (none_both (repeated_names [] keys ++ second_variables kind [] key.NoKey keys)
      (stream_keys_names v d.roles (scopes_of keys) kind key.NoKey keys) e).1

  -- the word `:value` is no name, so it is a key
  value_key : (rest : Trees) → is_name (head_of rest) ≡ true → has_word (codes ":value") rest ≡ true
      → has_word (codes ":value") (tail_of rest) ≡ true
  value_key nothing n h = h
  value_key (list items at rest) n h = h
  value_key (word w at rest) n h = by (bytes_eq w (codes ":value")) refl h
    where
      by : (b : Bool) → bytes_eq w (codes ":value") ≡ b
          → (b || has_word (codes ":value") rest) ≡ true → has_word (codes ":value") rest ≡ true
      by false e g = g
      by true e g =
          let same : w ≡ codes ":value" = (bytes_eq-Decides w (codes ":value")).0 e in
          let no_name : is_name (codes ":value") ≡ true = ap is_name (sym same) ∙ n in
          absurd (let clash : false ≡ true = no_name in cc)

  has_value : (b : Bool) (place : ℕ) → cond b [] (shape place ∷ []) ≡ [] → b ≡ true
  has_value true place e = refl
  has_value false place e = absurd (some_fault (shape place) [] e)

  item_good : (it : Item) (place at : ℕ) (rest : Trees) → size rest ≤ 8388607
      → body_faults it place at rest ≡ []
      → item_names v d.roles (stream_kind it) (tail_of rest) ≡ []
      → AreGood (item_streams v (stream_kind it) rest)
  item_good item.Stream place at rest h e f =
      let is = keyed_from keyed.Stream place rest e in
      one_good (stream_of v keyed.Stream (head_of rest) (tail_of rest)) is.name
      (stream_fit d v over known (tail_of rest) (omega (arith, tail_small rest, h))
      (head_of rest) is.place is.formed (keys_clean keyed.Stream (tail_of rest) f))
  item_good item.CostStream place at rest h e f =
      let parts = none_both (missing_value_faults place rest) (keyed_faults keyed.CostStream place rest) e in
      let is = keyed_from keyed.CostStream place rest parts.1 in
      one_good (stream_of v keyed.CostStream (head_of rest) (tail_of rest)) is.name
      (cost_fit d v over known (tail_of rest) (omega (arith, tail_small rest, h)) (head_of rest) is.place
      (value_key rest is.name (has_value (has_word (codes ":value") rest) place parts.0)) is.formed
      (keys_clean keyed.CostStream (tail_of rest) f))
  item_good it place at rest h e f = none_good

  list_good : (place : ℕ) (items : Trees) → size items ≤ 8388607
      → item_faults text.Streams place items ≡ []
      → item_names v d.roles (kind_of items) (tail_of (tail_of items)) ≡ []
      → AreGood (item_streams v (kind_of items) (tail_of items))
  list_good place nothing h e f = absurd (some_fault (shape place) [] e)
  list_good place (list items at rest) h e f = absurd (some_fault (shape at) [] e)
  list_good place (word w at rest) h e f =
      item_good (item_of text.Streams w) place at rest (omega arith) e f

  all_good : (body : Trees) → size body ≤ 8388607 → items_faults text.Streams body ≡ []
      → stream_items_names v d.roles body ≡ [] → AreGood (streams_of v body)
  all_good nothing h e f = none_good
  all_good (word w at rest) h e f = absurd (some_fault (shape at) [] e)
  all_good (list items at rest) h e f =
      let forms = none_both (item_faults text.Streams at items) (items_faults text.Streams rest) e in
      let names = none_both (item_names v d.roles (kind_of items) (tail_of (tail_of items))) (stream_items_names v d.roles rest) f in
      more_good (item_streams v (kind_of items) (tail_of items)) (streams_of v rest)
      (list_good at items (omega arith) forms.0 names.0) (all_good rest (omega arith) forms.1 names.1)

-- ---- all

formed_items : (t : Trees) → form_faults text.Streams t ≡ []
    → items_faults text.Streams (body_of t) ≡ []
formed_items nothing e = refl
formed_items (word w at rest) e = absurd (some_fault (shape at) [] e)
formed_items (list items at rest) e = (titled text.Streams items at rest e).items

spelled_fit : (d : Domain) (t : Trees) (problem : Problem) → IsFitDomain d → IsBoundedTree t
    → AreRead d t (spelled_streams d t)
    → AreFitStreams (record { domain = d; problem = problem; streams = spelled_streams d t })
spelled_fit d t problem over bounded read =
    let v : Vocabulary = stream_vocabulary d in
    let parts = none_both (stream_items_names v d.roles (body_of t)) (second_streams [] (body_of t)) read.named.named in
    let few : size (body_of t) ≤ 8388607 = omega (arith, body_less t, bounded.small) in
    let good = all_good d v over (names_are d over) (body_of t) few (formed_items t read.formed) parts.0 in
    record {
      names = record { each = good.names; distinct = names_distinct v (body_of t) parts.1 };
      each = and_from (is_short (spelled_streams d t)) (list_all (is_fit_stream d) (spelled_streams d t))
          (le-leb (length (spelled_streams d t)) 8388608 (omega (arith, streams_length v (body_of t), few))) good.fit;
      acyclic = acyclic (record { domain = d; problem = problem; streams = spelled_streams d t }) v (body_of t) refl read.named.acyclic;
    }

-- over a fit domain
pub read_streams_fit : (d : Domain) (t : Trees) (streams : List stream.Stream) → IsFitDomain d
    → IsBoundedTree t → AreRead d t streams → AreFitOver d streams
read_streams_fit d t streams over bounded read problem =
    let same : streams ≡ spelled_streams d t = read.named.streams in
    subst (λ ss. AreFitStreams (record { domain = d; problem = problem; streams = ss })) (sym same)
    (spelled_fit d t problem over bounded
    (record { formed = read.formed; named = record { named = read.named.named; acyclic = read.named.acyclic; streams = refl } }))

-- where they were read
pub fit_if_read : (d : Domain) (t : Trees) (result : Result (List stream.Stream) InputFault)
    → StreamsRead d t result
    → IfOk result (λ streams. IsFitDomain d → IsBoundedTree t → AreFitOver d streams)
fit_if_read d t (Ok streams) read = λ over bounded. read_streams_fit d t streams over bounded read
fit_if_read d t (Err fault) read = tt
