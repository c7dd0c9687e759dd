-- The names of streams that are read.
use Rattle.std.proofs.Common.{◌≡◌, ℕ, List, [], ◌∷◌, map, refl, sym, ap, subst, ◌∙◌, ◌⊎◌, inl, inr, Contains, codes}
use Rattle.lemmas.proofs.Ascending.{contains_cases, contains_here, contains_none}
use Rattle.lemmas.proofs.Distinct.{from_mapped, in_mapped}
use Rattle.sexpr_text.specs.Trees.{Trees}
use Rattle.form_reader.specs.Items.{stream_item_of}
use Rattle.form_reader.specs.Rows.{head_of, tail_of}
use Rattle.form_reader.specs.declared.items.Item.{Item}
use Rattle.form_reader.specs.declared.items.Item.TheVariants as item
use Rattle.name_tables.specs.Texts.{body_of}
use Rattle.name_tables.specs.declared.vocabulary.Vocabulary.{Vocabulary}
use Rattle.stream_reader.specs.Reading.{AreRead}
use Rattle.stream_reader.specs.Streams.{item_streams, stream_of, streams_of}
use Rattle.form_reader.specs.declared.keys.Keyed.TheVariants as keyed
use Rattle.stream_reader.specs.Tables.{kind_of, stream_kind, stream_vocabulary}
use Rattle.task_model.specs.declared.domain.Domain.{Domain}
use Rattle.task_model.specs.declared.stream.Stream.{Stream}
use Rattle.table_laws.proofs.ItemLemmas.{IsKeyOf, cost_stream_item, from_rows, in_rows, key_of_streams, stream_item}
use Rattle.table_laws.specs.Declared.{HaveDeclaredNames, IsItemName}
use Rattle.table_laws.specs.Rows.{HasList}

one_member : (x y : Stream) → Contains (x ∷ []) y → y ≡ x
one_member x y m = by (contains_cases x [] y m)
  where
    by : (x ≡ y) ⊎ Contains [] y → y ≡ x
    by (inl same) = sym same
    by (inr none) = absurd (contains_none y none)

abbrev IsStreamKey : List ℕ → Type 0
IsStreamKey w = (w ≡ codes ":stream") ⊎ (w ≡ codes ":cost-stream")

stream_in : (v : Vocabulary) (w : List ℕ) (row : Trees) (i : Item) → IsKeyOf i w → (s : Stream)
    → Contains (item_streams v (stream_kind i) row) s → IsStreamKey w × (s.name ≡ head_of row)
stream_in v w row item.Stream e s m =
    (inl e, ap (λ (x : Stream). x.name) (one_member (stream_of v keyed.Stream (head_of row) (tail_of row)) s m))
stream_in v w row item.CostStream e s m =
    (inr e, ap (λ (x : Stream). x.name) (one_member (stream_of v keyed.CostStream (head_of row) (tail_of row)) s m))
stream_in v w row i e s m = absurd (contains_none s m)

abbrev given_streams : Vocabulary → Trees → List Stream
given_streams v items = item_streams v (kind_of items) (tail_of items)

abbrev IsStreamName : Trees → List ℕ → Type 0
IsStreamName body n = IsItemName (codes ":stream") body n ⊎ IsItemName (codes ":cost-stream") body n

name_forth : (v : Vocabulary) (body : Trees) (n : List ℕ)
    → Contains (map (λ (s : Stream). s.name) (streams_of v body)) n → IsStreamName body n
name_forth v body n m =
    let named = from_mapped (λ (s : Stream). s.name) (streams_of v body) n m in
    let found = from_rows (given_streams v) (streams_of v) refl (λ text at rest. refl) (λ items at rest. refl) body named.0 named.1 in
    let it = stream_in v (head_of found.0) (tail_of found.0) (stream_item_of (head_of found.0)) (key_of_streams (head_of found.0)) named.0 found.2 in
    by found.0 found.1 (named.2 ∙ it.1) it.0
  where
    by : (items : Trees) → HasList items body → n ≡ head_of (tail_of items) → IsStreamKey (head_of items) → IsStreamName body n
    by items there e (inl head) =
        inl (tail_of items, record { items = items; there = there; head = head; is = refl }, e)
    by items there e (inr head) =
        inr (tail_of items, record { items = items; there = there; head = head; is = refl }, e)

-- an item of a stream gives one that has its name
one_named : (v : Vocabulary) (body : Trees) (items : Trees) → HasList items body
    → (s : Stream) → Contains (given_streams v items) s → Contains (map (λ (x : Stream). x.name) (streams_of v body)) s.name
one_named v body items there s m =
    in_mapped (λ (x : Stream). x.name) (streams_of v body) s
    (in_rows (given_streams v) (streams_of v) refl (λ text at rest. refl) (λ items at rest. refl) body items s there m)

name_back : (v : Vocabulary) (body : Trees) (n : List ℕ) → IsStreamName body n
    → Contains (map (λ (s : Stream). s.name) (streams_of v body)) n
name_back v body n (inl g) =
    let i = g.1 in
    let kind : stream_item_of (head_of i.items) ≡ item.Stream = ap stream_item_of i.head ∙ stream_item in
    let name : n ≡ head_of (tail_of i.items) = g.2 ∙ ap head_of i.is in
    let s = stream_of v keyed.Stream (head_of (tail_of i.items)) (tail_of (tail_of i.items)) in
    let mine : Contains (given_streams v i.items) s =
    subst (λ k. Contains (item_streams v (stream_kind k) (tail_of i.items)) s) (sym kind) (contains_here s []) in
    subst (λ x. Contains (map (λ (s : Stream). s.name) (streams_of v body)) x) (sym name)
    (one_named v body i.items i.there s mine)
name_back v body n (inr g) =
    let i = g.1 in
    let kind : stream_item_of (head_of i.items) ≡ item.CostStream = ap stream_item_of i.head ∙ cost_stream_item in
    let name : n ≡ head_of (tail_of i.items) = g.2 ∙ ap head_of i.is in
    let s = stream_of v keyed.CostStream (head_of (tail_of i.items)) (tail_of (tail_of i.items)) in
    let mine : Contains (given_streams v i.items) s =
    subst (λ k. Contains (item_streams v (stream_kind k) (tail_of i.items)) s) (sym kind) (contains_here s []) in
    subst (λ x. Contains (map (λ (s : Stream). s.name) (streams_of v body)) x) (sym name)
    (one_named v body i.items i.there s mine)

pub streams_declared : (d : Domain) (t : Trees) (streams : List Stream) → AreRead d t streams
    → HaveDeclaredNames (body_of t) streams
streams_declared d t streams is =
    let v = stream_vocabulary d in
    subst (HaveDeclaredNames (body_of t)) (sym is.named.streams)
    (λ n. (name_forth v (body_of t) n, name_back v (body_of t) n))
