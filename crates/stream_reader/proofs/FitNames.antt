-- The names of streams stand once each.
use Rattle.std.proofs.Common.{◌≡◌, ℕ, zero, suc, true, false, not, List, [], ◌∷◌, ◌++◌, map, refl, ap, subst, Option, Some, None, slice_get}
use Rattle.std.specs.Str.{bytes_eq}
use Rattle.std.proofs.lemmas.Bool.{cond_both, not-true, false_from_ne_true}
use Rattle.lemmas.proofs.Members.{none_both}
use Rattle.lemmas.proofs.ListTests.{any_append_left}
use Rattle.sexpr_text.specs.Trees.{Trees, nothing, word, list}
use Rattle.lemmas.specs.Lists.{AreDistinct}
use Rattle.task_model.specs.declared.stream.Stream as stream
use Rattle.form_reader.specs.declared.fault.InputKind.TheVariants.{Duplicate}
use Rattle.form_reader.specs.declared.keys.Keyed.{Keyed}
use Rattle.form_reader.specs.Rows.{head_of, tail_of}
use Rattle.name_tables.specs.Names.{has_name, with_table_name}
use Rattle.name_tables.specs.Variables.{unless}
use Rattle.name_tables.specs.declared.vocabulary.Vocabulary.{Vocabulary}
use Rattle.name_tables.proofs.NoFaultLemmas.{met}
use Rattle.name_tables.proofs.NamesLemmas.{has_with}
use Rattle.stream_reader.specs.Names.{second_streams}
use Rattle.stream_reader.specs.Streams.{item_streams, streams_of}
use Rattle.stream_reader.specs.Tables.{kind_of}

-- distinct names, none of which was seen
record AreNew (seen names : List (List ℕ)) : Type 0 where
  distinct : AreDistinct names
  unseen : (i : ℕ) (x : List ℕ) → slice_get names i ≡ Some x → has_name x seen ≡ false

has_kept : (seen : List (List ℕ)) (n x : List ℕ) → has_name x seen ≡ true
    → has_name x (with_table_name seen n) ≡ true
has_kept seen n x e =
    cond_both (has_name n seen) seen (seen ++ n ∷ []) (λ ms. has_name x ms ≡ true)
    (λ there. e) (λ absent. any_append_left (bytes_eq x) seen (n ∷ []) e)

unseen_before : (seen : List (List ℕ)) (n x : List ℕ) → has_name x (with_table_name seen n) ≡ false
    → has_name x seen ≡ false
unseen_before seen n x e =
    false_from_ne_true (has_name x seen) (λ there. let kept : has_name x (with_table_name seen n) ≡ true = has_kept seen n x there in cc)

other : (seen : List (List ℕ)) (n x : List ℕ) → has_name x (with_table_name seen n) ≡ false → n ≡ x → ⊥
other seen n x e same =
    let there : has_name x (with_table_name seen n) ≡ true = subst (λ m. has_name m (with_table_name seen n) ≡ true) same (has_with seen n) in
    cc

less_seen : (seen names : List (List ℕ)) (n : List ℕ) → AreNew (with_table_name seen n) names
    → AreNew seen names
less_seen seen names n are =
    record { distinct = are.distinct; unseen = λ i x e. unseen_before seen n x (are.unseen i x e) }

some_same : (a b : List ℕ) → Some a ≡ Some b → a ≡ b
some_same a b e = cc

one_more : (seen names : List (List ℕ)) (n : List ℕ) → has_name n seen ≡ false
    → AreNew (with_table_name seen n) names → AreNew seen (n ∷ names)
one_more seen names n new are = record { distinct = distinct; unseen = unseen }
  where
    distinct : AreDistinct (n ∷ names)
    distinct zero zero x e f = refl
    distinct zero (suc j) x e f = absurd (other seen n x (are.unseen j x f) (some_same n x e))
    distinct (suc i) zero x e f = absurd (other seen n x (are.unseen i x e) (some_same n x f))
    distinct (suc i) (suc j) x e f = ap suc (are.distinct i j x e f)

    unseen : (i : ℕ) (x : List ℕ) → slice_get (n ∷ names) i ≡ Some x → has_name x seen ≡ false
    unseen zero x e = subst (λ m. has_name m seen ≡ false) (some_same n x e) new
    unseen (suc i) x e = unseen_before seen n x (are.unseen i x e)

abbrev pub stream_names : List stream.Stream → List (List ℕ)
stream_names ss = map (λ (s : stream.Stream). s.name) ss

new_step : (v : Vocabulary) (o : Option Keyed) (seen : List (List ℕ)) (items : Trees) (ss : List stream.Stream)
    → has_name (head_of items) seen ≡ false
    → AreNew (with_table_name seen (head_of items)) (stream_names ss)
    → AreNew seen (stream_names (item_streams v o items ++ ss))
new_step v None seen items ss new are = less_seen seen (stream_names ss) (head_of items) are
new_step v (Some keyed) seen items ss new are =
    one_more seen (stream_names ss) (head_of items) new are

all_new : (v : Vocabulary) (seen : List (List ℕ)) (body : Trees) → second_streams seen body ≡ []
    → AreNew seen (stream_names (streams_of v body))
all_new v seen nothing e =
    record { distinct = λ i j x p q. absurd (cc); unseen = λ i x p. absurd (cc) }
all_new v seen (word w at rest) e = all_new v seen rest e
all_new v seen (list items at rest) e =
    let n : List ℕ = head_of (tail_of items) in
    let parts = none_both (unless (not (has_name n seen)) Duplicate at) (second_streams (with_table_name seen n) rest) e in
    new_step v (kind_of items) seen (tail_of items) (streams_of v rest)
    (not-true (has_name n seen) (met (not (has_name n seen)) Duplicate at parts.0)) (all_new v (with_table_name seen n) rest parts.1)

pub names_distinct : (v : Vocabulary) (body : Trees) → second_streams [] body ≡ []
    → AreDistinct (stream_names (streams_of v body))
names_distinct v body e = (all_new v [] body e).distinct
