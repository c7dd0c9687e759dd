-- Tallies, as notes come.
use Rattle.std.proofs.Common.{◌≡◌, ℕ, ◌+◌, ◌<◌, Bool, true, false, not, cond, ◌||◌, nat_lt, if◌then◌else◌, List, [], ◌∷◌, ◌++◌, length, get_or, length-append, refl, sym, ap, subst, ◌∙◌, Some, arith, count_by, zero-add}
use borrow.Author.Tests.{lt-ltb}
use Rattle.std.proofs.lemmas.List.Folds.{list_any-append}
use Rattle.std.proofs.lemmas.List.Sums.{sum_by-append}
use Rattle.lemmas.proofs.Counts.{count_last}
use Rattle.std.specs.Cmp.{IsEquivalence, decided}
use Rattle.std.specs.List.{list_any, position_or_len}
use Rattle.std.specs.Map.{keys_of}
use Rattle.std.proofs.lemmas.List.{append-nil, get_or-append-add, get_or_append_left, map_push}
use Rattle.std.proofs.lemmas.List.Elements.{All-head, All-tail, All-push, All-weaker}
use Rattle.indexmap.specs.IndexMap.{IndexMap, get, keys, insert_entry, insert_index}
use Rattle.instance_search.proofs.InstanceOrderLemmas.{instance_decided}
use Rattle.task_model.proofs.StreamsLemmas.{instances_same, instance_itself}
use Rattle.task_model.specs.Streams.{Note, Yielded, Ended, same_instance, is_yield_of, is_end_of, yields_of}
use Rattle.task_model.specs.declared.stream.Instance.{Instance}
use Rattle.instance_queue.specs.Notes.{no_instance, note_of, tally_of, tally_in, note_held, notes_in, AreTallied, ArePlaced}
use Rattle.instance_queue.specs.declared.queue.Noted.{Noted}
use Rattle.instance_queue.specs.declared.queue.Tally.{Tally}

-- ---- instances

pub instances_equivalence : IsEquivalence same_instance
instances_equivalence = decided same_instance instance_decided

-- ---- one note more

-- what a note is about
abbrev pub about : Note → Instance
about (Yielded i) = i
about (Ended i) = i

no_more : (n : ℕ) (b : Bool) → b ≡ false → n + cond b 1 0 ≡ n
no_more n b e = ap (λ c. n + cond c 1 0) e ∙ (let f : n + 0 ≡ n = omega arith in f)

stays : (a b : Bool) → b ≡ false → (a || (b || false)) ≡ a
stays true b e = refl
stays false true e = absurd (cc)
stays false false e = refl

yields_other : (note : Note) (q : Instance) → same_instance q (about note) ≡ false
    → is_yield_of q note ≡ false
yields_other (Yielded i) q e = e
yields_other (Ended i) q e = refl

ends_other : (note : Note) (q : Instance) → same_instance q (about note) ≡ false
    → is_end_of q note ≡ false
ends_other (Yielded i) q e = refl
ends_other (Ended i) q e = e

-- other instances keep their tallies
pub tally_stays : (notes : List Note) (note : Note) (q : Instance)
    → same_instance (about note) q ≡ false
    → tally_of (notes ++ note ∷ []) q ≡ tally_of notes q
tally_stays notes note q apart =
    let other : same_instance q (about note) ≡ false = instances_equivalence.symm q (about note) ∙ apart in
    λ i. record {
      yields = (count_last (is_yield_of q) notes note ∙ no_more (yields_of notes q) (is_yield_of q note) (yields_other note q other)) i;
      ended = (list_any-append (is_end_of q) notes (note ∷ [])
          ∙ stays (list_any (is_end_of q) notes) (is_end_of q note) (ends_other note q other)) i;
    }

pub tallied_more : {S : Type 0} (old new : IndexMap Instance Tally S) (notes : List Note) (note : Note) (tally : Tally)
    → AreTallied old notes → tally ≡ tally_of (notes ++ note ∷ []) (about note)
    → ((q : Instance) → get same_instance new q ≡ cond (same_instance (about note) q) (Some tally) (get same_instance old q))
    → AreTallied new (notes ++ note ∷ [])
tallied_more old new notes note tally was now is q =
    ap tally_in (is q)
    ∙ elim (same_instance (about note) q) as (λ b. same_instance (about note) q ≡ b
    → tally_in (cond b (Some tally) (get same_instance old q)) ≡ tally_of (notes ++ note ∷ []) q) [
      | true ↦ λ e. now ∙ ap (tally_of (notes ++ note ∷ [])) (instances_same (about note) q e)
      | false ↦ λ e. was q ∙ sym (tally_stays notes note q e)
    ] refl

-- ---- the noted instance

pub yields_yielded : (notes : List Note) (i : Instance)
    → yields_of (notes ++ Yielded i ∷ []) i ≡ yields_of notes i + 1
yields_yielded notes i =
    count_last (is_yield_of i) notes (Yielded i)
    ∙ ap (λ b. yields_of notes i + cond b 1 0) (instance_itself i)

pub ended_yielded : (notes : List Note) (i : Instance)
    → list_any (is_end_of i) (notes ++ Yielded i ∷ []) ≡ list_any (is_end_of i) notes
ended_yielded notes i =
    list_any-append (is_end_of i) notes (Yielded i ∷ [])
    ∙ stays (list_any (is_end_of i) notes) false refl

pub yields_ended : (notes : List Note) (i : Instance)
    → yields_of (notes ++ Ended i ∷ []) i ≡ yields_of notes i
yields_ended notes i =
    count_last (is_yield_of i) notes (Ended i) ∙ no_more (yields_of notes i) false refl

or_true : (a b : Bool) → b ≡ true → (a || (b || false)) ≡ true
or_true true b e = refl
or_true false true e = refl
or_true false false e = absurd (cc)

pub ended_ended : (notes : List Note) (i : Instance)
    → list_any (is_end_of i) (notes ++ Ended i ∷ []) ≡ true
ended_ended notes i =
    list_any-append (is_end_of i) notes (Ended i ∷ []) ∙ or_true (list_any (is_end_of i) notes) (same_instance i i) (instance_itself i)

pub tally_yielded : (notes : List Note) (i : Instance) (tally : Tally) → tally ≡ tally_of notes i
    → record { yields = tally.yields + 1; ended = tally.ended } ≡ tally_of (notes ++ Yielded i ∷ []) i
tally_yielded notes i tally is = λ k. record {
  yields = (ap (λ (t : Tally). t.yields + 1) is ∙ sym (yields_yielded notes i)) k;
  ended = (ap (λ (t : Tally). t.ended) is ∙ sym (ended_yielded notes i)) k;
}

pub tally_ended : (notes : List Note) (i : Instance) (tally : Tally) → tally ≡ tally_of notes i
    → record { yields = tally.yields; ended = true } ≡ tally_of (notes ++ Ended i ∷ []) i
tally_ended notes i tally is =
    λ k. record { yields = (ap (λ (t : Tally). t.yields) is ∙ sym (yields_ended notes i)) k; ended = sym (ended_ended notes i) k }

-- ---- whether something was yielded

some_counted : {A : Type 0} (p : A → Bool) (xs : List A) → nat_lt 0 (count_by p xs) ≡ list_any p xs
some_counted p [] = refl
some_counted p (x ∷ xs) =
    ap (nat_lt 0) (sum_by-append (λ y. cond (p y) 1 0) (x ∷ []) xs ∙ ap (λ n. n + count_by p xs) (zero-add (cond (p x) 1 0)))
    ∙ elim (p x) as (λ b. nat_lt 0 (cond b 1 0 + count_by p xs) ≡ (b || list_any p xs)) [
      | true ↦ lt-ltb 0 (1 + count_by p xs) (omega arith)
      | false ↦ ap (nat_lt 0) (zero-add (count_by p xs)) ∙ some_counted p xs
    ]

pub yielded_some : (notes : List Note) (i : Instance)
    → nat_lt 0 (yields_of notes i) ≡ list_any (is_yield_of i) notes
yielded_some notes i = some_counted (is_yield_of i) notes

-- ---- the notes that are kept

-- what a note of an instance is about
pub about_it : (ended : Bool) (i : Instance) → about (note_of ended i) ≡ i
about_it true i = refl
about_it false i = refl

module _ (instances more : List Instance) where
  pub notes_grown : (notes : List Noted) → ArePlaced instances notes
      → notes_in (instances ++ more) notes ≡ notes_in instances notes
  notes_grown [] placed = refl
  notes_grown (n ∷ notes) placed =
      let here : get_or (instances ++ more) n.place no_instance ≡ get_or instances n.place no_instance =
      get_or_append_left instances more no_instance n.place
      (All-head (λ (m : Noted). m.place < length instances) n notes placed) in
      let rest : ArePlaced instances notes = All-tail (λ (m : Noted). m.place < length instances) n notes placed in
      λ k. note_of n.ended (here k) ∷ notes_grown notes rest k

  pub placed_grown : (notes : List Noted) → ArePlaced instances notes → ArePlaced (instances ++ more) notes
  placed_grown =
      All-weaker (λ (m : Noted). m.place < length instances) (λ (m : Noted). m.place < length (instances ++ more))
      (λ m h. omega (arith, length-append instances more))

-- the instances after one is put into the table: those before, and it is at its place
pub record IsPut (before after : List Instance) (place : ℕ) (key : Instance) : Type 0 where
  pub more : List Instance
  pub grown : after ≡ before ++ more
  pub within : place < length after
  pub found : get_or after place no_instance ≡ key

module _ (key : Instance) (tally : Tally) where
  abbrev put : List (Instance × Tally) → List (Instance × Tally)
  put es = insert_entry same_instance es key tally

  pub is_put : (es : List (Instance × Tally))
      → IsPut (keys_of es) (keys_of (put es)) (position_or_len (same_instance key) (keys_of es)) key
  is_put [] = record { more = key ∷ []; grown = refl; within = omega arith; found = refl }
  is_put (e ∷ es) = elim (same_instance key e.0) as (λ b. same_instance key e.0 ≡ b
      → IsPut (e.0 ∷ keys_of es) (keys_of (if b then (e.0, tally) ∷ es else e ∷ put es))
      (cond (not b) (1 + position_or_len (same_instance key) (keys_of es)) 0) key) [
        | true ↦ λ same. record {
          more = [];
          grown = sym (append-nil (e.0 ∷ keys_of es));
          within = omega arith;
          found = sym (instances_same key e.0 same);
        }
        | false ↦ λ _. let later = is_put es in record {
          more = later.more;
          grown = ap (λ ks. e.0 ∷ ks) later.grown;
          within = omega (arith, later.within);
          found =
              get_or-append-add (e.0 ∷ []) (keys_of (put es))
              (position_or_len (same_instance key) (keys_of es)) no_instance ∙ later.found;
        }
      ] refl

module _ {S : Type 0} (old new : IndexMap Instance Tally S) (place : ℕ) (key i : Instance) (tally : Tally)
    (is : key ≡ i) where
  put_there : new.entries ≡ insert_entry same_instance old.entries key tally
      → place ≡ insert_index same_instance old key
      → IsPut (keys old) (keys new) place i
  put_there entries at =
      let after : List Instance = keys_of (put key tally old.entries) in
      let first : ℕ = insert_index same_instance old key in
      subst (λ es. IsPut (keys old) (keys_of es) place i) (sym entries)
      (subst (λ p. IsPut (keys old) after p i) (sym at)
      (subst (IsPut (keys old) after first) is (is_put key tally old.entries)))

  -- the notes and the table after a note more of an instance
  module _ (were are : List Noted) (ended : Bool) (notes : List Note)
      (was : AreTallied old (notes_in (keys old) were) × ArePlaced (keys old) were)
      (view : notes_in (keys old) were ≡ notes)
      (entries : new.entries ≡ insert_entry same_instance old.entries key tally)
      (at : place ≡ insert_index same_instance old key)
      (more : are ≡ were ++ record { place = place; ended = ended } ∷ []) where
    abbrev one : Noted
    one = record { place = place; ended = ended }

    there : IsPut (keys old) (keys new) place i
    there = put_there entries at

    kept : notes_in (keys new) were ≡ notes
    kept = ap (λ ks. notes_in ks were) there.grown ∙ notes_grown (keys old) there.more were was.1 ∙ view

    pub noted_view : notes_in (keys new) are ≡ notes ++ note_of ended i ∷ []
    noted_view =
        ap (notes_in (keys new)) more ∙ map_push (note_held (keys new)) were one
        ∙ (λ k. kept k ++ note_of ended (there.found k) ∷ [])

    placed : ArePlaced (keys new) are
    placed =
        let before : ArePlaced (keys new) were =
        subst (λ ks. ArePlaced ks were) (sym there.grown) (placed_grown (keys old) there.more were was.1) in
        subst (ArePlaced (keys new)) (sym more)
        (All-push (λ (m : Noted). m.place < length (keys new)) were one before there.within)

    pub noted_more : tally ≡ tally_of (notes ++ note_of ended i ∷ []) i
        → ((q : Instance) → get same_instance new q ≡ cond (same_instance key q) (Some tally) (get same_instance old q))
        → AreTallied new (notes_in (keys new) are) × ArePlaced (keys new) are
    noted_more now found =
        let it : about (note_of ended i) ≡ i = about_it ended i in
        let tallied : AreTallied new (notes ++ note_of ended i ∷ []) =
        tallied_more old new notes (note_of ended i) tally (subst (AreTallied old) view was.0)
        (now ∙ ap (tally_of (notes ++ note_of ended i ∷ [])) (sym it))
        (λ q. found q ∙ ap (λ k. cond (same_instance k q) (Some tally) (get same_instance old q)) (is ∙ sym it)) in
        (subst (AreTallied new) (sym noted_view) tallied, placed)
