-- What is known after tuples, one after another, is what it is after all at once.
use Rattle.std.proofs.Common.{◌≡◌, ℕ, suc, ◌+◌, ◌-◌, ◌<◌, arith, List, [], ◌∷◌, ◌++◌, map, take, drop, length, replicate, refl, sym, ap, subst, ◌∙◌, Some, unwrap_or, append_assoc}
use Rattle.std.proofs.lemmas.List.{map-append}
use Rattle.std.proofs.lemmas.Simd.{map-map}
use Rattle.std.proofs.Math.ListN.{take-append-drop}
use Rattle.learning.proofs.TuplesLemmas.{places_behind}
use Rattle.learning.specs.Outputs.{AreNamed}
use Rattle.learning.specs.Tuples.{with_tuple}
use Rattle.fact_store.proofs.GrowthLemmas.{between_same, facts_front, front_itself, grows_itself, grows_then, values_front}
use Rattle.fact_store.specs.Growth.{Grows, IsBetween, IsFrontOf, LiesBetween}
use Rattle.task_model.specs.Known.{Known, with_facts, with_names}
use Rattle.lemmas.specs.Lists.{AreDistinct}
use Rattle.task_model.specs.Streams.{Note, Yielded, Ended, certified_by, worth_by}
use Rattle.task_model.specs.declared.task.Task.{Task}
use Rattle.transcript_model.proofs.CallNameLemmas.{places_exact}
use Rattle.transcript_model.proofs.NamesLemmas.{places_kept, with_names-front, with_names-then}
use Rattle.transcript_model.specs.Names.{generated, places_of}
use Rattle.transcript_model.specs.Transcript.{Asked, tuple_facts, yield_facts, known_with, notes_with}
use Rattle.transcript_model.specs.declared.entry.Entry.{Entry}
use Rattle.transcript_model.specs.declared.entry.Entry.TheVariants as entry
use Rattle.task_model.proofs.KnownLemmas.{facts_then, with_names-distinct}

-- an answer takes nothing from what is known
pub known_with_grows : (task : Task) (known : Known) (a : Asked) (e : Entry)
    → Grows known (known_with task known a e)
known_with_grows task known a (entry.Got n tuples values) = record {
  names = with_names-front known.names (map generated values);
  facts = facts_front known.facts (yield_facts task (with_names known.names (map generated values)) a tuples values);
  values = front_itself known.values;
}
known_with_grows task known a (entry.Value n value) = record {
  names = front_itself known.names;
  facts = front_itself known.facts;
  values = values_front known.values (worth_by a.stream a.instance.inputs value);
}
known_with_grows task known a e = grows_itself known

-- nor from what is noted
pub notes_with_front : (notes : List Note) (a : Asked) (e : Entry)
    → IsFrontOf notes (notes_with notes a e)
notes_with_front notes a (entry.Got n tuples values) = (replicate tuples (Yielded a.instance), refl)
notes_with_front notes a (entry.Value n value) = (Ended a.instance ∷ [], refl)
notes_with_front notes a (entry.End n) = (Ended a.instance ∷ [], refl)
notes_with_front notes a e = front_itself notes

-- what a tuple certifies, where its outputs have these names, and more names may stand behind them
tuple_certifies : (task : Task) (names more : List (List ℕ)) (a : Asked) (values : List (List ℕ)) (outputs : List ℕ)
    → AreDistinct names
    → AreNamed names outputs values
    → tuple_facts task (with_names names more) a values ≡ certified_by task.domain a.stream a.instance.inputs outputs
tuple_certifies task names more a values outputs distinct named =
    let here : places_of names (map generated values) ≡ Some outputs =
    (places_exact names (map generated values) outputs distinct).1 (named ∙ sym (map-map Some generated values)) in
    let front = with_names-front names more in
    let there : places_of (with_names names more) (map generated values) ≡ Some outputs =
    ap (λ ns. places_of ns (map generated values)) front.1 ∙ places_kept names front.0 (map generated values) outputs here in
    ap (λ o. certified_by task.domain a.stream a.instance.inputs (unwrap_or o [])) there

-- a tuple is learnt, and then the others are
pub tuple_learnt : (task : Task) (known after : Known) (a : Asked) (n : ℕ) (values : List (List ℕ)) (outputs : List ℕ)
    → after.names ≡ with_names known.names (map generated (take (length a.stream.outputs) values)) → AreDistinct after.names
    → AreNamed after.names outputs (take (length a.stream.outputs) values)
    → after.facts ≡ with_facts known.facts (certified_by task.domain a.stream a.instance.inputs outputs) → after.values ≡ known.values
    → known_with task after a (entry.Got 0 n (drop (length a.stream.outputs) values)) ≡ known_with task known a (entry.Got 0 (suc n) values)
tuple_learnt task known after a n values outputs names_are distinct named facts_are values_are =
    let width = length a.stream.outputs in
    let first = take width values in
    let rest = drop width values in
    let parts : map generated first ++ map generated rest ≡ map generated values =
    sym (map-append generated first rest) ∙ ap (map generated) (take-append-drop width values) in
    let names : with_names after.names (map generated rest) ≡ with_names known.names (map generated values) =
    ap (λ ns. with_names ns (map generated rest)) names_are
    ∙ sym (with_names-then known.names (map generated first) (map generated rest)) ∙ ap (with_names known.names) parts in
    let all : List (List ℕ) = with_names known.names (map generated values) in
    let certifies : certified_by task.domain a.stream a.instance.inputs outputs ≡ tuple_facts task all a first =
    sym (tuple_certifies task after.names (map generated rest) a first outputs distinct named)
    ∙ ap (λ ns. tuple_facts task ns a first) names in
    let facts : with_facts after.facts (yield_facts task (with_names after.names (map generated rest)) a n rest) ≡ with_facts known.facts
    (yield_facts task all a (suc n) values) =
    ap (λ ns. with_facts after.facts (yield_facts task ns a n rest)) names
    ∙ ap (λ fs. with_facts fs (yield_facts task all a n rest)) (facts_are ∙ ap (with_facts known.facts) certifies)
    ∙ sym (facts_then known.facts (tuple_facts task all a first) (yield_facts task all a n rest)) in
    λ i. record { names = names i; facts = facts i; values = values_are i }

-- where no tuple is left, all is known
pub none_left : (task : Task) (known : Known) (a : Asked) (values : List (List ℕ))
    → length values ≡ 0
    → known ≡ known_with task known a (entry.Got 0 0 values)
none_left task known a [] e = refl
none_left task known a (v ∷ vs) e = absurd (cc)

-- ---- where an answer is learnt in part

-- what was known before, and what is to be known after
pub lies_then : (first before now after last : Known) → Grows first before
    → LiesBetween before now after → Grows after last
    → LiesBetween first now last
lies_then first before now after last more h left =
    (grows_then first before now more h.0, grows_then now after last h.1 left)

-- nothing of the answer, and all of it
pub none_known : (task : Task) (known : Known) (a : Asked) (e : Entry)
    → LiesBetween known known (known_with task known a e)
none_known task known a e = (grows_itself known, known_with_grows task known a e)

pub all_known : (task : Task) (known now : Known) (a : Asked) (e : Entry) → now ≡ known_with task known a e
    → LiesBetween known now (known_with task known a e)
all_known task known now a e is =
    subst (λ k. LiesBetween known k (known_with task known a e)) (sym is)
    (known_with_grows task known a e, grows_itself (known_with task known a e))

pub none_noted : (notes now : List Note) (a : Asked) (e : Entry) → now ≡ notes
    → IsBetween notes now (notes_with notes a e)
none_noted notes now a e same =
    between_same notes notes now (notes_with notes a e) same (front_itself notes, notes_with_front notes a e)

-- what is known after the next tuple is known after all that are left
pub tuple_grows : (task : Task) (known : Known) (a : Asked) (n : ℕ) (values : List (List ℕ))
    → AreDistinct known.names
    → Grows (with_tuple task.domain a.stream a.instance.inputs (take (length a.stream.outputs) values) known)
    (known_with task known a (entry.Got 0 (suc n) values))
tuple_grows task known a n values distinct =
    let width = length a.stream.outputs in
    let first = take width values in
    let mid = with_tuple task.domain a.stream a.instance.inputs first known in
    let apart : AreDistinct mid.names = with_names-distinct known.names (map generated first) distinct in
    let there = places_behind known.names (map generated first) distinct in
    let named : AreNamed mid.names there.0 first =
    (places_exact mid.names (map generated first) there.0 apart).0 there.1 ∙ map-map Some generated first in
    let facts : mid.facts ≡ with_facts known.facts (certified_by task.domain a.stream a.instance.inputs there.0) =
    ap (λ o. with_facts known.facts (certified_by task.domain a.stream a.instance.inputs (unwrap_or o []))) there.1 in
    subst (Grows mid) (tuple_learnt task known mid a n values there.0 refl apart named facts refl)
    (known_with_grows task mid a (entry.Got 0 n (drop width values)))

-- ---- counts

-- as many tuples are left as are to come
pub one_less : (n k : ℕ) → k < n → n - k ≡ suc (n - (k + 1))
one_less n k lt = omega arith

-- one note more in front of those that are left
pub one_more : {A : Type 0} (xs : List A) (x : A) (n : ℕ)
    → (xs ++ x ∷ []) ++ replicate n x ≡ xs ++ replicate (suc n) x
one_more xs x n = append_assoc xs (x ∷ []) (replicate n x)
