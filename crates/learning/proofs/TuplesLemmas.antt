-- What is known where a tuple was learnt in part.
use Rattle.std.proofs.Common.{◌≡◌, ℕ, List, [], ◌∷◌, ◌++◌, map, refl, sym, ap, subst, ◌∙◌, unwrap_or, Some, Contains}
use Rattle.std.proofs.lemmas.Simd.{map-map}
use Rattle.learning.specs.Outputs.{AreNamed}
use Rattle.learning.specs.Tuples.{Teaches, with_tuple}
use Rattle.fact_store.proofs.GrowthLemmas.{front_itself, front_same, facts_front, facts_grow, facts_left, between_then}
use Rattle.fact_store.specs.Growth.{Grows, IsBetween, IsFrontOf, LiesBetween}
use Rattle.lemmas.proofs.Ascending.{contains_here, contains_later}
use Rattle.lemmas.specs.Lists.{AreDistinct}
use Rattle.std.specs.Option.{option_and_then, option_map}
use Rattle.task_model.proofs.KnownLemmas.{facts_then, with_names-distinct}
use Rattle.task_model.specs.Known.{Known, with_facts, with_names}
use Rattle.task_model.specs.Streams.{certified_by, fact_of, output_types}
use Rattle.task_model.specs.Truth.{slots_of}
use Rattle.task_model.specs.declared.domain.Domain.{Domain}
use Rattle.task_model.specs.declared.domain.Pattern.{Pattern}
use Rattle.task_model.specs.declared.fact.Fact.{Fact}
use Rattle.task_model.specs.declared.stream.Stream.{Stream}
use Rattle.transcript_model.proofs.CallNameLemmas.{places_exact}
use Rattle.transcript_model.proofs.NamesLemmas.{place_found, with_names-front, with_names-has}
use Rattle.transcript_model.specs.Names.{generated, places_of}

-- ---- facts, in two parts

module _ (old first second : List Fact) where
  -- some of the first
  first_part : (now : List Fact) → IsBetween old now (with_facts old first)
      → IsBetween old now (with_facts old (first ++ second))
  first_part now h =
      between_then old old now (with_facts old first) (with_facts old (first ++ second)) (front_itself old) h
      (facts_left (with_facts old first) second (with_facts old (first ++ second)) (sym (facts_then old first second)))

  -- all of the first, and some of the second
  second_part : (mid now : List Fact) → mid ≡ with_facts old first
      → IsBetween mid now (with_facts mid second)
      → IsBetween old now (with_facts old (first ++ second))
  second_part mid now is h =
      between_then old mid now (with_facts mid second) (with_facts old (first ++ second)) (facts_grow old mid first is) h
      (front_same (with_facts mid second) (with_facts old (first ++ second))
      (facts_then old first second ∙ ap (λ fs. with_facts fs second) (sym is)))

  -- all of the first
  between_parts : (mid : List Fact) → mid ≡ with_facts old first
      → IsBetween old mid (with_facts old (first ++ second))
  between_parts mid is = second_part mid mid is (front_itself mid, facts_front mid second)

-- ---- places

-- names that are all in a table have places there
pub places_found : (names more : List (List ℕ)) → AreDistinct names
    → ((name : List ℕ) → Contains more name → Contains names name)
    → (objects : List ℕ) × (places_of names more ≡ Some objects)
places_found names [] distinct all = ([], refl)
places_found names (name ∷ more) distinct all =
    let first = place_found names name distinct (all name (contains_here name more)) in
    let rest = places_found names more distinct (λ m there. all m (contains_later name more m there)) in (
      first.0 ∷ rest.0,
      (λ i. option_and_then (λ object. option_map (λ objects. object ∷ objects) (rest.1 i)) (first.1 i)),
    )

-- the names that were put behind a table have places in it
pub places_behind : (names more : List (List ℕ)) → AreDistinct names
    → (objects : List ℕ) × (places_of (with_names names more) more ≡ Some objects)
places_behind names more distinct =
    places_found (with_names names more) more (with_names-distinct names more distinct) (with_names-has names more)

-- ---- a tuple

module _ (domain : Domain) (stream : Stream) (inputs : List ℕ) (tuple : List (List ℕ)) (old now : Known) where
  -- some of its values have names, and nothing else is known
  pub some_named : IsBetween old.names now.names (with_names old.names (map generated tuple))
      → now.facts ≡ old.facts → now.values ≡ old.values
      → LiesBetween old now (with_tuple domain stream inputs tuple old)
  some_named names facts values =
      let after = with_tuple domain stream inputs tuple old in
      let outputs = unwrap_or (places_of after.names (map generated tuple)) [] in (
        record {
          names = names.0;
          facts = front_same old.facts now.facts facts;
          values = front_same old.values now.values values;
        },
        record {
          names = names.1;
          facts = subst (λ fs. IsFrontOf fs after.facts) (sym facts)
              (facts_front old.facts (certified_by domain stream inputs outputs));
          values = front_same now.values old.values (sym values);
        },
      )

-- the tuple's values have names, those of the outputs, and nothing else is known
pub record AreGiven (tuple : List (List ℕ)) (old named : Known) (outputs : List ℕ) : Type 0 where
  pub names : named.names ≡ with_names old.names (map generated tuple)
  pub distinct : AreDistinct named.names
  pub outputs_named : AreNamed named.names outputs tuple
  pub facts : named.facts ≡ old.facts
  pub values : named.values ≡ old.values

module _ (domain : Domain) (stream : Stream) (inputs : List ℕ) (tuple : List (List ℕ)) (old named now : Known) (outputs : List ℕ)
    (given : AreGiven tuple old named outputs) (names : now.names ≡ named.names) (values : now.values ≡ named.values) where
  -- some of what is certified is known
  some_certified : IsBetween old.facts now.facts (with_facts old.facts (certified_by domain stream inputs outputs))
      → LiesBetween old now (with_tuple domain stream inputs tuple old)
  some_certified facts =
      let after = with_tuple domain stream inputs tuple old in
      let here : places_of named.names (map generated tuple) ≡ Some outputs =
      (places_exact named.names (map generated tuple) outputs given.distinct).1
      (given.outputs_named ∙ sym (map-map Some generated tuple)) in
      let there : places_of after.names (map generated tuple) ≡ Some outputs =
      ap (λ ns. places_of ns (map generated tuple)) (sym given.names) ∙ here in
      let all : with_facts old.facts (certified_by domain stream inputs outputs) ≡ after.facts =
      ap (λ o. with_facts old.facts (certified_by domain stream inputs (unwrap_or o []))) (sym there) in
      let whole : now.names ≡ after.names = names ∙ given.names in
      let stays : now.values ≡ old.values = values ∙ given.values in
      let grown = with_names-front old.names (map generated tuple) in (
        record {
          names = (grown.0, whole ∙ grown.1);
          facts = facts.0;
          values = front_same old.values now.values stays;
        },
        record {
          names = front_same now.names after.names (sym whole);
          facts = subst (IsFrontOf now.facts) all facts.1;
          values = front_same now.values old.values (sym stays);
        },
      )

  abbrev types : List Fact
  types = output_types domain stream.outputs outputs

  abbrev atoms : List Fact
  atoms = map (fact_of (slots_of (inputs ++ outputs))) stream.certified

  -- the types, as they are read
  types_given : (sorts objects : List ℕ) → sorts ≡ stream.outputs → objects ≡ outputs
      → with_facts named.facts (output_types domain sorts objects) ≡ with_facts old.facts types
  types_given sorts objects first second =
      λ i. with_facts (given.facts i) (output_types domain (first i) (second i))

  pub types_part : (sorts objects : List ℕ) → sorts ≡ stream.outputs → objects ≡ outputs
      → IsBetween named.facts now.facts (with_facts named.facts (output_types domain sorts objects))
      → LiesBetween old now (with_tuple domain stream inputs tuple old)
  types_part sorts objects first second h =
      some_certified
      (first_part old.facts types atoms now.facts
      (subst (λ fs. IsBetween fs now.facts (with_facts old.facts types)) given.facts
      (subst (IsBetween named.facts now.facts) (types_given sorts objects first second) h)))

  pub types_whole : (sorts objects : List ℕ) → sorts ≡ stream.outputs → objects ≡ outputs
      → now.facts ≡ with_facts named.facts (output_types domain sorts objects)
      → LiesBetween old now (with_tuple domain stream inputs tuple old)
  types_whole sorts objects first second is =
      some_certified (between_parts old.facts types atoms now.facts (is ∙ types_given sorts objects first second))

  pub atoms_part : (mid : List Fact) (sorts objects args : List ℕ) (patterns : List Pattern) → sorts ≡ stream.outputs
      → objects ≡ outputs → mid ≡ with_facts named.facts (output_types domain sorts objects)
      → args ≡ inputs ++ outputs → patterns ≡ stream.certified
      → IsBetween mid now.facts (with_facts mid (map (fact_of (slots_of args)) patterns))
      → LiesBetween old now (with_tuple domain stream inputs tuple old)
  atoms_part mid sorts objects args patterns first second is all each h =
      let read : with_facts mid (map (fact_of (slots_of args)) patterns) ≡ with_facts mid atoms =
      λ i. with_facts mid (map (fact_of (slots_of (all i))) (each i)) in
      some_certified
      (second_part old.facts types atoms mid now.facts (is ∙ types_given sorts objects first second)
      (subst (IsBetween mid now.facts) read h))

-- a tuple takes nothing from what is known
pub teaches_grows : (domain : Domain) (stream : Stream) (inputs : List ℕ) (tuple : List (List ℕ)) (before after : Known)
    → (outputs : List ℕ) → Teaches domain stream inputs tuple before after outputs → Grows before after
teaches_grows domain stream inputs tuple before after outputs h = record {
  names = subst (IsFrontOf before.names) (sym h.names) (with_names-front before.names (map generated tuple));
  facts = facts_grow before.facts after.facts (certified_by domain stream inputs outputs) h.facts;
  values = front_same before.values after.values h.values;
}
