-- What is known with some entries of a list.
use Rattle.std.proofs.Common.{◌≡◌, ℕ, ◌+◌, ◌<◌, ◌≤◌, arith, true, false, cond, List, [], ◌∷◌, ◌++◌, length, take, get_or, inl, inr, refl, sym, ap, subst, ◌∙◌, Some, None, slice_get}
use Rattle.std.proofs.lemmas.Grind.{flat_map-append}
use Rattle.std.proofs.lemmas.List.{append-nil, take_more}
use Rattle.std.proofs.lemmas.List.Elements.{All-nil}
use Rattle.std.proofs.lemmas.Option.{slice_get_within}
use Rattle.std.specs.List.{flat_map}
use Rattle.std.specs.Prelude.{Bool}
use Rattle.learning.proofs.FitStreamLemmas.{fit_parts}
use Rattle.fact_layer.specs.Laid.{laid_over}
use Rattle.lemmas.proofs.ListTests.{all_by_place}
use Rattle.lemmas.proofs.Members.{push_cases}
use Rattle.optimistic_set.proofs.PlaceholderLemmas.{HaveFew}
use Rattle.optimistic_set.proofs.SupposingLemmas.{supposing_coherent}
use Rattle.optimistic_set.specs.Dreamable.{Dreamable}
use Rattle.optimistic_set.specs.Entries.{ArePlainEntries}
use Rattle.task_model.proofs.KnownLemmas.{facts_then}
use Rattle.task_model.specs.Dreams.{SupposedEntry, entry_facts, entry_values, entry_names, supposing, is_supported}
use Rattle.task_model.specs.Known.{Known, IsCoherent, with_facts, with_values}
use Rattle.task_model.specs.Plans.{IsValid}
use Rattle.task_model.specs.Streams.{certified_by, worth_by, is_reachable}
use Rattle.task_model.specs.declared.fact.Fact.{Fact}
use Rattle.task_model.specs.declared.stream.Instance.{Instance}
use Rattle.task_model.specs.declared.stream.Stream.{Stream}
use Rattle.task_model.specs.declared.task.GroundAction.{GroundAction}
use Rattle.task_model.specs.declared.task.Task.{Task}
use Rattle.task_model.specs.declared.task.Valued.{Valued}
use Rattle.transcript_model.proofs.LegalPrefixLemmas.{values_then}
use Rattle.transcript_model.proofs.NamedObjectLemmas.{fit_stream_at}
use Rattle.dreaming.proofs.PlacesLemmas.{AreBelow, entry_of_list, entries_pushed, at_place}
use Rattle.dreaming.specs.Parts.{Portion, entries_at, IsListed, IsPortion}
use Rattle.dreaming.specs.Thinning.{IsPartAt, IsValidWith, has_support, supported_places}

-- ---- plain entries

pub plain_few : (task : Task) (known : Known) (list : List SupposedEntry) → ArePlainEntries task known list → HaveFew list
plain_few task known list plain =
    all_by_place (λ (e : SupposedEntry). length e.outputs ≤ 8) list
    (λ k e at.
    let p = plain.each k e at in
    let parts = fit_parts task.domain p.stream (fit_stream_at task e.instance.stream p.stream plain.base.fit p.named) in
    omega (arith, p.outputs, parts.outputs))

pub part_coherent : (task : Task) (p : Portion) → IsPortion task p → IsCoherent p.known
part_coherent task p h =
    subst IsCoherent (sym h.known)
    (supposing_coherent task p.base p.list (entries_at p.list p.places) h.plain.base.fit h.plain.base.declared h.coherent h.plain.base.real
    (plain_few task p.base p.list h.plain) h.plain.few
    (λ k e at. let there = entry_of_list p.list p.places k e at in h.plain.each there.0 e there.1))

-- ---- no entry

module _ (task : Task) (d : Dreamable) (p : Portion) (names : List (List ℕ)) (facts : List Fact) (values : List Valued)
    (h : IsListed task d) (base : p.base ≡ d.base) (list : p.list ≡ d.list) (places : p.places ≡ [])
    (named : d.known.names ≡ d.base.names ++ names) (no_facts : facts ≡ []) (no_values : values ≡ []) where
  names_are : p.base.names ++ names ≡ p.base.names ++ entry_names 1 p.list
  names_are =
      ap (λ (b : Known). b.names ++ names) base ∙ sym named ∙ ap (λ (k : Known). k.names) h.known
      ∙ (λ i. (sym base i).names ++ entry_names 1 (sym list i))

  facts_are : p.base.facts ++ facts ≡ with_facts p.base.facts (flat_map (entry_facts task) (entries_at p.list p.places))
  facts_are =
      ap (λ fs. p.base.facts ++ fs) no_facts ∙ append-nil p.base.facts
      ∙ ap (λ ps. with_facts p.base.facts (flat_map (entry_facts task) (entries_at p.list ps))) (sym places)

  values_are : p.base.values ++ values ≡ with_values p.base.values (flat_map (entry_values task) (entries_at p.list p.places))
  values_are =
      ap (λ vs. p.base.values ++ vs) no_values ∙ append-nil p.base.values
      ∙ ap (λ ps. with_values p.base.values (flat_map (entry_values task) (entries_at p.list ps))) (sym places)

  pub none_taken : IsCoherent p.base → p.known ≡ laid_over p.base names facts values → IsPortion task p
  none_taken coherent known = record {
    plain = subst (λ b. ArePlainEntries task b p.list) (sym base) (subst (ArePlainEntries task d.base) (sym list) h.plain);
    coherent = coherent;
    below = subst (AreBelow p.list) (sym places) (All-nil (λ place. place < length p.list));
    known = known ∙ (λ i. record { names = names_are i; facts = facts_are i; values = values_are i });
  }

-- ---- one entry more

module _ (task : Task) (old new : Portion) (place : ℕ) (e : SupposedEntry) (stream : Stream) (h : IsPortion task old)
    (at : slice_get old.list place ≡ Some e) (named : slice_get task.streams e.instance.stream ≡ Some stream)
    (base : new.base ≡ old.base) (list : new.list ≡ old.list) (places : new.places ≡ old.places ++ place ∷ [])
    (names : new.known.names ≡ old.known.names)
    (facts : new.known.facts ≡ with_facts old.known.facts (certified_by task.domain stream e.instance.inputs e.outputs))
    (values : new.known.values ≡ with_values old.known.values (worth_by stream e.instance.inputs 0)) where
  abbrev kept : List SupposedEntry
  kept = entries_at old.list old.places

  grown : entries_at new.list new.places ≡ kept ++ e ∷ []
  grown = (λ i. entries_at (list i) (places i)) ∙ entries_pushed old.list old.places place e at

  facts_grow : new.known.facts ≡ with_facts new.base.facts (flat_map (entry_facts task) (entries_at new.list new.places))
  facts_grow =
      facts ∙ ap (λ (k : Known). with_facts k.facts (certified_by task.domain stream e.instance.inputs e.outputs)) h.known
      ∙ ap (with_facts (with_facts old.base.facts (flat_map (entry_facts task) kept))) (sym here)
      ∙ sym (facts_then old.base.facts (flat_map (entry_facts task) kept) (flat_map (entry_facts task) (e ∷ [])))
      ∙ ap (with_facts old.base.facts) (sym (flat_map-append (entry_facts task) kept (e ∷ [])))
      ∙ (λ i. with_facts (sym base i).facts (flat_map (entry_facts task) (sym grown i)))
    where
      certified : entry_facts task e ≡ certified_by task.domain stream e.instance.inputs e.outputs
      certified = rw named

      here : flat_map (entry_facts task) (e ∷ []) ≡ certified_by task.domain stream e.instance.inputs e.outputs
      here = append-nil (entry_facts task e) ∙ certified

  values_grow : new.known.values ≡ with_values new.base.values (flat_map (entry_values task) (entries_at new.list new.places))
  values_grow =
      values ∙ ap (λ (k : Known). with_values k.values (worth_by stream e.instance.inputs 0)) h.known
      ∙ ap (with_values (with_values old.base.values (flat_map (entry_values task) kept))) (sym here)
      ∙ sym (values_then old.base.values (flat_map (entry_values task) kept) (flat_map (entry_values task) (e ∷ [])))
      ∙ ap (with_values old.base.values) (sym (flat_map-append (entry_values task) kept (e ∷ [])))
      ∙ (λ i. with_values (sym base i).values (flat_map (entry_values task) (sym grown i)))
    where
      worth : entry_values task e ≡ worth_by stream e.instance.inputs 0
      worth = rw named

      here : flat_map (entry_values task) (e ∷ []) ≡ worth_by stream e.instance.inputs 0
      here = append-nil (entry_values task e) ∙ worth

  below_grow : AreBelow new.list new.places
  below_grow =
      subst (λ es. AreBelow es new.places) (sym list)
      (subst (AreBelow old.list) (sym places)
      (all_by_place (λ q. q < length old.list) (old.places ++ place ∷ []) each))
    where
      each : (k q : ℕ) → slice_get (old.places ++ place ∷ []) k ≡ Some q → q < length old.list
      each k q there =
          elim (push_cases old.places place k q there) [
            | inl early ↦ at_place old.list old.places h.below k q early
            | inr last ↦ subst (λ n. n < length old.list) (sym last.1) (slice_get_within old.list place e at)
          ]

  pub one_taken : IsPortion task new
  one_taken = record {
    plain = subst (λ b. ArePlainEntries task b new.list) (sym base) (subst (ArePlainEntries task old.base) (sym list) h.plain);
    coherent = subst IsCoherent (sym base) h.coherent;
    below = below_grow;
    known = λ i. record {
      names = (names ∙ ap (λ (k : Known). k.names) h.known ∙ (λ j. (sym base j).names ++ entry_names 1 (sym list j))) i;
      facts = facts_grow i;
      values = values_grow i;
    };
  }

-- ---- support

module _ (task : Task) (p : Portion) (h : IsPortion task p) where
  -- the test of an instance that is reachable by what is known with the entries
  pub supports_is : (e x : SupposedEntry) (stream : Stream) (known : Known) (i : Instance) (b : Bool) → x ≡ e → i ≡ x.instance
      → Some stream ≡ slice_get task.streams i.stream → known ≡ p.known → b ≡ is_reachable stream known i
      → b ≡ is_supported task p.base p.list (entries_at p.list p.places) e
  supports_is e x stream known i b same of named is test =
      let same_instance : i ≡ e.instance = of ∙ ap (λ (y : SupposedEntry). y.instance) same in
      let there : slice_get task.streams e.instance.stream ≡ Some stream =
      ap (λ (j : Instance). slice_get task.streams j.stream) (sym same_instance) ∙ sym named in
      test ∙ (λ k. is_reachable stream ((is ∙ h.known) k) (same_instance k)) ∙ sym (rw there refl)

  pub supports_not : (e x : SupposedEntry) (i : Instance) → x ≡ e → i ≡ x.instance → None ≡ slice_get task.streams i.stream
      → false ≡ is_supported task p.base p.list (entries_at p.list p.places) e
  supports_not e x i same of named =
      let same_instance : i ≡ e.instance = of ∙ ap (λ (y : SupposedEntry). y.instance) same in
      let there : slice_get task.streams e.instance.stream ≡ None =
      ap (λ (j : Instance). slice_get task.streams j.stream) (sym same_instance) ∙ sym named in
      sym (rw there refl)

-- ---- parts at places

pub part_then : (task : Task) (d : Dreamable) (places : List ℕ) (old new : Portion) (place : ℕ) → IsPartAt task d places old
    → IsPortion task new → new.base ≡ old.base → new.list ≡ old.list → new.places ≡ old.places ++ place ∷ []
    → IsPartAt task d (places ++ place ∷ []) new
part_then task d places old new place h part base list places_are = record {
  part = part;
  base = base ∙ h.base;
  list = list ∙ h.list;
  places_are = places_are ∙ ap (λ ps. ps ++ place ∷ []) h.places_are;
}

pub part_more : (task : Task) (d : Dreamable) (all : List ℕ) (i : ℕ) (old new : Portion) → i < length all
    → IsPartAt task d (take i all) old → IsPortion task new → new.base ≡ old.base → new.list ≡ old.list
    → new.places ≡ old.places ++ get_or all i 0 ∷ [] → IsPartAt task d (take (i + 1) all) new
part_more task d all i old new lt h part base list places =
    subst (λ ps. IsPartAt task d ps new) (sym (take_more all i 0 lt))
    (part_then task d (take i all) old new (get_or all i 0) h part base list places)

-- ---- plans over a part

-- what is known with a part that has the entries at these places
pub part_known : (task : Task) (d : Dreamable) (places : List ℕ) (p : Portion) → IsPartAt task d places p
    → p.known ≡ supposing task d.base d.list (entries_at d.list places)
part_known task d places p h =
    h.part.known ∙ (λ i. supposing task (h.base i) (h.list i) (entries_at (h.list i) (h.places_are i)))

pub part_valid : (task : Task) (d : Dreamable) (steps : List GroundAction) (places : List ℕ) (p : Portion) (cost : ℕ)
    → IsPartAt task d places p → IsValid task p.known steps cost → IsValidWith task d steps places cost
part_valid task d steps places p cost h = subst (λ k. IsValid task k steps cost) (part_known task d places p h)

pub part_not_valid : (task : Task) (d : Dreamable) (steps : List GroundAction) (places : List ℕ) (p : Portion)
    → IsPartAt task d places p → ((cost : ℕ) → ¬ (IsValid task p.known steps cost)) → (cost : ℕ)
    → ¬ (IsValidWith task d steps places cost)
part_not_valid task d steps places p h not cost valid =
    not cost (subst (λ k. IsValid task k steps cost) (sym (part_known task d places p h)) valid)

-- ---- one place of a rest

module _ (task : Task) (known : Known) (list : List SupposedEntry) where
  pub has_support_is : (places : List ℕ) (place : ℕ) (e : SupposedEntry) → slice_get list place ≡ Some e
      → has_support task known list places place ≡ is_supported task known list (entries_at list places) e
  has_support_is places place e at = rw at refl

  pub places_first : (kept : List ℕ) (place : ℕ) (rest : List ℕ)
      → supported_places task known list kept (place ∷ rest)
      ≡ supported_places task known list (supported_places task known list kept (place ∷ [])) rest
  places_first kept place rest =
      elim (has_support task known list kept place) as (λ b.
      cond b (supported_places task known list (kept ++ place ∷ []) rest) (supported_places task known list kept rest)
      ≡ supported_places task known list (cond b (kept ++ place ∷ []) kept) rest) [ true ↦ refl | false ↦ refl ]
