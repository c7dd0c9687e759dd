-- What is known with supposed entries is coherent.
use Rattle.std.proofs.Common.{◌≡◌, ℕ, ◌+◌, ◌≤◌, arith, inl, List, [], ◌∷◌, ◌++◌, length, refl, Option, None, Some, slice_get, All}
use Rattle.std.proofs.lemmas.List.{length-append}
use Rattle.std.proofs.lemmas.List.Elements.{All-nil, All-head, All-tail}
use Rattle.std.specs.List.{flat_map}
use Rattle.fact_store.proofs.StoreLemmas.{in_more, fact_kept, value_kept}
use Rattle.lemmas.proofs.ListTests.{all_one}
use Rattle.task_model.specs.Dreams.{SupposedEntry, entry_facts, entry_values, entry_names, supposing}
use Rattle.task_model.specs.Fit.{IsFit}
use Rattle.task_model.specs.Known.{Known, IsCoherent, with_fact, with_facts, with_value, with_values}
use Rattle.task_model.specs.Streams.{worth_by}
use Rattle.task_model.specs.declared.fact.Fact.{Fact}
use Rattle.task_model.specs.declared.stream.Stream.{Stream}
use Rattle.task_model.specs.declared.stream.Worth.{Worth}
use Rattle.task_model.specs.declared.task.Task.{Task}
use Rattle.task_model.specs.declared.task.Valued.{Valued}
use Rattle.transcript_model.proofs.NamedObjectLemmas.{IsNamed, all_joined, certified_named, fit_stream_at}
use Rattle.optimistic_set.proofs.PlaceholderLemmas.{HaveFew, names_distinct}
use Rattle.optimistic_set.specs.Dreamable.{AreReal}
use Rattle.optimistic_set.specs.Entries.{IsPlainEntry}

-- ---- many facts and values more

facts_coherent : (known : Known) (more : List Fact) → All (IsNamed known.names) more → IsCoherent known
    → IsCoherent (record known { facts = with_facts known.facts more })
facts_coherent known [] named c = c
facts_coherent known (f ∷ fs) named c =
    facts_coherent (record known { facts = with_fact known.facts f }) fs (All-tail (IsNamed known.names) f fs named)
    (fact_kept known (with_fact known.facts f) f (All-head (IsNamed known.names) f fs named) (inl refl) c)

abbrev IsCost : Valued → Type 0
IsCost v = v.value ≤ 1000000

values_coherent : (known : Known) (more : List Valued) → All IsCost more → IsCoherent known
    → IsCoherent (record known { values = with_values known.values more })
values_coherent known [] costs c = c
values_coherent known (v ∷ vs) costs c =
    values_coherent (record known { values = with_value known.values v }) vs (All-tail IsCost v vs costs)
    (value_kept known (with_value known.values v) v (All-head IsCost v vs costs) (inl refl) c)

-- ---- one entry

module _ (task : Task) (names : List (List ℕ)) (fit : IsFit task) (enough : length task.problem.objects ≤ length names) (e : SupposedEntry)
    (plain : IsPlainEntry task names e) where
  facts_named : All (IsNamed names) (entry_facts task e)
  facts_named =
      rw plain.named (certified_named names task plain.stream e.instance.inputs e.outputs fit
      (fit_stream_at task e.instance.stream plain.stream fit plain.named) enough plain.inputs plain.outputs plain.given plain.fresh)

worth_nothing : (s : Stream) (inputs : List ℕ) (w : Option Worth) → s.worth ≡ w → All IsCost (worth_by s inputs 0)
worth_nothing s inputs None e = rw e (All-nil IsCost)
worth_nothing s inputs (Some w) e = rw e (all_one IsCost _ (omega arith))

values_cheap : (task : Task) (e : SupposedEntry) → All IsCost (entry_values task e)
values_cheap task e = by (slice_get task.streams e.instance.stream) refl
  where
    by : (o : Option Stream) → slice_get task.streams e.instance.stream ≡ o → All IsCost (entry_values task e)
    by None at = rw at (All-nil IsCost)
    by (Some s) at = rw at (worth_nothing s e.instance.inputs s.worth refl)

-- ---- all entries

names_coherent : (known : Known) (more : List (List ℕ)) → IsCoherent known
    → (d : (i j : ℕ) (x : List ℕ) → slice_get (known.names ++ more) i ≡ Some x → slice_get (known.names ++ more) j ≡ Some x → i ≡ j)
    → IsCoherent (record known { names = known.names ++ more })
names_coherent known more c d = record {
  names = d;
  facts = c.facts;
  values = c.values;
  objects = λ k f h j o l. in_more known.names more _ (c.objects k f h j o l);
  costs = c.costs;
}

-- some of the entries of a list, where the objects of each have names
pub supposing_coherent : (task : Task) (known : Known) (list kept : List SupposedEntry) → IsFit task
    → length task.problem.objects ≤ length known.names → IsCoherent known → AreReal known.names
    → HaveFew list → length list ≤ 20000
    → ((k : ℕ) (e : SupposedEntry) → slice_get kept k ≡ Some e → IsPlainEntry task (known.names ++ entry_names 1 list) e)
    → IsCoherent (supposing task known list kept)
supposing_coherent task known list kept fit enough c real few most plain =
    let names = known.names ++ entry_names 1 list in
    let long : length task.problem.objects ≤ length names = omega (arith, enough, length-append known.names (entry_names 1 list)) in
    let named = names_coherent known (entry_names 1 list) c (names_distinct known.names list c.names real few most) in
    let known_names : Known = record known { names = names } in
    let facts = facts_coherent known_names (flat_map (entry_facts task) kept)
    (all_joined (IsNamed names) (entry_facts task) kept (λ k e at. facts_named task names fit long e (plain k e at))) named in
    values_coherent (record known_names { facts = with_facts known.facts (flat_map (entry_facts task) kept) })
    (flat_map (entry_values task) kept)
    (all_joined IsCost (entry_values task) kept (λ k e at. values_cheap task e)) facts
