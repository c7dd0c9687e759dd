-- The entries that are supposed after a transcript have names for their objects, and what is known with them is
-- coherent.
use Rattle.std.proofs.Common.{◌≡◌, ℕ, zero, suc, ◌+◌, ◌<◌, ◌≤◌, arith, List, [], ◌∷◌, ◌++◌, length, take, refl, sym, ap, subst, ◌∙◌, Some, slice_get, All}
use Rattle.std.proofs.lemmas.List.{length-append}
use Rattle.std.proofs.lemmas.List.Sums.{sum_by-cons}
use Rattle.lemmas.proofs.Members.{from_take}
use Rattle.learning.proofs.FitStreamLemmas.{fit_parts}
use Rattle.turn_laws.proofs.DreamFreshLemmas.{each_is_fresh, few_outputs, outputs_behind, outputs_in}
use Rattle.turn_laws.proofs.DreamListLemmas.{each_is_of}
use Rattle.turn_laws.proofs.DreamSupportLemmas.{stream_of}
use Rattle.instance_search.proofs.InstanceOrderLemmas.{reachable_in}
use Rattle.lemmas.proofs.Numbers.{length-numbers_from}
use Rattle.lemmas.specs.Lists.{numbers_from}
use Rattle.optimistic_set.proofs.DraftLemmas.{length-placeholders, numbers_in}
use Rattle.optimistic_set.proofs.PlaceholderLemmas.{HaveFew}
use Rattle.optimistic_set.proofs.SupposingLemmas.{supposing_coherent}
use Rattle.optimistic_set.specs.Dreamable.{AreReal}
use Rattle.optimistic_set.specs.Entries.{IsPlainEntry}
use Rattle.task_model.proofs.TruthLemmas.{have_types-length}
use Rattle.task_model.specs.Dreams.{AreSupposed, SupposedEntry, entry_names, placeholders, supposing}
use Rattle.task_model.specs.Fit.{IsFit}
use Rattle.task_model.specs.Known.{IsCoherent, IsIn, Known}
use Rattle.task_model.specs.Streams.{Note, at_stream}
use Rattle.task_model.specs.Truth.{have_types}
use Rattle.task_model.specs.declared.stream.Instance.{Instance}
use Rattle.task_model.specs.declared.stream.Stream.{Stream}
use Rattle.task_model.specs.declared.task.Task.{Task}
use Rattle.transcript_model.proofs.NamedObjectLemmas.{fit_stream_at}
use Rattle.std.specs.Cmp.{first_so}

-- ---- numbers of outputs

names_many : (j : ℕ) (list : List SupposedEntry) → length (entry_names j list) ≡ outputs_in list
names_many j [] = refl
names_many j (e ∷ es) =
    length-append (placeholders j 1 (length e.outputs)) (entry_names (j + 1) es)
    ∙ (λ i. length-placeholders j 1 (length e.outputs) i + names_many (j + 1) es i)
    ∙ sym (sum_by-cons (λ (x : SupposedEntry). length x.outputs) e es)

module _ (task : Task) (known : Known) (notes : List Note) (tried : List Instance) where
  -- ---- plain entries

  module _ (fit : IsFit task) (enough : length task.problem.objects ≤ length known.names) (c : IsCoherent known)
      (real : AreReal known.names) (depth : ℕ) (list : List SupposedEntry)
      (so : AreSupposed task known notes tried depth list)
      (few : length list ≤ 20000) where
    abbrev pub terms : List (List ℕ)
    terms = known.names ++ entry_names 1 list

    abbrev first_after : ℕ → ℕ
    first_after k = length known.names + outputs_in (take k list)

    outputs_are : (k : ℕ) (e : SupposedEntry) (s : Stream) → slice_get list k ≡ Some e
        → slice_get task.streams e.instance.stream ≡ Some s
        → e.outputs ≡ numbers_from (first_after k) (length s.outputs)
    outputs_are k e s at named = each_is_fresh task known notes tried depth list so k e at ∙ here
      where
        here : at_stream task e.instance.stream [] (λ stream. numbers_from (first_after k) (length stream.outputs))
            ≡ numbers_from (first_after k) (length s.outputs)
        here = rw named

    outputs_many : (k : ℕ) (e : SupposedEntry) (s : Stream) → slice_get list k ≡ Some e
        → slice_get task.streams e.instance.stream ≡ Some s
        → length e.outputs ≡ length s.outputs
    outputs_many k e s at named = ap length (outputs_are k e s at named)
        ∙ length-numbers_from (first_after k) (length s.outputs)

    pub have_few : HaveFew list
    have_few =
        few_outputs task known notes tried depth 8 list so
        (λ k s at. (fit_parts task.domain s (fit_stream_at task k s fit at)).outputs)

    coherent_with : (kept : List SupposedEntry)
        → ((k : ℕ) (e : SupposedEntry) → slice_get kept k ≡ Some e → IsPlainEntry task terms e)
        → IsCoherent (supposing task known list kept)
    coherent_with kept plain = supposing_coherent task known list kept fit enough c real have_few few plain

    plain_behind : (k : ℕ) (e : SupposedEntry) → slice_get list k ≡ Some e
        → ((j : ℕ) (d : SupposedEntry) → j < k → slice_get list j ≡ Some d → IsPlainEntry task terms d)
        → IsPlainEntry task terms e
    plain_behind k e at earlier =
        let o = each_is_of task known notes tried depth list so k e at in
        let s = stream_of task known list (take k list) e o.supported in
        let there = coherent_with (take k list)
        (λ j d here. let r = from_take list k j d here in earlier j d r.0 r.1) in
        let now = supposing task known list (take k list) in
        let types = first_so (have_types now e.instance.inputs s.stream.inputs) _ s.reached in
        let many = outputs_many k e s.stream at s.named in
        record {
          stream = s.stream;
          named = s.named;
          inputs = have_types-length now e.instance.inputs s.stream.inputs types;
          outputs = many;
          given = reachable_in s.stream now there e.instance s.reached;
          fresh = subst (All (IsIn terms)) (sym (outputs_are k e s.stream at s.named))
              (numbers_in terms (first_after k) (length s.stream.outputs)
              (omega (
                arith,
                length-append known.names
                    (entry_names 1 list),
                names_many 1 list,
                outputs_behind list k e at,
                many,
              )));
        }

    plain_before : (n k : ℕ) (e : SupposedEntry) → k < n → slice_get list k ≡ Some e → IsPlainEntry task terms e
    plain_before zero k e less at = absurd (omega (arith, less))
    plain_before (suc n) k e less at =
        plain_behind k e at (λ j d fewer there. plain_before n j d (omega (arith, fewer, less)) there)

    -- each entry of the list
    pub plain : (k : ℕ) (e : SupposedEntry) → slice_get list k ≡ Some e → IsPlainEntry task terms e
    plain k e at = plain_before (k + 1) k e (omega arith) at

    -- what is known with some of them
    pub some_coherent : (kept : List SupposedEntry)
        (place : (k : ℕ) (e : SupposedEntry) → slice_get kept k ≡ Some e → (p : ℕ) × (slice_get list p ≡ Some e))
        → IsCoherent (supposing task known list kept)
    some_coherent kept place = coherent_with kept (λ k e at. let p = place k e at in plain p.0 e p.1)
