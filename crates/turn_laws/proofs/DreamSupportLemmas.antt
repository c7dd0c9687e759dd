-- What has support has it still where more is supposed.
use Rattle.std.proofs.Common.{◌≡◌, ℕ, inl, inr, arith, true, false, cond, List, [], ◌∷◌, ◌++◌, length, take, refl, sym, ap, subst, ◌∙◌, Option, None, Some, slice_get}
use Rattle.std.proofs.lemmas.Grind.{flat_map-append}
use Rattle.std.proofs.lemmas.List.{take-append-le, take_all, take-take}
use Rattle.std.proofs.lemmas.Option.{slice_get_within}
use Rattle.std.specs.List.{flat_map}
use Rattle.lemmas.proofs.Members.{from_take, push_cases}
use Rattle.task_model.proofs.KnownLemmas.{facts_kept, facts_then}
use Rattle.task_model.proofs.StreamsLemmas.{reachable_kept}
use Rattle.task_model.specs.Dreams.{SupposedEntry, entry_facts, supposing, is_supported, HaveSupport, supported_after}
use Rattle.task_model.specs.Known.{Known, is_fact, with_facts}
use Rattle.task_model.specs.Streams.{is_reachable}
use Rattle.task_model.specs.declared.fact.Fact.{Fact}
use Rattle.task_model.specs.declared.stream.Stream.{Stream}
use Rattle.task_model.specs.declared.task.Task.{Task}

-- ---- support

module _ (task : Task) (known : Known) where
  -- what is known with entries is known with more
  supposed_stays : (list other before more : List SupposedEntry) (fact : Fact) → is_fact (supposing task known list before).facts fact ≡ true
      → is_fact (supposing task known other (before ++ more)).facts fact ≡ true
  supposed_stays list other before more fact e =
      subst (λ fs. is_fact fs fact ≡ true)
      (sym (facts_then known.facts (flat_map (entry_facts task) before) (flat_map (entry_facts task) more))
      ∙ ap (with_facts known.facts) (sym (flat_map-append (entry_facts task) before more)))
      (facts_kept (with_facts known.facts (flat_map (entry_facts task) before)) (flat_map (entry_facts task) more) fact e)

  -- an instance of this stream that is reachable with entries has support behind them and more
  pub supported_later : (list other before more : List SupposedEntry) (e : SupposedEntry) (stream : Stream)
      → slice_get task.streams e.instance.stream ≡ Some stream
      → is_reachable stream (supposing task known list before) e.instance ≡ true
      → is_supported task known other (before ++ more) e ≡ true
  supported_later list other before more e stream named reached =
      rw named
      (reachable_kept (supposing task known list before) (supposing task known other (before ++ more))
      (supposed_stays list other before more) stream e.instance reached)

  -- the stream of an entry that has support
  pub record HasStream (list before : List SupposedEntry) (e : SupposedEntry) : Type 0 where
    pub stream : Stream
    pub named : slice_get task.streams e.instance.stream ≡ Some stream
    pub reached : is_reachable stream (supposing task known list before) e.instance ≡ true

  pub stream_of : (list before : List SupposedEntry) (e : SupposedEntry) → is_supported task known list before e ≡ true → HasStream list before e
  stream_of list before e s = by (slice_get task.streams e.instance.stream) refl s
    where
      by : (o : Option Stream) → slice_get task.streams e.instance.stream ≡ o → is_supported task known list before e ≡ true
          → HasStream list before e
      by None at t = let no : false ≡ true = rw at at t in absurd (cc)
      by (Some found) at t = record { stream = found; named = at; reached = rw at at t }

  pub support_stays : (list other before more : List SupposedEntry) (e : SupposedEntry) → is_supported task known list before e ≡ true
      → is_supported task known other (before ++ more) e ≡ true
  support_stays list other before more e s =
      let h = stream_of list before e s in supported_later list other before more e h.stream h.named h.reached

  -- ---- entries that have support

  pub support_none : (list : List SupposedEntry) → HaveSupport task known list []
  support_none list k e at = absurd (cc)

  pub support_pushed : (list entries : List SupposedEntry) (e : SupposedEntry) → HaveSupport task known list entries
      → is_supported task known list entries e ≡ true → HaveSupport task known list (entries ++ e ∷ [])
  support_pushed list entries e each here k x at =
      elim (push_cases entries e k x at) [
        | inl before ↦
            subst (λ es. is_supported task known list es x ≡ true)
            (sym (take-append-le k entries (e ∷ []) (omega (arith, slice_get_within entries k x before)))) (each k x before)
        | inr last ↦
            subst (λ y. is_supported task known list (take k (entries ++ e ∷ [])) y ≡ true) (sym last.1)
            (subst (λ es. is_supported task known list es e ≡ true) (sym (take-append-le k entries (e ∷ []) (omega (arith, last.0))))
            (whole k last.0))
      ]
    where
      whole : (k : ℕ) → k ≡ length entries → is_supported task known list (take k entries) e ≡ true
      whole k same = subst (λ es. is_supported task known list es e ≡ true) (sym (take_all k entries (omega (arith, same)))) here

  pub support_front : (list entries : List SupposedEntry) (count : ℕ) → HaveSupport task known list entries
      → HaveSupport task known list (take count entries)
  support_front list entries count each k e at =
      let there = from_take entries count k e at in
      subst (λ es. is_supported task known list es e ≡ true) (sym (take-take k count entries (omega (arith, there.0)))) (each k e there.1)

  -- what is left of a rest after what is kept has support
  pub support_after : (list kept rest : List SupposedEntry) → HaveSupport task known list kept
      → HaveSupport task known list (supported_after task known list kept rest)
  support_after list kept [] each = each
  support_after list kept (e ∷ rest) each =
      elim (is_supported task known list kept e) as (λ b. is_supported task known list kept e ≡ b
      → HaveSupport task known list
      (cond b (supported_after task known list (kept ++ e ∷ []) rest) (supported_after task known list kept rest))) [
        | true ↦ λ yes. support_after list (kept ++ e ∷ []) rest (support_pushed list kept e each yes)
        | false ↦ λ no. support_after list kept rest each
      ] refl
