-- What a dream uses determines its entries, and the first of them may be asked.
use Rattle.std.proofs.Common.{◌≡◌, ℕ, ◌+◌, ◌<◌, arith, true, not, ◌&&◌, List, [], ◌∷◌, ◌++◌, length, map, refl, sym, ap, subst, ◌∙◌, Some, None, slice_get, All}
use Rattle.std.proofs.lemmas.Bool.{and_from, lt-ltb}
use Rattle.std.proofs.lemmas.List.Elements.{All-head, All-tail}
use Rattle.std.proofs.lemmas.Option.{same_Some}
use Rattle.std.specs.List.{list_any}
use Rattle.std.specs.Option.{option_and_then, option_map, option_map_or}
use Rattle.std.specs.Prelude.{if◌then◌else◌}
use Rattle.instance_search.proofs.InstanceOrderLemmas.{reachable_in}
use Rattle.lemmas.proofs.Options.{same_some}
use Rattle.task_model.proofs.KnownLemmas.{below_names}
use Rattle.task_model.proofs.StreamsLemmas.{due_passes}
use Rattle.task_model.specs.Dreams as dreams
use Rattle.task_model.specs.Dreams.{supposing, is_supported}
use Rattle.task_model.specs.Fit.{IsFit}
use Rattle.task_model.specs.Known.{Known, IsIn}
use Rattle.task_model.specs.Streams.{IsDue, is_due, is_reachable, same_instance}
use Rattle.task_model.specs.declared.stream.Instance.{Instance}
use Rattle.task_model.specs.declared.stream.Stream.{Stream}
use Rattle.task_model.specs.declared.task.Task.{Task}
use Rattle.transcript_model.proofs.CoherentLemmas.{coherent}
use Rattle.transcript_model.proofs.LegalStepLemmas.{mark_adds}
use Rattle.transcript_model.specs.Dreaming.{IsDreamAfter, replaced, all_replaced, become, ready_instance, next_sent}
use Rattle.transcript_model.specs.Laws.{AddsMark}
use Rattle.transcript_model.specs.Legal.{IsLegal}
use Rattle.transcript_model.specs.Rounds.{Limits}
use Rattle.transcript_model.specs.Transcript.{names_of, known_of, notes_of}
use Rattle.transcript_model.specs.declared.entry.Call.{Call}
use Rattle.transcript_model.specs.declared.entry.DreamUse.{DreamUse}
use Rattle.transcript_model.specs.declared.entry.Entry.{Entry}
use Rattle.transcript_model.specs.declared.entry.Entry.TheVariants as entry
use Rattle.turn_laws.proofs.DreamListLemmas.{IsOfList, supposed_once, each_is_of}
use Rattle.turn_laws.proofs.DreamNamesFreeLemmas.{reachable_same}
use Rattle.turn_laws.proofs.DreamSupportLemmas.{stream_of}

-- ---- places

pub places_same : (xs ys : List ℕ) → map (λ place. place + 1) xs ≡ map (λ place. place + 1) ys → xs ≡ ys
places_same [] [] e = refl
places_same [] (y ∷ ys) e = absurd (cc)
places_same (x ∷ xs) [] e = absurd (cc)
places_same (x ∷ xs) (y ∷ ys) e =
    let next : x + 1 ≡ y + 1 = cc in
    let rest : map (λ place. place + 1) xs ≡ map (λ place. place + 1) ys = cc in
    let one : x ≡ y = omega (arith, next) in
    λ i. one i ∷ places_same xs ys rest i

pub somes_same : {A : Type 0} (xs ys : List A) → map Some xs ≡ map Some ys → xs ≡ ys
somes_same [] [] e = refl
somes_same [] (y ∷ ys) e = absurd (cc)
somes_same (x ∷ xs) [] e = absurd (cc)
somes_same (x ∷ xs) (y ∷ ys) e =
    let first : Some x ≡ Some y = cc in
    let rest : map Some xs ≡ map Some ys = cc in
    λ i. same_Some x y first i ∷ somes_same xs ys rest i

first_chosen : {A : Type 0} (list : List A) (places : List ℕ) (e : A) (es : List A) → map (slice_get list) places ≡ map Some (e ∷ es)
    → (p : ℕ) × (slice_get list p ≡ Some e)
first_chosen list [] e es at = absurd (cc)
first_chosen list (p ∷ ps) e es at = (p, cc)

-- ---- what is real

module _ (task : Task) (now : List Entry) (names : List (List ℕ)) where
  real_stays : (o : ℕ) → IsIn names o → replaced task now (length names) [] o ≡ Some o
  real_stays o known = ap (λ b. if b then Some o else None) (lt-ltb o (length names) (below_names names o known))

  all_real : (objects : List ℕ) → All (IsIn names) objects → all_replaced task now (length names) [] objects ≡ Some objects
  all_real [] known = refl
  all_real (o ∷ os) known =
      ap (option_and_then (λ object. option_map (λ objects. object ∷ objects) (all_replaced task now (length names) [] os)))
      (real_stays o (All-head (IsIn names) o os known))
      ∙ ap (option_map (λ objects. o ∷ objects)) (all_real os (All-tail (IsIn names) o os known))

  becomes_itself : (e : dreams.SupposedEntry) → All (IsIn names) e.instance.inputs → become task now (length names) [] e ≡ Some e.instance
  becomes_itself e known =
      ap (option_map (λ inputs. record { stream = e.instance.stream; inputs = inputs })) (all_real e.instance.inputs known)

  is_ready : (e : dreams.SupposedEntry) → All (IsIn names) e.instance.inputs
      → is_due task (known_of task now) (notes_of task now) e.instance ≡ true
      → ready_instance task now (length names) [] [] e ≡ Some e.instance
  is_ready e known due =
      ap (option_and_then (λ i.
      if is_due task (known_of task now) (notes_of task now) i && not (list_any (same_instance i) []) then Some i else None))
      (becomes_itself e known)
      ∙ ap (λ b. if b then Some e.instance else None)
      (and_from (is_due task (known_of task now) (notes_of task now) e.instance) true due refl)

  is_asked : (number : ℕ) (e : dreams.SupposedEntry) (es : List dreams.SupposedEntry) → ready_instance task now (length names) [] [] e ≡ Some e.instance
      → 0 < length (next_sent task now (length names) [] number [] (e ∷ es))
  is_asked number e es is =
      subst (λ o. 0 < length (option_map_or (λ i. record { number = number; instance = i; outputs = e.outputs }
      ∷ next_sent task now (length names) [] (number + 1) (i ∷ []) es) o (next_sent task now (length names) [] number [] es)))
      (sym is) (omega arith)

-- ---- dreams

module _ (limits : Limits) (task : Task) (before : List Entry) (tried : List Instance) where
  abbrev known : Known
  known = known_of task before

  pub dreams_once : (uses : List DreamUse) (steps others : List Call) (xs ys : List dreams.SupposedEntry)
      → IsDreamAfter limits task before tried uses steps xs → IsDreamAfter limits task before tried uses others ys → xs ≡ ys
  dreams_once uses steps others xs ys first second =
      let list = supposed_once task known (notes_of task before) tried limits.depth first.list second.list first.supposed second.supposed in
      let places = places_same first.dream.places second.dream.places (sym first.numbers ∙ second.numbers) in
      somes_same xs ys (sym first.dream.chosen ∙ (λ i. map (slice_get (list i)) (places i)) ∙ second.dream.chosen)

  -- an entry with support from what is known alone is due
  first_due : (list : List dreams.SupposedEntry) (place : ℕ) (e : dreams.SupposedEntry) → is_supported task known list [] e ≡ true
      → IsOfList task known (notes_of task before) tried list place e
      → IsDue task known (notes_of task before) e.instance
  first_due list place e supported o =
      let s = stream_of task known list [] e supported in
      let same : s.stream ≡ o.stream = same_some (slice_get task.streams e.instance.stream) s.stream o.stream s.named o.named in
      let reached : is_reachable s.stream known e.instance ≡ true =
      reachable_same known (supposing task known list []).names s.stream e.instance ∙ s.reached in
      record {
        stream = o.stream;
        named = o.named;
        reachable = subst (λ (t : Stream). is_reachable t known e.instance ≡ true) same reached;
        unfinished = o.unfinished;
      }

  module _ (fit : IsFit task) (legal : IsLegal limits.version task before) where
    pub dream_asks : (uses : List DreamUse) (steps : List Call) (entries : List dreams.SupposedEntry) (number : ℕ)
        → IsDreamAfter limits task before tried uses steps entries
        → 0 < length (next_sent task (before ++ entry.Dream uses steps ∷ []) (length (names_of task before)) [] number [] entries)
    dream_asks uses steps [] number d = absurd (omega (arith, d.dream.some))
    dream_asks uses steps (e ∷ es) number d =
        let now = before ++ entry.Dream uses steps ∷ [] in
        let at = first_chosen d.list d.dream.places e es d.dream.chosen in
        let o = each_is_of task known (notes_of task before) tried limits.depth d.list d.supposed at.0 e at.1 in
        let due = first_due d.list at.0 e (d.dream.support 0 e refl) o in
        let marks : AddsMark task before now =
        mark_adds limits.version task before fit.problem.objects.names.distinct legal (entry.Dream uses steps) refl in
        let inside = reachable_in due.stream known (coherent limits.version task before fit legal) e.instance due.reachable in
        let passes : is_due task (known_of task now) (notes_of task now) e.instance ≡ true =
        subst (λ k. is_due task k (notes_of task now) e.instance ≡ true) (sym marks.same.known)
        (subst (λ n. is_due task known n e.instance ≡ true) (sym marks.same.notes)
        (due_passes task known (notes_of task before) e.instance due)) in
        is_asked task now (names_of task before) number e es (is_ready task now (names_of task before) e inside passes)
