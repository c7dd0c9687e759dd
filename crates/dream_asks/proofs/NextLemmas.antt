-- What is asked of a dream next.
use Rattle.std.proofs.Common.{◌≡◌, ℕ, ◌+◌, ◌<◌, ◌≤◌, Bool, true, false, not, ◌&&◌, ◌||◌, Contains, List, [], ◌∷◌, ◌++◌, length, drop, get_or, append_assoc, refl, sym, ap, subst, ◌∙◌, Option, None, Some, inl, inr, ◌⊎◌, if◌then◌else◌}
use Rattle.std.proofs.lemmas.Bool.{and_parts, not-true}
use Rattle.std.proofs.lemmas.List.{append-nil, drop_all}
use Rattle.std.proofs.lemmas.List.Folds.{list_any-append}
use Rattle.std.specs.List.{list_any}
use Rattle.std.specs.Option.{option_map, option_and_then, option_map_or}
use Rattle.dream_asks.proofs.ProgressLemmas.{all_stand_replaced, next_left}
use Rattle.dream_asks.specs.Next.{asks_by, ready_by}
use Rattle.dream_asks.specs.Progress.{IsProgress, Progress, numbered}
use Rattle.dream_asks.specs.declared.asks.DreamAsk.{DreamAsk}
use Rattle.lemmas.proofs.Ascending.{contains_cases, contains_none}
use Rattle.lemmas.proofs.Bools.{not_both, right_false}
use Rattle.lemmas.proofs.Distinct.{distinct_cons}
use Rattle.lemmas.proofs.Members.{distinct_nil}
use Rattle.lemmas.specs.Lists.{AreDistinct}
use Rattle.task_model.proofs.StreamsLemmas.{due_holds, instance_itself}
use Rattle.task_model.specs.Dreams as dreams
use Rattle.task_model.specs.Known.{Known}
use Rattle.task_model.specs.Streams.{IsDue, Note, is_due, same_instance}
use Rattle.task_model.specs.declared.stream.Instance.{Instance}
use Rattle.task_model.specs.declared.task.Task.{Task}
use Rattle.transcript_model.specs.Dreaming.{Sent, become, next_sent, ready_instance, sent_instances}
use Rattle.transcript_model.specs.Transcript.{known_of, notes_of}
use Rattle.transcript_model.specs.declared.entry.Entry.{Entry}

-- ---- entry by entry

-- what was asked now is seen, besides what was asked before
abbrev pub seen_in : List Instance → List Instance → Instance → Bool
seen_in now taken i = list_any (same_instance i) now || list_any (same_instance i) taken

seen_more : (a b c : Bool) → (a || (b || c)) ≡ ((b || (a || false)) || c)
seen_more true true c = refl
seen_more true false c = refl
seen_more false true c = refl
seen_more false false c = refl

module _ (task : Task) (known : Known) (notes : List Note) (p : Progress) (taken : List Instance) where
  abbrev left_by : List Instance → List dreams.SupposedEntry → List DreamAsk
  left_by now = asks_by task known notes p (seen_in now taken)

  pub begun_asks : (now : List Instance) (es : List dreams.SupposedEntry) (asks : List DreamAsk) → now ≡ [] → asks ≡ []
      → asks_by task known notes p (λ i. list_any (same_instance i) taken) es
      ≡ asks ++ asks_by task known notes p (seen_in now taken) (drop 0 es)
  begun_asks now es asks none none_asked = λ k. sym none_asked k ++ left_by (sym none k) es

  module _ (now : List Instance) (es : List dreams.SupposedEntry) (asks all : List DreamAsk) (i : ℕ) (e : dreams.SupposedEntry)
      (lt : i < length es) (is : e ≡ get_or es i e)
      (so_far : all ≡ asks ++ asks_by task known notes p (seen_in now taken) (drop i es)) where
    looked : all ≡ asks
        ++ option_map_or (λ j. record { instance = j; outputs = e.outputs }
        ∷ asks_by task known notes p (λ k. same_instance k j || seen_in now taken k) (drop (i + 1) es))
        (ready_by task known notes p (seen_in now taken) e.instance) (left_by now (drop (i + 1) es))
    looked = so_far ∙ ap (λ xs. asks ++ left_by now xs) (next_left es i e lt is)

    pub passed_ask : ready_by task known notes p (seen_in now taken) e.instance ≡ None
        → all ≡ asks ++ asks_by task known notes p (seen_in now taken) (drop (i + 1) es)
    passed_ask none =
        looked
        ∙ ap (λ o. asks ++ option_map_or (λ j. record { instance = j; outputs = e.outputs }
        ∷ asks_by task known notes p (λ k. same_instance k j || seen_in now taken k) (drop (i + 1) es)) o
        (left_by now (drop (i + 1) es))) none

    pub made_ask : (found : Instance) (a : DreamAsk) (more : List Instance) (longer : List DreamAsk)
        → ready_by task known notes p (seen_in now taken) e.instance ≡ Some found → a.instance ≡ found → a.outputs ≡ e.outputs
        → more ≡ now ++ found ∷ [] → longer ≡ asks ++ a ∷ []
        → all ≡ longer ++ asks_by task known notes p (seen_in more taken) (drop (i + 1) es)
    made_ask found a more longer there same outputs is_more is_longer =
        looked
        ∙ ap (λ o. asks ++ option_map_or (λ j. record { instance = j; outputs = e.outputs }
        ∷ asks_by task known notes p (λ k. same_instance k j || seen_in now taken k) (drop (i + 1) es)) o
        (left_by now (drop (i + 1) es))) there
        ∙ (λ k. asks ++ record { instance = sym same k; outputs = sym outputs k }
        ∷ asks_by task known notes p (λ j. seen_more (same_instance j found) (list_any (same_instance j) now)
        (list_any (same_instance j) taken) k) (drop (i + 1) es))
        ∙ (λ k. asks ++ a ∷ asks_by task known notes p (λ j. (sym (list_any-append (same_instance j) now (found ∷ [])) k)
        || list_any (same_instance j) taken) (drop (i + 1) es))
        ∙ ap (λ ns. asks ++ a ∷ left_by ns (drop (i + 1) es)) (sym is_more)
        ∙ sym (append_assoc asks (a ∷ []) (left_by more (drop (i + 1) es)))
        ∙ ap (λ xs. xs ++ left_by more (drop (i + 1) es)) (sym is_longer)

  pub all_asks : (now : List Instance) (es : List dreams.SupposedEntry) (asks all : List DreamAsk) (i : ℕ) → length es ≤ i
      → all ≡ asks ++ asks_by task known notes p (seen_in now taken) (drop i es) → all ≡ asks
  all_asks now es asks all i past so_far = so_far ∙ ap (λ xs. asks ++ left_by now xs) (drop_all i es past) ∙ append-nil asks

-- ---- these are what is sent next

module _ (task : Task) (known : Known) (notes : List Note) (p : Progress) (before : List Entry) (sent : List Sent)
    (is_known : known ≡ known_of task before) (are_notes : notes ≡ notes_of task before)
    (is : IsProgress task before p sent) where
  ready_same : (seen : Instance → Bool) (taken : List Instance) (e : dreams.SupposedEntry)
      → ((i : Instance) → seen i ≡ list_any (same_instance i) taken)
      → ready_by task known notes p seen e.instance ≡ ready_instance task before p.real sent taken e
  ready_same seen taken e same = λ k.
      option_and_then (λ i. if is_due task (is_known k) (are_notes k) i && not (same i k) then Some i else None)
      (option_map (λ inputs. record { stream = e.instance.stream; inputs = inputs })
      (all_stand_replaced task before p sent is e.instance.inputs k))

  pub sent_next : (seen : Instance → Bool) (number : ℕ) (taken : List Instance) (es : List dreams.SupposedEntry)
      → ((i : Instance) → seen i ≡ list_any (same_instance i) taken)
      → numbered number (asks_by task known notes p seen es) ≡ next_sent task before p.real sent number taken es
  sent_next seen number taken [] same = refl
  sent_next seen number taken (e ∷ es) same =
      ap (λ o. numbered number (option_map_or (λ i. record { instance = i; outputs = e.outputs }
      ∷ asks_by task known notes p (λ j. same_instance j i || seen j) es) o (asks_by task known notes p seen es)))
      (ready_same seen taken e same)
      ∙ by (ready_instance task before p.real sent taken e)
      (λ i. sent_next (λ j. same_instance j i || seen j) (number + 1) (i ∷ taken) es
      (λ j. ap (λ b. same_instance j i || b) (same j)))
      (sent_next seen number taken es same)
    where
      by : (o : Option Instance)
          → ((i : Instance) → numbered (number + 1) (asks_by task known notes p (λ j. same_instance j i || seen j) es)
          ≡ next_sent task before p.real sent (number + 1) (i ∷ taken) es)
          → numbered number (asks_by task known notes p seen es) ≡ next_sent task before p.real sent number taken es
          → numbered number (option_map_or (λ i. record { instance = i; outputs = e.outputs }
          ∷ asks_by task known notes p (λ j. same_instance j i || seen j) es) o (asks_by task known notes p seen es))
          ≡ option_map_or (λ i. record { number = number; instance = i; outputs = e.outputs }
          ∷ next_sent task before p.real sent (number + 1) (i ∷ taken) es) o
          (next_sent task before p.real sent number taken es)
      by None asked passed = passed
      by (Some i) asked passed = ap (λ s. record { number = number; instance = i; outputs = e.outputs } ∷ s) (asked i)

-- ---- what is sent next may be asked

module _ (task : Task) (before : List Entry) (real : ℕ) (sent : List Sent) where
  -- the instance is due, and wasn't taken
  pub record IsFree (taken : List Instance) (i : Instance) : Type 0 where
    pub due : IsDue task (known_of task before) (notes_of task before) i
    pub new : list_any (same_instance i) taken ≡ false

  ready_free : (taken : List Instance) (e : dreams.SupposedEntry) (i : Instance) → ready_instance task before real sent taken e ≡ Some i
      → IsFree taken i
  ready_free taken e i = by (become task before real sent e)
    where
      known : Known
      known = known_of task before

      notes : List Note
      notes = notes_of task before

      of : (j : Instance) (b : Bool) → b ≡ (is_due task known notes j && not (list_any (same_instance j) taken))
          → (if b then Some j else None) ≡ Some i → IsFree taken i
      of j true is there =
          let both = and_parts (is_due task known notes j) (not (list_any (same_instance j) taken)) (sym is) in
          let same : j ≡ i = cc in
          subst (IsFree taken) same (record {
            due = due_holds task known notes j both.0;
            new = not-true (list_any (same_instance j) taken) both.1;
          })
      of j false is there = absurd (cc)

      by : (o : Option Instance)
          → option_and_then (λ j. if is_due task known notes j && not (list_any (same_instance j) taken) then Some j else None) o
          ≡ Some i → IsFree taken i
      by None there = absurd (cc)
      by (Some j) there = of j (is_due task known notes j && not (list_any (same_instance j) taken)) refl there

  -- those that are sent are free, and each once
  pub record AreFree (taken : List Instance) (list : List Instance) : Type 0 where
    pub each : (i : Instance) → Contains list i → IsFree taken i
    pub distinct : AreDistinct list

  free_more : (i : Instance) (taken list : List Instance) → IsFree taken i → AreFree (i ∷ taken) list
      → AreFree taken (i ∷ list)
  free_more i taken list free rest = record {
    each = λ j m. by j (contains_cases i list j m);
    distinct = distinct_cons i list rest.distinct
        (λ m. not_both (list_any (same_instance i) (i ∷ taken)) (ap (λ b. b || list_any (same_instance i) taken) (instance_itself i))
        (rest.each i m).new);
  }
    where
      later : (j : Instance) → IsFree (i ∷ taken) j → IsFree taken j
      later j f = record { due = f.due; new = right_false (same_instance j i) (list_any (same_instance j) taken) f.new }

      by : (j : Instance) → (i ≡ j) ⊎ Contains list j → IsFree taken j
      by j (inl same) = subst (IsFree taken) same free
      by j (inr m) = later j (rest.each j m)

  pub sent_free : (number : ℕ) (taken : List Instance) (es : List dreams.SupposedEntry)
      → AreFree taken (sent_instances (next_sent task before real sent number taken es))
  sent_free number taken [] = record { each = λ i m. absurd (contains_none i m); distinct = distinct_nil }
  sent_free number taken (e ∷ es) =
      by (ready_instance task before real sent taken e) refl (λ i. sent_free (number + 1) (i ∷ taken) es) (sent_free number taken es)
    where
      by : (o : Option Instance) → ready_instance task before real sent taken e ≡ o
          → ((i : Instance) → AreFree (i ∷ taken) (sent_instances (next_sent task before real sent (number + 1) (i ∷ taken) es)))
          → AreFree taken (sent_instances (next_sent task before real sent number taken es))
          → AreFree taken (sent_instances (option_map_or (λ i. record { number = number; instance = i; outputs = e.outputs }
          ∷ next_sent task before real sent (number + 1) (i ∷ taken) es) o
          (next_sent task before real sent number taken es)))
      by None is asked passed = passed
      by (Some i) is asked passed =
          free_more i taken (sent_instances (next_sent task before real sent (number + 1) (i ∷ taken) es))
          (ready_free taken e i is) (asked i)
