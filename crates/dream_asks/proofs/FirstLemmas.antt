-- What is asked first of a dream.
use Rattle.std.proofs.Common.{◌≡◌, ℕ, ◌+◌, ◌<◌, add-one, nat_lt, Bool, true, false, not, ◌&&◌, cond, Contains, List, [], ◌∷◌, ◌++◌, length, take, get_or, Option, Some, None, refl, sym, ap, ◌∙◌, subst, if◌then◌else◌, inl, inr}
use Rattle.std.proofs.Math.Seq.{take-suc}
use Rattle.std.proofs.lemmas.List.{append-nil, map-append}
use Rattle.std.proofs.lemmas.List.Elements.{All-push, filter-append}
use Rattle.std.specs.List.{filter, list_all, list_any}
use Rattle.std.specs.Option.{option_map, option_and_then, option_map_or}
use Rattle.lemmas.proofs.Ascending.{contains_here, contains_later, contains_none, contains_cases}
use Rattle.lemmas.proofs.Distinct.{distinct_tail, head_is_new}
use Rattle.lemmas.specs.Lists.{AreDistinct}
use Rattle.dream_asks.specs.First.{AreFirstAsks, first_instances, is_askable}
use Rattle.instance_queue.specs.declared.due.Due.{Due}
use Rattle.task_model.proofs.StreamsLemmas.{instances_apart}
use Rattle.task_model.specs.Dreams as dreams
use Rattle.task_model.specs.Known.{Known}
use Rattle.task_model.specs.Streams.{Note, is_due, same_instance, yields_of}
use Rattle.task_model.specs.declared.stream.Instance.{Instance}
use Rattle.task_model.specs.declared.task.Task.{Task}
use Rattle.transcript_model.specs.Dreaming.{all_replaced, next_sent, ready_instance, sent_instances}
use Rattle.transcript_model.specs.Transcript.{known_of, notes_of}
use Rattle.transcript_model.specs.declared.entry.Entry.{Entry}

-- ---- entries one by one

-- the next entry is asked, or passed over
pub first_next : (p : Instance → Bool) (entries : List dreams.SupposedEntry) (i : ℕ) (e : dreams.SupposedEntry) → i < length entries
    → e ≡ get_or entries i e
    → filter p (dreams.instances_of (take (i + 1) entries))
    ≡ filter p (dreams.instances_of (take i entries)) ++ cond (p e.instance) (e.instance ∷ []) []
first_next p entries i e lt is =
    let one : take (i + 1) entries ≡ take i entries ++ e ∷ [] =
    rw add-one (take-suc entries i e lt ∙ ap (λ y. take i entries ++ y ∷ []) (sym is)) in
    ap (λ es. filter p (dreams.instances_of es)) one
    ∙ ap (filter p) (map-append (λ (y : dreams.SupposedEntry). y.instance) (take i entries) (e ∷ []))
    ∙ filter-append p (dreams.instances_of (take i entries)) (e.instance ∷ [])

-- what was asked of the first entries, and of the next
module _ (task : Task) (known : Known) (notes : List Note) (real : ℕ) (entries : List dreams.SupposedEntry) (i : ℕ) (e : dreams.SupposedEntry)
    (lt : i < length entries) (is : e ≡ get_or entries i e) (old : List Due)
    (so_far : AreFirstAsks task known notes real (take i entries) old) where
  pub next_passed : is_askable task known notes real e.instance ≡ false → AreFirstAsks task known notes real (take (i + 1) entries) old
  next_passed passed = record {
    instances = so_far.instances
        ∙ sym (first_next (is_askable task known notes real) entries i e lt is
        ∙ ap (λ b. first_instances task known notes real (take i entries) ++ cond b (e.instance ∷ []) []) passed
        ∙ append-nil (first_instances task known notes real (take i entries)));
    turns = so_far.turns;
  }

  pub next_asked : is_askable task known notes real e.instance ≡ true → (d : Due) → d.instance ≡ e.instance
      → d.turn ≡ yields_of notes d.instance → AreFirstAsks task known notes real (take (i + 1) entries) (old ++ d ∷ [])
  next_asked asked d same turn = record {
    instances = map-append (λ (y : Due). y.instance) old (d ∷ [])
        ∙ ap (λ is. is ++ d.instance ∷ []) so_far.instances
        ∙ ap (λ j. first_instances task known notes real (take i entries) ++ j ∷ []) same
        ∙ sym (first_next (is_askable task known notes real) entries i e lt is
        ∙ ap (λ b. first_instances task known notes real (take i entries) ++ cond b (e.instance ∷ []) []) asked);
    turns = All-push (λ (y : Due). y.turn ≡ yields_of notes y.instance) old d so_far.turns turn;
  }

-- ---- before anything was asked, an entry has become its own instance, or none

some_more : (o : ℕ) (os : List ℕ) (b : Bool)
    → option_map (λ objects. o ∷ objects) (if b then Some os else None) ≡ (if b then Some (o ∷ os) else None)
some_more o os true = refl
some_more o os false = refl

module _ (task : Task) (before : List Entry) (real : ℕ) where
  abbrev are_real : List ℕ → Bool
  are_real = list_all (λ o. nat_lt o real)

  replaced_by_themselves : (os : List ℕ) → all_replaced task before real [] os ≡ (if are_real os then Some os else None)
  replaced_by_themselves [] = refl
  replaced_by_themselves (o ∷ os) =
      elim (nat_lt o real) as (λ b. option_and_then
      (λ object. option_map (λ objects. object ∷ objects) (all_replaced task before real [] os)) (if b then Some o else None)
      ≡ (if b && are_real os then Some (o ∷ os) else None)) [
        | true ↦ ap (option_map (λ objects. o ∷ objects)) (replaced_by_themselves os) ∙ some_more o os (are_real os)
        | false ↦ refl
      ]

  abbrev known : Known
  known = known_of task before

  abbrev notes : List Note
  notes = notes_of task before

  -- what is asked of an entry, where these were asked already
  abbrev asked : List Instance → dreams.SupposedEntry → Option Instance
  asked taken e =
      if is_askable task known notes real e.instance && not (list_any (same_instance e.instance) taken) then Some e.instance else None

  ready_first : (taken : List Instance) (e : dreams.SupposedEntry) → ready_instance task before real [] taken e ≡ asked taken e
  ready_first taken e =
      ap (λ inputs. option_and_then (λ i. if is_due task known notes i && not (list_any (same_instance i) taken) then Some i else None)
      (option_map (λ inputs. record { stream = e.instance.stream; inputs = inputs }) inputs)) (replaced_by_themselves e.instance.inputs)
      ∙ by (are_real e.instance.inputs)
    where
      by : (b : Bool)
          → option_and_then (λ i. if is_due task known notes i && not (list_any (same_instance i) taken) then Some i else None)
          (option_map (λ inputs. record { stream = e.instance.stream; inputs = inputs }) (if b then Some e.instance.inputs else None))
          ≡ (if (b && is_due task known notes e.instance) && not (list_any (same_instance e.instance) taken) then Some e.instance else None)
      by true = refl
      by false = refl

  none_taken : (i : Instance) (taken : List Instance) → ((j : Instance) → Contains taken j → ¬ (i ≡ j))
      → list_any (same_instance i) taken ≡ false
  none_taken i [] apart = refl
  none_taken i (j ∷ js) apart =
      rw (instances_apart i j (apart j (contains_here j js))) (none_taken i js (λ k m. apart k (contains_later j js k m)))

  -- of entries whose instances are apart from those that were asked already
  first_from : (number : ℕ) (taken : List Instance) (es : List dreams.SupposedEntry) → AreDistinct (dreams.instances_of es)
      → ((i j : Instance) → Contains (dreams.instances_of es) i → Contains taken j → ¬ (i ≡ j))
      → sent_instances (next_sent task before real [] number taken es) ≡ first_instances task known notes real es
  first_from number taken [] distinct apart = refl
  first_from number taken (e ∷ es) distinct apart =
      ap (λ o. sent_instances (option_map_or (λ i. record { number = number; instance = i; outputs = e.outputs }
      ∷ next_sent task before real [] (number + 1) (i ∷ taken) es) o (next_sent task before real [] number taken es)))
      (ready_first taken e ∙ ap (λ b. if is_askable task known notes real e.instance && not b then Some e.instance else None) free)
      ∙ by (is_askable task known notes real e.instance)
      (first_from (number + 1) (e.instance ∷ taken) es rest with_head) (first_from number taken es rest later)
    where
      rest : AreDistinct (dreams.instances_of es)
      rest = distinct_tail e.instance (dreams.instances_of es) distinct

      free : list_any (same_instance e.instance) taken ≡ false
      free = none_taken e.instance taken (λ j m. apart e.instance j (contains_here e.instance (dreams.instances_of es)) m)

      later : (i j : Instance) → Contains (dreams.instances_of es) i → Contains taken j → ¬ (i ≡ j)
      later i j m = apart i j (contains_later e.instance (dreams.instances_of es) i m)

      with_head : (i j : Instance) → Contains (dreams.instances_of es) i → Contains (e.instance ∷ taken) j → ¬ (i ≡ j)
      with_head i j m n same =
          elim (contains_cases e.instance taken j n) [
            | inl head ↦ head_is_new e.instance (dreams.instances_of es) distinct
                (subst (Contains (dreams.instances_of es)) (same ∙ sym head) m)
            | inr old ↦ later i j m old same
          ]

      by : (b : Bool)
          → sent_instances (next_sent task before real [] (number + 1) (e.instance ∷ taken) es) ≡ first_instances task known notes real es
          → sent_instances (next_sent task before real [] number taken es) ≡ first_instances task known notes real es
          → sent_instances (option_map_or (λ i. record { number = number; instance = i; outputs = e.outputs }
          ∷ next_sent task before real [] (number + 1) (i ∷ taken) es)
          (if b && true then Some e.instance else None) (next_sent task before real [] number taken es))
          ≡ cond b (e.instance ∷ first_instances task known notes real es) (first_instances task known notes real es)
      by true = λ with_it without. ap (λ is. e.instance ∷ is) with_it
      by false = λ with_it without. without

pub first_sent : (task : Task) (before : List Entry) (real number : ℕ) (entries : List dreams.SupposedEntry)
    → AreDistinct (dreams.instances_of entries)
    → sent_instances (next_sent task before real [] number [] entries)
    ≡ first_instances task (known_of task before) (notes_of task before) real entries
first_sent task before real number entries distinct =
    first_from task before real number [] entries distinct (λ i j m n. absurd (contains_none j n))
