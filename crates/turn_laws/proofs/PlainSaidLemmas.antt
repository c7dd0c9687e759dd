-- What is known after a transcript depends on its requests and its answers alone.
use Rattle.std.proofs.Common.{◌≡◌, ℕ, Bool, true, false, cond, List, [], ◌∷◌, ◌++◌, length, refl, replicate, sym, ap, ◌∙◌}
use Rattle.std.proofs.lemmas.List.Sums.{length-filter}
use Rattle.std.specs.List.{filter, flat_map}
use Rattle.std.specs.Option.{option_and_then, option_map_or, option_or}
use Rattle.turn_laws.specs.PlainLaws.{KnowsSame}
use Rattle.task_model.specs.Initial.{declared_names, initial_known}
use Rattle.task_model.specs.Known.{with_facts, with_names, with_values}
use Rattle.task_model.specs.Streams.{Ended, Yielded, worth_by}
use Rattle.task_model.specs.declared.task.Task.{Task}
use Rattle.transcript_model.specs.Legal.{is_answer, is_ask}
use Rattle.transcript_model.specs.Names.{instance_of}
use Rattle.transcript_model.specs.Transcript.{Asked, asked, asked_of, call_in, call_of, certified, names_of, note_of, notes_of, objects_in, told_value, yield_facts}
use Rattle.transcript_model.specs.declared.entry.Entry.{Entry}
use Rattle.transcript_model.specs.declared.entry.Entry.TheVariants as entry

-- ---- lists

-- a list function that is empty where the test fails
pub flat_map_filter : {A B : Type 0} (f : A → List B) (p : A → Bool) → ((x : A) → p x ≡ false → f x ≡ [])
    → (xs : List A) → flat_map f xs ≡ flat_map f (filter p xs)
flat_map_filter f p none [] = refl
flat_map_filter f p none (x ∷ xs) = by (flat_map_filter f p none xs) (p x) refl
  where
    by : flat_map f xs ≡ flat_map f (filter p xs) → (b : Bool) → p x ≡ b
        → flat_map f (x ∷ xs) ≡ flat_map f (filter p (x ∷ xs))
    by later true is =
        ap (λ ys. f x ++ ys) later ∙ ap (λ c. flat_map f (cond c (x ∷ filter p xs) (filter p xs))) (sym is)
    by later false is =
        ap (λ ys. ys ++ flat_map f xs) (none x is) ∙ later
        ∙ ap (λ c. flat_map f (cond c (x ∷ filter p xs) (filter p xs))) (sym is)

-- so it gives the same of two lists in which the test finds the same
pub flat_map_found : {A B : Type 0} (f : A → List B) (p : A → Bool) → ((x : A) → p x ≡ false → f x ≡ [])
    → (xs ys : List A) → filter p xs ≡ filter p ys → flat_map f xs ≡ flat_map f ys
flat_map_found f p none xs ys same =
    flat_map_filter f p none xs ∙ ap (flat_map f) same ∙ sym (flat_map_filter f p none ys)

-- ---- requests

-- a call is found among the requests
call_asked : (entries : List Entry) (n : ℕ) → call_of entries n ≡ call_of (filter is_ask entries) n
call_asked [] n = refl
call_asked (entry.Ask number turn call ∷ entries) n =
    ap (option_or (call_in n (entry.Ask number turn call))) (call_asked entries n)
call_asked (e ∷ entries) n = call_asked entries n

-- ---- what is empty but at answers

no_objects : (e : Entry) → is_answer e ≡ false → objects_in e ≡ []
no_objects (entry.Got n tuples values) other = absurd (cc)
no_objects e other = refl

no_facts : (task : Task) (entries : List Entry) (e : Entry) → is_answer e ≡ false → certified task entries e ≡ []
no_facts task entries (entry.Got n tuples values) other = absurd (cc)
no_facts task entries e other = refl

no_values : (task : Task) (entries : List Entry) (e : Entry) → is_answer e ≡ false → told_value task entries e ≡ []
no_values task entries (entry.Value n value) other = absurd (cc)
no_values task entries e other = refl

no_notes : (task : Task) (entries : List Entry) (e : Entry) → is_answer e ≡ false → note_of task entries e ≡ []
no_notes task entries (entry.Got n tuples values) other = absurd (cc)
no_notes task entries (entry.Value n value) other = absurd (cc)
no_notes task entries (entry.End n) other = absurd (cc)
no_notes task entries e other = refl

-- ---- two transcripts with the same requests and the same answers

module _ (task : Task) (xs ys : List Entry) (asks : filter is_ask xs ≡ filter is_ask ys)
    (answers : filter is_answer xs ≡ filter is_answer ys) where
  names_same : names_of task xs ≡ names_of task ys
  names_same = ap (with_names (declared_names task)) (flat_map_found objects_in is_answer no_objects xs ys answers)

  asked_same : (n : ℕ) → asked task xs n ≡ asked task ys n
  asked_same n =
      ap (λ names. option_and_then (asked_of task) (option_and_then (instance_of task names) (call_of xs n))) names_same
      ∙ ap (λ call. option_and_then (asked_of task) (option_and_then (instance_of task (names_of task ys)) call))
      (call_asked xs n ∙ ap (λ es. call_of es n) asks ∙ sym (call_asked ys n))

  certified_same : (e : Entry) → certified task xs e ≡ certified task ys e
  certified_same (entry.Got n tuples values) =
      ap (λ names. option_map_or (λ a. yield_facts task names a tuples values) (asked task xs n) []) names_same
      ∙ ap (λ a. option_map_or (λ b. yield_facts task (names_of task ys) b tuples values) a []) (asked_same n)
  certified_same e = refl

  told_same : (e : Entry) → told_value task xs e ≡ told_value task ys e
  told_same (entry.Value n value) =
      ap (λ a. option_map_or (λ (b : Asked). worth_by b.stream b.instance.inputs value) a []) (asked_same n)
  told_same e = refl

  note_same : (e : Entry) → note_of task xs e ≡ note_of task ys e
  note_same (entry.Got n tuples values) =
      ap (λ a. option_map_or (λ (b : Asked). replicate tuples (Yielded b.instance)) a []) (asked_same n)
  note_same (entry.Value n value) = ap (λ a. option_map_or (λ (b : Asked). Ended b.instance ∷ []) a []) (asked_same n)
  note_same (entry.End n) = ap (λ a. option_map_or (λ (b : Asked). Ended b.instance ∷ []) a []) (asked_same n)
  note_same e = refl

  notes_same : notes_of task xs ≡ notes_of task ys
  notes_same =
      ap (λ f. flat_map f xs) (λ i e. note_same e i)
      ∙ flat_map_found (note_of task ys) is_answer (no_notes task ys) xs ys answers

  -- what is known, noted and counted is the same
  pub knows_same : KnowsSame task xs ys
  knows_same =
      let facts : flat_map (certified task xs) xs ≡ flat_map (certified task ys) ys =
      ap (λ f. flat_map f xs) (λ i e. certified_same e i)
      ∙ flat_map_found (certified task ys) is_answer (no_facts task ys) xs ys answers in
      let values : flat_map (told_value task xs) xs ≡ flat_map (told_value task ys) ys =
      ap (λ f. flat_map f xs) (λ i e. told_same e i)
      ∙ flat_map_found (told_value task ys) is_answer (no_values task ys) xs ys answers in
      record {
        known = λ i. record {
          names = names_same i;
          facts = with_facts (initial_known task).facts (facts i);
          values = with_values (initial_known task).values (values i);
        };
        notes = notes_same;
        asks = sym (length-filter is_ask xs) ∙ ap length asks ∙ length-filter is_ask ys;
      }
