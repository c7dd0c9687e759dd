-- Turns without a dream: the line `none` adds nothing to what is known, and what comes behind it.
use Rattle.std.proofs.Common.{◌≡◌, ◌⊎◌, ℕ, ◌<◌, ◌≤◌, inl, inr, All, Bool, true, false, List, [], ◌∷◌, ◌++◌, length, replicate, refl, sym, ap, subst, ◌∙◌, arith}
use Rattle.std.proofs.lemmas.Bool.{true≢false}
use Rattle.std.proofs.lemmas.List.{append-nil}
use Rattle.std.proofs.lemmas.List.Concat.{flat_map-append}
use Rattle.std.specs.List.{flat_map, list_all}
use Rattle.std.specs.Option.{option_and_then, option_map_or, option_or}
use Rattle.course_check.specs.Places.{HasNoneToPick, forgetting}
use Rattle.turn_laws.specs.Modes.{TurnOf}
use Rattle.task_model.specs.Initial.{declared_names, initial_known}
use Rattle.task_model.specs.Known.{Known, with_facts, with_names, with_values}
use Rattle.task_model.specs.Streams.{AreDue, Ended, Note, Yielded, worth_by}
use Rattle.task_model.specs.declared.stream.Instance.{Instance}
use Rattle.task_model.specs.declared.task.Task.{Task}
use Rattle.transcript_model.proofs.RoundsFrontLemmas.{batch_exists}
use Rattle.transcript_model.specs.Dreaming.{HasNoDreamAfter}
use Rattle.transcript_model.specs.Names.{instance_of}
use Rattle.transcript_model.specs.Rounds.{Limits, Share}
use Rattle.transcript_model.specs.Transcript.{Asked, asked, asked_of, call_in, call_of, certified, known_of, names_of, note_of, notes_of, objects_in, told_value, yield_facts}
use Rattle.transcript_model.specs.Turns.{IsEmptyTurn, IsFallback, Kept, MayBegin, Skeleton, is_cut, level, reset}
use Rattle.transcript_model.specs.declared.entry.Entry.{Entry}
use Rattle.transcript_model.specs.declared.entry.Entry.TheVariants as entry
use Rattle.transcript_model.specs.declared.head.Mode.{Mode}
use Rattle.transcript_model.specs.declared.head.Mode.TheVariants.{Adaptive, Binding, Focused, Incremental}

-- ---- what is known behind the line

module _ (task : Task) (before : List Entry) where
  abbrev behind : List Entry
  behind = before ++ entry.Nothing ∷ []

  same_names : names_of task behind ≡ names_of task before
  same_names =
      ap (with_names (declared_names task))
      (flat_map-append objects_in before (entry.Nothing ∷ []) ∙ append-nil (flat_map objects_in before))

  same_call : (xs : List Entry) (n : ℕ) → call_of (xs ++ entry.Nothing ∷ []) n ≡ call_of xs n
  same_call [] n = refl
  same_call (x ∷ xs) n = ap (option_or (call_in n x)) (same_call xs n)

  same_asked : (n : ℕ) → asked task behind n ≡ asked task before n
  same_asked n = λ i. option_and_then (asked_of task) (option_and_then (instance_of task (same_names i)) (same_call before n i))

  same_certified : (e : Entry) → certified task behind e ≡ certified task before e
  same_certified (entry.Got n tuples values) =
      λ i. option_map_or (λ (a : Asked). yield_facts task (same_names i) a tuples values) (same_asked n i) []
  same_certified e = refl

  same_told : (e : Entry) → told_value task behind e ≡ told_value task before e
  same_told (entry.Value n value) =
      λ i. option_map_or (λ (a : Asked). worth_by a.stream a.instance.inputs value) (same_asked n i) []
  same_told e = refl

  same_note : (e : Entry) → note_of task behind e ≡ note_of task before e
  same_note (entry.Got n tuples values) =
      λ i. option_map_or (λ (a : Asked). replicate tuples (Yielded a.instance)) (same_asked n i) []
  same_note (entry.Value n value) = λ i. option_map_or (λ (a : Asked). Ended a.instance ∷ []) (same_asked n i) []
  same_note (entry.End n) = λ i. option_map_or (λ (a : Asked). Ended a.instance ∷ []) (same_asked n i) []
  same_note e = refl

  -- what the entries say, where the line says nothing
  gathered : {A : Type 0} (f g : Entry → List A) → ((e : Entry) → f e ≡ g e) → g entry.Nothing ≡ []
      → flat_map f behind ≡ flat_map g before
  gathered f g each nothing =
      let one : flat_map f behind ≡ flat_map g behind = λ i. flat_map (λ (e : Entry). each e i) behind in
      one ∙ flat_map-append g before (entry.Nothing ∷ []) ∙ ap (λ l. flat_map g before ++ (l ++ [])) nothing
      ∙ append-nil (flat_map g before)

  known_behind : known_of task behind ≡ known_of task before
  known_behind =
      let facts : flat_map (certified task behind) behind ≡ flat_map (certified task before) before =
      gathered (certified task behind) (certified task before) same_certified refl in
      let values : flat_map (told_value task behind) behind ≡ flat_map (told_value task before) before =
      gathered (told_value task behind) (told_value task before) same_told refl in
      λ i. record {
        names = same_names i;
        facts = with_facts (initial_known task).facts (facts i);
        values = with_values (initial_known task).values (values i);
      }

  notes_behind : notes_of task behind ≡ notes_of task before
  notes_behind = gathered (note_of task behind) (note_of task before) same_note refl

  due_behind : (list : List Instance) → AreDue task (known_of task before) (notes_of task before) list
      → AreDue task (known_of task behind) (notes_of task behind) list
  due_behind list due =
      subst (λ (k : Known). AreDue task k (notes_of task behind) list) (sym known_behind)
      (subst (λ (ns : List Note). AreDue task (known_of task before) ns list) (sym notes_behind) due)

-- ---- turns

-- what was tried is forgotten
pub forgets : (limits : Limits) (task : Task) (before : List Entry) (tried : List Instance) → 0 < length tried
    → IsFallback limits task before tried (entry.Reset ∷ []) false
forgets limits task before [] some = absurd (omega (arith, some))
forgets limits task before (i ∷ is) some = reset i is

module _ (limits : Limits) (task : Task) (before : List Entry) (k : Kept) (mode : ¬ (limits.mode ≡ Incremental))
    (no_dream : HasNoDreamAfter limits task before k.tried) where
  none_of : (m : Mode) → ¬ (m ≡ Incremental) → HasNoneToPick m k → (rest : List Entry) (next : Kept) (cut : Bool)
      → IsEmptyTurn limits task k.tried before (entry.Nothing ∷ rest) next.tried cut → next.skeletons ≡ k.skeletons
      → TurnOf m limits task k before (entry.Nothing ∷ rest) next cut
  none_of Incremental dreams_mode no_skeleton rest next cut empty same = absurd (dreams_mode refl)
  none_of Focused dreams_mode no_skeleton rest next cut empty same = (inr empty, same)
  none_of Binding dreams_mode no_skeleton rest next cut empty same = (inr empty, same)
  none_of Adaptive dreams_mode no_skeleton rest next cut empty same =
      inr (inr (record {
        all_retired = no_skeleton refl;
        tried = next.tried;
        turn = empty;
        next_is = λ i. record { tried = next.tried; skeletons = same i };
      }))

  pub none_turn : HasNoneToPick limits.mode k → (rest : List Entry) (next : Kept) (cut : Bool)
      → IsFallback limits task (before ++ entry.Nothing ∷ []) k.tried rest cut → next.tried ≡ []
      → next.skeletons ≡ k.skeletons → TurnOf limits.mode limits task k before (entry.Nothing ∷ rest) next cut
  none_turn no_skeleton rest next cut fallback forgotten same =
      none_of limits.mode mode no_skeleton rest next cut
      (record { none = no_dream; rest = rest; is = refl; fallback = fallback; forgotten = forgotten }) same

  -- a turn that goes on so
  pub record Completed : Type 0 where
    pub next : Kept
    pub more : List Entry
    pub cut : Bool
    pub turn : TurnOf limits.mode limits task k before (entry.Nothing ∷ more) next cut

  -- behind the line a turn can go on, where no skeleton is picked
  pub completed : HasNoneToPick limits.mode k → All (λ (s : Share). 1 ≤ s.workers) limits.pools → MayBegin limits task before → Completed
  completed no_skeleton workers may = by k.tried refl
    where
      by : (tried : List Instance) → k.tried ≡ tried → Completed
      by [] untried =
          let marked = before ++ entry.Nothing ∷ [] in
          let b = batch_exists limits task (marked ++ entry.Level ∷ []) may.list workers in
          let fallback : IsFallback limits task marked k.tried (entry.Level ∷ b.0) (is_cut limits marked may.list) =
          subst (λ (is : List Instance). IsFallback limits task marked is (entry.Level ∷ b.0) (is_cut limits marked may.list))
          (sym untried) (level (record {
            list = may.list;
            due = due_behind task before may.list may.due;
            rest = b.0;
            is = refl;
            batch = b.1;
            cut_is = refl;
          })) in
          record {
            next = k;
            more = entry.Level ∷ b.0;
            cut = is_cut limits marked may.list;
            turn = none_turn no_skeleton (entry.Level ∷ b.0) k (is_cut limits marked may.list) fallback untried refl;
          }
      by (i ∷ is) some = record {
        next = forgetting k;
        more = entry.Reset ∷ [];
        cut = false;
        turn = none_turn no_skeleton (entry.Reset ∷ []) (forgetting k) false
            (subst (λ (ts : List Instance). IsFallback limits task (before ++ entry.Nothing ∷ []) ts (entry.Reset ∷ []) false)
            (sym some) (reset i is)) refl refl;
      }

-- in a mode with skeletons one can be picked, or all are given up
pub may_pick : (m : Mode) (k : Kept)
    → HasNoneToPick m k ⊎ ((m ≡ Adaptive) × ¬ (list_all (λ (s : Skeleton). s.retired) k.skeletons ≡ true))
may_pick Incremental k = inl (λ same. absurd (cc))
may_pick Focused k = inl (λ same. absurd (cc))
may_pick Binding k = inl (λ same. absurd (cc))
may_pick Adaptive k = by (list_all (λ (s : Skeleton). s.retired) k.skeletons) refl
  where
    by : (all : Bool) → list_all (λ (s : Skeleton). s.retired) k.skeletons ≡ all
        → HasNoneToPick Adaptive k
        ⊎ ((Adaptive ≡ Adaptive) × ¬ (list_all (λ (s : Skeleton). s.retired) k.skeletons ≡ true))
    by true all = inl (λ same. all)
    by false some = inr (refl, λ all. true≢false (sym all ∙ some))
