-- What the answers to a dream's requests give.
use Rattle.std.proofs.Common.{◌≡◌, ℕ, suc, ◌+◌, ◌<◌, arith, Bool, true, false, cond, List, [], ◌∷◌, ◌++◌, map, take, length, refl, sym, ap, ◌∙◌, Option, None, Some, slice_get, if◌then◌else◌}
use Rattle.std.proofs.lemmas.List.Elements.{filter_map-append}
use Rattle.std.specs.List.{cons_option, filter_map, find}
use Rattle.std.specs.Option.{option_and_then}
use Rattle.std.proofs.lemmas.Bool.{false_from_ne_true}
use Rattle.dream_asks.proofs.StayLemmas.{none_before, none_gives, one_answer, other_gives}
use Rattle.dream_asks.specs.Noting.{objects_for, tuple_of}
use Rattle.lemmas.proofs.Members.{get_behind}
use Rattle.task_model.specs.declared.task.Task.{Task}
use Rattle.transcript_model.specs.Dreaming.{tuple_in}
use Rattle.transcript_model.specs.Legal.{IsLegal, asks_of, is_answer_to}
use Rattle.transcript_model.specs.Names.{generated, places_of}
use Rattle.transcript_model.specs.Transcript.{names_of}
use Rattle.transcript_model.specs.declared.entry.Entry.{Entry}
use Rattle.transcript_model.specs.declared.entry.Entry.TheVariants as entry

module _ (task : Task) (entries : List Entry) (n width : ℕ) where
  answer_gives : (e : Entry) → is_answer_to n e ≡ true
      → tuple_in task entries n width e ≡ tuple_of (names_of task entries) width e
  answer_gives (entry.Got number tuples values) is =
      ap (λ b. if b then places_of (names_of task entries) (map generated (take width values)) else None) is
  answer_gives entry.Level is = refl
  answer_gives (entry.Ask number turn call) is = refl
  answer_gives (entry.Value number value) is = refl
  answer_gives (entry.End number) is = refl
  answer_gives (entry.Dream uses steps) is = refl
  answer_gives entry.Nothing is = refl
  answer_gives entry.Reset is = refl
  answer_gives (entry.Pick number) is = refl
  answer_gives (entry.Retire number) is = refl

  -- the first that is given is the answer's, where there is one answer
  pub first_gives : (es : List Entry)
      → ((j k : ℕ) (e d : Entry) → slice_get es j ≡ Some e → slice_get es k ≡ Some d → is_answer_to n e ≡ true
      → is_answer_to n d ≡ true → j < k → ⊥)
      → slice_get (filter_map (tuple_in task entries n width) es) 0
      ≡ option_and_then (tuple_of (names_of task entries) width) (find (is_answer_to n) es)
  first_gives [] one = refl
  first_gives (e ∷ es) one =
      by (is_answer_to n e) refl
      (first_gives es (λ j k x y at later is again lt. one (suc j) (suc k) x y at later is again (omega (arith, lt))))
    where
      f : Entry → Option (List ℕ)
      f = tuple_in task entries n width

      only : (o : Option (List ℕ)) → slice_get (cons_option o []) 0 ≡ o
      only None = refl
      only (Some x) = refl

      by : (b : Bool) → is_answer_to n e ≡ b
          → slice_get (filter_map (tuple_in task entries n width) es) 0
          ≡ option_and_then (tuple_of (names_of task entries) width) (find (is_answer_to n) es)
          → slice_get (cons_option (tuple_in task entries n width e) (filter_map (tuple_in task entries n width) es)) 0
          ≡ option_and_then (tuple_of (names_of task entries) width) (cond b (Some e) (find (is_answer_to n) es))
      by true is rest =
          (λ i. slice_get (cons_option (answer_gives e is i)
          (none_gives task entries n width es
          (λ k d at. false_from_ne_true (is_answer_to n d) (λ again. one 0 (suc k) e d refl at is again (omega arith))) i)) 0)
          ∙ only (tuple_of (names_of task entries) width e)
      by false is rest =
          ap (λ o. slice_get (cons_option o (filter_map (tuple_in task entries n width) es)) 0)
          (other_gives task entries n width e is) ∙ rest

-- what the answers behind a transcript give for a request that was made there
pub objects_came : (version : ℕ) (task : Task) (before behind : List Entry) (n width : ℕ)
    → IsLegal version task (before ++ behind) → asks_of before < n
    → objects_for (names_of task (before ++ behind)) behind n width
    ≡ slice_get (filter_map (tuple_in task (before ++ behind) n width) (before ++ behind)) 0
objects_came version task before behind n width legal later =
    sym (first_gives task (before ++ behind) n width behind one)
    ∙ ap (λ found. slice_get (found ++ filter_map (tuple_in task (before ++ behind) n width) behind) 0)
    (sym (none_gives task (before ++ behind) n width before (none_before version task before behind n legal later)))
    ∙ ap (λ found. slice_get found 0) (sym (filter_map-append (tuple_in task (before ++ behind) n width) before behind))
  where
    one : (j k : ℕ) (e d : Entry) → slice_get behind j ≡ Some e → slice_get behind k ≡ Some d → is_answer_to n e ≡ true
        → is_answer_to n d ≡ true → j < k → ⊥
    one j k e d at after is again lt =
        one_answer version task (before ++ behind) (length before + j) (length before + k) n e d legal
        (get_behind before behind j e at) (get_behind before behind k d after) is again (omega (arith, lt))
