-- An entry that is neither a request nor an answer: nothing is said for it, and no call is made.
use Rattle.std.proofs.Common.{◌≡◌, ℕ, arith, true, false, cond, List, [], ◌∷◌, ◌++◌, refl, ap, ◌∙◌}
use Rattle.std.proofs.lemmas.List.{append-nil}
use Rattle.std.proofs.lemmas.List.Folds.{list_any-append}
use Rattle.std.specs.List.{list_any}
use Rattle.lemmas.proofs.Bools.{or_false}
use Rattle.io_world.specs.Talks.{Event}
use Rattle.lemmas.proofs.Counts.{count_joined, count_one}
use Rattle.pools.specs.Pools.{Workers}
use Rattle.task_model.specs.declared.task.Task.{Task}
use Rattle.transcript_model.proofs.LegalLemmas.{grows, mark_follows}
use Rattle.transcript_model.proofs.LegalStepLemmas.{mark_no_ask}
use Rattle.transcript_model.specs.Legal.{IsLegal, asks_of, is_answer_to, is_ask, is_ask_of, is_mark, is_open}
use Rattle.transcript_model.specs.declared.entry.Entry.{Entry}
use Rattle.transcript_model.specs.declared.entry.Entry.TheVariants as entry
use Rattle.round_run.proofs.DialogueRequestLemmas.{last_join, replies_join, requests_join}
use Rattle.round_run.specs.Calls.{AreCallsOf, Follows}
use Rattle.round_run.specs.Dialogue.{last_round, replies_of, requests_after, requests_of}

-- it may follow any legal transcript
pub mark_legal : (version : ℕ) (task : Task) (before : List Entry) (e : Entry) → is_mark e ≡ true
    → IsLegal version task before → IsLegal version task (before ++ e ∷ [])
mark_legal version task before e mark legal =
    (grows version task before).next e legal (mark_follows version task before e mark)

pub asks_behind : (e : Entry) (more : List Entry) → is_mark e ≡ true → asks_of (e ∷ more) ≡ asks_of more
asks_behind e more mark =
    let none : asks_of (e ∷ []) ≡ 0 = count_one is_ask e ∙ ap (λ b. cond b 1 0) (mark_no_ask e mark) in
    omega (arith, count_joined is_ask (e ∷ []) more, none)

module _ (task : Task) (pools : List Workers) (e : Entry) (mark : is_mark e ≡ true) where
  pub requests_marked : (entries : List Entry)
      → requests_of task pools (entries ++ e ∷ []) ≡ requests_of task pools entries
  requests_marked entries =
      requests_join task pools [] entries (e ∷ [])
      ∙ ap (λ rs. requests_of task pools entries ++ rs) (none (last_round task [] entries) e mark)
      ∙ append-nil (requests_of task pools entries)
    where
      none : (round : List ℕ) (x : Entry) → is_mark x ≡ true → requests_after task pools round (x ∷ []) ≡ []
      none round (entry.Ask number turn call) m = absurd (cc)
      none round x m = refl

  pub last_marked : (entries : List Entry) → last_round task [] (entries ++ e ∷ []) ≡ []
  last_marked entries = last_join task [] entries (e ∷ []) ∙ none (last_round task [] entries) e mark
    where
      none : (round : List ℕ) (x : Entry) → is_mark x ≡ true → last_round task round (x ∷ []) ≡ []
      none round (entry.Ask number turn call) m = absurd (cc)
      none round x m = refl

  pub replies_marked : (entries : List Entry) → replies_of (entries ++ e ∷ []) ≡ replies_of entries
  replies_marked entries =
      replies_join entries (e ∷ []) ∙ ap (λ es. replies_of entries ++ es) (none e mark)
      ∙ append-nil (replies_of entries)
    where
      none : (x : Entry) → is_mark x ≡ true → replies_of (x ∷ []) ≡ []
      none (entry.Got number tuples values) m = absurd (cc)
      none (entry.Value number value) m = absurd (cc)
      none (entry.End number) m = absurd (cc)
      none x m = refl

  -- no call is made for it
  pub calls_marked : (past : List Event) (before : List Entry) → AreCallsOf task pools past before e []
  calls_marked past before = none e mark
    where
      none : (x : Entry) → is_mark x ≡ true → AreCallsOf task pools past before x []
      none (entry.Ask number turn call) m = absurd (cc)
      none (entry.Got number tuples values) m = absurd (cc)
      none (entry.Value number value) m = absurd (cc)
      none (entry.End number) m = absurd (cc)
      none x m = refl

  pub follows_marked : (past : List Event) (before : List Entry) → Follows task pools past before (e ∷ []) []
  follows_marked past before = ([], [], refl, calls_marked past before, refl)

-- it opens no request, and answers none
pub mark_waits : (before : List Entry) (e : Entry) → is_mark e ≡ true → (n : ℕ)
    → is_open (before ++ e ∷ []) n ≡ is_open before n
mark_waits before e mark n = rw (
  list_any-append (is_ask_of n) before (e ∷ []),
  list_any-append (is_answer_to n) before (e ∷ []),
  no_ask e mark,
  no_answer e mark,
  or_false (list_any (is_ask_of n) before),
  or_false (list_any (is_answer_to n) before),
) refl
  where
    no_ask : (x : Entry) → is_mark x ≡ true → is_ask_of n x ≡ false
    no_ask (entry.Ask number turn call) m = absurd (cc)
    no_ask x m = refl

    no_answer : (x : Entry) → is_mark x ≡ true → is_answer_to n x ≡ false
    no_answer (entry.Got number tuples values) m = absurd (cc)
    no_answer (entry.Value number value) m = absurd (cc)
    no_answer (entry.End number) m = absurd (cc)
    no_answer x m = refl
