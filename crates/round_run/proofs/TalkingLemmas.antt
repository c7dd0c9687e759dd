-- What was said, between two rounds.
use Rattle.std.proofs.Common.{◌≡◌, ℕ, ◌<◌, arith, Bool, true, false, List, [], ◌∷◌, ◌++◌, length, Option, refl, sym, subst, ap, ◌∙◌, IfSome}
use Rattle.std.proofs.lemmas.List.{append-nil, nil_from_length}
use Rattle.gen_lines.specs.Cutting.{fresh}
use Rattle.io_world.specs.Talks.{Talk}
use Rattle.session_core.specs.Session.{IsOf}
use Rattle.session_core.specs.State.{State}
use Rattle.pools.specs.Pools.{Workers}
use Rattle.task_model.specs.declared.task.Task.{Task}
use Rattle.transcript_model.proofs.LegalNumberLemmas.{asks_marked}
use Rattle.transcript_model.specs.Legal.{asks_of, is_mark}
use Rattle.transcript_model.specs.declared.entry.Entry.{Entry}
use Rattle.transcript_model.specs.declared.head.Head.{Head}
use Rattle.transcript_model.proofs.LegalStepLemmas.{mark_no_ask}
use Rattle.round_run.proofs.DialogueMarkLemmas.{last_marked, replies_marked, requests_marked}
use Rattle.round_run.proofs.DialogueRequestLemmas.{requests_counted}
use Rattle.round_run.proofs.DialogueLemmas.{talk_said, talk_short, told_map}
use Rattle.round_run.specs.Dialogue.{Dialogue, bytes_to, replies_of, requests_of, workers_in}
use Rattle.round_run.specs.Talking.{AreSilent, IsTalk, IsTold}
use Rattle.round_run.specs.Batches.{AllRun, AreStarted}

module _ (task : Task) (version : ℕ) (pools : List Workers) where
  -- a mark stands behind
  pub told_marked : (e : Entry) → is_mark e ≡ true → (entries : List Entry) (running : ℕ → Bool)
      (kept : ℕ → List ℕ) (spoken : ℕ → Option Talk)
      → IsTold task version pools entries running kept spoken → IsTold task version pools (entries ++ e ∷ []) running kept spoken
  told_marked e mark entries running kept spoken t = record {
    closed = last_marked task pools e mark entries;
    even = ap length (replies_marked task pools e mark entries) ∙ t.even ∙ sym (ap length (requests_marked task pools e mark entries));
    idle = t.idle;
    each = λ child one runs.
        subst (λ rs. IfSome (spoken child) (IsTalk task version rs (replies_of (entries ++ e ∷ [])) child (kept child)))
        (sym (requests_marked task pools e mark entries))
        (subst (λ es. IfSome (spoken child) (IsTalk task version (requests_of task pools entries) es child (kept child)))
        (sym (replies_marked task pools e mark entries)) (t.each child one runs));
  }

  -- ---- where all workers run that were asked

  module _ (entries : List Entry) (asks : ℕ) (running : ℕ → Bool) (kept : ℕ → List ℕ) (spoken : ℕ → Option Talk)
      (counted : asks ≡ asks_of entries) (started : AreStarted pools asks running)
      (t : IsTold task version pools entries running kept spoken) where
    pub dialogue_told : Dialogue task version pools entries spoken
    dialogue_told child one some =
        let asked : 0 < asks = omega (arith, some, counted, requests_counted task pools [] entries) in
        told_map _ _ (spoken child) (λ talk w. record {
          written = w.written ∙ sym (append-nil (bytes_to child (requests_of task pools entries)));
          answered = talk_said task version (requests_of task pools entries) (replies_of entries) child (kept child) talk w;
          short = talk_short task version (requests_of task pools entries) (replies_of entries) child (kept child) talk w;
        }) (t.each child one (started.all asked one.place child one.pool one.at one.has))

  -- where all workers run
  pub dialogue_run : (entries : List Entry) (running : ℕ → Bool) (kept : ℕ → List ℕ) (spoken : ℕ → Option Talk)
      → AllRun pools running
      → IsTold task version pools entries running kept spoken → Dialogue task version pools entries spoken
  dialogue_run entries running kept spoken all t = λ child one some. told_map _ _ (spoken child) (λ talk w. record {
    written = w.written ∙ sym (append-nil (bytes_to child (requests_of task pools entries)));
    answered = talk_said task version (requests_of task pools entries) (replies_of entries) child (kept child) talk w;
    short = talk_short task version (requests_of task pools entries) (replies_of entries) child (kept child) talk w;
  }) (t.each child one (all one.place child one.pool one.at one.has))

  pub dialogue_marked : (e : Entry) → is_mark e ≡ true → (entries : List Entry) (asks : ℕ) (running : ℕ → Bool)
      (kept : ℕ → List ℕ) (spoken : ℕ → Option Talk)
      → asks ≡ asks_of entries → AreStarted pools asks running → IsTold task version pools entries running kept spoken
      → Dialogue task version pools (entries ++ e ∷ []) spoken
  dialogue_marked e mark entries asks running kept spoken counted started t =
      dialogue_told (entries ++ e ∷ []) asks running kept spoken same started (told_marked e mark entries running kept spoken t)
    where
      same : asks ≡ asks_of (entries ++ e ∷ [])
      same = counted ∙ sym (asks_marked entries e (mark_no_ask e mark))

  -- ---- where nothing was asked

  pub none_asked : (entries : List Entry) → asks_of entries ≡ 0
      → requests_of task pools entries ≡ []
  none_asked entries none = nil_from_length (requests_of task pools entries) (requests_counted task pools [] entries ∙ none)

  pub dialogue_unasked : (entries : List Entry) (spoken : ℕ → Option Talk) → asks_of entries ≡ 0
      → Dialogue task version pools entries spoken
  dialogue_unasked entries spoken none =
      λ child one some. absurd (omega (arith, some, ap length (none_asked entries none)))

  -- children were started
  pub told_started : (entries : List Entry) (old now : ℕ → Bool) (kept left : ℕ → List ℕ) (before spoken : ℕ → Option Talk)
      → asks_of entries ≡ 0 → ((k : ℕ) → old k ≡ false) → ((k : ℕ) → left k ≡ kept k) → AreSilent now spoken
      → IsTold task version pools entries old kept before → IsTold task version pools entries now left spoken
  told_started entries old now kept left before spoken none idle same silent t = record {
    closed = t.closed;
    even = t.even;
    idle = λ child _. same child ∙ t.idle child (idle child);
    each = λ child one runs. told_map _ _ (spoken child) (λ talk is.
        subst (λ rs. IsTalk task version rs (replies_of entries) child (left child) talk) (sym empty)
        (subst (λ es. IsTalk task version [] es child (left child) talk) (sym unanswered)
        (subst (λ bytes. IsTalk task version [] [] child bytes talk) (sym (same child ∙ t.idle child (idle child)))
        (subst (IsTalk task version [] [] child []) (sym is) (record {
          written = refl;
          taken = [];
          cut = fresh;
          many = refl;
          said = λ k r e at own answer. absurd (cc);
          short = λ place less. absurd (omega (arith, less));
        })))))
        (silent child runs);
  }
    where
      empty : requests_of task pools entries ≡ []
      empty = none_asked entries none

      unanswered : replies_of entries ≡ []
      unanswered = nil_from_length (replies_of entries) (t.even ∙ ap length empty)

-- what was said with the session's pools was said with the head's
pub told_of : (head : Head) (s : State) → IsOf head s → (task : Task) (entries : List Entry) (running : ℕ → Bool) (kept : ℕ → List ℕ)
    (spoken : ℕ → Option Talk)
    → IsTold task s.version s.pools entries running kept spoken → IsTold task head.version (workers_in head) entries running kept spoken
told_of head s of task entries running kept spoken told =
    subst (λ v. IsTold task v (workers_in head) entries running kept spoken) of.version
    (subst (λ ps. IsTold task s.version ps entries running kept spoken) of.pools told)
