-- What was said behind an answer, and in a whole round.
use Rattle.std.proofs.Common.{◌≡◌, ℕ, ◌+◌, Bool, true, false, List, [], ◌∷◌, ◌++◌, length, take, Option, sym, subst, ap, ◌∙◌}
use Rattle.io_world.specs.Talks.{Talk}
use Rattle.session_core.specs.Session.{IsSession}
use Rattle.session_core.specs.Slots.{Slot, answers_of}
use Rattle.session_core.specs.State.{State, with_slots}
use Rattle.task_model.specs.declared.task.Task.{Task}
use Rattle.transcript_model.specs.declared.entry.Entry.{Entry}
use Rattle.round_run.proofs.DialogueEndLemmas.{dialogue_of}
use Rattle.round_run.specs.Dialogue.{Dialogue, replies_of, requests_of}
use Rattle.round_run.specs.Rolling.{finished_round}
use Rattle.round_run.specs.Talking.{IsTalking, IsTold, Talks}
use Rattle.round_run.proofs.TalkingRoundLemmas.{talks_at_heard, told_closed}

-- ---- one answer, as its function has it

pub dialogue_answered : (task : Task) (s now : State) (place : ℕ) (kept : ℕ → List ℕ) (spoken : ℕ → Option Talk) (e : Entry)
    → s.is_open ≡ true → IsSession task now → (slots : List Slot) (failed : Bool) → now ≡ with_slots s slots failed
    → s.entries ++ s.asks ++ take (place + 1) (finished_round now.slots) ≡ (s.entries ++ s.asks ++ take place (finished_round s.slots)) ++ e ∷ []
    → IsTalking task now (length now.slots) (place + 1) kept spoken
    → Dialogue task s.version s.pools ((s.entries ++ s.asks ++ take place (finished_round s.slots)) ++ e ∷ []) spoken
dialogue_answered task s now place kept spoken e opened h slots failed is printed k =
    let open_now : now.is_open ≡ true = ap (λ (x : State). x.is_open) is ∙ opened in
    let talks : Talks task now.version now.pools
    (requests_of task now.pools (now.entries ++ now.asks ++ take (place + 1) (finished_round now.slots)))
    (replies_of (now.entries ++ now.asks ++ take (place + 1) (finished_round now.slots))) kept spoken =
    talks_at_heard task now (place + 1) kept spoken open_now h k in
    let moved : Talks task s.version s.pools (requests_of task s.pools (s.entries ++ s.asks ++ take (place + 1) (finished_round now.slots)))
    (replies_of (s.entries ++ s.asks ++ take (place + 1) (finished_round now.slots))) kept spoken =
    subst (λ (x : State).
    Talks task x.version x.pools (requests_of task x.pools (x.entries ++ x.asks ++ take (place + 1) (finished_round now.slots)))
    (replies_of (x.entries ++ x.asks ++ take (place + 1) (finished_round now.slots))) kept spoken) is talks in
    dialogue_of task s.version s.pools ((s.entries ++ s.asks ++ take place (finished_round s.slots)) ++ e ∷ []) spoken kept
    (subst (λ es. Talks task s.version s.pools (requests_of task s.pools es) (replies_of es) kept spoken) printed moved)

-- ---- a whole round

pub round_told : (task : Task) (x : State) (count : ℕ) (old now : ℕ → Bool) (first kept : ℕ → List ℕ) (spoken : ℕ → Option Talk)
    → x.is_open ≡ true → IsSession task x → count ≡ length x.slots → length x.asks ≡ length x.slots → finished_round x.slots ≡ answers_of x.slots
    → ((k : ℕ) → now k ≡ old k) → ((k : ℕ) → old k ≡ false → kept k ≡ first k) → ((k : ℕ) → old k ≡ false → first k ≡ [])
    → IsTalking task x count count kept spoken → IsTold task x.version x.pools (x.entries ++ x.asks ++ answers_of x.slots) now kept spoken
round_told task x count old now first kept spoken opened h is asks_long all same stays empty k =
    told_closed task x count now kept spoken opened h is asks_long all
    (λ j off. stays j (sym (same j) ∙ off) ∙ empty j (sym (same j) ∙ off)) k
