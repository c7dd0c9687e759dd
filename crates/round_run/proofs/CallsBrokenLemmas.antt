-- The calls of a round that stops.
use Rattle.std.proofs.Common.{◌≡◌, ℕ, ◌<◌, List, [], ◌++◌, length, take, Option, Some, subst, ◌∙◌, slice_get, Bool, true}
use Rattle.io_world.specs.Talks.{Talk, Event, LogsTakenPart, SpellsTalk}
use Rattle.io_world.specs.declared.host.HostFault.{HostFault}
use Rattle.session_core.specs.Session.{IsSession}
use Rattle.session_core.specs.Slots.{Slot}
use Rattle.session_core.specs.State.{State}
use Rattle.task_model.specs.declared.task.Task.{Task}
use Rattle.transcript_model.specs.Rounds.{IsRound}
use Rattle.transcript_model.specs.declared.entry.Entry.{Entry}
use Rattle.round_run.proofs.BreakingLemmas.{breaks_hearing, breaks_writing}
use Rattle.round_run.proofs.CallsRoundLemmas.{sent_next}
use Rattle.round_run.proofs.TalkingRoundLemmas.{next_front, next_legal, request_at, talks_at_heard}
use Rattle.round_run.proofs.TalkingHeardLemmas.{next_asked}
use Rattle.round_run.specs.Breaking.{LogBreaks, LogHears}
use Rattle.round_run.specs.Dialogue.{text_of_request}
use Rattle.round_run.specs.Rolling.{IsFrontPart, IsHostFault, IsRolling, finished_round}
use Rattle.round_run.specs.Stops.{MayHear, MayListen}
use Rattle.round_run.specs.Talking.{IsTalking}
use Rattle.round_run.specs.declared.fault.RunFault.{RunFault}

module _ (task : Task) (s : State) (place : ℕ) (kept : ℕ → List ℕ) (spoken : ℕ → Option Talk) (t : Slot)
    (at : slice_get s.slots place ≡ Some t) (e : Entry) (at_e : slice_get s.asks place ≡ Some e) (opened : s.is_open ≡ true)
    (h : IsSession task s) (k : IsTalking task s place 0 kept spoken) where
  -- the request at this place was written in part
  pub sent_part : (child : ℕ) (request : List ℕ) (fault : RunFault) (was now : Option (List Event))
      → MayHear fault → child ≡ t.child → request ≡ t.request
      → (cause : HostFault) × IsHostFault cause fault × LogsTakenPart child request cause was now
      → LogBreaks task s.version s.pools (s.entries ++ take place s.asks) fault was now
      (IsFrontPart s.entries (IsRound task s.entries s.instances)) []
  sent_part child request fault was now may own same log =
      let r = request_at task s place kept spoken spoken t at k.slots in
      breaks_writing task s.version s.pools (IsFrontPart s.entries (IsRound task s.entries s.instances)) (s.entries ++ take place s.asks)
      e r.0 fault was now may (next_legal task s place kept spoken spoken t at e at_e opened h k)
      (next_front task s place kept spoken spoken t at e at_e opened h k) (sent_next task s place kept spoken t at e at_e opened h k r)
      (subst (λ c. (cause : HostFault) × IsHostFault cause fault × LogsTakenPart c (text_of_request r.0) cause was now) (own ∙ r.2.child)
      (subst (λ bytes. (cause : HostFault) × IsHostFault cause fault × LogsTakenPart child bytes cause was now) (same ∙ r.2.text) log))

module _ (task : Task) (s : State) (running : ℕ → Bool) (place : ℕ) (rolling : IsRolling s running (length s.slots) place)
    (within : place < length s.slots) (t : Slot) (at : slice_get s.slots place ≡ Some t) (kept : ℕ → List ℕ) (old : ℕ → Option Talk)
    (h : IsSession task s) (k : IsTalking task s (length s.slots) place kept old) where
  -- no answer was taken
  pub heard_off : (Front : List Entry → Type 0) (child : ℕ) (fault : RunFault) (was now : Option (List Event)) → MayListen fault
      → child ≡ t.child → SpellsTalk was child (old child)
      → LogHears child (kept child) fault was now
      → LogBreaks task s.version s.pools (s.entries ++ s.asks ++ take place (finished_round s.slots)) fault was now Front []
  heard_off Front child fault was now may own spells log =
      let r = request_at task s place kept old old t at k.slots in
      let same = own ∙ r.2.child in
      breaks_hearing task s.version s.pools Front (s.entries ++ s.asks ++ take place (finished_round s.slots)) r.0
      (next_asked task s running place rolling within t at kept old h k) r.2.one kept old
      (talks_at_heard task s place kept old rolling.begun h k) was now
      (subst (λ c. SpellsTalk was c (old c)) same spells) fault may (subst (λ c. LogHears c (kept c) fault was now) same log)
