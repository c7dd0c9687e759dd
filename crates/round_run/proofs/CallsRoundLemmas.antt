-- The calls of a round.
use Rattle.std.proofs.Common.{◌≡◌, ℕ, zero, suc, ◌+◌, ◌<◌, ◌≤◌, arith, Bool, true, false, cond, List, [], ◌∷◌, ◌++◌, length, take, count_by, Option, Some, refl, sym, subst, ap, ◌∙◌, append_assoc, slice_get, IfSome, ◌||◌}
use Rattle.std.specs.List.{All, list_any}
use Rattle.std.proofs.lemmas.List.{length-append, length-map, nil_from_length}
use Rattle.std.proofs.lemmas.List.Elements.{All-take}
use Rattle.std.proofs.lemmas.List.Splits.{length-slice_split}
use Rattle.std.specs.Io.BufRead.{strip_last}
use Rattle.std.specs.List.{slice_split}
use Rattle.gen_lines.proofs.CuttingLemmas.{whole}
use Rattle.gen_lines.proofs.LinesLemmas.{ended_length}
use Rattle.gen_lines.specs.Lines.{ended, is_feed, lines_of}
use Rattle.io_world.specs.Replies.{IsLine}
use Rattle.io_world.specs.Talks.{Talk, Event, silence, spelled, heard_more, IsGiven, LogsGiven, LogsTaken, SpellsTalk}
use Rattle.lemmas.proofs.Counts.{count_joined, count_one}
use Rattle.session_core.specs.Session.{IsSession, round_begun}
use Rattle.transcript_model.specs.Legal.{is_answer}
use Rattle.session_core.specs.Slots.{Slot, answers_of}
use Rattle.session_core.specs.State.{State, with_slots}
use Rattle.pools.specs.Pools.{Workers}
use Rattle.task_model.specs.declared.task.Task.{Task}
use Rattle.transcript_model.specs.declared.entry.Entry.{Entry}
use Rattle.round_run.proofs.CallsLemmas.{answer_calls, ask_calls, calls_then, log_one, spelled_join, spelled_reads}
use Rattle.round_run.proofs.DialogueRequestLemmas.{AreAsks, AreReplies}
use Rattle.round_run.proofs.DialogueLemmas.{all_lines, count_own}
use Rattle.round_run.proofs.TalkingRoundLemmas.{front_each, replies_heard, request_at, requests_heard, requests_sent, round_asks, round_replies, talks_at_heard}
use Rattle.round_run.proofs.TalkingHeardLemmas.{next_asked}
use Rattle.instance_queue.specs.declared.due.Due.{Due}
use Rattle.round_run.specs.Calls.{AddsCalls, LogFollows, LogReads, lines_read}
use Rattle.round_run.specs.Dialogue.{IsOneOf, Request, count_to, replies_of, requests_of, text_of_request}
use Rattle.round_run.specs.Rolling.{IsRolling, IsSameRound, finished_round}
use Rattle.round_run.specs.Talking.{IsSlotOf, IsTalk, IsTalking, Talks}
use Rattle.lemmas.proofs.Members.{next_taken}

-- ---- lines of bytes that go on

-- there are as many lines as line feeds
lines_counted : (bytes : List ℕ) → length (lines_of bytes) ≡ count_by is_feed bytes
lines_counted bytes =
    omega (
      arith,
      length-map (ended (slice_split is_feed bytes)) (strip_last 13),
      ended_length (slice_split is_feed bytes) (omega (arith, length-slice_split is_feed bytes)),
      length-slice_split is_feed bytes,
    )

none_fed : (bytes : List ℕ) → list_any is_feed bytes ≡ false → count_by is_feed bytes ≡ 0
none_fed [] e = refl
none_fed (b ∷ bs) e = by (none_fed bs) (is_feed b) refl e
  where
    by : (list_any is_feed bs ≡ false → count_by is_feed bs ≡ 0) → (t : Bool) → is_feed b ≡ t
        → (is_feed b || list_any is_feed bs) ≡ false
        → count_by is_feed (b ∷ bs) ≡ 0
    by later true is any =
        absurd (let bad : true ≡ false = ap (λ t. t || list_any is_feed bs) (sym is) ∙ any in cc)
    by later false is any =
        let none : cond {A = ℕ} (is_feed b) 1 0 ≡ 0 = ap (λ t. cond {A = ℕ} t 1 0) is in
        let rest : list_any is_feed bs ≡ false = ap (λ t. t || list_any is_feed bs) (sym is) ∙ any in
        omega (arith, count_joined is_feed (b ∷ []) bs, count_one is_feed b, none, later rest)

-- bytes without a line feed add no line
pub still_part : (kept bytes : List ℕ) → lines_of kept ≡ [] → IsLine bytes
    → lines_of (kept ++ bytes) ≡ []
still_part kept bytes none line =
    nil_from_length (lines_of (kept ++ bytes))
    (omega (
      arith,
      lines_counted (kept ++ bytes),
      count_joined is_feed kept bytes,
      lines_counted kept,
      ap length none,
      none_fed bytes line,
    ))

-- ---- the reads of one child

pub reads_given : (child : ℕ) (kept bytes : List ℕ) (old new : Option (List Event))
    → lines_of kept ≡ [] → LogsGiven child [] bytes old new
    → LogReads child kept old new
reads_given child kept bytes old new none (events, gives, grows) =
    (events, gives.each, λ k below. still_part kept (spelled child silence (take k events)).heard none (gives.early k below), grows)

-- ---- one answer

-- what the log spells of a child was said with it
pub told_talk : {task : Task} {version : ℕ} {rs : List Request} {replies : List Entry} {child : ℕ} {kept : List ℕ}
    (talk : Option Talk) (events : List Event)
    → talk ≡ Some (spelled child silence events) → IfSome talk (IsTalk task version rs replies child kept)
    → IsTalk task version rs replies child kept (spelled child silence events)
told_talk {task} {version} {rs} {replies} {child} {kept} talk events is told =
    subst (λ o. IfSome o (IsTalk task version rs replies child kept)) is told

module _ (task : Task) (version : ℕ) (pools : List Workers) (rs : List Request) (replies : List Entry)
    (r : Request) (next : slice_get rs (length replies) ≡ Some r) (kept left : List ℕ) (past : List Event) where
  -- while the bytes kept and those that came make no line, no more lines were read than were taken
  pub reads_quiet : (events : List Event) → IsTalk task version rs replies r.child kept (spelled r.child silence past)
      → All (IsGiven r.child) events
      → lines_of (kept ++ (spelled r.child silence events).heard) ≡ []
      → lines_read r.child (past ++ events) ≤ count_to r.child (take (length replies) rs)
  reads_quiet events t each none =
      let piece = (spelled r.child silence events).heard in
      let spells : spelled r.child silence (past ++ events) ≡ heard_more piece (spelled r.child silence past) =
      spelled_join r.child silence past events ∙ spelled_reads r.child (spelled r.child silence past) events each in
      let lines : lines_of ((spelled r.child silence past).heard ++ piece) ≡ t.taken ++ lines_of (kept ++ piece) =
      (whole (spelled r.child silence past).heard t.taken kept t.cut).lines piece in
      let count : lines_read r.child (past ++ events) ≡ length (t.taken ++ lines_of (kept ++ piece)) =
      ap (λ (x : Talk). length (lines_of x.heard)) spells ∙ ap length lines in
      omega (arith, count, length-append t.taken (lines_of (kept ++ piece)), ap length none, t.many)

  pub reads_early : (events : List Event) → IsTalk task version rs replies r.child kept (spelled r.child silence past)
      → All (IsGiven r.child) events
      → ((k : ℕ) → k < length events → lines_of (kept ++ (spelled r.child silence (take k events)).heard) ≡ []) → (k : ℕ)
      → k < length events → lines_read r.child (past ++ take k events) ≤ count_to r.child (take (length replies) rs)
  reads_early events t each early k below =
      reads_quiet (take k events) t (All-take (IsGiven r.child) k events each) (early k below)

  reads_line : (events : List Event) (e : Entry)
      → IsTalk task version rs (replies ++ e ∷ []) r.child left (spelled r.child silence (past ++ events))
      → count_to r.child (take (length replies) rs) < lines_read r.child (past ++ events)
  reads_line events e t =
      let longer : length (replies ++ e ∷ []) ≡ length replies + 1 = length-append replies (e ∷ []) in
      let one : count_to r.child (take (length (replies ++ e ∷ [])) rs) ≡ count_to r.child (take (length replies) rs) + 1 =
      ap (λ n. count_to r.child (take n rs)) longer ∙ ap (count_to r.child) (next_taken rs (length replies) r next)
      ∙ count_own (take (length replies) rs) r r.child refl in
      omega (
        arith,
        ap length (all_lines task version rs (replies ++ e ∷ []) r.child left (spelled r.child silence (past ++ events)) t),
        length-append t.taken (lines_of left),
        t.many,
        one,
      )

-- the answer to the next request is heard
pub heard_log : (task : Task) (version : ℕ) (pools : List Workers) (before : List Entry) (e : Entry) (r : Request)
    (kept left : ℕ → List ℕ) (old new : ℕ → Option Talk) (was now : Option (List Event))
    → is_answer e ≡ true → slice_get (requests_of task pools before) (length (replies_of before)) ≡ Some r → IsOneOf pools r.child
    → Talks task version pools (requests_of task pools before) (replies_of before) kept old
    → Talks task version pools (requests_of task pools before) (replies_of before ++ e ∷ []) left new → SpellsTalk was r.child (old r.child)
    → SpellsTalk now r.child (new r.child) → LogReads r.child (kept r.child) was now → LogFollows task pools before (e ∷ []) was now
heard_log task version pools before e r kept left old new was now answer next one talks later spells_was spells_now
    (events, each, early, grows) =
    log_one task pools before e was now events grows (λ past is came. answer_calls task pools before e past events answer (record {
      request = r;
      next = next;
      reads = record {
        each = each;
        early = reads_early task version pools (requests_of task pools before) (replies_of before) r next (kept r.child) (left r.child) past
            events (told_talk (old r.child) past (subst (λ o. SpellsTalk o r.child (old r.child)) is spells_was) (talks.each r.child one)) each
            early;
      };
      line = reads_line task version pools (requests_of task pools before) (replies_of before) r next (kept r.child) (left r.child) past
          events e
          (told_talk (new r.child) (past ++ events) (subst (λ o. SpellsTalk o r.child (new r.child)) came spells_now) (later.each r.child one));
    }))

-- ---- one request

sent_log : (task : Task) (pools : List Workers) (before : List Entry) (e : Entry) (r : Request) (was now : Option (List Event))
    → requests_of task pools (before ++ e ∷ []) ≡ requests_of task pools before ++ r ∷ [] → AreAsks (e ∷ [])
    → LogsTaken r.child (text_of_request r) was now → LogFollows task pools before (e ∷ []) was now
sent_log task pools before e r was now grown asks (events, takes, grows) =
    log_one task pools before e was now events grows
    (λ past is came. ask_calls task pools before e r past events (asks 0 e refl) grown takes)

module _ (task : Task) (s : State) (place : ℕ) (kept : ℕ → List ℕ) (spoken : ℕ → Option Talk) (t : Slot)
    (at : slice_get s.slots place ≡ Some t) (e : Entry) (at_e : slice_get s.asks place ≡ Some e) (opened : s.is_open ≡ true)
    (h : IsSession task s) (k : IsTalking task s place 0 kept spoken) where
  -- the request at this place comes next
  pub sent_next : (r : (r : Request) × (slice_get (requests_of task s.pools s.asks) place ≡ Some r) × IsSlotOf task s.version s.pools r t)
      → requests_of task s.pools ((s.entries ++ take place s.asks) ++ e ∷ [])
      ≡ requests_of task s.pools (s.entries ++ take place s.asks) ++ r.0 ∷ []
  sent_next r =
      let asks = round_asks task s opened h in
      ap (requests_of task s.pools)
      (append_assoc s.entries (take place s.asks) (e ∷ []) ∙ ap (λ es. s.entries ++ es) (sym (next_taken s.asks place e at_e)))
      ∙ requests_sent task s.pools s.entries s.asks k.closed asks (place + 1)
      ∙ ap (λ rs. requests_of task s.pools s.entries ++ rs) (next_taken (requests_of task s.pools s.asks) place r.0 r.1)
      ∙ sym (append_assoc (requests_of task s.pools s.entries) (take place (requests_of task s.pools s.asks)) (r.0 ∷ []))
      ∙ ap (λ rs. rs ++ r.0 ∷ []) (sym (requests_sent task s.pools s.entries s.asks k.closed asks place))

  -- it is written
  pub sent_calls : (child : ℕ) (request : List ℕ) (was now : Option (List Event)) → child ≡ t.child
      → request ≡ t.request
      → LogsTaken child request was now → LogFollows task s.pools (s.entries ++ take place s.asks) (e ∷ []) was now
  sent_calls child request was now own same log =
      let r = request_at task s place kept spoken spoken t at k.slots in
      sent_log task s.pools (s.entries ++ take place s.asks) e r.0 was now
      (sent_next r) (λ j x at_x. one (round_asks task s opened h) j x at_x)
      (subst (λ c. LogsTaken c (text_of_request r.0) was now)
      (own ∙ r.2.child) (subst (λ bytes. LogsTaken child bytes was now) (same ∙ r.2.text) log))
    where
      one : AreAsks s.asks → AreAsks (e ∷ [])
      one asks zero x at_x = asks place x (at_e ∙ at_x)
      one asks (suc j) x at_x = absurd (cc)

-- ---- an answer of a round

module _ (task : Task) (s : State) (running : ℕ → Bool) (place : ℕ) (rolling : IsRolling s running (length s.slots) place)
    (within : place < length s.slots) (t : Slot) (at : slice_get s.slots place ≡ Some t) where
  -- the answer at this place is heard
  pub heard_calls : (new : State) (slots : List Slot) (failed : Bool) (kept left : ℕ → List ℕ) (old now : ℕ → Option Talk)
      (e : Entry) (child : ℕ) (was came : Option (List Event))
      → new ≡ with_slots s slots failed → IsSession task s → IsSession task new → IsTalking task s (length s.slots) place kept old
      → IsTalking task new (length new.slots) (place + 1) left now → slice_get (finished_round new.slots) place ≡ Some e
      → take place (finished_round new.slots) ≡ take place (finished_round s.slots) → child ≡ t.child → SpellsTalk was child (old child)
      → SpellsTalk came child (now child) → LogReads child (kept child) was came
      → LogFollows task s.pools (s.entries ++ s.asks ++ take place (finished_round s.slots)) (e ∷ []) was came
  heard_calls new slots failed kept left old now e child was came is h h_new k k_new at_e front own spells_was spells_came log =
      heard_log task s.version s.pools before e r.0 kept left old now was came
      (round_replies task new open_new h_new place e at_e) next r.2.one talks later
      (subst (λ c. SpellsTalk was c (old c)) same spells_was)
      (subst (λ c. SpellsTalk came c (now c)) same spells_came) (subst (λ c. LogReads c (kept c) was came) same log)
    where
      before : List Entry
      before = s.entries ++ s.asks ++ take place (finished_round s.slots)

      r : (r : Request) × (slice_get (requests_of task s.pools s.asks) place ≡ Some r) × IsSlotOf task s.version s.pools r t
      r = request_at task s place kept old old t at k.slots

      same : child ≡ r.0.child
      same = own ∙ r.2.child

      open_new : new.is_open ≡ true
      open_new = ap (λ (x : State). x.is_open) is ∙ rolling.begun

      asks : AreAsks s.asks
      asks = round_asks task s rolling.begun h

      each : AreReplies (take place (finished_round s.slots))
      each = front_each (finished_round s.slots) place (round_replies task s rolling.begun h)

      each_new : AreReplies (finished_round new.slots)
      each_new = round_replies task new open_new h_new

      next : slice_get (requests_of task s.pools before) (length (replies_of before)) ≡ Some r.0
      next = next_asked task s running place rolling within t at kept old h k

      talks : Talks task s.version s.pools (requests_of task s.pools before) (replies_of before) kept old
      talks = talks_at_heard task s place kept old rolling.begun h k

      moved : Talks task s.version s.pools (requests_of task s.pools (s.entries ++ s.asks ++ take (place + 1) (finished_round new.slots)))
          (replies_of (s.entries ++ s.asks ++ take (place + 1) (finished_round new.slots))) left now
      moved = subst (λ (x : State).
          Talks task x.version x.pools (requests_of task x.pools (x.entries ++ x.asks ++ take (place + 1) (finished_round new.slots)))
          (replies_of (x.entries ++ x.asks ++ take (place + 1) (finished_round new.slots))) left now) is
          (talks_at_heard task new (place + 1) left now open_new h_new k_new)

      printed : take (place + 1) (finished_round new.slots) ≡ take place (finished_round s.slots) ++ e ∷ []
      printed = next_taken (finished_round new.slots) place e at_e ∙ ap (λ es. es ++ e ∷ []) front

      requests : requests_of task s.pools (s.entries ++ s.asks ++ take (place + 1) (finished_round new.slots)) ≡ requests_of task s.pools before
      requests =
          requests_heard task s.pools s.entries s.asks k.closed asks
          (take (place + 1) (finished_round new.slots)) (front_each (finished_round new.slots) (place + 1) each_new)
          ∙ sym (requests_heard task s.pools s.entries s.asks k.closed asks (take place (finished_round s.slots)) each)

      replies : replies_of (s.entries ++ s.asks ++ take (place + 1) (finished_round new.slots)) ≡ replies_of before ++ e ∷ []
      replies =
          replies_heard task s.pools s.entries s.asks k.closed asks
          (take (place + 1) (finished_round new.slots)) (front_each (finished_round new.slots) (place + 1) each_new)
          ∙ ap (λ es. replies_of s.entries ++ es) printed
          ∙ sym (append_assoc (replies_of s.entries) (take place (finished_round s.slots)) (e ∷ []))
          ∙ ap (λ es. es ++ e ∷ []) (sym (replies_heard task s.pools s.entries s.asks k.closed asks (take place (finished_round s.slots)) each))

      later : Talks task s.version s.pools (requests_of task s.pools before) (replies_of before ++ e ∷ []) left now
      later = subst (λ rs. Talks task s.version s.pools rs (replies_of before ++ e ∷ []) left now) requests
          (subst (λ es. Talks task s.version s.pools
          (requests_of task s.pools (s.entries ++ s.asks ++ take (place + 1) (finished_round new.slots))) es left now) replies moved)

-- ---- a whole round

pub round_order : (task : Task) (s b m x : State) (dues : List Due) (old mid new : Option (List Event))
    → b ≡ round_begun task s dues
    → IsSameRound b m → IsSameRound m x → finished_round x.slots ≡ answers_of x.slots → AddsCalls task b.pools b.entries (b.entries ++ b.asks) old mid
    → AddsCalls task m.pools (m.entries ++ m.asks) (m.entries ++ m.asks ++ finished_round x.slots) mid new
    → AddsCalls task s.pools s.entries (x.entries ++ x.asks ++ answers_of x.slots) old new
round_order task s b m x dues old mid new starts first second all sent heard =
    subst (λ es. AddsCalls task s.pools s.entries es old new) (sym entries_are)
    (calls_then task s.pools s.entries (s.entries ++ (round_begun task s dues).asks)
    (s.entries ++ (round_begun task s dues).asks ++ finished_round x.slots) old mid new
    (subst (λ (y : State). AddsCalls task y.pools y.entries (y.entries ++ y.asks) old mid) starts sent)
    (subst (λ (y : State). AddsCalls task y.pools (y.entries ++ y.asks) (y.entries ++ y.asks ++ finished_round x.slots) mid new) m_is heard))
  where
    m_is : m ≡ with_slots (round_begun task s dues) m.slots m.failed
    m_is = first ∙ ap (λ (y : State). with_slots y m.slots m.failed) starts

    x_is : x ≡ with_slots (round_begun task s dues) x.slots x.failed
    x_is = second ∙ ap (λ (y : State). with_slots y x.slots x.failed) m_is

    entries_are : x.entries ++ x.asks ++ answers_of x.slots ≡ s.entries ++ (round_begun task s dues).asks ++ finished_round x.slots
    entries_are =
        ap (λ es. x.entries ++ x.asks ++ es) (sym all)
        ∙ ap (λ (y : State). y.entries ++ y.asks ++ finished_round x.slots) x_is
