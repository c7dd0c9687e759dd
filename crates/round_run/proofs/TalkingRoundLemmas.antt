-- What was said in a round.
use Rattle.std.proofs.Common.{◌≡◌, ℕ, zero, suc, ◌+◌, ◌<◌, arith, Bool, true, false, List, [], ◌∷◌, ◌++◌, map, length, take, Option, Some, None, refl, sym, subst, ap, ◌∙◌, append_assoc, slice_get, option_map, IfSome, unwrap_or}
use Rattle.std.proofs.Math.Seq.{take-length}
use Rattle.std.proofs.lemmas.List.{append-nil, length-append, length-map}
use Rattle.std.proofs.lemmas.Option.{slice_get_within, slice_get-map}
use Rattle.gen_lines.specs.Reply as reply
use Rattle.gen_lines.specs.Reply.{Reply, reply_of}
use Rattle.instance_queue.specs.Level.{due_instances}
use Rattle.instance_queue.specs.declared.due.Due.{Due}
use Rattle.io_world.specs.Talks.{Talk, Writes}
use Rattle.session_core.proofs.RoundBeginLemmas.{child_served}
use Rattle.session_core.proofs.SlotsLemmas.{at_own, at_other}
use Rattle.session_core.specs.Session.{IsSession, AreSlotsFor, MayBeginRound, round_begun}
use Rattle.session_core.specs.Slots.{Slot, answers_of, asks_from, at_child, replied_entry, is_slot_of, sent_slot, slots_from}
use Rattle.session_core.specs.State.{State, after_sent, with_slots}
use Rattle.pools.specs.Pools.{Workers}
use Rattle.lemmas.proofs.Members.{from_take, member_at, next_taken}
use Rattle.lemmas.proofs.ListTests.{get_there}
use Rattle.task_model.specs.declared.task.Task.{Task}
use Rattle.transcript_model.specs.Legal.{IsLegal, is_answer}
use Rattle.transcript_model.specs.Rounds.{IsRound}
use Rattle.transcript_model.specs.declared.entry.Entry.{Entry}
use Rattle.transcript_model.specs.declared.entry.Entry.TheVariants as entry
use Rattle.round_run.proofs.DialogueRequestLemmas.{AreAsks, AreReplies, all_replies, asks_are, closed_by, last_join, no_replies, no_requests, replies_join, requests_front, requests_join, requests_long, slots_ask}
use Rattle.round_run.proofs.RollingPrintLemmas.{asks_legal, front_asks as asks_front, one_more, round_legal}
use Rattle.round_run.proofs.RollingEndLemmas.{as_long}
use Rattle.round_run.proofs.DialogueLemmas.{talks_sent}
use Rattle.round_run.proofs.DialogueEndLemmas.{broken_one, dialogue_of}
use Rattle.round_run.specs.Dialogue.{BrokenOff, Dialogue, IsOneOf, Request, last_round, replies_of, requests_after, requests_of, text_of_request}
use Rattle.round_run.specs.Rolling.{IsFrontPart, finished_round}
use Rattle.round_run.specs.Stops.{MayHear}
use Rattle.round_run.specs.Talking.{AreSlotsOf, IsSlotOf, IsTalk, IsTalking, IsTold, Talks}
use Rattle.round_run.specs.Batches.{AllRun}
use Rattle.round_run.specs.declared.fault.RunFault.{RunFault}

-- ---- the requests and the answers of a round, as entries

pub round_asks : (task : Task) (s : State) → s.is_open ≡ true → IsSession task s → AreAsks s.asks
round_asks task s opened h =
    let r = h.round opened in subst AreAsks (sym r.asks) (asks_are task _ (length s.asked + 1) r.dues)

says_reply : (n : ℕ) (r : Reply) (e : Entry) → replied_entry n r ≡ Some e → is_answer e ≡ true
says_reply n (reply.yields tuples values) e is =
    let same : entry.Got n tuples values ≡ e = cc in ap is_answer (sym same)
says_reply n (reply.number value) e is =
    let same : entry.Value n value ≡ e = cc in ap is_answer (sym same)
says_reply n reply.ends e is = let same : entry.End n ≡ e = cc in ap is_answer (sym same)
says_reply n (reply.bad why) e is = absurd (cc)

finished_each : (task : Task) (version n : ℕ) (dues : List Due) (slots : List Slot)
    → AreSlotsFor task version n dues slots
    → AreReplies (finished_round slots)
finished_each task version n [] [] h k e at = absurd (cc)
finished_each task version n [] (t ∷ ts) h k e at = absurd h
finished_each task version n (d ∷ ds) [] h k e at = absurd h
finished_each task version n (d ∷ ds) (t ∷ ts) h zero e at =
    by t.answer refl (let same : unwrap_or t.answer (entry.End t.number) ≡ e = cc in same)
  where
    by : (o : Option Entry) → t.answer ≡ o → unwrap_or t.answer (entry.End t.number) ≡ e
        → is_answer e ≡ true
    by None is same = ap is_answer (sym same ∙ ap (λ o. unwrap_or o (entry.End t.number)) is)
    by (Some x) is same =
        let f = h.0.right x is in
        ap is_answer (sym same ∙ ap (λ o. unwrap_or o (entry.End t.number)) is) ∙ says_reply t.number (reply_of f.0 t.wanted) x f.1
finished_each task version n (d ∷ ds) (t ∷ ts) h (suc k) e at =
    finished_each task version (n + 1) ds ts h.1 k e at

pub round_replies : (task : Task) (s : State) → s.is_open ≡ true → IsSession task s
    → AreReplies (finished_round s.slots)
round_replies task s opened h = let r = h.round opened in finished_each task s.version (length s.asked + 1) r.dues s.slots r.slots

pub front_each : (es : List Entry) (n : ℕ) → AreReplies es → AreReplies (take n es)
front_each es n each k e at = each k e (from_take es n k e at).1

front_asks : (es : List Entry) (n : ℕ) → AreAsks es → AreAsks (take n es)
front_asks es n each k e at = each k e (from_take es n k e at).1

-- ---- what is printed of a round

module _ (task : Task) (pools : List Workers) (es asks : List Entry) (closed : last_round task [] es ≡ []) (all : AreAsks asks) where
  -- so many requests
  pub requests_sent : (n : ℕ)
      → requests_of task pools (es ++ take n asks) ≡ requests_of task pools es ++ take n (requests_of task pools asks)
  requests_sent n =
      requests_join task pools [] es (take n asks)
      ∙ ap (λ round. requests_of task pools es ++ requests_after task pools round (take n asks)) closed
      ∙ ap (λ rs. requests_of task pools es ++ rs) (requests_front task pools [] asks n all)

  pub replies_sent : (n : ℕ) → replies_of (es ++ take n asks) ≡ replies_of es ++ []
  replies_sent n =
      replies_join es (take n asks)
      ∙ ap (λ xs. replies_of es ++ xs) (no_replies (take n asks) (front_asks asks n all))

  -- all requests, and these answers
  module _ (answers : List Entry) (each : AreReplies answers) where
    pub requests_heard : requests_of task pools (es ++ asks ++ answers) ≡ requests_of task pools es ++ requests_of task pools asks
    requests_heard =
        requests_join task pools [] (es ++ asks) answers
        ∙ ap (λ rs. requests_of task pools (es ++ asks) ++ rs) (no_requests task pools (last_round task [] (es ++ asks)) answers each)
        ∙ append-nil (requests_of task pools (es ++ asks))
        ∙ requests_join task pools [] es asks
        ∙ ap (λ round. requests_of task pools es ++ requests_after task pools round asks) closed

    pub replies_heard : replies_of (es ++ asks ++ answers) ≡ replies_of es ++ answers
    replies_heard =
        replies_join (es ++ asks) answers
        ∙ ap (λ xs. replies_of (es ++ asks) ++ xs) (all_replies answers each)
        ∙ ap (λ xs. xs ++ answers)
        (replies_join es asks ∙ ap (λ xs. replies_of es ++ xs) (no_replies asks all) ∙ append-nil (replies_of es))

    pub closed_heard : length answers ≡ length asks
        → last_round task [] (es ++ asks ++ answers) ≡ []
    closed_heard same = last_join task [] (es ++ asks) answers ∙ by asks refl answers refl same
      where
        by : (xs : List Entry) → asks ≡ xs → (ys : List Entry) → answers ≡ ys
            → length answers ≡ length asks
            → last_round task (last_round task [] (es ++ asks)) answers ≡ []
        by xs is_xs (y ∷ ys) is same =
            closed_by task (last_round task [] (es ++ asks)) answers each (subst (λ zs. 0 < length zs) (sym is) (omega arith))
        by [] is_xs [] is same =
            ap (λ zs. last_round task (last_round task [] (es ++ asks)) zs) is ∙ ap (λ zs. last_round task [] (es ++ zs)) is_xs
            ∙ ap (last_round task []) (append-nil es) ∙ closed
        by (x ∷ xs) is_xs [] is same =
            absurd (omega (arith, sym (ap length is) ∙ same ∙ ap length is_xs))

-- what was said when so much of the round is printed
pub talks_at_sent : (task : Task) (s : State) (place : ℕ) (kept : ℕ → List ℕ) (spoken : ℕ → Option Talk)
    → s.is_open ≡ true
    → IsSession task s → IsTalking task s place 0 kept spoken
    → Talks task s.version s.pools (requests_of task s.pools (s.entries ++ take place s.asks))
    (replies_of (s.entries ++ take place s.asks)) kept spoken
talks_at_sent task s place kept spoken opened h t =
    let asks = round_asks task s opened h in
    subst (λ rs. Talks task s.version s.pools rs (replies_of (s.entries ++ take place s.asks)) kept spoken)
    (sym (requests_sent task s.pools s.entries s.asks t.closed asks place))
    (subst (λ es. Talks task s.version s.pools
    (requests_of task s.pools s.entries ++ take place (requests_of task s.pools s.asks)) es kept spoken)
    (sym (replies_sent task s.pools s.entries s.asks t.closed asks place)) t.talks)

pub all_taken : {A : Type 0} (n : ℕ) (xs : List A) → length xs ≡ n → take n xs ≡ xs
all_taken n xs e = ap (λ m. take m xs) (sym e) ∙ take-length xs

pub talks_at_heard : (task : Task) (s : State) (place : ℕ) (kept : ℕ → List ℕ) (spoken : ℕ → Option Talk)
    → s.is_open ≡ true
    → IsSession task s → IsTalking task s (length s.slots) place kept spoken
    → Talks task s.version s.pools (requests_of task s.pools (s.entries ++ s.asks ++ take place (finished_round s.slots)))
    (replies_of (s.entries ++ s.asks ++ take place (finished_round s.slots))) kept spoken
talks_at_heard task s place kept spoken opened h t =
    let asks = round_asks task s opened h in
    let each = front_each (finished_round s.slots) place (round_replies task s opened h) in
    subst (λ rs. Talks task s.version s.pools rs (replies_of (s.entries ++ s.asks ++ take place (finished_round s.slots))) kept spoken)
    (sym (requests_heard task s.pools s.entries s.asks t.closed asks (take place (finished_round s.slots)) each))
    (subst (λ es. Talks task s.version s.pools (requests_of task s.pools s.entries ++ requests_of task s.pools s.asks) es kept spoken)
    (sym (replies_heard task s.pools s.entries s.asks t.closed asks (take place (finished_round s.slots)) each))
    (subst (λ rs. Talks task s.version s.pools
    (requests_of task s.pools s.entries ++ rs) (replies_of s.entries ++ take place (finished_round s.slots)) kept spoken)
    (all_taken (length s.slots) (requests_of task s.pools s.asks) t.slots.many) t.talks))

-- ---- a round that is begun

pub talking_begun : (task : Task) (s : State) (dues : List Due) (running : ℕ → Bool) (kept : ℕ → List ℕ) (spoken : ℕ → Option Talk)
    → s.failed ≡ false → MayBeginRound task s dues → IsSession task s → AllRun s.pools running
    → IsTold task s.version s.pools s.entries running kept spoken → IsTalking task (round_begun task s dues) 0 0 kept spoken
talking_begun task s dues running kept spoken works may h all told = record {
  closed = told.closed;
  even = told.even;
  slots = record {
    many =
        requests_long task s.pools [] (asks_from task s.known.names (length s.asked + 1) dues)
        (asks_are task s.known.names (length s.asked + 1) dues)
        ∙ as_long task s.known.names s.version s.pools (length s.asked + 1) [] dues;
    each = slots_ask task s.known.names s.version s.pools h.fit (length s.asked + 1) [] dues within served;
  };
  talks =
      subst (λ rs. Talks task s.version s.pools rs (replies_of s.entries ++ []) kept spoken)
      (sym (append-nil (requests_of task s.pools s.entries)))
      (subst (λ es. Talks task s.version s.pools (requests_of task s.pools s.entries) es kept spoken)
      (sym (append-nil (replies_of s.entries))) (record {
        few = omega (arith, told.even);
        each = λ child is. told.each child is (all is.place child is.pool is.at is.has);
      }));
}
  where
    within : (k : ℕ) (d : Due) → slice_get dues k ≡ Some d → d.instance.stream < length task.streams
    within k d at =
        let due = may.askable.due d.instance (member_at (due_instances dues) k d.instance
        (slice_get-map (λ (u : Due). u.instance) dues k ∙ ap (option_map (λ (u : Due). u.instance)) at)) in
        slice_get_within task.streams d.instance.stream due.stream due.named

    served : (k : ℕ) (t : Slot)
        → slice_get (slots_from task s.known.names s.version s.pools (length s.asked + 1) [] dues) k ≡ Some t
        → IsOneOf s.pools t.child
    served k t at =
        let p = child_served task s dues works may h s.known.names s.version (length s.asked + 1) k t.child
        (slice_get-map (λ (v : Slot). v.child) (slots_from task s.known.names s.version s.pools (length s.asked + 1) [] dues) k
        ∙ ap (option_map (λ (v : Slot). v.child)) at) in
        record { place = p.0; pool = p.1; at = p.2; has = p.3 }

-- ---- one request more

-- a change of slots that keeps what they ask
module _ (f : Slot → Slot) (child_same : (t : Slot) → (f t).child ≡ t.child) (number_same : (t : Slot) → (f t).number ≡ t.number)
    (text_same : (t : Slot) → (f t).request ≡ t.request) (wanted_same : (t : Slot) → (f t).wanted ≡ t.wanted) where
  asks_still : (task : Task) (version : ℕ) (pools : List Workers) (r : Request) (child : ℕ) (t : Slot)
      → IsSlotOf task version pools r t
      → IsSlotOf task version pools r (at_child child f t)
  asks_still task version pools r child t i = by (is_slot_of child t) refl
    where
      by : (b : Bool) → is_slot_of child t ≡ b → IsSlotOf task version pools r (at_child child f t)
      by true e =
          subst (IsSlotOf task version pools r) (sym (at_own child f t e))
          (record {
            one = i.one;
            child = child_same t ∙ i.child;
            number = number_same t ∙ i.number;
            text = text_same t ∙ i.text;
            wanted = wanted_same t ∙ i.wanted;
          })
      by false e = subst (IsSlotOf task version pools r) (sym (at_other child f t e)) i

  pub slots_still : (task : Task) (s : State) (child : ℕ) (failed : Bool) → AreSlotsOf task s
      → AreSlotsOf task (with_slots s (map (at_child child f) s.slots) failed)
  slots_still task s child failed a = record {
    many = a.many ∙ sym (length-map s.slots (at_child child f));
    each = λ k r t at_r at_t. by k r t at_r (slice_get s.slots k) refl (sym (slice_get-map (at_child child f) s.slots k) ∙ at_t);
  }
    where
      by : (k : ℕ) (r : Request) (t : Slot) → slice_get (requests_of task s.pools s.asks) k ≡ Some r
          → (o : Option Slot)
          → slice_get s.slots k ≡ o → option_map (at_child child f) o ≡ Some t → IsSlotOf task s.version s.pools r t
      by k r t at_r None is e = absurd (cc)
      by k r t at_r (Some u) is e =
          let same : at_child child f u ≡ t = cc in
          subst (IsSlotOf task s.version s.pools r) same (asks_still task s.version s.pools r child u (a.each k r u at_r is))

module _ (task : Task) (s : State) (place : ℕ) (kept : ℕ → List ℕ) (old new : ℕ → Option Talk)
    (t : Slot) (at : slice_get s.slots place ≡ Some t) where
  -- the request of this place
  pub request_at : (a : AreSlotsOf task s)
      → (r : Request) × (slice_get (requests_of task s.pools s.asks) place ≡ Some r) × IsSlotOf task s.version s.pools r t
  request_at a =
      let f = get_there (requests_of task s.pools s.asks) place (omega (arith, a.many, slice_get_within s.slots place t at)) in
      (f.0, f.1, a.each place f.0 t f.1 at)

  pub talking_sent : IsTalking task s place 0 kept old → Writes t.child t.request old new
      → IsTalking task (after_sent s t.child) (place + 1) 0 kept new
  talking_sent k w =
      let r = request_at k.slots in
      let writes : Writes r.0.child (text_of_request r.0) old new =
      subst (λ c. Writes c (text_of_request r.0) old new) r.2.child (subst (λ bytes. Writes t.child bytes old new) r.2.text w) in
      record {
        closed = k.closed;
        even = k.even;
        slots = slots_still sent_slot (λ u. refl) (λ u. refl) (λ u. refl) (λ u. refl) task s t.child s.failed k.slots;
        talks = subst (λ rs. Talks task s.version s.pools rs (replies_of s.entries ++ []) kept new)
            (append_assoc (requests_of task s.pools s.entries) (take place (requests_of task s.pools s.asks)) (r.0 ∷ [])
            ∙ ap (λ rs. requests_of task s.pools s.entries ++ rs) (sym (next_taken (requests_of task s.pools s.asks) place r.0 r.1)))
            (talks_sent task s.version s.pools (requests_of task s.pools s.entries ++ take place (requests_of task s.pools s.asks))
            (replies_of s.entries ++ []) old new kept r.0 k.talks writes);
      }

  -- the request was written in part, or is not printed
  pub broken_sending : (Front : List Entry → Type 0) (fault : RunFault) (e : Entry) (n : ℕ) → MayHear fault → s.is_open ≡ true
      → IsSession task s → slice_get s.asks place ≡ Some e
      → IsLegal s.version task ((s.entries ++ take place s.asks) ++ e ∷ []) → Front ((s.entries ++ take place s.asks) ++ e ∷ [])
      → IsTalking task s place 0 kept old → Writes t.child (take n t.request) old new
      → BrokenOff task s.version s.pools Front fault (s.entries ++ take place s.asks) new
  broken_sending Front fault e n may opened h at_e legal front k w =
      let r = request_at k.slots in
      let asks = round_asks task s opened h in
      let writes : Writes r.0.child (take n (text_of_request r.0)) old new =
      subst (λ c. Writes c (take n (text_of_request r.0)) old new) r.2.child
      (subst (λ bytes. Writes t.child (take n bytes) old new) r.2.text w) in
      broken_one task s.version s.pools Front fault (s.entries ++ take place s.asks) e r.0 n kept old new may legal front
      (grown r asks) writes (talks_at_sent task s place kept old opened h k)
    where
      grown : (r : (r : Request) × (slice_get (requests_of task s.pools s.asks) place ≡ Some r) × IsSlotOf task s.version s.pools r t)
          → AreAsks s.asks
          → requests_of task s.pools ((s.entries ++ take place s.asks) ++ e ∷ [])
          ≡ requests_of task s.pools (s.entries ++ take place s.asks) ++ r.0 ∷ []
      grown r asks =
          ap (requests_of task s.pools)
          (append_assoc s.entries (take place s.asks) (e ∷ []) ∙ ap (λ es. s.entries ++ es) (sym (next_taken s.asks place e at_e)))
          ∙ requests_sent task s.pools s.entries s.asks k.closed asks (place + 1)
          ∙ ap (λ rs. requests_of task s.pools s.entries ++ rs) (next_taken (requests_of task s.pools s.asks) place r.0 r.1)
          ∙ sym (append_assoc (requests_of task s.pools s.entries) (take place (requests_of task s.pools s.asks)) (r.0 ∷ []))
          ∙ ap (λ rs. rs ++ r.0 ∷ []) (sym (requests_sent task s.pools s.entries s.asks k.closed asks place))

-- ---- a round that is answered

pub told_closed : (task : Task) (x : State) (count : ℕ) (running : ℕ → Bool) (kept : ℕ → List ℕ) (spoken : ℕ → Option Talk)
    → x.is_open ≡ true → IsSession task x → count ≡ length x.slots → length x.asks ≡ length x.slots → finished_round x.slots ≡ answers_of x.slots
    → ((k : ℕ) → running k ≡ false → kept k ≡ []) → IsTalking task x count count kept spoken
    → IsTold task x.version x.pools (x.entries ++ x.asks ++ answers_of x.slots) running kept spoken
told_closed task x count running kept spoken opened h is asks_long all idle k =
    subst (λ es. IsTold task x.version x.pools (x.entries ++ x.asks ++ es) running kept spoken) all (record {
      closed = closed_heard task x.pools x.entries x.asks k.closed asks (finished_round x.slots) each (long ∙ sym asks_long);
      even =
          ap length replies ∙ length-append (replies_of x.entries) (finished_round x.slots) ∙ (λ i. k.even i + (long ∙ sym k.slots.many) i)
          ∙ sym (length-append (requests_of task x.pools x.entries) (requests_of task x.pools x.asks)) ∙ ap length (sym requests);
      idle = idle;
      each = λ child one runs.
          subst (λ rs. IfSome (spoken child)
          (IsTalk task x.version rs (replies_of (x.entries ++ x.asks ++ finished_round x.slots)) child (kept child))) (sym requests)
          (subst (λ es. IfSome (spoken child)
          (IsTalk task x.version (requests_of task x.pools x.entries ++ requests_of task x.pools x.asks) es child (kept child)))
          (sym replies) (talks.each child one));
    })
  where
    asks : AreAsks x.asks
    asks = round_asks task x opened h

    each : AreReplies (finished_round x.slots)
    each = round_replies task x opened h

    long : length (finished_round x.slots) ≡ length x.slots
    long = length-map x.slots (λ (v : Slot). unwrap_or v.answer (entry.End v.number))

    requests : requests_of task x.pools (x.entries ++ x.asks ++ finished_round x.slots)
        ≡ requests_of task x.pools x.entries ++ requests_of task x.pools x.asks
    requests = requests_heard task x.pools x.entries x.asks k.closed asks (finished_round x.slots) each

    replies : replies_of (x.entries ++ x.asks ++ finished_round x.slots) ≡ replies_of x.entries ++ finished_round x.slots
    replies = replies_heard task x.pools x.entries x.asks k.closed asks (finished_round x.slots) each

    talks : Talks task x.version x.pools (requests_of task x.pools x.entries ++ requests_of task x.pools x.asks)
        (replies_of x.entries ++ finished_round x.slots) kept spoken
    talks =
        subst (λ rs. Talks task x.version x.pools (requests_of task x.pools x.entries ++ rs)
        (replies_of x.entries ++ finished_round x.slots) kept spoken)
        (all_taken count (requests_of task x.pools x.asks) (k.slots.many ∙ sym is))
        (subst (λ es. Talks task x.version x.pools
        (requests_of task x.pools x.entries ++ take count (requests_of task x.pools x.asks)) (replies_of x.entries ++ es) kept spoken)
        (all_taken count (finished_round x.slots) (long ∙ sym is)) k.talks)

-- ---- one request, as its function has it

pub talking_sent_by : (task : Task) (s : State) (place : ℕ) (kept : ℕ → List ℕ) (old new : ℕ → Option Talk) (t : Slot)
    → slice_get s.slots place ≡ Some t → IsTalking task s place 0 kept old → (child : ℕ) (request : List ℕ) → child ≡ t.child
    → request ≡ t.request → Writes child request old new → IsTalking task (after_sent s t.child) (place + 1) 0 kept new
talking_sent_by task s place kept old new t at k child request own same w =
    talking_sent task s place kept old new t at k
    (subst (λ c. Writes c t.request old new) own (subst (λ bytes. Writes child bytes old new) same w))

module _ (task : Task) (s : State) (place : ℕ) (kept : ℕ → List ℕ) (old new : ℕ → Option Talk) (t : Slot)
    (at : slice_get s.slots place ≡ Some t) (e : Entry) (at_e : slice_get s.asks place ≡ Some e) (opened : s.is_open ≡ true)
    (h : IsSession task s) (k : IsTalking task s place 0 kept old) where
  -- the requests up to this one are legal
  pub next_legal : IsLegal s.version task ((s.entries ++ take place s.asks) ++ e ∷ [])
  next_legal =
      subst (IsLegal s.version task) (one_more s.entries s.asks place e at_e)
      (asks_legal s.version task s.entries s.asks (finished_round s.slots) (place + 1) (round_legal task s opened h))

  -- with it they are a front of the round
  pub next_front : IsFrontPart s.entries (IsRound task s.entries s.instances) ((s.entries ++ take place s.asks) ++ e ∷ [])
  next_front =
      subst (IsFrontPart s.entries (IsRound task s.entries s.instances)) (one_more s.entries s.asks place e at_e)
      (asks_front task s (place + 1) opened h)

  pub broken_part : (fault : RunFault) (child : ℕ) (request : List ℕ) (n : ℕ) → MayHear fault → child ≡ t.child
      → request ≡ t.request → Writes child (take n request) old new
      → BrokenOff task s.version s.pools (IsFrontPart s.entries (IsRound task s.entries s.instances)) fault
      (s.entries ++ take place s.asks) new
  broken_part fault child request n may own same w =
      broken_sending task s place kept old new t at (IsFrontPart s.entries (IsRound task s.entries s.instances)) fault e n may opened h
      at_e next_legal next_front k
      (subst (λ c. Writes c (take n t.request) old new) own (subst (λ bytes. Writes child (take n bytes) old new) same w))

  pub dialogue_after : (child : ℕ) (request : List ℕ) → child ≡ t.child → request ≡ t.request
      → Writes child request old new
      → IsSession task (after_sent s t.child) → Dialogue task s.version s.pools ((s.entries ++ take place s.asks) ++ e ∷ []) new
  dialogue_after child request own same w h_after =
      dialogue_of task s.version s.pools ((s.entries ++ take place s.asks) ++ e ∷ []) new kept
      (subst (λ es. Talks task s.version s.pools (requests_of task s.pools es) (replies_of es) kept new)
      (one_more s.entries s.asks place e at_e)
      (talks_at_sent task (after_sent s t.child)
      (place + 1) kept new opened h_after (talking_sent_by task s place kept old new t at k child request own same w)))
