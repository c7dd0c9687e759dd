-- One answer more in a round that is talked.
use Rattle.std.proofs.Common.{◌≡◌, ◌≢◌, ℕ, ◌+◌, ◌<◌, arith, Bool, true, false, List, [], ◌∷◌, ◌++◌, map, length, take, Option, Some, refl, sym, subst, ap, ◌∙◌, append_assoc, inl, inr, ◌⊎◌, slice_get, option_map, unwrap_or, eq-eqb}
use Rattle.std.proofs.lemmas.List.{length-append, length-map, length-take-le}
use Rattle.std.proofs.lemmas.Option.{slice_get-map}
use Rattle.std.specs.List.{after_first}
use Rattle.gen_lines.specs.Lines.{IsFirstShort, is_feed, lines_of}
use Rattle.gen_lines.specs.Reply as reply
use Rattle.gen_lines.specs.Reply.{Reply, reply_of}
use Rattle.gen_lines.specs.declared.answer.Why.{Why}
use Rattle.gen_lines.specs.declared.answer.Why.TheVariants.{TooLong}
use Rattle.io_world.specs.Talks.{Talk, Hears}
use Rattle.session_core.proofs.SlotsLemmas.{at_own, own_slot}
use Rattle.session_core.specs.Heard.{heard_at, heard_by, is_bad_at, number_at}
use Rattle.session_core.specs.Session.{IsSession}
use Rattle.session_core.specs.Slots.{Slot, at_child, replied_entry, reply_fault, heard_slot, reply_to}
use Rattle.session_core.specs.State.{State, after_line}
use Rattle.session_core.specs.declared.fault.Heard.TheVariants as heard
use Rattle.lemmas.proofs.Members.{get_behind, next_taken}
use Rattle.task_model.specs.declared.task.Task.{Task}
use Rattle.transcript_model.specs.Legal.{IsLegal, is_open}
use Rattle.transcript_model.specs.declared.entry.Entry.{Entry}
use Rattle.transcript_model.specs.declared.entry.Entry.TheVariants as entry
use Rattle.round_run.proofs.RollingLemmas.{answered_now, blamed_there, front_same, number_is, printed_there, was_some}
use Rattle.round_run.proofs.DialogueLemmas.{talks_heard, talks_more, with_more}
use Rattle.round_run.proofs.DialogueEndLemmas.{bad_line, dialogue_of}
use Rattle.round_run.proofs.StoppedLemmas.{MayBlame}
use Rattle.round_run.specs.Dialogue.{Dialogue, HasBadLine, Request, replies_of, requests_of, wanted_by}
use Rattle.round_run.specs.Rolling.{IsRolling, finished_round}
use Rattle.round_run.specs.Talking.{IsBadFirst, IsBlamed, IsSlotOf, IsTalking, Misheard, TakesAnswer, Talks}
use Rattle.round_run.specs.declared.fault.RunFault.{RunFault}
use Rattle.round_run.specs.declared.fault.RunFault.TheVariants.{Answer, Generator, Write, Memory}
use Rattle.round_run.proofs.TalkingRoundLemmas.{all_taken, front_each, replies_heard, request_at, requests_heard, round_asks, round_replies, slots_still, talks_at_heard}

-- ---- one answer more

-- how many answers are printed
printed_many : (slots : List Slot) (place : ℕ) → place < length slots
    → length (take place (finished_round slots)) ≡ place
printed_many slots place within =
    length-take-le place (finished_round slots) (omega (arith, within, length-map slots (λ (v : Slot). unwrap_or v.answer (entry.End v.number))))

module _ (task : Task) (s : State) (running : ℕ → Bool) (place : ℕ) (r : IsRolling s running (length s.slots) place)
    (within : place < length s.slots) (t : Slot) (at : slice_get s.slots place ≡ Some t) where
  -- the request that is answered next
  next_is : (a : List Request) (b : List Entry) (q : Request) → length b ≡ length a
      → slice_get (requests_of task s.pools s.asks) place ≡ Some q
      → slice_get (a ++ requests_of task s.pools s.asks) (length (b ++ take place (finished_round s.slots))) ≡ Some q
  next_is a b q even at_q =
      ap (slice_get (a ++ requests_of task s.pools s.asks))
      (length-append b (take place (finished_round s.slots)) ∙ (λ i. even i + printed_many s.slots place within i))
      ∙ get_behind a (requests_of task s.pools s.asks) place q at_q

  -- it stands behind the answers that are printed
  pub next_asked : (kept : ℕ → List ℕ) (old : ℕ → Option Talk) → IsSession task s
      → (k : IsTalking task s (length s.slots) place kept old)
      → slice_get (requests_of task s.pools (s.entries ++ s.asks ++ take place (finished_round s.slots)))
      (length (replies_of (s.entries ++ s.asks ++ take place (finished_round s.slots))))
      ≡ Some (request_at task s place kept old old t at k.slots).0
  next_asked kept old h k =
      let asks = round_asks task s r.begun h in
      let each = front_each (finished_round s.slots) place (round_replies task s r.begun h) in
      let q = request_at task s place kept old old t at k.slots in
      (λ i. slice_get (requests_heard task s.pools s.entries s.asks k.closed asks (take place (finished_round s.slots)) each i)
      (length (replies_heard task s.pools s.entries s.asks k.closed asks (take place (finished_round s.slots)) each i)))
      ∙ next_is (requests_of task s.pools s.entries) (replies_of s.entries) q.0 k.even q.1

  module _ (line : List ℕ) (good : is_bad_at s.slots t.child line ≡ false) where
    answer_is : (e : Entry) × (replied_entry t.number (reply_to line t) ≡ Some e)
    answer_is = was_some (heard_slot line t).answer (answered_now s running (length s.slots) place r within t at line good)

    heard_there : slice_get (map (at_child t.child (heard_slot line)) s.slots) place ≡ Some (heard_slot line t)
    heard_there =
        slice_get-map (at_child t.child (heard_slot line)) s.slots place ∙ ap (option_map (at_child t.child (heard_slot line))) at
        ∙ ap Some (at_own t.child (heard_slot line) t (eq-eqb t.child t.child refl))

    printed_next : take (place + 1) (finished_round (map (at_child t.child (heard_slot line)) s.slots))
        ≡ take place (finished_round s.slots) ++ answer_is.0 ∷ []
    printed_next =
        next_taken (finished_round (map (at_child t.child (heard_slot line)) s.slots)) place answer_is.0
        (printed_there (map (at_child t.child (heard_slot line)) s.slots) place (heard_slot line t) answer_is.0 heard_there answer_is.1)
        ∙ ap (λ es. es ++ answer_is.0 ∷ []) (front_same s running (length s.slots) place r within t at line good)

    talking_line : (kept left : ℕ → List ℕ) (old new : ℕ → Option Talk) (more : List ℕ)
        → Hears t.child more old new
        → lines_of (kept t.child ++ more) ≡ line ∷ lines_of (after_first is_feed (kept t.child ++ more))
        → IsFirstShort (kept t.child ++ more)
        → left t.child ≡ after_first is_feed (kept t.child ++ more) → ((k : ℕ) → k ≢ t.child → left k ≡ kept k)
        → IsTalking task s (length s.slots) place kept old
        → IsTalking task (after_line s t.child line false) (length s.slots) (place + 1) left new
    talking_line kept left old new more h first short here others k =
        let q = request_at task s place kept old new t at k.slots in
        let rest : Talks task s.version s.pools (requests_of task s.pools s.entries ++ requests_of task s.pools s.asks)
        (replies_of s.entries ++ take place (finished_round s.slots)) kept old =
        subst (λ rs. Talks task s.version s.pools
        (requests_of task s.pools s.entries ++ rs) (replies_of s.entries ++ take place (finished_round s.slots)) kept old)
        (all_taken (length s.slots) (requests_of task s.pools s.asks) k.slots.many) k.talks in
        let c : t.child ≡ q.0.child = q.2.child in
        record {
          closed = k.closed;
          even = k.even;
          slots = slots_still (heard_slot line) (λ u. refl) (λ u. refl) (λ u. refl) (λ u. refl) task s t.child false k.slots;
          talks =
              subst (λ rs. Talks task s.version s.pools (requests_of task s.pools s.entries ++ rs)
              (replies_of s.entries ++ take (place + 1) (finished_round (map (at_child t.child (heard_slot line)) s.slots))) left new)
              (sym (all_taken (length s.slots) (requests_of task s.pools s.asks) k.slots.many))
              (subst
              (λ es. Talks task s.version s.pools (requests_of task s.pools s.entries ++ requests_of task s.pools s.asks) es left new)
              (append_assoc (replies_of s.entries) (take place (finished_round s.slots)) (answer_is.0 ∷ [])
              ∙ ap (λ es. replies_of s.entries ++ es) (sym printed_next))
              (talks_heard task s.version s.pools (requests_of task s.pools s.entries ++ requests_of task s.pools s.asks)
              (replies_of s.entries ++ take place (finished_round s.slots)) old new kept left q.0 answer_is.0 more line
              (next_is (requests_of task s.pools s.entries) (replies_of s.entries) q.0 k.even q.1)
              (subst (λ d. Hears d more old new) c h)
              (subst (λ d. lines_of (kept d ++ more) ≡ line ∷ lines_of (after_first is_feed (kept d ++ more))) c first)
              (subst (λ d. IsFirstShort (kept d ++ more)) c short)
              ((λ i. replied_entry (sym q.2.number i) (reply_of line (sym q.2.wanted i))) ∙ answer_is.1)
              (subst (λ d. left d ≡ after_first is_feed (kept d ++ more)) c here)
              (subst (λ d. (j : ℕ) → j ≢ d → left j ≡ kept j) c others)
              rest));
        }

  -- the line is taken, and it is an answer
  pub talking_heard : (child : ℕ) (now : State) (kept left : ℕ → List ℕ) (old new : ℕ → Option Talk)
      → child ≡ t.child
      → TakesAnswer s child now (kept child) (left child) old new → ((k : ℕ) → k ≢ child → left k ≡ kept k)
      → IsTalking task s (length s.slots) place kept old → IsTalking task now (length now.slots) (place + 1) left new
  talking_heard child now kept left old new own takes others k =
      let here : TakesAnswer s t.child now (kept t.child) (left t.child) old new =
      subst (λ c. TakesAnswer s c now (kept c) (left c) old new) own takes in
      let far : (j : ℕ) → j ≢ t.child → left j ≡ kept j = subst (λ c. (j : ℕ) → j ≢ c → left j ≡ kept j) own others in
      subst (λ (x : State). IsTalking task x (length x.slots) (place + 1) left new) (sym here.after)
      (subst (λ n. IsTalking task (after_line s t.child here.line false) n (place + 1) left new)
      (sym (length-map s.slots (at_child t.child (heard_slot here.line))))
      (talking_line here.line here.good kept left old new here.more here.heard here.first here.few here.rest far k))

  -- ---- no answer

  bad_reply : (n number : ℕ) (why : Why) (x : Reply)
      → heard_by n (reply_fault x) ≡ heard.Bad number why → x ≡ reply.bad why
  bad_reply n number why (reply.yields tuples values) e = absurd (cc)
  bad_reply n number why (reply.number value) e = absurd (cc)
  bad_reply n number why reply.ends e = absurd (cc)
  bad_reply n number why (reply.bad other) e = let same : other ≡ why = cc in ap reply.bad same

  heard_is : (line : List ℕ)
      → heard_at s.slots t.child line ≡ heard_by t.number (reply_fault (reply_to line t))
  heard_is line = rw (own_slot s.slots place t r.apart at) refl

  pub may_blame : (kept : ℕ → List ℕ) (old new : ℕ → Option Talk) (fault : RunFault)
      → s.is_open ≡ true → IsSession task s
      → IsLegal s.version task (s.entries ++ s.asks ++ finished_round s.slots) → IsTalking task s (length s.slots) place kept old
      → Misheard s.slots t.child (kept t.child) old new fault
      → MayBlame s.version task s.pools new fault (s.entries ++ s.asks ++ take place (finished_round s.slots))
  may_blame kept old new fault opened h legal k m = by fault m.blamed
    where
      by : (f : RunFault) → IsBlamed s.slots t.child (kept t.child ++ m.more) f
          → MayBlame s.version task s.pools new f (s.entries ++ s.asks ++ take place (finished_round s.slots))
      by Generator b = tt
      by Memory b = tt
      by Write b = absurd b
      by (Answer number why) b =
          let q = request_at task s place kept old old t at k.slots in
          let numbered : number_at s.slots t.child ≡ t.number = number_is s.slots t.child t (own_slot s.slots place t r.apart at) in
          let bad : HasBadLine task s.version s.pools (s.entries ++ s.asks ++ take place (finished_round s.slots)) new q.0.number why =
          bad_line task s.version s.pools (s.entries ++ s.asks ++ take place (finished_round s.slots)) q.0 m.more why kept old new q.2.one
          (next_asked kept old h k)
          (subst (λ d. Hears d m.more old new) q.2.child m.heard) (first q.0 q.2 number why b.1)
          (talks_at_heard task s place kept old opened h k) in (
            ap (is_open (s.entries ++ s.asks ++ take place (finished_round s.slots))) b.0
                ∙ blamed_there s running (length s.slots) place r within t at s.version task legal,
            subst (λ n. HasBadLine task s.version s.pools (s.entries ++ s.asks ++ take place (finished_round s.slots)) new n why)
                (sym (b.0 ∙ numbered ∙ q.2.number)) bad,
          )
        where
          first : (q : Request) → IsSlotOf task s.version s.pools q t → (number : ℕ) (why : Why)
              → IsBadFirst s.slots t.child (kept t.child ++ m.more) number why
              → ((line : List ℕ) × (lines_of (kept q.child ++ m.more) ≡ line ∷ lines_of (after_first is_feed (kept q.child ++ m.more)))
              × (reply_of line (wanted_by task s.version q) ≡ reply.bad why) × IsFirstShort (kept q.child ++ m.more))
              ⊎ ((why ≡ TooLong) × (lines_of (kept q.child ++ m.more) ≡ []) × (length (kept q.child ++ m.more) ≡ 1025))
          first q i number why (inl (line, is, said, short)) = inl (
            line,
            subst (λ d. lines_of (kept d ++ m.more) ≡ line ∷ lines_of (after_first is_feed (kept d ++ m.more))) i.child is,
            ap (reply_of line) (sym i.wanted) ∙ bad_reply t.number number why (reply_to line t) (sym (heard_is line) ∙ said),
            subst (λ d. IsFirstShort (kept d ++ m.more)) i.child short,
          )
          first q i number why (inr (is, none, long)) =
              inr (
                is,
                subst (λ d. lines_of (kept d ++ m.more) ≡ []) i.child none,
                subst (λ d. length (kept d ++ m.more) ≡ 1025) i.child long,
              )

  pub dialogue_hearing : (kept : ℕ → List ℕ) (old new : ℕ → Option Talk) (child : ℕ) (more : List ℕ)
      → s.is_open ≡ true → IsSession task s → IsTalking task s (length s.slots) place kept old
      → Hears child more old new → Dialogue task s.version s.pools (s.entries ++ s.asks ++ take place (finished_round s.slots)) new
  dialogue_hearing kept old new child more opened h k hears =
      dialogue_of task s.version s.pools (s.entries ++ s.asks ++ take place (finished_round s.slots)) new (with_more kept child more)
      (talks_more task s.version s.pools (requests_of task s.pools (s.entries ++ s.asks ++ take place (finished_round s.slots)))
      (replies_of (s.entries ++ s.asks ++ take place (finished_round s.slots))) old new kept child more hears
      (talks_at_heard task s place kept old opened h k))
