-- An open round: one request more is sent, one answer more is heard.
use Rattle.std.proofs.Common.{◌≡◌, ℕ, zero, suc, ◌+◌, ◌<◌, ◌≤◌, arith, Bool, true, false, not, List, [], ◌∷◌, ◌++◌, map, length, take, Option, Some, None, refl, sym, subst, ap, ◌∙◌, ◌⊎◌, inl, inr, slice_get, option_map, is_none, nat_lt, unwrap_or, eqb-true, eq-eqb}
use Rattle.std.proofs.lemmas.Bool.{lt-ltb, le-ltb, ltb-true, ltb-false}
use Rattle.std.proofs.lemmas.List.{take-map, length-map, length-take}
use Rattle.std.proofs.lemmas.Simd.{map-map}
use Rattle.std.proofs.lemmas.Option.{slice_get-map, slice_get_within}
use Rattle.std.specs.Option.{is_some}
use Rattle.lemmas.proofs.Options.{same_some}
use Rattle.gen_lines.specs.Reply as reply
use Rattle.gen_lines.specs.Reply.{Reply}
use Rattle.lemmas.specs.Lists.{AreDistinct}
use Rattle.task_model.specs.declared.task.Task.{Task}
use Rattle.transcript_model.specs.Legal.{IsLegal, is_open}
use Rattle.transcript_model.specs.Rounds.{IsRound}
use Rattle.transcript_model.specs.declared.entry.Entry.{Entry}
use Rattle.transcript_model.specs.declared.entry.Entry.TheVariants as entry
use Rattle.lemmas.proofs.Members.{from_take}
use Rattle.pools.specs.Pools.{IsChild}
use Rattle.session_core.proofs.StateLemmas.{bad_is}
use Rattle.session_core.proofs.SlotsLemmas.{children_of, children_kept, child_kept, map_at, own_slot, at_own, at_other}
use Rattle.session_core.specs.Heard.{is_bad_at, number_at}
use Rattle.session_core.specs.Session.{IsSession}
use Rattle.session_core.specs.Slots.{Slot, IsUnsent, IsAwaited, sent_slot, heard_slot, at_child, is_slot_of, slot_of, reply_to, reply_fault, replied_entry}
use Rattle.session_core.specs.State.{State, after_sent, after_line}
use Rattle.round_run.proofs.RollingPrintLemmas.{round_legal, answers_legal, one_more, open_there, front_answers}
use Rattle.io_world.specs.Talks.{Talk}
use Rattle.round_run.specs.Rolling.{IsFrontPart, IsRolling, finished_round}
use Rattle.round_run.specs.Talking.{TakesAnswer}

-- ---- options

pub was_none : {A : Type 0} (o : Option A) → is_none o ≡ true → o ≡ None
was_none None e = refl
was_none (Some x) e = absurd (cc)

-- ---- one slot is changed

-- after the slot at a place is changed, the slot there is that, and the others are as they were
pub changed_at : (slots : List Slot) (place : ℕ) (t : Slot) (f : Slot → Slot)
    → AreDistinct (children_of slots)
    → slice_get slots place ≡ Some t → (k : ℕ) (u : Slot) → slice_get (map (at_child t.child f) slots) k ≡ Some u
    → ((k ≡ place) × (u ≡ f t)) ⊎ ((k ≡ place → ⊥) × (slice_get slots k ≡ Some u))
changed_at slots place t f apart at k u changed =
    by (slice_get slots k) refl (sym (slice_get-map (at_child t.child f) slots k) ∙ changed)
  where
    child_at : (j : ℕ) (s : Slot) → slice_get slots j ≡ Some s
        → slice_get (children_of slots) j ≡ Some s.child
    child_at j s is =
        slice_get-map (λ (v : Slot). v.child) slots j ∙ ap (option_map (λ (v : Slot). v.child)) is

    by_same : (s : Slot) (b : Bool) → is_slot_of t.child s ≡ b → slice_get slots k ≡ Some s
        → at_child t.child f s ≡ u
        → ((k ≡ place) × (u ≡ f t)) ⊎ ((k ≡ place → ⊥) × (slice_get slots k ≡ Some u))
    by_same s true own is here =
        let here_too : k ≡ place = apart k place t.child (child_at k s is ∙ ap Some (eqb-true s.child t.child own)) (child_at place t at) in
        let same : s ≡ t = same_some (slice_get slots place) s t (ap (slice_get slots) (sym here_too) ∙ is) at in
        inl (here_too, sym here ∙ at_own t.child f s own ∙ ap f same)
    by_same s false other is here =
        let stays : s ≡ u = sym (at_other t.child f s other) ∙ here in
        inr (
          (λ e.
              let same : s ≡ t = same_some (slice_get slots place) s t (ap (slice_get slots) (sym e) ∙ is) at in
              let own : is_slot_of t.child s ≡ true = eq-eqb s.child t.child (ap (λ (v : Slot). v.child) same) in
              let both : true ≡ false = sym own ∙ other in absurd (cc)),
          is ∙ ap Some stays,
        )

    by : (o : Option Slot) → slice_get slots k ≡ o → option_map (at_child t.child f) o ≡ Some u
        → ((k ≡ place) × (u ≡ f t)) ⊎ ((k ≡ place → ⊥) × (slice_get slots k ≡ Some u))
    by None is e = absurd (cc)
    by (Some s) is e =
        by_same s (is_slot_of t.child s) refl is (let same : at_child t.child f s ≡ u = cc in same)

less_more : (k place : ℕ) → (k ≡ place → ⊥) → nat_lt k place ≡ nat_lt k (place + 1)
less_more k place other = by (nat_lt k place) refl
  where
    by : (b : Bool) → nat_lt k place ≡ b → nat_lt k place ≡ nat_lt k (place + 1)
    by true e = e ∙ sym (lt-ltb k (place + 1) (omega (arith, ltb-true k place e)))
    by false e = e ∙ sym (le-ltb k (place + 1) (past (ltb-false k place e)))
      where
        past : place ≤ k → place + 1 ≤ k
        past le = elim (more place k le) [ inl same ↦ absurd (other (sym same)) | inr more ↦ more ]
          where
            more : (m n : ℕ) → m ≤ n → (m ≡ n) ⊎ (m + 1 ≤ n)
            more zero zero le = inl refl
            more zero (suc n) le = inr (omega arith)
            more (suc m) zero le = absurd (omega (arith, le))
            more (suc m) (suc n) le = elim (more m n (omega (arith, le))) [ inl e ↦ inl (ap suc e) | inr l ↦ inr (omega (arith, l)) ]

less_here : (place : ℕ) → nat_lt place (place + 1) ≡ true
less_here place = lt-ltb place (place + 1) (omega arith)

not_less_here : (place : ℕ) → nat_lt place place ≡ false
not_less_here place = le-ltb place place (omega arith)

-- ---- requests

module _ (s : State) (running : ℕ → Bool) (place : ℕ) (r : IsRolling s running place 0)
    (t : Slot) (at : slice_get s.slots place ≡ Some t) where
  pub unsent_there : IsUnsent s.slots t.child
  unsent_there = record {
    slot = t;
    found = own_slot s.slots place t r.apart at;
    unsent = r.each_sent place t at ∙ not_less_here place;
    open_still = was_none t.answer (r.each_open place t at ∙ ap not (le-ltb place 0 (omega arith)));
  }

  pub rolling_sent : IsRolling (after_sent s t.child) running (place + 1) 0
  rolling_sent = record {
    working = r.working;
    begun = r.begun;
    asks = r.asks ∙ sym (length-map s.slots (at_child t.child sent_slot));
    apart = subst AreDistinct (sym (children_kept (at_child t.child sent_slot) (child_kept t.child sent_slot (λ u. refl)) s.slots)) r.apart;
    each_sent = λ k u is. elim (changed_at s.slots place t sent_slot r.apart at k u is) [
      | inl here ↦ ap (λ (v : Slot). v.sent) here.1 ∙ sym (less_here place) ∙ ap (λ n. nat_lt n (place + 1)) (sym here.0)
      | inr there ↦ r.each_sent k u there.1 ∙ less_more k place there.0
    ];
    each_open = λ k u is. elim (changed_at s.slots place t sent_slot r.apart at k u is) [
      | inl here ↦ ap (λ (v : Slot). is_none v.answer) here.1 ∙ r.each_open place t at ∙ ap (λ n. not (nat_lt n 0)) (sym here.0)
      | inr there ↦ r.each_open k u there.1
    ];
    low = λ k u is. elim (changed_at s.slots place t sent_slot r.apart at k u is) [
      | inl here ↦ subst (λ (v : Slot). IsChild v.child) (sym here.1) (r.low place t at)
      | inr there ↦ r.low k u there.1
    ];
    runs = λ k u is. elim (changed_at s.slots place t sent_slot r.apart at k u is) [
      | inl here ↦ ap (λ (v : Slot). running v.child) here.1 ∙ r.runs place t at
      | inr there ↦ r.runs k u there.1
    ];
  }

-- the same children run
pub rolling_same : (s : State) (running now : ℕ → Bool) (sent answered : ℕ)
    → ((k : ℕ) → now k ≡ running k)
    → IsRolling s running sent answered → IsRolling s now sent answered
rolling_same s running now sent answered same r = record {
  working = r.working;
  begun = r.begun;
  asks = r.asks;
  apart = r.apart;
  each_sent = r.each_sent;
  each_open = r.each_open;
  low = r.low;
  runs = λ k t at. same t.child ∙ r.runs k t at;
}

-- ---- answers

reply_good : (n : ℕ) (r : Reply) → is_some (reply_fault r) ≡ false → is_none (replied_entry n r) ≡ false
reply_good n (reply.yields tuples values) e = refl
reply_good n (reply.number value) e = refl
reply_good n reply.ends e = refl
reply_good n (reply.bad why) e = absurd (cc)

pub number_is : (slots : List Slot) (child : ℕ) (t : Slot) → slot_of slots child ≡ Some t
    → number_at slots child ≡ t.number
number_is slots child t e = rw e refl

-- what is printed at a place
pub printed_there : (slots : List Slot) (k : ℕ) (t : Slot) (e : Entry) → slice_get slots k ≡ Some t
    → t.answer ≡ Some e
    → slice_get (finished_round slots) k ≡ Some e
printed_there slots k t e at is =
    slice_get-map (λ (v : Slot). unwrap_or v.answer (entry.End v.number)) slots k
    ∙ ap (option_map (λ (v : Slot). unwrap_or v.answer (entry.End v.number))) at ∙ ap (λ o. Some (unwrap_or o (entry.End t.number))) is

pub unprinted_there : (slots : List Slot) (k : ℕ) (t : Slot) → slice_get slots k ≡ Some t
    → t.answer ≡ None
    → slice_get (finished_round slots) k ≡ Some (entry.End t.number)
unprinted_there slots k t at is =
    slice_get-map (λ (v : Slot). unwrap_or v.answer (entry.End v.number)) slots k
    ∙ ap (option_map (λ (v : Slot). unwrap_or v.answer (entry.End v.number))) at ∙ ap (λ o. Some (unwrap_or o (entry.End t.number))) is

module _ (s : State) (running : ℕ → Bool) (sent place : ℕ) (r : IsRolling s running sent place) (below : place < sent)
    (t : Slot) (at : slice_get s.slots place ≡ Some t) where
  pub open_now : t.answer ≡ None
  open_now = was_none t.answer (r.each_open place t at ∙ ap not (not_less_here place))

  pub awaited_there : IsAwaited s.slots t.child
  awaited_there = record {
    slot = t;
    found = own_slot s.slots place t r.apart at;
    sent = r.each_sent place t at ∙ lt-ltb place sent below;
    open_still = open_now;
  }

  pub blamed_there : (version : ℕ) (task : Task)
      → IsLegal version task (s.entries ++ s.asks ++ finished_round s.slots)
      → is_open (s.entries ++ s.asks ++ take place (finished_round s.slots)) (number_at s.slots t.child) ≡ true
  blamed_there version task legal =
      ap (is_open (s.entries ++ s.asks ++ take place (finished_round s.slots)))
      (number_is s.slots t.child t (own_slot s.slots place t r.apart at))
      ∙ open_there version task s.entries s.asks (finished_round s.slots) place t.number legal (unprinted_there s.slots place t at open_now)

  module _ (line : List ℕ) (good : is_bad_at s.slots t.child line ≡ false) where
    pub answered_now : is_none (heard_slot line t).answer ≡ false
    answered_now =
        reply_good t.number (reply_to line t)
        (sym (bad_is s.slots t.child line t (reply_fault (reply_to line t)) (own_slot s.slots place t r.apart at) refl) ∙ good)

    pub rolling_heard : IsRolling (after_line s t.child line false) running sent (place + 1)
    rolling_heard = record {
      working = refl;
      begun = r.begun;
      asks = r.asks ∙ sym (length-map s.slots (at_child t.child (heard_slot line)));
      apart = subst AreDistinct
          (sym (children_kept (at_child t.child (heard_slot line)) (child_kept t.child (heard_slot line) (λ u. refl)) s.slots)) r.apart;
      each_sent = λ k u is. elim (changed_at s.slots place t (heard_slot line) r.apart at k u is) [
        | inl here ↦ ap (λ (v : Slot). v.sent) here.1 ∙ r.each_sent place t at ∙ ap (λ n. nat_lt n sent) (sym here.0)
        | inr there ↦ r.each_sent k u there.1
      ];
      each_open = λ k u is. elim (changed_at s.slots place t (heard_slot line) r.apart at k u is) [
        | inl here ↦
            ap (λ (v : Slot). is_none v.answer) here.1 ∙ answered_now ∙ sym (ap not (less_here place))
            ∙ ap (λ n. not (nat_lt n (place + 1))) (sym here.0)
        | inr there ↦ r.each_open k u there.1 ∙ ap not (less_more k place there.0)
      ];
      low = λ k u is. elim (changed_at s.slots place t (heard_slot line) r.apart at k u is) [
        | inl here ↦ subst (λ (v : Slot). IsChild v.child) (sym here.1) (r.low place t at)
        | inr there ↦ r.low k u there.1
      ];
      runs = λ k u is. elim (changed_at s.slots place t (heard_slot line) r.apart at k u is) [
        | inl here ↦ ap (λ (v : Slot). running v.child) here.1 ∙ r.runs place t at
        | inr there ↦ r.runs k u there.1
      ];
    }

    pub front_same : take place (finished_round (map (at_child t.child (heard_slot line)) s.slots)) ≡ take place (finished_round s.slots)
    front_same =
        take-map printed place (map g s.slots) ∙ ap (map printed) (take-map g place s.slots) ∙ map-map printed g (take place s.slots)
        ∙ map_at (λ u. printed (g u)) printed (take place s.slots)
        (λ k u is. ap printed (at_other t.child (heard_slot line) u (elsewhere k u is)))
        ∙ sym (take-map printed place s.slots)
      where
        g : Slot → Slot
        g = at_child t.child (heard_slot line)

        printed : Slot → Entry
        printed = λ (v : Slot). unwrap_or v.answer (entry.End v.number)

        child_at : (j : ℕ) (u : Slot) → slice_get s.slots j ≡ Some u
            → slice_get (children_of s.slots) j ≡ Some u.child
        child_at j u is =
            slice_get-map (λ (v : Slot). v.child) s.slots j
            ∙ ap (option_map (λ (v : Slot). v.child)) is

        elsewhere : (k : ℕ) (u : Slot) → slice_get (take place s.slots) k ≡ Some u
            → is_slot_of t.child u ≡ false
        elsewhere k u is = by (is_slot_of t.child u) refl
          where
            by : (b : Bool) → is_slot_of t.child u ≡ b → is_slot_of t.child u ≡ false
            by false e = e
            by true e =
                let same : k ≡ place =
                r.apart k place t.child (child_at k u ((from_take s.slots place k u is).1) ∙ ap Some (eqb-true u.child t.child e))
                (child_at place t at) in
                absurd (omega (arith, same, slice_get_within (take place s.slots) k u is, length-take place s.slots))

-- ---- after a line was taken

pub was_some : {A : Type 0} (o : Option A) → is_none o ≡ false → (x : A) × (o ≡ Some x)
was_some None e = absurd (cc)
was_some (Some x) e = (x, refl)

-- one answer more is heard
pub record HeardMore (s : State) (running : ℕ → Bool) (place : ℕ) (new : State) : Type 0 where
  pub slot : Slot
  pub entry : Entry
  pub at : slice_get new.slots place ≡ Some slot
  pub said : slot.answer ≡ Some entry
  pub rolling : IsRolling new running (length new.slots) (place + 1)
  pub front : take place (finished_round new.slots) ≡ take place (finished_round s.slots)
  pub legal : (task : Task) → IsSession task new
      → IsLegal s.version task ((s.entries ++ s.asks ++ take place (finished_round s.slots)) ++ entry ∷ [])
  pub part : (task : Task) → IsSession task new
      → IsFrontPart s.entries (IsRound task s.entries s.instances) ((s.entries ++ s.asks ++ take place (finished_round s.slots)) ++ entry ∷ [])
  pub more : s.entries ++ s.asks ++ take (place + 1) (finished_round new.slots)
      ≡ (s.entries ++ s.asks ++ take place (finished_round new.slots)) ++ entry ∷ []

pub heard_more : (s : State) (running : ℕ → Bool) (place child : ℕ) (new : State) (kept left : List ℕ) (before after : ℕ → Option Talk)
    → IsRolling s running (length s.slots) place → place < length s.slots → (t : Slot) → slice_get s.slots place ≡ Some t → child ≡ t.child
    → TakesAnswer s child new kept left before after → HeardMore s running place new
heard_more s running place child new kept left before after r within t at own takes =
    subst (HeardMore s running place) (sym (takes.after ∙ ap (λ k. after_line s k takes.line false) own)) here
  where
    good : is_bad_at s.slots t.child takes.line ≡ false
    good = ap (λ k. is_bad_at s.slots k takes.line) (sym own) ∙ takes.good

    said_one : (e : Entry) × ((heard_slot takes.line t).answer ≡ Some e)
    said_one = was_some (heard_slot takes.line t).answer (answered_now s running (length s.slots) place r within t at takes.line good)

    place_is : slice_get (map (at_child t.child (heard_slot takes.line)) s.slots) place ≡ Some (heard_slot takes.line t)
    place_is =
        slice_get-map (at_child t.child (heard_slot takes.line)) s.slots place
        ∙ ap (option_map (at_child t.child (heard_slot takes.line))) at
        ∙ ap Some (at_own t.child (heard_slot takes.line) t (eq-eqb t.child t.child refl))

    printed : slice_get (finished_round (map (at_child t.child (heard_slot takes.line)) s.slots)) place ≡ Some said_one.0
    printed = printed_there (map (at_child t.child (heard_slot takes.line)) s.slots) place
        (heard_slot takes.line t) said_one.0 place_is said_one.1

    front_is : take place (finished_round (map (at_child t.child (heard_slot takes.line)) s.slots)) ≡ take place (finished_round s.slots)
    front_is = front_same s running (length s.slots) place r within t at takes.line good

    more_is : s.entries ++ s.asks ++ take (place + 1) (finished_round (map (at_child t.child (heard_slot takes.line)) s.slots))
        ≡ (s.entries ++ s.asks ++ take place (finished_round (map (at_child t.child (heard_slot takes.line)) s.slots))) ++ said_one.0 ∷ []
    more_is = one_more (s.entries ++ s.asks) (finished_round (map (at_child t.child (heard_slot takes.line)) s.slots)) place said_one.0 printed

    here : HeardMore s running place (after_line s t.child takes.line false)
    here = record {
      slot = heard_slot takes.line t;
      entry = said_one.0;
      at = place_is;
      said = said_one.1;
      rolling = subst (λ n. IsRolling (after_line s t.child takes.line false) running n (place + 1))
          (sym (length-map s.slots (at_child t.child (heard_slot takes.line))))
          (rolling_heard s running (length s.slots) place r within t at takes.line good);
      front = front_is;
      legal = λ task h. subst (λ es. IsLegal s.version task ((s.entries ++ s.asks ++ es) ++ said_one.0 ∷ [])) front_is
          (subst (IsLegal s.version task) more_is
          (answers_legal s.version task s.entries s.asks (finished_round (map (at_child t.child (heard_slot takes.line)) s.slots))
          (place + 1) (round_legal task (after_line s t.child takes.line false) r.begun h)));
      part = λ task h. subst
          (λ es. IsFrontPart s.entries (IsRound task s.entries s.instances) ((s.entries ++ s.asks ++ es) ++ said_one.0 ∷ []))
          front_is
          (subst (IsFrontPart s.entries (IsRound task s.entries s.instances)) more_is
          (front_answers task (after_line s t.child takes.line false) (place + 1) r.begun h));
      more = more_is;
    }

-- a child that was started has a place
pub started_within : (started : List Bool) (child : ℕ)
    → unwrap_or (slice_get started child) false ≡ true → child < length started
started_within [] child e = absurd (cc)
started_within (b ∷ bs) zero e = omega arith
started_within (b ∷ bs) (suc child) e = omega (arith, started_within bs child e)
