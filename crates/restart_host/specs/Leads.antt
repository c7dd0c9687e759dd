-- What calls make of a host that starts its children again, in its own terms and in those of the host below.
use Rattle.std.specs.Prelude.{◌≡◌, ℕ, ◌+◌, ◌<◌, ◌≤◌, Bool, true, false, min, List, [], ◌∷◌, ◌++◌, Option, Some, None}
use Rattle.std.proofs.Common.{append_assoc, append-nil, arith, refl, subst, sym, ◌∙◌, ap}
use Rattle.lemmas.proofs.Counts.{count_joined}
use Rattle.io_world.specs.Logs.{Calls}
use Rattle.io_world.specs.Talks.{Event, LogGrows}
use Rattle.io_world.proofs.TalksLemmas.{extends_none, extends_more}
use Rattle.io_world.specs.Leads.{IsLed}
use Rattle.restart_host.specs.Tries.{Seen, failures, has_failed}
use Rattle.restart_host.specs.Uses.{AreDone}

-- How many failures are still made good, how many calls were refused, the calls, and what the host below tells.
pub record Parts : Type 0 where
  pub left : ℕ
  pub faults : ℕ
  pub log : Calls
  pub below : Seen

-- The calls that came were done by these calls on the host below.
abbrev pub IsDoneBy : (old new past events : List Event) → Type 0
IsDoneBy old new past events = (more : List Event) × (new ≡ old ++ more) × AreDone old past more events

-- where the host below tells its log, the calls that came were done by those that came there
abbrev pub AreDoneBelow : (old new : List Event) → (was now : Option (List Event)) → List Event → Type 0
AreDoneBelow old new was now events =
    (past after : List Event) → was ≡ Some past → now ≡ Some after → IsDoneBy old new past events

-- So many starts, writes and reads of the host below failed: those that were made good and those that were refused, and
-- no others, unless memory was wanting (`most`). Its count rose by as much, up to its last value. The log stays whole
-- unless memory was wanting; and where it is, and the host below tells its own, the calls that came were done by those
-- that came there.
pub record Carries (last : ℕ) (old new : Parts) (memory : Bool) : Type 0 where
  pub count : ℕ
  pub left : old.left + new.faults ≤ new.left + old.faults + count
  pub most : memory ≡ false → new.left + failures old.log.events + count ≤ old.left + failures new.log.events
  pub later : old.below.faults ≤ new.below.faults
  pub rose : new.below.faults < last → old.below.faults + count ≤ new.below.faults
  pub whole : memory ≡ false → new.log.whole ≡ old.log.whole
  pub lost : new.log.whole ≡ true → old.log.whole ≡ true
  pub events : List Event
  pub failed : failures events ≡ count
  pub log : LogGrows old.below.log new.below.log events
  pub done : new.log.whole ≡ true → AreDoneBelow old.log.events new.log.events old.below.log new.below.log events

-- The count rose by so many, or stands at its last value.
abbrev pub RoseBy : (count last before now : ℕ) → Type 0
RoseBy count last before now = min (before + count) last ≤ now

-- ---- laws of both

pub led_none : (Leads : Bool → Type 0) → Leads false → IsLed Leads false
led_none Leads leads = record { wanted = false; quiet = λ is. refl; leads = leads }

pub led_chain : {S : Type 0} (Leads : S → S → Bool → Type 0)
    → ((a b c : S) (m : Bool) → Leads a b false → Leads b c m → Leads a c m)
    → (a b c : S) (m : Bool) → IsLed (Leads a b) false → IsLed (Leads b c) m → IsLed (Leads a c) m
led_chain Leads chains a b c m first second = record {
  wanted = second.wanted;
  quiet = second.quiet;
  leads = chains a b c second.wanted (subst (Leads a b) (first.quiet refl) first.leads) second.leads;
}

pub led_end : {S : Type 0} (Leads : S → S → Bool → Type 0)
    → ((a b c : S) (m : Bool) → Leads a b m → Leads b c false → Leads a c m)
    → (a b c : S) (m : Bool) → IsLed (Leads a b) m → IsLed (Leads b c) false → IsLed (Leads a c) m
led_end Leads ends a b c m first second = record {
  wanted = first.wanted;
  quiet = first.quiet;
  leads = ends a b c first.wanted first.leads (subst (Leads b c) (second.quiet refl) second.leads);
}

pub carries_none : (last : ℕ) (parts : Parts) → Carries last parts parts false
carries_none last parts = record {
  count = 0;
  left = omega arith;
  most = λ is. omega arith;
  later = omega arith;
  rose = λ below. omega arith;
  whole = λ is. refl;
  lost = λ is. is;
  events = [];
  failed = refl;
  log = extends_none parts.below.log;
  done = λ whole past after was now. ([], sym (append-nil parts.log.events), refl);
}

-- what a log was that is told in the end
told_before : (was now : Option (List Event)) (events after : List Event) → LogGrows was now events → now ≡ Some after
    → (before : List Event) × (was ≡ Some before) × (after ≡ before ++ events)
told_before was None events after grows is = absurd (cc (is))
told_before was (Some told) events after grows is =
    let same : told ≡ after = cc (is) in
    (grows.0, grows.1, sym same ∙ grows.2)

-- calls that are done one after another
done_join : (calls past : List Event) (xs ys es fs : List Event) → AreDone calls past xs es
    → AreDone (calls ++ xs) (past ++ es) ys fs → AreDone calls past (xs ++ ys) (es ++ fs)
done_join calls past [] ys es fs first second =
    subst (λ zs. AreDone calls past ys (zs ++ fs)) (sym first)
    (subst (λ zs. AreDone zs past ys fs) (append-nil calls)
    (subst (λ zs. AreDone (calls ++ []) zs ys fs) (ap (λ zs. past ++ zs) first ∙ append-nil past) second))
done_join calls past (x ∷ xs) ys es fs first second = (
  first.0,
  first.1 ++ fs,
  ap (λ zs. zs ++ fs) first.2 ∙ append_assoc first.0 first.1 fs,
  first.3,
  done_join (calls ++ x ∷ []) (past ++ first.0) xs ys first.1 fs first.4
      (subst (λ zs. AreDone zs ((past ++ first.0) ++ first.1) ys fs) (sym (append_assoc calls (x ∷ []) xs))
      (subst (λ zs. AreDone (calls ++ x ∷ xs) zs ys fs)
      (ap (λ zs. past ++ zs) first.2 ∙ sym (append_assoc past first.0 first.1)) second)),
)

by_joined : (old mid new past after events later : List Event) → after ≡ past ++ events → IsDoneBy old mid past events
    → IsDoneBy mid new after later → IsDoneBy old new past (events ++ later)
by_joined old mid new past after events later is first second = (
  first.0 ++ second.0,
  second.1 ∙ ap (λ calls. calls ++ second.0) first.1 ∙ append_assoc old first.0 second.0,
  done_join old past first.0 second.0 events later first.2
      (subst (λ calls. AreDone calls (past ++ events) second.0 later) first.1
      (subst (λ calls. AreDone mid calls second.0 later) is second.2)),
)

carries_joined : (last : ℕ) (a b c : Parts) (m n o : Bool) → (o ≡ false → (m ≡ false) × (n ≡ false))
    → Carries last a b m → Carries last b c n → Carries last a c o
carries_joined last a b c m n o none first second = record {
  count = first.count + second.count;
  left = omega (arith, first.left, second.left);
  most = λ is. omega (arith, first.most (none is).0, second.most (none is).1);
  later = omega (arith, first.later, second.later);
  rose = λ below.
      let late : c.below.faults < last = below in
      let before : b.below.faults < last = omega (arith, late, second.later) in
      omega (arith, first.rose before, second.rose late);
  whole = λ is. second.whole (none is).1 ∙ first.whole (none is).0;
  lost = λ is. first.lost (second.lost is);
  events = first.events ++ second.events;
  failed = count_joined has_failed first.events second.events ∙ ap (λ n. n + failures second.events) first.failed
      ∙ ap (λ n. first.count + n) second.failed;
  log = extends_more a.below.log b.below.log c.below.log first.events second.events first.log second.log;
  done = λ whole_now past after was now.
      let mid = told_before b.below.log c.below.log second.events after second.log now in
      let start = told_before a.below.log b.below.log first.events mid.0 first.log mid.1 in
      let same : start.0 ≡ past = cc (start.1, was) in
      let is : mid.0 ≡ past ++ first.events = start.2 ∙ ap (λ calls. calls ++ first.events) same in
      by_joined a.log.events b.log.events c.log.events past mid.0 first.events second.events is
      (first.done (second.lost whole_now) past mid.0 was mid.1) (second.done whole_now mid.0 after mid.1 now);
}

pub carries_chain : (last : ℕ) (a b c : Parts) (m : Bool) → Carries last a b false → Carries last b c m
    → Carries last a c m
carries_chain last a b c m first second =
    carries_joined last a b c false m m (λ is. (refl, is)) first second

pub carries_end : (last : ℕ) (a b c : Parts) (m : Bool) → Carries last a b m → Carries last b c false
    → Carries last a c m
carries_end last a b c m first second =
    carries_joined last a b c m false m (λ is. (is, refl)) first second
