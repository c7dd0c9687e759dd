-- The calls of a run that stops before it has an outcome.
use Rattle.std.proofs.Common.{◌≡◌, ℕ, ◌≤◌, arith, List, [], ◌∷◌, ◌++◌, length, take, drop, Option, Some, None, Err, refl, sym, subst, ap, ◌∙◌, append_assoc, inl, inr, ◌⊎◌, slice_get}
use Rattle.std.proofs.lemmas.List.{append-nil, append_cancel_left}
use Rattle.gen_lines.specs.Lines.{lines_of}
use Rattle.gen_lines.specs.declared.answer.Why.{Why}
use Rattle.io_world.specs.Faults.{Extends}
use Rattle.io_world.specs.Talks.{Event, wrote, heard, silence, spelled, LogsGiven, LogsGivenPart, LogsTakenPart, SpellsTalk}
use Rattle.io_world.specs.Talks.{Talk}
use Rattle.io_world.specs.declared.host.HostFault.{HostFault}
use Rattle.io_world.specs.declared.host.HostFault.TheVariants as host
use Rattle.io_world.proofs.TalksLemmas.{extends_none}
use Rattle.pools.specs.Pools.{Workers}
use Rattle.task_model.specs.declared.task.Task.{Task}
use Rattle.transcript_model.specs.Legal.{HasNoneOpen, IsLegal}
use Rattle.transcript_model.specs.declared.entry.Entry.{Entry}
use Rattle.round_run.proofs.CallsRoundLemmas.{reads_early, reads_quiet, still_part, told_talk}
use Rattle.round_run.proofs.CallsLemmas.{follows_join}
use Rattle.round_run.specs.Breaking.{Breaks, IsBegun, LogBreaks, LogHears, Tells, refusal}
use Rattle.round_run.specs.Calls.{AddsCalls, Follows, LogFollows}
use Rattle.round_run.specs.Dialogue.{IsOneOf, Request, replies_of, requests_of, text_of_request}
use Rattle.round_run.specs.Rolling.{IsHostFault}
use Rattle.round_run.specs.Stops.{MayHear, MayListen, MayWrite}
use Rattle.round_run.specs.Talking.{IsAnswerRefused, Talks}
use Rattle.round_run.specs.declared.fault.RunFault.{RunFault}
use Rattle.round_run.specs.declared.fault.RunFault.TheVariants.{Answer, Generator, Write, Memory}
use Rattle.session_core.specs.Slots.{Slot}

-- ---- what the fault tells

-- a call that was refused is the fault's
pub tells_of : (free : Type 0) (cause : HostFault) (fault : RunFault) (e : Event)
    → IsHostFault cause fault → refusal e ≡ Some cause
    → Tells free fault (e ∷ [])
tells_of free host.Failed fault e is has =
    subst (λ f. Tells free f (e ∷ [])) (sym is) (e, refl, has)
tells_of free host.Memory fault e is has =
    subst (λ f. Tells free f (e ∷ [])) (sym is) (inr (e, refl, has))

pub tells_memory : (free : Type 0) (fault : RunFault) → free → fault ≡ Memory → Tells free fault []
tells_memory free fault here is = subst (λ f. Tells free f []) (sym is) (inl (refl, here))

pub tells_write : (free : Type 0) (fault : RunFault) → fault ≡ Write → Tells free fault []
tells_write free fault is = subst (λ f. Tells free f []) (sym is) refl

pub tells_written : (free : Type 0) (fault : RunFault) → free → MayWrite fault → Tells free fault []
tells_written free Generator here may = absurd may
tells_written free Memory here may = inl (refl, here)
tells_written free Write here may = refl
tells_written free (Answer number why) here may = absurd may

-- what holds where no call was refused may be another
pub tells_map : (free other : Type 0) (fault : RunFault) (refused : List Event) → (free → other)
    → Tells free fault refused
    → Tells other fault refused
tells_map free other Generator refused f t = t
tells_map free other Memory refused f (inl (none, here)) = inl (none, f here)
tells_map free other Memory refused f (inr call) = inr call
tells_map free other Write refused f t = t
tells_map free other (Answer number why) refused f t = t

pub tells_refused : (slots : List Slot) (child : ℕ) (line : List ℕ) (fault : RunFault)
    → IsAnswerRefused slots child line fault → Tells ⊥ fault []
tells_refused slots child line Generator is = absurd is
tells_refused slots child line Memory is = absurd is
tells_refused slots child line Write is = absurd is
tells_refused slots child line (Answer number why) is = refl

pub tells_blamed : (number : ℕ) (why : Why) (fault : RunFault) → fault ≡ Answer number why
    → Tells ⊥ fault []
tells_blamed number why fault is = subst (λ f. Tells ⊥ f []) (sym is) refl

-- ---- one child

-- no answer was taken, and no call was made
pub hears_none : (child : ℕ) (kept : List ℕ) (fault : RunFault) (log : Option (List Event))
    → Tells ⊥ fault []
    → LogHears child kept fault log log
hears_none child kept fault log tells =
    ([], [], λ k d below. absurd (omega (arith, below)), λ k below. absurd (omega (arith, below)), inl refl, tells, extends_none log)

-- bytes came, and no answer was taken
pub hears_given : (child : ℕ) (kept bytes : List ℕ) (fault : RunFault) (old new : Option (List Event))
    → lines_of kept ≡ []
    → Tells ⊥ fault [] → LogsGiven child [] bytes old new → LogHears child kept fault old new
hears_given child kept bytes fault old new none tells (events, gives, grows) = (
  events,
  [],
  gives.each,
  λ k below. still_part kept (spelled child silence (take k events)).heard none (gives.early k below),
  inl refl,
  tells,
  subst (Extends old new) (sym (append-nil events)) grows,
)

-- a read was refused
pub hears_refused : (child : ℕ) (kept : List ℕ) (fault : RunFault) (old new : Option (List Event))
    → lines_of kept ≡ []
    → (cause : HostFault) × IsHostFault cause fault × LogsGivenPart child [] cause old new → LogHears child kept fault old new
hears_refused child kept fault old new none (cause, is, (events, bytes, room, gives, line, grows)) = (
  events,
  heard child room (Err cause) ∷ [],
  gives.each,
  λ k below. still_part kept (spelled child silence (take k events)).heard none (gives.early k below),
  inr (cause, room, refl, ap (λ (t : Talk). lines_of (kept ++ t.heard)) gives.spells ∙ still_part kept bytes none line),
  tells_of ⊥ cause fault (heard child room (Err cause)) is refl,
  grows,
)

-- ---- behind the calls of the entries

module _ (task : Task) (version : ℕ) (pools : List Workers) (Front : List Entry → Type 0) where
  -- the calls of the entries alone
  pub breaks_done : (before more : List Entry) (fault : RunFault) (old new : Option (List Event))
      → Tells (HasNoneOpen (before ++ more)) fault [] → LogFollows task pools before more old new
      → LogBreaks task version pools before fault old new Front more
  breaks_done before more fault old None tells follows = tt
  breaks_done before more fault old (Some after) tells (past, events, was, came, follows) = (
    past,
    events,
    was,
    came,
    record {
      done = events;
      calls = [];
      refused = [];
      cut = sym (append-nil events) ∙ sym (append-nil (events ++ []));
      follows = follows;
      begun = inl (refl, refl);
      told = tells;
    },
  )

  breaks_begun : (before : List Entry) (fault : RunFault) (old new : Option (List Event)) (calls refused : List Event)
      → Tells (HasNoneOpen before) fault refused → Extends old new (calls ++ refused)
      → ((past : List Event) → old ≡ Some past → IsBegun task version pools past before fault calls refused Front)
      → LogBreaks task version pools before fault old new Front []
  breaks_begun before fault old None calls refused tells grows begun = tt
  breaks_begun before fault old (Some after) calls refused tells (past, was, came) begun = (
    past,
    calls ++ refused,
    was,
    came,
    record {
      done = [];
      calls = calls;
      refused = refused;
      cut = refl;
      follows = refl;
      begun = subst (λ p. IsBegun task version pools p (before ++ []) fault calls refused Front) (sym (append-nil past))
          (subst (λ es. IsBegun task version pools past es fault calls refused Front) (sym (append-nil before)) (begun past was));
      told = subst (λ es. Tells (HasNoneOpen es) fault refused) (sym (append-nil before)) tells;
    },
  )

  pub breaks_none : (before : List Entry) (fault : RunFault) (log : Option (List Event))
      → Tells (HasNoneOpen before) fault []
      → LogBreaks task version pools before fault log log Front []
  breaks_none before fault log tells = breaks_begun before fault log log [] [] tells (extends_none log) (λ past was. inl (refl, refl))

  -- a request was written in part
  pub breaks_writing : (before : List Entry) (e : Entry) (r : Request) (fault : RunFault) (old new : Option (List Event))
      → MayHear fault → IsLegal version task (before ++ e ∷ []) → Front (before ++ e ∷ [])
      → requests_of task pools (before ++ e ∷ []) ≡ requests_of task pools before ++ r ∷ []
      → (cause : HostFault) × IsHostFault cause fault × LogsTakenPart r.child (text_of_request r) cause old new
      → LogBreaks task version pools before fault old new Front []
  breaks_writing before e r fault old new may legal front next (cause, is, (events, n, takes, grows)) =
      breaks_begun before fault old new events (wrote r.child (drop n (text_of_request r)) (Err cause) ∷ [])
      (tells_of (HasNoneOpen before) cause fault (wrote r.child (drop n (text_of_request r)) (Err cause)) is refl) grows
      (λ past was. inr (inl (
        may,
        record {
          entry = e;
          legal = legal;
          front = front;
          request = r;
          next = next;
          count = n;
          taken = takes;
          last = inr (cause, refl);
        },
      )))

  -- ---- an answer that wasn't taken

  module _ (before : List Entry) (r : Request) (next : slice_get (requests_of task pools before) (length (replies_of before)) ≡ Some r)
      (one : IsOneOf pools r.child) (kept : ℕ → List ℕ) (spoken : ℕ → Option Talk)
      (talks : Talks task version pools (requests_of task pools before) (replies_of before) kept spoken) (old new : Option (List Event))
      (spells : SpellsTalk old r.child (spoken r.child)) where
    pub breaks_hearing : (fault : RunFault) → MayListen fault → LogHears r.child (kept r.child) fault old new
        → LogBreaks task version pools before fault old new Front []
    breaks_hearing fault may (events, refused, each, early, last, tells, grows) =
        breaks_begun before fault old new events refused
        (tells_map ⊥ (HasNoneOpen before) fault refused (λ never. absurd never) tells) grows (λ past was.
        let talk = told_talk (spoken r.child) past (subst (λ o. SpellsTalk o r.child (spoken r.child)) was spells) (talks.each r.child one) in
        inr (inr (
          may,
          record {
            request = r;
            next = next;
            reads = record {
              each = each;
              early = reads_early task version pools (requests_of task pools before) (replies_of before) r next
                  (kept r.child) (kept r.child) past events talk each early;
            };
            last = elim last as (λ w.
                (refused ≡ [])
                ⊎ ((cause : HostFault) × (room : ℕ) × (refused ≡ heard r.child room (Err cause) ∷ [])
                × (Rattle.round_run.specs.Calls.lines_read r.child (past ++ events)
                ≤ Rattle.round_run.specs.Calls.answers_by task pools before r.child))) [
                  | inl none ↦ inl none
                  | inr x ↦ inr (
                    x.0,
                    x.1,
                    x.2,
                    reads_quiet task version pools (requests_of task pools before) (replies_of before) r next
                        (kept r.child) (kept r.child) past events talk each x.3,
                  )
                ];
          },
        )))

  -- ---- entries before

  -- the calls of entries, and then of a list that broke off
  pub breaks_join : (past : List Event) (a front more : List Entry) (es events : List Event) (fault : RunFault)
      → Follows task pools past a front es → Breaks task version pools (past ++ es) (a ++ front) more fault events Front
      → Breaks task version pools past a (front ++ more) fault (es ++ events) Front
  breaks_join past a front more es events fault follows b = record {
    done = es ++ b.done;
    calls = b.calls;
    refused = b.refused;
    cut =
        ap (λ xs. es ++ xs) b.cut ∙ sym (append_assoc es (b.done ++ b.calls) b.refused)
        ∙ ap (λ xs. xs ++ b.refused) (sym (append_assoc es b.done b.calls));
    follows = follows_join task pools past a front more es b.done follows b.follows;
    begun = subst (λ p. IsBegun task version pools p (a ++ (front ++ more)) fault b.calls b.refused Front) (append_assoc past es b.done)
        (subst (λ xs. IsBegun task version pools ((past ++ es) ++ b.done) xs fault b.calls b.refused Front)
        (append_assoc a front more) b.begun);
    told = subst (λ es. Tells (HasNoneOpen es) fault b.refused) (append_assoc a front more) b.told;
  }

  pub breaks_then : (a b : List Entry) (fault : RunFault) (old mid new : Option (List Event))
      → (calls : AddsCalls task pools a b old mid)
      → (front : List Entry) → b ≡ a ++ front → (more : List Entry) → LogBreaks task version pools b fault mid new Front more
      → LogBreaks task version pools a fault old new Front (front ++ more)
  breaks_then a b fault old mid new calls front is more broken =
      by mid new (subst (λ es. LogFollows task pools a es old mid) same calls.log)
      (subst (λ es. LogBreaks task version pools es fault mid new Front more) is broken)
    where
      same : calls.more ≡ front
      same = append_cancel_left a calls.more front (sym calls.pushed ∙ is)

      by : (middle log : Option (List Event)) → LogFollows task pools a front old middle
          → LogBreaks task version pools (a ++ front) fault middle log Front more
          → LogBreaks task version pools a fault old log Front (front ++ more)
      by middle None f x = tt
      by None (Some after) f (reached, events, was, came, x) = absurd (cc)
      by (Some now) (Some after) (past, es, was, came, follows) (reached, events, told, grown, x) =
          let both : now ≡ reached = cc in
          let here : reached ≡ past ++ es = sym both ∙ came in (
            past,
            es ++ events,
            was,
            grown ∙ ap (λ xs. xs ++ events) here ∙ append_assoc past es events,
            breaks_join past a front more es events fault follows
                (subst (λ p. Breaks task version pools p (a ++ front) more fault events Front) here x),
          )

-- ---- the front of one is the front of another

module _ (task : Task) (version : ℕ) (pools : List Workers) (Other Front : List Entry → Type 0)
    (wider : (es : List Entry) → IsLegal version task es → Other es → Front es) where
  begun_as : (past : List Event) (before : List Entry) (fault : RunFault) (calls refused : List Event)
      → IsBegun task version pools past before fault calls refused Other
      → IsBegun task version pools past before fault calls refused Front
  begun_as past before fault calls refused (inl none) = inl none
  begun_as past before fault calls refused (inr (inr l)) = inr (inr l)
  begun_as past before fault calls refused (inr (inl (may, w))) = inr (inl (
    may,
    record {
      entry = w.entry;
      legal = w.legal;
      front = wider (before ++ w.entry ∷ []) w.legal w.front;
      request = w.request;
      next = w.next;
      count = w.count;
      taken = w.taken;
      last = w.last;
    },
  ))

  pub breaks_wider : (past : List Event) (before more : List Entry) (fault : RunFault) (events : List Event)
      → Breaks task version pools past before more fault events Other
      → Breaks task version pools past before more fault events Front
  breaks_wider past before more fault events b = record {
    done = b.done;
    calls = b.calls;
    refused = b.refused;
    cut = b.cut;
    follows = b.follows;
    begun = begun_as (past ++ b.done) (before ++ more) fault b.calls b.refused b.begun;
    told = b.told;
  }

  pub breaks_as : (before : List Entry) (fault : RunFault) (old new : Option (List Event)) (more : List Entry)
      → LogBreaks task version pools before fault old new Other more
      → LogBreaks task version pools before fault old new Front more
  breaks_as before fault old None more b = tt
  breaks_as before fault old (Some after) more (past, events, was, came, b) =
      (past, events, was, came, breaks_wider past before more fault events b)
