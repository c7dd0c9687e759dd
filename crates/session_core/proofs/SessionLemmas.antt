-- What sends, lines and marks leave is still a session.
use Rattle.std.proofs.Common.{◌≡◌, ℕ, ◌+◌, ◌≤◌, Bool, true, false, cond, List, [], ◌∷◌, ◌++◌, map, length, take, sym, ap, ◌∙◌, arith, count_by, length-append}
use Rattle.std.proofs.Math.Seq.{take-length}
use Rattle.std.proofs.lemmas.List.{take-append-le}
use Rattle.lemmas.proofs.Bools.{not_both}
use Rattle.lemmas.proofs.Counts.{count_joined, count_one}
use Rattle.instance_queue.specs.declared.due.Due.{Due}
use Rattle.task_model.specs.declared.stream.Instance.{Instance}
use Rattle.task_model.specs.declared.task.Task.{Task}
use Rattle.transcript_model.proofs.LegalLemmas.{grows, mark_answers, mark_follows}
use Rattle.transcript_model.proofs.LegalStepLemmas.{mark_adds}
use Rattle.transcript_model.specs.Legal.{is_answer, is_mark}
use Rattle.transcript_model.specs.Transcript.{asked, known_of, notes_of}
use Rattle.transcript_model.specs.declared.entry.Entry.{Entry}
use Rattle.learning.specs.Learning.{Asks}
use Rattle.session_core.specs.Session.{IsSession, IsRoundOf, IsSlotFor, AreSlotsFor}
use Rattle.session_core.specs.Slots.{Slot, sent_slot, heard_slot, at_child, is_slot_of}
use Rattle.session_core.specs.State.{State, with_slots, after_mark}

-- ---- slots

-- the change leaves a slot one of its due
abbrev KeepsSlots : Task → ℕ → (Slot → Slot) → Type 0
KeepsSlots task version f =
    (number : ℕ) (due : Due) (slot : Slot) → IsSlotFor task version number due slot → IsSlotFor task version number due (f slot)

slots_kept : (task : Task) (version : ℕ) (f : Slot → Slot) → KeepsSlots task version f
    → (number : ℕ) (dues : List Due) (slots : List Slot)
    → AreSlotsFor task version number dues slots → AreSlotsFor task version number dues (map f slots)
slots_kept task version f keeps number [] [] h = tt
slots_kept task version f keeps number [] (s ∷ ss) h = absurd h
slots_kept task version f keeps number (d ∷ ds) [] h = absurd h
slots_kept task version f keeps number (d ∷ ds) (s ∷ ss) h =
    (keeps number d s h.0, slots_kept task version f keeps (number + 1) ds ss h.1)

at_kept : (task : Task) (version child : ℕ) (f : Slot → Slot) → KeepsSlots task version f
    → KeepsSlots task version (at_child child f)
at_kept task version child f keeps number due slot h =
    elim (is_slot_of child slot) as (λ b. IsSlotFor task version number due (cond b (f slot) slot))
    [ true ↦ keeps number due slot h | false ↦ h ]

sent_keeps : (task : Task) (version : ℕ) → KeepsSlots task version sent_slot
sent_keeps task version number due slot h =
    record { numbered = h.numbered; wanted = h.wanted; right = h.right }

heard_keeps : (task : Task) (version : ℕ) (line : List ℕ)
    → KeepsSlots task version (heard_slot line)
heard_keeps task version line number due slot h =
    record { numbered = h.numbered; wanted = h.wanted; right = λ e is. (line, is) }

-- ---- sends and lines

session_with : (task : Task) (s : State) (slots : List Slot) (failed : Bool) → IsSession task s
    → (s.is_open ≡ true → IsRoundOf task (with_slots s slots failed)) → (failed ≡ false → s.failed ≡ false)
    → IsSession task (with_slots s slots failed)
session_with task s slots failed h round works =
    record {
      fit = h.fit;
      version = h.version;
      some_version = h.some_version;
      calls = h.calls;
      pools = h.pools;
      legal = h.legal;
      none_open = h.none_open;
      counted = h.counted;
      asked = h.asked;
      answered = h.answered;
      learnt = h.learnt;
      known = λ e. h.known (works e);
      notes = λ e. h.notes (works e);
      round = round;
    }

round_with : (task : Task) (s : State) (f : Slot → Slot) (failed : Bool)
    → KeepsSlots task s.version f → IsRoundOf task s
    → IsRoundOf task (with_slots s (map f s.slots) failed)
round_with task s f failed keeps r =
    record {
      dues = r.dues;
      ready = r.ready;
      instances = r.instances;
      asks = r.asks;
      slots = slots_kept task s.version f keeps (length s.asked + 1) r.dues s.slots r.slots;
    }

pub sent_kept : (task : Task) (s : State) (child : ℕ) → IsSession task s
    → IsSession task (with_slots s (map (at_child child sent_slot) s.slots) s.failed)
sent_kept task s child h =
    session_with task s (map (at_child child sent_slot) s.slots) s.failed h
    (λ e. round_with task s (at_child child sent_slot) s.failed
    (at_kept task s.version child sent_slot (sent_keeps task s.version)) (h.round e)) (λ e. e)

pub line_kept : (task : Task) (s : State) (child : ℕ) (line : List ℕ) (failed : Bool)
    → s.failed ≡ false → IsSession task s
    → IsSession task (with_slots s (map (at_child child (heard_slot line)) s.slots) failed)
line_kept task s child line failed works h =
    session_with task s (map (at_child child (heard_slot line)) s.slots) failed h
    (λ e. round_with task s (at_child child (heard_slot line)) failed
    (at_kept task s.version child (heard_slot line) (heard_keeps task s.version line)) (h.round e)) (λ _. works)

pub failure_kept : (task : Task) (s : State) → IsSession task s
    → IsSession task (with_slots s s.slots true)
failure_kept task s h =
    session_with task s s.slots true h
    (λ e. let r = h.round e in
    record { dues = r.dues; ready = r.ready; instances = r.instances; asks = r.asks; slots = r.slots })
    (λ e. absurd (cc))

-- ---- marks

asks_kept : (task : Task) (before after : List Entry)
    → ((n : ℕ) → asked task after n ≡ asked task before n) → (n : ℕ) (i : Instance)
    → Asks task before n i → Asks task after n i
asks_kept task before after same n i a =
    record { stream = a.stream; streamed = a.streamed; asks = same n ∙ a.asks }

-- how much is learnt after a mark: as much as before, or all
pub data Learns (s : State) (learnt : ℕ) : Type 0 where
  as_before : learnt ≡ s.learnt → Learns s learnt
  all_again : s.learnt ≡ length s.entries → learnt ≡ s.learnt + 1 → Learns s learnt

-- what is said of the learnt front stays, where the mark changes nothing
front_kept : {A : Type 0} (f : List Entry → A) (s : State) (e : Entry) (learnt : ℕ)
    → s.learnt ≤ length s.entries → Learns s learnt
    → f (s.entries ++ e ∷ []) ≡ f s.entries → f (take learnt (s.entries ++ e ∷ [])) ≡ f (take s.learnt s.entries)
front_kept f s e learnt within (as_before same) more =
    ap f (ap (λ n. take n (s.entries ++ e ∷ [])) same ∙ take-append-le s.learnt s.entries (e ∷ []) within)
front_kept f s e learnt within (all_again all one) more =
    let whole : learnt ≡ length (s.entries ++ e ∷ []) = one ∙ ap (λ n. n + 1) all ∙ sym (length-append s.entries (e ∷ [])) in
    ap f (ap (λ n. take n (s.entries ++ e ∷ [])) whole ∙ take-length (s.entries ++ e ∷ [])) ∙ more
    ∙ sym (ap f (ap (λ n. take n s.entries) all ∙ take-length s.entries))

learns_within : (s : State) (e : Entry) (learnt : ℕ) → s.learnt ≤ length s.entries → Learns s learnt
    → learnt ≤ length (s.entries ++ e ∷ [])
learns_within s e learnt within (as_before same) =
    omega (arith, same, within, length-append s.entries (e ∷ []))
learns_within s e learnt within (all_again all one) =
    omega (arith, all, one, length-append s.entries (e ∷ []))

pub mark_kept : (task : Task) (s : State) (e : Entry) (learnt : ℕ) → s.is_open ≡ false
    → is_mark e ≡ true → Learns s learnt
    → IsSession task s → IsSession task (after_mark s e learnt)
mark_kept task s e learnt closed mark learns h =
    let adds = mark_adds s.version task s.entries h.fit.problem.objects.names.distinct h.legal e mark in
    record {
      fit = h.fit;
      version = h.version;
      some_version = h.some_version;
      calls = h.calls;
      pools = h.pools;
      legal = (grows s.version task s.entries).next e h.legal (mark_follows s.version task s.entries e mark);
      none_open = λ n. adds.waiting n ∙ h.none_open n;
      counted = h.counted ∙ sym adds.asks;
      asked = λ k i at. asks_kept task s.entries (s.entries ++ e ∷ []) adds.requests (k + 1) i (h.asked k i at);
      answered = let same : count_by is_answer (s.entries ++ e ∷ []) ≡ count_by is_answer s.entries + 0 =
          count_joined is_answer s.entries (e ∷ [])
          ∙ ap (λ n. count_by is_answer s.entries + n) (count_one is_answer e ∙ ap (λ b. cond b 1 0) (mark_answers e mark)) in
          omega (arith, same, h.answered, adds.asks);
      learnt = learns_within s e learnt h.learnt learns;
      known = λ works. h.known works ∙ sym (front_kept (known_of task) s e learnt h.learnt learns adds.same.known);
      notes = λ works. h.notes works ∙ sym (front_kept (notes_of task) s e learnt h.learnt learns adds.same.notes);
      round = λ open_now. absurd (not_both s.is_open open_now closed);
    }

-- the state with these entries, so many of which are learnt
abbrev pub entries_become : State → List Entry → ℕ → State
entries_become s entries learnt =
    record {
      version = s.version;
      calls = s.calls;
      pools = s.pools;
      entries = entries;
      asked = s.asked;
      known = s.known;
      notes = s.notes;
      learnt = learnt;
      is_open = s.is_open;
      asks = s.asks;
      instances = s.instances;
      slots = s.slots;
      failed = s.failed;
    }
