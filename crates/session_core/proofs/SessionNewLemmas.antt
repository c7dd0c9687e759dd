-- The session in which nothing was asked.
use Rattle.std.proofs.Common.{◌≡◌, ℕ, ◌+◌, ◌≤◌, true, false, List, [], length, map, take, refl, sym, ap, ◌∙◌, subst, arith, count_by, slice_get}
use Rattle.learning.specs.Learning.{Asks}
use Rattle.learning.specs.Knowledge.{IsKnowledge}
use Rattle.learning.specs.declared.knowledge.Knowledge.{Knowledge}
use Rattle.lemmas.proofs.Members.{distinct_nil}
use Rattle.lemmas.specs.Lists.{AreDistinct}
use Rattle.pools.specs.Pools.{AreFitPools}
use Rattle.task_model.specs.declared.task.Task.{Task}
use Rattle.transcript_model.specs.Legal.{IsLegal, HasNoneOpen, asks_of, is_answer}
use Rattle.transcript_model.specs.Transcript.{known_of, notes_of}
use Rattle.transcript_model.specs.declared.head.Head.{Head}
use Rattle.session_core.specs.Session.{IsFitHead, IsOf, IsSession}
use Rattle.session_core.specs.Slots.{Slot}
use Rattle.session_core.specs.State.{State, IsSound}

-- Of a fit head, over the knowledge of no entry, with no round open.
pub new_session : (task : Task) (head : Head) (s : State) (l : Knowledge) → IsKnowledge s.version task [] l
    → IsFitHead task head
    → IsOf head s → s.entries ≡ [] → s.asked ≡ l.asked.items
    → s.learnt ≡ 0 → s.known ≡ l.facts.known → s.notes ≡ l.queue → s.is_open ≡ false → IsSession task s
new_session task head s l h of_task of entries asked learnt known notes closed = record {
  fit = h.fit;
  version = subst (λ v. v ≤ 2) (sym of.version) of_task.version;
  some_version = subst (λ v. 1 ≤ v) (sym of.version) of_task.some_version;
  calls = subst (λ n. n ≤ 100000) (sym of.calls) of_task.calls;
  pools = subst (AreFitPools task) (sym of.pools) of_task.pools;
  legal = subst (IsLegal s.version task) (sym entries) h.legal;
  none_open = subst HasNoneOpen (sym entries) (λ n. refl);
  counted = ap length asked ∙ h.counted ∙ ap asks_of (sym entries);
  asked = λ k i at. subst (λ es. Asks task es (k + 1) i) (sym entries) (h.asks k i (ap (λ is. slice_get is k) (sym asked) ∙ at));
  answered = let none : count_by is_answer s.entries ≡ 0 = ap (count_by is_answer) entries in omega (arith, none);
  learnt = omega (arith, learnt);
  known = λ _. known ∙ h.known ∙ (λ i. known_of task (take (sym learnt i) (sym entries i)));
  notes = λ _. notes ∙ h.notes ∙ (λ i. notes_of task (take (sym learnt i) (sym entries i)));
  round = λ opened. absurd (not_open (sym closed ∙ opened));
}
  where
    not_open : false ≡ true → ⊥
    not_open e = absurd (cc)

-- What holds of every session holds of it, in whatever room.
pub new_sound : (s : State) (entries_room asked_room : ℕ) → s.entries ≡ [] → length s.asked ≡ 0 → s.asks ≡ [] → s.instances ≡ []
    → s.slots ≡ [] → s.calls ≤ 100000 → IsSound s entries_room asked_room
new_sound s entries_room asked_room entries asked asks instances slots calls =
    let no_entries : length s.entries ≡ 0 = ap length entries in
    let no_asks : length s.asks ≡ 0 = ap length asks in
    let no_instances : length s.instances ≡ 0 = ap length instances in
    let no_slots : length s.slots ≡ 0 = ap length slots in
    record {
      entries_fit = omega (arith, no_entries, no_asks, no_slots);
      asked_fit = omega (arith, asked, no_instances);
      few = omega (arith, asked, no_instances);
      calls = calls;
      same_asks = no_asks ∙ sym no_slots;
      same_instances = no_instances ∙ sym no_slots;
      apart = subst (λ (ts : List Slot). AreDistinct (map (λ (t : Slot). t.child) ts)) (sym slots) distinct_nil;
      closed = λ _. slots;
    }
