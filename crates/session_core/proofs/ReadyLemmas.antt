-- Asks that wait for their round stay due while others are answered.
use Rattle.std.proofs.Common.{◌≡◌, ℕ, zero, suc, ◌+◌, ◌≤◌, true, false, ◌&&◌, ◌||◌, List, [], ◌∷◌, ◌++◌, length, take, drop, refl, sym, ap, subst, ◌∙◌, Option, Some, None, slice_get, arith, All, Contains, append_assoc, option_map, nat_lt}
use Rattle.std.proofs.Math.ListN.{take-append-drop}
use Rattle.std.proofs.Math.Seq.{take-length}
use Rattle.std.proofs.lemmas.List.{append-nil, map-append}
use Rattle.std.proofs.lemmas.List.Elements.{All-head, All-tail, All-take, All-drop, All-replicate, Contains-append_left, Contains-append_right, All-nil, All-cons}
use Rattle.std.proofs.lemmas.Option.{slice_get-map}
use Rattle.std.specs.List.{flat_map, list_any, cons_option}
use Rattle.std.proofs.lemmas.List.Concat.{flat_map-append}
use Rattle.gen_lines.specs.Reply as reply
use Rattle.gen_lines.specs.Reply.{Reply, reply_of}
use Rattle.instance_queue.proofs.NotesLemmas.{about, tally_stays, yielded_some}
use Rattle.instance_queue.specs.Level.{due_instances, AreDueInTurn}
use Rattle.instance_queue.specs.Notes.{tally_of}
use Rattle.instance_queue.specs.declared.due.Due.{Due}
use Rattle.instance_queue.specs.declared.queue.Tally.{Tally}
use Rattle.task_model.proofs.KnownLemmas.{facts_kept}
use Rattle.task_model.proofs.StreamsLemmas.{instances_apart, instances_total, reachable_kept}
use Rattle.lemmas.proofs.Members.{member_at, get_behind}
use Rattle.lemmas.proofs.ListTests.{all_one}
use Rattle.lemmas.proofs.Ascending.{contains_here, contains_later}
use Rattle.task_model.specs.Known.{is_fact}
use Rattle.lemmas.specs.Lists.{AreDistinct}
use Rattle.task_model.specs.Streams.{Note, Yielded, Ended, IsDue, is_end_of, is_yield_of, is_test, instance_cmp, yields_of}
use Rattle.task_model.specs.declared.fact.Fact.{Fact}
use Rattle.task_model.specs.declared.stream.Instance.{Instance}
use Rattle.task_model.specs.declared.task.Task.{Task}
use Rattle.transcript_model.proofs.LegalPrefixLemmas.{longer}
use Rattle.transcript_model.proofs.NamedObjectLemmas.{all_joined}
use Rattle.transcript_model.specs.Transcript.{Asked, asked, certified, known_of, notes_of, note_of}
use Rattle.transcript_model.specs.declared.entry.Entry.{Entry}
use Rattle.transcript_model.specs.declared.entry.Entry.TheVariants as entry
use Rattle.session_core.proofs.RoundWholeLemmas.{close_kept}
use Rattle.transcript_model.specs.Legal.{answered_number}
use Rattle.session_core.specs.Ready.{AreReady, IsNextRound, AreAskable}
use Rattle.learning.specs.Learning.{Asks}
use Rattle.session_core.specs.Session.{IsSession, IsLearnt, AreSlotsFor, MayBeginRound}
use Rattle.session_core.specs.Slots.{Slot, asks_from, replied_entry, answers_of, all_answered}
use Rattle.session_core.specs.State.{State, after_close}
use Rattle.lemmas.proofs.Distinct.{ascending_distinct, distinct_apart, distinct_left, distinct_right}

-- ---- lists

two_parts : (n : ℕ) (dues : List Due)
    → due_instances dues ≡ due_instances (take n dues) ++ due_instances (drop n dues)
two_parts n dues =
    ap due_instances (sym (take-append-drop n dues))
    ∙ map-append (λ (d : Due). d.instance) (take n dues) (drop n dues)

-- ---- levels

pub level_ready : (task : Task) (entries : List Entry) (dues : List Due)
    → AreDueInTurn task (known_of task entries) (notes_of task entries) dues → AreReady task entries dues
level_ready task entries dues level = record {
  due = λ i m. (level.due.each i).0 m;
  turns = level.turns;
  distinct = ascending_distinct (instance_cmp (known_of task entries).names)
      (instances_total (known_of task entries).names) (due_instances dues) level.due.ascend;
}

-- ---- the next round may begin

pub may_begin : (task : Task) (s : State) (dues : List Due) (count : ℕ) → IsSession task s
    → s.failed ≡ false → IsLearnt s
    → AreReady task s.entries dues → IsNextRound s dues count → MayBeginRound task s (take count dues)
may_begin task s dues count h works learnt ready next =
    let all = ap (λ n. take n s.entries) learnt.all ∙ take-length s.entries in
    let known : s.known ≡ known_of task s.entries = h.known works ∙ ap (known_of task) all in
    let notes : s.notes ≡ notes_of task s.entries = h.notes works ∙ ap (notes_of task) all in
    let front = take count dues in
    let parts = two_parts count dues in
    record {
      ready = learnt;
      askable = subst (λ k. AreAskable task k s.notes front) (sym known)
          (subst (λ ns. AreAskable task (known_of task s.entries) ns front) (sym notes)
          (record {
            due = λ i m. ready.due i
                (subst (λ is. Contains is i) (sym parts) (Contains-append_left (due_instances front) (due_instances (drop count dues)) i m));
            turns = All-take (λ (d : Due). d.turn ≡ yields_of (notes_of task s.entries) d.instance) count dues ready.turns;
            distinct = distinct_left (due_instances front) (due_instances (drop count dues)) (subst AreDistinct parts ready.distinct);
          }));
      fit = next.fit;
      left = omega (arith, next.left, length-front);
    }
  where
    length-front : length (take count dues) ≤ count
    length-front = short count dues
      where
        short : (n : ℕ) (us : List Due) → length (take n us) ≤ n
        short zero us = omega arith
        short (suc n) [] = omega arith
        short (suc n) (u ∷ us) = omega (arith, short n us)

-- ---- notes on others

tally_apart : (notes more : List Note) (i : Instance) → All (λ n. ¬ (about n ≡ i)) more
    → tally_of (notes ++ more) i ≡ tally_of notes i
tally_apart notes [] i all = ap (λ ns. tally_of ns i) (append-nil notes)
tally_apart notes (m ∷ ms) i all =
    ap (λ ns. tally_of ns i) (sym (append_assoc notes (m ∷ []) ms))
    ∙ tally_apart (notes ++ m ∷ []) ms i (All-tail (λ n. ¬ (about n ≡ i)) m ms all)
    ∙ tally_stays notes m i (instances_apart (about m) i (All-head (λ n. ¬ (about n ≡ i)) m ms all))

-- ---- the answers of a round

entry_number : (n : ℕ) (r : Reply) (e : Entry) → replied_entry n r ≡ Some e → answered_number e ≡ Some n
entry_number n (reply.yields tuples values) e is =
    let same : entry.Got n tuples values ≡ e = cc in ap answered_number (sym same)
entry_number n (reply.number value) e is =
    let same : entry.Value n value ≡ e = cc in ap answered_number (sym same)
entry_number n reply.ends e is = let same : entry.End n ≡ e = cc in ap answered_number (sym same)
entry_number n (reply.bad why) e is = absurd (cc)

-- the answer is to the request of this due
record IsAnswerOf (number : ℕ) (dues : List Due) (e : Entry) : Type 0 where
  place : ℕ
  due : Due
  at : slice_get dues place ≡ Some due
  numbered : answered_number e ≡ Some (number + place)

answer_of_due : (task : Task) (version number : ℕ) (dues : List Due) (slots : List Slot)
    → AreSlotsFor task version number dues slots
    → (k : ℕ) (e : Entry) → slice_get (answers_of slots) k ≡ Some e → IsAnswerOf number dues e
answer_of_due task version number [] [] h k e at = absurd (cc)
answer_of_due task version number [] (s ∷ ss) h k e at = absurd h
answer_of_due task version number (d ∷ ds) [] h k e at = absurd h
answer_of_due task version number (d ∷ ds) (s ∷ ss) h k e at =
    by (λ j there. later (answer_of_due task version (number + 1) ds ss h.1 j e there)) s.answer refl k at
  where
    later : IsAnswerOf (number + 1) ds e → IsAnswerOf number (d ∷ ds) e
    later r =
        record {
          place = suc r.place;
          due = r.due;
          at = r.at;
          numbered = r.numbered ∙ ap Some (let n : (number + 1) + r.place ≡ number + suc r.place = omega arith in n);
        }

    first : (a : Entry) → s.answer ≡ Some a → a ≡ e → IsAnswerOf number (d ∷ ds) e
    first a is same =
        let said = h.0.right a is in
        let n : s.number ≡ number + 0 = h.0.numbered ∙ (let z : number ≡ number + 0 = omega arith in z) in
        record {
          place = 0;
          due = d;
          at = refl;
          numbered = ap answered_number (sym same) ∙ entry_number s.number (reply_of said.0 s.wanted) a said.1 ∙ ap Some n;
        }

    by : ((j : ℕ) → slice_get (answers_of ss) j ≡ Some e → IsAnswerOf number (d ∷ ds) e)
        → (o : Option Entry) → s.answer ≡ o → (j : ℕ)
        → slice_get (cons_option s.answer (answers_of ss)) j ≡ Some e → IsAnswerOf number (d ∷ ds) e
    by again None is j there =
        again j (ap (λ o. slice_get (cons_option o (answers_of ss)) j) (sym is) ∙ there)
    by again (Some a) is zero there =
        first a is (let one : slice_get (a ∷ answers_of ss) 0 ≡ Some e =
        ap (λ o. slice_get (cons_option o (answers_of ss)) 0) (sym is) ∙ there in
        head one)
      where
        head : Some a ≡ Some e → a ≡ e
        head same = cc
    by again (Some a) is (suc j) there =
        again j (ap (λ o. slice_get (cons_option o (answers_of ss)) (suc j)) (sym is) ∙ there)

-- what an answer to this request tells is about its instance
notes_about : (task : Task) (all : List Entry) (e : Entry) (n : ℕ) (a : Asked) (i : Instance)
    → answered_number e ≡ Some n
    → asked task all n ≡ Some a → ¬ (a.instance ≡ i) → All (λ m. ¬ (about m ≡ i)) (note_of task all e)
notes_about task all (entry.Got m tuples values) n a i number was apart =
    let same : m ≡ n = cc in
    let there : asked task all m ≡ Some a = ap (asked task all) same ∙ was in
    rw there (All-replicate (λ k. ¬ (about k ≡ i)) tuples (Yielded a.instance) apart)
notes_about task all (entry.Value m value) n a i number was apart =
    let same : m ≡ n = cc in
    let there : asked task all m ≡ Some a = ap (asked task all) same ∙ was in
    rw there (all_one (λ k. ¬ (about k ≡ i)) (Ended a.instance) apart)
notes_about task all (entry.End m) n a i number was apart =
    let same : m ≡ n = cc in
    let there : asked task all m ≡ Some a = ap (asked task all) same ∙ was in
    rw there (all_one (λ k. ¬ (about k ≡ i)) (Ended a.instance) apart)
notes_about task all e n a i number was apart = All-nil (λ k. ¬ (about k ≡ i))

no_notes : (task : Task) (all : List Entry) (names : List (List ℕ)) (n : ℕ) (dues : List Due)
    → flat_map (note_of task all) (asks_from task names n dues) ≡ []
no_notes task all names n [] = refl
no_notes task all names n (d ∷ ds) = no_notes task all names (n + 1) ds

-- ---- what is due behind the round

module _ (task : Task) (s : State) (open_now : s.is_open ≡ true) (answered : all_answered s.slots ≡ true) (h : IsSession task s) where
  abbrev all : List Entry
  all = s.entries ++ (s.asks ++ answers_of s.slots)

  entries_are : (after_close s).entries ≡ all
  entries_are = append_assoc s.entries s.asks (answers_of s.slots)

  -- the round's notes are about others
  others : (i : Instance) → ¬ (Contains s.instances i)
      → All (λ m. ¬ (about m ≡ i)) (flat_map (note_of task all) (s.asks ++ answers_of s.slots))
  others i apart =
      let r = h.round open_now in
      let after =
      subst (λ es. (k : ℕ) (j : Instance) → slice_get (s.asked ++ s.instances) k ≡ Some j → Asks task es (k + 1) j) entries_are
      (close_kept task s open_now answered h).asked in
      let none : flat_map (note_of task all) s.asks ≡ [] =
      ap (flat_map (note_of task all)) r.asks ∙ no_notes task all _ (length s.asked + 1) r.dues in
      let only : flat_map (note_of task all) (s.asks ++ answers_of s.slots) ≡ flat_map (note_of task all) (answers_of s.slots) =
      flat_map-append (note_of task all) s.asks (answers_of s.slots)
      ∙ ap (λ ns. ns ++ flat_map (note_of task all) (answers_of s.slots)) none in
      subst (All (λ m. ¬ (about m ≡ i))) (sym only)
      (all_joined (λ m. ¬ (about m ≡ i)) (note_of task all) (answers_of s.slots) (λ k e at.
      let o = answer_of_due task s.version (length s.asked + 1) r.dues s.slots r.slots k e at in
      let stands : slice_get s.instances o.place ≡ Some o.due.instance =
      ap (λ is. slice_get is o.place) r.instances ∙ slice_get-map (λ (d : Due). d.instance) r.dues o.place
      ∙ ap (option_map (λ (d : Due). d.instance)) o.at in
      let made = after (length s.asked + o.place) o.due.instance (get_behind s.asked s.instances o.place o.due.instance stands) in
      let n : (length s.asked + 1) + o.place ≡ (length s.asked + o.place) + 1 = omega arith in
      notes_about task all e ((length s.asked + 1) + o.place)
      (record { stream = made.stream; instance = o.due.instance }) i o.numbered (ap (asked task all) n ∙ made.asks)
      (λ same. apart (subst (Contains s.instances) same (member_at s.instances o.place o.due.instance stands)))))

  module _ (i : Instance) (apart : ¬ (Contains s.instances i)) where
    told : notes_of task all ≡ notes_of task s.entries ++ flat_map (note_of task all) (s.asks ++ answers_of s.slots)
    told = (longer s.version task s.entries (s.asks ++ answers_of s.slots) h.fit.problem.objects.names.distinct h.legal).notes

    tally : tally_of (notes_of task all) i ≡ tally_of (notes_of task s.entries) i
    tally =
        ap (λ ns. tally_of ns i) told
        ∙ tally_apart (notes_of task s.entries) (flat_map (note_of task all) (s.asks ++ answers_of s.slots)) i (others i apart)

    yields_kept : yields_of (notes_of task all) i ≡ yields_of (notes_of task s.entries) i
    yields_kept = ap (λ (t : Tally). t.yields) tally

    due_kept : IsDue task (known_of task s.entries) (notes_of task s.entries) i
        → IsDue task (known_of task all) (notes_of task all) i
    due_kept due =
        let more = longer s.version task s.entries (s.asks ++ answers_of s.slots) h.fit.problem.objects.names.distinct h.legal in
        let kept : (fact : Fact) → is_fact (known_of task s.entries).facts fact ≡ true → is_fact (known_of task all).facts fact ≡ true =
        λ fact e. subst (λ fs. is_fact fs fact ≡ true) (sym more.facts)
        (facts_kept (known_of task s.entries).facts (flat_map (certified task all) (s.asks ++ answers_of s.slots)) fact e) in
        let ends : list_any (is_end_of i) (notes_of task all) ≡ list_any (is_end_of i) (notes_of task s.entries) =
        ap (λ (t : Tally). t.ended) tally in
        let yielded : list_any (is_yield_of i) (notes_of task all) ≡ list_any (is_yield_of i) (notes_of task s.entries) =
        sym (yielded_some (notes_of task all) i) ∙ ap (λ n. nat_lt 0 n) yields_kept ∙ yielded_some (notes_of task s.entries) i in
        record {
          stream = due.stream;
          named = due.named;
          reachable = reachable_kept (known_of task s.entries) (known_of task all) kept due.stream i due.reachable;
          unfinished = (λ j. ends j || (is_test due.stream && yielded j)) ∙ due.unfinished;
        }

  pub rest_ready : (dues : List Due) (count : ℕ) → s.instances ≡ due_instances (take count dues)
      → AreReady task s.entries dues
      → AreReady task (after_close s).entries (drop count dues)
  rest_ready dues count front ready =
      let parts = two_parts count dues in
      let distinct = subst AreDistinct parts ready.distinct in
      let apart : (i : Instance) → Contains (due_instances (drop count dues)) i → ¬ (Contains s.instances i) =
      λ i m in_front. distinct_apart (due_instances (take count dues))
      (due_instances (drop count dues)) i distinct (subst (λ is. Contains is i) front in_front) m in
      subst (λ es. AreReady task es (drop count dues)) (sym entries_are)
      (record {
        due = λ i m. due_kept i (apart i m) (ready.due i
            (subst (λ is. Contains is i) (sym parts)
            (Contains-append_right (due_instances (take count dues)) (due_instances (drop count dues)) i m)));
        turns = turns_kept (drop count dues) apart
            (All-drop (λ (d : Due). d.turn ≡ yields_of (notes_of task s.entries) d.instance) count dues ready.turns);
        distinct = distinct_right (due_instances (take count dues)) (due_instances (drop count dues)) distinct;
      })
    where
      turns_kept : (us : List Due)
          → ((i : Instance) → Contains (due_instances us) i → ¬ (Contains s.instances i))
          → All (λ (d : Due). d.turn ≡ yields_of (notes_of task s.entries) d.instance) us
          → All (λ (d : Due). d.turn ≡ yields_of (notes_of task all) d.instance) us
      turns_kept [] apart turns =
          All-nil (λ (d : Due). d.turn ≡ yields_of (notes_of task all) d.instance)
      turns_kept (u ∷ us) apart turns =
          All-cons (λ (d : Due). d.turn ≡ yields_of (notes_of task all) d.instance) u us
          (All-head (λ (d : Due). d.turn ≡ yields_of (notes_of task s.entries) d.instance) u us turns
          ∙ sym (yields_kept u.instance (apart u.instance (contains_here u.instance (due_instances us)))))
          (turns_kept us (λ i m. apart i (contains_later u.instance (due_instances us) i m))
          (All-tail (λ (d : Due). d.turn ≡ yields_of (notes_of task s.entries) d.instance) u us turns))
