-- An entry is taken, or is wrong.
use Rattle.std.proofs.Common.{◌≡◌, ℕ, ◌+◌, ◌<◌, ◌≤◌, true, false, List, [], ◌∷◌, ◌++◌, take, length, cond, count_by, refl, sym, ap, subst, ◌∙◌, None, Some, slice_get, arith}
use Rattle.std.proofs.lemmas.List.Elements.{All-contains}
use Rattle.learning.specs.Knowledge.{IsKnowledge}
use Rattle.learning.specs.declared.knowledge.Knowledge.{Knowledge}
use Rattle.lemmas.proofs.Counts.{count_joined, count_one}
use Rattle.lemmas.proofs.Members.{member_at, next_taken}
use Rattle.report_text.specs.Forms.{IsFormedEntry}
use Rattle.task_model.specs.declared.stream.Instance.{Instance}
use Rattle.task_model.specs.declared.task.Task.{Task}
use Rattle.transcript_model.proofs.LegalLemmas.{grows, mark_answers, mark_follows}
use Rattle.transcript_model.proofs.LegalNumberLemmas.{asks_marked, asks_more}
use Rattle.transcript_model.proofs.LegalPrefixLemmas.{asked-kept}
use Rattle.transcript_model.proofs.LegalStepLemmas.{mark_adds}
use Rattle.transcript_model.specs.Laws.{AddsMark}
use Rattle.transcript_model.specs.Legal.{MayFollow, answered_number, asks_of, is_answer, is_ask, is_mark}
use Rattle.transcript_model.specs.declared.entry.Call.{Call}
use Rattle.transcript_model.specs.declared.entry.Entry.{Entry}
use Rattle.transcript_model.specs.declared.entry.Entry.TheVariants as entry
use Rattle.transcript_model.specs.declared.limits.TheConstants.{MOST_CALLS}
use Rattle.legal_report.specs.Talks.{IsAskedBy}
use Rattle.legal_report.specs.Transcripts.{IsWrongEntry, FailsAtEntry}
use Rattle.legal_report.specs.Walks.{IsReadable, StandsAtEntry}
use Rattle.legal_report.specs.declared.flaw.ReportFlaw.{ReportFlaw}
use Rattle.legal_report.specs.declared.flaw.ReportFlaw.TheVariants as flaw
use Rattle.legal_report.specs.declared.walk.Walk.{Walk}

-- ---- kinds of entries

-- an answer isn't a request
answer_is : (e : Entry) (n : ℕ) → answered_number e ≡ Some n → (is_answer e ≡ true) × (is_ask e ≡ false)
answer_is (entry.Got m tuples values) n is = (refl, refl)
answer_is (entry.Value m value) n is = (refl, refl)
answer_is (entry.End m) n is = (refl, refl)
answer_is (entry.Ask m turn call) n is = absurd (cc)
answer_is entry.Level n is = absurd (cc)
answer_is (entry.Dream uses steps) n is = absurd (cc)
answer_is entry.Nothing n is = absurd (cc)
answer_is entry.Reset n is = absurd (cc)
answer_is (entry.Pick m) n is = absurd (cc)
answer_is (entry.Retire m) n is = absurd (cc)

-- an entry that is neither an answer nor a request is a mark
pub other_mark : (e : Entry) → answered_number e ≡ None
    → ((n turn : ℕ) (call : Call) → e ≡ entry.Ask n turn call → ⊥) → is_mark e ≡ true
other_mark (entry.Got m tuples values) none other = absurd (cc)
other_mark (entry.Value m value) none other = absurd (cc)
other_mark (entry.End m) none other = absurd (cc)
other_mark (entry.Ask m turn call) none other = absurd (other m turn call refl)
other_mark entry.Level none other = refl
other_mark (entry.Dream uses steps) none other = refl
other_mark entry.Nothing none other = refl
other_mark entry.Reset none other = refl
other_mark (entry.Pick m) none other = refl
other_mark (entry.Retire m) none other = refl

mark_no_ask : (e : Entry) → is_mark e ≡ true → is_ask e ≡ false
mark_no_ask (entry.Ask number turn call) m = absurd (cc)
mark_no_ask (entry.Got number tuples values) m = absurd (cc)
mark_no_ask (entry.Value number value) m = absurd (cc)
mark_no_ask (entry.End number) m = absurd (cc)
mark_no_ask entry.Level m = refl
mark_no_ask (entry.Dream uses steps) m = refl
mark_no_ask entry.Nothing m = refl
mark_no_ask entry.Reset m = refl
mark_no_ask (entry.Pick n) m = refl
mark_no_ask (entry.Retire n) m = refl

-- ---- marks

-- a mark certifies nothing
mark_knowledge : (version : ℕ) (task : Task) (entries : List Entry) (l : Knowledge) (e : Entry) → IsKnowledge version task entries l
    → is_mark e ≡ true → IsKnowledge version task (entries ++ e ∷ []) l
mark_knowledge version task entries l e h mark =
    let adds : AddsMark task entries (entries ++ e ∷ []) =
    mark_adds version task entries h.fit.problem.objects.names.distinct h.legal e mark in
    record {
      fit = h.fit;
      legal = (grows version task entries).next e h.legal (mark_follows version task entries e mark);
      known = h.known ∙ sym adds.same.known;
      notes = h.notes ∙ sym adds.same.notes;
      counted = h.counted ∙ sym adds.asks;
      asks = λ k i at. let r = h.asks k i at in
          record {
            stream = r.stream;
            streamed = r.streamed;
            asks = asked-kept task entries (e ∷ []) (k + 1) (record { stream = r.stream; instance = i }) r.asks;
          };
      unanswered = λ m. h.unanswered m ∙ sym (adds.waiting m);
      answered = let was = h.answered in
          let same = adds.asks in
          let joined : count_by is_answer (entries ++ e ∷ []) ≡ count_by is_answer entries + 0 =
          count_joined is_answer entries (e ∷ [])
          ∙ ap (λ n. count_by is_answer entries + n) (count_one is_answer e ∙ ap (λ b. cond b 1 0) (mark_answers e mark)) in
          omega (arith, was, same, joined);
    }

-- ---- entries

module _ (w : Walk) where
  pub entry_formed : IsReadable w → (place : ℕ) (e : Entry) → slice_get w.entries.now place ≡ Some e
      → IsFormedEntry w.version e
  entry_formed readable place e there =
      All-contains (IsFormedEntry w.version) w.entries.now e readable.formed (member_at w.entries.now place e there)

  module _ (place : ℕ) (l : Knowledge) (stands : StandsAtEntry w place l) (e : Entry) (there : slice_get w.entries.now place ≡ Some e) where
    stops : (why : ReportFlaw) → IsWrongEntry w.version w.task.now (take place w.entries.now) e why
        → FailsAtEntry w.version w.task.now w.entries.now place why
    stops why wrong =
        let counted = stands.knowledge.counted in
        record {
          before = record { legal = stands.knowledge.legal; few = omega (arith, counted, stands.few) };
          e = e;
          there = there;
          wrong = wrong;
        }

    -- the knowledge behind the entry, with as many requests as before
    behind : (new : Knowledge) → IsKnowledge w.version w.task.now (take place w.entries.now ++ e ∷ []) new
        → asks_of (take place w.entries.now ++ e ∷ []) ≤ MOST_CALLS
        → StandsAtEntry w (place + 1) new
    behind new knowledge few =
        let counted = knowledge.counted in
        record {
          knowledge = subst (λ es. IsKnowledge w.version w.task.now es new) (sym (next_taken w.entries.now place e there)) knowledge;
          few = omega (arith, counted, few);
        }

    few_before : is_ask e ≡ false → asks_of (take place w.entries.now ++ e ∷ []) ≤ MOST_CALLS
    few_before other =
        let counted = stands.knowledge.counted in
        let same = asks_marked (take place w.entries.now) e other in
        omega (arith, counted, same, stands.few)

    pub mark_taken : is_mark e ≡ true → StandsAtEntry w (place + 1) l
    mark_taken mark =
        behind l (mark_knowledge w.version w.task.now (take place w.entries.now) l e stands.knowledge mark) (few_before (mark_no_ask e mark))

    pub answer_taken : (n : ℕ) → answered_number e ≡ Some n → (new : Knowledge)
        → IsKnowledge w.version w.task.now (take (place + 1) w.entries.now) new → StandsAtEntry w (place + 1) new
    answer_taken n is new knowledge =
        behind new (subst (λ es. IsKnowledge w.version w.task.now es new) (next_taken w.entries.now place e there) knowledge)
        (few_before (answer_is e n is).1)

    pub answer_refused : (n : ℕ) → answered_number e ≡ Some n
        → ¬ (MayFollow w.version w.task.now (take place w.entries.now) e)
        → FailsAtEntry w.version w.task.now w.entries.now place flaw.Answer
    answer_refused n is bad = stops flaw.Answer ((answer_is e n is).0, bad)

  module _ (place : ℕ) (l : Knowledge) (stands : StandsAtEntry w place l) (number turn : ℕ) (call : Call)
      (there : slice_get w.entries.now place ≡ Some (entry.Ask number turn call)) where
    pub ask_refused : IsAskedBy MOST_CALLS w.task.now (take place w.entries.now) number turn call None
        → FailsAtEntry w.version w.task.now w.entries.now place flaw.Ask
    ask_refused said = stops place l stands (entry.Ask number turn call) there flaw.Ask said

    module _ (i : Instance) (said : IsAskedBy MOST_CALLS w.task.now (take place w.entries.now) number turn call (Some i)) where
      pub ask_number : number ≡ length l.asked.items + 1
      ask_number = let next = said.0.next in let counted = stands.knowledge.counted in omega (arith, next, counted)

      pub few_asked : length l.asked.items < MOST_CALLS
      few_asked = let is = ask_number in let most = said.1 in omega (arith, is, most)

      pub ask_taken : (new : Knowledge)
          → IsKnowledge w.version w.task.now (take place w.entries.now ++ entry.Ask number turn call ∷ []) new
          → StandsAtEntry w (place + 1) new
      ask_taken new knowledge =
          let joined = asks_more (take place w.entries.now) (entry.Ask number turn call ∷ []) in
          let one : asks_of (entry.Ask number turn call ∷ []) ≡ 1 = refl in
          let next = said.0.next in
          let most = said.1 in
          behind place l stands (entry.Ask number turn call) there new knowledge (omega (arith, joined, one, next, most))
