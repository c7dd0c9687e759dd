-- A request or an answer is taken, or is wrong.
use Rattle.std.proofs.Common.{◌≡◌, ℕ, ◌+◌, ◌<◌, ◌≤◌, ◌⊎◌, inl, inr, true, false, List, [], ◌∷◌, ◌++◌, take, length, refl, sym, subst, ◌∙◌, Option, Some, None, slice_get, arith}
use Rattle.std.proofs.lemmas.Bool.{false≢true, true≢false}
use Rattle.std.proofs.lemmas.List.Elements.{All-contains}
use Rattle.lemmas.proofs.Members.{member_at, next_taken}
use Rattle.course_check.specs.BatchAgendas.{IsAnswered, with_asked}
use Rattle.course_check.specs.Agendas.{HasSettled, KeepsRun, ModeAgenda, with_agenda}
use Rattle.pools.specs.Pools.{shares_of}
use Rattle.report_text.specs.Forms.{IsFormedEntry}
use Rattle.task_model.specs.declared.stream.Instance.{Instance}
use Rattle.task_model.specs.declared.task.Task.{Task}
use Rattle.learning.specs.Knowledge.{IsKnowledge}
use Rattle.legal_report.specs.Talks.{IsAskedBy}
use Rattle.learning.specs.declared.knowledge.Knowledge.{Knowledge}
use Rattle.transcript_model.specs.Legal.{IsRightAsk, MayFollow, answered_number, is_answer, is_ask}
use Rattle.transcript_model.specs.Rounds.{Limits}
use Rattle.transcript_model.specs.declared.entry.Call.{Call}
use Rattle.transcript_model.specs.declared.entry.DreamUse.{DreamUse}
use Rattle.transcript_model.specs.declared.entry.Entry.{Entry}
use Rattle.transcript_model.specs.declared.entry.Entry.TheVariants as entry
use Rattle.replay_check.proofs.HeadsPoolLemmas.{last_or_before}
use Rattle.replay_check.proofs.NextLemmas.{answer_no_mark, next_answer, next_request}
use Rattle.replay_check.proofs.StandingsAnswerLemmas.{answer_onward, keeps}
use Rattle.replay_check.proofs.StandingsAskLemmas.{ask_onward}
use Rattle.replay_check.proofs.WrongLemmas.{out_of_order, wrong_answer, wrong_ask, wrong_order}
use Rattle.replay_check.specs.Standings.{AreDecided, IsNextRequest, IsStanding, IsWrong, StandsBehind, limits_by}
use Rattle.replay_check.specs.Turns.{SettlesOn}
use Rattle.replay_check.specs.Verdicts.{IsOpenNone}
use Rattle.replay_check.specs.Walks.{CanTake, IsWrongAt}
use Rattle.replay_check.specs.declared.bounds.Bounds.{Bounds}
use Rattle.replay_check.specs.declared.standing.Standing.{Standing}
use Rattle.replay_check.specs.declared.verdict.BreachKind.{BreachKind}
use Rattle.replay_check.specs.declared.verdict.BreachKind.TheVariants as kind

pub entry_formed : (b : Bounds) (entries : List Entry) (place : ℕ) (s : Standing) (e : Entry)
    → CanTake b entries place s
    → slice_get entries place ≡ Some e → IsFormedEntry b.version e
entry_formed b entries place s e can there =
    All-contains (IsFormedEntry b.version) entries e can.formed (member_at entries place e there)

-- an answer isn't a request
answer_is : (e : Entry) (n : ℕ) → answered_number e ≡ Some n
    → (is_answer e ≡ true) × (is_ask e ≡ false)
answer_is (entry.Got m tuples values) n is = (refl, refl)
answer_is (entry.Value m value) n is = (refl, refl)
answer_is (entry.End m) n is = (refl, refl)
answer_is (entry.Ask m turn call) n is = absurd (cc)
answer_is entry.Level n is = absurd (cc)
answer_is (entry.Dream uses steps) n is = absurd (cc)
answer_is entry.Nothing n is = absurd (cc)
answer_is entry.Reset n is = absurd (cc)
answer_is (entry.Pick m) n is = absurd (cc)
answer_is (entry.Retire m) n is = absurd (cc)

decided_more : (limit : ℕ) (limits : Limits) (task : Task) (es : List Entry) (e : Entry) → AreDecided limit limits task es
    → (e ≡ entry.Nothing → ¬ (IsOpenNone limit limits task es)) → AreDecided limit limits task (es ++ e ∷ [])
decided_more limit limits task es e so_far here place at unsure = by (last_or_before es e place entry.Nothing at)
  where
    by : ((slice_get es place ≡ Some entry.Nothing) × (take place (es ++ e ∷ []) ≡ take place es))
        ⊎ ((e ≡ entry.Nothing) × (take place (es ++ e ∷ []) ≡ es)) → ⊥
    by (inl (there, front)) = so_far place there (subst (IsOpenNone limit limits task) front unsure)
    by (inr (is, front)) = here is (subst (IsOpenNone limit limits task) front unsure)

module _ (b : Bounds) (entries : List Entry) (place : ℕ) (s : Standing) (can : CanTake b entries place s)
    (e : Entry) (there : slice_get entries place ≡ Some e) where
  -- a line of the entry is wrong, where the judge stands
  pub is_wrong : (offset : ℕ) (k : BreachKind) → IsWrong b.limit (limits_by b) b.task.now (take place entries) e offset k
      → IsWrongAt b entries place offset k
  is_wrong offset k wrong = record { before = s; standing = can.standing; e = e; there = there; is = wrong }

  -- the judge stands behind it
  pub is_taken : (new : Standing)
      → StandsBehind (limits_by b) b.task.now (take place entries ++ e ∷ []) new.knowledge new.course
      → (e ≡ entry.Nothing → ¬ (IsOpenNone b.limit (limits_by b) b.task.now (take place entries)))
      → IsStanding b (take (place + 1) entries) new
  is_taken new stands closed =
      subst (λ es. IsStanding b es new) (sym (next_taken entries place e there))
      (record {
        stands = stands;
        decided = decided_more b.limit (limits_by b) b.task.now (take place entries) e can.standing.decided closed;
      })

  pub few_asked : length s.knowledge.asked.items ≤ 100000
  few_asked =
      let counted = can.standing.stands.knowledge.counted in
      let left = can.standing.stands.counts.left in
      let few = can.bounds.calls in
      omega (arith, counted, left, few)

-- ---- requests

module _ (b : Bounds) (entries : List Entry) (place : ℕ) (s : Standing) (can : CanTake b entries place s) (number turn : ℕ)
    (call : Call) (there : slice_get entries place ≡ Some (entry.Ask number turn call)) where
  pub ask_is_refused : (asked : Option Instance) → asked ≡ None
      → IsAskedBy b.calls b.task.now (take place entries) number turn call asked
      → IsWrongAt b entries place 0 kind.Ask
  ask_is_refused asked none said =
      is_wrong b entries place s can (entry.Ask number turn call) there 0 kind.Ask
      (wrong_ask b.limit (limits_by b) b.task.now (take place entries) (entry.Ask number turn call) refl
      (subst (IsAskedBy b.calls b.task.now (take place entries) number turn call) none said))

  pub ask_out_of_order : (i : Instance)
      → IsAskedBy b.calls b.task.now (take place entries) number turn call (Some i)
      → ¬ (IsNextRequest b.task.now s.knowledge s.course.batch number turn call) → IsWrongAt b entries place 0 kind.Order
  ask_out_of_order i said other =
      is_wrong b entries place s can (entry.Ask number turn call) there 0 kind.Order
      (wrong_order b.limit (limits_by b) b.task.now (take place entries) (entry.Ask number turn call)
      (λ is. (said.0, said.1)) (λ is. absurd (false≢true is))
      (λ begun. other
      (next_request (limits_by b) b.task.now (take place entries) s.knowledge s.course can.standing.stands number turn call
      begun)))

  -- the request has the next number, of which there are as many as calls at the most
  pub ask_number : (i : Instance)
      → IsAskedBy b.calls b.task.now (take place entries) number turn call (Some i)
      → (number ≡ length s.knowledge.asked.items + 1) × (length s.knowledge.asked.items < 100000)
  ask_number i said =
      let next = said.0.next in
      let counted = can.standing.stands.knowledge.counted in
      let few = can.bounds.calls in
      let most = said.1 in
      (omega (arith, next, counted), omega (arith, next, counted, few, most))

  pub ask_taken : (new : Standing) → IsNextRequest b.task.now s.knowledge s.course.batch number turn call
      → IsRightAsk b.task.now (take place entries) number turn call
      → IsKnowledge b.version b.task.now (take place entries ++ entry.Ask number turn call ∷ []) new.knowledge
      → new.course ≡ with_agenda s.course (with_asked s.course.batch)
      → IsStanding b (take (place + 1) entries) new
  ask_taken new next right knowledge course =
      is_taken b entries place s can (entry.Ask number turn call) there new
      (subst (λ (a : ModeAgenda).
      StandsBehind (limits_by b) b.task.now (take place entries ++ entry.Ask number turn call ∷ []) new.knowledge a) (sym course)
      (ask_onward (limits_by b) b.task.now (take place entries) s.knowledge s.course can.standing.stands number turn call next right
      new.knowledge knowledge)) (λ is. absurd (cc))

-- ---- answers

module _ (b : Bounds) (entries : List Entry) (place : ℕ) (s : Standing) (can : CanTake b entries place s) (n : ℕ)
    (e : Entry) (there : slice_get entries place ≡ Some e) (is : answered_number e ≡ Some n) where
  pub answer_refused : ¬ (MayFollow b.version b.task.now (take place entries) e)
      → IsWrongAt b entries place 0 kind.Answer
  answer_refused bad =
      let kinds = answer_is e n is in
      is_wrong b entries place s can e there 0 kind.Answer
      (wrong_answer b.limit (limits_by b) b.task.now (take place entries) e kinds.0 kinds.1 bad)

  pub answer_out_of_order : MayFollow b.version b.task.now (take place entries) e
      → ¬ ((n ≡ s.course.batch.next) × (s.course.batch.to_ask ≡ []) × (0 < s.course.batch.answers))
      → IsWrongAt b entries place 0 kind.Order
  answer_out_of_order may other =
      let kinds = answer_is e n is in
      is_wrong b entries place s can e there 0 kind.Order
      (wrong_order b.limit (limits_by b) b.task.now (take place entries) e
      (λ ask. absurd (false≢true (sym kinds.1 ∙ ask))) (λ answer. may)
      (out_of_order b.limit (limits_by b) b.task.now (take place entries) e (answer_no_mark e n is)
      (λ begun. other
      (next_answer (limits_by b) b.task.now (take place entries) s.knowledge s.course can.standing.stands e n is begun))))

  -- the batch went on behind it
  pub record Answers (course : ModeAgenda) : Type 0 where
    pub may : MayFollow b.version b.task.now (take place entries) e
    pub next : n ≡ s.course.batch.next
    pub none : s.course.batch.to_ask ≡ []
    pub some : 0 < s.course.batch.answers
    pub batch : IsAnswered (shares_of b.pools.now) s.course.batch course.batch
    pub rest : course ≡ with_agenda s.course course.batch

  module _ (course : ModeAgenda) (a : Answers course) where
    -- a dream that is run is behind it
    pub answer_keeps : KeepsRun b.calls (take (place + 1) entries) course
    answer_keeps =
        subst (λ (x : ModeAgenda). KeepsRun b.calls (take (place + 1) entries) x) (sym a.rest)
        (subst (λ es. KeepsRun b.calls es (with_agenda s.course course.batch)) (sym (next_taken entries place e there))
        (keeps (limits_by b) b.task.now (take place entries) s.knowledge s.course can.standing.stands n e is a.next a.none a.some a.may
        can.bounds.workers can.bounds.calls course.batch a.batch))

    pub answer_taken : (l : Knowledge) (new : Standing) → IsKnowledge b.version b.task.now (take (place + 1) entries) l
        → SettlesOn b (take (place + 1) entries) (record { knowledge = l; course = course }) new
        → IsStanding b (take (place + 1) entries) new
    answer_taken l new knowledge h =
        let task = b.task.now in
        let known = l.facts.known in
        let after = take place entries ++ e ∷ [] in
        let settled =
        subst (λ es. HasSettled task known l.queue es (shares_of b.pools.now) b.calls (with_agenda s.course course.batch) new.course)
        (next_taken entries place e there)
        (subst (λ (x : ModeAgenda). HasSettled task known l.queue (take (place + 1) entries) (shares_of b.pools.now) b.calls x new.course)
        a.rest h.settled) in
        is_taken b entries place s can e there new
        (subst (λ (x : Knowledge). StandsBehind (limits_by b) task after x new.course) (sym h.knowledge_is)
        (answer_onward (limits_by b) task (take place entries) s.knowledge s.course can.standing.stands n e is a.next a.none a.some a.may
        can.bounds.workers can.bounds.calls course.batch a.batch l new.course
        (subst (λ es. IsKnowledge b.version task es l) (next_taken entries place e there) knowledge) settled))
        (λ nothing. absurd (true≢false (sym (answer_is e n is).0 ∙ (λ k. is_answer (nothing k)))))

-- ---- all other entries

-- an entry that answers nothing is a request or a mark
pub other_refused : (b : Bounds) (entries : List Entry) (place : ℕ) (e : Entry) → answered_number e ≡ None
    → ((n turn : ℕ) (call : Call) → e ≡ entry.Ask n turn call → ⊥) → ¬ (e ≡ entry.Level)
    → ((uses : List DreamUse) (steps : List Call) → e ≡ entry.Dream uses steps → ⊥) → ¬ (e ≡ entry.Nothing)
    → ¬ (e ≡ entry.Reset) → ((n : ℕ) → e ≡ entry.Pick n → ⊥) → ((n : ℕ) → e ≡ entry.Retire n → ⊥)
    → IsWrongAt b entries place 0 kind.Order
other_refused b entries place (entry.Got n tuples values) none ask level dream nothing reset pick retire = absurd (cc)
other_refused b entries place (entry.Value n value) none ask level dream nothing reset pick retire = absurd (cc)
other_refused b entries place (entry.End n) none ask level dream nothing reset pick retire = absurd (cc)
other_refused b entries place (entry.Ask n turn call) none ask level dream nothing reset pick retire = absurd (ask n turn call refl)
other_refused b entries place entry.Level none ask level dream nothing reset pick retire = absurd (level refl)
other_refused b entries place (entry.Dream uses steps) none ask level dream nothing reset pick retire = absurd (dream uses steps refl)
other_refused b entries place entry.Nothing none ask level dream nothing reset pick retire = absurd (nothing refl)
other_refused b entries place entry.Reset none ask level dream nothing reset pick retire = absurd (reset refl)
other_refused b entries place (entry.Pick n) none ask level dream nothing reset pick retire = absurd (pick n refl)
other_refused b entries place (entry.Retire n) none ask level dream nothing reset pick retire = absurd (retire n refl)
