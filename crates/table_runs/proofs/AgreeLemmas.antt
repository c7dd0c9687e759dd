-- Where each child that is asked speaks by some answers, as those of a table, the answers of a transcript are these.
use Rattle.std.proofs.Common.{◌≡◌, ℕ, suc, ◌<◌, ◌≤◌, true, IfSome, List, [], ◌∷◌, length, take, drop, Option, Some, slice_get, refl, sym, ap, subst, ◌∙◌, arith, count_by, eqb-true, eq-eqb}
use Rattle.std.proofs.lemmas.List.{append-nil, take-append-drop}
use Rattle.std.proofs.lemmas.Option.{slice_get-map}
use Rattle.std.specs.List.{filter}
use Rattle.std.specs.Option.{option_map}
use Rattle.gen_lines.specs.Lines.{lines_of}
use Rattle.gen_lines.specs.Reply as reply
use Rattle.gen_lines.specs.Reply.{Reply, reply_of}
use Rattle.io_world.specs.Talks.{Talk}
use Rattle.lemmas.proofs.ListTests.{get_there}
use Rattle.lemmas.proofs.Members.{place_of, take_next}
use Rattle.pools.specs.Pools.{Workers}
use Rattle.round_run.proofs.DialogueRequestLemmas.{requests_counted}
use Rattle.round_run.specs.Dialogue.{Dialogue, IsSaid, Request, bytes_to, count_to, is_to, replies_of, requests_of, wanted_by}
use Rattle.lemmas.proofs.Counts.{count_joined}
use Rattle.session_core.specs.Slots.{replied_entry}
use Rattle.table_runs.proofs.AnswersLemmas.{answers_few}
use Rattle.table_runs.proofs.AskingLemmas.{ReadsAs, line_of_request, request_reads, written_lines}
use Rattle.table_runs.proofs.AskingPlaceLemmas.{passed_place, request_at, some_pass}
use Rattle.table_runs.proofs.YieldsLemmas.{yields_few}
use Rattle.table_runs.specs.Asking.{AnsweredBy, GoToPools, asking_by}
use Rattle.table_runs.specs.Laws.{IsLineOf}
use Rattle.task_model.specs.Fit.{IsFit}
use Rattle.task_model.specs.declared.task.Task.{Task}
use Rattle.transcript_model.proofs.LegalNumberLemmas.{asks_more, numbers_own}
use Rattle.transcript_model.proofs.LegalPrefixLemmas.{legal_take}
use Rattle.transcript_model.specs.Legal.{IsLegal, IsRightAsk, asks_of, is_answer, is_answer_to}
use Rattle.transcript_model.specs.Tables.{AgreesWith, Answers, entry_of_reply}
use Rattle.transcript_model.specs.declared.entry.Call.{Call}
use Rattle.transcript_model.specs.declared.entry.Entry.{Entry}
use Rattle.transcript_model.specs.declared.entry.Entry.TheVariants as entry
use Rattle.transcript_model.specs.declared.limits.TheConstants.{MOST_CALLS}

-- what answers a number is an answer
pub answer_is : (n : ℕ) (e : Entry) → is_answer_to n e ≡ true → is_answer e ≡ true
answer_is n (entry.Got m tuples values) to = refl
answer_is n (entry.Value m value) to = refl
answer_is n (entry.End m) to = refl
answer_is n e to = absurd (cc)

-- what a reply to a request makes answers its number
reply_number : (m n : ℕ) (r : Reply) (e : Entry) → replied_entry m r ≡ Some e → is_answer_to n e ≡ true → n ≡ m
reply_number m n (reply.yields tuples values) e is to =
    let same : entry.Got m tuples values ≡ e = cc in eqb-true n m (ap (is_answer_to n) same ∙ to)
reply_number m n (reply.number value) e is to =
    let same : entry.Value m value ≡ e = cc in eqb-true n m (ap (is_answer_to n) same ∙ to)
reply_number m n reply.ends e is to = let same : entry.End m ≡ e = cc in eqb-true n m (ap (is_answer_to n) same ∙ to)
reply_number m n (reply.bad why) e is to = absurd (cc)

reply_alone : (n : ℕ) (r : Reply) (e : Entry) → replied_entry n r ≡ Some e → entry_of_reply n r ≡ e ∷ []
reply_alone n (reply.yields tuples values) e is = let same : entry.Got n tuples values ≡ e = cc in ap (λ x. x ∷ []) same
reply_alone n (reply.number value) e is = let same : entry.Value n value ≡ e = cc in ap (λ x. x ∷ []) same
reply_alone n reply.ends e is = let same : entry.End n ≡ e = cc in ap (λ x. x ∷ []) same
reply_alone n (reply.bad why) e is = absurd (cc)

-- a front part has no more requests
pub asks_front : (entries : List Entry) (k : ℕ) → asks_of (take k entries) ≤ asks_of entries
asks_front entries k = omega (arith, ap asks_of (take-append-drop k entries), asks_more (take k entries) (drop k entries))

module _ (version : ℕ) (task : Task) (pools : List Workers) (entries : List Entry) (fit : IsFit task)
    (legal : IsLegal version task entries) (few : asks_of entries ≤ MOST_CALLS) where
  abbrev rs : List Request
  rs = requests_of task pools entries

  pub reads : (k : ℕ) (r : Request) → slice_get rs k ≡ Some r → ReadsAs r
  reads k r at =
      let a = request_at task pools [] entries k r at in
      let front = legal_take version task entries a.place legal in
      let right : IsRightAsk task (take a.place entries) r.number r.turn r.call =
      legal a.place (entry.Ask r.number r.turn r.call) a.at in
      let yields = yields_few version task (take a.place entries) right.instance front in
      let told = answers_few version task (take a.place entries) front in
      request_reads version task fit (take a.place entries) front r right.instance right.named
      (omega (arith, right.turned, yields, told, asks_front entries a.place, few))

  -- the line that was written for a request stands at its place among those of its child
  line_there : (k : ℕ) (r : Request) → slice_get rs k ≡ Some r
      → slice_get (lines_of (bytes_to r.child rs)) (count_to r.child (take k rs)) ≡ Some (line_of_request r)
  line_there k r at =
      let own : is_to r.child r ≡ true = eq-eqb r.child r.child refl in
      ap (λ ls. slice_get ls (count_to r.child (take k rs))) (written_lines r.child rs reads)
      ∙ slice_get-map line_of_request (filter (is_to r.child) rs) (count_to r.child (take k rs))
      ∙ ap (option_map line_of_request) (passed_place (is_to r.child) rs k r at own)

  pub request_line_there : (k : ℕ) (r : Request) → slice_get rs k ≡ Some r
      → (line : List ℕ) × IsLineOf line r × (slice_get (lines_of (bytes_to r.child rs)) (count_to r.child (take k rs)) ≡ Some line)
  request_line_there k r at =
      (line_of_request r, record { text = refl; asks = (reads k r at).asks }, line_there k r at)

  module _ (answers : Answers) (spoken : ℕ → Option Talk) (served : GoToPools task pools entries)
      (talks : Dialogue task version pools entries spoken) (by : AnsweredBy version task pools answers entries spoken) where
    -- the answer at a place of the answers is the one to the request at this place of the requests
    record IsAnswerOf (k : ℕ) (e : Entry) : Type 0 where
      request : Request
      at : slice_get rs k ≡ Some request
      is : replied_entry request.number (answers request.call request.turn) ≡ Some e

    answer_of : (k : ℕ) (e : Entry) → k < length rs → slice_get (replies_of entries) k ≡ Some e → IsAnswerOf k e
    answer_of k e within reply =
        let there = get_there rs k within in
        let r = there.0 in
        let own : is_to r.child r ≡ true = eq-eqb r.child r.child refl in
        let talk = by r.child (some_pass (is_to r.child) rs k r there.1 own) in
        let all : IfSome (Some talk.0) (IsSaid task version rs (replies_of entries) [] r.child) =
        subst (λ o. IfSome o (IsSaid task version rs (replies_of entries) [] r.child)) talk.1
        (talks r.child (served k r there.1) (omega (arith, within))) in
        let heard = all.answered k r e there.1 refl reply in
        let line : slice_get (lines_of talk.0.written) (count_to r.child (take k rs)) ≡ Some (line_of_request r) =
        ap (λ bytes. slice_get (lines_of bytes) (count_to r.child (take k rs)))
        (all.written ∙ append-nil (bytes_to r.child rs))
        ∙ line_there k r there.1 in
        let speaks : reply_of heard.0 (wanted_by task version r) ≡ answers r.call r.turn =
        talk.2 (count_to r.child (take k rs)) (line_of_request r) heard.0 (asking_by r) line
        (reads k r there.1).asks heard.1 in
        record { request = r; at = there.1; is = ap (replied_entry r.number) (sym speaks) ∙ heard.2 }

    -- there is a request for each answer
    answer_within : (j : ℕ) (e : Entry) → slice_get entries j ≡ Some e → is_answer e ≡ true
        → count_by is_answer (take j entries) < length rs
    answer_within j e said is =
        let front = answers_few version task (take (suc j) entries) (legal_take version task entries (suc j) legal) in
        let next = ap (count_by is_answer) (take_next entries j e said) in
        let one : count_by is_answer (e ∷ []) ≡ 1 = rw is refl in
        let joined = count_joined is_answer (take j entries) (e ∷ []) in
        omega (arith, front, next, one, joined, asks_front entries (suc j), requests_counted task pools [] entries)

    -- what the answer at this place is
    agree_at : (n turn : ℕ) (call : Call) (e : Entry) (i j : ℕ) → slice_get entries i ≡ Some (entry.Ask n turn call)
        → slice_get entries j ≡ Some e → is_answer_to n e ≡ true → entry_of_reply n (answers call turn) ≡ e ∷ []
    agree_at n turn call e i j asked said to =
        let is = answer_is n e to in
        let k = count_by is_answer (take j entries) in
        let reply : slice_get (replies_of entries) k ≡ Some e = passed_place is_answer entries j e said is in
        let a = answer_of k e (answer_within j e said is) reply in
        let r = a.request in
        let number : n ≡ r.number = reply_number r.number n (answers r.call r.turn) e a.is to in
        let own = request_at task pools [] entries k r a.at in
        let own_ask : slice_get entries own.place ≡ Some (entry.Ask n r.turn r.call) =
        own.at ∙ ap (λ m. Some (entry.Ask m r.turn r.call)) (sym number) in
        let place : i ≡ own.place = numbers_own version task entries i own.place n turn r.turn call r.call legal asked own_ask in
        let both : Some (entry.Ask n turn call) ≡ Some (entry.Ask n r.turn r.call) = sym asked ∙ ap (slice_get entries) place ∙ own_ask in
        let turns : turn ≡ r.turn = cc in
        let calls : call ≡ r.call = cc in
        ap (λ m. entry_of_reply m (answers call turn)) number ∙ (λ q. entry_of_reply r.number (answers (calls q) (turns q)))
        ∙ reply_alone r.number (answers r.call r.turn) e a.is

    pub dialogue_agrees : AgreesWith version task answers entries
    dialogue_agrees = record {
      legal = legal;
      by = λ n turn call e asked said to.
          let i = place_of entries (entry.Ask n turn call) asked in
          let j = place_of entries e said in
          agree_at n turn call e i.0 j.0 i.1 j.1 to;
    }
