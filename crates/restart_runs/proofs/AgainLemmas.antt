-- Where each child speaks by some answers in each of its lives, the answers of a transcript are these.
use Rattle.std.proofs.Common.{◌≡◌, ℕ, zero, suc, ◌≤◌, true, List, [], ◌∷◌, ◌++◌, length, take, Some, slice_get, sym, ap, subst, ◌∙◌, arith, append_assoc, eqb-true}
use Rattle.std.proofs.lemmas.List.{append-nil, append_cancel_right}
use Rattle.gen_lines.specs.Lines.{lines_of}
use Rattle.gen_lines.specs.Reply as reply
use Rattle.gen_lines.specs.Reply.{Reply, reply_of}
use Rattle.io_world.specs.Talks.{Event, Talk, silence, spelled}
use Rattle.lemmas.proofs.Members.{from_take, place_of}
use Rattle.pools.specs.Pools.{Workers}
use Rattle.restart_host.proofs.CourseLemmas.{moment_spelled}
use Rattle.restart_host.specs.Lives.{lines_from, lines_to, moment_by, moment_of}
use Rattle.restart_runs.specs.Again.{AreCallsAgain, Answered, FollowsAgain}
use Rattle.restart_runs.specs.Tabled.{SpeakAgain}
use Rattle.round_run.specs.Dialogue.{Request, replies_of, requests_of, wanted_by, workers_in}
use Rattle.session_core.specs.Slots.{replied_entry}
use Rattle.table_runs.proofs.AgreeLemmas.{answer_is, asks_front, reads}
use Rattle.table_runs.proofs.AskingLemmas.{line_of_request}
use Rattle.table_runs.proofs.AskingPlaceLemmas.{request_at}
use Rattle.table_runs.specs.Asking.{asking_by}
use Rattle.task_model.specs.Fit.{IsFit}
use Rattle.task_model.specs.declared.task.Task.{Task}
use Rattle.transcript_model.proofs.LegalNumberLemmas.{numbers_own}
use Rattle.transcript_model.proofs.LegalPrefixLemmas.{legal_take}
use Rattle.transcript_model.specs.Legal.{IsLegal, asks_of, is_answer, is_answer_to}
use Rattle.transcript_model.specs.Tables.{AgreesWith, Answers, entry_of_reply}
use Rattle.transcript_model.specs.declared.entry.Call.{Call}
use Rattle.transcript_model.specs.declared.entry.Entry.{Entry}
use Rattle.transcript_model.specs.declared.entry.Entry.TheVariants as entry
use Rattle.transcript_model.specs.declared.head.Head.{Head}
use Rattle.transcript_model.specs.declared.limits.TheConstants.{MOST_CALLS}

-- a reply that makes an answer to a number makes this one alone, and is to the request of that number
reply_tells : (m n : ℕ) (r : Reply) (e : Entry) → replied_entry m r ≡ Some e → is_answer_to n e ≡ true
    → (n ≡ m) × (entry_of_reply m r ≡ e ∷ [])
reply_tells m n (reply.yields tuples values) e is to =
    let same : entry.Got m tuples values ≡ e = cc in
    (eqb-true n m (ap (is_answer_to n) same ∙ to), ap (λ x. x ∷ []) same)
reply_tells m n (reply.number value) e is to =
    let same : entry.Value m value ≡ e = cc in
    (eqb-true n m (ap (is_answer_to n) same ∙ to), ap (λ x. x ∷ []) same)
reply_tells m n reply.ends e is to =
    let same : entry.End m ≡ e = cc in (eqb-true n m (ap (is_answer_to n) same ∙ to), ap (λ x. x ∷ []) same)
reply_tells m n (reply.bad why) e is to = absurd (cc)

-- the lines of a child at a moment that is told otherwise
asked_there : (was now past front : List Event) (r : Request) (place : ℕ) (request : List ℕ) → was ++ now ≡ past ++ front
    → request ≡ line_of_request r → slice_get (lines_to (moment_by r.child (moment_of r.child was) now)) place ≡ Some request
    → slice_get (lines_of (spelled r.child silence (past ++ front)).written) place ≡ Some (line_of_request r)
asked_there was now past front r place request moment line asked =
    ap (λ list. slice_get (lines_of (spelled r.child silence list).written) place) (sym moment)
    ∙ ap (λ (talk : Talk). slice_get (lines_of talk.written) place) (sym (moment_spelled r.child was now)) ∙ asked ∙ ap Some line

said_there : (was now past front : List Event) (r : Request) (place : ℕ) (line : List ℕ) → was ++ now ≡ past ++ front
    → slice_get (lines_from (moment_by r.child (moment_of r.child was) now)) place ≡ Some line
    → slice_get (lines_of (spelled r.child silence (past ++ front)).heard) place ≡ Some line
said_there was now past front r place line moment said =
    ap (λ list. slice_get (lines_of (spelled r.child silence list).heard) place) (sym moment)
    ∙ ap (λ (talk : Talk). slice_get (lines_of talk.heard) place) (sym (moment_spelled r.child was now)) ∙ said

module _ (task : Task) (head : Head) where
  -- the calls by which the entry at a place came: which calls and which entries came before
  record CalledAt (past : List Event) (before entries : List Entry) (events : List Event) (j : ℕ) (e : Entry) : Type 0 where
    front : List Event
    now : List Event
    later : List Event
    cut : events ≡ (front ++ now) ++ later
    was : List Event
    was_is : was ≡ past ++ front
    prior : List Entry
    prior_is : prior ≡ before ++ take j entries
    calls : AreCallsAgain task head was prior e now

  called_at : (past : List Event) (before entries : List Entry) (events : List Event)
      → FollowsAgain task head past before entries events → (j : ℕ) (e : Entry) → slice_get entries j ≡ Some e
      → CalledAt past before entries events j e
  called_at past before [] events follows j e at = absurd (cc)
  called_at past before (x ∷ entries) events follows zero e at =
      let same : x ≡ e = cc in
      record {
        front = [];
        now = follows.0;
        later = follows.1;
        cut = follows.2;
        was = past;
        was_is = sym (append-nil past);
        prior = before;
        prior_is = sym (append-nil before);
        calls = subst (λ (y : Entry). AreCallsAgain task head past before y follows.0) same follows.3;
      }
  called_at past before (x ∷ entries) events follows (suc j) e at =
      let rest = called_at (past ++ follows.0) (before ++ x ∷ []) entries follows.1 follows.4 j e at in
      record {
        front = follows.0 ++ rest.front;
        now = rest.now;
        later = rest.later;
        cut = follows.2 ∙ ap (λ list. follows.0 ++ list) rest.cut ∙ sym (append_assoc follows.0 (rest.front ++ rest.now) rest.later)
            ∙ ap (λ list. list ++ rest.later) (sym (append_assoc follows.0 rest.front rest.now));
        was = rest.was;
        was_is = rest.was_is ∙ append_assoc past follows.0 rest.front;
        prior = rest.prior;
        prior_is = rest.prior_is ∙ append_assoc before (x ∷ []) (take j entries);
        calls = rest.calls;
      }

  answered_by : (was : List Event) (prior : List Entry) (e : Entry) (now : List Event) → is_answer e ≡ true
      → AreCallsAgain task head was prior e now → Answered task head was prior e now
  answered_by was prior (entry.Got n tuples values) now is calls = calls
  answered_by was prior (entry.Value n value) now is calls = calls
  answered_by was prior (entry.End n) now is calls = calls
  answered_by was prior (entry.Ask n turn call) now is calls = absurd (cc)
  answered_by was prior e now is calls = absurd (cc)

  module _ (answers : Answers) (entries : List Entry) (past events : List Event) (fit : IsFit task)
      (legal : IsLegal head.version task entries) (few : asks_of entries ≤ MOST_CALLS)
      (follows : FollowsAgain task head past [] entries events)
      (speak : SpeakAgain head.version task answers past events) where
    abbrev pools : List Workers
    pools = workers_in head

    -- the answer at a place is the one by which its child speaks, to a request that stands before it
    record IsAnswerAt (j : ℕ) (e : Entry) : Type 0 where
      request : Request
      place : ℕ
      at : slice_get entries place ≡ Some (entry.Ask request.number request.turn request.call)
      is : replied_entry request.number (answers request.call request.turn) ≡ Some e

    answer_at : (j : ℕ) (e : Entry) → slice_get entries j ≡ Some e → is_answer e ≡ true → IsAnswerAt j e
    answer_at j e at is =
        let called = called_at past [] entries events follows j e at in
        let a = answered_by called.was called.prior e called.now is called.calls in
        let r = a.request in
        let k = length (replies_of called.prior) in
        let next : slice_get (requests_of task pools (take j entries)) k ≡ Some r =
        ap (λ list. slice_get (requests_of task pools list) k) (sym called.prior_is) ∙ a.next in
        let front = legal_take head.version task entries j legal in
        let small : asks_of (take j entries) ≤ MOST_CALLS = omega (arith, asks_front entries j, few) in
        let asks = (reads head.version task pools (take j entries) fit front small k r next).asks in
        let own = request_at task pools [] (take j entries) k r next in
        let place = a.fetches.fetched.place in
        let line : a.fetches.fetched.asked.request ≡ line_of_request r =
        append_cancel_right a.fetches.fetched.asked.request (line_of_request r) (10 ∷ []) a.fetches.fetched.asked.spelt in
        let moment : called.was ++ called.now ≡ past ++ (called.front ++ called.now) =
        ap (λ list. list ++ called.now) called.was_is ∙ append_assoc past called.front called.now in
        let speaks : reply_of a.line (wanted_by task head.version r) ≡ answers r.call r.turn =
        speak r.child (called.front ++ called.now) called.later called.cut place (line_of_request r) a.line (asking_by r)
        (asked_there called.was called.now past (called.front ++ called.now) r place a.fetches.fetched.asked.request moment line a.fetches.fetched.asked.at)
        asks
        (said_there called.was called.now past (called.front ++ called.now) r place a.line moment a.fetches.fetched.said.at) in
        record {
          request = r;
          place = own.place;
          at = (from_take entries j own.place (entry.Ask r.number r.turn r.call) own.at).1;
          is = ap (replied_entry r.number) (sym speaks) ∙ a.says;
        }

    -- what the answer at this place is
    agree_at : (n turn : ℕ) (call : Call) (e : Entry) (i j : ℕ) → slice_get entries i ≡ Some (entry.Ask n turn call)
        → slice_get entries j ≡ Some e → is_answer_to n e ≡ true → entry_of_reply n (answers call turn) ≡ e ∷ []
    agree_at n turn call e i j asked said to =
        let a = answer_at j e said (answer_is n e to) in
        let r = a.request in
        let tells = reply_tells r.number n (answers r.call r.turn) e a.is to in
        let number : n ≡ r.number = tells.0 in
        let own_ask : slice_get entries a.place ≡ Some (entry.Ask n r.turn r.call) =
        a.at ∙ ap (λ m. Some (entry.Ask m r.turn r.call)) (sym number) in
        let place : i ≡ a.place = numbers_own head.version task entries i a.place n turn r.turn call r.call legal asked own_ask in
        let both : Some (entry.Ask n turn call) ≡ Some (entry.Ask n r.turn r.call) = sym asked ∙ ap (slice_get entries) place ∙ own_ask in
        let turns : turn ≡ r.turn = cc in
        let calls : call ≡ r.call = cc in
        ap (λ m. entry_of_reply m (answers call turn)) number ∙ (λ q. entry_of_reply r.number (answers (calls q) (turns q)))
        ∙ tells.1

    pub again_agrees : AgreesWith head.version task answers entries
    again_agrees = record {
      legal = legal;
      by = λ n turn call e asked said to.
          let i = place_of entries (entry.Ask n turn call) asked in
          let j = place_of entries e said in
          agree_at n turn call e i.0 j.0 i.1 j.1 to;
    }
