-- The calls of a run are brought and fetched below, entry by entry.
use Rattle.std.proofs.Common.{◌≡◌, ℕ, ◌+◌, ◌<◌, ◌≤◌, true, cond, List, [], ◌∷◌, ◌++◌, length, take, slice_get, Some, refl, sym, ap, subst, ◌∙◌, arith, append_assoc, append-nil, length-append, All, inl, inr}
use Rattle.std.proofs.Math.Seq.{take-append_seam}
use Rattle.std.proofs.lemmas.Bool.{eq-eqb}
use Rattle.std.proofs.lemmas.Bool.Decides.{eqb_tells}
use Rattle.std.proofs.lemmas.List.{take-append-le}
use Rattle.std.proofs.lemmas.List.Elements.{All-append, All-weaker}
use Rattle.std.proofs.lemmas.List.Sums.{length-filter}
use Rattle.std.proofs.lemmas.Option.{slice_get_within}
use Rattle.gen_lines.specs.Lines.{lines_of, unfinished}
use Rattle.gen_lines.specs.Reply.{reply_of}
use Rattle.io_world.specs.Talks.{Event, Talk, silence, spelled}
use Rattle.lemmas.proofs.Counts.{count_joined, count_one, count_passes}
use Rattle.lemmas.proofs.Members.{get_append, get_at_length, next_taken}
use Rattle.pools.specs.Pools.{Workers, child_for}
use Rattle.restart_host.specs.Uses.{AreDone, child_in, waiting}
use Rattle.restart_runs.proofs.CallsLemmas.{AreSame, IsNoStart, done_cut, given_in, given_no, heard_grows, line_stays, others_same, short_before, spelled_cut, taken_heard, taken_in, taken_no, words_behind}
use Rattle.restart_runs.proofs.FetchedLemmas.{AreReads, reads_done, request_line}
use Rattle.restart_runs.proofs.NextLemmas.{SayAnswers, waits_next}
use Rattle.restart_runs.proofs.PiecesLemmas.{ArePieces, pieces_done}
use Rattle.restart_runs.proofs.StandsLemmas.{Stands, follows_no, more_of, not_counted, stands_still}
use Rattle.restart_runs.specs.Again.{AreCallsAgain, Answered, FollowsAgain, words_for}
use Rattle.restart_runs.proofs.WorkersLemmas.{GoToWorkers, IsWorkerIn}
use Rattle.table_runs.specs.Asking.{AreAskedInTurn}
use Rattle.round_run.proofs.DialogueLemmas.{count_own}
use Rattle.round_run.proofs.DialogueRequestLemmas.{replies_join, requests_counted, requests_join}
use Rattle.round_run.specs.Calls.{AreCallsOf, Follows, Hearing, answers_by, next_request}
use Rattle.round_run.specs.Dialogue.{IsShortAt, Request, called_stream, count_to, is_to, last_round, replies_of, requests_after, requests_of, text_of_request, wanted_by, workers_in}
use Rattle.session_core.specs.Slots.{replied_entry}
use Rattle.table_runs.proofs.AgreeLemmas.{reads}
use Rattle.table_runs.proofs.AnswersLemmas.{answers_few}
use Rattle.table_runs.proofs.AskingLemmas.{line_of_request}
use Rattle.task_model.specs.Fit.{IsFit}
use Rattle.task_model.specs.declared.task.Task.{Task}
use Rattle.transcript_model.proofs.LegalPrefixLemmas.{legal_take}
use Rattle.transcript_model.specs.Legal.{IsLegal, asks_of, is_answer}
use Rattle.transcript_model.specs.declared.entry.Call.{Call}
use Rattle.transcript_model.specs.declared.entry.Entry.{Entry}
use Rattle.transcript_model.specs.declared.entry.Entry.TheVariants as entry
use Rattle.transcript_model.specs.declared.head.Head.{Head}
use Rattle.transcript_model.specs.declared.limits.TheConstants.{MOST_CALLS}

module _ (task : Task) (head : Head) where
  abbrev pools : List Workers
  pools = workers_in head

  abbrev rs : List Entry → List Request
  rs before = requests_of task pools before

  module _ (entries : List Entry) (fit : IsFit task) (legal : IsLegal head.version task entries) (few : asks_of entries ≤ MOST_CALLS)
      (workers : GoToWorkers task head entries) (alone : AreAskedInTurn task pools entries) (final : List Event)
      (said_all : (c : ℕ) → IsWorkerIn head c → 0 < asks_of entries
      → SayAnswers task head.version (rs entries) (replies_of entries) c (spelled c silence final).heard)
      (Begun : Type 0) (begun : 0 < asks_of entries → Begun) where
    abbrev Inv : List Entry → List Event → Type 0
    Inv before calls = (c : ℕ) → IsWorkerIn head c → Begun → Stands task head before calls c

    some_asked : (k : ℕ) (r : Request) → slice_get (rs entries) k ≡ Some r → 0 < asks_of entries
    some_asked k r at =
        let within = slice_get_within (rs entries) k r at in
        omega (arith, within, requests_counted task pools [] entries)

    -- a front part of the entries
    module _ (before es : List Entry) (whole : entries ≡ before ++ es) where
      front_is : take (length before) entries ≡ before
      front_is = ap (take (length before)) whole ∙ take-append_seam before es

      rs_more : rs entries ≡ rs before ++ requests_after task pools (last_round task [] before) es
      rs_more = ap rs whole ∙ requests_join task pools [] before es

      replies_more : replies_of entries ≡ replies_of before ++ replies_of es
      replies_more = ap replies_of whole ∙ replies_join before es

      there : (k : ℕ) (r : Request) → slice_get (rs before) k ≡ Some r → slice_get (rs entries) k ≡ Some r
      there k r at =
          ap (λ list. slice_get list k) rs_more
          ∙ get_append (rs before) (requests_after task pools (last_round task [] before) es) k r at

      front_legal : IsLegal head.version task before
      front_legal = subst (IsLegal head.version task) front_is (legal_take head.version task entries (length before) legal)

      replies_few : length (replies_of before) ≤ length (rs before)
      replies_few = omega (
        arith,
        length-filter is_answer before,
        answers_few head.version task before front_legal,
        requests_counted task pools [] before,
      )

    -- ---- a request

    module _ (before es : List Entry) (number turn : ℕ) (call : Call) (calls past now : List Event) (is : List Event)
        (whole : entries ≡ before ++ entry.Ask number turn call ∷ es) (stands : Inv before calls)
        (takes : AreCallsOf task pools calls before (entry.Ask number turn call) now) (done : AreDone calls past now is) where
      abbrev e : Entry
      e = entry.Ask number turn call

      abbrev r : Request
      r = next_request task pools before number turn call

      abbrev c : ℕ
      c = r.child

      next_whole : entries ≡ (before ++ e ∷ []) ++ es
      next_whole = whole ∙ sym (append_assoc before (e ∷ []) es)

      grew : rs (before ++ e ∷ []) ≡ rs before ++ r ∷ []
      grew = (more_of task head before e).requests

      at : slice_get (rs (before ++ e ∷ [])) (length (rs before)) ≡ Some r
      at = ap (λ list. slice_get list (length (rs before))) grew ∙ get_at_length (rs before) r

      at_end : slice_get (rs entries) (length (rs before)) ≡ Some r
      at_end = there (before ++ e ∷ []) es next_whole (length (rs before)) r at

      worker : IsWorkerIn head c
      worker = workers (length (rs before)) r at_end

      in_turn : count_to c (rs before) ≡ answers_by task pools before c
      in_turn =
          subst (λ list. count_to (child_for pools (last_round task [] list) (called_stream task call)) (rs list)
          ≡ answers_by task pools list (child_for pools (last_round task [] list) (called_stream task call)))
          (front_is before (e ∷ es) whole)
          (alone (length before) number turn call
          (ap (λ list. slice_get list (length before)) next_whole
          ∙ get_append (before ++ e ∷ []) es (length before) e (get_at_length before e)))

      one_line : lines_of (text_of_request r) ≡ line_of_request r ∷ []
      one_line =
          ap lines_of (sym (append-nil (text_of_request r)))
          ∙ (reads head.version task pools entries fit legal few (length (rs before)) r at_end).line []

      own : Stands task head before calls c
      own = stands c worker (begun (some_asked (length (rs before)) r at_end))

      idle : waiting c calls ≡ Some []
      idle = elim own.waits [
        | inl free ↦ free.0
        | inr due ↦ absurd (omega (arith, due.count, in_turn))
      ]

      pieces : ArePieces c (words_for head.pools c) [] (text_of_request r) calls past now is
      pieces =
          pieces_done c (words_for head.pools c) (line_of_request r) [] now calls past is [] (text_of_request r)
          (request_line (line_of_request r) one_line) (append-nil (text_of_request r)) own.named idle takes.each (ap (λ (t : Talk). t.written) takes.spells) done

      answers_same : (k : ℕ) → answers_by task pools (before ++ e ∷ []) k ≡ answers_by task pools before k
      answers_same k =
          ap (λ list. count_to k (take (length list) (rs (before ++ e ∷ [])))) ((more_of task head before e).replies ∙ append-nil (replies_of before))
          ∙ ap (λ list. count_to k (take (length (replies_of before)) list)) grew
          ∙ ap (count_to k) (take-append-le (length (replies_of before)) (rs before) (r ∷ []) (replies_few before (e ∷ es) whole))

      asked_after : Inv (before ++ e ∷ []) (calls ++ now)
      asked_after k is_worker some = elim (eqb_tells k c) [
        | inl same ↦ subst (Stands task head (before ++ e ∷ []) (calls ++ now)) (sym same.1) (record {
          named = words_behind c calls now (All-weaker _ IsNoStart (taken_no c) now takes.each) ∙ own.named;
          lines = ap (λ bs. length (lines_of bs)) (taken_heard c calls now takes.each) ∙ own.lines ∙ sym (answers_same c);
          part = ap unfinished (taken_heard c calls now takes.each) ∙ own.part;
          waits = inr (record {
            place = length (rs before);
            request = r;
            at = at;
            own = refl;
            waits = pieces.waits;
            earlier = ap (λ list. count_to c (take (length (rs before)) list)) grew
                ∙ ap (count_to c) (take-append_seam (rs before) (r ∷ [])) ∙ in_turn ∙ sym (answers_same c);
            count = ap (count_to c) grew ∙ count_own (rs before) r c refl ∙ ap (λ n. n + 1) (in_turn ∙ sym (answers_same c));
          });
        })
        | inr other ↦
            stands_still task head before (before ++ e ∷ []) calls (calls ++ now) k
            (others_same k c calls now (All-weaker _ (λ x. child_in x ≡ c) (taken_in c) now takes.each) other.1)
            (r ∷ []) grew (not_counted r k (λ same. other.1 (sym same))) (answers_same k) (stands k is_worker some)
      ]

      ask_brought : AreCallsAgain task head past before e is
      ask_brought = pieces.brings

    -- ---- an answer

    module _ (before es : List Entry) (e : Entry) (calls past now rest : List Event) (is : List Event)
        (whole : entries ≡ before ++ e ∷ es) (replied : replies_of (e ∷ []) ≡ e ∷ [])
        (unasked : requests_after task pools (last_round task [] before) (e ∷ []) ≡ [])
        (ends : final ≡ (calls ++ now) ++ rest) (later : All IsNoStart rest)
        (stands : Inv before calls) (hearing : Hearing task pools calls before now) (done : AreDone calls past now is) where
      abbrev q : Request
      q = hearing.request

      abbrev d : ℕ
      d = q.child

      abbrev j : ℕ
      j = length (replies_of before)

      abbrev most : ℕ
      most = answers_by task pools before d

      q_end : slice_get (rs entries) j ≡ Some q
      q_end = there before (e ∷ es) whole j q hearing.next

      q_worker : IsWorkerIn head d
      q_worker = workers j q q_end

      to_own : is_to d q ≡ true
      to_own = eq-eqb d d refl

      q_stands : Stands task head before calls d
      q_stands = stands d q_worker (begun (some_asked j q q_end))

      q_waits : (waiting d calls ≡ Some (text_of_request q)) × (count_to d (rs before) ≡ most + 1)
      q_waits = waits_next task head before calls q hearing.next q_stands

      q_line : lines_of (text_of_request q) ≡ line_of_request q ∷ []
      q_line =
          ap lines_of (sym (append-nil (text_of_request q)))
          ∙ (reads head.version task pools entries fit legal few j q q_end).line []

      -- what was said with the child in the end
      said : SayAnswers task head.version (rs entries) (replies_of entries) d (spelled d silence final).heard
      said = said_all d q_worker (some_asked j q q_end)

      more_said : (more : List ℕ) × ((spelled d silence final).heard ≡ (spelled d silence (calls ++ now)).heard ++ more)
      more_said =
          let grows = heard_grows d (spelled d silence (calls ++ now)) rest later in (
            grows.0,
            ap (λ list. (spelled d silence list).heard) ends ∙ ap (λ (t : Talk). t.heard) (spelled_cut d silence (calls ++ now) rest)
                ∙ grows.1,
          )

      next_is : replies_of entries ≡ (replies_of before ++ e ∷ []) ++ replies_of es
      next_is =
          replies_more before (e ∷ es) whole
          ∙ ap (λ list. replies_of before ++ list) (replies_join (e ∷ []) es ∙ ap (λ list. list ++ replies_of es) replied)
          ∙ sym (append_assoc (replies_of before) (e ∷ []) (replies_of es))

      e_end : slice_get (replies_of entries) j ≡ Some e
      e_end =
          ap (λ list. slice_get list j) next_is
          ∙ get_append (replies_of before ++ e ∷ []) (replies_of es) j e (get_at_length (replies_of before) e)

      count_end : count_to d (take j (rs entries)) ≡ most
      count_end =
          ap (λ list. count_to d (take j list)) (rs_more before (e ∷ es) whole)
          ∙ ap (count_to d)
          (take-append-le j (rs before) (requests_after task pools (last_round task [] before) (e ∷ es))
          (let within = slice_get_within (rs before) j q hearing.next in omega (arith, within)))

      short : IsShortAt (spelled d silence (calls ++ now)).heard most
      short =
          let many : most < count_to d (take (length (replies_of entries)) (rs entries)) =
          omega (
            arith,
            count_passes (is_to d) (rs entries) j (length (replies_of entries)) q (slice_get_within (replies_of entries) j e e_end)
                q_end to_own,
            count_end,
          ) in
          short_before (spelled d silence (calls ++ now)).heard more_said.0 most
          (subst (λ bs. IsShortAt bs most) more_said.1 (said.short most many))

      fetched : AreReads d (words_for head.pools d) (text_of_request q) most calls past now is
      fetched =
          reads_done d (words_for head.pools d) (line_of_request q) (request_line (line_of_request q) q_line) q_line most now calls past
          is q_stands.named q_waits.0 q_stands.lines hearing.reads.each hearing.reads.early hearing.line short done

      says : replied_entry q.number (reply_of fetched.line (wanted_by task head.version q)) ≡ Some e
      says =
          let known = said.answered j q e q_end refl e_end in
          let heard_end : slice_get (lines_of (spelled d silence final).heard) most ≡ Some fetched.line =
          ap (λ bs. slice_get (lines_of bs) most) more_said.1
          ∙ line_stays (spelled d silence (calls ++ now)).heard more_said.0 most fetched.line fetched.said in
          let told : slice_get (lines_of (spelled d silence final).heard) most ≡ Some known.0 =
          ap (slice_get (lines_of (spelled d silence final).heard)) (sym count_end) ∙ known.1 in
          let same : known.0 ≡ fetched.line = cc (heard_end, told) in
          ap (λ line. replied_entry q.number (reply_of line (wanted_by task head.version q))) (sym same) ∙ known.2

      answered : Answered task head past before e is
      answered = record { request = q; next = hearing.next; line = fetched.line; fetches = fetched.fetches; says = says }

      still : rs (before ++ e ∷ []) ≡ rs before
      still = (more_of task head before e).requests ∙ ap (λ list. rs before ++ list) unasked ∙ append-nil (rs before)

      now_answers : (k : ℕ) → answers_by task pools (before ++ e ∷ []) k ≡ answers_by task pools before k + count_to k (q ∷ [])
      now_answers k =
          ap (λ list. count_to k (take (length list) (rs (before ++ e ∷ []))))
          ((more_of task head before e).replies ∙ ap (λ list. replies_of before ++ list) replied)
          ∙ ap (λ n. count_to k (take n (rs (before ++ e ∷ [])))) (length-append (replies_of before) (e ∷ []))
          ∙ ap (λ list. count_to k (take (j + 1) list)) still
          ∙ ap (count_to k) (next_taken (rs before) j q hearing.next) ∙ count_joined (is_to k) (take j (rs before)) (q ∷ [])

      own_one : count_to d (q ∷ []) ≡ 1
      own_one = count_one (is_to d) q ∙ ap (λ b. cond {A = ℕ} b 1 0) to_own

      answered_after : Inv (before ++ e ∷ []) (calls ++ now)
      answered_after k is_worker some = elim (eqb_tells k d) [
        | inl same ↦ subst (Stands task head (before ++ e ∷ []) (calls ++ now)) (sym same.1) (
            let count : answers_by task pools (before ++ e ∷ []) d ≡ most + 1 = now_answers d ∙ ap (λ n. most + n) own_one in
            record {
              named = words_behind d calls now (All-weaker _ IsNoStart (given_no d) now hearing.reads.each) ∙ q_stands.named;
              lines = fetched.count ∙ sym count;
              part = fetched.part;
              waits = inl (fetched.waits, ap (count_to d) still ∙ q_waits.1 ∙ sym count);
            })
        | inr other ↦
            let none : count_to k (q ∷ []) ≡ 0 = not_counted q k (λ same. other.1 (sym same)) in
            stands_still task head before (before ++ e ∷ []) calls (calls ++ now) k
            (others_same k d calls now (All-weaker _ (λ x. child_in x ≡ d) (given_in d) now hearing.reads.each) other.1)
            [] (still ∙ sym (append-nil (rs before))) refl
            (omega (arith, now_answers k, none)) (stands k is_worker some)
      ]

    -- ---- an entry

    record Step (before : List Entry) (e : Entry) (calls past now is : List Event) : Type 0 where
      brought : AreCallsAgain task head past before e is
      after : Inv (before ++ e ∷ []) (calls ++ now)

    nothing_done : (calls past now is : List Event) → now ≡ [] → AreDone calls past now is → is ≡ []
    nothing_done calls past now is none done = subst (λ zs. AreDone calls past zs is) none done

    plain : (before : List Entry) (e : Entry) (calls now : List Event) → now ≡ []
        → requests_after task pools (last_round task [] before) (e ∷ []) ≡ [] → replies_of (e ∷ []) ≡ []
        → Inv before calls → Inv (before ++ e ∷ []) (calls ++ now)
    plain before e calls now none unasked unreplied stands k is_worker some =
        let same : AreSame k calls (calls ++ now) =
        subst (λ zs. AreSame k calls (calls ++ zs)) (sym none)
        (subst (AreSame k calls) (sym (append-nil calls)) (record { words = refl; waits = refl; said = refl })) in
        let grew : rs (before ++ e ∷ []) ≡ rs before ++ [] =
        (more_of task head before e).requests ∙ ap (λ list. rs before ++ list) unasked in
        let answers : answers_by task pools (before ++ e ∷ []) k ≡ answers_by task pools before k =
        ap (λ list. count_to k (take (length list) (rs (before ++ e ∷ []))))
        ((more_of task head before e).replies ∙ ap (λ list. replies_of before ++ list) unreplied ∙ append-nil (replies_of before))
        ∙ ap (λ list. count_to k (take (length (replies_of before)) list)) (grew ∙ append-nil (rs before)) in
        stands_still task head before (before ++ e ∷ []) calls (calls ++ now) k same [] grew refl answers (stands k is_worker some)

    step : (before es : List Entry) (e : Entry) (calls past now rest is : List Event) → entries ≡ before ++ e ∷ es
        → final ≡ (calls ++ now) ++ rest → All IsNoStart rest → Inv before calls → AreCallsOf task pools calls before e now
        → AreDone calls past now is → Step before e calls past now is
    step before es (entry.Ask number turn call) calls past now rest is whole ends later stands takes done = record {
      brought = ask_brought before es number turn call calls past now is whole stands takes done;
      after = asked_after before es number turn call calls past now is whole stands takes done;
    }
    step before es (entry.Got number tuples values) calls past now rest is whole ends later stands hearing done = record {
      brought = answered before es _ calls past now rest is whole refl refl ends later stands hearing done;
      after = answered_after before es _ calls past now rest is whole refl refl ends later stands hearing done;
    }
    step before es (entry.Value number value) calls past now rest is whole ends later stands hearing done = record {
      brought = answered before es _ calls past now rest is whole refl refl ends later stands hearing done;
      after = answered_after before es _ calls past now rest is whole refl refl ends later stands hearing done;
    }
    step before es (entry.End number) calls past now rest is whole ends later stands hearing done = record {
      brought = answered before es _ calls past now rest is whole refl refl ends later stands hearing done;
      after = answered_after before es _ calls past now rest is whole refl refl ends later stands hearing done;
    }
    step before es e calls past now rest is whole ends later stands none done = record {
      brought = nothing_done calls past now is none done;
      after = plain before e calls now none refl refl stands;
    }

    -- The calls of these entries are brought and fetched, and each child stands behind them as it should.
    pub record Followed (before es : List Entry) (calls past events is : List Event) : Type 0 where
      pub again : FollowsAgain task head past before es is
      pub after : Inv (before ++ es) (calls ++ events)

    pub followed : (before es : List Entry) (calls past events is rest : List Event) → entries ≡ before ++ es
        → final ≡ (calls ++ events) ++ rest → All IsNoStart rest → Inv before calls
        → Follows task pools calls before es events → AreDone calls past events is
        → Followed before es calls past events is
    followed before [] calls past events is rest whole ends later stands follows done = record {
      again = nothing_done calls past events is follows done;
      after = λ c worker some.
          subst (λ es. Stands task head es (calls ++ events) c) (sym (append-nil before))
          (subst (λ zs. Stands task head before zs c) (sym (ap (λ zs. calls ++ zs) follows ∙ append-nil calls)) (stands c worker some));
    }
    followed before (e ∷ es) calls past events is rest whole ends later stands follows done =
        let cut = done_cut calls past follows.0 follows.1 is (subst (λ zs. AreDone calls past zs is) follows.2 done) in
        let joined : calls ++ events ≡ (calls ++ follows.0) ++ follows.1 =
        ap (λ zs. calls ++ zs) follows.2 ∙ sym (append_assoc calls follows.0 follows.1) in
        let one = step before es e calls past follows.0 (follows.1 ++ rest) cut.now whole
        (ends ∙ ap (λ zs. zs ++ rest) joined ∙ append_assoc (calls ++ follows.0) follows.1 rest)
        (All-append IsNoStart follows.1 rest (follows_no task pools (calls ++ follows.0) (before ++ e ∷ []) es follows.1 follows.4) later)
        stands follows.3 cut.first in
        let others = followed (before ++ e ∷ []) es (calls ++ follows.0) (past ++ cut.now) follows.1 cut.later rest
        (whole ∙ sym (append_assoc before (e ∷ []) es)) (ends ∙ ap (λ zs. zs ++ rest) joined) later one.after follows.4 cut.second in
        record {
          again = (cut.now, cut.later, cut.cut, one.brought, others.again);
          after = λ c worker some.
              subst (λ zs. Stands task head zs (calls ++ events) c) (append_assoc before (e ∷ []) es)
              (subst (λ zs. Stands task head ((before ++ e ∷ []) ++ es) zs c) (sym joined) (others.after c worker some));
        }
