-- Children speak by the answers of each table with which a transcript without open requests agrees.
use Rattle.std.proofs.Common.{◌≡◌, ℕ, ◌<◌, ◌≤◌, Bool, true, ◌||◌, ◌==◌, Contains, IfSome, List, [], ◌∷◌, length, map, take, Option, Some, slice_get, refl, sym, ap, subst, ◌∙◌, arith, count_by, eqb-true, eq-eqb, inl, inr}
use Rattle.std.proofs.lemmas.Bool.{or_cases}
use Rattle.std.proofs.lemmas.List.{append-nil, length-map}
use Rattle.std.proofs.lemmas.List.Sums.{length-filter}
use Rattle.std.proofs.lemmas.Map.Keys.{any_passes_from_place}
use Rattle.std.proofs.lemmas.Option.{slice_get-map, slice_get_within}
use Rattle.std.specs.List.{filter, list_any}
use Rattle.gen_lines.specs.Lines.{lines_of}
use Rattle.gen_lines.specs.Reply as reply
use Rattle.gen_lines.specs.Reply.{Reply, reply_of}
use Rattle.io_world.specs.Talks.{Talk}
use Rattle.lemmas.proofs.Ascending.{contains_here, contains_later}
use Rattle.lemmas.proofs.Bools.{second_too}
use Rattle.lemmas.proofs.ListTests.{get_there}
use Rattle.lemmas.proofs.Members.{member_at, place_of}
use Rattle.lemmas.proofs.Options.{same_some}
use Rattle.lemmas.proofs.Pigeonhole.{pigeons}
use Rattle.lemmas.specs.Lists.{AreDistinct}
use Rattle.turn_laws.proofs.PlainLevelLemmas.{in_filter}
use Rattle.turn_laws.specs.Own.{reply_by}
use Rattle.pools.specs.Pools.{Workers}
use Rattle.round_run.proofs.RollingPrintLemmas.{answers_number}
use Rattle.round_run.specs.Dialogue.{Dialogue, IsOneOf, IsSaid, Request, bytes_to, called_stream, count_to, is_to, replies_of, requests_of, wanted_by}
use Rattle.lemmas.proofs.Counts.{count_joined, count_one}
use Rattle.session_core.specs.Slots.{replied_entry, wanted_at}
use Rattle.table_runs.proofs.AgreeLemmas.{reads}
use Rattle.table_runs.proofs.AskingLemmas.{line_of_request, written_lines}
use Rattle.table_runs.proofs.AskingPlaceLemmas.{passing_at, passing_there, request_at}
use Rattle.table_runs.specs.Asking.{AnsweredBy, AskedTell, Asking, GoToPools, SpeaksBy, asked_by, asking_by}
use Rattle.task_model.specs.Fit.{IsFit}
use Rattle.task_model.specs.declared.task.Task.{Task}
use Rattle.transcript_model.proofs.LegalNumberLemmas.{numbers_own}
use Rattle.transcript_model.proofs.NamesLemmas.{map_some}
use Rattle.transcript_model.specs.Legal.{HasNoneOpen, asks_of, is_answer, is_answer_to, is_ask_of}
use Rattle.transcript_model.specs.Tables.{AgreesWith, Answers, entry_of_reply}
use Rattle.transcript_model.specs.declared.entry.Entry.{Entry}
use Rattle.transcript_model.specs.declared.entry.Entry.TheVariants as entry
use Rattle.transcript_model.specs.declared.limits.TheConstants.{MOST_CALLS}

-- ---- answers and replies

-- the numbers that are answered
answered_numbers : List Entry → List ℕ
answered_numbers [] = []
answered_numbers (entry.Got n tuples values ∷ es) = n ∷ answered_numbers es
answered_numbers (entry.Value n value ∷ es) = n ∷ answered_numbers es
answered_numbers (entry.End n ∷ es) = n ∷ answered_numbers es
answered_numbers (e ∷ es) = answered_numbers es

numbers_counted : (es : List Entry) → length (answered_numbers es) ≡ count_by is_answer es
unfolding answered_numbers
numbers_counted [] = refl
numbers_counted (entry.Got n tuples values ∷ es) =
    omega (
      arith,
      numbers_counted es,
      count_joined is_answer (entry.Got n tuples values ∷ []) es,
      count_one is_answer (entry.Got n tuples values),
    )
numbers_counted (entry.Value n value ∷ es) =
    omega (arith, numbers_counted es, count_joined is_answer (entry.Value n value ∷ []) es, count_one is_answer (entry.Value n value))
numbers_counted (entry.End n ∷ es) =
    omega (arith, numbers_counted es, count_joined is_answer (entry.End n ∷ []) es, count_one is_answer (entry.End n))
numbers_counted (e ∷ es) = omega (arith, numbers_counted es, count_joined is_answer (e ∷ []) es, count_one is_answer e)

here_or_later : (n m : ℕ) (ms : List ℕ) (later : Bool) → ((n == m) || later) ≡ true → (later ≡ true → Contains ms n)
    → Contains (m ∷ ms) n
here_or_later n m ms later is then =
    elim (or_cases (n == m) later is) [
      | inl same ↦ subst (Contains (m ∷ ms)) (sym (eqb-true n m same)) (contains_here m ms)
      | inr more ↦ contains_later m ms n (then more)
    ]

answer_listed : (n : ℕ) (es : List Entry) → list_any (is_answer_to n) es ≡ true → Contains (answered_numbers es) n
unfolding answered_numbers
answer_listed n [] is = absurd (cc)
answer_listed n (entry.Got m tuples values ∷ es) is =
    here_or_later n m (answered_numbers es) (list_any (is_answer_to n) es) is (answer_listed n es)
answer_listed n (entry.Value m value ∷ es) is =
    here_or_later n m (answered_numbers es) (list_any (is_answer_to n) es) is (answer_listed n es)
answer_listed n (entry.End m ∷ es) is =
    here_or_later n m (answered_numbers es) (list_any (is_answer_to n) es) is (answer_listed n es)
answer_listed n (e ∷ es) is = answer_listed n es is

-- the reply of which an entry came is what the entry says
reply_of_entry : (n : ℕ) (r : Reply) (e : Entry) → replied_entry n r ≡ Some e → reply_by e ≡ r
reply_of_entry n (reply.yields tuples values) e is = let same : entry.Got n tuples values ≡ e = cc in ap reply_by (sym same)
reply_of_entry n (reply.number value) e is = let same : entry.Value n value ≡ e = cc in ap reply_by (sym same)
reply_of_entry n reply.ends e is = let same : entry.End n ≡ e = cc in ap reply_by (sym same)
reply_of_entry n (reply.bad why) e is = absurd (cc)

reply_of_one : (n : ℕ) (r : Reply) (e : Entry) → entry_of_reply n r ≡ e ∷ [] → reply_by e ≡ r
reply_of_one n (reply.yields tuples values) e is = let same : entry.Got n tuples values ≡ e = cc in ap reply_by (sym same)
reply_of_one n (reply.number value) e is = let same : entry.Value n value ≡ e = cc in ap reply_by (sym same)
reply_of_one n reply.ends e is = let same : entry.End n ≡ e = cc in ap reply_by (sym same)
reply_of_one n (reply.bad why) e is = absurd (cc)

-- ---- transcripts without open requests

module _ (version : ℕ) (task : Task) (pools : List Workers) (answers : Answers) (entries : List Entry)
    (spoken : ℕ → Option Talk) (fit : IsFit task) (agrees : AgreesWith version task answers entries)
    (few : asks_of entries ≤ MOST_CALLS) (closed : HasNoneOpen entries) (served : GoToPools task pools entries)
    (talks : Dialogue task version pools entries spoken) (tell : AskedTell task pools entries spoken) where
  abbrev rs : List Request
  rs = requests_of task pools entries

  abbrev number_of : Request → ℕ
  number_of r = r.number

  numbered_at : (k n : ℕ) → slice_get (map number_of rs) k ≡ Some n → (r : Request) × (slice_get rs k ≡ Some r) × (r.number ≡ n)
  numbered_at k n at = map_some number_of (slice_get rs k) n (sym (slice_get-map number_of rs k) ∙ at)

  numbers_once : AreDistinct (map number_of rs)
  numbers_once i j n at_i at_j =
      let r = numbered_at i n at_i in
      let s = numbered_at j n at_j in
      let a = request_at task pools [] entries i r.0 r.1 in
      let b = request_at task pools [] entries j s.0 s.1 in
      let numbers : s.0.number ≡ r.0.number = s.2 ∙ sym r.2 in
      let place = numbers_own version task entries a.place b.place r.0.number r.0.turn s.0.turn r.0.call s.0.call agrees.legal a.at
      (b.at ∙ ap (λ m. Some (entry.Ask m s.0.turn s.0.call)) numbers) in
      omega (arith, a.before, b.before, ap (λ m. asks_of (take m entries)) place)

  -- each request is answered
  answered_all : (n : ℕ) → Contains (map number_of rs) n → Contains (answered_numbers entries) n
  answered_all n inside =
      let k = place_of (map number_of rs) n inside in
      let r = numbered_at k.0 n k.1 in
      let a = request_at task pools [] entries k.0 r.0 r.1 in
      let asked : list_any (is_ask_of n) entries ≡ true =
      any_passes_from_place (is_ask_of n) entries a.place (entry.Ask r.0.number r.0.turn r.0.call) a.at
      (eq-eqb n r.0.number (sym r.2)) in
      answer_listed n entries (second_too (list_any (is_ask_of n) entries) (list_any (is_answer_to n) entries) asked (closed n))

  reply_there : (k : ℕ) → k < length rs → (e : Entry) × (slice_get (replies_of entries) k ≡ Some e)
  reply_there k within =
      let fits = pigeons (map number_of rs) (answered_numbers entries) numbers_once answered_all in
      get_there (replies_of entries) k
      (omega (arith, within, fits, numbers_counted entries, length-filter is_answer entries, length-map rs number_of))

  -- what the child says in reply to a request
  says : (child : ℕ) (talk : Talk) → IsSaid task version rs (replies_of entries) [] child talk → (k : ℕ) (r : Request)
      → slice_get rs k ≡ Some r → r.child ≡ child → (line : List ℕ)
      → slice_get (lines_of talk.heard) (count_to child (take k rs)) ≡ Some line
      → reply_of line (wanted_by task version r) ≡ answers r.call r.turn
  says child talk said k r at to line heard =
      let e = reply_there k (slice_get_within rs k r at) in
      let own = said.answered k r e.0 at to e.1 in
      let same : own.0 ≡ line = same_some (slice_get (lines_of talk.heard) (count_to child (take k rs))) own.0 line own.1 heard in
      let a = request_at task pools [] entries k r at in
      let due = agrees.by r.number r.turn r.call e.0 (member_at entries a.place (entry.Ask r.number r.turn r.call) a.at)
      (in_filter is_answer entries e.0 (member_at (replies_of entries) k e.0 e.1))
      (answers_number r.number (reply_of own.0 (wanted_by task version r)) e.0 own.2) in
      ap (λ l. reply_of l (wanted_by task version r)) (sym same)
      ∙ sym (reply_of_entry r.number (reply_of own.0 (wanted_by task version r)) e.0 own.2)
      ∙ reply_of_one r.number (answers r.call r.turn) e.0 due

  speaks : (child : ℕ) (talk : Talk) → IsSaid task version rs (replies_of entries) [] child talk
      → SpeaksBy version task answers talk
  speaks child talk said place written heard q written_at asks heard_at =
      let lines : lines_of talk.written ≡ map line_of_request (filter (is_to child) rs) =
      ap lines_of (said.written ∙ append-nil (bytes_to child rs))
      ∙ written_lines child rs (reads version task pools entries fit agrees.legal few) in
      let line = map_some line_of_request (slice_get (filter (is_to child) rs) place) written
      (sym (slice_get-map line_of_request (filter (is_to child) rs) place) ∙ ap (λ ls. slice_get ls place) (sym lines) ∙ written_at) in
      let r = line.0 in
      let p = passing_at (is_to child) rs place r line.1 in
      let mine : Some (asking_by r) ≡ Some q =
      sym (reads version task pools entries fit agrees.legal few p.place r p.at).asks ∙ ap asked_by line.2 ∙ asks in
      let same : asking_by r ≡ q = cc in
      subst (λ (x : Asking). reply_of heard (wanted_at task version (called_stream task x.call)) ≡ answers x.call x.turn) same
      (says child talk said p.place r p.at (eqb-true r.child child p.passes) heard
      (ap (slice_get (lines_of talk.heard)) p.before ∙ heard_at))

  pub agreeing_speaks : AnsweredBy version task pools answers entries spoken
  agreeing_speaks child some =
      let t = tell child some in
      let k = passing_there (is_to child) rs some in
      let to : k.1.child ≡ child = eqb-true k.1.child child k.3 in
      let one = subst (IsOneOf pools) to (served k.0 k.1 k.2) in
      let within = slice_get_within rs k.0 k.1 k.2 in
      let said : IfSome (Some t.0) (IsSaid task version rs (replies_of entries) [] child) =
      subst (λ o. IfSome o (IsSaid task version rs (replies_of entries) [] child)) t.1 (talks child one (omega (arith, within))) in
      (t.0, t.1, speaks child t.0 said)
