-- Transcripts of incremental mode that the dialogue with one child spells.
use Rattle.std.proofs.Common.{◌≡◌, ℕ, zero, suc, ◌+◌, ◌<◌, ◌≤◌, inl, inr, true, List, [], ◌∷◌, ◌++◌, length, take, Some, slice_get, refl, sym, ap, subst, ◌∙◌, arith, append_assoc, count_by, Bool}
use Rattle.std.proofs.lemmas.List.{append-nil, length-append, take-append-le}
use Rattle.std.proofs.lemmas.Option.{slice_get_within}
use Rattle.std.specs.List.{join_with_byte}
use Rattle.gen_lines.specs.Lines.{lines_of}
use Rattle.gen_lines.specs.Reply.{Reply, reply_of}
use Rattle.gen_lines.specs.Request.{request_line}
use Rattle.io_world.specs.Talks.{Talk}
use Rattle.lemmas.proofs.ListTests.{get_there}
use Rattle.lemmas.proofs.Members.{get_append, get_behind, take_append}
use Rattle.lemmas.proofs.Numbers.{zero_suc}
use Rattle.course_check.proofs.CoursesLemmas.{leads_once, nothing_left}
use Rattle.course_check.specs.Courses.{Course, IsCourseStep, Leads, Opens}
use Rattle.pools.specs.Pools.{Workers, child_for}
use Rattle.round_run.proofs.DialogueLemmas.{bytes_more, own_bytes}
use Rattle.round_run.proofs.DialogueRequestLemmas.{requests_counted, requests_join}
use Rattle.round_run.specs.Dialogue.{IsSaid, Request, bytes_to, called_stream, count_to, last_round, replies_of, requests_after, requests_of, wanted_by}
use Rattle.lemmas.proofs.Counts.{count_joined}
use Rattle.session_core.specs.Slots.{replied_entry}
use Rattle.table_runs.proofs.AgreeLemmas.{answer_is}
use Rattle.table_runs.proofs.AnswersLemmas.{answers_few}
use Rattle.table_runs.proofs.AskingPlaceLemmas.{passed_place}
use Rattle.task_model.specs.declared.stream.Instance.{Instance}
use Rattle.task_model.specs.declared.task.Task.{Task}
use Rattle.transcript_model.proofs.LegalPrefixLemmas.{legal_front}
use Rattle.task_model.specs.Streams.{yields_of}
use Rattle.transcript_model.specs.Legal.{IsLegal, asks_of, is_answer, is_answer_to, is_ask}
use Rattle.transcript_model.specs.Names.{call_of_instance}
use Rattle.transcript_model.specs.Transcript.{names_of, notes_of}
use Rattle.transcript_model.specs.Rounds.{Limits, calls_left, requests, requests_from}
use Rattle.transcript_model.specs.Turns.{MayBegin, is_cut}
use Rattle.transcript_model.specs.declared.entry.Call.{Call}
use Rattle.transcript_model.specs.declared.entry.Entry.{Entry}
use Rattle.transcript_model.specs.declared.entry.Entry.TheVariants as entry
use Rattle.transcript_model.proofs.RoundsLemmas.{answer_asks}

-- ---- levels

-- a part of some members has some
some_taken : {A : Type 0} (n : ℕ) (xs : List A) → 0 < n → 0 < length xs → 0 < length (take n xs)
some_taken zero xs left some = absurd (omega (arith, left))
some_taken (suc n) [] left some = absurd (omega (arith, some))
some_taken (suc n) (x ∷ xs) left some = omega arith

-- a request and what follows it
pub record HasRequest (entries : List Entry) : Type 0 where
  pub number : ℕ
  pub turn : ℕ
  pub call : Call
  pub rest : List Entry
  pub is : entries ≡ entry.Ask number turn call ∷ rest

-- a level, which might begin, and its first request
pub record HasLevel (limits : Limits) (task : Task) (before entries : List Entry) : Type 0 where
  pub may : MayBegin limits task before
  pub later : List Entry
  pub is : entries ≡ entry.Level ∷ later
  pub request : HasRequest later

-- lists that are one begin with the same entry
heads : (x y : Entry) (xs ys : List Entry) → x ∷ xs ≡ y ∷ ys → x ≡ y
heads x y xs ys e = cc

module _ (limits : Limits) (task : Task) where
  -- a round that begins has requests, the first of which comes next
  round_asks : (before : List Entry) (m n : Course) (g : Entry) (gs : List Entry) (list : List Instance) (cut : Bool)
      → (opens : Opens limits task before list cut m) (round : List Instance) → opens.round ≡ round → 0 < length round
      → IsCourseStep limits task before m g n → HasRequest (g ∷ gs)
  round_asks before m n g gs list cut opens [] parts some step = absurd (omega (arith, some))
  round_asks before m n g gs list cut opens (i ∷ is) parts some (inl a) =
      absurd (omega (arith, a.resting, ap (λ (c : Course). c.answers) opens.is, ap length parts))
  round_asks before m n g gs list cut opens (i ∷ is) parts some (inr (inl a)) =
      let ask = entry.Ask (asks_of before + 1) (yields_of (notes_of task before) i) (call_of_instance task (names_of task before) i) in
      let both : ask ∷ requests_from task before (asks_of before + 1 + 1) is ≡ g ∷ a.rest =
      ap (requests task before) (sym parts) ∙ sym (ap (λ (c : Course). c.asks) opens.is) ∙ a.asks in
      let same : ask ≡ g = heads ask g _ a.rest both in
      record {
        number = asks_of before + 1;
        turn = yields_of (notes_of task before) i;
        call = call_of_instance task (names_of task before) i;
        rest = gs;
        is = ap (λ x. x ∷ gs) (sym same);
      }
  round_asks before m n g gs list cut opens (i ∷ is) parts some (inr (inr a)) =
      absurd (nothing_left _ _ (sym a.asked ∙ ap (λ (c : Course). c.asks) opens.is ∙ ap (requests task before) parts))

  -- behind the line of a level its first request comes
  level_asks : (before : List Entry) (m b : Course) (list : List Instance) (cut : Bool) (es : List Entry)
      → Opens limits task before list cut m → 0 < length list → Leads limits task m before es b → b.answers ≡ 0
      → HasRequest es
  level_asks before m b list cut [] opens some leads rests =
      absurd (omega (arith, opens.some some, ap (λ (c : Course). c.answers) (sym opens.is ∙ leads), rests))
  level_asks before m b list cut (g ∷ gs) opens some (n, step, more) rests =
      round_asks before m n g gs list cut opens opens.round refl (opens.some some) step

  -- where nothing is open, and nothing is open again behind these entries, they begin with a level and a request of it
  pub level_first : (before : List Entry) (c b : Course) (f : Entry) (fs : List Entry) → c.answers ≡ 0
      → Leads limits task c before (f ∷ fs) b → b.answers ≡ 0 → HasLevel limits task before (f ∷ fs)
  level_first before c b f fs resting (m, step, more) rests = by step
    where
      by : IsCourseStep limits task before c f m → HasLevel limits task before (f ∷ fs)
      by (inl a) =
          let left : 0 < calls_left limits before = omega (arith, a.may.left) in
          let some = some_taken (calls_left limits before) a.may.list left a.may.some in
          record {
            may = a.may;
            later = fs;
            is = ap (λ x. x ∷ fs) a.is;
            request = level_asks (before ++ f ∷ []) m b (take (calls_left limits before) a.may.list)
                (is_cut limits before a.may.list) fs a.opens some more rests;
          }
      by (inr (inl a)) = absurd (omega (arith, resting, a.more))
      by (inr (inr a)) = absurd (zero_suc a.left (sym resting ∙ a.answers))

-- ---- what the dialogue names

-- what answers a number is no request
-- what a line says to a request is one entry
said_once : (e f : Entry) (n : ℕ) (r : Reply) (s : Reply) → r ≡ s → replied_entry n r ≡ Some e → replied_entry n s ≡ Some f
    → e ≡ f
said_once e f n r s same first second =
    let both : Some e ≡ Some f = sym first ∙ ap (replied_entry n) same ∙ second in cc

module _ (limits : Limits) (version : ℕ) (task : Task) (pools : List Workers) (child : ℕ) (talk : Talk) where
  -- a legal transcript whose requests all go to this child, and this was said with it
  pub record IsSpelledBy (entries : List Entry) : Type 0 where
    pub legal : IsLegal version task entries
    pub to : (k : ℕ) (r : Request) → slice_get (requests_of task pools entries) k ≡ Some r → r.child ≡ child
    pub said : IsSaid task version (requests_of task pools entries) (replies_of entries) [] child talk

  -- behind such a transcript no further level has requests, with which it would be such a one
  none_behind : (before : List Entry) (n turn : ℕ) (call : Call) (rest : List Entry) → IsSpelledBy before
      → IsSpelledBy (before ++ entry.Level ∷ entry.Ask n turn call ∷ rest) → ⊥
  none_behind before n turn call rest first second =
      let rs = requests_of task pools before in
      let r : Request =
      record { child = child_for pools [] (called_stream task call); number = n; turn = turn; call = call } in
      let more = requests_after task pools (called_stream task call ∷ []) rest in
      let all : requests_of task pools (before ++ entry.Level ∷ entry.Ask n turn call ∷ rest) ≡ rs ++ r ∷ more =
      requests_join task pools [] before (entry.Level ∷ entry.Ask n turn call ∷ rest) in
      let own : r.child ≡ child =
      second.to (length rs + 0) r (ap (λ xs. slice_get xs (length rs + 0)) all ∙ get_behind rs (r ∷ more) 0 r refl) in
      let short = ap length first.said.written in
      let long = ap length second.said.written in
      let parts = ap length (ap (bytes_to child) all ∙ bytes_more child rs (r ∷ more)) in
      let tail = ap length (bytes_more child (r ∷ []) more) in
      let line = ap length (own_bytes r child own) in
      omega (
        arith,
        short,
        long,
        parts,
        tail,
        line,
        length-append (bytes_to child rs) [],
        length-append (bytes_to child (requests_of task pools (before ++ entry.Level ∷ entry.Ask n turn call ∷ rest))) [],
        length-append (bytes_to child rs) (bytes_to child (r ∷ more)),
        length-append (bytes_to child (r ∷ [])) (bytes_to child more),
        length-append (join_with_byte 32 (request_line r.turn r.call.name r.call.args)) (10 ∷ []),
      )

  -- an answer is what the line at its place says to this request
  IsAnswerBy : List Entry → Request → Entry → Type 0
  IsAnswerBy before r e =
      (line : List ℕ)
      × (slice_get (lines_of talk.heard) (count_to child (take (count_by is_answer before) (requests_of task pools before)))
      ≡ Some line)
      × (replied_entry r.number (reply_of line (wanted_by task version r)) ≡ Some e)

  answer_by : (before es : List Entry) (e : Entry) (n : ℕ) (r : Request) → is_answer_to n e ≡ true
      → IsSpelledBy (before ++ e ∷ es) → slice_get (requests_of task pools before) (count_by is_answer before) ≡ Some r
      → IsAnswerBy before r e
  unfolding IsAnswerBy
  answer_by before es e n r to whole there =
      let k = count_by is_answer before in
      let rs = requests_of task pools before in
      let more = requests_after task pools (last_round task [] before) (e ∷ es) in
      let all : requests_of task pools (before ++ e ∷ es) ≡ rs ++ more = requests_join task pools [] before (e ∷ es) in
      let at : slice_get (requests_of task pools (before ++ e ∷ es)) k ≡ Some r =
      ap (λ xs. slice_get xs k) all ∙ get_append rs more k r there in
      let within : k ≤ length rs = omega (arith, slice_get_within rs k r there) in
      let front : take k (requests_of task pools (before ++ e ∷ es)) ≡ take k rs =
      ap (take k) all ∙ take-append-le k rs more within in
      let place : slice_get (before ++ e ∷ es) (length before + 0) ≡ Some e = get_behind before (e ∷ es) 0 e refl in
      let passed = passed_place is_answer (before ++ e ∷ es) (length before + 0) e place (answer_is n e to) in
      let taken : take (length before + 0) (before ++ e ∷ es) ≡ before =
      ap (λ m. take m (before ++ e ∷ es)) (let z : length before + 0 ≡ length before = omega arith in z)
      ∙ take_append before (e ∷ es) in
      let reply : slice_get (replies_of (before ++ e ∷ es)) k ≡ Some e =
      ap (λ xs. slice_get (replies_of (before ++ e ∷ es)) (count_by is_answer xs)) (sym taken) ∙ passed in
      let a = whole.said.answered k r e at (whole.to k r at) reply in
      (a.0, ap (λ xs. slice_get (lines_of talk.heard) (count_to child xs)) (sym front) ∙ a.1, a.2)

  -- there is a request for each answer
  request_there : (before es : List Entry) (e : Entry) (n : ℕ) → is_answer_to n e ≡ true → IsSpelledBy (before ++ e ∷ es)
      → (r : Request) × (slice_get (requests_of task pools before) (count_by is_answer before) ≡ Some r)
  request_there before es e n to whole =
      let upto : IsLegal version task (before ++ e ∷ []) =
      legal_front version task (before ++ e ∷ []) es
      (subst (IsLegal version task) (sym (append_assoc before (e ∷ []) es)) whole.legal) in
      let few = answers_few version task (before ++ e ∷ []) upto in
      let one : count_by is_answer (e ∷ []) ≡ 1 = rw (answer_is n e to) refl in
      get_there (requests_of task pools before) (count_by is_answer before) (omega (
        arith,
        few,
        one,
        count_joined is_answer before (e ∷ []),
        count_joined is_ask before (e ∷ []),
        answer_asks n e to,
        requests_counted task pools [] before,
      ))

  -- the answers that come next are one
  same_answer : (before es fs : List Entry) (e f : Entry) (n : ℕ) → is_answer_to n e ≡ true → is_answer_to n f ≡ true
      → IsSpelledBy (before ++ e ∷ es) → IsSpelledBy (before ++ f ∷ fs) → e ≡ f
  unfolding IsAnswerBy
  same_answer before es fs e f n to also first second =
      let r = request_there before es e n to first in
      let a = answer_by before es e n r.0 to first r.1 in
      let b = answer_by before fs f n r.0 also second r.1 in
      let lines : Some a.0 ≡ Some b.0 = sym a.1 ∙ b.1 in
      let line : a.0 ≡ b.0 = cc in
      said_once e f r.0.number _ _ (ap (λ l. reply_of l (wanted_by task version r.0)) line) a.2 b.2

  -- ---- entry by entry

  -- what comes next is one entry
  same_step : (before es fs : List Entry) (c m n : Course) (e f : Entry) → IsCourseStep limits task before c e m
      → IsCourseStep limits task before c f n → IsSpelledBy (before ++ e ∷ es) → IsSpelledBy (before ++ f ∷ fs) → e ≡ f
  same_step before es fs c m n e f (inl a) (inl b) first second = a.is ∙ sym b.is
  same_step before es fs c m n e f (inl a) (inr (inl b)) first second = absurd (omega (arith, a.resting, b.more))
  same_step before es fs c m n e f (inl a) (inr (inr b)) first second = absurd (zero_suc b.left (sym a.resting ∙ b.answers))
  same_step before es fs c m n e f (inr (inl a)) (inl b) first second = absurd (omega (arith, b.resting, a.more))
  same_step before es fs c m n e f (inr (inl a)) (inr (inl b)) first second = heads e f a.rest b.rest (sym a.asks ∙ b.asks)
  same_step before es fs c m n e f (inr (inl a)) (inr (inr b)) first second =
      absurd (nothing_left e a.rest (sym b.asked ∙ a.asks))
  same_step before es fs c m n e f (inr (inr a)) (inl b) first second = absurd (zero_suc a.left (sym b.resting ∙ a.answers))
  same_step before es fs c m n e f (inr (inr a)) (inr (inl b)) first second =
      absurd (nothing_left f b.rest (sym a.asked ∙ b.asks))
  same_step before es fs c m n e f (inr (inr a)) (inr (inr b)) first second =
      same_answer before es fs e f c.next a.to b.to first second

  -- no longer transcript is spelled by the same
  longer : (before : List Entry) (f : Entry) (fs : List Entry) (c b : Course) → c.answers ≡ 0
      → Leads limits task c before (f ∷ fs) b → b.answers ≡ 0 → IsSpelledBy (before ++ []) → IsSpelledBy (before ++ f ∷ fs) → ⊥
  longer before f fs c b resting leads rests first second =
      let l = level_first limits task before c b f fs resting leads rests in
      let all : f ∷ fs ≡ entry.Level ∷ entry.Ask l.request.number l.request.turn l.request.call ∷ l.request.rest =
      l.is ∙ ap (λ xs. entry.Level ∷ xs) l.request.is in
      none_behind before l.request.number l.request.turn l.request.call l.request.rest
      (subst IsSpelledBy (append-nil before) first) (subst (λ xs. IsSpelledBy (before ++ xs)) all second)

  -- From one place two such transcripts go on with the same entries, where nothing is open behind either.
  pub spelled_once : (before xs ys : List Entry) (c a b : Course) → Leads limits task c before xs a → a.answers ≡ 0
      → Leads limits task c before ys b → b.answers ≡ 0 → IsSpelledBy (before ++ xs) → IsSpelledBy (before ++ ys) → xs ≡ ys
  spelled_once before [] [] c a b here rests there ends first second = refl
  spelled_once before [] (f ∷ fs) c a b here rests there ends first second =
      absurd (longer before f fs c b (ap (λ (x : Course). x.answers) here ∙ rests) there ends first second)
  spelled_once before (e ∷ es) [] c a b here rests there ends first second =
      absurd (longer before e es c a (ap (λ (x : Course). x.answers) there ∙ ends) here rests second first)
  spelled_once before (e ∷ es) (f ∷ fs) c a b (m, s, more) rests (n, t, later) ends first second =
      let same : e ≡ f = same_step before es fs c m n e f s t first second in
      let middle : m ≡ n =
      leads_once limits task c before (e ∷ []) m n (m, s, refl)
      (n, subst (λ x. IsCourseStep limits task before c x n) (sym same) t, refl) in
      let rest : es ≡ fs =
      spelled_once (before ++ e ∷ []) es fs m a b more rests
      (subst (λ x. Leads limits task x (before ++ e ∷ []) fs b) (sym middle)
      (subst (λ x. Leads limits task n (before ++ x ∷ []) fs b) (sym same) later)) ends
      (subst IsSpelledBy (sym (append_assoc before (e ∷ []) es)) first)
      (subst IsSpelledBy (sym (append_assoc before (e ∷ []) fs)) (subst (λ x. IsSpelledBy (before ++ x ∷ fs)) (sym same) second)) in
      λ i. same i ∷ rest i
