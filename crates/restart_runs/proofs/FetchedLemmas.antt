-- A line is fetched, in as many reads as it takes.
use Rattle.std.proofs.Common.{◌≡◌, ℕ, suc, ◌+◌, ◌<◌, ◌≤◌, List, [], ◌∷◌, ◌++◌, length, take, slice_get, Some, Ok, Err, IfSome, refl, sym, ap, subst, ◌∙◌, arith, append_assoc, append-nil, length-append, All, inl, inr}
use Rattle.std.specs.List.{after_first, slice_split}
use Rattle.std.specs.Io.BufRead.{ends_with_byte, strip_last}
use Rattle.std.proofs.lemmas.List.{drop_all, length-map}
use Rattle.std.proofs.lemmas.List.Elements.{All-head, All-tail, All-append}
use Rattle.gen_lines.specs.Lines.{ended, is_feed, lines_of, unfinished}
use Rattle.io_world.specs.Replies.{HasLine, IsLine}
use Rattle.io_world.specs.Talks.{Event, Talk, started, wrote, heard, stopped, silence, spelled, IsGiven}
use Rattle.io_world.proofs.LogsLemmas.{spelled-more}
use Rattle.lemmas.proofs.ListTests.{any_append_right}
use Rattle.lemmas.proofs.Members.{get_at_length}
use Rattle.restart_host.proofs.CourseLemmas.{moment_join}
use Rattle.restart_host.proofs.FeedLemmas.{behind_first, due_at, due_cases, ends_not, ends_so, line_none, line_rest, lines_on, lines_one, lines_same, raw_one, rest_line, rest_one}
use Rattle.restart_host.proofs.FitsLemmas.{first_lines}
use Rattle.restart_host.proofs.StepsLemmas.{rewritten_join}
use Rattle.restart_host.proofs.UsesLemmas.{said_heard, waiting_own, words_read}
use Rattle.restart_host.specs.Lines.{due_length}
use Rattle.restart_host.specs.Lives.{AreFetching, Fetches, IsFetched, Moment, moment_by, moment_of}
use Rattle.restart_host.specs.Tries.{IsOn}
use Rattle.restart_host.specs.Uses.{AreDone, IsReading, IsRequest, part_of, waiting, waiting_then, words_of}
use Rattle.round_run.specs.Calls.{lines_read}

-- a request that reads as one line has one line feed
pub request_line : (request : List ℕ) → lines_of (request ++ 10 ∷ []) ≡ request ∷ [] → IsLine request
request_line request is = elim (due_cases request) [
  | inl none ↦ none.0
  | inr first ↦
      let rest : List ℕ = after_first is_feed request in
      let one : lines_of request ≡ strip_last 13 first.cut.line ∷ lines_of rest = first_lines request first.cut in
      let two = lines_on request (10 ∷ []) in
      let last : lines_of (unfinished request ++ 10 ∷ []) ≡ strip_last 13 (unfinished request) ∷ [] =
      lines_one [] (unfinished request) (rest_line request) in
      absurd (omega (
        arith,
        ap length two,
        ap length is,
        length-append (lines_of request) (lines_of (unfinished request ++ 10 ∷ [])),
        ap length one,
        ap length last,
      ))
]

-- nothing stands behind one line
none_behind : (request : List ℕ) → IsLine request → after_first is_feed (request ++ 10 ∷ []) ≡ []
none_behind request line =
    let due : due_length (request ++ 10 ∷ []) ≡ length request + 1 = due_at request [] line in
    sym (behind_first (request ++ 10 ∷ []))
    ∙ drop_all (due_length (request ++ 10 ∷ [])) (request ++ 10 ∷ []) (omega (arith, due, length-append request (10 ∷ [])))

-- Reads fetched a line, which is the child's next one, and the request that waited has its answer.
pub record AreReads (child : ℕ) (words : List (List ℕ)) (text : List ℕ) (most : ℕ) (calls past events is : List Event)
    : Type 0 where
  pub line : List ℕ
  pub fetches : Fetches child words text line (moment_of child past) is
  pub waits : waiting child (calls ++ events) ≡ Some []
  pub part : part_of child (calls ++ events) ≡ []
  pub count : lines_read child (calls ++ events) ≡ most + 1
  pub said : slice_get (lines_of (spelled child silence (calls ++ events)).heard) most ≡ Some line

-- tries behind tries
pub fetching_join : (child : ℕ) (words : List (List ℕ)) (text : List ℕ) (m : Moment) (xs ys : List Event)
    → AreFetching child words text m xs → AreFetching child words text (moment_by child m xs) ys
    → AreFetching child words text m (xs ++ ys)
fetching_join child words text m xs ys first second = record {
  on = All-append (IsOn child words) xs ys first.on second.on;
  course = rewritten_join child text m xs ys first.course second.course;
}

-- what was heard, with one more read
pub heard_now : (child k room : ℕ) (calls : List Event) (bytes : List ℕ) → k ≡ child
    → (spelled child silence (calls ++ heard k room (Ok bytes) ∷ [])).heard ≡ (spelled child silence calls).heard ++ bytes
heard_now child k room calls bytes own =
    subst (λ j. (spelled child silence (calls ++ heard j room (Ok bytes) ∷ [])).heard ≡ (spelled child silence calls).heard ++ bytes)
    (sym own)
    (ap (λ (t : Talk). t.heard)
    (spelled-more child silence calls (heard child room (Ok bytes)) ∙ said_heard child room bytes (spelled child silence calls)))

module _ (child : ℕ) (words : List (List ℕ)) (request : List ℕ) (quiet_request : IsLine request)
    (reads_one : lines_of (request ++ 10 ∷ []) ≡ request ∷ []) (most : ℕ) where
  abbrev text : List ℕ
  text = request ++ 10 ∷ []

  is_request : IsRequest text
  is_request = (request, refl, reads_one)

  has : HasLine text
  has = any_append_right is_feed request (10 ∷ []) refl

  -- a line is fetched by later tries
  later_fetched : (line : List ℕ) (m : Moment) (xs ys : List Event) → AreFetching child words text m xs
      → Fetches child words text line (moment_by child m xs) ys → Fetches child words text line m (xs ++ ys)
  later_fetched line m xs ys first second = record {
    fetching = fetching_join child words text m xs ys first second.fetching;
    fetched = subst (λ (at : Moment). IsFetched text line at) (sym (moment_join child m xs ys)) second.fetched;
  }

  -- the line that one read completes, which is the last
  last_read : (k room : ℕ) (calls past now : List Event) (bytes line : List ℕ) → k ≡ child → IsLine line → bytes ≡ line ++ 10 ∷ []
      → waiting child calls ≡ Some text → lines_read child calls ≡ most
      → IfSome (slice_get (ended (slice_split is_feed (spelled child silence (calls ++ heard k room (Ok bytes) ∷ [])).heard)) most)
      (λ raw. length raw ≤ 1024)
      → IsReading child words text (part_of child calls) (Ok bytes) (moment_of child past) now
      → AreReads child words text most calls past (heard k room (Ok bytes) ∷ []) now
  last_read k room calls past now bytes line own quiet is waits count short reading =
      let h : List ℕ = (spelled child silence calls).heard in
      let part : List ℕ = unfinished h in
      let all = heard_now child k room calls bytes own ∙ ap (λ bs. h ++ bs) is in
      let raws : ended (slice_split is_feed (h ++ (line ++ 10 ∷ []))) ≡ ended (slice_split is_feed h) ++ (part ++ line) ∷ [] =
      raw_one h line quiet in
      let place : length (ended (slice_split is_feed h)) ≡ most =
      sym (length-map (ended (slice_split is_feed h)) (strip_last 13)) ∙ count in
      let raw : slice_get (ended (slice_split is_feed (h ++ (line ++ 10 ∷ [])))) most ≡ Some (part ++ line) =
      ap (λ ls. slice_get ls most) raws
      ∙ ap (slice_get (ended (slice_split is_feed h) ++ (part ++ line) ∷ [])) (sym place)
      ∙ get_at_length (ended (slice_split is_feed h)) (part ++ line) in
      let few : length (part ++ line) ≤ 1024 =
      subst (λ o. IfSome o (λ (bs : List ℕ). length bs ≤ 1024)) (ap (λ bs. slice_get (ended (slice_split is_feed bs)) most) all ∙ raw) short in
      let lines : lines_of (h ++ (line ++ 10 ∷ [])) ≡ lines_of h ++ strip_last 13 (part ++ line) ∷ [] = lines_one h line quiet in
      let alone : lines_of (part ++ bytes) ≡ strip_last 13 (part ++ line) ∷ [] =
      ap (λ bs. lines_of (part ++ bs)) is ∙ lines_one part line quiet
      ∙ ap (λ ls. ls ++ strip_last 13 (unfinished part ++ line) ∷ []) (line_none part (rest_line h))
      ∙ ap (λ bs. strip_last 13 (bs ++ line) ∷ []) (line_rest part (rest_line h)) in
      let completes = reading.gives (omega (arith, few, length-append part line)) is_request in
      record {
        line = strip_last 13 (part ++ line);
        fetches = record { fetching = reading.fetching; fetched = completes.line (strip_last 13 (part ++ line)) alone };
        waits =
            waiting_own child calls (heard k room (Ok bytes)) own ∙ ap (λ w. waiting_then w (heard k room (Ok bytes))) waits
            ∙ rw (has, ap (ends_with_byte 10) is ∙ ends_so line) (ap Some (none_behind request quiet_request));
        part = ap unfinished all ∙ rest_one h line quiet;
        count = ap (λ bs. length (lines_of bs)) all ∙ ap length lines
            ∙ length-append (lines_of h) (strip_last 13 (part ++ line) ∷ []) ∙ ap (λ n. n + 1) count;
        said = ap (λ bs. slice_get (lines_of bs) most) all ∙ ap (λ ls. slice_get ls most) lines
            ∙ ap (slice_get (lines_of h ++ strip_last 13 (part ++ line) ∷ [])) (sym count)
            ∙ get_at_length (lines_of h) (strip_last 13 (part ++ line));
      }

  joined : (e : Event) (calls past events now later is : List Event) → is ≡ now ++ later
      → AreFetching child words text (moment_of child past) now
      → AreReads child words text most (calls ++ e ∷ []) (past ++ now) events later
      → AreReads child words text most calls past (e ∷ events) is
  joined e calls past events now later is cut fetching rest =
      let whole : (calls ++ e ∷ []) ++ events ≡ calls ++ e ∷ events = append_assoc calls (e ∷ []) events in
      record {
        line = rest.line;
        fetches = subst (λ zs. Fetches child words text rest.line (moment_of child past) zs) (sym cut)
            (later_fetched rest.line (moment_of child past) now later fetching
            (subst (λ (at : Moment). Fetches child words text rest.line at later) (moment_join child _ past now) rest.fetches));
        waits = ap (waiting child) (sym whole) ∙ rest.waits;
        part = ap (part_of child) (sym whole) ∙ rest.part;
        count = ap (lines_read child) (sym whole) ∙ rest.count;
        said = ap (λ zs. slice_get (lines_of (spelled child silence zs).heard) most) (sym whole) ∙ rest.said;
      }

  -- no read stands behind one that completes the line
  ending : (k room : ℕ) (calls past is : List Event) (bytes : List ℕ) (events : List Event) (line : List ℕ) → k ≡ child
      → IsLine line → bytes ≡ line ++ 10 ∷ [] → waiting child calls ≡ Some text → lines_read child calls ≡ most
      → ((j : ℕ) → j < length (heard k room (Ok bytes) ∷ events)
      → lines_read child (calls ++ take j (heard k room (Ok bytes) ∷ events)) ≤ most)
      → IfSome (slice_get (ended (slice_split is_feed (spelled child silence (calls ++ heard k room (Ok bytes) ∷ events)).heard)) most)
      (λ raw. length raw ≤ 1024)
      → (now later : List Event) → is ≡ now ++ later
      → IsReading child words text (part_of child calls) (Ok bytes) (moment_of child past) now
      → AreDone (calls ++ heard k room (Ok bytes) ∷ []) (past ++ now) events later
      → AreReads child words text most calls past (heard k room (Ok bytes) ∷ events) is
  ending k room calls past is bytes [] line own quiet as_line waits count early short now later cut reading done =
      subst (AreReads child words text most calls past (heard k room (Ok bytes) ∷ []))
      (sym (cut ∙ ap (λ zs. now ++ zs) done ∙ append-nil now))
      (last_read k room calls past now bytes line own quiet as_line waits count short reading)
  ending k room calls past is bytes (x ∷ events) line own quiet as_line waits count early short now later cut reading done =
      let h : List ℕ = (spelled child silence calls).heard in
      let lines : lines_read child (calls ++ heard k room (Ok bytes) ∷ []) ≡ most + 1 =
      ap (λ bs. length (lines_of bs)) (heard_now child k room calls bytes own ∙ ap (λ bs. h ++ bs) as_line)
      ∙ ap length (lines_one h line quiet) ∙ length-append (lines_of h) (strip_last 13 (unfinished h ++ line) ∷ [])
      ∙ ap (λ n. n + 1) count in
      let soon : lines_read child (calls ++ heard k room (Ok bytes) ∷ []) ≤ most = early 1 (omega arith) in
      absurd (omega (arith, lines, soon))

  pub reads_done : (events calls past is : List Event) → words_of child calls ≡ words → waiting child calls ≡ Some text
      → lines_read child calls ≡ most → All (IsGiven child) events
      → ((k : ℕ) → k < length events → lines_read child (calls ++ take k events) ≤ most)
      → most < lines_read child (calls ++ events)
      → IfSome (slice_get (ended (slice_split is_feed (spelled child silence (calls ++ events)).heard)) most)
      (λ raw. length raw ≤ 1024)
      → AreDone calls past events is → AreReads child words text most calls past events is
  reads_done [] calls past is named waits count each early more short done =
      absurd (omega (arith, more, ap (lines_read child) (append-nil calls), count))
  reads_done (started k argv answer ∷ events) calls past is named waits count each early more short done =
      absurd (All-head (IsGiven child) _ _ each)
  reads_done (wrote k p answer ∷ events) calls past is named waits count each early more short done =
      absurd (All-head (IsGiven child) _ _ each)
  reads_done (heard k room (Ok bytes) ∷ events) calls past is named waits count each early more short done =
      let own : k ≡ child = All-head (IsGiven child) _ _ each in
      let e : Event = heard k room (Ok bytes) in
      let h : List ℕ = (spelled child silence calls).heard in
      let reading : IsReading child words text (part_of child calls) (Ok bytes) (moment_of child past) done.0 =
      subst (λ ws. IsReading child ws text (part_of child calls) (Ok bytes) (moment_of child past) done.0) named
      (subst (λ j. IsReading j (words_of j calls) text (part_of j calls) (Ok bytes) (moment_of j past) done.0) own
      (done.3.2 text (ap (λ j. waiting j calls) own ∙ waits) has)) in
      elim reading.one [
        | inl quiet ↦
            let same : lines_read child (calls ++ e ∷ []) ≡ most =
            ap (λ bs. length (lines_of bs)) (heard_now child k room calls bytes own) ∙ ap length (lines_same h bytes quiet) ∙ count in
            let next : waiting child (calls ++ e ∷ []) ≡ Some text =
            waiting_own child calls e own ∙ ap (λ w. waiting_then w e) waits ∙ rw (has, ends_not bytes quiet) refl in
            let whole : (xs : List Event) → (calls ++ e ∷ []) ++ xs ≡ calls ++ e ∷ xs = λ xs. append_assoc calls (e ∷ []) xs in
            joined e calls past events done.0 done.1 is done.2 reading.fetching
            (reads_done events (calls ++ e ∷ []) (past ++ done.0) done.1 (words_read child k room calls (Ok bytes) ∙ named) next same
            (All-tail (IsGiven child) _ _ each)
            (λ j below. subst (λ zs. lines_read child zs ≤ most) (sym (whole (take j events))) (early (suc j) (omega (arith, below))))
            (subst (λ zs. most < lines_read child zs) (sym (whole events)) more)
            (subst (λ zs. IfSome (slice_get (ended (slice_split is_feed (spelled child silence zs).heard)) most) (λ raw. length raw ≤ 1024))
            (sym (whole events)) short)
            done.4)
        | inr full ↦
            ending k room calls past is bytes events full.0 own full.1 full.2 waits count early short done.0 done.1 done.2 reading done.4
      ]
  reads_done (heard k room (Err fault) ∷ events) calls past is named waits count each early more short done =
      absurd (All-head (IsGiven child) _ _ each)
  reads_done (stopped k answer ∷ events) calls past is named waits count each early more short done =
      absurd (All-head (IsGiven child) _ _ each)
