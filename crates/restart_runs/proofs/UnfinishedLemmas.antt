-- Reads that complete no line of a request.
use Rattle.std.proofs.Common.{◌≡◌, ℕ, suc, ◌+◌, ◌<◌, ◌≤◌, List, [], ◌∷◌, ◌++◌, length, take, Some, Ok, Err, refl, sym, ap, subst, ◌∙◌, arith, append_assoc, append-nil, length-append, All, inl, inr}
use Rattle.std.specs.Io.BufRead.{strip_last}
use Rattle.std.proofs.lemmas.Bool.{cases_lt}
use Rattle.std.proofs.lemmas.List.Elements.{All-nil, All-head, All-tail, All-weaker}
use Rattle.gen_lines.specs.Lines.{is_feed, lines_of, unfinished}
use Rattle.io_world.specs.Replies.{HasLine, IsLine}
use Rattle.io_world.specs.Talks.{Event, started, wrote, heard, stopped, silence, spelled, IsGiven}
use Rattle.io_world.specs.declared.host.HostFault.TheVariants.{Failed}
use Rattle.lemmas.proofs.ListTests.{any_append_right}
use Rattle.restart_host.proofs.CourseLemmas.{moment_join}
use Rattle.restart_host.proofs.FeedLemmas.{ends_not, line_joined, line_none, lines_one, lines_same, rest_line, rest_more}
use Rattle.restart_host.proofs.UsesLemmas.{waiting_own, words_read}
use Rattle.restart_host.specs.Lives.{AreFetching, IsTooLong, Moment, moment_of}
use Rattle.restart_host.specs.Tries.{IsOn}
use Rattle.restart_host.specs.Uses.{AreDone, IsDone, IsReading, IsRequest, part_of, waiting, waiting_then, words_of}
use Rattle.restart_runs.proofs.CallsLemmas.{IsNoStart, done_cut, given_no, words_behind}
use Rattle.restart_runs.proofs.FetchedLemmas.{fetching_join, heard_now}
use Rattle.round_run.specs.Calls.{lines_read}

module _ (child : ℕ) (words : List (List ℕ)) (request : List ℕ) (reads_one : lines_of (request ++ 10 ∷ []) ≡ request ∷ [])
    (most : ℕ) where
  abbrev text : List ℕ
  text = request ++ 10 ∷ []

  is_request : IsRequest text
  is_request = (request, refl, reads_one)

  has : HasLine text
  has = any_append_right is_feed request (10 ∷ []) refl

  -- They are tries to fetch it, and each gave some bytes of it.
  record NotYet (calls past events is : List Event) : Type 0 where
    fetching : AreFetching child words text (moment_of child past) is
    waits : waiting child (calls ++ events) ≡ Some text
    grows : length (part_of child calls) + length events ≤ length (part_of child (calls ++ events))

  -- a read that completes none
  record QuietRead (e : Event) (bytes : List ℕ) (calls past now : List Event) : Type 0 where
    quiet : IsLine bytes
    some : 0 < length bytes
    reading : IsReading child words text (part_of child calls) (Ok bytes) (moment_of child past) now
    part : part_of child (calls ++ e ∷ []) ≡ part_of child calls ++ bytes
    waits : waiting child (calls ++ e ∷ []) ≡ Some text
    lines : lines_read child (calls ++ e ∷ []) ≡ most

  quiet_read : (k room : ℕ) (bytes : List ℕ) (calls past now : List Event) → k ≡ child → words_of child calls ≡ words
      → waiting child calls ≡ Some text → lines_read child calls ≡ most
      → lines_read child (calls ++ heard k room (Ok bytes) ∷ []) ≤ most → IsDone calls past (heard k room (Ok bytes)) now
      → QuietRead (heard k room (Ok bytes)) bytes calls past now
  quiet_read k room bytes calls past now own named waits count few done =
      let e : Event = heard k room (Ok bytes) in
      let h : List ℕ = (spelled child silence calls).heard in
      let reading : IsReading child words text (part_of child calls) (Ok bytes) (moment_of child past) now =
      subst (λ ws. IsReading child ws text (part_of child calls) (Ok bytes) (moment_of child past) now) named
      (subst (λ j. IsReading j (words_of j calls) text (part_of j calls) (Ok bytes) (moment_of j past) now) own
      (done.2 text (ap (λ j. waiting j calls) own ∙ waits) has)) in
      elim reading.one [
        | inl quiet ↦ record {
          quiet = quiet;
          some = done.0;
          reading = reading;
          part = ap unfinished (heard_now child k room calls bytes own) ∙ rest_more h bytes quiet;
          waits = waiting_own child calls e own ∙ ap (λ w. waiting_then w e) waits ∙ rw (has, ends_not bytes quiet) refl;
          lines = ap (λ bs. length (lines_of bs)) (heard_now child k room calls bytes own) ∙ ap length (lines_same h bytes quiet)
              ∙ count;
        }
        | inr full ↦
            let more : lines_read child (calls ++ e ∷ []) ≡ most + 1 =
            ap (λ bs. length (lines_of bs)) (heard_now child k room calls bytes own ∙ ap (λ bs. h ++ bs) full.2)
            ∙ ap length (lines_one h full.0 full.1)
            ∙ length-append (lines_of h) (strip_last 13 (unfinished h ++ full.0) ∷ []) ∙ ap (λ n. n + 1) count in
            absurd (omega (arith, more, few))
      ]

  fetched_behind : (calls past now later is : List Event) → is ≡ now ++ later → AreFetching child words text (moment_of child past) now
      → AreFetching child words text (moment_of child (past ++ now)) later → AreFetching child words text (moment_of child past) is
  fetched_behind calls past now later is cut first second =
      subst (AreFetching child words text (moment_of child past)) (sym cut)
      (fetching_join child words text (moment_of child past) now later first
      (subst (λ (at : Moment). AreFetching child words text at later) (moment_join child _ past now) second))

  fetched_none : (past is : List Event) → is ≡ [] → AreFetching child words text (moment_of child past) is
  fetched_none past is none =
      subst (AreFetching child words text (moment_of child past)) (sym none)
      (record { on = All-nil (IsOn child words); course = inl refl })

  reads_none : (events calls past is : List Event) → words_of child calls ≡ words → waiting child calls ≡ Some text
      → lines_read child calls ≡ most → All (IsGiven child) events
      → ((k : ℕ) → k ≤ length events → lines_read child (calls ++ take k events) ≤ most)
      → AreDone calls past events is → NotYet calls past events is
  reads_none [] calls past is named waits count each early done = record {
    fetching = fetched_none past is done;
    waits = ap (waiting child) (append-nil calls) ∙ waits;
    grows =
        let same : length (part_of child (calls ++ [])) ≡ length (part_of child calls) =
        ap (λ zs. length (part_of child zs)) (append-nil calls) in
        omega (arith, same);
  }
  reads_none (started k argv answer ∷ events) calls past is named waits count each early done =
      absurd (All-head (IsGiven child) _ _ each)
  reads_none (wrote k p answer ∷ events) calls past is named waits count each early done =
      absurd (All-head (IsGiven child) _ _ each)
  reads_none (heard k room (Ok bytes) ∷ events) calls past is named waits count each early done =
      let own : k ≡ child = All-head (IsGiven child) _ _ each in
      let e : Event = heard k room (Ok bytes) in
      let one = quiet_read k room bytes calls past done.0 own named waits count (early 1 (omega arith)) done.3 in
      let whole : (xs : List Event) → (calls ++ e ∷ []) ++ xs ≡ calls ++ e ∷ xs = λ xs. append_assoc calls (e ∷ []) xs in
      let rest = reads_none events (calls ++ e ∷ []) (past ++ done.0) done.1
      (words_read child k room calls (Ok bytes) ∙ named) one.waits one.lines (All-tail (IsGiven child) _ _ each)
      (λ j below. subst (λ zs. lines_read child zs ≤ most) (sym (whole (take j events))) (early (suc j) (omega (arith, below))))
      done.4 in
      record {
        fetching = fetched_behind calls past done.0 done.1 is done.2 one.reading.fetching rest.fetching;
        waits = ap (waiting child) (sym (whole events)) ∙ rest.waits;
        grows =
            let size : length (part_of child (calls ++ e ∷ [])) ≡ length (part_of child calls) + length bytes =
            ap length one.part ∙ length-append (part_of child calls) bytes in
            let same : length (part_of child ((calls ++ e ∷ []) ++ events)) ≡ length (part_of child (calls ++ e ∷ events)) =
            ap (λ zs. length (part_of child zs)) (whole events) in
            omega (arith, size, same, one.some, rest.grows);
      }
  reads_none (heard k room (Err fault) ∷ events) calls past is named waits count each early done =
      absurd (All-head (IsGiven child) _ _ each)
  reads_none (stopped k answer ∷ events) calls past is named waits count each early done =
      absurd (All-head (IsGiven child) _ _ each)

  -- the next read failed
  pub reads_missed : (room : ℕ) (events calls past is : List Event) → words_of child calls ≡ words → waiting child calls ≡ Some text
      → lines_read child calls ≡ most → All (IsGiven child) events
      → ((k : ℕ) → k ≤ length events → lines_read child (calls ++ take k events) ≤ most)
      → AreDone calls past (events ++ heard child room (Err Failed) ∷ []) is
      → AreFetching child words text (moment_of child past) is
  reads_missed room events calls past is named waits count each early done =
      let last : Event = heard child room (Err Failed) in
      let cut = done_cut calls past events (last ∷ []) is done in
      let none = reads_none events calls past cut.now named waits count each early cut.first in
      let tail = cut.second in
      let still : words_of child (calls ++ events) ≡ words =
      words_behind child calls events (All-weaker _ IsNoStart (given_no child) events each) ∙ named in
      let missed : AreFetching child words text (moment_of child (past ++ cut.now)) tail.0 =
      subst (λ ws. AreFetching child ws text (moment_of child (past ++ cut.now)) tail.0) still
      (tail.3.2 text none.waits has).fetching in
      let later : cut.later ≡ tail.0 = tail.2 ∙ ap (λ zs. tail.0 ++ zs) tail.4 ∙ append-nil tail.0 in
      fetched_behind calls past cut.now tail.0 is (cut.cut ∙ ap (λ zs. cut.now ++ zs) later) none.fetching missed

  -- No line came, and 1,025 bytes without one: so it is below.
  pub record AreTooLong (past is : List Event) : Type 0 where
    pub fetching : AreFetching child words text (moment_of child past) is
    pub long : IsTooLong text (moment_of child (past ++ is))

  long_behind : (past now later is : List Event) → is ≡ now ++ later → AreFetching child words text (moment_of child past) now
      → AreTooLong (past ++ now) later → AreTooLong past is
  long_behind past now later is cut first rest = record {
    fetching = fetched_behind [] past now later is cut first rest.fetching;
    long = subst (λ zs. IsTooLong text (moment_of child zs)) (append_assoc past now later ∙ ap (λ zs. past ++ zs) (sym cut)) rest.long;
  }

  long_now : (e : Event) (bytes : List ℕ) (calls past now is : List Event) → is ≡ now → length (part_of child calls) < 1025
      → length (part_of child (calls ++ e ∷ [])) ≡ 1025 → QuietRead e bytes calls past now → AreTooLong past is
  long_now e bytes calls past now is same few full one =
      subst (AreTooLong past) (sym same) (record {
        fetching = one.reading.fetching;
        long = subst (λ (at : Moment). IsTooLong text at) (sym (moment_join child _ past now))
            ((one.reading.gives few is_request).long
            (line_none (part_of child calls ++ bytes)
            (line_joined (part_of child calls) bytes (rest_line (spelled child silence calls).heard) one.quiet))
            (ap length (sym one.part) ∙ full));
      })

  -- so no read stands behind that
  long_last : (k room : ℕ) (bytes : List ℕ) (events calls past is : List Event) → length (part_of child calls) < 1025
      → length (part_of child (calls ++ heard k room (Ok bytes) ∷ events)) ≡ 1025
      → 1025 ≤ length (part_of child (calls ++ heard k room (Ok bytes) ∷ []))
      → length (part_of child (calls ++ heard k room (Ok bytes) ∷ [])) + length events
      ≤ length (part_of child ((calls ++ heard k room (Ok bytes) ∷ []) ++ events))
      → length (part_of child ((calls ++ heard k room (Ok bytes) ∷ []) ++ events)) ≡ 1025
      → (done : AreDone calls past (heard k room (Ok bytes) ∷ events) is)
      → QuietRead (heard k room (Ok bytes)) bytes calls past done.0 → AreTooLong past is
  long_last k room bytes [] calls past is few full enough grows last done one =
      long_now (heard k room (Ok bytes)) bytes calls past done.0 is
      (done.2 ∙ ap (λ zs. done.0 ++ zs) done.4 ∙ append-nil done.0) few full one
  long_last k room bytes (x ∷ events) calls past is few full enough grows last done one =
      absurd (omega (arith, enough, grows, last))

  pub reads_long : (events calls past is : List Event) → words_of child calls ≡ words → waiting child calls ≡ Some text
      → lines_read child calls ≡ most → All (IsGiven child) events
      → ((k : ℕ) → k ≤ length events → lines_read child (calls ++ take k events) ≤ most)
      → length (part_of child calls) < 1025 → length (part_of child (calls ++ events)) ≡ 1025
      → AreDone calls past events is → AreTooLong past is
  reads_long [] calls past is named waits count each early few full done =
      let same : length (part_of child (calls ++ [])) ≡ length (part_of child calls) =
      ap (λ zs. length (part_of child zs)) (append-nil calls) in
      absurd (omega (arith, same, few, full))
  reads_long (started k argv answer ∷ events) calls past is named waits count each early few full done =
      absurd (All-head (IsGiven child) _ _ each)
  reads_long (wrote k p answer ∷ events) calls past is named waits count each early few full done =
      absurd (All-head (IsGiven child) _ _ each)
  reads_long (heard k room (Ok bytes) ∷ events) calls past is named waits count each early few full done =
      let own : k ≡ child = All-head (IsGiven child) _ _ each in
      let e : Event = heard k room (Ok bytes) in
      let one = quiet_read k room bytes calls past done.0 own named waits count (early 1 (omega arith)) done.3 in
      let whole : (xs : List Event) → (calls ++ e ∷ []) ++ xs ≡ calls ++ e ∷ xs = λ xs. append_assoc calls (e ∷ []) xs in
      let still : words_of child (calls ++ e ∷ []) ≡ words = words_read child k room calls (Ok bytes) ∙ named in
      let rest_each = All-tail (IsGiven child) _ _ each in
      let rest_early : (j : ℕ) → j ≤ length events → lines_read child ((calls ++ e ∷ []) ++ take j events) ≤ most =
      λ j below. subst (λ zs. lines_read child zs ≤ most) (sym (whole (take j events))) (early (suc j) (omega (arith, below))) in
      let last : length (part_of child ((calls ++ e ∷ []) ++ events)) ≡ 1025 =
      ap (λ zs. length (part_of child zs)) (whole events) ∙ full in
      elim (cases_lt (length (part_of child (calls ++ e ∷ []))) 1025) [
        | inl less ↦
            long_behind past done.0 done.1 is done.2 one.reading.fetching
            (reads_long events (calls ++ e ∷ []) (past ++ done.0) done.1 still one.waits one.lines rest_each rest_early less last done.4)
        | inr enough ↦
            let none = reads_none events (calls ++ e ∷ []) (past ++ done.0) done.1 still one.waits one.lines rest_each rest_early
            done.4 in
            long_last k room bytes events calls past is few full enough none.grows last done one
      ]
  reads_long (heard k room (Err fault) ∷ events) calls past is named waits count each early few full done =
      absurd (All-head (IsGiven child) _ _ each)
  reads_long (stopped k answer ∷ events) calls past is named waits count each early few full done =
      absurd (All-head (IsGiven child) _ _ each)
