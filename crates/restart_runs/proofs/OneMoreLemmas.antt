-- The calls of one entry more, behind those of a transcript, in which a run breaks off.
use Rattle.std.proofs.Common.{◌≡◌, ℕ, ◌+◌, ◌<◌, ◌≤◌, List, [], ◌∷◌, ◌++◌, length, take, drop, slice_get, Some, Err, refl, sym, ap, subst, ◌∙◌, arith, append-nil, inl, inr}
use Rattle.std.proofs.Math.Seq.{take-append_seam}
use Rattle.std.proofs.lemmas.Bool.{cases_lt}
use Rattle.std.proofs.lemmas.List.{append_cancel_left, take_all, take-append-drop}
use Rattle.std.proofs.lemmas.Option.{slice_get_within}
use Rattle.gen_lines.specs.Lines.{lines_of, unfinished}
use Rattle.gen_lines.specs.Reply.{bad, reply_of}
use Rattle.gen_lines.specs.declared.answer.Why.{Why}
use Rattle.gen_lines.specs.declared.answer.Why.TheVariants.{TooLong}
use Rattle.io_world.specs.Talks.{Event, Talk, heard, silence, spelled, wrote, Takes}
use Rattle.io_world.specs.declared.host.HostFault.TheVariants.{Failed}
use Rattle.lemmas.proofs.Members.{get_at_length}
use Rattle.pools.specs.Pools.{Workers, child_for}
use Rattle.restart_host.proofs.CourseLemmas.{moment_join}
use Rattle.restart_host.specs.Lives.{AreBringing, IsAskedAt, IsSaidAt, Moment, lines_from, moment_by, moment_of}
use Rattle.restart_host.specs.Uses.{AreDone, part_of, waiting}
use Rattle.restart_runs.proofs.FetchedLemmas.{reads_done, request_line}
use Rattle.restart_runs.proofs.NextLemmas.{waits_next}
use Rattle.restart_runs.proofs.PiecesLemmas.{pieces_begun}
use Rattle.restart_runs.proofs.StandsLemmas.{Stands, more_of}
use Rattle.restart_runs.proofs.UnfinishedLemmas.{reads_long, reads_missed}
use Rattle.restart_runs.specs.Again.{words_for}
use Rattle.restart_runs.specs.Broken.{BringsNext, FetchesBad, FetchesNext}
use Rattle.round_run.specs.Calls.{Reads, answers_by, lines_read, next_request}
use Rattle.round_run.specs.Dialogue.{IsBadLine, IsShortAt, Request, called_stream, count_to, last_round, replies_of, requests_after, requests_of, text_of_request, wanted_by, workers_in}
use Rattle.table_runs.proofs.AgreeLemmas.{reads}
use Rattle.table_runs.proofs.AskingLemmas.{line_of_request}
use Rattle.table_runs.specs.Asking.{AreAskedInTurn}
use Rattle.task_model.specs.Fit.{IsFit}
use Rattle.task_model.specs.declared.task.Task.{Task}
use Rattle.transcript_model.specs.Legal.{IsLegal, asks_of}
use Rattle.transcript_model.specs.declared.entry.Call.{Call}
use Rattle.transcript_model.specs.declared.entry.Entry.{Entry}
use Rattle.transcript_model.specs.declared.entry.Entry.TheVariants as entry
use Rattle.transcript_model.specs.declared.head.Head.{Head}
use Rattle.transcript_model.specs.declared.limits.TheConstants.{MOST_CALLS}

module _ (task : Task) (head : Head) where
  abbrev pools : List Workers
  pools = workers_in head

  abbrev rs : List Entry → List Request
  rs before = requests_of task pools before

  -- a request reads as one line
  one_line : (entries : List Entry) → IsFit task → IsLegal head.version task entries → asks_of entries ≤ MOST_CALLS → (k : ℕ)
      (r : Request) → slice_get (rs entries) k ≡ Some r → lines_of (text_of_request r) ≡ line_of_request r ∷ []
  one_line entries fit legal few k r at =
      ap lines_of (sym (append-nil (text_of_request r))) ∙ (reads head.version task pools entries fit legal few k r at).line []

  -- ---- the next request

  module _ (before : List Entry) (calls : List Event) where
    -- its child is idle
    next_idle : (e : Entry) (r : Request) → rs (before ++ e ∷ []) ≡ rs before ++ r ∷ []
        → AreAskedInTurn task pools (before ++ e ∷ []) → Stands task head before calls r.child → waiting r.child calls ≡ Some []
    next_idle e r grew alone stands = elim stands.waits [
      | inl free ↦ free.0
      | inr due ↦ absurd (omega (arith, due.count, counted e grew))
    ]
      where
        -- what comes behind requests that are followed by one more
        alone_there : (xs more : List Request) (q : Request) → xs ++ more ≡ xs ++ q ∷ [] → more ≡ q ∷ []
        alone_there xs more q is = append_cancel_left xs more (q ∷ []) is

        by_ask : (number turn : ℕ) (call : Call) → e ≡ entry.Ask number turn call
            → next_request task pools before number turn call ≡ r → count_to r.child (rs before) ≡ answers_by task pools before r.child
        by_ask number turn call is same =
            subst (λ (q : Request). count_to q.child (rs before) ≡ answers_by task pools before q.child) same
            (subst (λ list. count_to (child_for pools (last_round task [] list) (called_stream task call)) (rs list)
            ≡ answers_by task pools list (child_for pools (last_round task [] list) (called_stream task call)))
            (take-append_seam before (e ∷ []))
            (alone (length before) number turn call
            (ap (λ x. slice_get (before ++ x ∷ []) (length before)) is ∙ get_at_length before (entry.Ask number turn call))))

        behind : (x : Entry) → e ≡ x → rs (before ++ e ∷ []) ≡ rs before ++ r ∷ []
            → requests_after task pools (last_round task [] before) (x ∷ []) ≡ r ∷ []
        behind x is grew_so =
            alone_there (rs before) (requests_after task pools (last_round task [] before) (x ∷ [])) r
            (sym (ap (λ y. rs (before ++ y ∷ [])) is ∙ (more_of task head before x).requests) ∙ grew_so)

        counted_at : (x : Entry) → e ≡ x → rs (before ++ e ∷ []) ≡ rs before ++ r ∷ []
            → count_to r.child (rs before) ≡ answers_by task pools before r.child
        counted_at (entry.Ask number turn call) is grew_so =
            by_ask number turn call is (let both = behind (entry.Ask number turn call) is grew_so in cc (both))
        counted_at x is grew_so = absurd (let none = behind x is grew_so in cc (none))

        counted : (x : Entry) → rs (before ++ e ∷ []) ≡ rs before ++ r ∷ []
            → count_to r.child (rs before) ≡ answers_by task pools before r.child
        counted x grew_so = counted_at e refl grew_so

    module _ (Front : List Entry → Type 0) (past : List Event) (e : Entry) (r : Request)
        (grew : rs (before ++ e ∷ []) ≡ rs before ++ r ∷ []) (legal : IsLegal head.version task (before ++ e ∷ []))
        (fit : IsFit task) (few : asks_of (before ++ e ∷ []) ≤ MOST_CALLS) (alone : AreAskedInTurn task pools (before ++ e ∷ []))
        (stands : Stands task head before calls r.child) where
      pub brings_next : Front (before ++ e ∷ []) → (count : ℕ) (now is : List Event)
          → Takes r.child (take count (text_of_request r)) now
          → AreDone calls past (now ++ wrote r.child (drop count (text_of_request r)) (Err Failed) ∷ []) is
          → BringsNext task head past before is Front
      brings_next front count now is takes done =
          let text : List ℕ = text_of_request r in
          let at : slice_get (rs (before ++ e ∷ [])) (length (rs before)) ≡ Some r =
          ap (λ list. slice_get list (length (rs before))) grew ∙ get_at_length (rs before) r in
          let line = one_line (before ++ e ∷ []) fit legal few (length (rs before)) r at in
          record {
            entry = e;
            legal = legal;
            front = front;
            request = r;
            next = grew;
            bringing = subst (λ bs. AreBringing r.child (words_for head.pools r.child) [] bs (moment_of r.child past) is)
                (take-append-drop count text)
                (pieces_begun r.child (words_for head.pools r.child) (line_of_request r) (take count text) (drop count text) now calls
                past is (request_line (line_of_request r) line) (take-append-drop count text) stands.named
                (next_idle e r grew alone stands) takes.each (ap (λ (t : Talk). t.written) takes.spells) done);
          }

  -- ---- the next answer

  module _ (entries : List Entry) (fit : IsFit task) (legal : IsLegal head.version task entries) (few : asks_of entries ≤ MOST_CALLS)
      (calls past : List Event) (q : Request) (next : slice_get (rs entries) (length (replies_of entries)) ≡ Some q)
      (stands : Stands task head entries calls q.child) (now is : List Event) where
    abbrev d : ℕ
    d = q.child

    abbrev most : ℕ
    most = answers_by task pools entries d

    abbrev words : List (List ℕ)
    words = words_for head.pools d

    line : lines_of (text_of_request q) ≡ line_of_request q ∷ []
    line = one_line entries fit legal few (length (replies_of entries)) q next

    waits : waiting d calls ≡ Some (text_of_request q)
    waits = (waits_next task head entries calls q next stands).0

    -- at each moment, where no line more had come in the end
    each_early : Reads d most calls now → lines_read d (calls ++ now) ≤ most → (k : ℕ) → k ≤ length now
        → lines_read d (calls ++ take k now) ≤ most
    each_early all end k within = elim (cases_lt k (length now)) [
      | inl less ↦ all.early k less
      | inr enough ↦ subst (λ zs. lines_read d (calls ++ zs) ≤ most) (sym (take_all k now enough)) end
    ]

    pub fetches_next : (room : ℕ) → Reads d most calls now → lines_read d (calls ++ now) ≤ most
        → AreDone calls past (now ++ heard d room (Err Failed) ∷ []) is → FetchesNext task head past entries is
    fetches_next room all end done = record {
      request = q;
      next = next;
      fetching = reads_missed d words (line_of_request q) line most room now calls past is stands.named waits stands.lines all.each
          (each_early all end) done;
    }

    -- ---- it is none

    module _ (number : ℕ) (why : Why) (numbered : q.number ≡ number) (all : Reads d most calls now) (done : AreDone calls past now is)
      where
        moved : moment_by d (moment_of d past) is ≡ moment_of d (past ++ is)
        moved = sym (moment_join d _ past is)

        by_line : (bad_line : List ℕ) → slice_get (lines_of (spelled d silence (calls ++ now)).heard) most ≡ Some bad_line
            → reply_of bad_line (wanted_by task head.version q) ≡ bad why → IsShortAt (spelled d silence (calls ++ now)).heard most
            → FetchesBad task head past entries is number why
        by_line bad_line at is_bad short =
            let more : most < lines_read d (calls ++ now) = slice_get_within _ most bad_line at in
            let r = reads_done d words (line_of_request q) (request_line (line_of_request q) line) line most now calls past is stands.named
            waits stands.lines all.each all.early more short done in
            let same : bad_line ≡ r.line = cc (at, r.said) in
            let f = r.fetches.fetched in
            let said = subst (λ (m : Moment). IsSaidAt r.line f.place m) moved f.said in
            record {
              fetches = record { request = q; next = next; fetching = r.fetches.fetching };
              numbered = numbered;
              place = f.place;
              asked = subst (λ (m : Moment). IsAskedAt (text_of_request q) f.place m) moved f.asked;
              bad = inl (r.line, said.at, ap (λ l. reply_of l (wanted_by task head.version q)) (sym same) ∙ is_bad, said.short);
            }

        by_length : why ≡ TooLong → length (lines_of (spelled d silence (calls ++ now)).heard) ≡ most
            → length (unfinished (spelled d silence (calls ++ now)).heard) ≡ 1025 → FetchesBad task head past entries is number why
        by_length too count long =
            let few_held : length (part_of d calls) < 1025 = let none = ap length stands.part in omega (arith, none) in
            let end : lines_read d (calls ++ now) ≤ most = omega (arith, count) in
            let l = reads_long d words (line_of_request q) line most now calls past is stands.named waits stands.lines all.each
            (each_early all end) few_held long done in
            record {
              fetches = record { request = q; next = next; fetching = l.fetching };
              numbered = numbered;
              place = length (lines_from (moment_of d (past ++ is)));
              asked = l.long.asked;
              bad = inr (too, refl, l.long.long);
            }

        pub fetches_bad : IsBadLine (spelled d silence (calls ++ now)).heard most (wanted_by task head.version q) why
            → FetchesBad task head past entries is number why
        fetches_bad (inl x) = by_line x.0 x.1 x.2 x.3
        fetches_bad (inr x) = by_length x.0 x.1 x.2
