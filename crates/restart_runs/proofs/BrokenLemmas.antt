-- A run over a host that starts its children again leaves the log of such a run below, also where it breaks off.
use Rattle.std.proofs.Common.{◌≡◌, ◌⊎◌, ℕ, zero, suc, ◌+◌, ◌<◌, ◌≤◌, List, [], ◌∷◌, ◌++◌, length, take, drop, replicate, slice_get, Some, Ok, Err, refl, sym, ap, subst, ◌∙◌, arith, append_assoc, append-nil, All, Contains, inl, inr}
use Rattle.std.proofs.lemmas.List.{append_cancel_left}
use Rattle.std.proofs.lemmas.List.Elements.{All-contains, All-nil, All-head, All-tail, All-append, All-cons, All-take, All-weaker}
use Rattle.gen_lines.specs.declared.answer.Why.{Why}
use Rattle.io_world.specs.Talks.{Event, IsGiven, Talk, started, wrote, heard, stopped, silence, spelled}
use Rattle.io_world.specs.declared.host.HostFault.{HostFault}
use Rattle.io_world.specs.declared.host.HostFault.TheVariants as host
use Rattle.lemmas.proofs.Counts.{count_joined}
use Rattle.lemmas.proofs.Members.{get_at_length}
use Rattle.pools.specs.Pools.{AreFitPools, Workers}
use Rattle.restart_host.specs.Uses.{AreDone}
use Rattle.restart_runs.proofs.BegunLemmas.{IsOkStart, all_stand, starts_begun, starts_ok, stops_done}
use Rattle.restart_runs.proofs.BroughtLemmas.{followed}
use Rattle.restart_runs.proofs.CallsLemmas.{IsNoStart, done_cut, given_no, spelled_cut, stop_no, taken_no}
use Rattle.restart_runs.proofs.NextLemmas.{SayAnswers}
use Rattle.restart_runs.proofs.OneMoreLemmas.{brings_next, fetches_bad, fetches_next}
use Rattle.restart_runs.proofs.StandsLemmas.{Stands}
use Rattle.restart_runs.proofs.WorkersLemmas.{GoToWorkers, IsWorkerIn, worker_in}
use Rattle.restart_runs.specs.Broken.{AreRefused, IsBegunAgain, LogBrokenAgain, UnderwayAgain, UnstartedAgain}
use Rattle.restart_runs.specs.Laws.{AreWellAsked, BrokenCallsAreBrought}
use Rattle.round_run.proofs.DialogueRequestLemmas.{requests_counted}
use Rattle.round_run.specs.Breaking.{IsBegun, Listening, LogBroken, Tells, Underway, Unstarted, WereStarts, Writing, refusal}
use Rattle.round_run.specs.Calls.{IsStop, Reads, answers_by, lines_read, starts_of}
use Rattle.round_run.specs.Dialogue.{BrokenOff, HasBadLine, IsBadLine, Request, replies_of, requests_of, text_of_request, wanted_by, workers_in}
use Rattle.round_run.specs.Rolling.{Blames}
use Rattle.round_run.specs.declared.fault.RunFault.{RunFault}
use Rattle.round_run.specs.declared.fault.RunFault.TheVariants.{Answer, Generator, Memory, Write}
use Rattle.task_model.specs.Fit.{IsFit}
use Rattle.task_model.specs.declared.task.Task.{Task}
use Rattle.transcript_model.specs.Legal.{HasNoneOpen, IsLegal, asks_of, is_ask}
use Rattle.transcript_model.specs.declared.entry.Entry.{Entry}
use Rattle.transcript_model.specs.declared.head.Head.{Head}

-- one more of the same
more_same : {A : Type 0} (n : ℕ) (x : A) → replicate n x ++ x ∷ [] ≡ replicate (suc n) x
more_same zero x = refl
more_same (suc n) x = ap (λ xs. x ∷ xs) (more_same n x)

-- what failed was refused so
cause_is : (cause : HostFault) → Some cause ≡ Some host.Failed → cause ≡ host.Failed
cause_is cause is = cc (is)

alone : (e f : Event) (refused : List Event) → refused ≡ e ∷ [] → refused ≡ f ∷ [] → f ≡ e
alone e f refused one two = let both : f ∷ [] ≡ e ∷ [] = sym two ∙ one in cc

-- a stop says nothing
stops_silent : (child : ℕ) (calls stops : List Event) → All IsStop stops
    → spelled child silence (calls ++ stops) ≡ spelled child silence calls
stops_silent child calls stops each = spelled_cut child silence calls stops ∙ still (spelled child silence calls) stops each
  where
    still : (talk : Talk) (stops : List Event) → All IsStop stops → spelled child talk stops ≡ talk
    still talk [] each = refl
    still talk (started k words answer ∷ stops) each = absurd (All-head IsStop _ _ each)
    still talk (wrote k bytes answer ∷ stops) each = absurd (All-head IsStop _ _ each)
    still talk (heard k room answer ∷ stops) each = absurd (All-head IsStop _ _ each)
    still talk (stopped k answer ∷ stops) each = still talk stops (All-tail IsStop _ _ each)

-- the calls of a run that breaks off, cut
cut_all : (calls starts done now refused stops os later : List Event) → os ≡ starts ++ later → later ≡ (done ++ now) ++ refused
    → calls ++ (os ++ stops) ≡ ((((calls ++ starts) ++ done) ++ now) ++ refused) ++ stops
cut_all calls starts done now refused stops os later first second =
    ap (λ zs. calls ++ (zs ++ stops)) (first ∙ ap (λ zs. starts ++ zs) second)
    ∙ sym (append_assoc calls (starts ++ ((done ++ now) ++ refused)) stops)
    ∙ ap (λ zs. zs ++ stops) (sym (append_assoc calls starts ((done ++ now) ++ refused))
    ∙ sym (append_assoc (calls ++ starts) (done ++ now) refused)
    ∙ ap (λ zs. zs ++ refused) (sym (append_assoc (calls ++ starts) done now)))

cut_in : (all first rest second later : List Event) → all ≡ first ++ rest → rest ≡ second ++ later → all ≡ (first ++ second) ++ later
cut_in all first rest second later one two = one ∙ ap (λ zs. first ++ zs) two ∙ sym (append_assoc first second later)

cut_rest : (all mid now refused stops : List Event) → all ≡ ((mid ++ now) ++ refused) ++ stops → all ≡ mid ++ ((now ++ refused) ++ stops)
cut_rest all mid now refused stops is =
    is ∙ ap (λ zs. zs ++ stops) (append_assoc mid now refused) ∙ append_assoc mid (now ++ refused) stops

module _ (task : Task) (head : Head) (Front : List Entry → Type 0) (entries : List Entry) where
  abbrev pools : List Workers
  pools = workers_in head

  -- ---- before the first request

  module _ (fault : RunFault) (some : ¬ (fault ≡ Memory)) (calls past : List Event) where
    refused_start_done : (n child : ℕ) (words : List (List ℕ)) (cause : HostFault) (is : List Event)
        → slice_get (starts_of head.pools) n ≡ Some (started child words (Ok tt)) → cause ≡ host.Failed
        → AreDone calls past (take n (starts_of head.pools) ++ started child words (Err cause) ∷ []) is
        → AreRefused (starts_of head.pools) is
    refused_start_done n child words cause is at same done =
        let starts : List Event = take n (starts_of head.pools) in
        let e : Event = started child words (Err host.Failed) in
        let cut = done_cut calls past starts (e ∷ []) is
        (subst (λ c. AreDone calls past (starts ++ started child words (Err c) ∷ []) is) same done) in
        let tail = cut.second in
        let later : cut.later ≡ replicate (suc tail.3.0) e =
        tail.2 ∙ ap (λ zs. tail.0 ++ zs) tail.4 ∙ append-nil tail.0 ∙ tail.3.1 ∙ more_same tail.3.0 e in
        record {
          place = n;
          next = started child words (Ok tt);
          at = at;
          done = cut.now;
          begun = starts_begun starts calls past cut.now (All-take IsOkStart n (starts_of head.pools) (starts_ok head.pools)) cut.first;
          more = tail.3.0;
          is = cut.cut ∙ ap (λ zs. cut.now ++ zs) later;
        }

    unstarted : (os is : List Event) → asks_of entries ≡ 0 → WereStarts head entries fault os
        → AreDone calls past os is → UnstartedAgain head entries fault is
    unstarted os is none (inl (empty, told)) done = record {
      none = none;
      were = inl (subst (λ zs. AreDone calls past zs is) empty done);
    }
    unstarted os is none (inr (n, child, words, cause, at, same, told)) done = of fault some told
      where
        of : (f : RunFault) → ¬ (f ≡ Memory) → Tells (HasNoneOpen entries) f (started child words (Err cause) ∷ [])
            → UnstartedAgain head entries f is
        of Generator real tells =
            let one = alone tells.0 (started child words (Err cause)) (started child words (Err cause) ∷ []) tells.1 refl in
            record {
              none = none;
              were = inr (
                refl,
                refused_start_done n child words cause is at (cause_is cause (ap refusal one ∙ tells.2))
                    (subst (λ zs. AreDone calls past zs is) same done),
              );
            }
        of Memory real tells = absurd (real refl)
        of Write real tells = absurd (cc (tells))
        of (Answer number why) real tells = absurd (cc (tells))

  -- ---- behind it

  -- none of the calls of one entry more is a start
  begun_no : (fault : RunFault) (past : List Event) (now refused : List Event)
      → IsBegun task head.version pools past entries fault now refused Front → All IsNoStart (now ++ refused)
  begun_no fault past now refused (inl x) = subst (All IsNoStart) (sym (ap (λ zs. zs ++ refused) x.0 ∙ x.1)) (All-nil IsNoStart)
  begun_no fault past now refused (inr (inl (may, w))) =
      All-append IsNoStart now refused (All-weaker _ IsNoStart (taken_no w.request.child) now w.taken.each) (elim w.last [
        | inl none ↦ subst (All IsNoStart) (sym none) (All-nil IsNoStart)
        | inr x ↦ subst (All IsNoStart) (sym x.1) (All-cons IsNoStart _ [] tt (All-nil IsNoStart))
      ])
  begun_no fault past now refused (inr (inr (may, l))) =
      All-append IsNoStart now refused (All-weaker _ IsNoStart (given_no l.request.child) now l.reads.each) (elim l.last [
        | inl none ↦ subst (All IsNoStart) (sym none) (All-nil IsNoStart)
        | inr x ↦ subst (All IsNoStart) (sym x.2) (All-cons IsNoStart _ [] tt (All-nil IsNoStart))
      ])

  module _ (fit : IsFit task) (able : AreFitPools task pools) (legal : IsLegal head.version task entries) (front : Front entries)
      (asked : (xs : List Entry) → Front xs → AreWellAsked task head xs) where
    abbrev own : AreWellAsked task head entries
    own = asked entries front

    workers_of_front : (xs : List Entry) → Front xs → GoToWorkers task head xs
    workers_of_front xs is k r at = worker_in task head r.child able ((asked xs is).served k r at)

    -- where each child stands behind the entries, and the calls that follow
    module _ (calls past : List Event) (stands : (c : ℕ) → IsWorkerIn head c → Stands task head entries calls c) where
      of_writing : (now is : List Event) (cause : HostFault) → cause ≡ host.Failed
          → (refused : List Event) (w : Writing task head.version pools entries now refused Front)
          → AreDone calls past (now ++ wrote w.request.child (drop w.count (text_of_request w.request)) (Err cause) ∷ []) is
          → IsBegunAgain task head past entries is Generator Front
      of_writing now is cause same refused w done =
          let more = asked (entries ++ w.entry ∷ []) w.front in
          let at : slice_get (requests_of task pools (entries ++ w.entry ∷ [])) (length (requests_of task pools entries)) ≡ Some w.request =
          ap (λ list. slice_get list (length (requests_of task pools entries))) w.next
          ∙ get_at_length (requests_of task pools entries) w.request in
          let worker = workers_of_front (entries ++ w.entry ∷ []) w.front (length (requests_of task pools entries)) w.request at in
          inl (brings_next task head entries calls Front past w.entry w.request w.next w.legal fit more.few more.in_turn
          (stands w.request.child worker) w.front w.count now is w.taken
          (subst
          (λ c. AreDone calls past (now ++ wrote w.request.child (drop w.count (text_of_request w.request)) (Err c) ∷ []) is) same done))

      next_worker : (q : Request) → slice_get (requests_of task pools entries) (length (replies_of entries)) ≡ Some q
          → IsWorkerIn head q.child
      next_worker q next = workers_of_front entries front (length (replies_of entries)) q next

      of_listening : (now is : List Event) (cause : HostFault) (room : ℕ) → cause ≡ host.Failed
          → (refused : List Event) (l : Listening task pools calls entries now refused)
          → lines_read l.request.child (calls ++ now) ≤ answers_by task pools entries l.request.child
          → AreDone calls past (now ++ heard l.request.child room (Err cause) ∷ []) is
          → IsBegunAgain task head past entries is Generator Front
      of_listening now is cause room same refused l few_lines done =
          inr (fetches_next task head entries fit legal own.few calls past l.request l.next
          (stands l.request.child (next_worker l.request l.next)) now is room l.reads few_lines
          (subst (λ c. AreDone calls past (now ++ heard l.request.child room (Err c) ∷ []) is) same done))

      of_generator : (now refused is : List Event) → IsBegun task head.version pools calls entries Generator now refused Front
          → (e : Event) → refused ≡ e ∷ [] → refusal e ≡ Some host.Failed → AreDone calls past (now ++ refused) is
          → IsBegunAgain task head past entries is Generator Front
      of_generator now refused is (inl x) e one tells done = absurd (let both : [] ≡ e ∷ [] = sym x.1 ∙ one in cc (both))
      of_generator now refused is (inr (inl (may, w))) e one tells done = elim w.last [
        | inl none ↦ absurd (let both : [] ≡ e ∷ [] = sym none ∙ one in cc (both))
        | inr x ↦
            of_writing now is x.0 (cause_is x.0 (ap refusal (alone e _ refused one x.1) ∙ tells)) refused w
            (subst (λ zs. AreDone calls past (now ++ zs) is) x.1 done)
      ]
      of_generator now refused is (inr (inr (may, l))) e one tells done = elim l.last [
        | inl none ↦ absurd (let both : [] ≡ e ∷ [] = sym none ∙ one in cc (both))
        | inr x ↦
            of_listening now is x.0 x.1 (cause_is x.0 (ap refusal (alone e _ refused one x.2) ∙ tells)) refused l x.3
            (subst (λ zs. AreDone calls past (now ++ zs) is) x.2 done)
      ]

      -- the reads of the line that is none
      answer_reads : (number : ℕ) (why : Why) (now refused : List Event)
          → IsBegun task head.version pools calls entries (Answer number why) now refused Front
          → (q : Request) → slice_get (requests_of task pools entries) (length (replies_of entries)) ≡ Some q
          → Reads q.child (answers_by task pools entries q.child) calls now
      answer_reads number why now refused (inl x) q next =
          subst (Reads q.child (answers_by task pools entries q.child) calls) (sym x.0) (record {
            each = All-nil (IsGiven q.child);
            early = λ k below. absurd (omega (arith, below));
          })
      answer_reads number why now refused (inr (inl (may, w))) q next = absurd may
      answer_reads number why now refused (inr (inr (may, l))) q next =
          let same : l.request ≡ q = cc (l.next, next) in
          subst (λ (r : Request). Reads r.child (answers_by task pools entries r.child) calls now) same l.reads

      of_answer : (number : ℕ) (why : Why) (now refused is stops : List Event)
          → IsBegun task head.version pools calls entries (Answer number why) now refused Front → refused ≡ [] → All IsStop stops
          → HasBadLine task head.version pools entries (λ child. Some (spelled child silence ((calls ++ now) ++ stops))) number why
          → AreDone calls past (now ++ refused) is → IsBegunAgain task head past entries is (Answer number why) Front
      of_answer number why now refused is stops begun none each b done =
          let d : ℕ = b.request.child in
          let all = answer_reads number why now refused begun b.request b.next in
          let done_so : AreDone calls past now is =
          subst (λ zs. AreDone calls past zs is) (ap (λ zs. now ++ zs) none ∙ append-nil now) done in
          fetches_bad task head entries fit legal own.few calls past b.request b.next (stands d (next_worker b.request b.next)) now is
          number why b.numbered all done_so
          (subst
          (λ (t : Talk). IsBadLine t.heard (answers_by task pools entries d) (wanted_by task head.version b.request) why)
          (stops_silent d (calls ++ now) stops each) b.heard)

      begun_again : (fault : RunFault) → ¬ (fault ≡ Memory) → (now refused is stops : List Event)
          → IsBegun task head.version pools calls entries fault now refused Front → (Free : Type 0) → Tells Free fault refused
          → All IsStop stops
          → Blames head.version task pools (λ child. Some (spelled child silence (((calls ++ now) ++ refused) ++ stops))) fault entries
          → AreDone calls past (now ++ refused) is → IsBegunAgain task head past entries is fault Front
      begun_again Generator some now refused is stops begun Free tells each blames done =
          of_generator now refused is begun tells.0 tells.1 tells.2 done
      begun_again Memory some now refused is stops begun Free tells each blames done = absurd (some refl)
      begun_again Write some now refused is stops (inl x) Free tells each blames done =
          subst (λ zs. AreDone calls past zs is) (ap (λ zs. zs ++ refused) x.0 ∙ x.1) done
      begun_again Write some now refused is stops (inr (inl (may, w))) Free tells each blames done = absurd may
      begun_again Write some now refused is stops (inr (inr (may, l))) Free tells each blames done = absurd may
      begun_again (Answer number why) some now refused is stops begun Free tells each blames done =
          of_answer number why now refused is stops begun tells each
          (subst
          (λ zs. HasBadLine task head.version pools entries (λ child. Some (spelled child silence (zs ++ stops))) number why)
          (ap (λ zs. (calls ++ now) ++ zs) tells ∙ append-nil (calls ++ now)) blames.1) done

    -- the answers of the entries were said
    said_of_broken : (fault : RunFault) (final : List Event)
        → BrokenOff task head.version pools Front fault entries (λ child. Some (spelled child silence final)) → (c : ℕ) → IsWorkerIn head c
        → 0 < asks_of entries
        → SayAnswers task head.version (requests_of task pools entries) (replies_of entries) c (spelled c silence final).heard
    said_of_broken fault final t c worker some =
        let count = requests_counted task pools [] (entries ++ t.next) in
        let talk = t.said c worker.one (omega (arith, count, count_joined is_ask entries t.next, some)) in
        record { answered = talk.answered; short = talk.short }

    underway : (fault : RunFault) → ¬ (fault ≡ Memory) → (calls past os is stops : List Event) → All IsStop stops
        → BrokenOff task head.version pools Front fault entries (λ child. Some (spelled child silence (calls ++ (os ++ stops))))
        → Blames head.version task pools (λ child. Some (spelled child silence (calls ++ (os ++ stops)))) fault entries
        → Underway task head calls [] entries fault os Front → AreDone calls past os is
        → UnderwayAgain task head past entries fault is Front
    underway fault some calls past os is stops each talks blames u done =
        let starts : List Event = starts_of head.pools in
        let b = u.breaks in
        let first = done_cut calls past starts u.later is (subst (λ zs. AreDone calls past zs is) u.cut done) in
        let cut : u.later ≡ b.done ++ (b.calls ++ b.refused) = b.cut ∙ append_assoc b.done b.calls b.refused in
        let second = done_cut (calls ++ starts) (past ++ first.now) b.done (b.calls ++ b.refused) first.later
        (subst (λ zs. AreDone (calls ++ starts) (past ++ first.now) zs first.later) cut first.second) in
        let mid : List Event = (calls ++ starts) ++ b.done in
        let final : calls ++ (os ++ stops) ≡ ((mid ++ b.calls) ++ b.refused) ++ stops =
        cut_all calls starts b.done b.calls b.refused stops os u.later u.cut b.cut in
        let rest : List Event = (b.calls ++ b.refused) ++ stops in
        let ends : calls ++ (os ++ stops) ≡ mid ++ rest =
        cut_rest (calls ++ (os ++ stops)) mid b.calls b.refused stops final in
        let quiet : All IsNoStart rest =
        All-append IsNoStart (b.calls ++ b.refused) stops (begun_no fault mid b.calls b.refused b.begun)
        (All-weaker IsStop IsNoStart stop_no stops each) in
        let f = followed task head entries fit legal own.few (workers_of_front entries front) own.in_turn (calls ++ (os ++ stops))
        (said_of_broken fault (calls ++ (os ++ stops)) talks) (Unit {0}) (λ x. tt) [] entries (calls ++ starts) (past ++ first.now) b.done
        second.now rest refl ends quiet (λ c worker x. all_stand task head calls c worker) b.follows second.first in
        record {
          starts = first.now;
          begun = starts_begun starts calls past first.now (starts_ok head.pools) first.first;
          done = second.now;
          calls = second.later;
          cut = cut_in is first.now first.later second.now second.later first.cut second.cut;
          needed = u.needed;
          follows = f.again;
          more = begun_again mid ((past ++ first.now) ++ second.now) (λ c worker. f.after c worker tt) fault some b.calls b.refused
              second.later stops b.begun _ b.told each
              (subst (λ zs. Blames head.version task pools (λ child. Some (spelled child silence zs)) fault entries) final blames)
              second.second;
        }

broken_over : (task : Task) (head : Head) (Front : List Entry → Type 0) (entries : List Entry) (fault : RunFault)
    (calls past os events : List Event) → IsFit task → AreFitPools task (workers_in head) → IsLegal head.version task entries
    → Front entries → ((xs : List Entry) → Front xs → AreWellAsked task head xs)
    → LogBroken task head Front entries fault (Some calls) (Some (calls ++ os))
    → BrokenOff task head.version (workers_in head) Front fault entries (λ child. Some (spelled child silence (calls ++ os)))
    → Blames head.version task (workers_in head) (λ child. Some (spelled child silence (calls ++ os))) fault entries
    → AreDone calls past os events → LogBrokenAgain task head Front entries fault (Some past) (Some (past ++ events))
broken_over task head Front entries fault calls past os events fit able legal front asked broken talks blames done =
    λ some.
    let ends : calls ++ os ≡ broken.0 ++ broken.1 = broken.2 in
    let told = broken.4 in
    let same : told.0 ≡ calls = cc (told.2) in
    let cut : os ≡ told.1 ++ broken.1 =
    append_cancel_left calls os (told.1 ++ broken.1)
    (ends ∙ ap (λ zs. zs ++ broken.1) (told.3 ∙ ap (λ zs. zs ++ told.1) same) ∙ append_assoc calls told.1 broken.1) in
    let first = done_cut calls past told.1 broken.1 events (subst (λ zs. AreDone calls past zs events) cut done) in
    let parts : Unstarted head [] entries fault told.1 ⊎ Underway task head calls [] entries fault told.1 Front =
    subst (λ zs. Unstarted head [] entries fault told.1 ⊎ Underway task head zs [] entries fault told.1 Front) same told.4 in (
      past,
      first.now,
      first.later,
      refl,
      ap (λ zs. past ++ zs) first.cut ∙ sym (append_assoc past first.now first.later),
      stops_done broken.1 (calls ++ told.1) (past ++ first.now) first.later broken.3 first.second,
      elim parts [
        | inl u ↦ inl (unstarted task head Front entries fault some calls past told.1 first.now u.none u.were first.first)
        | inr u ↦ inr (underway task head Front entries fit able legal front asked fault some calls past told.1 first.now broken.1 broken.3
            (subst (λ zs. BrokenOff task head.version (workers_in head) Front fault entries (λ child. Some (spelled child silence (calls ++ zs))))
            cut talks)
            (subst (λ zs. Blames head.version task (workers_in head) (λ child. Some (spelled child silence (calls ++ zs))) fault entries)
            cut blames) u first.first)
      ],
    )

pub broken_brought : BrokenCallsAreBrought
broken_brought task head fronts entries fault calls past os events fit able legal front asked broken talks blames done =
    broken_over task head (Contains fronts) entries fault calls past os events fit able legal front
    (λ xs is. All-contains (AreWellAsked task head) fronts xs asked is) broken talks blames done
