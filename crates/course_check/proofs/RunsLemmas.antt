-- The batches of a dream, entry by entry.
use Rattle.std.proofs.Common.{◌≡◌, ℕ, ◌+◌, ◌<◌, inl, inr, nat_lt, Bool, true, false, List, [], ◌∷◌, ◌++◌, length, take, refl, sym, ap, subst, ◌∙◌, arith, append_assoc}
use Rattle.std.proofs.lemmas.Bool.{ltb-false, ltb-true}
use Rattle.std.proofs.lemmas.List.{append-nil, length-append, length-map, map-append, take-map, take_all}
use Rattle.course_check.proofs.CoursesStepLemmas.{LeadsThrough, rounds_lead}
use Rattle.course_check.specs.Courses.{Course, Opens}
use Rattle.course_check.proofs.BatchesLemmas.{batch_leads, only_batches, opens_back}
use Rattle.course_check.proofs.StepsLemmas.{leads_on_then}
use Rattle.course_check.specs.Places.{LeadsOn, OpensNext, Phase, ModePlace, RunsNext, Settles, asked_next, joining, moves, phase_behind, repeated, resting, sent_next, stays, with_batch}
use Rattle.task_model.specs.Dreams as dreams
use Rattle.task_model.specs.declared.stream.Instance.{Instance}
use Rattle.task_model.specs.declared.task.Task.{Task}
use Rattle.transcript_model.specs.Dreaming.{Sent, sent_instances}
use Rattle.transcript_model.specs.Rounds.{IsBatch, Limits, calls_left}
use Rattle.transcript_model.specs.Turns.{AreBatches, Kept, finished, further, is_cut, last}
use Rattle.transcript_model.specs.declared.entry.Entry.{Entry}

-- the place between two turns, where the last batch stands so and this is kept
abbrev pub at_rest : Course → Kept → ModePlace
at_rest c k = record { batch = c; phase = resting; kept = k }

-- ---- what comes behind a batch

-- where something is asked, it doesn't matter what would come otherwise
pub phase_any : (over also : Phase) (cut : Bool) (real : ℕ) (entries : List dreams.SupposedEntry) (sent next : List Sent)
    → 0 < length next → phase_behind over cut real entries sent next ≡ phase_behind also cut real entries sent next
phase_any over also cut real entries sent [] some = absurd (omega (arith, some))
phase_any over also true real entries sent (s ∷ next) some = refl
phase_any over also false real entries sent (s ∷ next) some = refl

pub phase_none : (cut : Bool) (real : ℕ) (entries : List dreams.SupposedEntry) (sent next : List Sent) → next ≡ []
    → phase_behind resting cut real entries sent next ≡ resting
phase_none cut real entries sent next none =
    ap (λ (l : List Sent). phase_behind resting cut real entries sent l) none

pub phase_cut : (cut : Bool) (real : ℕ) (entries : List dreams.SupposedEntry) (sent next : List Sent) → cut ≡ true
    → phase_behind resting cut real entries sent next ≡ resting
phase_cut cut real entries sent [] is = refl
phase_cut cut real entries sent (s ∷ next) is =
    ap (λ (b : Bool). phase_behind resting b real entries sent (s ∷ next)) is

pub phase_more : (cut : Bool) (real : ℕ) (entries : List dreams.SupposedEntry) (sent next : List Sent) → cut ≡ false → 0 < length next
    → phase_behind resting cut real entries sent next ≡ repeated real entries (sent ++ next)
phase_more cut real entries sent [] is some = absurd (omega (arith, some))
phase_more cut real entries sent (s ∷ next) is some =
    ap (λ (b : Bool). phase_behind resting b real entries sent (s ∷ next)) is

pub not_less : (n : ℕ) → nat_lt n 0 ≡ false
not_less n = by (nat_lt n 0) refl
  where
    by : (b : Bool) → nat_lt n 0 ≡ b → nat_lt n 0 ≡ false
    by true is = let less = ltb-true n 0 is in absurd (omega (arith, less))
    by false is = is

module _ (limits : Limits) (task : Task) where
  -- where nothing may be asked of the dream, nothing of the batch is open, nor were calls wanting
  pub opens_none : (real : ℕ) (before : List Entry) (entries : List dreams.SupposedEntry) (sent : List Sent) (c : Course)
      → OpensNext limits task real before entries sent c → sent_next task real before entries sent ≡ []
      → (asked_next limits task real before entries sent ≡ []) × (c.answers ≡ 0) × (c.is_cut ≡ false)
  opens_none real before entries sent c o none =
      let nothing : asked_next limits task real before entries sent ≡ [] =
      ap (λ (l : List Sent). take (calls_left limits before) (sent_instances l)) none
      ∙ take_all (calls_left limits before) [] (omega arith) in
      let long : length o.round + length o.rest ≡ 0 =
      sym (length-append o.round o.rest) ∙ ap length (sym o.parts ∙ nothing) in (
        nothing,
        ap (λ (d : Course). d.answers) o.is ∙ omega (arith, long),
        ap (λ (d : Course). d.is_cut) o.is ∙ ap (λ (l : List Sent). is_cut limits before l) none
            ∙ not_less (calls_left limits before),
      )

  -- The entries lead from here to where nothing is open again and this is kept.
  pub record LeadsTurn (p : ModePlace) (before now : List Entry) (next : Kept) (cut : Bool) : Type 0 where
    pub last : Course
    pub leads : LeadsOn limits task p before now (at_rest last next)
    pub answered : last.answers ≡ 0
    pub cut_is : last.is_cut ≡ cut

  -- ---- one batch

  pub through_of : (before now : List Entry) (list : List Instance) (cut : Bool) → IsBatch limits task before list now
      → LeadsThrough (only_batches limits) task before (take (calls_left limits before) list) cut now
  through_of before now list cut b =
      rounds_lead (only_batches limits) task b.rounds (take (calls_left limits before) list) before now cut b.cut b.run

  -- a batch behind which nothing comes by itself
  pub batch_ends : (before now : List Entry) (list : List Instance) (cut : Bool) (phase : Phase) (next : Kept) → phase ≡ resting
      → (t : LeadsThrough (only_batches limits) task before list cut now)
      → LeadsTurn (record { batch = t.first; phase = phase; kept = next }) before now next cut
  batch_ends before now list cut phase next rests t =
      let p : ModePlace = at_rest t.first next in
      let here : LeadsTurn p before now next cut =
      record {
        last = t.last;
        leads = batch_leads limits task p before now t.last (at_rest t.last next) (inr refl) t.leads (stays (inr refl) refl);
        answered = t.resting;
        cut_is = t.cut_is;
      } in
      subst (λ (f : Phase). LeadsTurn (record { batch = t.first; phase = f; kept = next }) before now next cut) (sym rests) here

  empty_batch : (before : List Entry) → IsBatch limits task before [] []
  empty_batch before = record { rounds = []; cut = take_all (calls_left limits before) [] (omega arith); run = refl }

  -- ---- all batches

  module _ (real : ℕ) (entries : List dreams.SupposedEntry) (base : Kept) where
    -- what is kept where these were asked of the dream
    abbrev pub kept_with : List Sent → Kept
    kept_with sent = joining base (sent_instances sent)

    -- The next batch begins, where these were asked of the dream, and the entries lead to where these were.
    pub record LeadsRun (sent : List Sent) (before now : List Entry) (after : List Sent) (cut : Bool) : Type 0 where
      pub first : ModePlace
      pub runs : RunsNext limits task resting real before entries sent (kept_with sent) first
      pub through : LeadsTurn first before now (kept_with after) cut

    module _ (sent : List Sent) (before : List Entry) where
      abbrev next : List Sent
      next = sent_next task real before entries sent

      abbrev list : List Instance
      list = asked_next limits task real before entries sent

      -- these are kept then
      kept_more : (asked : List Sent) → sent_instances asked ≡ list → joining (kept_with sent) list ≡ kept_with (sent ++ asked)
      kept_more asked is =
          let tried : (base.tried ++ sent_instances sent) ++ list ≡ base.tried ++ sent_instances (sent ++ asked) =
          append_assoc base.tried (sent_instances sent) list
          ∙ ap (λ l. base.tried ++ l)
          (ap (λ l. sent_instances sent ++ l) (sym is) ∙ sym (map-append (λ (s : Sent). s.instance) sent asked)) in
          λ i. record { tried = tried i; skeletons = base.skeletons }

      -- the batch is the last
      ends_run : (now : List Entry) (asked : List Sent) (cut : Bool) → cut ≡ is_cut limits before next
          → IsBatch limits task before (sent_instances next) now → sent_instances asked ≡ list
          → phase_behind resting (is_cut limits before next) real entries sent next ≡ resting
          → LeadsRun sent before now (sent ++ asked) cut
      ends_run now asked cut cut_is batch are phase =
          let own = is_cut limits before next in
          let t = through_of before now (sent_instances next) own batch in
          let kept = joining (kept_with sent) list in
          let ended = batch_ends before now list own (phase_behind resting own real entries sent next) kept phase t in
          let first : ModePlace = record { batch = t.first; phase = phase_behind resting own real entries sent next; kept = kept } in
          record {
            first = first;
            runs = record {
              batch = t.first;
              opens = opens_back limits task before list own t.first t.opens;
              after_is = refl;
            };
            through = subst (λ (b : Bool). LeadsTurn first before now (kept_with (sent ++ asked)) b) (sym cut_is)
                (subst (λ (k : Kept). LeadsTurn first before now k own) (kept_more asked are) ended);
          }

      -- a further batch comes behind it
      goes_further : (now rest : List Entry) (after : List Sent) (cut : Bool) → 0 < length next
          → is_cut limits before next ≡ false → IsBatch limits task before (sent_instances next) now
          → LeadsRun (sent ++ next) (before ++ now) rest after cut → LeadsRun sent before (now ++ rest) after cut
      goes_further now rest after cut some uncut batch later =
          let t = through_of before now (sent_instances next) false batch in
          let short = ltb-false (calls_left limits before) (length next) uncut in
          let are : sent_instances next ≡ list =
          sym (take_all (calls_left limits before) (sent_instances next)
          (omega (arith, short, length-map next (λ (s : Sent). s.instance)))) in
          let opens = opens_back limits task before list false t.first t.opens in
          let long : 0 < length list =
          subst (λ (is : List Instance). 0 < length is) are
          (omega (arith, some, length-map next (λ (s : Sent). s.instance))) in
          let some_open : 0 < t.first.answers =
          let round = opens.some long in
          omega (arith, round, ap (λ (c : Course). c.answers) opens.is) in
          let phase = phase_more (is_cut limits before next) real entries sent next uncut some in
          let first : ModePlace = record { batch = t.first; phase = repeated real entries (sent ++ next); kept = kept_with (sent ++ next) } in
          let settles : Settles limits task (before ++ now) (with_batch first t.last) later.first =
          moves real entries (sent ++ next) (record { phase_is = refl; answered = t.resting; uncut = t.cut_is }) later.runs in
          let here = batch_leads limits task first before now t.last later.first (inl some_open) t.leads settles in
          let end = at_rest later.through.last (kept_with after) in
          record {
            first = first;
            runs = record {
              batch = t.first;
              opens = subst (λ (b : Bool). Opens limits task before list b t.first) (sym uncut) opens;
              after_is = λ i. record { batch = t.first; phase = sym phase i; kept = sym (kept_more next are) i };
            };
            through = record {
              last = later.through.last;
              leads = leads_on_then limits task first before now rest later.first end here later.through.leads;
              answered = later.through.answered;
              cut_is = later.through.cut_is;
            };
          }

    pub run_leads : (sent : List Sent) (before now : List Entry) (after : List Sent) (cut : Bool)
        → AreBatches limits task real entries sent before now after cut → LeadsRun sent before now after cut
    run_leads sent before now after cut (finished none) =
        let next = sent_next task real before entries sent in
        let lists : sent_instances next ≡ [] = ap sent_instances none in
        let batch : IsBatch limits task before (sent_instances next) [] =
        subst (λ (is : List Instance). IsBatch limits task before is []) (sym lists) (empty_batch before) in
        let nothing : [] ≡ asked_next limits task real before entries sent =
        sym (ap (take (calls_left limits before)) lists ∙ take_all (calls_left limits before) [] (omega arith)) in
        let uncut : is_cut limits before next ≡ false =
        ap (λ (l : List Sent). is_cut limits before l) none ∙ not_less (calls_left limits before) in
        subst (λ (l : List Sent). LeadsRun sent before [] l false) (append-nil sent)
        (ends_run sent before [] [] false (sym uncut) batch nothing
        (phase_none (is_cut limits before next) real entries sent next none))
    run_leads sent before now after cut (last again is wanting batch) =
        let next = sent_next task real before entries sent in
        let own : is_cut limits before next ≡ true = subst (λ (l : List Sent). is_cut limits before l ≡ true) is wanting in
        let also : IsBatch limits task before (sent_instances next) now =
        subst (λ (l : List Sent). IsBatch limits task before (sent_instances l) now) is batch in
        subst (λ (l : List Sent). LeadsRun sent before now (sent ++ take (calls_left limits before) l) true) (sym is)
        (ends_run sent before now (take (calls_left limits before) next) true (sym own) also
        (taken next) (phase_cut (is_cut limits before next) real entries sent next own))
      where
        taken : (l : List Sent) → sent_instances (take (calls_left limits before) l)
            ≡ take (calls_left limits before) (sent_instances l)
        taken l = sym (take-map (λ (s : Sent). s.instance) (calls_left limits before) l)
    run_leads sent before now after cut (further {now = first} {rest = rest} again is some whole batch more) =
        let later = run_leads (sent ++ again) (before ++ first) rest after cut more in
        goes_further sent before first rest after cut
        (subst (λ (l : List Sent). 0 < length l) is some)
        (subst (λ (l : List Sent). is_cut limits before l ≡ false) is whole)
        (subst (λ (l : List Sent). IsBatch limits task before (sent_instances l) first) is batch)
        (subst (λ (l : List Sent). LeadsRun (sent ++ l) (before ++ first) rest after cut) is later)
