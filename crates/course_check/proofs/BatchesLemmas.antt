-- A batch by itself: where the entries lead until nothing of it is open, and that they run its list.
use Rattle.std.proofs.Common.{◌≡◌, ℕ, zero, suc, ◌<◌, ◌≤◌, inl, inr, All, Bool, List, [], ◌∷◌, ◌++◌, refl, sym, ap, subst, ◌∙◌, arith, append_assoc}
use Rattle.std.proofs.lemmas.List.{append-nil}
use Rattle.course_check.proofs.CoursesTurnLemmas.{IsTidy, Walks, done, opened_run, opened_tidy, walk, within}
use Rattle.course_check.specs.Courses.{Course, IsBehind, Leads, Opens}
use Rattle.course_check.proofs.OpensLemmas.{AreRun, opened_cut}
use Rattle.course_check.proofs.StepsLemmas.{batch_open, pick_answered, unsettled}
use Rattle.course_check.specs.Places.{IsBatchStep, IsStaying, LeadsOn, ModePlace, Settles, begins_level, falls_back, goes_on, moves, picks, resets, retires, stays, tells_dream, tells_none, with_batch}
use Rattle.task_model.specs.declared.stream.Instance.{Instance}
use Rattle.task_model.specs.declared.task.Task.{Task}
use Rattle.transcript_model.specs.Legal.{asks_of}
use Rattle.transcript_model.specs.Rounds.{Limits, Share}
use Rattle.transcript_model.specs.declared.entry.Entry.{Entry}

-- ---- limits under which no level begins

-- With no calls a level's course is its batch alone.
abbrev pub only_batches : Limits → Limits
only_batches limits = record {
  version = limits.version;
  mode = limits.mode;
  calls = 0;
  states = limits.states;
  depth = limits.depth;
  pools = limits.pools;
}

module _ (limits : Limits) (task : Task) where
  opens_only : (before : List Entry) (list : List Instance) (cut : Bool) (c : Course)
      → Opens limits task before list cut c → Opens (only_batches limits) task before list cut c
  opens_only before list cut c o =
      record { round = o.round; rest = o.rest; parts = o.parts; fit = o.fit; full = o.full; some = o.some; is = o.is }

  pub opens_back : (before : List Entry) (list : List Instance) (cut : Bool) (c : Course)
      → Opens (only_batches limits) task before list cut c → Opens limits task before list cut c
  opens_back before list cut c o =
      record { round = o.round; rest = o.rest; parts = o.parts; fit = o.fit; full = o.full; some = o.some; is = o.is }

  behind_only : (before : List Entry) (c : Course) (left : ℕ) (d : Course)
      → IsBehind limits task before c left d → IsBehind (only_batches limits) task before c left d
  behind_only before c zero d opens = opens_only before c.later c.is_cut d opens
  behind_only before c (suc left) d is = is

  behind_back : (before : List Entry) (c : Course) (left : ℕ) (d : Course)
      → IsBehind (only_batches limits) task before c left d → IsBehind limits task before c left d
  behind_back before c zero d opens = opens_back before c.later c.is_cut d opens
  behind_back before c (suc left) d is = is

  step_only : (before : List Entry) (c : Course) (e : Entry) (d : Course)
      → IsBatchStep limits task before c e d → IsBatchStep (only_batches limits) task before c e d
  step_only before c e d (inl m) = inl m
  step_only before c e d (inr a) = inr (record {
    asked = a.asked;
    left = a.left;
    answers = a.answers;
    to = a.to;
    behind = behind_only (before ++ e ∷ []) c a.left d a.behind;
  })

  step_back : (before : List Entry) (c : Course) (e : Entry) (d : Course)
      → IsBatchStep (only_batches limits) task before c e d → IsBatchStep limits task before c e d
  step_back before c e d (inl m) = inl m
  step_back before c e d (inr a) = inr (record {
    asked = a.asked;
    left = a.left;
    answers = a.answers;
    to = a.to;
    behind = behind_back (before ++ e ∷ []) c a.left d a.behind;
  })

  -- where the batch has stood still, the place is settled
  settled_same : (p : ModePlace) (before : List Entry) (d : Course) (after : ModePlace) → IsStaying p → p.batch ≡ d
      → Settles limits task before (with_batch p d) after → p ≡ after
  settled_same p before d after settled same (stays s after_is) = (λ i. with_batch p (same i)) ∙ sym after_is
  settled_same p before d after settled same (moves real entries sent a r) =
      unsettled limits task p real entries sent
      (record {
        phase_is = a.phase_is;
        answered = ap (λ (c : Course). c.answers) same ∙ a.answered;
        uncut = ap (λ (c : Course). c.is_cut) same ∙ a.uncut;
      }) settled

  -- where an entry comes, something is open
  more_open : (c : Course) (before : List Entry) (x : Entry) (es : List Entry) (d : Course)
      → Leads (only_batches limits) task c before (x ∷ es) d → 0 < c.answers
  more_open c before x es d (n, inl b, more) = absurd (let left : asks_of before < 0 = b.may.left in omega (arith, left))
  more_open c before x es d (n, inr step, more) = batch_open (only_batches limits) task before c x n step

  -- the entries of the batch lead on in the turn, to where the place settles behind them
  pub batch_leads : (p : ModePlace) (before es : List Entry) (d : Course) (after : ModePlace) → IsStaying p
      → Leads (only_batches limits) task p.batch before es d → Settles limits task (before ++ es) (with_batch p d) after
      → LeadsOn limits task p before es after
  batch_leads p before [] d after settled leads settles =
      settled_same p (before ++ []) d after settled leads settles
  batch_leads p before (e ∷ es) d after settled (m, inl b, more) settles =
      absurd (let left : asks_of before < 0 = b.may.left in omega (arith, left))
  batch_leads p before (e ∷ []) d after settled (m, inr step, more) settles = (
    after,
    goes_on m (step_back before p.batch e m step)
        (subst (λ (c : Course). Settles limits task (before ++ e ∷ []) (with_batch p c) after) (sym more) settles),
    refl,
  )
  batch_leads p before (e ∷ x ∷ es) d after settled (m, inr step, more) settles =
      let some : 0 < m.answers = more_open m (before ++ e ∷ []) x es d more in (
        with_batch p m,
        goes_on m (step_back before p.batch e m step) (stays (inl some) refl),
        batch_leads (with_batch p m) (before ++ e ∷ []) (x ∷ es) d after (inl some) more
            (subst (λ xs. Settles limits task xs (with_batch p d) after) (sym (append_assoc before (e ∷ []) (x ∷ es))) settles),
      )

  -- where nothing is open, nothing comes
  stuck : (c d : Course) (before rest : List Entry) → c.answers ≡ 0
      → Leads (only_batches limits) task c before rest d → (rest ≡ []) × (c ≡ d)
  stuck c d before [] none leads = (refl, leads)
  stuck c d before (e ∷ es) none (m, inl b, more) = absurd (let left : asks_of before < 0 = b.may.left in omega (arith, left))
  stuck c d before (e ∷ es) none (m, inr step, more) =
      let some = batch_open (only_batches limits) task before c e m step in absurd (omega (arith, none, some))

  -- ---- up to where nothing of the batch is open, or to where the entries stop in it

  pub data Parts (p : ModePlace) (before es : List Entry) (q : ModePlace) : Type 0 where
    over : (now rest : List Entry) (m : Course) (after : ModePlace) → es ≡ now ++ rest
        → Leads (only_batches limits) task p.batch before now m → m.answers ≡ 0
        → Settles limits task (before ++ now) (with_batch p m) after → LeadsOn limits task after (before ++ now) rest q
        → Parts p before es q
    still : Leads (only_batches limits) task p.batch before es q.batch → 0 < q.batch.answers → Parts p before es q

  -- one entry more in front
  longer : (p q : ModePlace) (before es : List Entry) (e : Entry) (c : Course) → IsBatchStep limits task before p.batch e c
      → Parts (with_batch p c) (before ++ e ∷ []) es q → Parts p before (e ∷ es) q
  longer p q before es e c step (over now rest m after is leads none settles later) =
      over (e ∷ now) rest m after (ap (λ xs. e ∷ xs) is) (c, inr (step_only before p.batch e c step), leads) none
      (subst (λ xs. Settles limits task xs (with_batch p m) after) (append_assoc before (e ∷ []) now) settles)
      (subst (λ xs. LeadsOn limits task after xs rest q) (append_assoc before (e ∷ []) now) later)
  longer p q before es e c step (still leads some) =
      still (c, inr (step_only before p.batch e c step), leads) some

  -- where the batch is over with its first entry
  over_first : (p q m : ModePlace) (before es : List Entry) (e : Entry) (c : Course) → IsBatchStep limits task before p.batch e c
      → c.answers ≡ 0 → Settles limits task (before ++ e ∷ []) (with_batch p c) m
      → LeadsOn limits task m (before ++ e ∷ []) es q → Parts p before (e ∷ es) q
  over_first p q m before es e c step none settles more =
      over (e ∷ []) es c m refl (c, inr (step_only before p.batch e c step), refl) none settles more

  -- while something of the batch is open the place stays
  open_stays : (p m : ModePlace) (before : List Entry) (n : ℕ) → p.batch.answers ≡ suc n → Settles limits task before p m → m ≡ p
  open_stays p m before n count (stays s is) = is
  open_stays p m before n count (moves real entries sent a r) = let none = a.answered in absurd (omega (arith, none, count))

  -- behind the first entry of a batch
  parts_on : (p : ModePlace) (before es : List Entry) (q : ModePlace) (e : Entry) (m : ModePlace) (c : Course) (k : ℕ)
      → IsBatchStep limits task before p.batch e c → c.answers ≡ k
      → Settles limits task (before ++ e ∷ []) (with_batch p c) m → LeadsOn limits task m (before ++ e ∷ []) es q
      → (0 < c.answers → LeadsOn limits task (with_batch p c) (before ++ e ∷ []) es q
      → Parts (with_batch p c) (before ++ e ∷ []) es q)
      → Parts p before (e ∷ es) q
  parts_on p before es q e m c zero step none settles more onward = over_first p q m before es e c step none settles more
  parts_on p before es q e m c (suc k) step count settles more onward =
      let same : m ≡ with_batch p c = open_stays (with_batch p c) m (before ++ e ∷ []) k count settles in
      longer p q before es e c step
      (onward (omega (arith, count)) (subst (λ (x : ModePlace). LeadsOn limits task x (before ++ e ∷ []) es q) same more))

  pub parts : (p : ModePlace) (before es : List Entry) (q : ModePlace) (n : ℕ) → IsStaying p → p.batch.answers ≡ n
      → LeadsOn limits task p before es q → Parts p before es q
  parts p before es q zero settled none leads =
      over [] es p.batch p refl refl none (stays settled refl)
      (subst (λ xs. LeadsOn limits task p xs es q) (sym (append-nil before)) leads)
  parts p before [] q (suc n) settled count leads =
      let same : p.batch ≡ q.batch = ap (λ (x : ModePlace). x.batch) leads in
      let answers = ap (λ (x : ModePlace). x.batch.answers) leads in
      still same (omega (arith, count, answers))
  parts p before (e ∷ es) q (suc n) settled count (m, goes_on c step settles, more) =
      parts_on p before es q e m c c.answers step refl settles more
      (λ some leads. parts (with_batch p c) (before ++ e ∷ []) es q c.answers (inl some) refl leads)
  parts p before (e ∷ es) q (suc n) settled count (m, begins_level s, more) =
      let none = s.awaits.answered in absurd (omega (arith, none, count))
  parts p before (e ∷ es) q (suc n) settled count (m, tells_dream s, more) =
      let none = s.may.awaits.answered in absurd (omega (arith, none, count))
  parts p before (e ∷ es) q (suc n) settled count (m, tells_none s, more) =
      let none = s.may.awaits.answered in absurd (omega (arith, none, count))
  parts p before (e ∷ es) q (suc n) settled count (m, resets s, more) =
      let none = s.awaits.answered in absurd (omega (arith, none, count))
  parts p before (e ∷ es) q (suc n) settled count (m, falls_back s, more) =
      let none = s.awaits.answered in absurd (omega (arith, none, count))
  parts p before (e ∷ es) q (suc n) settled count (m, picks s, more) =
      let none = pick_answered p s.awaits in absurd (omega (arith, none, count))
  parts p before (e ∷ es) q (suc n) settled count (m, retires s, more) =
      let none = s.awaits.answered in absurd (omega (arith, none, count))

  -- ---- a batch that opened

  module _ (workers : All (λ (s : Share). 1 ≤ s.workers) limits.pools)
      (before : List Entry) (list : List Instance) (cut : Bool) (c : Course) (o : Opens limits task before list cut c) where
    only : Opens (only_batches limits) task before list cut c
    only = opens_only before list cut c o

    tidy : IsTidy c
    tidy = opened_tidy (only_batches limits) task before list cut c only

    -- where it is over, its list was run
    pub over_run : (now : List Entry) (m : Course) → Leads (only_batches limits) task c before now m → m.answers ≡ 0
        → AreRun limits task before list now × (m.is_cut ≡ cut)
    over_run now m leads none = by (walk (only_batches limits) task c before now m c.answers refl tidy workers leads)
      where
        by : Walks (only_batches limits) task c before now m → AreRun limits task before list now × (m.is_cut ≡ cut)
        by (within more finishes some) = absurd (omega (arith, none, some))
        by (done front rest k is finishes zero_now same tidy_now later) =
            let last = stuck k m (before ++ front) rest zero_now later in
            let all : front ≡ now = sym (is ∙ ap (λ xs. front ++ xs) last.0 ∙ append-nil front) in (
              subst (AreRun limits task before list) all
                  (opened_run (only_batches limits) task before front list cut c only finishes),
              sym (ap (λ (x : Course). x.is_cut) last.1) ∙ same ∙ opened_cut limits task before list cut c o,
            )

    -- where it is still open, its list can be run so
    pub still_run : (es : List Entry) (d : Course) → Leads (only_batches limits) task c before es d → 0 < d.answers
        → (more : List Entry) × AreRun limits task before list (es ++ more)
    still_run es d leads some = by (walk (only_batches limits) task c before es d c.answers refl tidy workers leads)
      where
        by : Walks (only_batches limits) task c before es d → (more : List Entry) × AreRun limits task before list (es ++ more)
        by (within more finishes open_yet) =
            (more, opened_run (only_batches limits) task before (es ++ more) list cut c only finishes)
        by (done front rest k is finishes zero_now same tidy_now later) =
            let last = stuck k d (before ++ front) rest zero_now later in
            let answers = ap (λ (x : Course). x.answers) last.1 in
            absurd (omega (arith, zero_now, some, answers))
