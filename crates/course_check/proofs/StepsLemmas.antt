-- Entries that lead somewhere: parts of them, and that they lead to one place.
use Rattle.std.proofs.Common.{◌≡◌, ℕ, ◌+◌, ◌<◌, inl, inr, List, [], ◌∷◌, ◌++◌, length, take, true, false, Some, slice_get, refl, sym, ap, subst, ◌∙◌, arith, append_assoc}
use Rattle.std.proofs.lemmas.Bool.{true≢false}
use Rattle.std.proofs.lemmas.List.{append-nil}
use Rattle.turn_laws.proofs.DreamLemmas.{dreams_once}
use Rattle.course_check.proofs.CoursesLemmas.{leads_once}
use Rattle.course_check.specs.Courses.{Course}
use Rattle.course_check.proofs.OpensLemmas.{opens_once}
use Rattle.course_check.specs.Places.{AwaitsPhase, AwaitsPick, IsBatchStep, IsBehindDream, IsDreamStep, IsFallbackStep, IsLevelStep, IsPickStep, IsStaying, IsModeStep, LeadsOn, Phase, ModePlace, RunsNext, RunsOnce, Settles, asked_first, asked_next, at_start, begins_level, dreamt, falls_back, goes_on, is_repeated, joining, moves, phase_behind, picking, picks, repeated, resets, resting, retires, sent_first, sent_next, stays, tells_dream, tells_none, unasked, undreamt, with_batch}
use Rattle.task_model.proofs.StreamsLemmas.{due_once}
use Rattle.task_model.specs.Dreams as dreams
use Rattle.task_model.specs.declared.stream.Instance.{Instance}
use Rattle.task_model.specs.declared.task.Task.{Task}
use Rattle.transcript_model.specs.Dreaming.{IsDreamAfter, Sent}
use Rattle.transcript_model.specs.Rounds.{Limits, calls_left}
use Rattle.transcript_model.specs.Transcript.{known_of, names_of, notes_of}
use Rattle.transcript_model.specs.Turns.{IsPicked, Kept, Skeleton, is_cut}
use Rattle.transcript_model.specs.declared.entry.DreamUse.{DreamUse}
use Rattle.transcript_model.specs.declared.entry.Entry.{Entry}
use Rattle.transcript_model.specs.declared.entry.Entry.TheVariants as entry
use Rattle.transcript_model.specs.declared.head.Mode.{Mode}
use Rattle.transcript_model.specs.declared.head.Mode.TheVariants.{Adaptive, Binding, Focused, Incremental}

pub at_first_rest : AwaitsPhase at_start resting
at_first_rest = record { phase_is = refl; answered = refl; uncut = refl }

-- ---- what excludes what

pub phases_differ : resting ≡ undreamt → ⊥
phases_differ e = absurd (cc)

-- two different things can't come next
pub awaits_two : {A : Type 0} (p : ModePlace) (x y : Phase) → ¬ (x ≡ y) → AwaitsPhase p x → AwaitsPhase p y → A
awaits_two p x y other a b = absurd (other (sym a.phase_is ∙ b.phase_is))

-- both phases can't come next
pub awaits_one : {A : Type 0} (p : ModePlace) → AwaitsPhase p resting → AwaitsPhase p undreamt → A
awaits_one p a b = awaits_two p resting undreamt phases_differ a b

pub rest_unasked : (place : ℕ) → resting ≡ unasked place → ⊥
rest_unasked place e = absurd (cc)

pub undreamt_unasked : (place : ℕ) → undreamt ≡ unasked place → ⊥
undreamt_unasked place e = absurd (cc)

dreamt_unasked : (place : ℕ) → dreamt ≡ unasked place → ⊥
dreamt_unasked place e = absurd (cc)

pub rest_dreamt : resting ≡ dreamt → ⊥
rest_dreamt e = absurd (cc)

pub undreamt_dreamt : undreamt ≡ dreamt → ⊥
undreamt_dreamt e = absurd (cc)

-- no skeleton is picked where a turn may begin
pub rest_pick : {A : Type 0} (p : ModePlace) → AwaitsPhase p resting → AwaitsPick p → A
rest_pick p a (inl b) = awaits_two p resting dreamt rest_dreamt a b
rest_pick p a (inr b) = awaits_one p a b

pub pick_unasked : {A : Type 0} (p : ModePlace) (place : ℕ) → AwaitsPick p → AwaitsPhase p (unasked place) → A
pick_unasked p place (inl a) b = awaits_two p dreamt (unasked place) (dreamt_unasked place) a b
pick_unasked p place (inr a) b = awaits_two p undreamt (unasked place) (undreamt_unasked place) a b

-- while the batch goes on, something of it is open
pub batch_open : (limits : Limits) (task : Task) (before : List Entry) (c : Course) (e : Entry) (d : Course)
    → IsBatchStep limits task before c e d → 0 < c.answers
batch_open limits task before c e d (inl m) = m.more
batch_open limits task before c e d (inr a) = let answers = a.answers in omega (arith, answers)

pub still_open : {A : Type 0} (limits : Limits) (task : Task) (before : List Entry) (p : ModePlace) (e : Entry) (d : Course) (phase : Phase)
    → IsBatchStep limits task before p.batch e d → AwaitsPhase p phase → A
still_open limits task before p e d phase step awaits =
    let some = batch_open limits task before p.batch e d step in
    let none = awaits.answered in
    absurd (omega (arith, some, none))

pick_open : {A : Type 0} (limits : Limits) (task : Task) (before : List Entry) (p : ModePlace) (e : Entry) (d : Course)
    → IsBatchStep limits task before p.batch e d → AwaitsPick p → A
pick_open limits task before p e d step (inl a) = still_open limits task before p e d dreamt step a
pick_open limits task before p e d step (inr a) = still_open limits task before p e d undreamt step a

pub pick_answered : (p : ModePlace) → AwaitsPick p → p.batch.answers ≡ 0
pick_answered p (inl a) = a.answered
pick_answered p (inr a) = a.answered

-- ---- one settling

module _ (limits : Limits) (task : Task) where
  -- what is run next is one
  pub runs_once : (over : Phase) (real : ℕ) (before : List Entry) (entries : List dreams.SupposedEntry) (sent : List Sent) (kept : Kept)
      (d f : ModePlace) → RunsNext limits task over real before entries sent kept d
      → RunsNext limits task over real before entries sent kept f → d ≡ f
  runs_once over real before entries sent kept d f r t =
      let next = sent_next task real before entries sent in
      let list = asked_next limits task real before entries sent in
      let cut = is_cut limits before next in
      let one : r.batch ≡ t.batch =
      opens_once limits task before list list cut cut r.batch t.batch refl refl r.opens t.opens in
      r.after_is
      ∙ (λ i. record {
        batch = one i;
        phase = phase_behind over cut real entries sent next;
        kept = joining kept list;
      })
      ∙ sym t.after_is

  once_runs : (real : ℕ) (before : List Entry) (entries : List dreams.SupposedEntry) (kept : Kept) (d f : ModePlace)
      → RunsOnce limits task real before entries kept d → RunsOnce limits task real before entries kept f → d ≡ f
  once_runs real before entries kept d f r t =
      let list = asked_first limits task real before entries in
      let cut = is_cut limits before (sent_first task real before entries) in
      let one : r.batch ≡ t.batch =
      opens_once limits task before list list cut cut r.batch t.batch refl refl r.opens t.opens in
      r.after_is ∙ (λ i. record { batch = one i; phase = resting; kept = joining kept list }) ∙ sym t.after_is

  -- where the place has to move on, it isn't settled
  pub unsettled : {A : Type 0} (p : ModePlace) (real : ℕ) (entries : List dreams.SupposedEntry) (sent : List Sent)
      → AwaitsPhase p (repeated real entries sent) → IsStaying p → A
  unsettled p real entries sent a (inl some) = let none = a.answered in absurd (omega (arith, some, none))
  unsettled p real entries sent a (inr other) =
      absurd (true≢false (sym (ap is_repeated a.phase_is) ∙ other))

  pub settles_once : (before : List Entry) (p d f : ModePlace) → Settles limits task before p d → Settles limits task before p f
      → d ≡ f
  settles_once before p d f (stays s d_is) (stays t f_is) = d_is ∙ sym f_is
  settles_once before p d f (stays s d_is) (moves real entries sent a r) = unsettled p real entries sent a s
  settles_once before p d f (moves real entries sent a r) (stays t f_is) = unsettled p real entries sent a t
  settles_once before p d f (moves real entries sent a r) (moves also others more b t) =
      let same : repeated real entries sent ≡ repeated also others more = sym a.phase_is ∙ b.phase_is in
      let reals : real ≡ also = cc in
      let lists : entries ≡ others = cc in
      let sents : sent ≡ more = cc in
      runs_once resting also before others more p.kept d f
      (subst (λ (n : ℕ). RunsNext limits task resting n before others more p.kept d) reals
      (subst (λ (l : List dreams.SupposedEntry). RunsNext limits task resting real before l more p.kept d) lists
      (subst (λ (l : List Sent). RunsNext limits task resting real before entries l p.kept d) sents r))) t

-- ---- one pick

picked_low : (xs : List Skeleton) (j k : ℕ) (s r : Skeleton) → IsPicked xs j s → IsPicked xs k r → ¬ (j < k)
picked_low xs j k s r a b = λ lt.
    let less = b.earliest j s lt a.there a.kept in
    let most = a.fewest k r b.there b.kept in
    absurd (omega (arith, less, most))

pub picked_place : (xs : List Skeleton) (j k : ℕ) (s r : Skeleton) → IsPicked xs j s → IsPicked xs k r → j ≡ k
picked_place xs j k s r a b =
    let here = picked_low xs j k s r a b in
    let there = picked_low xs k j r s b a in
    omega (arith, here, there)

pub picked_one : (xs : List Skeleton) (j k : ℕ) (s r : Skeleton) → IsPicked xs j s → IsPicked xs k r → s ≡ r
picked_one xs j k s r a b =
    let same = picked_place xs j k s r a b in
    let both : Some s ≡ Some r = sym (subst (λ n. slice_get xs n ≡ Some s) same a.there) ∙ b.there in
    cc

-- which line a turn has
abbrev line_kind : Entry → ℕ
line_kind entry.Level = 1
line_kind (entry.Dream uses steps) = 2
line_kind entry.Nothing = 3
line_kind entry.Reset = 4
line_kind (entry.Pick number) = 5
line_kind (entry.Retire number) = 6
line_kind (entry.Ask number turn call) = 0
line_kind (entry.Got number tuples values) = 0
line_kind (entry.Value number value) = 0
line_kind (entry.End number) = 0

-- ---- one place

module _ (limits : Limits) (task : Task) (before : List Entry) (p : ModePlace) (e : Entry) (d f : ModePlace) where
  batch_once : (b c : Course) → IsBatchStep limits task before p.batch e b → IsBatchStep limits task before p.batch e c → b ≡ c
  batch_once b c s t = leads_once limits task p.batch before (e ∷ []) b c (b, inr s, refl) (c, inr t, refl)

  level_once : IsLevelStep limits task before p e d → IsLevelStep limits task before p e f → d ≡ f
  level_once s t =
      let one : s.batch ≡ t.batch =
      leads_once limits task p.batch before (e ∷ []) s.batch t.batch (s.batch, inl s.begins, refl) (t.batch, inl t.begins, refl) in
      s.after_is ∙ (λ i. record { batch = one i; phase = resting; kept = p.kept }) ∙ sym t.after_is

  -- behind one dream
  behind_once : (mode : Mode) (real : ℕ) (marked : List Entry) (entries : List dreams.SupposedEntry)
      → IsBehindDream mode limits task real marked entries p d → IsBehindDream mode limits task real marked entries p f → d ≡ f
  behind_once Incremental real marked entries s t = absurd s
  behind_once Focused real marked entries s t = once_runs limits task real marked entries p.kept d f s t
  behind_once Binding real marked entries s t = runs_once limits task resting real marked entries [] p.kept d f s t
  behind_once Adaptive real marked entries s t = s ∙ sym t

  dream_once : IsDreamStep limits task before p e d → IsDreamStep limits task before p e f → d ≡ f
  dream_once s t =
      let real = length (names_of task before) in
      let both : entry.Dream s.uses s.steps ≡ entry.Dream t.uses t.steps = sym s.is ∙ t.is in
      let uses : s.uses ≡ t.uses = cc in
      let entries : s.entries ≡ t.entries =
      dreams_once limits task before p.kept.tried t.uses s.steps t.steps s.entries t.entries
      (subst (λ (u : List DreamUse). IsDreamAfter limits task before p.kept.tried u s.steps s.entries) uses s.dream) t.dream in
      behind_once limits.mode real (before ++ entry.Dream t.uses t.steps ∷ []) t.entries
      (subst (λ (x : Entry). IsBehindDream limits.mode limits task real (before ++ x ∷ []) t.entries p d) both
      (subst (λ (l : List dreams.SupposedEntry). IsBehindDream limits.mode limits task real
      (before ++ entry.Dream s.uses s.steps ∷ []) l p d) entries s.behind)) t.behind

  -- a pick of one skeleton
  abbrev picked_runs : (place : ℕ) (skeleton : Skeleton) → ModePlace → Type 0
  picked_runs place skeleton x =
      RunsNext limits task (unasked place) skeleton.real (before ++ entry.Pick (place + 1) ∷ []) skeleton.entries []
      (picking p.kept place skeleton (sent_first task skeleton.real (before ++ entry.Pick (place + 1) ∷ []) skeleton.entries)) x

  pick_once : IsPickStep limits task before p e d → IsPickStep limits task before p e f → d ≡ f
  pick_once s t =
      let places = picked_place p.kept.skeletons s.place t.place s.skeleton t.skeleton s.picked t.picked in
      let same = picked_one p.kept.skeletons s.place t.place s.skeleton t.skeleton s.picked t.picked in
      let runs : picked_runs t.place t.skeleton d =
      subst (λ (n : ℕ). picked_runs n t.skeleton d) places (subst (λ (x : Skeleton). picked_runs s.place x d) same s.runs) in
      runs_once limits task (unasked t.place) t.skeleton.real (before ++ entry.Pick (t.place + 1) ∷ []) t.skeleton.entries []
      (picking p.kept t.place t.skeleton
      (sent_first task t.skeleton.real (before ++ entry.Pick (t.place + 1) ∷ []) t.skeleton.entries)) d f runs t.runs

  fallback_once : IsFallbackStep limits task before p e d → IsFallbackStep limits task before p e f → d ≡ f
  fallback_once s t =
      let lists : s.list ≡ t.list = due_once task (known_of task before) (notes_of task before) s.list t.list s.due t.due in
      let one : s.batch ≡ t.batch =
      opens_once limits task (before ++ entry.Level ∷ []) (take (calls_left limits before) s.list)
      (take (calls_left limits before) t.list) (is_cut limits before s.list) (is_cut limits before t.list) s.batch t.batch
      (ap (take (calls_left limits before)) lists) (ap (λ (is : List Instance). is_cut limits before is) lists) s.opens t.opens in
      s.after_is ∙ (λ i. record { batch = one i; phase = resting; kept = p.kept }) ∙ sym t.after_is

  -- ---- what excludes what

  -- a batch that is over
  batch_over : {A : Type 0} (b : Course) → IsBatchStep limits task before p.batch e b → p.batch.answers ≡ 0 → A
  batch_over b s none =
      let some = batch_open limits task before p.batch e b s in absurd (omega (arith, none, some))

  -- an entry of two kinds
  mixed : {A : Type 0} {x y : Entry} → e ≡ x → e ≡ y → ¬ (line_kind x ≡ line_kind y) → A
  mixed is also other = absurd (other (ap line_kind (sym is ∙ also)))

  step_once : IsModeStep limits task before p e d → IsModeStep limits task before p e f → d ≡ f
  step_once (goes_on b s m) (goes_on c t n) =
      let one = batch_once b c s t in
      settles_once limits task (before ++ e ∷ []) (with_batch p c) d f
      (subst (λ (x : Course). Settles limits task (before ++ e ∷ []) (with_batch p x) d) one m) n
  step_once (goes_on b s m) (begins_level t) = batch_over b s (t.awaits.answered)
  step_once (goes_on b s m) (tells_dream t) = batch_over b s (t.may.awaits.answered)
  step_once (goes_on b s m) (tells_none t) = batch_over b s (t.may.awaits.answered)
  step_once (goes_on b s m) (resets t) = batch_over b s (t.awaits.answered)
  step_once (goes_on b s m) (falls_back t) = batch_over b s (t.awaits.answered)
  step_once (goes_on b s m) (picks t) = batch_over b s (pick_answered p t.awaits)
  step_once (goes_on b s m) (retires t) = batch_over b s (t.awaits.answered)
  step_once (begins_level s) (goes_on c t n) = batch_over c t (s.awaits.answered)
  step_once (begins_level s) (begins_level t) = level_once s t
  step_once (begins_level s) (tells_dream t) = mixed s.begins.is t.is (λ same. absurd (omega (arith, same)))
  step_once (begins_level s) (tells_none t) = mixed s.begins.is t.is (λ same. absurd (omega (arith, same)))
  step_once (begins_level s) (resets t) = mixed s.begins.is t.is (λ same. absurd (omega (arith, same)))
  step_once (begins_level s) (falls_back t) = awaits_one p s.awaits t.awaits
  step_once (begins_level s) (picks t) = mixed s.begins.is t.is (λ same. absurd (omega (arith, same)))
  step_once (begins_level s) (retires t) = mixed s.begins.is t.is (λ same. absurd (omega (arith, same)))
  step_once (tells_dream s) (goes_on c t n) = batch_over c t (s.may.awaits.answered)
  step_once (tells_dream s) (begins_level t) = mixed s.is t.begins.is (λ same. absurd (omega (arith, same)))
  step_once (tells_dream s) (tells_dream t) = dream_once s t
  step_once (tells_dream s) (tells_none t) = mixed s.is t.is (λ same. absurd (omega (arith, same)))
  step_once (tells_dream s) (resets t) = mixed s.is t.is (λ same. absurd (omega (arith, same)))
  step_once (tells_dream s) (falls_back t) = mixed s.is t.is (λ same. absurd (omega (arith, same)))
  step_once (tells_dream s) (picks t) = mixed s.is t.is (λ same. absurd (omega (arith, same)))
  step_once (tells_dream s) (retires t) = mixed s.is t.is (λ same. absurd (omega (arith, same)))
  step_once (tells_none s) (goes_on c t n) = batch_over c t (s.may.awaits.answered)
  step_once (tells_none s) (begins_level t) = mixed s.is t.begins.is (λ same. absurd (omega (arith, same)))
  step_once (tells_none s) (tells_dream t) = mixed s.is t.is (λ same. absurd (omega (arith, same)))
  step_once (tells_none s) (tells_none t) = s.after_is ∙ sym t.after_is
  step_once (tells_none s) (resets t) = mixed s.is t.is (λ same. absurd (omega (arith, same)))
  step_once (tells_none s) (falls_back t) = mixed s.is t.is (λ same. absurd (omega (arith, same)))
  step_once (tells_none s) (picks t) = mixed s.is t.is (λ same. absurd (omega (arith, same)))
  step_once (tells_none s) (retires t) = mixed s.is t.is (λ same. absurd (omega (arith, same)))
  step_once (resets s) (goes_on c t n) = batch_over c t (s.awaits.answered)
  step_once (resets s) (begins_level t) = mixed s.is t.begins.is (λ same. absurd (omega (arith, same)))
  step_once (resets s) (tells_dream t) = mixed s.is t.is (λ same. absurd (omega (arith, same)))
  step_once (resets s) (tells_none t) = mixed s.is t.is (λ same. absurd (omega (arith, same)))
  step_once (resets s) (resets t) = s.after_is ∙ sym t.after_is
  step_once (resets s) (falls_back t) = mixed s.is t.is (λ same. absurd (omega (arith, same)))
  step_once (resets s) (picks t) = mixed s.is t.is (λ same. absurd (omega (arith, same)))
  step_once (resets s) (retires t) = mixed s.is t.is (λ same. absurd (omega (arith, same)))
  step_once (falls_back s) (goes_on c t n) = batch_over c t (s.awaits.answered)
  step_once (falls_back s) (begins_level t) = awaits_one p t.awaits s.awaits
  step_once (falls_back s) (tells_dream t) = mixed s.is t.is (λ same. absurd (omega (arith, same)))
  step_once (falls_back s) (tells_none t) = mixed s.is t.is (λ same. absurd (omega (arith, same)))
  step_once (falls_back s) (resets t) = mixed s.is t.is (λ same. absurd (omega (arith, same)))
  step_once (falls_back s) (falls_back t) = fallback_once s t
  step_once (falls_back s) (picks t) = mixed s.is t.is (λ same. absurd (omega (arith, same)))
  step_once (falls_back s) (retires t) = mixed s.is t.is (λ same. absurd (omega (arith, same)))
  step_once (picks s) (goes_on c t n) = batch_over c t (pick_answered p s.awaits)
  step_once (picks s) (begins_level t) = mixed s.is t.begins.is (λ same. absurd (omega (arith, same)))
  step_once (picks s) (tells_dream t) = mixed s.is t.is (λ same. absurd (omega (arith, same)))
  step_once (picks s) (tells_none t) = mixed s.is t.is (λ same. absurd (omega (arith, same)))
  step_once (picks s) (resets t) = mixed s.is t.is (λ same. absurd (omega (arith, same)))
  step_once (picks s) (falls_back t) = mixed s.is t.is (λ same. absurd (omega (arith, same)))
  step_once (picks s) (picks t) = pick_once s t
  step_once (picks s) (retires t) = mixed s.is t.is (λ same. absurd (omega (arith, same)))
  step_once (retires s) (goes_on c t n) = batch_over c t (s.awaits.answered)
  step_once (retires s) (begins_level t) = mixed s.is t.begins.is (λ same. absurd (omega (arith, same)))
  step_once (retires s) (tells_dream t) = mixed s.is t.is (λ same. absurd (omega (arith, same)))
  step_once (retires s) (tells_none t) = mixed s.is t.is (λ same. absurd (omega (arith, same)))
  step_once (retires s) (resets t) = mixed s.is t.is (λ same. absurd (omega (arith, same)))
  step_once (retires s) (falls_back t) = mixed s.is t.is (λ same. absurd (omega (arith, same)))
  step_once (retires s) (picks t) = mixed s.is t.is (λ same. absurd (omega (arith, same)))
  step_once (retires s) (retires t) = s.after_is ∙ sym t.after_is

pub leads_on_once : (limits : Limits) (task : Task) (p : ModePlace) (before es : List Entry) (q r : ModePlace)
    → LeadsOn limits task p before es q → LeadsOn limits task p before es r → q ≡ r
leads_on_once limits task p before [] q r first second = sym first ∙ second
leads_on_once limits task p before (e ∷ es) q r (m, step, rest) (n, also, more) =
    let same : m ≡ n = step_once limits task before p e m n step also in
    leads_on_once limits task n (before ++ e ∷ []) es q r
    (subst (λ x. LeadsOn limits task x (before ++ e ∷ []) es q) same rest) more

-- ---- parts

pub leads_on_then : (limits : Limits) (task : Task) (p : ModePlace) (before first rest : List Entry) (q r : ModePlace)
    → LeadsOn limits task p before first q → LeadsOn limits task q (before ++ first) rest r
    → LeadsOn limits task p before (first ++ rest) r
leads_on_then limits task p before [] rest q r here there =
    subst (λ x. LeadsOn limits task x before rest r) (sym here)
    (subst (λ es. LeadsOn limits task q es rest r) (append-nil before) there)
leads_on_then limits task p before (e ∷ es) rest q r (m, step, more) there = (
  m,
  step,
  leads_on_then limits task m (before ++ e ∷ []) es rest q r more
      (subst (λ xs. LeadsOn limits task q xs rest r) (sym (append_assoc before (e ∷ []) es)) there),
)

pub leads_on_apart : (limits : Limits) (task : Task) (p : ModePlace) (before first rest : List Entry) (r : ModePlace)
    → LeadsOn limits task p before (first ++ rest) r
    → (q : ModePlace) × LeadsOn limits task p before first q × LeadsOn limits task q (before ++ first) rest r
leads_on_apart limits task p before [] rest r all =
    (p, refl, subst (λ es. LeadsOn limits task p es rest r) (sym (append-nil before)) all)
leads_on_apart limits task p before (e ∷ es) rest r (m, step, more) =
    let parts = leads_on_apart limits task m (before ++ e ∷ []) es rest r more in (
      parts.0,
      (m, step, parts.1),
      subst (λ xs. LeadsOn limits task parts.0 xs rest r) (append_assoc before (e ∷ []) es) parts.2,
    )

pub pick_uncut : (p : ModePlace) → AwaitsPick p → p.batch.is_cut ≡ false
pick_uncut p (inl a) = a.uncut
pick_uncut p (inr a) = a.uncut

-- behind a batch that was cut nothing comes
pub nothing_more : (limits : Limits) (task : Task) (p q : ModePlace) (before rest : List Entry) → p.batch.answers ≡ 0
    → p.batch.is_cut ≡ true → LeadsOn limits task p before rest q → (rest ≡ []) × (p ≡ q)
nothing_more limits task p q before [] none cut leads = (refl, leads)
nothing_more limits task p q before (e ∷ es) none cut (m, goes_on c s settles, more) =
    let some = batch_open limits task before p.batch e c s in absurd (omega (arith, none, some))
nothing_more limits task p q before (e ∷ es) none cut (m, begins_level s, more) =
    absurd (true≢false (sym cut ∙ s.awaits.uncut))
nothing_more limits task p q before (e ∷ es) none cut (m, tells_dream s, more) =
    absurd (true≢false (sym cut ∙ s.may.awaits.uncut))
nothing_more limits task p q before (e ∷ es) none cut (m, tells_none s, more) =
    absurd (true≢false (sym cut ∙ s.may.awaits.uncut))
nothing_more limits task p q before (e ∷ es) none cut (m, resets s, more) =
    absurd (true≢false (sym cut ∙ s.awaits.uncut))
nothing_more limits task p q before (e ∷ es) none cut (m, falls_back s, more) =
    absurd (true≢false (sym cut ∙ s.awaits.uncut))
nothing_more limits task p q before (e ∷ es) none cut (m, picks s, more) =
    absurd (true≢false (sym cut ∙ pick_uncut p s.awaits))
nothing_more limits task p q before (e ∷ es) none cut (m, retires s, more) =
    absurd (true≢false (sym cut ∙ s.awaits.uncut))
