-- What holds where entries lead: where a skeleton comes to be picked a call is left, and one that isn't given up was picked no
-- more often than something was asked.
use Rattle.std.proofs.Common.{◌≡◌, ◌⊎◌, ℕ, zero, suc, ◌+◌, ◌<◌, ◌≤◌, ◌||◌, inl, inr, All, Bool, true, false, List, [], ◌∷◌, ◌++◌, length, take, Some, slice_get, refl, sym, ap, subst, ◌∙◌, arith, append_assoc}
use Rattle.std.proofs.lemmas.Bool.{and_parts, cases_lt, true≢false}
use Rattle.std.proofs.lemmas.List.{append-nil, length-append, length-map, length-take}
use Rattle.std.proofs.lemmas.List.Elements.{All-contains, All-nil, All-push, All-set, All-weaker}
use Rattle.std.specs.List.{list_all}
use Rattle.lemmas.proofs.Members.{member_at}
use Rattle.course_check.specs.Courses.{Course, IsBehind, Opens}
use Rattle.course_check.proofs.OpensLemmas.{asks_asked}
use Rattle.course_check.proofs.StepsLemmas.{batch_open, pick_answered}
use Rattle.course_check.specs.Agendas.{ModeAgenda, is_dreamt, is_undreamt, mode_place_in}
use Rattle.course_check.specs.Places.{AwaitsPick, IsBatchStep, IsBehindDream, IsPickStep, IsModeStep, LeadsOn, Phase, ModePlace, RunsNext, Settles, asked_next, at_start, begins_level, falls_back, goes_on, moves, phase_behind, picks, resets, resting, retires, sent_first, stays, tells_dream, tells_none, unasked, with_batch}
use Rattle.task_model.specs.Dreams as dreams
use Rattle.task_model.specs.declared.stream.Instance.{Instance}
use Rattle.task_model.specs.declared.task.Task.{Task}
use Rattle.transcript_model.proofs.LegalNumberLemmas.{asks_marked}
use Rattle.transcript_model.specs.Dreaming.{Sent, sent_instances}
use Rattle.transcript_model.specs.Legal.{asks_of, is_answer_to, is_ask}
use Rattle.transcript_model.specs.Rounds.{Limits, calls_left, requests_from}
use Rattle.transcript_model.specs.Turns.{Kept, Skeleton, is_given_up}
use Rattle.transcript_model.specs.declared.entry.Entry.{Entry}
use Rattle.transcript_model.specs.declared.entry.Entry.TheVariants as entry
use Rattle.transcript_model.specs.declared.head.Mode.{Mode}
use Rattle.transcript_model.specs.declared.head.Mode.TheVariants.{Adaptive, Binding, Focused, Incremental}

answer_no_ask : (n : ℕ) (e : Entry) → is_answer_to n e ≡ true → is_ask e ≡ false
answer_no_ask n (entry.Got m tuples values) to = refl
answer_no_ask n (entry.Value m value) to = refl
answer_no_ask n (entry.End m) to = refl
answer_no_ask n (entry.Ask m turn call) to = absurd (cc)
answer_no_ask n entry.Level to = refl
answer_no_ask n (entry.Dream uses steps) to = refl
answer_no_ask n entry.Nothing to = refl
answer_no_ask n entry.Reset to = refl
answer_no_ask n (entry.Pick m) to = refl
answer_no_ask n (entry.Retire m) to = refl

requests_ask : (task : Task) (es : List Entry) (number : ℕ) (is : List Instance)
    → list_all is_ask (requests_from task es number is) ≡ true
requests_ask task es number [] = refl
requests_ask task es number (i ∷ is) = requests_ask task es (number + 1) is

requests_long : (task : Task) (es : List Entry) (number : ℕ) (is : List Instance)
    → length (requests_from task es number is) ≡ length is
requests_long task es number [] = refl
requests_long task es number (i ∷ is) = ap suc (requests_long task es (number + 1) is)

-- one comes to be picked, if there is one
abbrev pickable : Phase → Bool
pickable phase = is_dreamt phase || is_undreamt phase

-- no skeleton comes to be picked behind a dream's batch
behind_pickable : (over : Phase) (cut : Bool) (real : ℕ) (entries : List dreams.SupposedEntry) (sent next : List Sent)
    → pickable over ≡ false → pickable (phase_behind over cut real entries sent next) ≡ false
behind_pickable over cut real entries sent [] other = other
behind_pickable over true real entries sent (s ∷ next) other = refl
behind_pickable over false real entries sent (s ∷ next) other = refl

-- so many requests are made, with those of the open batch
abbrev to_make : List Entry → Course → ℕ
to_make before c = asks_of before + length c.asks + length c.later

-- it isn't picked more often
abbrev IsFew : ℕ → Skeleton → Type 0
IsFew n s = s.retired ≡ false → s.picks ≤ n

fewer : (n m : ℕ) (xs : List Skeleton) → n ≤ m → All (IsFew n) xs → All (IsFew m) xs
fewer n m xs low few =
    All-weaker (IsFew n) (IsFew m) (λ s is kept. let picks_low = is kept in omega (arith, picks_low, low)) xs few

module _ (limits : Limits) (task : Task) where
  -- The batch is a round of requests, and others behind it where some are open.
  record IsSound (c : Course) : Type 0 where
    pub asks : list_all is_ask c.asks ≡ true
    pub low : length c.asks ≤ c.answers
    pub none : c.answers ≡ 0 → length c.later ≡ 0

  -- Where one comes to be picked nothing is open and a call is left; and none was picked more often than something was asked.
  record Stands (before : List Entry) (p : ModePlace) : Type 0 where
    pub sound : IsSound p.batch
    pub left : pickable p.phase ≡ true → (p.batch.answers ≡ 0) × (asks_of before < limits.calls)
    pub few : All (IsFew (to_make before p.batch)) p.kept.skeletons

  -- ---- batches

  opened : (before : List Entry) (list : List Instance) (cut : Bool) (c : Course) → Opens limits task before list cut c
      → IsSound c × (to_make before c ≡ asks_of before + length list)
  opened before list cut c o =
      let answers = ap (λ (x : Course). x.answers) o.is in
      let asks = ap (λ (x : Course). x.asks) o.is in
      let later = ap (λ (x : Course). length x.later) o.is in
      let all = ap length o.parts ∙ length-append o.round o.rest in
      let long = ap length asks ∙ requests_long task before (asks_of before + 1) o.round in (
        record {
          asks = ap (list_all is_ask) asks ∙ requests_ask task before (asks_of before + 1) o.round;
          low = omega (arith, long, answers);
          none = λ no_answers. by no_answers answers later all (cases_lt 0 (length list));
        },
        omega (arith, long, later, all),
      )
    where
      by : c.answers ≡ 0 → c.answers ≡ length o.round → length c.later ≡ length o.rest
          → length list ≡ length o.round + length o.rest → (0 < length list) ⊎ (length list ≤ 0) → length c.later ≡ 0
      by no_answers answers later all (inl some) =
          let round = o.some some in absurd (omega (arith, round, answers, no_answers))
      by no_answers answers later all (inr empty) = omega (arith, later, all, empty)

  -- a request or an answer changes nothing of it
  stepped : (before : List Entry) (c : Course) (e : Entry) (d : Course) → IsSound c → IsBatchStep limits task before c e d
      → IsSound d × (to_make (before ++ e ∷ []) d ≡ to_make before c)
  stepped before c e d s (inl m) =
      let parts = and_parts (is_ask e) (list_all is_ask m.rest) (sym (ap (list_all is_ask) m.asks) ∙ s.asks) in
      let more = ap length m.asks in
      let low = s.low in
      let some = m.more in
      subst (λ (x : Course). IsSound x × (to_make (before ++ e ∷ []) x ≡ to_make before c)) (sym m.is) (
        record {
          asks = parts.1;
          low = omega (arith, low, more);
          none = λ no_answers. absurd (omega (arith, no_answers, some));
        },
        omega (arith, asks_asked before e parts.0, more),
      )
  stepped before c e d s (inr g) = by g.left g.behind
    where
      same : asks_of (before ++ e ∷ []) ≡ asks_of before
      same = asks_marked before e (answer_no_ask c.next e g.to)

      by : (left : ℕ) → IsBehind limits task (before ++ e ∷ []) c left d
          → IsSound d × (to_make (before ++ e ∷ []) d ≡ to_make before c)
      by zero o =
          let begun = opened (before ++ e ∷ []) c.later c.is_cut d o in
          let none = ap length g.asked in
          let all = begun.1 in
          (begun.0, omega (arith, all, same, none))
      by (suc left) is =
          let none = ap length g.asked in
          let asks = ap (λ (x : Course). x.asks) is in
          let answers = ap (λ (x : Course). x.answers) is in
          let later = ap (λ (x : Course). length x.later) is in
          let empty = ap length asks in (
            record {
              asks = ap (list_all is_ask) asks;
              low = omega (arith, empty);
              none = λ no_answers. absurd (omega (arith, answers, no_answers));
            },
            omega (arith, empty, later, same, none),
          )

  -- nothing more is to be asked where nothing is open
  idle : (before : List Entry) (c : Course) → IsSound c → c.answers ≡ 0 → to_make before c ≡ asks_of before
  idle before c s none = let low = s.low in let later = s.none none in omega (arith, low, later, none)

  -- ---- behind a batch that begins

  run_stands : (over : Phase) (real : ℕ) (before : List Entry) (entries : List dreams.SupposedEntry) (sent : List Sent) (kept : Kept) (q : ModePlace)
      → pickable over ≡ false
      → ((n : ℕ) → n ≡ asks_of before + length (asked_next limits task real before entries sent) → All (IsFew n) kept.skeletons)
      → RunsNext limits task over real before entries sent kept q → Stands before q
  run_stands over real before entries sent kept q other few r =
      let begun = opened before (asked_next limits task real before entries sent) _ r.batch r.opens in
      subst (Stands before) (sym r.after_is)
      (record {
        sound = begun.0;
        left = λ comes. absurd (true≢false (sym comes ∙ behind_pickable over _ real entries sent _ other));
        few = few (to_make before r.batch) begun.1;
      })

  module _ (before : List Entry) (p : ModePlace) (e : Entry) (q : ModePlace) (st : Stands before p) where
    abbrev after : List Entry
    after = before ++ e ∷ []

    -- a batch begins behind a line, and the skeletons stay
    level_stands : (list : List Instance) (cut : Bool) (c : Course) (k : Kept) → is_ask e ≡ false → p.batch.answers ≡ 0
        → k.skeletons ≡ p.kept.skeletons → Opens limits task after list cut c
        → q ≡ record { batch = c; phase = resting; kept = k } → Stands after q
    level_stands list cut c k mark none same o is =
        let begun = opened after list cut c o in
        let was = idle before p.batch st.sound none in
        let now = begun.1 in
        subst (Stands after) (sym is)
        (record {
          sound = begun.0;
          left = λ comes. absurd (cc);
          few = subst (All (IsFew (to_make after c))) (sym same)
              (fewer (to_make before p.batch) (to_make after c) p.kept.skeletons
              (omega (arith, was, now, asks_marked before e mark)) st.few);
        })

    -- none begins
    mark_stands : (phase : Phase) (k : Kept) → is_ask e ≡ false → k.skeletons ≡ p.kept.skeletons
        → (pickable phase ≡ true → (p.batch.answers ≡ 0) × (asks_of after < limits.calls))
        → q ≡ record { batch = p.batch; phase = phase; kept = k } → Stands after q
    mark_stands phase k mark same left is =
        subst (Stands after) (sym is)
        (record {
          sound = st.sound;
          left = left;
          few = subst (All (IsFew (to_make after p.batch))) (sym same)
              (fewer (to_make before p.batch) (to_make after p.batch) p.kept.skeletons
              (omega (arith, asks_marked before e mark)) st.few);
        })

    -- where all were few that were kept, they are few behind a batch
    still_few : (m : ℕ) → to_make before p.batch ≤ m → All (IsFew m) p.kept.skeletons
    still_few m low = fewer (to_make before p.batch) m p.kept.skeletons low st.few

    settled_stands : (c : Course) → IsBatchStep limits task before p.batch e c
        → Settles limits task after (with_batch p c) q → Stands after q
    settled_stands c step (stays settled is) =
        let some = batch_open limits task before p.batch e c step in
        let s = stepped before p.batch e c st.sound step in
        let same = s.1 in
        subst (Stands after) (sym is)
        (record {
          sound = s.0;
          left = λ comes. let none = (st.left comes).0 in absurd (omega (arith, some, none));
          few = still_few (to_make after c) (omega (arith, same));
        })
    settled_stands c step (moves real entries sent awaits r) =
        let s = stepped before p.batch e c st.sound step in
        let same = s.1 in
        let none = idle after c s.0 awaits.answered in
        run_stands resting real after entries sent p.kept q refl
        (λ n is. still_few n (omega (arith, same, none, is))) r

    dreamed_stands : (m : Mode) (real : ℕ) (entries : List dreams.SupposedEntry) → is_ask e ≡ false → p.batch.answers ≡ 0
        → asks_of after < limits.calls → IsBehindDream m limits task real after entries p q → Stands after q
    dreamed_stands Incremental real entries mark none left behind = absurd behind
    dreamed_stands Focused real entries mark none left behind =
        level_stands _ _ behind.batch _ mark none refl behind.opens behind.after_is
    dreamed_stands Binding real entries mark none left behind =
        let was = idle before p.batch st.sound none in
        run_stands resting real after entries [] p.kept q refl
        (λ n is. still_few n (omega (arith, was, is, asks_marked before e mark))) behind
    dreamed_stands Adaptive real entries mark none left behind =
        subst (Stands after) (sym behind)
        (record {
          sound = st.sound;
          left = λ comes. (none, left);
          few = All-push (IsFew (to_make after p.batch)) p.kept.skeletons
              (record { entries = entries; real = real; picks = 0; retired = false })
              (still_few (to_make after p.batch) (omega (arith, asks_marked before e mark))) (λ kept. omega arith);
        })

    -- where something may be asked first and a call is left, something is
    some_first : (list : List Sent) → is_given_up list ≡ false → asks_of after < limits.calls
        → 0 < length (take (calls_left limits after) (sent_instances list))
    some_first [] other left = absurd (true≢false other)
    some_first (s ∷ list) other left =
        omega (
          arith,
          left,
          length-take (calls_left limits after) (sent_instances (s ∷ list)),
          length-map (s ∷ list) (λ (x : Sent). x.instance),
        )

    picked_stands : (t : IsPickStep limits task before p e q) → asks_of before < limits.calls → is_ask e ≡ false → Stands after q
    picked_stands t left mark =
        let line = entry.Pick (t.place + 1) in
        let marked = before ++ line ∷ [] in
        let here : marked ≡ after = ap (λ (x : Entry). before ++ x ∷ []) (sym t.is) in
        let was = idle before p.batch st.sound (pick_answered p t.awaits) in
        let counted = asks_marked before line refl in
        let firsts = sent_first task t.skeleton.real marked t.skeleton.entries in
        let own : t.skeleton.picks ≤ to_make before p.batch =
        All-contains (IsFew (to_make before p.batch)) p.kept.skeletons t.skeleton st.few
        (member_at p.kept.skeletons t.place t.skeleton t.picked.there) t.picked.kept in
        let asked : is_given_up firsts ≡ false → 0 < length (asked_next limits task t.skeleton.real marked t.skeleton.entries []) =
        λ other. subst (λ es. 0 < length (take (calls_left limits es) (sent_instances firsts))) (sym here)
        (some_first firsts other (omega (arith, left, asks_marked before e mark))) in
        subst (λ es. Stands es q) here
        (run_stands (unasked t.place) t.skeleton.real marked t.skeleton.entries [] _ q refl
        (λ n is. All-set (IsFew n) p.kept.skeletons t.place _
        (λ other. let some = asked other in omega (arith, own, was, counted, is, some))
        (still_few n (omega (arith, was, counted, is)))) t.runs)

  step_stands : (before : List Entry) (p : ModePlace) (e : Entry) (q : ModePlace) → Stands before p → IsModeStep limits task before p e q
      → Stands (before ++ e ∷ []) q
  step_stands before p e q st (goes_on c step settles) = settled_stands before p e q st c step settles
  step_stands before p e q st (begins_level t) =
      level_stands before p e q st _ _ t.batch p.kept (ap is_ask t.begins.is) t.awaits.answered refl t.begins.opens t.after_is
  step_stands before p e q st (tells_dream t) =
      let line = entry.Dream t.uses t.steps in
      let left = t.may.may.left in
      let same = asks_marked before line refl in
      subst (λ (x : Entry). Stands (before ++ x ∷ []) q) (sym t.is)
      (dreamed_stands before p line q st limits.mode _ t.entries refl t.may.awaits.answered (omega (arith, left, same)) t.behind)
  step_stands before p e q st (tells_none t) =
      let left = t.may.may.left in
      let mark = ap is_ask t.is in
      let same = asks_marked before e mark in
      mark_stands before p e q st _ p.kept mark refl (λ comes. (t.may.awaits.answered, omega (arith, left, same))) t.after_is
  step_stands before p e q st (resets t) =
      mark_stands before p e q st resting _ (ap is_ask t.is) refl (λ comes. absurd (cc)) t.after_is
  step_stands before p e q st (falls_back t) =
      subst (λ (x : Entry). Stands (before ++ x ∷ []) q) (sym t.is)
      (level_stands before p entry.Level q st _ _ t.batch p.kept refl t.awaits.answered refl t.opens t.after_is)
  step_stands before p e q st (picks t) =
      picked_stands before p e q st t (by t.awaits) (ap is_ask t.is)
    where
      by : AwaitsPick p → asks_of before < limits.calls
      by (inl a) = (st.left (ap pickable a.phase_is)).1
      by (inr a) = (st.left (ap pickable a.phase_is)).1
  step_stands before p e q st (retires t) =
      mark_stands before p e q st resting p.kept (ap is_ask t.is) refl (λ comes. absurd (cc)) t.after_is

  leads_stand : (p : ModePlace) (before es : List Entry) (q : ModePlace) → Stands before p → LeadsOn limits task p before es q
      → Stands (before ++ es) q
  leads_stand p before [] q st same =
      subst (λ xs. Stands xs q) (sym (append-nil before)) (subst (Stands before) same st)
  leads_stand p before (e ∷ es) q st (m, step, rest) =
      subst (λ xs. Stands xs q) (append_assoc before (e ∷ []) es)
      (leads_stand m (before ++ e ∷ []) es q (step_stands before p e m st step) rest)

  first_stands : Stands [] at_start
  first_stands = record {
    sound = record { asks = refl; low = omega arith; none = λ none. refl };
    left = λ comes. absurd (cc);
    few = All-nil (IsFew 0);
  }

  module _ (entries : List Entry) (p : ModePlace) (leads : LeadsOn limits task at_start [] entries p) where
    stands : Stands entries p
    stands = leads_stand at_start [] entries p first_stands leads

    -- where a skeleton comes to be picked a call is left
    pub pick_left : AwaitsPick p → asks_of entries < limits.calls
    pick_left (inl a) = (stands.left (ap pickable a.phase_is)).1
    pick_left (inr a) = (stands.left (ap pickable a.phase_is)).1

    -- one that isn't given up was picked no more often than something was asked, with what the open batch still asks
    pub picks_few : (place : ℕ) (s : Skeleton) → slice_get p.kept.skeletons place ≡ Some s → s.retired ≡ false
        → s.picks ≤ asks_of entries + length p.batch.asks + length p.batch.later
    picks_few place s there kept =
        All-contains (IsFew (to_make entries p.batch)) p.kept.skeletons s stands.few (member_at p.kept.skeletons place s there) kept

  -- the same of what the code has still to do
  pub agenda_few : (entries : List Entry) (a : ModeAgenda) → LeadsOn limits task at_start [] entries (mode_place_in task entries a)
      → (place : ℕ) (s : Skeleton) → slice_get a.kept.skeletons place ≡ Some s → s.retired ≡ false
      → s.picks ≤ asks_of entries + length a.batch.to_ask + length a.batch.later
  agenda_few entries a leads place s there kept =
      let few = picks_few entries (mode_place_in task entries a) leads place s there kept in
      omega (arith, few, requests_long task entries (asks_of entries + 1) a.batch.to_ask)
