-- Entries that lead somewhere are turns, the last of which may stop.
use Rattle.std.proofs.Common.{◌≡◌, ℕ, zero, suc, ◌+◌, ◌-◌, ◌<◌, ◌≤◌, inl, inr, Bool, true, false, List, [], ◌∷◌, ◌++◌, length, take, refl, sym, ap, subst, ◌∙◌, arith, append_assoc, All, eq-eqb}
use Rattle.std.proofs.lemmas.List.{append-nil, length-append, nil_from_length}
use Rattle.std.proofs.lemmas.Bool.{true≢false}
use Rattle.task_model.specs.declared.stream.Instance.{Instance}
use Rattle.task_model.specs.declared.task.Task.{Task}
use Rattle.transcript_model.specs.Legal.{asks_of, is_answer_to}
use Rattle.transcript_model.specs.Rounds.{Limits, Share, AreAnswers, AreRounds, AreRoundsRun, calls_left, requests}
use Rattle.transcript_model.specs.Turns.{AreTurns, IncrementalTurn, IsLevel, Stage, between, after_cut, inside, cut_off, is_cut, none_left, stopped, whole}
use Rattle.transcript_model.specs.declared.entry.Entry.{Entry}
use Rattle.transcript_model.specs.declared.entry.Entry.TheVariants as entry
use Rattle.transcript_model.proofs.LegalNumberLemmas.{asks_marked}
use Rattle.transcript_model.proofs.RoundsFrontLemmas.{cuts}
use Rattle.course_check.proofs.CoursesStepLemmas.{none_there}
use Rattle.course_check.specs.Courses.{Course, Opens, IsBehind, BeginsLevel, Leads, with_asks}
use Rattle.course_check.specs.Laws.{IsAt}

-- ---- what is left of a batch

-- where nothing is open, nothing is to come
abbrev pub IsTidy : Course → Type 0
IsTidy c = c.answers ≡ 0 → (c.asks ≡ []) × (c.later ≡ [])

-- The entries are what is left of the batch: the requests of the open round, their answers, and the later rounds.
pub record Finishes (limits : Limits) (task : Task) (c : Course) (before es : List Entry) : Type 0 where
  pub answers : List Entry
  pub later : List Entry
  pub is : es ≡ c.asks ++ (answers ++ later)
  pub right : AreAnswers c.next c.answers answers
  pub rounds : List (List Instance)
  pub cut : AreRounds limits.pools c.later rounds
  pub run : AreRoundsRun task (before ++ (c.asks ++ answers)) rounds later

-- a batch whose first round begins, and what is left of it then
pub opened_run : (limits : Limits) (task : Task) (before es : List Entry) (list : List Instance) (cut : Bool) (c : Course)
    → Opens limits task before list cut c → Finishes limits task c before es
    → (rounds : List (List Instance)) × AreRounds limits.pools list rounds × AreRoundsRun task before rounds es
opened_run limits task before es list cut c o f = by o.round refl
  where
    round_is : c.asks ≡ requests task before o.round
    round_is = λ i. (o.is i).asks

    answers_right : AreAnswers (asks_of before + 1) (length o.round) f.answers
    answers_right = subst (λ (d : Course). AreAnswers d.next d.answers f.answers) o.is f.right

    later_is : c.later ≡ o.rest
    later_is = λ i. (o.is i).later

    by : (round : List Instance) → o.round ≡ round
        → (rounds : List (List Instance)) × AreRounds limits.pools list rounds × AreRoundsRun task before rounds es
    by [] e =
        let over : f.answers ≡ [] =
        none_there (asks_of before + 1) f.answers
        (subst (λ (is : List Instance). AreAnswers (asks_of before + 1) (length is) f.answers) e answers_right) in
        let asks : c.asks ≡ [] = round_is ∙ ap (requests task before) e in
        let front : before ++ (c.asks ++ f.answers) ≡ before = (λ i. before ++ (asks i ++ over i)) ∙ append-nil before in
        let all : es ≡ f.later = f.is ∙ (λ i. asks i ++ (over i ++ f.later)) in
        let list_is : list ≡ c.later = o.parts ∙ ap (λ is. is ++ o.rest) e ∙ sym later_is in (
          f.rounds,
          subst (λ is. AreRounds limits.pools is f.rounds) (sym list_is) f.cut,
          subst (λ xs. AreRoundsRun task before f.rounds xs) (sym all) (subst (λ xs. AreRoundsRun task xs f.rounds f.later) front f.run),
        )
    by (i ∷ is) e =
        let some : 0 < length o.round = omega (arith, ap length e) in
        let now = requests task before o.round ++ f.answers in
        let all : es ≡ now ++ f.later =
        f.is ∙ ap (λ xs. xs ++ (f.answers ++ f.later)) round_is ∙ sym (append_assoc (requests task before o.round) f.answers f.later) in
        let front : before ++ (c.asks ++ f.answers) ≡ before ++ now = ap (λ xs. before ++ (xs ++ f.answers)) round_is in (
          o.round ∷ f.rounds,
          (o.rest, o.parts, some, o.fit, o.full, subst (λ is. AreRounds limits.pools is f.rounds) later_is f.cut),
          (now, f.later, all, (f.answers, refl, answers_right), subst (λ xs. AreRoundsRun task xs f.rounds f.later) front f.run),
        )

pub opened_tidy : (limits : Limits) (task : Task) (before : List Entry) (list : List Instance) (cut : Bool) (c : Course)
    → Opens limits task before list cut c → IsTidy c
opened_tidy limits task before list cut c o none =
    let count : c.answers ≡ length o.round = λ i. (o.is i).answers in
    let short : length o.round ≡ 0 = sym count ∙ none in
    let nothing : length o.rest ≡ 0 = by list o.parts o.some short in
    let asks : c.asks ≡ requests task before o.round = λ i. (o.is i).asks in
    let later : c.later ≡ o.rest = λ i. (o.is i).later in
    (asks ∙ ap (requests task before) (nil_from_length o.round short), later ∙ nil_from_length o.rest nothing)
  where
    by : (is : List Instance) → is ≡ o.round ++ o.rest → (0 < length is → 0 < length o.round)
        → length o.round ≡ 0 → length o.rest ≡ 0
    by [] e some short = omega (arith, ap length e, length-append o.round o.rest)
    by (i ∷ is) e some short = absurd (omega (arith, some (omega arith), short))

-- ---- what would finish it

abbrev ends : ℕ → ℕ → List Entry
ends number zero = []
ends number (suc n) = entry.End number ∷ ends (number + 1) n

ends_answer : (number n : ℕ) → AreAnswers number n (ends number n)
ends_answer number zero = tt
ends_answer number (suc n) = (eq-eqb number number refl, ends_answer (number + 1) n)

runs : (task : Task) (rounds : List (List Instance)) (before : List Entry)
    → (es : List Entry) × AreRoundsRun task before rounds es
runs task [] before = ([], refl)
runs task (round ∷ rounds) before =
    let answers = ends (asks_of before + 1) (length round) in
    let now = requests task before round ++ answers in
    let later = runs task rounds (before ++ now) in
    (now ++ later.0, (now, later.0, refl, (answers, refl, ends_answer (asks_of before + 1) (length round)), later.1))

finishing : (limits : Limits) (task : Task) (c : Course) (before : List Entry)
    → All (λ (p : Share). 1 ≤ p.workers) limits.pools
    → (es : List Entry) × Finishes limits task c before es
finishing limits task c before workers =
    let answers = ends c.next c.answers in
    let rounds = cuts limits.pools (length c.later) c.later (omega arith) workers in
    let later = runs task rounds.0 (before ++ (c.asks ++ answers)) in (
      c.asks ++ (answers ++ later.0),
      record {
        answers = answers;
        later = later.0;
        is = refl;
        right = ends_answer c.next c.answers;
        rounds = rounds.0;
        cut = rounds.1;
        run = later.1;
      },
    )

-- ---- one entry more in front

finish_none : (limits : Limits) (task : Task) (c : Course) (before : List Entry) → IsTidy c
    → c.answers ≡ 0
    → Finishes limits task c before []
finish_none limits task c before tidy none =
    let over = tidy none in
    record {
      answers = [];
      later = [];
      is = λ i. sym over.0 i ++ ([] ++ []);
      right = subst (λ n. AreAnswers c.next n []) (sym none) tt;
      rounds = [];
      cut = over.1;
      run = refl;
    }

finish_ask : (limits : Limits) (task : Task) (c : Course) (before es : List Entry) (e : Entry) (rest : List Entry)
    → c.asks ≡ e ∷ rest
    → Finishes limits task (with_asks c rest) (before ++ e ∷ []) es → Finishes limits task c before (e ∷ es)
finish_ask limits task c before es e rest asks f =
    let front : (before ++ e ∷ []) ++ (rest ++ f.answers) ≡ before ++ (c.asks ++ f.answers) =
    append_assoc before (e ∷ []) (rest ++ f.answers) ∙ ap (λ xs. before ++ (xs ++ f.answers)) (sym asks) in
    record {
      answers = f.answers;
      later = f.later;
      is = ap (λ xs. e ∷ xs) f.is ∙ ap (λ xs. xs ++ (f.answers ++ f.later)) (sym asks);
      right = f.right;
      rounds = f.rounds;
      cut = f.cut;
      run = subst (λ xs. AreRoundsRun task xs f.rounds f.later) front f.run;
    }

finish_answer : (limits : Limits) (task : Task) (c : Course) (before es : List Entry) (e : Entry) (n : ℕ)
    → c.asks ≡ []
    → c.answers ≡ suc (suc n) → is_answer_to c.next e ≡ true
    → Finishes limits task (record { asks = []; next = c.next + 1; answers = suc n; later = c.later; is_cut = c.is_cut })
    (before ++ e ∷ []) es
    → Finishes limits task c before (e ∷ es)
finish_answer limits task c before es e n asked count to f =
    let front : (before ++ e ∷ []) ++ ([] ++ f.answers) ≡ before ++ (c.asks ++ e ∷ f.answers) =
    append_assoc before (e ∷ []) f.answers ∙ ap (λ xs. before ++ (xs ++ e ∷ f.answers)) (sym asked) in
    record {
      answers = e ∷ f.answers;
      later = f.later;
      is = ap (λ xs. e ∷ xs) f.is ∙ ap (λ xs. xs ++ ((e ∷ f.answers) ++ f.later)) (sym asked);
      right = subst (λ k. AreAnswers c.next k (e ∷ f.answers)) (sym count) (to, f.right);
      rounds = f.rounds;
      cut = f.cut;
      run = subst (λ xs. AreRoundsRun task xs f.rounds f.later) front f.run;
    }

finish_last : (limits : Limits) (task : Task) (c d : Course) (before es : List Entry) (e : Entry)
    → c.asks ≡ [] → c.answers ≡ suc zero
    → is_answer_to c.next e ≡ true → Opens limits task (before ++ e ∷ []) c.later c.is_cut d → Finishes limits task d (before ++ e ∷ []) es
    → Finishes limits task c before (e ∷ es)
finish_last limits task c d before es e asked count to opens f =
    let run = opened_run limits task (before ++ e ∷ []) es c.later c.is_cut d opens f in
    let front : before ++ e ∷ [] ≡ before ++ (c.asks ++ e ∷ []) = ap (λ xs. before ++ (xs ++ e ∷ [])) (sym asked) in
    record {
      answers = e ∷ [];
      later = es;
      is = ap (λ xs. xs ++ ((e ∷ []) ++ es)) (sym asked);
      right = subst (λ k. AreAnswers c.next k (e ∷ [])) (sym count) (to, tt);
      rounds = run.0;
      cut = run.1;
      run = subst (λ xs. AreRoundsRun task xs run.0 es) front run.2;
    }

-- ---- up to the end of the batch, or to where the entries stop in it

pub data Walks (limits : Limits) (task : Task) (c : Course) (before es : List Entry) (d : Course) : Type 0 where
  done : (now rest : List Entry) (m : Course) → es ≡ now ++ rest → Finishes limits task c before now
      → m.answers ≡ 0 → m.is_cut ≡ c.is_cut
      → IsTidy m → Leads limits task m (before ++ now) rest d → Walks limits task c before es d
  within : (more : List Entry) → Finishes limits task c before (es ++ more) → 0 < d.answers
      → Walks limits task c before es d

-- from one entry on to the one before
walk_on : (limits : Limits) (task : Task) (c m d : Course) (before es : List Entry) (e : Entry)
    → m.is_cut ≡ c.is_cut
    → ((xs : List Entry) → Finishes limits task m (before ++ e ∷ []) xs → Finishes limits task c before (e ∷ xs))
    → Walks limits task m (before ++ e ∷ []) es d → Walks limits task c before (e ∷ es) d
walk_on limits task c m d before es e cut longer (done now rest n is finishes none same tidy leads) =
    done (e ∷ now) rest n (ap (λ xs. e ∷ xs) is) (longer now finishes) none
    (same ∙ cut) tidy (subst (λ xs. Leads limits task n xs rest d) (append_assoc before (e ∷ []) now) leads)
walk_on limits task c m d before es e cut longer (within more finishes some) =
    within more (longer (es ++ more) finishes) some

some_tidy : (c : Course) (n : ℕ) → c.answers ≡ suc n → IsTidy c
some_tidy c n count none = absurd (omega (arith, count, none))

pub walk : (limits : Limits) (task : Task) (c : Course) (before es : List Entry) (d : Course) (n : ℕ)
    → c.answers ≡ n → IsTidy c
    → All (λ (p : Share). 1 ≤ p.workers) limits.pools → Leads limits task c before es d → Walks limits task c before es d
walk limits task c before es d zero none tidy workers leads =
    done [] es c refl (finish_none limits task c before tidy none) none refl tidy
    (subst (λ xs. Leads limits task c xs es d) (sym (append-nil before)) leads)
walk limits task c before [] d (suc n) count tidy workers leads =
    let f = finishing limits task c before workers in
    within f.0 f.1 (omega (arith, count, ap (λ (x : Course). x.answers) leads))
walk limits task c before (e ∷ es) d (suc n) count tidy workers (m, inl b, more) =
    absurd (omega (arith, b.resting, count))
walk limits task c before (e ∷ es) d (suc n) count tidy workers (m, inr (inl r), more) =
    let after : m.answers ≡ suc n = ap (λ (x : Course). x.answers) r.is ∙ count in
    walk_on limits task c m d before es e (ap (λ (x : Course). x.is_cut) r.is)
    (λ xs f. finish_ask limits task c before xs e r.rest r.asks (subst (λ x. Finishes limits task x (before ++ e ∷ []) xs) r.is f))
    (walk limits task m (before ++ e ∷ []) es d (suc n) after (some_tidy m n after) workers more)
walk limits task c before (e ∷ es) d (suc n) count tidy workers (m, inr (inr a), more) =
    answered a.left a.answers a.behind (λ k k_is t. walk limits task m (before ++ e ∷ []) es d k k_is t workers more)
  where
    answered : (left : ℕ) → c.answers ≡ suc left → IsBehind limits task (before ++ e ∷ []) c left m
        → ((k : ℕ) → m.answers ≡ k → IsTidy m → Walks limits task m (before ++ e ∷ []) es d) → Walks limits task c before (e ∷ es) d
    answered zero left_is behind rest =
        walk_on limits task c m d before es e (ap (λ (x : Course). x.is_cut) behind.is)
        (λ xs f. finish_last limits task c m before xs e a.asked left_is a.to behind f)
        (rest m.answers refl (opened_tidy limits task (before ++ e ∷ []) c.later c.is_cut m behind))
    answered (suc k) left_is behind rest =
        let after : m.answers ≡ suc k = ap (λ (x : Course). x.answers) behind in
        walk_on limits task c m d before es e (ap (λ (x : Course). x.is_cut) behind)
        (λ xs f. finish_answer limits task c before xs e k a.asked left_is a.to
        (subst (λ x. Finishes limits task x (before ++ e ∷ []) xs) behind f))
        (rest (suc k) after (some_tidy m k after))

-- ---- turns

-- the entries are turns up to where they lead
pub record Turned (limits : Limits) (task : Task) (before es : List Entry) (d : Course) : Type 0 where
  pub stage : Stage
  pub at : IsAt d stage
  pub turns : AreTurns limits task (IncrementalTurn limits task) tt before es stage

-- a level whose line may stand, and what finishes its batch
level_of : (limits : Limits) (task : Task) (c m : Course) (before es : List Entry) (e : Entry) (b : BeginsLevel limits task before c e m)
    → Finishes limits task m (before ++ e ∷ []) es → IsLevel limits task before (e ∷ es) (is_cut limits before b.may.list)
level_of limits task c m before es e b f =
    let run = opened_run limits task (before ++ e ∷ []) es (take (calls_left limits before) b.may.list)
    (is_cut limits before b.may.list) m b.opens f in
    let taken : take (calls_left limits before) b.may.list ≡ take (calls_left limits (before ++ entry.Level ∷ [])) b.may.list =
    ap (λ n. take (limits.calls - n) b.may.list) (sym (asks_marked before entry.Level refl)) in
    record {
      list = b.may.list;
      due = b.may.due;
      rest = es;
      is = ap (λ x. x ∷ es) b.is;
      batch = record {
        rounds = run.0;
        cut = subst (λ is. AreRounds limits.pools is run.0) taken run.1;
        run = subst (λ x. AreRoundsRun task (before ++ x ∷ []) run.0 es) b.is run.2;
      };
      cut_is = refl;
    }

-- behind a batch that was cut nothing comes
nothing_more : (limits : Limits) (task : Task) (m d : Course) (before rest : List Entry)
    → m.answers ≡ 0 → m.is_cut ≡ true
    → Leads limits task m before rest d → (rest ≡ []) × (m ≡ d)
nothing_more limits task m d before [] none cut leads = (refl, leads)
nothing_more limits task m d before (e ∷ es) none cut (n, inl b, more) =
    absurd (let both : true ≡ false = sym cut ∙ b.uncut in true≢false both)
nothing_more limits task m d before (e ∷ es) none cut (n, inr (inl r), more) =
    absurd (omega (arith, none, r.more))
nothing_more limits task m d before (e ∷ es) none cut (n, inr (inr a), more) =
    absurd (omega (arith, none, a.answers))

-- that shorter lists of entries from later places on are turns
abbrev pub Shorter : Limits → Task → ℕ → Type 0
Shorter limits task n =
    (before es : List Entry) (c d : Course) → length es ≤ n → c.answers ≡ 0 → c.is_cut ≡ false → IsTidy c → Leads limits task c before es d
    → Turned limits task before es d

turn_first : (limits : Limits) (task : Task) (n : ℕ) (c m d : Course) (before es : List Entry) (e : Entry)
    → Shorter limits task n
    → length es ≤ n → (b : BeginsLevel limits task before c e m) → Walks limits task m (before ++ e ∷ []) es d
    → Turned limits task before (e ∷ es) d
turn_first limits task n c m d before es e shorter few b (within more finishes some) =
    record {
      stage = inside;
      at = some;
      turns = stopped tt more (is_cut limits before b.may.list) b.may (level_of limits task c m before (es ++ more) e b finishes);
    }
turn_first limits task n c m d before es e shorter few b (done now rest k is finishes none cut tidy leads) =
    by (is_cut limits before b.may.list) refl
  where
    cut_is : k.is_cut ≡ is_cut limits before b.may.list
    cut_is = cut ∙ ap (λ (x : Course). x.is_cut) b.opens.is

    later : Leads limits task k (before ++ e ∷ now) rest d
    later = subst (λ xs. Leads limits task k xs rest d) (append_assoc before (e ∷ []) now) leads

    level : IsLevel limits task before (e ∷ now) (is_cut limits before b.may.list)
    level = level_of limits task c m before now e b finishes

    by : (b_cut : Bool) → is_cut limits before b.may.list ≡ b_cut
        → Turned limits task before (e ∷ es) d
    by false uncut =
        let t = shorter (before ++ e ∷ now) rest k d (omega (arith, few, ap length is, length-append now rest)) none
        (cut_is ∙ uncut) tidy later in
        record {
          stage = t.stage;
          at = t.at;
          turns = subst (λ xs. AreTurns limits task (IncrementalTurn limits task) tt before (e ∷ xs) t.stage)
              (sym is) (whole tt b.may (subst (IsLevel limits task before (e ∷ now)) uncut level) t.turns);
        }
    by true spent =
        let over = nothing_more limits task k d (before ++ e ∷ now) rest none (cut_is ∙ spent) later in
        let all : e ∷ es ≡ e ∷ now = ap (λ xs. e ∷ xs) (is ∙ ap (λ xs. now ++ xs) over.0 ∙ append-nil now) in
        record {
          stage = after_cut;
          at = (ap (λ (x : Course). x.answers) (sym over.1) ∙ none, ap (λ (x : Course). x.is_cut) (sym over.1) ∙ cut_is ∙ spent);
          turns = subst (λ xs. AreTurns limits task (IncrementalTurn limits task) tt before xs after_cut)
              (sym all) (cut_off tt b.may (subst (IsLevel limits task before (e ∷ now)) spent level));
        }

pub turned : (limits : Limits) (task : Task) (n : ℕ)
    → All (λ (p : Share). 1 ≤ p.workers) limits.pools → Shorter limits task n
turned limits task n workers before [] c d few none uncut tidy leads = record {
  stage = between;
  at = (ap (λ (x : Course). x.answers) (sym leads) ∙ none, ap (λ (x : Course). x.is_cut) (sym leads) ∙ uncut);
  turns = none_left;
}
turned limits task zero workers before (e ∷ es) c d few none uncut tidy leads =
    absurd (omega (arith, few))
turned limits task (suc n) workers before (e ∷ es) c d few none uncut tidy (m, inl b, more) =
    turn_first limits task n c m d before es e (turned limits task n workers) (omega (arith, few)) b
    (walk limits task m (before ++ e ∷ []) es d m.answers refl
    (opened_tidy limits task (before ++ e ∷ []) (take (calls_left limits before) b.may.list)
    (is_cut limits before b.may.list) m b.opens) workers more)
turned limits task (suc n) workers before (e ∷ es) c d few none uncut tidy (m, inr (inl r), more) =
    absurd (omega (arith, none, r.more))
turned limits task (suc n) workers before (e ∷ es) c d few none uncut tidy (m, inr (inr a), more) =
    absurd (omega (arith, none, a.answers))
