-- Whole turns, entry by entry.
use Rattle.std.proofs.Common.{◌≡◌, ℕ, zero, suc, ◌+◌, ◌-◌, ◌<◌, inl, inr, Bool, true, false, List, [], ◌∷◌, ◌++◌, length, take, refl, sym, ap, subst, ◌∙◌, arith, append_assoc}
use Rattle.task_model.proofs.StreamsLemmas.{due_once}
use Rattle.task_model.specs.declared.stream.Instance.{Instance}
use Rattle.task_model.specs.declared.task.Task.{Task}
use Rattle.transcript_model.proofs.LegalNumberLemmas.{asks_marked}
use Rattle.transcript_model.specs.Legal.{asks_of}
use Rattle.transcript_model.specs.Rounds.{Limits, AreAnswers, AreRounds, AreRoundsRun, calls_left, requests}
use Rattle.transcript_model.specs.Transcript.{known_of, notes_of}
use Rattle.transcript_model.specs.Turns.{AreTurns, IncrementalTurn, IsLevel, MayBegin, Stage, inside, cut_off, is_cut, none_left, stopped, whole}
use Rattle.transcript_model.specs.declared.entry.Entry.{Entry}
use Rattle.transcript_model.specs.declared.entry.Entry.TheVariants as entry
use Rattle.transcript_model.proofs.RoundsFrontLemmas.{none_fit}
use Rattle.course_check.proofs.CoursesLemmas.{leads_apart, leads_then}
use Rattle.course_check.specs.Courses.{Course, Opens, Leads, with_asks}
use Rattle.course_check.specs.Laws.{IsAt}

-- ---- a round

-- the requests of the round, one after another
asks_lead : (limits : Limits) (task : Task) (c : Course) (before asks : List Entry) → c.asks ≡ asks
    → 0 < c.answers
    → Leads limits task c before asks (with_asks c [])
asks_lead limits task c before [] e more = λ i. with_asks c (e i)
asks_lead limits task c before (a ∷ asks) e more = (
  with_asks c asks,
  inr (inl (record { more = more; rest = asks; asks = e; is = refl })),
  asks_lead limits task (with_asks c asks) (before ++ a ∷ []) asks refl more,
)

pub none_there : (number : ℕ) (answers : List Entry) → AreAnswers number 0 answers → answers ≡ []
none_there number [] all = refl
none_there number (a ∷ answers) all = absurd all

none_for : (number n : ℕ) → AreAnswers number (suc n) [] → ⊥
none_for number n all = all

-- its answers, one after another, behind which the next round begins
answers_lead : (limits : Limits) (task : Task) (c d : Course) (before answers : List Entry) (n : ℕ)
    → c.asks ≡ [] → c.answers ≡ suc n
    → AreAnswers c.next (suc n) answers → Opens limits task (before ++ answers) c.later c.is_cut d → Leads limits task c before answers d
answers_lead limits task c d before [] n asked count all opens = absurd (none_for c.next n all)
answers_lead limits task c d before (a ∷ answers) zero asked count all opens =
    let over = none_there (c.next + 1) answers all.1 in
    subst (λ es. Leads limits task c before (a ∷ es) d) (sym over) (
      d,
      inr (inr (record {
        asked = asked;
        left = 0;
        answers = count;
        to = all.0;
        behind = subst (λ es. Opens limits task (before ++ a ∷ es) c.later c.is_cut d) over opens;
      })),
      refl,
    )
answers_lead limits task c d before (a ∷ answers) (suc n) asked count all opens =
    let m : Course = record { asks = []; next = c.next + 1; answers = suc n; later = c.later; is_cut = c.is_cut } in (
      m,
      inr (inr (record { asked = asked; left = suc n; answers = count; to = all.0; behind = refl })),
      answers_lead limits task m d (before ++ a ∷ []) answers n refl refl all.1
          (subst (λ es. Opens limits task es c.later c.is_cut d) (sym (append_assoc before (a ∷ []) answers)) opens),
    )

-- ---- a batch

-- it leads from where its first round begins to where nothing is open
pub record LeadsThrough (limits : Limits) (task : Task) (before : List Entry) (list : List Instance) (cut : Bool)
    (es : List Entry) : Type 0 where
  pub first : Course
  pub opens : Opens limits task before list cut first
  pub last : Course
  pub leads : Leads limits task first before es last
  pub resting : last.answers ≡ 0
  pub cut_is : last.is_cut ≡ cut

positive : {A : Type 0} (xs : List A) → 0 < length xs → (n : ℕ) × (length xs ≡ suc n)
positive [] lt = absurd (omega (arith, lt))
positive (x ∷ xs) lt = (length xs, refl)

pub rounds_lead : (limits : Limits) (task : Task) (rounds : List (List Instance)) (list : List Instance)
    (before es : List Entry) (cut : Bool)
    → AreRounds limits.pools list rounds → AreRoundsRun task before rounds es → LeadsThrough limits task before list cut es
rounds_lead limits task [] list before es cut none run =
    let c : Course = record { asks = []; next = asks_of before + 1; answers = 0; later = []; is_cut = cut } in
    record {
      first = c;
      opens = record {
        round = [];
        rest = [];
        parts = none;
        fit = none_fit limits.pools;
        full = tt;
        some = λ lt. subst (λ is. 0 < length is) none lt;
        is = refl;
      };
      last = c;
      leads = subst (λ xs. Leads limits task c before xs c) (sym run) refl;
      resting = refl;
      cut_is = refl;
    }
rounds_lead limits task (round ∷ rounds) list before es cut
    (rest, parts, some, fit, full, more) (now, later, es_is, (answers, now_is, right), run) =
    let next = rounds_lead limits task rounds rest (before ++ now) later cut more run in
    let c : Course = record
    { asks = requests task before round; next = asks_of before + 1; answers = length round; later = rest; is_cut = cut } in
    let asked : Leads limits task c before (requests task before round) (with_asks c []) =
    asks_lead limits task c before (requests task before round) refl some in
    let n = positive round some in
    let joined : before ++ now ≡ (before ++ requests task before round) ++ answers =
    ap (λ xs. before ++ xs) now_is ∙ sym (append_assoc before (requests task before round) answers) in
    let answered : Leads limits task (with_asks c []) (before ++ requests task before round) answers next.first =
    answers_lead limits task (with_asks c []) next.first (before ++ requests task before round) answers n.0 refl n.1
    (subst (λ k. AreAnswers (asks_of before + 1) k answers) n.1 right)
    (subst (λ xs. Opens limits task xs rest cut next.first) joined next.opens) in
    let first : Leads limits task c before (requests task before round ++ answers) next.first =
    leads_then limits task c before (requests task before round) answers (with_asks c []) next.first asked answered in
    let whole_round : Leads limits task c before now next.first =
    subst (λ xs. Leads limits task c before xs next.first) (sym now_is) first in
    record {
      first = c;
      opens = record { round = round; rest = rest; parts = parts; fit = fit; full = full; some = λ lt. some; is = refl };
      last = next.last;
      leads = subst (λ xs. Leads limits task c before xs next.last)
          (sym es_is) (leads_then limits task c before now later next.first next.last whole_round next.leads);
      resting = next.resting;
      cut_is = next.cut_is;
    }

-- ---- a level

-- it leads from where nothing is open to where nothing is open again
pub record LeadsLevel (limits : Limits) (task : Task) (c : Course) (before es : List Entry) (cut : Bool) : Type 0 where
  pub last : Course
  pub leads : Leads limits task c before es last
  pub resting : last.answers ≡ 0
  pub cut_is : last.is_cut ≡ cut

-- the line of a level is no request
level_leads : (limits : Limits) (task : Task) (c : Course) (before es : List Entry) (cut : Bool)
    → c.answers ≡ 0 → c.is_cut ≡ false
    → MayBegin limits task before → IsLevel limits task before es cut → LeadsLevel limits task c before es cut
level_leads limits task c before es cut resting uncut may level =
    let lists : level.list ≡ may.list = due_once task (known_of task before) (notes_of task before) level.list may.list level.due may.due in
    let marked = before ++ entry.Level ∷ [] in
    let taken : take (calls_left limits marked) level.list ≡ take (calls_left limits before) may.list =
    λ i. take (limits.calls - asks_marked before entry.Level refl i) (lists i) in
    let cuts : cut ≡ is_cut limits before may.list = level.cut_is ∙ ap (λ (is : List Instance). is_cut limits before is) lists in
    let through =
    rounds_lead limits task level.batch.rounds
    (take (calls_left limits marked) level.list) marked level.rest cut level.batch.cut level.batch.run in
    record {
      last = through.last;
      leads = subst (λ xs. Leads limits task c before xs through.last) (sym level.is) (
        through.first,
        inl (record {
          resting = resting;
          uncut = uncut;
          is = refl;
          may = may;
          opens = opened through.first
              (subst (λ b. Opens limits task marked (take (calls_left limits marked) level.list) b through.first) cuts
              through.opens) taken;
        }),
        through.leads,
      );
      resting = through.resting;
      cut_is = through.cut_is;
    }
  where
    opened : (d : Course)
        → Opens limits task (before ++ entry.Level ∷ [])
        (take (calls_left limits (before ++ entry.Level ∷ [])) level.list) (is_cut limits before may.list) d
        → take (calls_left limits (before ++ entry.Level ∷ [])) level.list ≡ take (calls_left limits before) may.list
        → Opens limits task (before ++ entry.Level ∷ []) (take (calls_left limits before) may.list) (is_cut limits before may.list) d
    opened d opens taken = subst (λ is. Opens limits task (before ++ entry.Level ∷ []) is (is_cut limits before may.list) d) taken opens

-- ---- turns

-- the turns lead to where their stage says, unless they stop inside one
pub record LeadsTo (limits : Limits) (task : Task) (c : Course) (before es : List Entry) (stage : Stage) : Type 0 where
  pub last : Course
  pub leads : Leads limits task c before es last
  pub at : ¬ (stage ≡ inside) → IsAt last stage

pub turns_lead : (limits : Limits) (task : Task) (kept : Unit {0}) (before es : List Entry) (stage : Stage) (c : Course)
    → AreTurns limits task (IncrementalTurn limits task) kept before es stage → c.answers ≡ 0 → c.is_cut ≡ false
    → LeadsTo limits task c before es stage
turns_lead limits task kept before es stage c none_left resting uncut =
    record { last = c; leads = refl; at = λ other. (resting, uncut) }
turns_lead limits task kept before es stage c (whole next {now = now} {rest = rest} may turn more) resting uncut =
    let level = level_leads limits task c before now false resting uncut may turn in
    let later = turns_lead limits task next (before ++ now) rest stage level.last more level.resting level.cut_is in
    record
    { last = later.last; leads = leads_then limits task c before now rest level.last later.last level.leads later.leads; at = later.at }
turns_lead limits task kept before es stage c (cut_off next may turn) resting uncut =
    let level = level_leads limits task c before es true resting uncut may turn in
    record { last = level.last; leads = level.leads; at = λ other. (level.resting, level.cut_is) }
turns_lead limits task kept before es stage c (stopped next more cut may turn) resting uncut =
    let level = level_leads limits task c before (es ++ more) cut resting uncut may turn in
    let front = leads_apart limits task c before es more level.last level.leads in
    record { last = front.0; leads = front.1; at = λ other. absurd (other refl) }
