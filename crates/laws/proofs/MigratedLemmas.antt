-- A report of version 1 is judged as it is in version 2.
use Rattle.std.proofs.Common.{◌≡◌, ℕ, inl, inr, true, List, take, refl, sym, subst, map}
use Rattle.lemmas.proofs.Members.{from_take, member_at}
use Rattle.std.proofs.lemmas.List.Elements.{All-contains, All-weaker}
use Rattle.replay_check.specs.Breaches.{AreBegun, AreInBatch, BeginsTurn, BreaksEntry, BreaksHead, BreaksOutcome, BreaksSaid, HasPlace, IsBreach, IsFalseDream, IsFalseNone, IsOutOfOrder, MayAsk}
use Rattle.replay_check.specs.Heads.{share_in}
use Rattle.replay_check.specs.Verdicts.{IsReportVerdict, IsRightReport, IsUndecidedAt, IsUndecidedClaim, IsVerdict}
use Rattle.replay_check.specs.declared.verdict.BreachKind.{BreachKind}
use Rattle.replay_check.specs.declared.verdict.BreachKind.TheVariants as kind
use Rattle.replay_check.specs.declared.verdict.Verdict.{Verdict}
use Rattle.replay_check.specs.declared.verdict.Verdict.TheVariants.{Valid, Invalid, Limit}
use Rattle.laws.proofs.ReplayVersionOriginLemmas.{HasOne, HaveOne, origins_in}
use Rattle.laws.proofs.ReplayVersionTurnsLemmas.{Bound, at, leaves, may_begin, turns, undecided_none, wrong_line}
use Rattle.laws.specs.Migrated.{AreJudgedAlike, MigratedReportsAreFormed, MigratedReportsAreJudgedAlike}
use Rattle.report_text.proofs.ReportsReadBack.{same_report}
use Rattle.report_text.specs.Forms.{IsFormed, IsFormedEntry, IsFormedOrigin, IsFormedOutcome}
use Rattle.report_text.specs.Texts.{in_version, text_of_report}
use Rattle.task_model.specs.declared.task.Task.{Task}
use Rattle.transcript_model.specs.Legal.{IsClosed, IsLegal, MayFollow}
use Rattle.transcript_model.specs.Outcomes.{IsTrueOutcome}
use Rattle.transcript_model.specs.declared.entry.Entry.{Entry}
use Rattle.transcript_model.specs.declared.entry.Entry.TheVariants as entry
use Rattle.transcript_model.specs.declared.outcome.LimitKind.TheVariants as kinds
use Rattle.transcript_model.specs.declared.outcome.Origin.{Origin}
use Rattle.transcript_model.specs.declared.outcome.Outcome.{Outcome}
use Rattle.transcript_model.specs.declared.outcome.Outcome.TheVariants as outcome
use Rattle.transcript_model.specs.declared.report.Report.{Report}

-- ---- forms

two_not_one : {A : Type 0} → ◌≡◌ {A = ℕ} 2 1 → A
two_not_one e = absurd (cc)

entry_formed : (v : ℕ) (e : Entry) → IsFormedEntry v e → IsFormedEntry 2 e
entry_formed v entry.Level f = f
entry_formed v (entry.Ask number turn call) f = f
entry_formed v (entry.Got number tuples values) f = (
  f.0,
  record {
    some = f.1.some;
    few = f.1.few;
    one = λ e. two_not_one e;
    empty = f.1.empty;
    width = f.1.width;
    equal = f.1.equal;
    each = f.1.each;
  },
)
entry_formed v (entry.Value number value) f = f
entry_formed v (entry.End number) f = f
entry_formed v (entry.Dream uses steps) f = f
entry_formed v entry.Nothing f = f
entry_formed v entry.Reset f = f
entry_formed v (entry.Pick number) f = f
entry_formed v (entry.Retire number) f = f

origin_formed : (v : ℕ) (o : Origin) → IsFormedOrigin v o → IsFormedOrigin 2 o
origin_formed v o f = record { object = f.object; number = f.number; tuple = f.tuple; one = λ e. two_not_one e }

outcome_formed : (v : ℕ) (o : Outcome) → IsFormedOutcome v o → IsFormedOutcome 2 o
outcome_formed v (outcome.Plan steps cost from) f =
    (f.0, f.1, f.2, All-weaker (IsFormedOrigin v) (IsFormedOrigin 2) (origin_formed v) from f.3)
outcome_formed v outcome.NoPlan f = f
outcome_formed v (outcome.Limit kind) f = f

pub formed_second : MigratedReportsAreFormed
formed_second r f = record {
  version = inr refl;
  calls = f.calls;
  states = f.states;
  depth = f.depth;
  pools = f.pools;
  entries = All-weaker (IsFormedEntry r.version) (IsFormedEntry 2) (entry_formed r.version) r.entries f.entries;
  outcome = outcome_formed r.version r.outcome f.outcome;
}

-- in version 1 each yield has one tuple
formed_one : (e : Entry) → IsFormedEntry 1 e → HasOne e
formed_one entry.Level f = tt
formed_one (entry.Ask number turn call) f = tt
formed_one (entry.Got number tuples values) f = f.1.one refl
formed_one (entry.Value number value) f = tt
formed_one (entry.End number) f = tt
formed_one (entry.Dream uses steps) f = tt
formed_one entry.Nothing f = tt
formed_one entry.Reset f = tt
formed_one (entry.Pick number) f = tt
formed_one (entry.Retire number) f = tt

-- ---- legal transcripts

module _ (v w : ℕ) (task : Task) where
  follows : (before : List Entry) (e : Entry) → HasOne e → MayFollow v task before e → MayFollow w task before e
  follows before entry.Level one m = m
  follows before (entry.Ask number turn call) one m = m
  follows before (entry.Got number tuples values) one m = record {
    waiting = m.waiting;
    request = m.request;
    of = m.of;
    no_cost = m.no_cost;
    right = record {
      some = m.right.some;
      few = m.right.few;
      one = λ e. one;
      test = m.right.test;
      count = m.right.count;
      valid = m.right.valid;
    };
  }
  follows before (entry.Value number value) one m = m
  follows before (entry.End number) one m = m
  follows before (entry.Dream uses steps) one m = m
  follows before entry.Nothing one m = m
  follows before entry.Reset one m = m
  follows before (entry.Pick number) one m = m
  follows before (entry.Retire number) one m = m

  legal_in : (entries : List Entry) → HaveOne entries → IsLegal v task entries → IsLegal w task entries
  legal_in entries one legal k e is = follows (take k entries) e (one k e is) (legal k e is)

  closed_in : (entries : List Entry) → HaveOne entries → IsClosed v task entries → IsClosed w task entries
  closed_in entries one c =
      record { legal = legal_in entries one c.legal; none_open = c.none_open; finished = c.finished }

-- ---- breaches

module _ (b : Bound) (v w : ℕ) (task : Task) where
  begun : (entries : List Entry) → AreBegun (at b v) task entries → AreBegun (at b w) task entries
  begun entries m = (m.0, turns b v w task entries m.0 m.1)

  begins : (before : List Entry) → BeginsTurn (at b v) task before → BeginsTurn (at b w) task before
  begins before m = (m.0, may_begin b v w task before m.1, turns b v w task before _ m.2)

  in_batch : (entries : List Entry) → AreInBatch (at b v) task entries → AreInBatch (at b w) task entries
  in_batch entries m = (m.0, m.1, begun _ m.2)

  has_place : (entries : List Entry) (o : Outcome) → HasPlace (at b v) task entries o → HasPlace (at b w) task entries o
  has_place entries o (inl m) = inl (turns b v w task entries _ m)
  has_place entries o (inr (is, inl m)) = inr (is, inl (turns b v w task entries _ m))
  has_place entries o (inr (is, inr m)) = inr (is, inr (in_batch entries m))

  asks : (before : List Entry) (e : Entry) → MayAsk (at b v) task before e → MayAsk (at b w) task before e
  asks before entry.Level m = m
  asks before (entry.Ask number turn call) m = m
  asks before (entry.Got number tuples values) m = m
  asks before (entry.Value number value) m = m
  asks before (entry.End number) m = m
  asks before (entry.Dream uses steps) m = m
  asks before entry.Nothing m = m
  asks before entry.Reset m = m
  asks before (entry.Pick number) m = m
  asks before (entry.Retire number) m = m

module _ (b : Bound) (v w : ℕ) (task : Task) where
  order : (before : List Entry) (e : Entry) → IsOutOfOrder (at b v) task before e → IsOutOfOrder (at b w) task before e
  order before (entry.Dream uses steps) m = λ x. m (begins b w v task before x.0, x.1)
  order before entry.Nothing m = λ x. m (begins b w v task before x)
  order before entry.Level m = λ x. m (begun b w v task _ x)
  order before (entry.Ask number turn call) m = λ x. m (begun b w v task _ x)
  order before (entry.Got number tuples values) m = λ x. m (begun b w v task _ x)
  order before (entry.Value number value) m = λ x. m (begun b w v task _ x)
  order before (entry.End number) m = λ x. m (begun b w v task _ x)
  order before entry.Reset m = λ x. m (begun b w v task _ x)
  order before (entry.Pick number) m = λ x. m (begun b w v task _ x)
  order before (entry.Retire number) m = λ x. m (begun b w v task _ x)

  false_dream : (before : List Entry) (e : Entry) (offset : ℕ) → IsFalseDream (at b v) task before e offset
      → IsFalseDream (at b w) task before e offset
  false_dream before (entry.Dream uses steps) offset (k, left, wrong) =
      (k, leaves b v w task before k left, wrong_line b v w task before k.tried uses steps offset wrong)
  false_dream before e offset m = absurd m

  false_none : (before : List Entry) (e : Entry) → IsFalseNone (at b v) task before e
      → IsFalseNone (at b w) task before e
  false_none before entry.Nothing (k, left, wrong) = (k, leaves b v w task before k left, wrong)
  false_none before e m = absurd m

  entry_breach : (before : List Entry) (e : Entry) → HasOne e → (offset : ℕ) (k : BreachKind)
      → BreaksEntry (at b v) task before e offset k → BreaksEntry (at b w) task before e offset k
  entry_breach before e one offset kind.Ask (first, is, not) = (first, is, λ m. not (asks b w v task before e m))
  entry_breach before e one offset kind.Answer (first, is, not) =
      (first, is, λ m. not (follows w v task before e one m))
  entry_breach before e one offset kind.Order (first, out) = (first, order before e out)
  entry_breach before e one offset kind.Dream m = false_dream before e offset m
  entry_breach before e one offset kind.Outcome (first, wrong) = (first, false_none before e wrong)
  entry_breach before e one offset k m = absurd m

  module _ (entries : List Entry) (one : HaveOne entries) where
    true_in : (o : Outcome) → IsTrueOutcome (at b v) task entries o → IsTrueOutcome (at b w) task entries o
    true_in (outcome.Plan steps cost from) m = record {
      steps = m.steps;
      shown = m.shown;
      valid = m.valid;
      origins = origins_in entries one v w steps from m.origins;
    }
    true_in outcome.NoPlan m = record { closed = closed_in v w task entries one m.closed; unsolvable = m.unsolvable }
    true_in (outcome.Limit kinds.Calls) m =
        record { calls = m.calls; none_open = m.none_open; instance = m.instance; due = m.due }
    true_in (outcome.Limit kinds.States) m =
        record { many = m.many; closed = λ other. closed_in v w task entries one (m.closed other) }
    true_in (outcome.Limit kinds.Instances) m = m

module _ (b : Bound) (v w : ℕ) (task : Task) (entries : List Entry) (one : HaveOne entries) where
  said_breach : (o : Outcome) (offset : ℕ) (k : BreachKind) → BreaksSaid (at b v) task entries o offset k
      → BreaksSaid (at b w) task entries o offset k
  said_breach (outcome.Plan calls cost from) offset kind.Plan m = m
  said_breach (outcome.Plan calls cost from) offset kind.Cost m = m
  said_breach (outcome.Plan calls cost from) offset kind.From m = record {
    due = m.due;
    origins = origins_in entries one v w calls m.due m.origins;
    place = m.place;
    other = m.other;
    is = m.is;
  }
  said_breach (outcome.Plan calls cost from) offset k m = absurd m
  said_breach outcome.NoPlan offset kind.Outcome (first, wrong) =
      (first, λ m. wrong (true_in b w v task entries one outcome.NoPlan m))
  said_breach outcome.NoPlan offset k m = absurd m
  said_breach (outcome.Limit l) offset kind.Outcome (first, wrong) =
      (first, λ m. wrong (true_in b w v task entries one (outcome.Limit l) m))
  said_breach (outcome.Limit l) offset k m = absurd m

  end_breach : (o : Outcome) (offset : ℕ) (k : BreachKind) → BreaksOutcome (at b v) task entries o offset k
      → BreaksOutcome (at b w) task entries o offset k
  end_breach o offset kind.Order (first, none) = (first, λ m. none (has_place b w v task entries o m))
  end_breach o offset kind.Text m = said_breach o offset kind.Text m
  end_breach o offset kind.Head m = said_breach o offset kind.Head m
  end_breach o offset kind.Ask m = said_breach o offset kind.Ask m
  end_breach o offset kind.Answer m = said_breach o offset kind.Answer m
  end_breach o offset kind.Dream m = said_breach o offset kind.Dream m
  end_breach o offset kind.Plan m = said_breach o offset kind.Plan m
  end_breach o offset kind.Cost m = said_breach o offset kind.Cost m
  end_breach o offset kind.From m = said_breach o offset kind.From m
  end_breach o offset kind.Outcome m = said_breach o offset kind.Outcome m

-- ---- reports

abbrev bound : Task → Report → Bound
bound task r =
    record { mode = r.mode; calls = r.calls; states = r.states; depth = r.depth; pools = map (share_in task) r.pools }

module _ (task : Task) (r : Report) (one : HaveOne r.entries) (v w : ℕ) where
  before_one : (place : ℕ) → HaveOne (take place r.entries)
  before_one place k e is = one k e (from_take r.entries place k e is).1

  head_breach : (line : ℕ) → BreaksHead task (in_version v r) line → BreaksHead task (in_version w r) line
  head_breach line (inl m) = inl m
  head_breach line (inr (inl m)) =
      inr (inl (record { place = m.place; pool = m.pool; there = m.there; wrong = m.wrong; is = m.is }))
  head_breach line (inr (inr m)) = inr (inr m)

  breach : (line : ℕ) (k : BreachKind) → IsBreach task (in_version v r) line k → IsBreach task (in_version w r) line k
  breach line k (inl (is, m)) = inl (is, head_breach line m)
  breach line k (inr (inl m)) = inr (inl (record {
    place = m.place;
    e = m.e;
    there = m.there;
    offset = m.offset;
    wrong = entry_breach (bound task r) v w task (take m.place r.entries) m.e
        (one m.place m.e m.there) m.offset k m.wrong;
    is = m.is;
  }))
  breach line k (inr (inr m)) = inr (inr (record {
    offset = m.offset;
    wrong = end_breach (bound task r) v w task r.entries one r.outcome m.offset k m.wrong;
    is = m.is;
  }))

  claim : (limit : ℕ) (o : Outcome) → IsUndecidedClaim limit (at (bound task r) v) task r.entries o
      → IsUndecidedClaim limit (at (bound task r) w) task r.entries o
  claim limit (outcome.Plan steps cost from) m = m
  claim limit outcome.NoPlan m = m
  claim limit (outcome.Limit kinds.Calls) m = m
  claim limit (outcome.Limit kinds.States) m = m
  claim limit (outcome.Limit kinds.Instances) m = m

  unsure : (limit line : ℕ) → IsUndecidedAt limit task (in_version v r) line
      → IsUndecidedAt limit task (in_version w r) line
  unsure limit line (inl (is, m)) = inl (is, claim limit r.outcome m)
  unsure limit line (inr m) = inr (record {
    place = m.place;
    there = m.there;
    unsure = (
      m.unsure.0,
      leaves (bound task r) v w task (take m.place r.entries) m.unsure.0 m.unsure.1,
      undecided_none (bound task r) v w task (take m.place r.entries) m.unsure.0.tried limit m.unsure.2,
    );
    is = m.is;
  })

  right : IsRightReport task (in_version v r) → IsRightReport task (in_version w r)
  right m = record {
    head = record { limits = m.head.limits; pools = m.head.pools; served = m.head.served };
    stage = m.stage;
    legal = record {
      legal = legal_in v w task r.entries one m.legal.legal;
      turns = turns (bound task r) v w task r.entries m.stage m.legal.turns;
    };
    stands = m.stands;
    true = true_in (bound task r) v w task r.entries one r.outcome m.true;
  }

module _ (limit : ℕ) (task : Task) (r : Report) (one : HaveOne r.entries) (v w : ℕ) where
  said : (x : Verdict) → IsReportVerdict limit task (in_version v r) x → IsReportVerdict limit task (in_version w r) x
  said Valid (m, none) = (right task r one v w m, λ u. none (u.0, unsure task r one w v limit u.0 u.1))
  said (Invalid line k) m = record {
    breach = breach task r one v w line k m.breach;
    first = λ other than b. m.first other than (breach task r one w v other than b);
    decided = λ other u. m.decided other (unsure task r one w v limit other u);
  }
  said Limit (line, u, none) =
      (line, unsure task r one v w limit line u, λ other than b. none other than (breach task r one w v other than b))

  -- what is said of the text of a report is said of the report
  text_said : IsFormed (in_version v r) → IsFormed (in_version w r) → (x : Verdict)
      → IsVerdict limit task (text_of_report (in_version v r)) x
      → IsVerdict limit task (text_of_report (in_version w r)) x
  text_said formed other x (inl (line, is, fault)) = absurd (fault.none (in_version v r, formed, refl))
  text_said formed other x (inr of) =
      let same = same_report of.report (in_version v r) of.formed formed of.spelled in
      inr (record {
        report = in_version w r;
        formed = other;
        spelled = refl;
        said = said x (subst (λ s. IsReportVerdict limit task s x) same of.said);
      })

pub judged_alike : MigratedReportsAreJudgedAlike
judged_alike limit task r formed first = subst (λ s. AreJudgedAlike limit task s (in_version 2 r)) (sym is) alike
  where
    is : r ≡ in_version 1 r
    is i = in_version (first i) r

    formed_first : IsFormed (in_version 1 r)
    formed_first = subst IsFormed is formed

    one : HaveOne r.entries
    one k e at_k = formed_one e (All-contains (IsFormedEntry 1) r.entries e formed_first.entries
        (member_at r.entries k e at_k))

    formed_two : IsFormed (in_version 2 r)
    formed_two = formed_second r formed

    alike : AreJudgedAlike limit task (in_version 1 r) (in_version 2 r)
    alike = record {
      right = (right task r one 1 2, right task r one 2 1);
      breaches = λ line k. (breach task r one 1 2 line k, breach task r one 2 1 line k);
      undecided = λ line. (unsure task r one 1 2 limit line, unsure task r one 2 1 limit line);
      verdicts = λ x. (
        text_said limit task r one 1 2 formed_first formed_two x,
        text_said limit task r one 2 1 formed_two formed_first x,
      );
    }
