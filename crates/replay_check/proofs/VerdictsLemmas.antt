-- What is said of a report whose head fits, from what is found of its entries and its outcome.
use Rattle.std.proofs.Common.{◌≡◌, ℕ, ◌+◌, ◌^◌, ◌<◌, ◌≤◌, ◌⊎◌, inl, inr, List, take, length, refl, sym, ap, subst, ◌∙◌, Some, slice_get, arith}
use Rattle.std.proofs.lemmas.Bool.{cases_lt}
use Rattle.lemmas.proofs.Members.{get_and_take}
use Rattle.lemmas.proofs.Numbers.{plus_zero}
use Rattle.course_check.specs.Agendas.{mode_place_in}
use Rattle.report_text.specs.Texts.{entry_lines, lines_of_report}
use Rattle.task_model.specs.declared.task.Task.{Task}
use Rattle.transcript_model.specs.Outcomes.{IsTrueOutcome}
use Rattle.transcript_model.specs.Turns.{IsModeLegal}
use Rattle.transcript_model.specs.declared.entry.Entry.{Entry}
use Rattle.transcript_model.specs.declared.entry.Entry.TheVariants as entry
use Rattle.transcript_model.specs.declared.report.Report.{Report}
use Rattle.replay_check.proofs.FindingsLemmas.{not_later}
use Rattle.legal_report.proofs.LinesLemmas.{lines_past, lines_rise}
use Rattle.replay_check.proofs.LinesLemmas.{entry_long, line_within, offset_few, report_count}
use Rattle.replay_check.proofs.PlacesLemmas.{stops}
use Rattle.replay_check.proofs.RightEntriesLemmas.{entry_right}
use Rattle.replay_check.proofs.RightReportLemmas.{head_right}
use Rattle.replay_check.specs.Breaches.{BreaksEntry, BreaksEntries, BreaksOutcome, IsBreach}
use Rattle.replay_check.specs.Findings.{IsRightFinding, NoneEarlier}
use Rattle.replay_check.specs.Heads.{IsFitReportHead, reported_limits}
use Rattle.legal_report.specs.Lines.{line_of}
use Rattle.replay_check.specs.Lines.{Precedes, outcome_line}
use Rattle.replay_check.specs.Standings.{AreBounds, IsStanding, NoLineEarlier, limits_by}
use Rattle.replay_check.specs.Verdicts.{HasOpenNone, IsOpenNone, IsReportVerdict, IsUndecidedAt, IsUndecidedClaim, NonePrecedes}
use Rattle.replay_check.specs.Walks.{IsOpenAt, IsWrongAt}
use Rattle.replay_check.specs.declared.bounds.Bounds.{Bounds}
use Rattle.replay_check.specs.declared.finding.Finding.TheVariants as finding
use Rattle.replay_check.specs.declared.standing.Standing.{Standing}
use Rattle.replay_check.specs.declared.verdict.BreachKind.{BreachKind}
use Rattle.replay_check.specs.declared.verdict.BreachKind.TheVariants as kind
use Rattle.replay_check.specs.declared.verdict.Verdict.TheVariants.{Valid, Invalid, Limit}

-- ---- order

-- the same number of lines further on
further : (base line : ℕ) (k : BreachKind) (other : ℕ) (than : BreachKind)
    → Precedes line k other than
    → Precedes (base + line) k (base + other) than
further base line k other than (inl lt) = inl (omega (arith, lt))
further base line k other than (inr (is, lt)) = inr (ap (λ n. base + n) is, lt)

nearer : (base line : ℕ) (k : BreachKind) (other : ℕ) (than : BreachKind)
    → Precedes (base + line) k (base + other) than
    → Precedes line k other than
nearer base line k other than (inl lt) = inl (omega (arith, lt))
nearer base line k other than (inr (is, lt)) = inr (omega (arith, is), lt)

some_is : (x y : Entry) → Some x ≡ Some y → x ≡ y
some_is x y e = cc

-- ---- a head that fits

module _ (b : Bounds) (r : Report) (bounds : AreBounds b)
    (head : IsFitReportHead b.task.now r) (limits : reported_limits b.task.now r ≡ limits_by b) where
  abbrev task : Task
  task = b.task.now

  -- nothing is wrong with the entries behind which the judge stands
  none_wrong : (es : List Entry) (s : Standing) → IsStanding b es s
      → (place : ℕ) (e : Entry) (offset : ℕ) (k : BreachKind) → slice_get es place ≡ Some e
      → BreaksEntry (limits_by b) task (take place es) e offset k → ⊥
  none_wrong es s stands place e offset k at wrong =
      let t = stops (limits_by b) task es (mode_place_in task es s.course) stands.stands.leads bounds.workers in
      entry_right (limits_by b) task es t.stage bounds.workers stands.stands.knowledge.legal t.turns place e offset k at wrong

  by_bounds : (before : List Entry) (e : Entry) (offset : ℕ) (k : BreachKind)
      → BreaksEntry (reported_limits task r) task before e offset k
      → BreaksEntry (limits_by b) task before e offset k
  by_bounds before e offset k wrong = subst (λ ls. BreaksEntry ls task before e offset k) limits wrong

  open_bounds : (before : List Entry) → IsOpenNone b.limit (reported_limits task r) task before
      → IsOpenNone b.limit (limits_by b) task before
  open_bounds before unsure = subst (λ ls. IsOpenNone b.limit ls task before) limits unsure

  -- ---- an entry at which the judge stops

  module _ (place : ℕ) (s : Standing) (stands : IsStanding b (take place r.entries) s) (e : Entry)
      (there : slice_get r.entries place ≡ Some e) (offset : ℕ) (within : offset + 1 ≤ length (entry_lines e)) where
    pub before_end : line_of r place + offset < outcome_line r
    before_end = let past = lines_past r.entries place e there in omega (arith, past, within)

    -- what stands behind it is later
    before_later : (other : ℕ) → place < other → line_of r place + offset < line_of r other
    before_later other lt = let rise = lines_rise r.entries place other e there lt in omega (arith, rise, within)

    not_before : (x : ℕ) (d : Entry) (line : ℕ) (than : BreachKind) → slice_get r.entries x ≡ Some d
        → BreaksEntry (reported_limits task r) task (take x r.entries) d line than → x < place → ⊥
    not_before x d line than at wrong lt =
        let front = get_and_take r.entries x place d lt at in
        none_wrong (take place r.entries) s stands x d line than front.0
        (subst (λ es. BreaksEntry (limits_by b) task es d line than) (sym front.1) (by_bounds (take x r.entries) d line than wrong))

    not_here : (k : BreachKind) → NoLineEarlier (limits_by b) task (take place r.entries) e offset k
        → (other : ℕ) (than : BreachKind) → (x : BreaksEntries task r other than) → x.place ≡ place
        → Precedes other than (line_of r place + offset) k → ⊥
    not_here k first other than x same earlier =
        first x.offset than
        (subst (λ d. BreaksEntry (limits_by b) task (take place r.entries) d x.offset than) entry_is
        (subst (λ p. BreaksEntry (limits_by b) task (take p r.entries) x.e x.offset than) same
        (by_bounds (take x.place r.entries) x.e x.offset than x.wrong)))
        (nearer (line_of r place) x.offset than offset k
        (subst (λ l. Precedes l than (line_of r place + offset) k) (x.is ∙ ap (λ p. line_of r p + x.offset) same) earlier))
      where
        entry_is : x.e ≡ e
        entry_is = some_is x.e e (sym x.there ∙ ap (slice_get r.entries) same ∙ there)

    -- where no line of it precedes this one, no breach does
    pub stop_first : (k : BreachKind) → NoLineEarlier (limits_by b) task (take place r.entries) e offset k
        → NonePrecedes task r (line_of r place + offset) k
    stop_first k first other than (inl (is, wrong)) earlier = head_right task r other head wrong
    stop_first k first other than (inr (inl x)) earlier =
        by (cases_lt x.place place) (cases_lt place x.place)
      where
        by : (x.place < place) ⊎ (place ≤ x.place) → (place < x.place) ⊎ (x.place ≤ place) → ⊥
        by (inl lt) q = not_before x.place x.e x.offset than x.there x.wrong lt
        by (inr ge) (inl lt) =
            let le = not_later other than (line_of r place + offset) k earlier in
            let later = before_later x.place lt in
            let is = x.is in
            omega (arith, le, later, is)
        by (inr ge) (inr le) = not_here k first other than x (omega (arith, ge, le)) earlier
    stop_first k first other than (inr (inr x)) earlier =
        let le = not_later other than (line_of r place + offset) k earlier in
        let is = x.is in
        let end = before_end in
        omega (arith, le, is, end)

    -- no claim before it is undecided
    pub stop_decided : (k : BreachKind)
        → (e ≡ entry.Nothing → IsOpenNone b.limit (limits_by b) task (take place r.entries) → Precedes offset k 0 kind.Outcome)
        → (other : ℕ) → IsUndecidedAt b.limit task r other → Precedes (line_of r place + offset) k other kind.Outcome
    stop_decided k here other (inl (is, claim)) = inl (let end = before_end in omega (arith, is, end))
    stop_decided k here other (inr u) = by (cases_lt u.place place) (cases_lt place u.place)
      where
        by : (u.place < place) ⊎ (place ≤ u.place) → (place < u.place) ⊎ (u.place ≤ place)
            → Precedes (line_of r place + offset) k other kind.Outcome
        by (inl lt) q =
            let front = get_and_take r.entries u.place place entry.Nothing lt u.there in
            absurd (stands.decided u.place front.0
            (subst (IsOpenNone b.limit (limits_by b) task) (sym front.1) (open_bounds (take u.place r.entries) u.unsure)))
        by (inr ge) (inl lt) = inl (let later = before_later u.place lt in let is = u.is in omega (arith, later, is))
        by (inr ge) (inr le) =
            let same : u.place ≡ place = omega (arith, ge, le) in
            let nothing : e ≡ entry.Nothing =
            some_is e entry.Nothing (sym there ∙ ap (slice_get r.entries) (sym same) ∙ u.there) in
            let unsure = subst (λ p. IsOpenNone b.limit (limits_by b) task (take p r.entries)) same
            (open_bounds (take u.place r.entries) u.unsure) in
            subst (λ l. Precedes (line_of r place + offset) k l kind.Outcome)
            (plus_zero (line_of r place) ∙ sym (u.is ∙ ap (line_of r) same))
            (further (line_of r place) offset k 0 kind.Outcome (here nothing unsure))

  -- ---- an entry that is wrong, or whose claim isn't decided

  module _ (place offset : ℕ) (k : BreachKind) (w : IsWrongAt b r.entries place offset k) where
    within_entry : offset + 1 ≤ length (entry_lines w.e)
    within_entry = line_within (limits_by b) task (take place r.entries) w.e offset k w.is.breaks

    pub entry_found : IsReportVerdict b.limit task r (Invalid (line_of r place + offset) k)
    entry_found =
        record {
          breach = inr (inl (record {
            place = place;
            e = w.e;
            there = w.there;
            offset = offset;
            wrong = subst (λ ls. BreaksEntry ls task (take place r.entries) w.e offset k) (sym limits) w.is.breaks;
            is = refl;
          }));
          first = stop_first place w.before w.standing w.e w.there offset within_entry k w.is.first;
          decided = stop_decided place w.before w.standing w.e w.there offset within_entry k w.is.decided;
        }

    -- the line is one of the report's
    pub entry_line_few : line_of r place + offset < outcome_line r
    entry_line_few = before_end place w.before w.standing w.e w.there offset within_entry

  pub open_found : (place : ℕ) → IsOpenAt b r.entries place → IsReportVerdict b.limit task r Limit
  open_found place w = (
    line_of r place,
    inr (record {
      place = place;
      there = w.there ∙ ap Some w.is.is;
      unsure = subst (λ ls. IsOpenNone b.limit ls task (take place r.entries)) (sym limits) w.is.unsure;
      is = refl;
    }),
    subst (λ l. NonePrecedes task r l kind.Outcome) (plus_zero (line_of r place))
        (stop_first place w.before w.standing w.e w.there 0 (entry_long w.e) kind.Outcome w.is.first),
  )

  -- ---- the outcome

  module _ (s : Standing) (stands : IsStanding b r.entries s) where
    -- the line that is told is one of the report's
    pub end_line_few : (offset : ℕ) (k : BreachKind)
        → IsRightFinding (limits_by b) b.limit task r.entries r.outcome (finding.Breaks offset k)
        → length (lines_of_report r) < 2 ^ 31 → outcome_line r + offset < 2 ^ 31
    end_line_few offset k w short =
        let few = offset_few (limits_by b) b.limit task r.entries r.version r.outcome offset k w in
        let count = report_count r in
        omega (arith, few, count, short)

    -- a breach is one of the outcome
    in_end : (other : ℕ) (than : BreachKind) → IsBreach task r other than
        → (offset : ℕ) × (other ≡ outcome_line r + offset) × BreaksOutcome (limits_by b) task r.entries r.outcome offset than
    in_end other than (inl (is, wrong)) = absurd (head_right task r other head wrong)
    in_end other than (inr (inl x)) =
        absurd (none_wrong r.entries s stands x.place x.e x.offset than x.there
        (by_bounds (take x.place r.entries) x.e x.offset than x.wrong))
    in_end other than (inr (inr x)) = (x.offset, x.is, subst (λ ls. BreaksOutcome ls task r.entries r.outcome x.offset than) limits x.wrong)

    -- nor is any entry's claim undecided
    none_open : {A : Type 0} (other : ℕ) → HasOpenNone b.limit task r other → A
    none_open other u = absurd (stands.decided u.place u.there (open_bounds (take u.place r.entries) u.unsure))

    claim_bounds : IsUndecidedClaim b.limit (reported_limits task r) task r.entries r.outcome
        → IsUndecidedClaim b.limit (limits_by b) task r.entries r.outcome
    claim_bounds claim = subst (λ ls. IsUndecidedClaim b.limit ls task r.entries r.outcome) limits claim

    pub right_end : IsRightFinding (limits_by b) b.limit task r.entries r.outcome finding.Holds
        → IsReportVerdict b.limit task r Valid
    right_end (end, decided) = (
      record {
        head = head;
        stage = end.stage;
        legal =
            subst (λ ls. IsModeLegal ls task r.entries end.stage) (sym limits)
            (record { legal = stands.stands.knowledge.legal; turns = end.turns });
        stands = end.stands;
        true = subst (λ ls. IsTrueOutcome ls task r.entries r.outcome) (sym limits) end.true;
      },
      λ unsure. by unsure.0 unsure.1,
    )
      where
        by : (line : ℕ) → IsUndecidedAt b.limit task r line → ⊥
        by line (inl (is, claim)) = decided (claim_bounds claim)
        by line (inr u) = none_open line u

    none_ahead : (offset : ℕ) (k : BreachKind)
        → NoneEarlier (limits_by b) b.limit task r.entries r.outcome offset k
        → NonePrecedes task r (outcome_line r + offset) k
    none_ahead offset k none other than breach before =
        let at = in_end other than breach in
        none at.0 than at.2
        (nearer (outcome_line r) at.0 than offset k (subst (λ l. Precedes l than (outcome_line r + offset) k) at.1 before))

    pub open_end : IsRightFinding (limits_by b) b.limit task r.entries r.outcome finding.Open
        → IsReportVerdict b.limit task r Limit
    open_end (unsure, none) = (
      outcome_line r,
      inl (refl, subst (λ ls. IsUndecidedClaim b.limit ls task r.entries r.outcome) (sym limits) unsure),
      subst (λ l. NonePrecedes task r l kind.Outcome) (plus_zero (outcome_line r)) (none_ahead 0 kind.Outcome none),
    )

    pub wrong_end : (offset : ℕ) (k : BreachKind)
        → IsRightFinding (limits_by b) b.limit task r.entries r.outcome (finding.Breaks offset k)
        → IsReportVerdict b.limit task r (Invalid (outcome_line r + offset) k)
    wrong_end offset k w =
        record {
          breach = inr (inr (record {
            offset = offset;
            wrong = subst (λ ls. BreaksOutcome ls task r.entries r.outcome offset k) (sym limits) w.breaks;
            is = refl;
          }));
          first = none_ahead offset k w.first;
          decided = λ other unsure. by other unsure;
        }
      where
        by : (other : ℕ) → IsUndecidedAt b.limit task r other → Precedes (outcome_line r + offset) k other kind.Outcome
        by other (inl (is, claim)) =
            subst (λ l. Precedes (outcome_line r + offset) k l kind.Outcome) (plus_zero (outcome_line r) ∙ sym is)
            (further (outcome_line r) offset k 0 kind.Outcome (w.decided (claim_bounds claim)))
        by other (inr u) = none_open other u
