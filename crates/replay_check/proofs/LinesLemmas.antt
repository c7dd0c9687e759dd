-- The lines of a report, and where its parts begin.
use Rattle.std.proofs.Common.{◌≡◌, ℕ, zero, suc, ◌+◌, ◌<◌, ◌≤◌, ◌⊎◌, inl, inr, List, [], ◌∷◌, ◌++◌, map, length, refl, sym, ◌∙◌, Some, None, slice_get, arith, codes}
use Rattle.std.proofs.lemmas.Bool.{cases_lt}
use Rattle.std.proofs.lemmas.List.{length-append, length-map}
use Rattle.std.specs.Fmt.{decimal}
use Rattle.std.specs.List.{flat_map}
use Rattle.std.proofs.lemmas.Option.{none-some, slice_get_past}
use Rattle.dream_check.specs.Lines.{IsWrongLine}
use Rattle.task_model.specs.declared.stream.Instance.{Instance}
use Rattle.task_model.specs.declared.task.Task.{Task}
use Rattle.transcript_model.specs.Rounds.{Limits}
use Rattle.report_text.specs.Texts.{do_line, done_line, entry_lines, from_line, head_lines, line, outcome_lines, pool_line, step_line, lines_of_report, use_line}
use Rattle.transcript_model.specs.declared.entry.Call.{Call}
use Rattle.transcript_model.specs.declared.entry.DreamUse.{DreamUse}
use Rattle.transcript_model.specs.declared.entry.Entry.{Entry}
use Rattle.transcript_model.specs.declared.entry.Entry.TheVariants as entry
use Rattle.transcript_model.specs.declared.outcome.LimitKind.{LimitKind}
use Rattle.transcript_model.specs.declared.outcome.Origin.{Origin}
use Rattle.transcript_model.specs.declared.outcome.Outcome.{Outcome}
use Rattle.transcript_model.specs.declared.outcome.Outcome.TheVariants as outcome
use Rattle.transcript_model.specs.declared.report.Report.{Report}
use Rattle.replay_check.specs.Breaches.{BreaksEntry, BreaksFrom, BreaksOutcome, IsFalseDream}
use Rattle.replay_check.specs.Findings.{IsFirstWrong, NoneEarlier}
use Rattle.replay_check.specs.Lines.{outcome_line}
use Rattle.replay_check.specs.declared.verdict.BreachKind.{BreachKind}
use Rattle.replay_check.specs.declared.verdict.BreachKind.TheVariants as kind

-- ---- entries

-- each entry has a line
pub entry_long : (e : Entry) → 1 ≤ length (entry_lines e)
entry_long entry.Level = omega arith
entry_long (entry.Ask number turn call) = omega arith
entry_long (entry.Got number tuples values) = omega arith
entry_long (entry.Value number value) = omega arith
entry_long (entry.End number) = omega arith
entry_long (entry.Dream uses steps) = omega arith
entry_long entry.Nothing = omega arith
entry_long entry.Reset = omega arith
entry_long (entry.Pick number) = omega arith
entry_long (entry.Retire number) = omega arith

-- a dream has one line, and one for each use and each step
pub dream_count : (uses : List DreamUse) (steps : List Call)
    → length (entry_lines (entry.Dream uses steps)) ≡ length uses + length steps + 1
dream_count uses steps =
    let sum = length-append (map use_line uses) (map step_line steps) in
    let first = length-map uses use_line in
    let second = length-map steps step_line in
    omega (arith, sum, first, second)

-- a line of a dream that is wrong is one of its own
pub wrong_line_few : (limits : Limits) (task : Task) (before : List Entry) (tried : List Instance) (uses : List DreamUse)
    (steps : List Call) (offset : ℕ) → IsWrongLine limits task before tried uses steps offset → offset ≤ length uses + length steps
wrong_line_few limits task before tried uses steps offset (inl b) = let within = b.within in let is = b.is in omega (arith, within, is)
wrong_line_few limits task before tried uses steps offset (inr (inl b)) =
    let within = b.within in let is = b.is in omega (arith, within, is)
wrong_line_few limits task before tried uses steps offset (inr (inr (is, none))) = omega (arith, is)

-- a line of an entry that is wrong is one of its own
pub line_within : (limits : Limits) (task : Task) (before : List Entry) (e : Entry) (offset : ℕ) (k : BreachKind)
    → BreaksEntry limits task before e offset k → offset + 1 ≤ length (entry_lines e)
line_within limits task before e offset kind.Ask wrong = let long = entry_long e in omega (arith, wrong.0, long)
line_within limits task before e offset kind.Answer wrong = let long = entry_long e in omega (arith, wrong.0, long)
line_within limits task before e offset kind.Order wrong = let long = entry_long e in omega (arith, wrong.0, long)
line_within limits task before e offset kind.Outcome wrong = let long = entry_long e in omega (arith, wrong.0, long)
line_within limits task before e offset kind.Dream wrong = by e wrong
  where
    by : (d : Entry) → IsFalseDream limits task before d offset → offset + 1 ≤ length (entry_lines d)
    by (entry.Dream uses steps) (k, left, line) =
        let few = wrong_line_few limits task before k.tried uses steps offset line in
        let count = dream_count uses steps in
        omega (arith, few, count)
    by entry.Level none = absurd none
    by (entry.Ask number turn call) none = absurd none
    by (entry.Got number tuples values) none = absurd none
    by (entry.Value number value) none = absurd none
    by (entry.End number) none = absurd none
    by entry.Nothing none = absurd none
    by entry.Reset none = absurd none
    by (entry.Pick number) none = absurd none
    by (entry.Retire number) none = absurd none
line_within limits task before e offset kind.Text wrong = absurd wrong
line_within limits task before e offset kind.Head wrong = absurd wrong
line_within limits task before e offset kind.Plan wrong = absurd wrong
line_within limits task before e offset kind.Cost wrong = absurd wrong
line_within limits task before e offset kind.From wrong = absurd wrong

-- ---- all lines

-- the lines of the head, of the entries, of the outcome, and the last
pub report_count : (r : Report)
    → length (lines_of_report r) ≡ outcome_line r + length (outcome_lines r.version r.outcome)
report_count r =
    let h = head_lines r.version r.mode r.calls r.states r.depth r.pools in
    let es = flat_map entry_lines r.entries in
    let o = outcome_lines r.version r.outcome in
    let first = length-append h (es ++ (o ++ done_line ∷ [])) in
    let second = length-append es (o ++ done_line ∷ []) in
    let third = length-append o (done_line ∷ []) in
    let pools = length-map r.pools pool_line in
    omega (arith, first, second, third, pools)

-- ---- offsets of outcomes

there_or_past : {A : Type 0} (xs : List A) (k : ℕ)
    → ((x : A) × (slice_get xs k ≡ Some x)) ⊎ ((slice_get xs k ≡ None) × (length xs ≤ k))
there_or_past [] k = inr (refl, omega arith)
there_or_past (x ∷ xs) zero = inl (x, refl)
there_or_past (x ∷ xs) (suc k) = one_more x xs k (there_or_past xs k)
  where
    one_more : {A : Type 0} (x : A) (xs : List A) (k : ℕ)
        → ((y : A) × (slice_get xs k ≡ Some y)) ⊎ ((slice_get xs k ≡ None) × (length xs ≤ k))
        → ((y : A) × (slice_get (x ∷ xs) (suc k) ≡ Some y)) ⊎ ((slice_get (x ∷ xs) (suc k) ≡ None) × (length (x ∷ xs) ≤ suc k))
    one_more x xs k (inl r) = inl r
    one_more x xs k (inr r) = inr (r.0, omega (arith, r.1))

module _ (limits : Limits) (limit : ℕ) (task : Task) (entries : List Entry) where
  -- the first origin that differs is at most the one behind those that are shown
  from_few : (calls : List Call) (cost : ℕ) (from : List Origin) (offset : ℕ)
      → NoneEarlier limits limit task entries (outcome.Plan calls cost from) offset kind.From
      → (b : BreaksFrom limits.version entries calls from offset) → b.place ≤ length from
  from_few calls cost from offset first b = by (cases_lt (length from) b.place)
    where
      earlier : length from < b.place → ⊥
      earlier lt = at (there_or_past b.due (length from))
        where
          at : ((o : Origin) × (slice_get b.due (length from) ≡ Some o))
              ⊎ ((slice_get b.due (length from) ≡ None) × (length b.due ≤ length from))
              → ⊥
          at (inl (o, there)) =
              let here : BreaksFrom limits.version entries calls from (length calls + 2 + length from) =
              record {
                due = b.due;
                origins = b.origins;
                place = length from;
                other = λ same. none-some o (sym (slice_get_past from (length from) (omega arith)) ∙ same ∙ there);
                is = refl;
              } in
              let is = b.is in
              first (length calls + 2 + length from) kind.From here (inl (omega (arith, is, lt)))
          at (inr (none, past)) =
              b.other (slice_get_past from b.place (omega (arith, lt)) ∙ sym (slice_get_past b.due b.place (omega (arith, lt, past))))

      by : (length from < b.place) ⊎ (b.place ≤ length from) → b.place ≤ length from
      by (inl lt) = absurd (earlier lt)
      by (inr le) = le

  plan_count : (version cost : ℕ) (calls : List Call) (from : List Origin)
      → length (outcome_lines version (outcome.Plan calls cost from)) ≡ length calls + 2 + length from
  plan_count version cost calls from =
      let last = line (codes "cost") (decimal cost ∷ []) ∷ map (from_line version) from in
      let sum = length-append (map do_line calls) last in
      let steps = length-map calls do_line in
      let origins = length-map from (from_line version) in
      omega (arith, sum, steps, origins)

  plan_few : (calls : List Call) (cost : ℕ) (from : List Origin) (offset : ℕ) (k : BreachKind)
      → NoneEarlier limits limit task entries (outcome.Plan calls cost from) offset k
      → BreaksOutcome limits task entries (outcome.Plan calls cost from) offset k → offset ≤ length calls + 2 + length from
  plan_few calls cost from offset kind.Order first wrong = omega (arith, wrong.0)
  plan_few calls cost from offset kind.Plan first (inl b) =
      let within = b.within in let is = b.is in omega (arith, within, is)
  plan_few calls cost from offset kind.Plan first (inr (is, none)) = omega (arith, is)
  plan_few calls cost from offset kind.Cost first (is, wrong) = omega (arith, is)
  plan_few calls cost from offset kind.From first b =
      let few = from_few calls cost from offset first b in let is = b.is in omega (arith, few, is)
  plan_few calls cost from offset kind.Text first wrong = absurd wrong
  plan_few calls cost from offset kind.Head first wrong = absurd wrong
  plan_few calls cost from offset kind.Ask first wrong = absurd wrong
  plan_few calls cost from offset kind.Answer first wrong = absurd wrong
  plan_few calls cost from offset kind.Dream first wrong = absurd wrong
  plan_few calls cost from offset kind.Outcome first wrong = absurd wrong

  no_plan_few : (offset : ℕ) (k : BreachKind)
      → BreaksOutcome limits task entries outcome.NoPlan offset k → offset ≡ 0
  no_plan_few offset kind.Order wrong = wrong.0
  no_plan_few offset kind.Outcome wrong = wrong.0
  no_plan_few offset kind.Text wrong = absurd wrong
  no_plan_few offset kind.Head wrong = absurd wrong
  no_plan_few offset kind.Ask wrong = absurd wrong
  no_plan_few offset kind.Answer wrong = absurd wrong
  no_plan_few offset kind.Dream wrong = absurd wrong
  no_plan_few offset kind.Plan wrong = absurd wrong
  no_plan_few offset kind.Cost wrong = absurd wrong
  no_plan_few offset kind.From wrong = absurd wrong

  limit_few : (which : LimitKind) (offset : ℕ) (k : BreachKind)
      → BreaksOutcome limits task entries (outcome.Limit which) offset k
      → offset ≡ 0
  limit_few which offset kind.Order wrong = wrong.0
  limit_few which offset kind.Outcome wrong = wrong.0
  limit_few which offset kind.Text wrong = absurd wrong
  limit_few which offset kind.Head wrong = absurd wrong
  limit_few which offset kind.Ask wrong = absurd wrong
  limit_few which offset kind.Answer wrong = absurd wrong
  limit_few which offset kind.Dream wrong = absurd wrong
  limit_few which offset kind.Plan wrong = absurd wrong
  limit_few which offset kind.Cost wrong = absurd wrong
  limit_few which offset kind.From wrong = absurd wrong

  -- the line of an outcome that is told is one of its own
  pub offset_few : (version : ℕ) (o : Outcome) (offset : ℕ) (k : BreachKind)
      → IsFirstWrong limits limit task entries o offset k
      → offset ≤ length (outcome_lines version o)
  offset_few version (outcome.Plan calls cost from) offset k w =
      let few = plan_few calls cost from offset k w.first w.breaks in
      let count = plan_count version cost calls from in
      omega (arith, few, count)
  offset_few version outcome.NoPlan offset k w =
      let is = no_plan_few offset k w.breaks in omega (arith, is)
  offset_few version (outcome.Limit which) offset k w =
      let is = limit_few which offset k w.breaks in omega (arith, is)
