-- What is said of a report whose head breaks a rule.
use Rattle.std.proofs.Common.{ℕ, ◌<◌, ◌≤◌, ◌⊎◌, inl, inr, List, take, refl, subst, arith}
use Rattle.std.proofs.lemmas.Bool.{cases_lt}
use Rattle.task_model.specs.declared.task.Task.{Task}
use Rattle.transcript_model.specs.Rounds.{Limits}
use Rattle.transcript_model.specs.declared.entry.Entry.{Entry}
use Rattle.transcript_model.specs.declared.outcome.Outcome.{Outcome}
use Rattle.transcript_model.specs.declared.outcome.Outcome.TheVariants as outcome
use Rattle.transcript_model.specs.declared.report.Report.{Report}
use Rattle.replay_check.specs.Breaches.{BreaksEntry, BreaksEntries, BreaksEnd, BreaksOutcome}
use Rattle.replay_check.specs.Headed.{IsHeaded}
use Rattle.replay_check.specs.Heads.{reported_limits}
use Rattle.replay_check.specs.Kinds.{breach_number}
use Rattle.legal_report.specs.Lines.{line_behind_pools}
use Rattle.replay_check.specs.Lines.{Precedes}
use Rattle.replay_check.specs.Verdicts.{IsReportVerdict, IsUndecidedAt, NonePrecedes}
use Rattle.replay_check.specs.declared.head.Headed.TheVariants as headed
use Rattle.replay_check.specs.declared.verdict.BreachKind.{BreachKind}
use Rattle.replay_check.specs.declared.verdict.BreachKind.TheVariants as kind
use Rattle.replay_check.specs.declared.verdict.Verdict.TheVariants.{Invalid}

-- ---- kinds

-- an entry is wrong in none of the first two ways
entry_kind : (limits : Limits) (task : Task) (before : List Entry) (e : Entry) (offset : ℕ) (k : BreachKind)
    → BreaksEntry limits task before e offset k
    → 3 ≤ breach_number k
entry_kind limits task before e offset kind.Text wrong = absurd wrong
entry_kind limits task before e offset kind.Head wrong = absurd wrong
entry_kind limits task before e offset kind.Ask wrong = omega arith
entry_kind limits task before e offset kind.Answer wrong = omega arith
entry_kind limits task before e offset kind.Order wrong = omega arith
entry_kind limits task before e offset kind.Dream wrong = omega arith
entry_kind limits task before e offset kind.Plan wrong = omega arith
entry_kind limits task before e offset kind.Cost wrong = omega arith
entry_kind limits task before e offset kind.From wrong = omega arith
entry_kind limits task before e offset kind.Outcome wrong = omega arith

-- and so is an outcome
outcome_kind : (limits : Limits) (task : Task) (entries : List Entry) (o : Outcome) (offset : ℕ) (k : BreachKind)
    → BreaksOutcome limits task entries o offset k → 3 ≤ breach_number k
outcome_kind limits task entries (outcome.Plan calls cost from) offset kind.Text wrong =
    absurd wrong
outcome_kind limits task entries outcome.NoPlan offset kind.Text wrong = absurd wrong
outcome_kind limits task entries (outcome.Limit which) offset kind.Text wrong = absurd wrong
outcome_kind limits task entries (outcome.Plan calls cost from) offset kind.Head wrong =
    absurd wrong
outcome_kind limits task entries outcome.NoPlan offset kind.Head wrong = absurd wrong
outcome_kind limits task entries (outcome.Limit which) offset kind.Head wrong = absurd wrong
outcome_kind limits task entries o offset kind.Ask wrong = omega arith
outcome_kind limits task entries o offset kind.Answer wrong = omega arith
outcome_kind limits task entries o offset kind.Order wrong = omega arith
outcome_kind limits task entries o offset kind.Dream wrong = omega arith
outcome_kind limits task entries o offset kind.Plan wrong = omega arith
outcome_kind limits task entries o offset kind.Cost wrong = omega arith
outcome_kind limits task entries o offset kind.From wrong = omega arith
outcome_kind limits task entries o offset kind.Outcome wrong = omega arith

-- ---- a head that breaks a rule

module _ (limit : ℕ) (task : Task) (r : Report) (line : ℕ) (h : IsHeaded task r (headed.Breaks line)) where
  not_in_entries : (other : ℕ) (than : BreachKind) → BreaksEntries task r other than
      → Precedes other than line kind.Head → ⊥
  not_in_entries other than b (inl lt) =
      let is = b.is in let upto = h.1 in omega (arith, is, upto, lt)
  not_in_entries other than b (inr (same, lt)) =
      let least = entry_kind (reported_limits task r) task (take b.place r.entries) b.e b.offset than b.wrong in
      omega (arith, least, lt)

  not_in_end : (other : ℕ) (than : BreachKind) → BreaksEnd task r other than
      → Precedes other than line kind.Head → ⊥
  not_in_end other than b (inl lt) = let is = b.is in let upto = h.1 in omega (arith, is, upto, lt)
  not_in_end other than b (inr (same, lt)) =
      let least = outcome_kind (reported_limits task r) task r.entries r.outcome b.offset than b.wrong in
      omega (arith, least, lt)

  head_first : NonePrecedes task r line kind.Head
  head_first other than (inl (is, wrong)) before =
      let same : Precedes other kind.Head line kind.Head = subst (λ k. Precedes other k line kind.Head) is before in
      not_smaller (h.2 other wrong) same
    where
      not_smaller : line ≤ other → Precedes other kind.Head line kind.Head → ⊥
      not_smaller le (inl lt) = omega (arith, le, lt)
      not_smaller le (inr (same, lt)) = omega (arith, lt)
  head_first other than (inr (inl b)) before = not_in_entries other than b before
  head_first other than (inr (inr b)) before = not_in_end other than b before

  -- no claim stands before the entries
  undecided_behind : (other : ℕ) → IsUndecidedAt limit task r other → line_behind_pools r ≤ other
  undecided_behind other (inl (is, claim)) = omega (arith, is)
  undecided_behind other (inr u) = let is = u.is in omega (arith, is)

  pub head_found : IsReportVerdict limit task r (Invalid line kind.Head)
  head_found =
      record {
        breach = inl (refl, h.0);
        first = head_first;
        decided = λ other unsure. ahead other (undecided_behind other unsure) (cases_lt line other);
      }
    where
      ahead : (other : ℕ) → line_behind_pools r ≤ other → (line < other) ⊎ (other ≤ line)
          → Precedes line kind.Head other kind.Outcome
      ahead other behind (inl lt) = inl lt
      ahead other behind (inr le) = let upto = h.1 in inr (omega (arith, le, upto, behind), omega arith)
