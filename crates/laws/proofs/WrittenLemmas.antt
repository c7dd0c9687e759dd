-- The report that a run writes is right, and its claim is decided.
use Rattle.std.proofs.Common.{◌≡◌, ℕ, ◌≤◌, inl, inr, List, refl, sym, subst, arith}
use Rattle.turn_run.specs.Reports.{IsRun, whole_text}
use Rattle.turn_run.specs.Turns.{IsSure}
use Rattle.report_text.specs.Forms.{IsFormed}
use Rattle.replay_check.proofs.OneVerdictLemmas.{right_valid}
use Rattle.replay_check.specs.Heads.{reported_limits}
use Rattle.replay_check.specs.Verdicts.{IsRightReport, IsUndecidedAt, IsUndecidedClaim, IsVerdict}
use Rattle.replay_check.specs.declared.verdict.Verdict.{Verdict}
use Rattle.replay_check.specs.declared.verdict.Verdict.TheVariants.{Valid}
use Rattle.task_model.specs.Fit.{IsFit}
use Rattle.task_model.specs.Plans.{IsReached, MoreThan}
use Rattle.task_model.specs.State.{Atoms}
use Rattle.task_model.specs.declared.task.Task.{Task}
use Rattle.transcript_model.specs.Outcomes.{IsTrueOutcome}
use Rattle.transcript_model.specs.Rounds.{Limits}
use Rattle.transcript_model.specs.Transcript.{known_of}
use Rattle.transcript_model.specs.Turns.{AreTurnsOf}
use Rattle.transcript_model.specs.declared.entry.Entry.{Entry}
use Rattle.transcript_model.specs.declared.head.Head.{Head}
use Rattle.transcript_model.specs.declared.outcome.LimitKind.TheVariants.{Calls, States, Instances}
use Rattle.transcript_model.specs.declared.outcome.Outcome.{Outcome}
use Rattle.transcript_model.specs.declared.outcome.Outcome.TheVariants as outcome
use Rattle.laws.proofs.WrittenHeadLemmas.{head_fits, limits_same}
use Rattle.laws.proofs.RunFormedReportLemmas.{formed}
use Rattle.laws.specs.Reports.{IsHeadOfReports}
use Rattle.turn_run.proofs.ReportsLemmas.{whole_is}
use Rattle.turn_run.specs.Reports.{report_of}

-- ---- what is decided

fewer : (P : Atoms → Type 0) (few many : ℕ) → few ≤ many → MoreThan many P → MoreThan few P
fewer P few many le more = (more.0, omega (arith, le, more.1), more.2, more.3)

claim_decided : (limit : ℕ) (task : Task) (head : Head) (entries : List Entry) (o : Outcome)
    → IsSure head task entries o → head.states ≤ limit
    → ¬ (IsUndecidedClaim limit (reported_limits task (report_of task head entries o)) task entries o)
claim_decided limit task head entries (outcome.Plan calls cost from) sure le unsure = unsure
claim_decided limit task head entries outcome.NoPlan sure le unsure =
    sure.within refl (fewer (IsReached task (known_of task entries)) head.states limit le unsure.1)
claim_decided limit task head entries (outcome.Limit Calls) sure le unsure = unsure
claim_decided limit task head entries (outcome.Limit States) sure le unsure = omega (arith, le, unsure.0)
claim_decided limit task head entries (outcome.Limit Instances) sure le unsure = unsure

-- where as many states are searched as the run searched, no claim is undecided
decided : (limit : ℕ) (task : Task) (head : Head) (entries : List Entry) (o : Outcome)
    → IsSure head task entries o → head.states ≤ limit → (line : ℕ)
    → ¬ (IsUndecidedAt limit task (report_of task head entries o) line)
decided limit task head entries o sure le line (inl (is, claim)) = claim_decided limit task head entries o sure le claim
decided limit task head entries o sure le line (inr u) = let below = u.unsure.2.below in omega (arith, le, below)

module _ (task : Task) (head : Head) (entries : List Entry) (o : Outcome) (fit : IsFit task)
    (can : IsHeadOfReports task head) (run : IsRun task head entries o) where
  -- all that it says is right
  right : IsRightReport task (report_of task head entries o)
  right =
      let limits = limits_same task fit head entries o can.runnable.streams in
      record {
        head = head_fits task fit head can entries o;
        stage = run.stage;
        legal = record {
          legal = run.legal;
          turns = subst (λ (l : Limits). AreTurnsOf l.mode l task entries run.stage) (sym limits) run.turns;
        };
        stands = run.stands;
        true = subst (λ (l : Limits). IsTrueOutcome l task entries o) (sym limits) run.sure.holds;
      }

  -- it has the stated forms
  pub written_formed : IsFormed (report_of task head entries o)
  written_formed = formed task head entries o fit can run

  pub written_valid : (limit : ℕ) (v : Verdict) → head.states ≤ limit
      → IsVerdict limit task (whole_text task head entries o) v → v ≡ Valid
  written_valid limit v le is =
      right_valid limit task (report_of task head entries o) v written_formed right
      (λ unsure. decided limit task head entries o run.sure le unsure.0 unsure.1)
      (subst (λ bytes. IsVerdict limit task bytes v) (whole_is task head entries o) is)
