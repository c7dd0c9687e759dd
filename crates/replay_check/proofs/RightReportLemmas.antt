-- A report that is right has no breach.
use Rattle.std.proofs.Common.{ℕ, ◌+◌, inl, inr, List, sym, ap, subst, ◌∙◌, slice_get}
use Rattle.std.proofs.lemmas.Bool.{true≢false}
use Rattle.task_model.specs.declared.task.Task.{Task}
use Rattle.transcript_model.specs.Legal.{IsLegal}
use Rattle.transcript_model.specs.Outcomes.{IsTrueOutcome, IsTruePlan, MayStand}
use Rattle.transcript_model.specs.Rounds.{Limits}
use Rattle.transcript_model.specs.Transcript.{known_of}
use Rattle.transcript_model.specs.Turns.{AreTurnsOf, Stage}
use Rattle.transcript_model.specs.declared.entry.Call.{Call}
use Rattle.transcript_model.specs.declared.entry.Entry.{Entry}
use Rattle.transcript_model.specs.declared.outcome.Origin.{Origin}
use Rattle.transcript_model.specs.declared.outcome.Outcome.{Outcome}
use Rattle.transcript_model.specs.declared.outcome.Outcome.TheVariants as outcome
use Rattle.transcript_model.specs.declared.report.Report.{Report}
use Rattle.replay_check.proofs.HeadsBindLemmas.{pools_work}
use Rattle.replay_check.proofs.OriginsLemmas.{origins_once}
use Rattle.replay_check.proofs.RightEntriesLemmas.{entry_right}
use Rattle.replay_check.specs.Breaches.{BreaksClaim, BreaksHead, BreaksOutcome, BreaksPlan, BreaksSaid, HasPlace, IsBreach}
use Rattle.replay_check.specs.Heads.{IsFitReportHead, reported_limits}
use Rattle.shown_steps.proofs.PlansLemmas.{front_can, plan_can}
use Rattle.shown_steps.specs.Plans.{IsPlan}
use Rattle.replay_check.specs.Verdicts.{IsRightReport}
use Rattle.replay_check.specs.declared.verdict.BreachKind.{BreachKind}
use Rattle.replay_check.specs.declared.verdict.BreachKind.TheVariants as kind

-- ---- the head

pub head_right : (task : Task) (r : Report) (line : ℕ) → IsFitReportHead task r → BreaksHead task r line
    → ⊥
head_right task r line fit (inl (at, wrong)) = true≢false (sym fit.limits ∙ wrong)
head_right task r line fit (inr (inl breaks)) =
    true≢false (sym (fit.pools breaks.place breaks.pool breaks.there) ∙ breaks.wrong)
head_right task r line fit (inr (inr (at, wrong))) = true≢false (sym fit.served ∙ wrong)

-- ---- plans

module _ (limits : Limits) (task : Task) (entries : List Entry) (calls : List Call) (cost : ℕ)
    (from : List Origin) (legal : IsLegal limits.version task entries) (plan : IsTruePlan limits.version task entries calls cost from) where
  is_plan : IsPlan task (known_of task entries) calls cost
  is_plan = record { steps = plan.steps; shown = plan.shown; valid = plan.valid }

  plan_right : (offset : ℕ) (k : BreachKind)
      → BreaksPlan limits task entries calls cost from offset k → ⊥
  plan_right offset kind.Plan (inl breaks) =
      breaks.stuck (front_can task (known_of task entries) calls (breaks.place + 1)
      (plan_can task (known_of task entries) calls cost is_plan))
  plan_right offset kind.Plan (inr (at, none)) = none cost is_plan
  plan_right offset kind.Cost wrong = wrong.1 is_plan
  plan_right offset kind.From breaks =
      breaks.other (ap (λ os. slice_get os breaks.place)
      (origins_once limits.version task entries calls from breaks.due legal plan.origins breaks.origins))
  plan_right offset kind.Text wrong = wrong
  plan_right offset kind.Head wrong = wrong
  plan_right offset kind.Ask wrong = wrong
  plan_right offset kind.Answer wrong = wrong
  plan_right offset kind.Order wrong = wrong
  plan_right offset kind.Dream wrong = wrong
  plan_right offset kind.Outcome wrong = wrong

-- ---- outcomes

claim_right : (limits : Limits) (task : Task) (entries : List Entry) (o : Outcome) (offset : ℕ) (k : BreachKind)
    → IsTrueOutcome limits task entries o → BreaksClaim limits task entries o offset k → ⊥
claim_right limits task entries o offset kind.Outcome holds wrong = wrong.1 holds
claim_right limits task entries o offset kind.Text holds wrong = wrong
claim_right limits task entries o offset kind.Head holds wrong = wrong
claim_right limits task entries o offset kind.Ask holds wrong = wrong
claim_right limits task entries o offset kind.Answer holds wrong = wrong
claim_right limits task entries o offset kind.Order holds wrong = wrong
claim_right limits task entries o offset kind.Dream holds wrong = wrong
claim_right limits task entries o offset kind.Plan holds wrong = wrong
claim_right limits task entries o offset kind.Cost holds wrong = wrong
claim_right limits task entries o offset kind.From holds wrong = wrong

module _ (limits : Limits) (task : Task) (entries : List Entry) (stage : Stage)
    (legal : IsLegal limits.version task entries) (turns : AreTurnsOf limits.mode limits task entries stage) where
  placed : (o : Outcome) → MayStand stage o → HasPlace limits task entries o
  placed o (inl rests) = inl (subst (λ s. AreTurnsOf limits.mode limits task entries s) rests turns)
  placed o (inr (cut, is)) = inr (is, inl (subst (λ s. AreTurnsOf limits.mode limits task entries s) cut turns))

  said_right : (o : Outcome) (offset : ℕ) (k : BreachKind) → IsTrueOutcome limits task entries o
      → BreaksSaid limits task entries o offset k
      → ⊥
  said_right (outcome.Plan calls cost from) offset k holds wrong =
      plan_right limits task entries calls cost from legal holds offset k wrong
  said_right outcome.NoPlan offset k holds wrong =
      claim_right limits task entries outcome.NoPlan offset k holds wrong
  said_right (outcome.Limit kind) offset k holds wrong =
      claim_right limits task entries (outcome.Limit kind) offset k holds wrong

  outcome_right : (o : Outcome) (offset : ℕ) (k : BreachKind) → MayStand stage o
      → IsTrueOutcome limits task entries o
      → BreaksOutcome limits task entries o offset k → ⊥
  outcome_right o offset kind.Order stands holds wrong = wrong.1 (placed o stands)
  outcome_right o offset kind.Text stands holds wrong = said_right o offset kind.Text holds wrong
  outcome_right o offset kind.Head stands holds wrong = said_right o offset kind.Head holds wrong
  outcome_right o offset kind.Ask stands holds wrong = said_right o offset kind.Ask holds wrong
  outcome_right o offset kind.Answer stands holds wrong =
      said_right o offset kind.Answer holds wrong
  outcome_right o offset kind.Dream stands holds wrong = said_right o offset kind.Dream holds wrong
  outcome_right o offset kind.Plan stands holds wrong = said_right o offset kind.Plan holds wrong
  outcome_right o offset kind.Cost stands holds wrong = said_right o offset kind.Cost holds wrong
  outcome_right o offset kind.From stands holds wrong = said_right o offset kind.From holds wrong
  outcome_right o offset kind.Outcome stands holds wrong =
      said_right o offset kind.Outcome holds wrong

-- ---- all

pub no_breach : (task : Task) (r : Report) (line : ℕ) (k : BreachKind) → IsRightReport task r
    → IsBreach task r line k → ⊥
no_breach task r line k right (inl (is, wrong)) = head_right task r line right.head wrong
no_breach task r line k right (inr (inl breaks)) =
    entry_right (reported_limits task r) task r.entries right.stage (pools_work task r.pools right.head.pools)
    right.legal.legal right.legal.turns breaks.place breaks.e breaks.offset k breaks.there breaks.wrong
no_breach task r line k right (inr (inr breaks)) =
    outcome_right (reported_limits task r) task r.entries right.stage right.legal.legal right.legal.turns r.outcome breaks.offset k
    right.stands
    right.true breaks.wrong
