-- What is found of an outcome, from what is said of its plan or of its claim.
use Rattle.std.proofs.Common.{◌≡◌, ℕ, ◌+◌, ◌<◌, ◌≤◌, inl, inr, List, take, length, refl, subst, slice_get, arith}
use Rattle.std.proofs.lemmas.List.{take-take}
use Rattle.task_model.specs.declared.task.Task.{Task}
use Rattle.transcript_model.specs.Legal.{IsLegal}
use Rattle.transcript_model.specs.Outcomes.{MayStand}
use Rattle.transcript_model.specs.Rounds.{Limits}
use Rattle.transcript_model.specs.Transcript.{known_of}
use Rattle.transcript_model.specs.Turns.{AreTurnsOf, Stage}
use Rattle.transcript_model.specs.declared.entry.Call.{Call}
use Rattle.transcript_model.specs.declared.entry.Entry.{Entry}
use Rattle.transcript_model.specs.declared.outcome.Origin.{Origin}
use Rattle.transcript_model.specs.declared.outcome.Outcome.{Outcome}
use Rattle.transcript_model.specs.declared.outcome.Outcome.TheVariants as outcome
use Rattle.replay_check.proofs.OriginsLemmas.{origins_once}
use Rattle.replay_check.specs.Breaches.{BreaksClaim, BreaksOutcome, BreaksPlan, BreaksSaid, BreaksStep, HasPlace}
use Rattle.replay_check.specs.Claims.{IsJudged}
use Rattle.replay_check.specs.Findings.{IsClaim, IsRightFinding, IsEndPlaced}
use Rattle.replay_check.specs.Kinds.{breach_number}
use Rattle.replay_check.specs.Lines.{Precedes}
use Rattle.shown_steps.proofs.PlansLemmas.{front_can, plan_can}
use Rattle.shown_steps.specs.Plans.{CanRun, IsPlan}
use Rattle.replay_check.specs.Plans.{DiffersAt, IsPlanned}
use Rattle.shown_steps.specs.Runs.{StopsAtStep}
use Rattle.replay_check.specs.declared.claims.Claim.TheVariants as claim
use Rattle.replay_check.specs.declared.finding.Finding.TheVariants as finding
use Rattle.replay_check.specs.declared.plan.Planned.TheVariants as planned
use Rattle.replay_check.specs.declared.verdict.BreachKind.{BreachKind}
use Rattle.replay_check.specs.declared.verdict.BreachKind.TheVariants as kind

-- ---- order

-- what precedes a line is in no later one
pub not_later : (line : ℕ) (k : BreachKind) (other : ℕ) (than : BreachKind)
    → Precedes line k other than → line ≤ other
not_later line k other than (inl lt) = omega arith
not_later line k other than (inr (is, lt)) = omega (arith, is)

-- what precedes another of its line is of a smaller kind
pub smaller : (line : ℕ) (k than : BreachKind) → Precedes line k line than
    → breach_number k < breach_number than
smaller line k than (inl lt) = absurd (omega arith)
smaller line k than (inr (is, lt)) = lt

-- ---- plans that run

module _ (task : Task) (entries : List Entry) where
  -- no step of these is stuck
  none_stuck : (calls : List Call) (n offset : ℕ) → CanRun task (known_of task entries) (take n calls)
      → (b : BreaksStep task entries calls offset)
      → b.place + 1 ≤ n → ⊥
  none_stuck calls n offset can b le =
      b.stuck (subst (CanRun task (known_of task entries)) (take-take (b.place + 1) n calls le)
      (front_can task (known_of task entries) (take n calls) (b.place + 1) can))

  none_stuck_in : (calls : List Call) (offset : ℕ) → CanRun task (known_of task entries) calls
      → BreaksStep task entries calls offset → ⊥
  none_stuck_in calls offset can b = b.stuck (front_can task (known_of task entries) calls (b.place + 1) can)

-- ---- plans

module _ (limits : Limits) (limit : ℕ) (task : Task) (entries : List Entry) (calls : List Call) (cost : ℕ) (from : List Origin)
    (legal : IsLegal limits.version task entries) (placed : IsEndPlaced limits limit task entries (outcome.Plan calls cost from)) where
  -- of a plan that stands in its place only the plan can be wrong
  said : (offset : ℕ) (k : BreachKind)
      → BreaksOutcome limits task entries (outcome.Plan calls cost from) offset k
      → BreaksPlan limits task entries calls cost from offset k
  said offset kind.Order wrong = absurd (wrong.1 placed.place)
  said offset kind.Text wrong = wrong
  said offset kind.Head wrong = wrong
  said offset kind.Ask wrong = wrong
  said offset kind.Answer wrong = wrong
  said offset kind.Dream wrong = wrong
  said offset kind.Plan wrong = wrong
  said offset kind.Cost wrong = wrong
  said offset kind.From wrong = wrong
  said offset kind.Outcome wrong = wrong

  stuck_first : (place other : ℕ) (than : BreachKind) → StopsAtStep task (known_of task entries) calls place
      → BreaksPlan limits task entries calls cost from other than → Precedes other than (place + 1) kind.Plan → ⊥
  stuck_first place other kind.Plan stops (inl b) before =
      none_stuck task entries calls place other stops.runs b (earlier before)
    where
      earlier : Precedes other kind.Plan (place + 1) kind.Plan → b.place + 1 ≤ place
      earlier (inl lt) = omega (arith, lt, b.is)
      earlier (inr (is, lt)) = absurd (omega (arith, lt))
  stuck_first place other kind.Plan stops (inr (is, none)) before =
      let le = not_later other kind.Plan (place + 1) kind.Plan before in let within = stops.within in omega (arith, within, is, le)
  stuck_first place other kind.Cost stops (is, wrong) before =
      let le = not_later other kind.Cost (place + 1) kind.Plan before in let within = stops.within in omega (arith, within, is, le)
  stuck_first place other kind.From stops b before =
      let le = not_later other kind.From (place + 1) kind.Plan before in
      let within = stops.within in let is = b.is in omega (arith, within, is, le)
  stuck_first place other kind.Text stops wrong before = wrong
  stuck_first place other kind.Head stops wrong before = wrong
  stuck_first place other kind.Ask stops wrong before = wrong
  stuck_first place other kind.Answer stops wrong before = wrong
  stuck_first place other kind.Order stops wrong before = wrong
  stuck_first place other kind.Dream stops wrong before = wrong
  stuck_first place other kind.Outcome stops wrong before = wrong

  goal_first : (other : ℕ) (than : BreachKind) → CanRun task (known_of task entries) calls
      → BreaksPlan limits task entries calls cost from other than
      → Precedes other than (length calls + 1) kind.Plan → ⊥
  goal_first other kind.Plan can (inl b) before = none_stuck_in task entries calls other can b
  goal_first other kind.Plan can (inr (is, none)) (inl lt) = omega (arith, is, lt)
  goal_first other kind.Plan can (inr (is, none)) (inr (at, lt)) = omega (arith, lt)
  goal_first other kind.Cost can (is, wrong) (inl lt) = omega (arith, is, lt)
  goal_first other kind.Cost can (is, wrong) (inr (at, lt)) = omega (arith, lt)
  goal_first other kind.From can b before =
      let le = not_later other kind.From (length calls + 1) kind.Plan before in let is = b.is in omega (arith, is, le)
  goal_first other kind.Text can wrong before = wrong
  goal_first other kind.Head can wrong before = wrong
  goal_first other kind.Ask can wrong before = wrong
  goal_first other kind.Answer can wrong before = wrong
  goal_first other kind.Order can wrong before = wrong
  goal_first other kind.Dream can wrong before = wrong
  goal_first other kind.Outcome can wrong before = wrong

  cost_first : (other true_cost : ℕ) (than : BreachKind) → IsPlan task (known_of task entries) calls true_cost
      → BreaksPlan limits task entries calls cost from other than → Precedes other than (length calls + 1) kind.Cost → ⊥
  cost_first other true_cost kind.Plan plan (inl b) before =
      none_stuck_in task entries calls other (plan_can task (known_of task entries) calls true_cost plan) b
  cost_first other true_cost kind.Plan plan (inr (is, none)) before = none true_cost plan
  cost_first other true_cost kind.Cost plan (is, wrong) (inl lt) = omega (arith, is, lt)
  cost_first other true_cost kind.Cost plan (is, wrong) (inr (at, lt)) = omega (arith, lt)
  cost_first other true_cost kind.From plan b before =
      let le = not_later other kind.From (length calls + 1) kind.Cost before in let is = b.is in omega (arith, is, le)
  cost_first other true_cost kind.Text plan wrong before = wrong
  cost_first other true_cost kind.Head plan wrong before = wrong
  cost_first other true_cost kind.Ask plan wrong before = wrong
  cost_first other true_cost kind.Answer plan wrong before = wrong
  cost_first other true_cost kind.Order plan wrong before = wrong
  cost_first other true_cost kind.Dream plan wrong before = wrong
  cost_first other true_cost kind.Outcome plan wrong before = wrong

  from_first : (place other : ℕ) (than : BreachKind) → IsPlan task (known_of task entries) calls cost
      → DiffersAt limits.version entries calls from place
      → BreaksPlan limits task entries calls cost from other than → Precedes other than (length calls + 2 + place) kind.From → ⊥
  from_first place other kind.Plan plan differs (inl b) before =
      none_stuck_in task entries calls other (plan_can task (known_of task entries) calls cost plan) b
  from_first place other kind.Plan plan differs (inr (is, none)) before = none cost plan
  from_first place other kind.Cost plan differs (is, wrong) before = wrong plan
  from_first place other kind.From plan differs b before =
      b.other (subst (λ due. slice_get from b.place ≡ slice_get due b.place)
      (origins_once limits.version task entries calls differs.due b.due legal differs.origins b.origins)
      (differs.before b.place (earlier before)))
    where
      earlier : Precedes other kind.From (length calls + 2 + place) kind.From → b.place < place
      earlier (inl lt) = omega (arith, lt, b.is)
      earlier (inr (is, lt)) = absurd (omega (arith, lt))
  from_first place other kind.Text plan differs wrong before = wrong
  from_first place other kind.Head plan differs wrong before = wrong
  from_first place other kind.Ask plan differs wrong before = wrong
  from_first place other kind.Answer plan differs wrong before = wrong
  from_first place other kind.Order plan differs wrong before = wrong
  from_first place other kind.Dream plan differs wrong before = wrong
  from_first place other kind.Outcome plan differs wrong before = wrong

  pub right_found : IsPlanned limits.version task entries calls cost from planned.Right
      → IsRightFinding limits limit task entries (outcome.Plan calls cost from) finding.Holds
  right_found plan = (placed.stands plan, λ none. none)

  pub stuck_found : (place : ℕ) → StopsAtStep task (known_of task entries) calls place
      → IsRightFinding limits limit task entries (outcome.Plan calls cost from) (finding.Breaks (place + 1) kind.Plan)
  stuck_found place stops =
      record {
        breaks =
            inl (record { place = place; within = stops.within; stuck = stops.stuck; is = refl });
        first = λ other than wrong. stuck_first place other than stops (said other than wrong);
        decided = λ none. absurd none;
      }

  pub no_goal_found : (n : ℕ) → length calls ≡ n
      → IsPlanned limits.version task entries calls cost from planned.NoGoal
      → IsRightFinding limits limit task entries (outcome.Plan calls cost from) (finding.Breaks (n + 1) kind.Plan)
  no_goal_found n is missed =
      subst (λ m. IsRightFinding limits limit task entries (outcome.Plan calls cost from) (finding.Breaks (m + 1) kind.Plan)) is
      (record {
        breaks = inr (refl, missed.1);
        first = λ other than wrong. goal_first other than missed.0 (said other than wrong);
        decided = λ none. absurd none;
      })

  pub wrong_cost_found : (n : ℕ) → length calls ≡ n
      → IsPlanned limits.version task entries calls cost from planned.WrongCost
      → IsRightFinding limits limit task entries (outcome.Plan calls cost from) (finding.Breaks (n + 1) kind.Cost)
  wrong_cost_found n is wrong_cost =
      subst (λ m. IsRightFinding limits limit task entries (outcome.Plan calls cost from) (finding.Breaks (m + 1) kind.Cost)) is
      (record {
        breaks = (refl, wrong_cost.1);
        first = λ other than wrong.
            cost_first other wrong_cost.0.0 than wrong_cost.0.1 (said other than wrong);
        decided = λ none. absurd none;
      })

  pub wrong_origin_found : (n place : ℕ) → length calls ≡ n
      → IsPlanned limits.version task entries calls cost from (planned.WrongOrigin place)
      → IsRightFinding limits limit task entries (outcome.Plan calls cost from) (finding.Breaks (n + 2 + place) kind.From)
  wrong_origin_found n place is differs =
      subst (λ m. IsRightFinding limits limit task entries (outcome.Plan calls cost from) (finding.Breaks (m + 2 + place) kind.From)) is
      (record {
        breaks = record { due = differs.1.due; origins = differs.1.origins; place = place; other = differs.1.other; is = refl };
        first = λ other than wrong. from_first place other than differs.0 differs.1 (said other than wrong);
        decided = λ none. absurd none;
      })

-- ---- claims

module _ (limits : Limits) (limit : ℕ) (task : Task) (entries : List Entry) where
  as_claim : (o : Outcome) (offset : ℕ) (k : BreachKind) → IsClaim o
      → BreaksSaid limits task entries o offset k
      → BreaksClaim limits task entries o offset k
  as_claim (outcome.Plan calls cost from) offset k is wrong = absurd is
  as_claim outcome.NoPlan offset k is wrong = wrong
  as_claim (outcome.Limit which) offset k is wrong = wrong

  as_said : (o : Outcome) (offset : ℕ) (k : BreachKind) → IsClaim o
      → BreaksClaim limits task entries o offset k
      → BreaksSaid limits task entries o offset k
  as_said (outcome.Plan calls cost from) offset k is wrong = absurd is
  as_said outcome.NoPlan offset k is wrong = wrong
  as_said (outcome.Limit which) offset k is wrong = wrong

  -- what is wrong with a claim in its place is what it says
  only_said : (o : Outcome) (offset : ℕ) (k : BreachKind) → IsEndPlaced limits limit task entries o
      → BreaksOutcome limits task entries o offset k → BreaksSaid limits task entries o offset k
  only_said o offset kind.Order placed wrong = absurd (wrong.1 placed.place)
  only_said o offset kind.Text placed wrong = wrong
  only_said o offset kind.Head placed wrong = wrong
  only_said o offset kind.Ask placed wrong = wrong
  only_said o offset kind.Answer placed wrong = wrong
  only_said o offset kind.Dream placed wrong = wrong
  only_said o offset kind.Plan placed wrong = wrong
  only_said o offset kind.Cost placed wrong = wrong
  only_said o offset kind.From placed wrong = wrong
  only_said o offset kind.Outcome placed wrong = wrong

  last_of_all : (o : Outcome) (offset : ℕ) (k : BreachKind)
      → BreaksClaim limits task entries o offset k → Precedes offset k 0 kind.Outcome
      → ⊥
  last_of_all o offset kind.Outcome wrong (inl lt) = omega (arith, lt)
  last_of_all o offset kind.Outcome wrong (inr (is, lt)) = omega (arith, lt)
  last_of_all o offset kind.Order wrong before = wrong
  last_of_all o offset kind.Text wrong before = wrong
  last_of_all o offset kind.Head wrong before = wrong
  last_of_all o offset kind.Ask wrong before = wrong
  last_of_all o offset kind.Answer wrong before = wrong
  last_of_all o offset kind.Dream wrong before = wrong
  last_of_all o offset kind.Plan wrong before = wrong
  last_of_all o offset kind.Cost wrong before = wrong
  last_of_all o offset kind.From wrong before = wrong

  module _ (o : Outcome) (is : IsClaim o) (placed : IsEndPlaced limits limit task entries o) where
    none_earlier : (other : ℕ) (than : BreachKind) → BreaksOutcome limits task entries o other than
        → ¬ (Precedes other than 0 kind.Outcome)
    none_earlier other than wrong =
        last_of_all o other than (as_claim o other than is (only_said o other than placed wrong))

    pub true_found : IsJudged limits limit task entries o claim.True
        → IsRightFinding limits limit task entries o finding.Holds
    true_found judged = (placed.stands judged.0, judged.1)

    pub false_found : IsJudged limits limit task entries o claim.False
        → IsRightFinding limits limit task entries o (finding.Breaks 0 kind.Outcome)
    false_found judged =
        record { breaks = as_said o 0 kind.Outcome is (refl, judged.0); first = none_earlier; decided = λ unsure. absurd (judged.1 unsure) }

    pub open_found : IsJudged limits limit task entries o claim.Open
        → IsRightFinding limits limit task entries o finding.Open
    open_found judged = (judged, none_earlier)

-- ---- places

module _ (limits : Limits) (limit : ℕ) (task : Task) (entries : List Entry) (o : Outcome) where
  -- an outcome that may stand at the stage of the entries
  pub placed_at : (stage : Stage) → AreTurnsOf limits.mode limits task entries stage
      → MayStand stage o
      → IsEndPlaced limits limit task entries o
  placed_at stage turns stands =
      record { place = there stands; stands = λ said. record { stage = stage; turns = turns; stands = stands; true = said } }
    where
      there : MayStand stage o → HasPlace limits task entries o
      there (inl rests) = inl (subst (λ s. AreTurnsOf limits.mode limits task entries s) rests turns)
      there (inr (cut, is)) = inr (is, inl (subst (λ s. AreTurnsOf limits.mode limits task entries s) cut turns))

  before_order : (offset : ℕ) (k : BreachKind) → BreaksOutcome limits task entries o offset k
      → Precedes offset k 0 kind.Order → ⊥
  before_order offset k wrong (inl lt) = omega (arith, lt)
  before_order offset k wrong (inr (at, lt)) = small o k wrong lt
    where
      small : (p : Outcome) (j : BreachKind) → BreaksOutcome limits task entries p offset j
          → breach_number j < 5 → ⊥
      small (outcome.Plan calls cost from) kind.Text bad few = bad
      small (outcome.Plan calls cost from) kind.Head bad few = bad
      small (outcome.Plan calls cost from) kind.Ask bad few = bad
      small (outcome.Plan calls cost from) kind.Answer bad few = bad
      small outcome.NoPlan kind.Text bad few = bad
      small outcome.NoPlan kind.Head bad few = bad
      small outcome.NoPlan kind.Ask bad few = bad
      small outcome.NoPlan kind.Answer bad few = bad
      small (outcome.Limit which) kind.Text bad few = bad
      small (outcome.Limit which) kind.Head bad few = bad
      small (outcome.Limit which) kind.Ask bad few = bad
      small (outcome.Limit which) kind.Answer bad few = bad
      small p kind.Order bad few = omega (arith, few)
      small p kind.Dream bad few = omega (arith, few)
      small p kind.Plan bad few = omega (arith, few)
      small p kind.Cost bad few = omega (arith, few)
      small p kind.From bad few = omega (arith, few)
      small p kind.Outcome bad few = omega (arith, few)

  -- an outcome that may not stand here
  pub misplaced_found : ¬ (HasPlace limits task entries o)
      → IsRightFinding limits limit task entries o (finding.Breaks 0 kind.Order)
  misplaced_found wrong = record { breaks = (refl, wrong); first = before_order; decided = λ unsure. inr (refl, omega arith) }
