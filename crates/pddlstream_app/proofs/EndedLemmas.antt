-- A run that has an outcome, or whose command answers, has no fault.
use Rattle.std.proofs.Common.{◌≡◌, ℕ, ◌≤◌, List, Bool, true, false, refl, sym, ap, ◌∙◌, ◌⊎◌, inl, inr}
use Rattle.pddlstream_app.proofs.SaidLemmas.{answer_said, is_said}
use Rattle.pddlstream_app.specs.AnswerOf.{HasAnswer}
use Rattle.command_files.specs.Outside.{Outside, Written}
use Rattle.pddlstream_app.specs.Runs.{Caused, IsCompleted}
use Rattle.run_command.specs.Runs.{HasOutcome, outcome_status}
use Rattle.command_files.specs.declared.status.Status.{Status}
use Rattle.command_files.specs.declared.status.Status.TheVariants.{Done, Invalid, Limit, NoPlan, Plan}
use Rattle.transcript_model.specs.declared.outcome.Outcome.{Outcome}
use Rattle.transcript_model.specs.declared.outcome.Outcome.TheVariants as outcome

abbrev is_ended : Status → Bool
is_ended Plan = true
is_ended NoPlan = true
is_ended Limit = true
is_ended Done = true
is_ended Invalid = true
is_ended status = false

outcome_ended : (o : Outcome) → is_ended (outcome_status o) ≡ true
outcome_ended (outcome.Plan steps cost from) = refl
outcome_ended outcome.NoPlan = refl
outcome_ended (outcome.Limit kind) = refl

said_ended : (status : Status) → is_said status ≡ true → is_ended status ≡ true
said_ended Done e = refl
said_ended Invalid e = refl
said_ended Limit e = refl
said_ended status e = absurd (cc)

pub completed_ended : (words : List (List ℕ)) (outside : Outside) (Same : Type 0) (written : Written) (status : Status)
    → IsCompleted words outside Same written status → is_ended status ≡ true
completed_ended words outside Same written status c = of c.has
  where
    of : HasOutcome words outside status c.text ⊎ HasAnswer words outside status c.text → is_ended status ≡ true
    of (inl h) = ap is_ended (sym h.kind) ∙ outcome_ended h.outcome
    of (inr h) = said_ended status (answer_said words outside status c.text h)

-- so it is no fault
pub ended_other : (status fault : Status) → is_ended status ≡ true → is_ended fault ≡ false → status ≡ fault → ⊥
ended_other status fault ended lost is = let both : true ≡ false = sym ended ∙ ap is_ended is ∙ lost in absurd (cc)

-- so it needs no cause
pub caused_ended : (status fault : Status) → is_ended status ≡ true → is_ended fault ≡ false → (last before now : ℕ) → before ≤ now
    → Caused (status ≡ fault) last before now
caused_ended status fault ended lost last before now later = record {
  later = later;
  cause = λ is. absurd (ended_other status fault ended lost is);
}
