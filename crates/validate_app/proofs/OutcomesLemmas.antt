-- How a run ends that comes to an outcome.
use Rattle.std.proofs.Common.{◌≡◌, ◌⊎◌, ℕ, List, sym, ◌∙◌, subst, Option, Some, inl, inr}
use Rattle.io_world.specs.FileMap.{FileMap}
use Rattle.task_model.specs.Known.{Known}
use Rattle.task_model.specs.declared.task.Task.{Task}
use Rattle.transcript_model.specs.declared.entry.Call.{Call}
use Rattle.validate_app.specs.Files.{TextsSeen}
use Rattle.validate_app.specs.Inputs.{IsCertain, IsPlanOf, IsPlainTaskOf, IsTranscriptOf, StopsAtText}
use Rattle.validate_app.specs.Verdicts.{IsPlanVerdict}
use Rattle.validate_app.specs.Words.{ValidateWords, paths_of_words}
use Rattle.validate_app.specs.declared.verdict.Verdict.{Verdict}
use Rattle.validate_app.specs.Outcomes.{ValidationEnds, HasNoVerdict, IsJudgedPlan, IsOutcome, TellsOutcome}
use Rattle.validate_app.specs.Told.{status_of, text_of}
use Rattle.validate_app.specs.declared.outcome.Outcome.{Outcome}
use Rattle.validate_app.specs.declared.outcome.Outcome.TheVariants.{Judged, Stopped}
use Rattle.validate_app.specs.declared.status.Status.{Status}
use Rattle.validate_app.specs.declared.status.Status.TheVariants.{WriteFault}
use Rattle.validate_app.specs.declared.stop.Stop.{Stop}
use Rattle.validate_app.specs.declared.stop.Stop.TheVariants as stop
use Rattle.validate_app.specs.declared.verdict.Verdict.TheVariants as verdict

-- its text was told
pub ends_told : (words : List (List ℕ)) (files : TextsSeen) (before after : Option (List ℕ)) (end : Status)
    (o : Outcome)
    → IsOutcome words files o → (text : List ℕ) → text ≡ text_of o → (status : Status) → status ≡ status_of o
    → TellsOutcome text status before after end → ValidationEnds words files before after end
ends_told words files before after end o cause text is status so told = record {
  outcome = o;
  cause = cause;
  told = subst (λ s. TellsOutcome (text_of o) s before after end) so
      (subst (λ t. TellsOutcome t status before after end) is told);
}

-- no outcome is a fault of the sink
no_fault : (o : Outcome) → status_of o ≡ WriteFault → ⊥
no_fault (Judged (verdict.Valid cost) claimed) e = absurd (cc)
no_fault (Judged (verdict.Step number why) claimed) e = absurd (cc)
no_fault (Judged (verdict.Goal part) claimed) e = absurd (cc)
no_fault (Stopped stop.Usage) e = absurd (cc)
no_fault (Stopped (stop.Refused which kind place)) e = absurd (cc)
no_fault (Stopped (stop.Flawed line flaw)) e = absurd (cc)
no_fault (Stopped (stop.Failed which)) e = absurd (cc)
no_fault (Stopped (stop.TooLong which)) e = absurd (cc)
no_fault (Stopped stop.Memory) e = absurd (cc)

-- so a fault of the sink has its cause there
pub sink_failed : {Cause : Type 0} (o : Outcome) (status end : Status) → status ≡ status_of o
    → (end ≡ status) ⊎ Cause → end ≡ WriteFault
    → Cause
sink_failed o status end so (inl same) fault = absurd (no_fault o (sym so ∙ sym same ∙ fault))
sink_failed o status end so (inr cause) fault = cause

-- ---- words

-- why there is no verdict for words with these paths
pub has_stopped : (words : List (List ℕ)) (files : TextsSeen) (w : ValidateWords) → paths_of_words words ≡ Some w
    → (why : Stop)
    → StopsAtText files w why → HasNoVerdict words files why
has_stopped words files w meant stop.Usage n = absurd n
has_stopped words files w meant (stop.Refused which kind place) n = (w, meant, n)
has_stopped words files w meant (stop.Flawed line flaw) n = (w, meant, n)
has_stopped words files w meant (stop.Failed which) n = (w, meant, n)
has_stopped words files w meant (stop.TooLong which) n = (w, meant, n)
has_stopped words files w meant stop.Memory n = tt

-- ---- verdicts

-- what is said over what the transcript certifies is said of the files
pub is_judged : (told : Option FileMap) (w : ValidateWords) (task : Task) → IsPlainTaskOf told w task
    → (mid : Option FileMap)
    → mid ≡ told → (known : Known) → IsCertain mid w task known → (later : Option FileMap) → later ≡ told
    → (calls : List Call) (claimed : Option ℕ) → IsPlanOf later w calls claimed → (slice : List Call) → slice ≡ calls
    → (v : Verdict) → IsPlanVerdict task known slice v → IsJudgedPlan told w v claimed
is_judged told w task spelled mid first known certain later same calls claimed plan slice is v said = record {
  task = task;
  spelled = spelled;
  entries = certain.0;
  report = subst (λ t. IsTranscriptOf t w task certain.0) first certain.1;
  calls = calls;
  plan = subst (λ t. IsPlanOf t w calls claimed) same plan;
  said = subst (λ k. IsPlanVerdict task k calls v) certain.2 (subst (λ cs. IsPlanVerdict task known cs v) is said);
}
