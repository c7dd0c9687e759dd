-- What is written of the end of a run, and its status.
use Rattle.std.specs.Prelude.{ℕ, List, [], ◌++◌, codes, Option, None, Some, if◌then◌else◌, ◌==◌}
use Rattle.std.specs.Fmt.{decimal}
use Rattle.legal_report.specs.declared.flaw.ReportFlaw.{ReportFlaw}
use Rattle.legal_report.specs.declared.flaw.ReportFlaw.TheVariants as report
use Rattle.task_reader.specs.Kinds.{kind_word}
use Rattle.validate_app.specs.Words.{validation_usage}
use Rattle.validate_app.specs.declared.outcome.Outcome.{Outcome}
use Rattle.validate_app.specs.declared.outcome.Outcome.TheVariants.{Judged, Stopped}
use Rattle.validate_app.specs.declared.status.Status.{Status}
use Rattle.validate_app.specs.declared.status.Status.TheVariants as status
use Rattle.validate_app.specs.declared.stop.FileRole.{FileRole}
use Rattle.validate_app.specs.declared.stop.FileRole.TheVariants as role
use Rattle.validate_app.specs.declared.stop.Stop.{Stop}
use Rattle.validate_app.specs.declared.stop.Stop.TheVariants as stop
use Rattle.validate_app.specs.declared.verdict.StepFlaw.{StepFlaw}
use Rattle.validate_app.specs.declared.verdict.StepFlaw.TheVariants as flaw
use Rattle.validate_app.specs.declared.verdict.Verdict.{Verdict}
use Rattle.validate_app.specs.declared.verdict.Verdict.TheVariants as verdict

-- ---- verdicts

abbrev pub flaw_word : StepFlaw → List ℕ
flaw_word flaw.Action = codes "action"
flaw_word flaw.Args = codes "args"
flaw_word flaw.Object = codes "object"
flaw_word flaw.Sort = codes "type"
flaw_word (flaw.Condition part) = codes "condition"
flaw_word flaw.Cost = codes "cost"

-- the part that is false, in a line of its own
abbrev pub flaw_part : StepFlaw → List ℕ
flaw_part (flaw.Condition part) = part ++ codes "\n"
flaw_part why = []

-- the verdict's line, and that of the part that is false
abbrev pub plan_verdict_text : Verdict → List ℕ
plan_verdict_text (verdict.Valid cost) = codes "valid " ++ decimal cost ++ codes "\n"
plan_verdict_text (verdict.Step number why) =
    codes "invalid " ++ decimal number ++ codes " " ++ flaw_word why ++ codes "\n" ++ flaw_part why
plan_verdict_text (verdict.Goal part) = codes "invalid goal\n" ++ part ++ codes "\n"

abbrev pub status_of_verdict : Verdict → Status
status_of_verdict (verdict.Valid cost) = status.Valid
status_of_verdict (verdict.Step number why) = status.Invalid
status_of_verdict (verdict.Goal part) = status.Invalid

-- the line for a claim of another cost than this
abbrev pub claim_line : ℕ → Option ℕ → List ℕ
claim_line cost None = []
claim_line cost (Some claimed) =
    if claimed == cost then [] else (codes "claims " ++ decimal claimed ++ codes "\n")

-- what a plan claims that is valid at another cost
abbrev pub claim_text : Verdict → Option ℕ → List ℕ
claim_text (verdict.Valid cost) claimed = claim_line cost claimed
claim_text (verdict.Step number why) claimed = []
claim_text (verdict.Goal part) claimed = []

-- ---- runs without a verdict

abbrev pub text_role_word : FileRole → List ℕ
text_role_word role.Domain = codes "domain"
text_role_word role.Problem = codes "problem"
text_role_word role.Streams = codes "streams"
text_role_word role.Report = codes "report"
text_role_word role.Plan = codes "plan"

-- what is said of a refused text before its kind
abbrev pub refused_word : FileRole → List ℕ
refused_word role.Domain = codes "fault input domain "
refused_word role.Problem = codes "fault input problem "
refused_word role.Streams = codes "fault input streams "
refused_word role.Report = codes "fault report "
refused_word role.Plan = codes "fault plan "

-- why a report certifies nothing
abbrev pub report_word : ReportFlaw → List ℕ
report_word report.Text = codes "text"
report_word report.Ask = codes "ask"
report_word report.Answer = codes "answer"

abbrev pub stop_text : Stop → List ℕ
stop_text stop.Usage = codes "fault usage\n" ++ validation_usage
stop_text (stop.Refused which kind place) =
    refused_word which ++ kind_word kind ++ codes " " ++ decimal place ++ codes "\n"
stop_text (stop.Flawed line flaw) =
    refused_word role.Report ++ report_word flaw ++ codes " " ++ decimal line ++ codes "\n"
stop_text (stop.Failed which) = codes "fault read " ++ text_role_word which ++ codes " failed\n"
stop_text (stop.TooLong which) = codes "fault read " ++ text_role_word which ++ codes " too-long\n"
stop_text stop.Memory = codes "fault memory\n"

abbrev pub status_of_stop : Stop → Status
status_of_stop stop.Usage = status.Usage
status_of_stop (stop.Refused which kind place) = status.Input
status_of_stop (stop.Flawed line flaw) = status.Input
status_of_stop (stop.Failed which) = status.ReadFault
status_of_stop (stop.TooLong which) = status.ReadFault
status_of_stop stop.Memory = status.Memory

-- ---- all ends

abbrev pub text_of : Outcome → List ℕ
text_of (Judged v claimed) = plan_verdict_text v ++ claim_text v claimed
text_of (Stopped why) = stop_text why

abbrev pub status_of : Outcome → Status
status_of (Judged v claimed) = status_of_verdict v
status_of (Stopped why) = status_of_stop why
