-- The plan of a right report.
use Rattle.std.proofs.Common.{◌≡◌, ℕ, ◌≤◌, arith, List, ◌∷◌, [], ◌++◌, length, map, codes, sym, subst, ap}
use Rattle.std.specs.Fmt.{decimal}
use Rattle.std.specs.List.{flat_map}
use Rattle.std.proofs.lemmas.List.{length-append, length-map}
use Rattle.replay_check.specs.Heads.{reported_limits}
use Rattle.replay_check.specs.Judgings.{HasRight}
use Rattle.replay_check.specs.Verdicts.{IsRightReport, IsVerdict}
use Rattle.replay_check.specs.declared.verdict.RightReport.{RightReport}
use Rattle.replay_check.specs.declared.verdict.Verdict.TheVariants as verdict
use Rattle.report_text.specs.Texts.{do_line, done_line, entry_lines, from_line, head_lines, line, lines_of_report, outcome_lines}
use Rattle.shown_steps.specs.Plans.{IsPlan}
use Rattle.task_model.specs.Known.{Known}
use Rattle.task_model.specs.declared.task.Task.{Task}
use Rattle.transcript_model.specs.Outcomes.{IsTrueOutcome, IsTruePlan}
use Rattle.transcript_model.specs.Transcript.{known_of}
use Rattle.transcript_model.specs.declared.entry.Call.{Call}
use Rattle.transcript_model.specs.declared.outcome.Origin.{Origin}
use Rattle.transcript_model.specs.declared.outcome.Outcome.TheVariants as outcome
use Rattle.transcript_model.specs.declared.report.Report.{Report}
use Rattle.pddlstream_app.specs.Plans.{SaysOfReport}
use Rattle.command_files.specs.declared.status.Status.{Status}

-- it is valid over what is known
pub plan_there : (task : Task) (r : Report) (known : Known) (calls : List Call) (cost : ℕ) (from : List Origin)
    → IsRightReport task r → known ≡ known_of task r.entries → r.outcome ≡ outcome.Plan calls cost from
    → (c : ℕ) × IsPlan task known calls c
plan_there task r known calls cost from right same is =
    let told : IsTruePlan (reported_limits task r).version task r.entries calls cost from = subst
    (IsTrueOutcome (reported_limits task r) task r.entries) is right.true in
    subst (λ k. (c : ℕ) × IsPlan task k calls c) (sym same)
    (cost, record { steps = told.steps; shown = told.shown; valid = told.valid })

-- a report has a line for each of its steps
pub calls_few : (r : Report) (calls : List Call) (cost : ℕ) (from : List Origin) → r.outcome ≡ outcome.Plan calls cost from
    → length calls ≤ length (lines_of_report r)
calls_few r calls cost from is =
    let head = head_lines r.version r.mode r.calls r.states r.depth r.pools in
    let body = flat_map entry_lines r.entries in
    let own = outcome_lines r.version r.outcome in
    let rest = line (codes "cost") (decimal cost ∷ []) ∷ map (from_line r.version) from in
    let first = length-append head (body ++ (own ++ done_line ∷ [])) in
    let second = length-append body (own ++ done_line ∷ []) in
    let third = length-append own (done_line ∷ []) in
    let plan = ap (λ o. length (outcome_lines r.version o)) is in
    let steps = length-append (map do_line calls) rest in
    let count = length-map calls do_line in
    omega (arith, first, second, third, plan, steps, count)

-- ---- what is said of it

pub says_right : {states : ℕ} {task : Task} {bytes : List ℕ} {Says : Report → Status → List ℕ → Type 0} {status : Status}
    {text : List ℕ} (r : RightReport) → IsVerdict states task bytes verdict.Valid → HasRight task bytes r
    → Says r.report status text → SaysOfReport states task bytes Says status text
says_right r said right so = (verdict.Valid, said, (r.report, right.formed, right.spelled, so))
