-- What is said of the cost of a plan that a report shows.
use Rattle.std.proofs.Common.{◌≡◌, ℕ, ◌+◌, ◌<◌, ◌≤◌, inl, inr, List, ◌∷◌, [], ◌++◌, map, length, sym, ap, subst, ◌∙◌, arith}
use Rattle.std.proofs.lemmas.List.{length-append, length-map}
use Rattle.std.specs.Fmt.{decimal}
use Rattle.std.specs.List.{flat_map}
use Rattle.std.specs.Prelude.{codes}
use Rattle.best_first.specs.declared.found.Found.TheVariants as found
use Rattle.replay_check.specs.Judgings.{HasRight}
use Rattle.replay_check.specs.Verdicts.{IsReportVerdict, IsVerdict}
use Rattle.replay_check.specs.declared.verdict.RightReport.{RightReport}
use Rattle.replay_check.specs.declared.verdict.Verdict.TheVariants.{Valid}
use Rattle.report_text.proofs.ReportsReadBack.{same_report}
use Rattle.report_text.specs.Texts.{done_line, do_line, entry_lines, from_line, head_lines, line, lines_of_report, outcome_lines}
use Rattle.task_model.specs.Known.{Known}
use Rattle.task_model.specs.Plans.{IsLeastCost, IsReached, IsSolvable, IsValid, MoreThan}
use Rattle.task_model.specs.declared.task.Plan.{Plan}
use Rattle.task_model.specs.declared.task.Task.{Task}
use Rattle.transcript_model.specs.Transcript.{known_of}
use Rattle.transcript_model.specs.declared.entry.Call.{Call}
use Rattle.transcript_model.specs.declared.outcome.Origin.{Origin}
use Rattle.transcript_model.specs.declared.outcome.Outcome.TheVariants as outcome
use Rattle.transcript_model.specs.declared.report.Report.{Report}
use Rattle.optimal_check.specs.Least.{IsLeastFound}
use Rattle.optimal_check.specs.Verdicts.{IsDear, ShowsRightPlan}

-- ---- what is found

module _ (limit : ℕ) (task : Task) (right : RightReport) (steps : List Call) (cost : ℕ)
    (shown : ShowsRightPlan task right steps cost) where
  pub dear_found : (plan : Plan) (least : ℕ) → IsLeastFound task right.facts.known limit (found.Plan plan least)
      → least < cost
      → IsDear task right.report cost
  dear_found plan least is less =
      (plan.steps, least, subst (λ (k : Known). IsValid task k plan.steps least) shown.known is.plan.valid, less)

  pub least_found : (plan : Plan) (least : ℕ) → IsLeastFound task right.facts.known limit (found.Plan plan least)
      → cost ≤ least
      → IsLeastCost task (known_of task right.report.entries) cost
  least_found plan least is no_less =
      let cheap = subst (λ (k : Known). IsLeastCost task k least) shown.known is.least in
      let same : least ≡ cost = omega (arith, no_less, cheap.least shown.valid.0 cost shown.valid.1) in
      subst (IsLeastCost task (known_of task right.report.entries)) same cheap

  -- the plan that is shown is one
  pub never_none : IsLeastFound task right.facts.known limit found.Nothing → ⊥
  never_none is =
      (is.nothing.0 tt).0 (subst (IsSolvable task) (sym shown.known) (shown.valid.0, cost, shown.valid.1))

  pub limit_found : IsLeastFound task right.facts.known limit found.Limit
      → MoreThan limit (IsReached task (known_of task right.report.entries))
  limit_found is = subst (λ (k : Known). MoreThan limit (IsReached task k)) shown.known (is.limited tt)

-- ---- what a report shows

-- a plan has fewer steps than its report has lines
pub steps_few : (r : Report) (steps : List Call) (cost : ℕ) (from : List Origin)
    → r.outcome ≡ outcome.Plan steps cost from
    → length steps + 1 ≤ length (lines_of_report r)
steps_few r steps cost from is =
    let head = head_lines r.version r.mode r.calls r.states r.depth r.pools in
    let entries = flat_map entry_lines r.entries in
    let end = outcome_lines r.version r.outcome in
    let costs = line (codes "cost") (decimal cost ∷ []) ∷ map (from_line r.version) from in
    let first = length-append head (entries ++ (end ++ done_line ∷ [])) in
    let second = length-append entries (end ++ done_line ∷ []) in
    let third = length-append end (done_line ∷ []) in
    let shown : length end ≡ length (outcome_lines r.version (outcome.Plan steps cost from)) =
    ap (λ o. length (outcome_lines r.version o)) is in
    let fourth = length-append (map do_line steps) costs in
    omega (arith, first, second, third, shown, fourth, length-map steps do_line)

-- the report that is handed over is the one of which it is said that it is right
pub right_report : (limit : ℕ) (task : Task) (bytes : List ℕ) (right : RightReport) → IsVerdict limit task bytes Valid
    → HasRight task bytes right → IsReportVerdict limit task right.report Valid
right_report limit task bytes right (inl none) has = absurd (let e = none.1 in cc)
right_report limit task bytes right (inr of) has =
    let same = same_report of.report right.report of.formed has.formed (of.spelled ∙ sym has.spelled) in
    subst (λ (r : Report). IsReportVerdict limit task r Valid) same of.said
