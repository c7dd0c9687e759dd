-- What words mean.
use Rattle.std.specs.Prelude.{ℕ, List, Option, None, Some, codes}
use Rattle.clap.specs.Words.{App, Row, Text, first_of, new_app, new_rule, with_rule}
use Rattle.command_line.specs.Apps.{positional}
use Rattle.command_line.specs.Words.{if_given, read_by}

-- the paths of a report and of the streams over which it was made
pub record ReportWords : Type 0 where
  pub report : Text
  pub streams : Text

-- the paths of a domain, a problem and a plan, and those of a report where one is named
pub record ValidateWords : Type 0 where
  pub domain : Text
  pub problem : Text
  pub plan : Text
  pub certified : Option ReportWords

-- pddl_validate DOMAIN PROBLEM PLAN [REPORT STREAMS]
unfoldable pub validate_app : App
validate_app =
    with_rule (with_rule (with_rule (with_rule (with_rule (new_app (codes "pddl_validate")) (positional (codes "domain")))
    (positional (codes "problem"))) (positional (codes "plan"))) (new_rule (codes "report"))) (new_rule (codes "streams"))

-- a report and its streams are named together, or neither is
abbrev pub report_words : Option Text → Option Text → Option (Option ReportWords)
report_words None None = Some None
report_words (Some report) (Some streams) = Some (Some (record { report = report; streams = streams }))
report_words report streams = None

-- the paths in the rows that clap makes of the words
abbrev pub validate_paths : List Row → Option ValidateWords
validate_paths rows =
    if_given (first_of (codes "domain") rows) (λ domain.
    if_given (first_of (codes "problem") rows) (λ problem.
    if_given (first_of (codes "plan") rows) (λ plan.
    if_given (report_words (first_of (codes "report") rows) (first_of (codes "streams") rows)) (λ certified.
    Some (record { domain = domain; problem = problem; plan = plan; certified = certified })))))

-- what the words mean, of which the first is the program's name; none where they aren't the program's
abbrev pub paths_of_words : List Text → Option ValidateWords
paths_of_words = read_by validate_app validate_paths

-- the usage text, a line
abbrev pub validation_usage : List ℕ
validation_usage = codes "usage: pddl_validate DOMAIN PROBLEM PLAN [REPORT STREAMS]\n"
