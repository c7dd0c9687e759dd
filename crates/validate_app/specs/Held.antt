-- The paths that code lends, as words mean them.
use Rattle.std.specs.Prelude.{Option, option_map}
use Rattle.validate_app.specs.Words.{ReportWords, ValidateWords}
use Rattle.validate_app.specs.declared.words.Paths.{Paths}
use Rattle.validate_app.specs.declared.words.ReportPaths.{ReportPaths}

abbrev pub held_report : ReportPaths → ReportWords
held_report p = record { report = p.report.now; streams = p.streams.now }

abbrev pub held_paths : Paths → ValidateWords
held_paths p = record {
  domain = p.domain.now;
  problem = p.problem.now;
  plan = p.plan.now;
  certified = option_map held_report p.certified;
}

abbrev pub shown_paths : Option Paths → Option ValidateWords
shown_paths = option_map held_paths
