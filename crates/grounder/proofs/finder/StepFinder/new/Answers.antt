use Rattle.std.proofs.Common.{arith, Some}
use Rattle.std.proofs.lemmas.Option.{slice_get_within}
use Rattle.lemmas.proofs.ListTests.{get_there}
use Rattle.plan_check.proofs.ReadableLemmas.{fit_action, readable_action}
use Rattle.grounder.proofs.AsksLemmas.{short_rows}
use Rattle.grounder.proofs.finder.StepFinder.new.Goals as goal

pub all_asks-requires-clause-short : goal.all_asks-requires-clause-short
all_asks-requires-clause-short g c =
    let domain = c.args.task.now.domain in
    let known = g.L.Look.known c.args.look.now in
    let candidates = c.in_ok-candidates.candidates in
    let are = c.in_ok-candidates.ensures in
    record {
      places = are.places;
      each = λ number rows at.
          let action = get_there domain.actions number (omega (arith, slice_get_within candidates.actions number (Some rows) at, are.places)) in
          let fit = fit_action domain c.requires.domain number action.0 action.1 in
          short_rows domain known action.0 rows (are.each number action.0 (Some rows) action.1 at)
          (readable_action domain c.requires.domain action.0 fit).params;
    }
