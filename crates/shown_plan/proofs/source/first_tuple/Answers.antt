use Rattle.std.proofs.Common.{rules, tests, ◌≡◌, ◌/◌, ◌+◌, length, sym, ap, ◌∙◌, None, Some, option_map, is_some}
use Rattle.std.proofs.lemmas.Iterator.{YieldsList-from_slice}
use Rattle.std.proofs.lemmas.Iterator.Search.{position_from_yields_List}
use Rattle.std.specs.List.{list_any, position}
use Rattle.task_model.specs.Known.{same_numbers}
use Rattle.transcript_model.specs.Transcript.{tuples_in}
use Rattle.shown_plan.proofs.TupleLemmas.{first_tuple_is, found_is, width_is}
use Rattle.shown_plan.proofs.source.first_tuple.Goals as goal
use Rattle.shown_plan.proofs.source.first_tuple.Goals.{After-position}

module _ (c : After-position) where
  place_is : c.position.result ≡ position (same_numbers c.args.value.now) c.args.values.now
  place_is = position_from_yields_List (same_numbers c.args.value.now) _ _ c.position.result c.position.ensures.ran
      (YieldsList-from_slice c.args.values.now c.iter.ensures.rest) (λ x b q k. search (rules, tests))

  tuple_is : position (list_any (same_numbers c.args.value.now))
      (tuples_in (length c.args.values.now / c.args.tuples) c.args.tuples c.args.values.now)
      ≡ option_map (λ k. k / (length c.args.values.now / c.args.tuples)) c.position.result
  tuple_is =
      first_tuple_is (same_numbers c.args.value.now) (length c.args.values.now / c.args.tuples) c.args.tuples c.args.values.now
      (width_is (length c.args.values.now) c.args.tuples c.requires.even.0 c.requires.some c.requires.even.1)
      ∙ ap (option_map (λ k. k / (length c.args.values.now / c.args.tuples))) (sym place_is)

pub returns-in_err-place-clause-there : goal.returns-in_err-place-clause-there
returns-in_err-place-clause-there c =
    let none : c.from_residual.result ≡ None = search rules in
    let missed : c.position.result ≡ None = search rules in
    ap is_some none ∙ sym (ap is_some missed) ∙ ap is_some (place_is (goal.at.returns-in_err-place-clause-there c).After-position)
    ∙ found_is (same_numbers c.args.value.now) c.args.values.now

pub returns-in_err-place-clause-place : goal.returns-in_err-place-clause-place
returns-in_err-place-clause-place c =
    let none : c.from_residual.result ≡ None = search rules in
    let missed : c.position.result ≡ None = search rules in
    none
    ∙ sym (ap (option_map (λ place. place + 1))
    (tuple_is (goal.at.returns-in_err-place-clause-place c).After-position
    ∙ ap (option_map (λ k. k / (length c.args.values.now / c.args.tuples))) missed))

pub returns-clause-there : goal.returns-clause-there
returns-clause-there c =
    let found : c.position.result ≡ Some c.in_ok-place.place = search rules in
    sym (ap is_some found) ∙ ap is_some (place_is (goal.at.returns-clause-there c).After-position)
    ∙ found_is (same_numbers c.args.value.now) c.args.values.now

pub returns-clause-place : goal.returns-clause-place
returns-clause-place c =
    let found : c.position.result ≡ Some c.in_ok-place.place = search rules in
    sym (ap (option_map (λ place. place + 1)) (tuple_is (goal.at.returns-clause-place c).After-position
    ∙ ap (option_map (λ k. k / (length c.args.values.now / c.args.tuples))) found))
