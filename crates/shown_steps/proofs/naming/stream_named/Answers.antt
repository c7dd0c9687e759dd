use Rattle.std.proofs.Common.{rules, tests, ◌≡◌, sym, ap, ◌∙◌}
use Rattle.std.proofs.lemmas.Iterator.{YieldsList-from_slice}
use Rattle.std.proofs.lemmas.Iterator.Search.{position_from_yields_List}
use Rattle.std.specs.List.{position}
use Rattle.task_model.specs.Known.{same_numbers}
use Rattle.task_model.specs.declared.stream.Stream.{Stream}
use Rattle.shown_steps.proofs.naming.stream_named.Goals as goal
use Rattle.shown_steps.proofs.naming.stream_named.Goals.{After-position}

module _ (c : After-position) where
  place_is : c.position.result ≡ position (λ (s : Stream). same_numbers c.args.name.now s.name) c.as_slice-streams.result.now
  place_is = position_from_yields_List (λ (s : Stream). same_numbers c.args.name.now s.name) _ _ c.position.result c.position.ensures.ran
      (YieldsList-from_slice c.as_slice-streams.result.now c.iter.ensures.rest) (λ x b q k. search (rules, tests))

pub returns-in-Some : goal.returns-in-Some
returns-in-Some c =
    sym c.in-Some.is ∙ place_is (goal.at.returns-in-Some c).After-position
    ∙ ap (position (λ (s : Stream). same_numbers c.args.name.now s.name)) c.as_slice-streams.ensures

pub returns-in-None : goal.returns-in-None
returns-in-None c =
    sym c.in-None.is ∙ place_is (goal.at.returns-in-None c).After-position
    ∙ ap (position (λ (s : Stream). same_numbers c.args.name.now s.name)) c.as_slice-streams.ensures
