use Rattle.std.proofs.Common.{rules, tests, ap, ◌∙◌}
use Rattle.std.proofs.lemmas.Iterator.{YieldsList-from_slice}
use Rattle.std.proofs.lemmas.Iterator.Search.{position_from_yields_List}
use Rattle.std.specs.List.{position}
use Rattle.task_model.specs.Known.{same_numbers}
use Rattle.task_model.specs.declared.domain.Action.{Action}
use Rattle.validate_app.proofs.step.action_place.Goals as goal

pub returns : goal.returns
returns c =
    let names = λ (s : Action). same_numbers c.args.name.now s.name in
    position_from_yields_List names _ _ c.position.result c.position.ensures.ran
    (YieldsList-from_slice c.as_slice-actions.result.now c.iter.ensures.rest) (λ x b q k. search (rules, tests))
    ∙ ap (position names) c.as_slice-actions.ensures
