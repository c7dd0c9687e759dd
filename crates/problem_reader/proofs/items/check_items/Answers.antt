use Rattle.std.proofs.Common.{ap, ◌∙◌}
use Rattle.sexpr_text.specs.Front.{shown}
use Rattle.sexpr_text.specs.Trees.{trees}
use Rattle.form_reader.specs.declared.items.TextKind.TheVariants as text
use Rattle.form_reader.specs.Items.{item_of}
use Rattle.problem_reader.proofs.HeldLemmas.{item_checked, item_held}
use Rattle.problem_reader.proofs.items.check_items.Goals as goal

pub items-preserved : goal.items-preserved
items-preserved c =
    let v = c.args.setting.now.names.now in
    let is = c.front_of.ensures ∙ ap shown c.in-List.is in
    let named = c.item_of-item.ensures ∙ ap (item_of text.Problem) c.head_of.ensures in
    record {
      faults = c.items.invariant.faults
          ∙ item_checked v _ _ _ (trees c.tail_of.result.now) c.in-List.place c.item_of-item.result is named
          c.tail_of.ensures
          c.args.setting.now.domain.now c.items.found c.in_ok-found-in-List.found c.in_ok-found-in-List.ensures.faults;
      facts = c.items.invariant.facts
          ∙ item_held v _ _ _ (trees c.tail_of.result.now) c.in-List.place c.item_of-item.result is named
          c.tail_of.ensures
          c.items.held.begun c.items.held.facts.items c.check_body.new.held.facts.items c.check_body.new.held.begun
          c.in_ok-found-in-List.ensures.begun c.in_ok-found-in-List.ensures.facts;
    }
