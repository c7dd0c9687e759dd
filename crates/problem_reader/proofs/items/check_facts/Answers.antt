use Rattle.std.proofs.Common.{ap, ◌∙◌}
use Rattle.sexpr_text.specs.Front.{shown}
use Rattle.problem_reader.proofs.AtomsLemmas.{fact_checked, fact_spelled}
use Rattle.problem_reader.proofs.items.check_facts.Goals as goal

pub facts-preserved : goal.facts-preserved
facts-preserved c =
    let is = c.front_of.ensures ∙ ap shown c.in-List.is in
    record {
      faults = c.facts.invariant.faults
          ∙ fact_checked c.args.setting.now.names.now _ _ _ c.in-List.place is c.args.setting.now.domain.now.roles c.facts.found
          c.in_ok-found-in-List.found c.in_ok-found-in-List.ensures.faults;
      facts = c.facts.invariant.facts
          ∙ fact_spelled c.args.setting.now.names.now _ _ _ c.in-List.place is c.facts.facts.items c.check_fact.new.facts.items
          c.in_ok-found-in-List.ensures.facts;
    }
