use Rattle.std.proofs.Common.{◌≡◌, false, subst, true}
use Rattle.turn_run.proofs.TurnsOutcomeLemmas.{all_known, unsolvable_there}
use Rattle.turn_run.specs.Deciding.{FindsPlan}
use Rattle.solve_run.proofs.finders.ByEstimatePlanSearch.find.Goals as goal

pub returns-then-branch : goal.returns-then-branch
returns-then-branch c =
    let may = c.requires.may in
    record {
      found = unsolvable_there c.args.situation.now.task.now c.args.situation.now.session.now may.working may.learnt may.session
          c.facts-facts.result.now.known c.facts-facts.ensures (c.in_ok-out_of_reach.ensures c.if-branch.true);
    }

pub returns : goal.returns
returns c =
    let task = c.args.situation.now.task.now in
    let may = c.requires.may in
    record {
      found = subst (λ k. FindsPlan false task k c.args.situation.now.head.now.states c.in_ok-found.found)
          (all_known task c.args.situation.now.session.now may.working may.learnt may.session c.facts-facts.result.now.known
          c.facts-facts.ensures) (record {
            plan = c.in_ok-found.ensures.plan;
            least = λ asked. let no : false ≡ true = asked in absurd (cc);
            nothing = c.in_ok-found.ensures.nothing;
            past = c.in_ok-found.ensures.limit;
          });
    }
