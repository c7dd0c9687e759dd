use Rattle.std.proofs.Common.{◌<◌, ◌^◌, arith, subst}
use Rattle.replay_check.proofs.FindingsLemmas.{no_goal_found, stuck_found, wrong_cost_found, wrong_origin_found}
use Rattle.replay_check.specs.Plans.{IsNear, IsPlanned}
use Rattle.replay_check.proofs.outcome.planned.Goals as goal

pub overflow_add-result : goal.overflow_add-result
overflow_add-result c = let near : c.in-Stuck.place < 2 ^ 62 = subst IsNear c.in-Stuck.is c.requires.near in omega (arith, near)

pub overflow_add-result-in-WrongOrigin-2 : goal.overflow_add-result-in-WrongOrigin-2
overflow_add-result-in-WrongOrigin-2 c =
    let near : c.in-WrongOrigin.place < 2 ^ 62 = subst IsNear c.in-WrongOrigin.is c.requires.near in omega (arith, near)

pub returns-in-Stuck : goal.returns-in-Stuck
returns-in-Stuck c =
    λ limits limit task entries calls cost from many legal placed stops.
    stuck_found limits limit task entries calls cost from legal placed c.in-Stuck.place
    (subst (IsPlanned limits.version task entries calls cost from) c.in-Stuck.is stops)

pub returns-in-NoGoal : goal.returns-in-NoGoal
returns-in-NoGoal c =
    λ limits limit task entries calls cost from many legal placed missed.
    no_goal_found limits limit task entries calls cost from legal placed c.args.steps many
    (subst (IsPlanned limits.version task entries calls cost from) c.in-NoGoal.is missed)

pub returns-in-WrongCost : goal.returns-in-WrongCost
returns-in-WrongCost c =
    λ limits limit task entries calls cost from many legal placed wrong.
    wrong_cost_found limits limit task entries calls cost from legal placed c.args.steps many
    (subst (IsPlanned limits.version task entries calls cost from) c.in-WrongCost.is wrong)

pub returns-in-WrongOrigin : goal.returns-in-WrongOrigin
returns-in-WrongOrigin c =
    λ limits limit task entries calls cost from many legal placed differs.
    wrong_origin_found limits limit task entries calls cost from legal placed c.args.steps c.in-WrongOrigin.place many
    (subst (IsPlanned limits.version task entries calls cost from) c.in-WrongOrigin.is differs)
