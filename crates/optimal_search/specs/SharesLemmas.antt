-- The bound by the shares of the goal atoms that are missing is consistent.
use Rattle.std.proofs.Common.{◌≡◌, ◌*◌, refl, ap, subst, ◌∙◌, map, true, arith, Contains}
use Rattle.task_model.specs.Known.{Known}
use Rattle.task_model.specs.State.{contains}
use Rattle.task_model.specs.Steps.{atom_of}
use Rattle.task_model.specs.Truth.{slots_of}
use Rattle.task_model.specs.declared.task.Task.{Task}
use Rattle.optimal_search.specs.Bounds.{cut, up}
use Rattle.optimal_search.specs.BoundsLemmas.{sum_falls}
use Rattle.optimal_search.specs.Consistent.{IsConsistent}
use Rattle.optimal_search.specs.GoalLemmas.{came, goal_there, listed_there}
use Rattle.optimal_search.specs.Share.{owed}
use Rattle.optimal_search.specs.ShareLemmas.{owed_falls, owed_none}
use Rattle.optimal_search.specs.Shares.{AreSharesOf, adds_of, shares_left}
use Rattle.optimal_search.specs.declared.shares.Shares.{Shares}
use Rattle.optimal_search.specs.declared.shares.TheConstants.{UNIT}

pub shares_consistent : (estimate : Shares) (task : Task) (known : Known) → AreSharesOf task known estimate
    → IsConsistent task known (shares_left estimate)
shares_consistent estimate task known is = record {
  falls = λ before after step cost e.
      let ss = estimate.shares.items in
      let atom = atom_of (slots_of step.args) in
      let come = map atom e.action.adds in
      let gone = map atom e.action.deletes in
      let fair = is.paid step.action e.action e.named before after step cost e refl in
      let less = owed_falls (contains before) (contains after) (contains (adds_of e.action step.args)) (cost * UNIT)
      ss fair
      (λ s there was now.
      listed_there come s.goal (came before gone come s.goal was
      (subst (λ t. contains t s.goal ≡ true) e.leads now))) in
      let sum = sum_falls UNIT cost (owed ss (contains before)) (owed ss (contains after)) (omega arith) less in
      omega (arith, sum);
  goal = λ state goal.
      let none = owed_none (contains state) estimate.shares.items (λ g c.
      goal_there task known state g goal (subst (λ gs. Contains gs g) is.goals c)) in
      ap (λ n. cut (up n UNIT)) none ∙ omega arith;
}
