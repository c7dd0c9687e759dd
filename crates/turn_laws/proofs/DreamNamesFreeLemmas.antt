-- What is true and what a step does rest on facts and values, and not on names.
use Rattle.std.proofs.Common.{◌≡◌, ℕ, zero, suc, ◌&&◌, ◌==◌, List, [], ◌∷◌, refl, sym, ap, ◌∙◌}
use Rattle.std.specs.List.{list_any, list_all}
use Rattle.std.specs.Prelude.{length, Some, if◌then◌else◌}
use Rattle.task_model.specs.Condition.{Condition}
use Rattle.task_model.specs.Initial.{initial_state}
use Rattle.task_model.specs.Known.{Known, is_fact, objects_of}
use Rattle.task_model.specs.Plans.{Executes, IsValid}
use Rattle.task_model.specs.Roles.{role_of}
use Rattle.task_model.specs.State.{Atoms}
use Rattle.task_model.specs.Steps.{IsStep, sum_of, term_cost, terms_cost, cost_of}
use Rattle.task_model.specs.Streams.{fact_of, is_reachable}
use Rattle.task_model.specs.Truth.{slots_of, has_type, have_types, truth, atom_as, is_true}
use Rattle.task_model.specs.declared.domain.Action.{Action}
use Rattle.task_model.specs.declared.domain.CostTerm.{CostTerm}
use Rattle.task_model.specs.declared.domain.CostTerm.TheVariants.{Number, Value}
use Rattle.task_model.specs.declared.domain.Derived.{Derived}
use Rattle.task_model.specs.declared.domain.Domain.{Domain}
use Rattle.task_model.specs.declared.domain.Role.{Role}
use Rattle.task_model.specs.declared.domain.Role.TheVariants as role
use Rattle.task_model.specs.declared.stream.Instance.{Instance}
use Rattle.task_model.specs.declared.stream.Stream.{Stream}
use Rattle.task_model.specs.declared.task.GroundAction.{GroundAction}
use Rattle.task_model.specs.declared.task.Task.{Task}

module _ (known : Known) (names : List (List ℕ)) where
  abbrev renamed : Known
  renamed = record { names = names; facts = known.facts; values = known.values }

  types_same : (objects sorts : List ℕ) → have_types known objects sorts ≡ have_types renamed objects sorts
  types_same [] [] = refl
  types_same [] (s ∷ ss) = refl
  types_same (o ∷ os) [] = refl
  types_same (o ∷ os) (s ∷ ss) = ap (λ b. has_type known o s && b) (types_same os ss)

  pub reachable_same : (stream : Stream) (i : Instance) → is_reachable stream known i ≡ is_reachable stream renamed i
  reachable_same stream i =
      ap (λ b. b && list_all (λ p. is_fact known.facts (fact_of (slots_of i.inputs) p)) stream.domain)
      (types_same i.inputs stream.inputs)

  -- ---- conditions

  module _ (domain : Domain) (state : Atoms) where
    atoms_same : (depth : ℕ) (r : Role) (pred : ℕ) (args : List ℕ)
        → atom_as domain known state depth r pred args ≡ atom_as domain renamed state depth r pred args
    atoms_same zero role.Static pred args = refl
    atoms_same zero role.Fluent pred args = refl
    atoms_same zero role.Derived pred args = refl
    atoms_same (suc depth) role.Static pred args = refl
    atoms_same (suc depth) role.Fluent pred args = refl
    atoms_same (suc depth) role.Derived pred args =
        λ i. list_any (λ (d : Derived).
        (d.pred == pred) && types_same args d.params i
        && truth (λ p objects. atoms_same depth (role_of domain p) p objects i) (objects_of known.facts) d.body (slots_of args))
        domain.derived

    truth_same : (condition : Condition) (slots : List ℕ)
        → is_true domain known state condition slots ≡ is_true domain renamed state condition slots
    truth_same condition slots =
        λ i. truth (λ p objects. atoms_same (length domain.derived) (role_of domain p) p objects i) (objects_of known.facts)
        condition slots

  -- ---- costs

  cost_same : (slots : List ℕ) (t : CostTerm) → term_cost known slots t ≡ term_cost renamed slots t
  cost_same slots (Number n) = refl
  cost_same slots (Value func args) = refl

  costs_same : (slots : List ℕ) (terms : List CostTerm) → terms_cost known slots terms ≡ terms_cost renamed slots terms
  costs_same slots [] = refl
  costs_same slots (t ∷ ts) = λ i. sum_of (cost_same slots t i) (costs_same slots ts i)

  -- ---- plans

  module _ (task : Task) where
    total_same : (a : Action) (args : List ℕ) → cost_of task known a args ≡ cost_of task renamed a args
    total_same a args = λ i. if task.problem.metric then costs_same (slots_of args) a.costs i else Some 1

    step_same : (before after : Atoms) (step : GroundAction) (cost : ℕ) → IsStep task known before step after cost
        → IsStep task renamed before step after cost
    step_same before after step cost s = record {
      action = s.action;
      named = s.named;
      typed = sym (types_same step.args s.action.params) ∙ s.typed;
      condition = sym (truth_same task.domain before s.action.condition (slots_of step.args)) ∙ s.condition;
      costs = sym (total_same s.action step.args) ∙ s.costs;
      leads = s.leads;
    }

    steps_same : (steps : List GroundAction) (before after : Atoms) (total : ℕ) → Executes task known before steps after total
        → Executes task renamed before steps after total
    steps_same [] before after total e = e
    steps_same (step ∷ steps) before after total (middle, cost, rest, first, others, sum) =
        (middle, cost, rest, step_same before middle step cost first, steps_same steps middle after rest others, sum)

    pub valid_same : (steps : List GroundAction) (cost : ℕ) → IsValid task known steps cost → IsValid task renamed steps cost
    valid_same steps cost (end, executes, goal) = (
      end,
      steps_same steps (initial_state task) end cost executes,
      sym (truth_same task.domain end task.problem.goal (slots_of [])) ∙ goal,
    )
