-- Actions of a fit task can be read.
use Rattle.std.proofs.Common.{◌≡◌, ℕ, ◌≤◌, true, ◌&&◌, List, [], ◌∷◌, length, refl, Some, slice_get, nat_le}
use Rattle.std.proofs.lemmas.Bool.{leb-true, and_from}
use Rattle.std.specs.Cmp.{first_so, second_so}
use Rattle.std.specs.List.{list_all}
use Rattle.lemmas.proofs.ListTests.{all_at}
use Rattle.task_model.specs.Fit.{IsFitDomain, is_fit_action, are_fit_params, is_fit_condition, are_fit_effects, are_fit_patterns, is_fit_pattern, is_fit_application, is_fit_cost, has_arity, is_short, param_slots}
use Rattle.lemmas.specs.Lists.{numbers_from}
use Rattle.task_model.specs.declared.condition.Term.{Term}
use Rattle.task_model.specs.declared.domain.Action.{Action}
use Rattle.task_model.specs.declared.domain.CostTerm.{CostTerm}
use Rattle.task_model.specs.declared.domain.CostTerm.TheVariants.{Number, Value}
use Rattle.task_model.specs.declared.domain.Domain.{Domain}
use Rattle.task_model.specs.declared.domain.Pattern.{Pattern}
use Rattle.task_model.specs.declared.domain.Signature.{Signature}
use Rattle.formula_eval.proofs.ReadableLemmas.{fit_readable, few_slots, few_arguments, readable_terms}
use Rattle.formula_eval.specs.Readable.{is_readable}
use Rattle.plan_check.specs.Readable.{are_readable_args, is_readable_pattern, is_readable_cost}

pub fit_action : (domain : Domain) → IsFitDomain domain → (i : ℕ) (a : Action)
    → slice_get domain.actions i ≡ Some a → is_fit_action domain a ≡ true
fit_action domain fit i a e = all_at (is_fit_action domain) domain.actions i a (second_so (is_short domain.actions) _ fit.actions) e

module _ (domain : Domain) (fit : IsFitDomain domain) where
  fit_args : (all : List Signature) → list_all (λ (s : Signature). nat_le s.arity 8) all ≡ true
      → (n : ℕ) → n ≤ 16 → (objects place : ℕ) (args : List Term)
      → is_fit_application all objects (numbers_from 0 n) place args ≡ true
      → are_readable_args args ≡ true
  fit_args all few n most objects place args e =
      and_from _ _ (few_arguments all place (length args) few (first_so (has_arity all place (length args)) _ e))
      (readable_terms objects (numbers_from 0 n) args (few_slots n most) (second_so (has_arity all place (length args)) _ e))

  fit_patterns : (n : ℕ) → n ≤ 16 → (objects : ℕ) (ps : List Pattern)
      → list_all (is_fit_pattern domain objects (numbers_from 0 n)) ps ≡ true
      → list_all is_readable_pattern ps ≡ true
  fit_patterns n most objects [] e = refl
  fit_patterns n most objects (p ∷ ps) e =
      and_from _ _ (fit_args domain.predicates fit.predicates.arities n most objects p.pred p.args
      (first_so (is_fit_pattern domain objects (numbers_from 0 n) p) _ e))
      (fit_patterns n most objects ps (second_so (is_fit_pattern domain objects (numbers_from 0 n) p) _ e))

  fit_effects : (n : ℕ) → n ≤ 16 → (ps : List Pattern)
      → are_fit_effects domain (numbers_from 0 n) ps ≡ true → list_all is_readable_pattern ps ≡ true
  fit_effects n most ps e =
      fit_patterns n most (length domain.constants) ps
      (second_so (is_short ps) _ (first_so (are_fit_patterns domain (length domain.constants) (numbers_from 0 n) ps) _ e))

  fit_costs : (n : ℕ) → n ≤ 16 → (ts : List CostTerm)
      → list_all (is_fit_cost domain (numbers_from 0 n)) ts ≡ true
      → list_all is_readable_cost ts ≡ true
  fit_costs n most [] e = refl
  fit_costs n most (Number k ∷ ts) e =
      and_from _ _ (first_so (nat_le k 1000000) _ e) (fit_costs n most ts (second_so (nat_le k 1000000) _ e))
  fit_costs n most (Value func args ∷ ts) e =
      and_from _ _ (fit_args domain.functions fit.functions.arities n most (length domain.constants) func args
      (first_so (is_fit_application domain.functions (length domain.constants) (numbers_from 0 n) func args) _ e))
      (fit_costs n most ts (second_so (is_fit_application domain.functions (length domain.constants) (numbers_from 0 n) func args) _ e))

  -- what the checker asks of an action
  pub record IsReadableAction (a : Action) : Type 0 where
    pub params : length a.params ≤ 16
    pub condition : is_readable domain a.condition ≡ true
    pub adds : list_all is_readable_pattern a.adds ≡ true
    pub deletes : list_all is_readable_pattern a.deletes ≡ true
    pub few : length a.costs ≤ 262144
    pub costs : list_all is_readable_cost a.costs ≡ true

  pub readable_action : (a : Action) → is_fit_action domain a ≡ true → IsReadableAction a
  readable_action a e =
      let slots = param_slots a in
      let p1 = are_fit_params domain a.params in
      let p2 = is_fit_condition domain (length domain.constants) slots a.condition in
      let p3 = are_fit_effects domain slots a.adds in
      let p4 = are_fit_effects domain slots a.deletes in
      let p5 = nat_le (length a.costs) 262144 in
      let e5 = first_so (p1 && p2 && p3 && p4 && p5) _ e in
      let e4 = first_so (p1 && p2 && p3 && p4) p5 e5 in
      let e3 = first_so (p1 && p2 && p3) p4 e4 in
      let e2 = first_so (p1 && p2) p3 e3 in
      let e1 = first_so p1 p2 e2 in
      let params : length a.params ≤ 16 = leb-true (length a.params) 16 (first_so (nat_le (length a.params) 16) _ e1) in
      record {
        params = params;
        condition = fit_readable domain fit (length domain.constants) (length a.params) params a.condition (second_so p1 p2 e2);
        adds = fit_effects (length a.params) params a.adds (second_so (p1 && p2) p3 e3);
        deletes = fit_effects (length a.params) params a.deletes (second_so (p1 && p2 && p3) p4 e4);
        few = leb-true (length a.costs) 262144 (second_so (p1 && p2 && p3 && p4) p5 e5);
        costs =
            fit_costs (length a.params) params a.costs (second_so (p1 && p2 && p3 && p4 && p5) _ e);
      }
