-- Roles, by what the domain has.
use Rattle.std.proofs.Common.{◌≡◌, ℕ, true, false, refl, ap, ◌∙◌}
use Rattle.task_model.specs.Fit as fit
use Rattle.task_model.specs.Roles.{role_of, is_derived, is_changed}
use Rattle.task_model.specs.declared.domain.Domain.{Domain}
use Rattle.task_model.specs.declared.domain.Role.TheVariants.{Static, Fluent, Derived}
use Rattle.std.proofs.lemmas.Bool.{cond-true, cond-false}

pub role_derived : (domain : Domain) (pred : ℕ) → is_derived domain pred ≡ true
    → role_of domain pred ≡ Derived
unfolding role_of
role_derived domain pred d = cond-true (is_derived domain pred) _ _ d

pub role_fluent : (domain : Domain) (pred : ℕ) → is_derived domain pred ≡ false
    → is_changed domain pred ≡ true
    → role_of domain pred ≡ Fluent
unfolding role_of
role_fluent domain pred d c =
    cond-false (is_derived domain pred) _ _ d ∙ cond-true (is_changed domain pred) _ _ c

pub role_static : (domain : Domain) (pred : ℕ) → is_derived domain pred ≡ false
    → is_changed domain pred ≡ false
    → role_of domain pred ≡ Static
unfolding role_of
role_static domain pred d c =
    cond-false (is_derived domain pred) _ _ d ∙ cond-false (is_changed domain pred) _ _ c

pub derived_by_role : (domain : Domain) (pred : ℕ)
    → fit.is_derived_role (role_of domain pred) ≡ is_derived domain pred
derived_by_role domain pred =
    elim (is_derived domain pred) as (λ b. is_derived domain pred ≡ b → fit.is_derived_role (role_of domain pred) ≡ b) [
      | true ↦ λ d. ap fit.is_derived_role (role_derived domain pred d)
      | false ↦ λ d.
          elim (is_changed domain pred) as (λ b. is_changed domain pred ≡ b → fit.is_derived_role (role_of domain pred) ≡ false) [
            | true ↦ λ c. ap fit.is_derived_role (role_fluent domain pred d c)
            | false ↦ λ c. ap fit.is_derived_role (role_static domain pred d c)
          ] refl
    ] refl
