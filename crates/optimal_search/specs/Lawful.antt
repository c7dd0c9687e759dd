-- The estimates are lawful.
use Rattle.std.proofs.Common.{◌≡◌, ℕ, refl, sym, ap, subst, arith}
use Rattle.task_model.specs.State.{Atoms}
use Rattle.task_model.specs.Known.{Known}
use Rattle.task_model.specs.declared.task.Task.{Task}
use Rattle.optimal_search.specs.FewestLemmas.{fewest_consistent}
use Rattle.optimal_search.specs.Consistent.{IsLawful}
use Rattle.optimal_search.specs.Fewest.{IsFewestOf, fewest}
use Rattle.optimal_search.specs.Shares.{AreSharesOf, shares_left}
use Rattle.optimal_search.specs.SharesLemmas.{shares_consistent}
use Rattle.optimal_search.specs.declared.fewest.Fewest.{Fewest}
use Rattle.optimal_search.specs.declared.shares.Shares.{Shares}

pub blind_is_lawful : {E : Type 0}
    → IsLawful {E = E} (λ (old new : E) (s : Atoms) (n : ℕ). n ≡ 0) (λ e s. 0) (λ e task known. Unit {0})
blind_is_lawful = record {
  answers = λ old new s n is. is;
  same = λ old new s n is t. refl;
  suits = λ old new s n task known is was. was;
  consistent = λ e task known was.
      record { falls = λ before after step cost is. omega arith; goal = λ state is. refl };
}

pub fewest_is_lawful : IsLawful {E = Fewest}
    (λ (old new : Fewest) (s : Atoms) (n : ℕ). (n ≡ fewest old s) × (new ≡ old)) fewest
    (λ (e : Fewest) (task : Task) (known : Known). IsFewestOf task e)
fewest_is_lawful = record {
  answers = λ old new s n is. is.0;
  same = λ old new s n is t. ap (λ (e : Fewest). fewest e t) is.1;
  suits = λ old new s n task known is was. subst (IsFewestOf task) (sym is.1) was;
  consistent = λ e task known was. fewest_consistent e task known was;
}

pub shares_is_lawful : IsLawful {E = Shares}
    (λ (old new : Shares) (s : Atoms) (n : ℕ). (n ≡ shares_left old s) × (new ≡ old)) shares_left
    (λ (e : Shares) (task : Task) (known : Known). AreSharesOf task known e)
shares_is_lawful = record {
  answers = λ old new s n is. is.0;
  same = λ old new s n is t. ap (λ (e : Shares). shares_left e t) is.1;
  suits = λ old new s n task known is was. subst (AreSharesOf task known) (sym is.1) was;
  consistent = λ e task known was. shares_consistent e task known was;
}
