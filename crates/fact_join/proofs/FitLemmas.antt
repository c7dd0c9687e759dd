-- Atoms of fit tasks can be asked for.
use Rattle.std.proofs.Common.{◌≡◌, ℕ, ◌+◌, ◌<◌, true, ◌&&◌, List, [], ◌∷◌, length, refl, arith, nat_le}
use Rattle.std.proofs.lemmas.Bool.{and_from}
use Rattle.std.specs.Cmp.{first_so, second_so}
use Rattle.std.specs.List.{list_all}
use Rattle.formula_eval.proofs.ReadableLemmas.{few_arguments}
use Rattle.lemmas.proofs.Numbers.{below_in_numbers}
use Rattle.lemmas.specs.Lists.{numbers_from}
use Rattle.task_model.specs.Fit.{is_fit_term, is_fit_application, has_arity}
use Rattle.task_model.specs.declared.condition.Term.{Term}
use Rattle.task_model.specs.declared.condition.Term.TheVariants.{Slot, Object}
use Rattle.task_model.specs.declared.domain.Signature.{Signature}
use Rattle.fact_join.specs.Answers.{is_term_of}
use borrow.Author.Tests.{lt-ltb}

term_of : (objects width : ℕ) (t : Term) → is_fit_term objects (numbers_from 0 width) t ≡ true
    → is_term_of width t ≡ true
term_of objects width (Slot n) e =
    let below : n < 0 + width = below_in_numbers 0 width n e in lt-ltb n width (omega (arith, below))
term_of objects width (Object o) e = refl

terms_of : (objects width : ℕ) (ts : List Term)
    → list_all (is_fit_term objects (numbers_from 0 width)) ts ≡ true
    → list_all (is_term_of width) ts ≡ true
terms_of objects width [] e = refl
terms_of objects width (t ∷ ts) e =
    and_from (is_term_of width t) (list_all (is_term_of width) ts)
    (term_of objects width t (first_so (is_fit_term objects (numbers_from 0 width) t) _ e))
    (terms_of objects width ts (second_so (is_fit_term objects (numbers_from 0 width) t) _ e))

-- the terms of a fit atom over the first slots are those of an atom of a tuple as long
pub fit_terms : (all : List Signature) → list_all (λ (s : Signature). nat_le s.arity 8) all ≡ true
    → (objects width pred : ℕ) (terms : List Term)
    → is_fit_application all objects (numbers_from 0 width) pred terms ≡ true
    → (nat_le (length terms) 8 && list_all (is_term_of width) terms) ≡ true
fit_terms all few objects width pred terms e =
    let arity = first_so (has_arity all pred (length terms)) (list_all (is_fit_term objects (numbers_from 0 width)) terms) e in
    let each = second_so (has_arity all pred (length terms)) (list_all (is_fit_term objects (numbers_from 0 width)) terms) e in
    and_from (nat_le (length terms) 8) (list_all (is_term_of width) terms) (few_arguments all pred (length terms) few arity)
    (terms_of objects width terms each)
