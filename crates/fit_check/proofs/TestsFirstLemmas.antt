-- Names that are the first of others.
use Rattle.std.proofs.Common.{◌≡◌, ℕ, ◌<◌, true, false, List, [], ◌∷◌, map, take, length, refl, sym, arith}
use Rattle.std.specs.Cmp.{first_so, second_so}
use Rattle.std.proofs.lemmas.Bool.{and_from, and_right}
use Rattle.task_model.proofs.KnownLemmas.{numbers_decided}
use Rattle.task_model.specs.Known.{same_numbers}
use Rattle.task_model.specs.declared.domain.Declared.{Declared}
use Rattle.fit_check.specs.Tests.{are_first}

pub more_not_first : (cs os : List Declared) → length os < length cs → false ≡ are_first cs os
more_not_first [] os h = absurd (omega arith)
more_not_first (c ∷ cs) [] h = refl
more_not_first (c ∷ cs) (o ∷ os) h =
    sym (and_right (same_numbers c.name o.name) (are_first cs os) (sym (more_not_first cs os (omega arith))))

abbrev names_of : List Declared → List (List ℕ)
names_of = map (λ (d : Declared). d.name)

pub first_if : (cs os : List Declared) → are_first cs os ≡ true
    → names_of cs ≡ take (length cs) (names_of os)
first_if [] os e = refl
first_if (c ∷ cs) [] e = absurd (cc)
first_if (c ∷ cs) (o ∷ os) e =
    λ i. (numbers_decided c.name o.name).0 (first_so (same_numbers c.name o.name) (are_first cs os) e) i
    ∷ first_if cs os (second_so (same_numbers c.name o.name) (are_first cs os) e) i

pub first_from : (cs os : List Declared) → names_of cs ≡ take (length cs) (names_of os)
    → are_first cs os ≡ true
first_from [] os e = refl
first_from (c ∷ cs) [] e = absurd (cc)
first_from (c ∷ cs) (o ∷ os) e =
    let here : c.name ≡ o.name = cc in
    let rest : names_of cs ≡ take (length cs) (names_of os) = cc in
    and_from (same_numbers c.name o.name) (are_first cs os) ((numbers_decided c.name o.name).1 here) (first_from cs os rest)
