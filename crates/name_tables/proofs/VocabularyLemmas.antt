-- Names of a fit domain, with their numbers.
use Rattle.std.proofs.Common.{◌≡◌, ℕ, zero, suc, ◌+◌, ◌<◌, true, List, [], ◌∷◌, map, length, refl, sym, ap, ◌∙◌, Some, slice_get, arith}
use Rattle.task_model.specs.Fit.{has_arity}
use Rattle.lemmas.specs.Lists.{numbers_from}
use Rattle.task_model.specs.Roles.{role_of}
use Rattle.task_model.specs.declared.domain.Domain.{Domain}
use Rattle.task_model.specs.declared.domain.Signature.{Signature}
use Rattle.name_tables.specs.Declarations.{signature_list}
use Rattle.name_tables.specs.Names.{Signed}
use Rattle.name_tables.specs.Terms.{declared_place}
use Rattle.name_tables.specs.declared.vocabulary.Vocabulary.{Vocabulary}
use Rattle.name_tables.proofs.FitTerms.{Knows}
use Rattle.std.proofs.lemmas.Option.{slice_get_within}
use Rattle.std.proofs.lemmas.List.{length-map}
use Rattle.name_tables.proofs.NamesUseLemmas.{IsUsable, has_arity_at, place_holds}

-- the names and arities of these declarations, in their order
pub record AreSigned (all : List Signature) (s : Signed) : Type 0 where
  pub names : s.names ≡ map (λ (g : Signature). g.name) all
  pub arities : s.arities ≡ map (λ (g : Signature). g.arity) all

-- types, predicates, functions and so many objects, in their order
pub record AreNamesOf (d : Domain) (objects : ℕ) (v : Vocabulary) : Type 0 where
  pub sorts : length v.sorts ≡ length d.sorts
  pub predicates : AreSigned d.predicates v.predicates
  pub functions : AreSigned d.functions v.functions
  pub long : length v.objects ≡ objects

-- what is used has its number of arguments
pub used_arity : (all : List Signature) (s : Signed) (n : List ℕ) (count : ℕ) → AreSigned all s → IsUsable s n count
    → has_arity all (declared_place s n) count ≡ true
used_arity all s n count are used =
    has_arity_at all (declared_place s n) count (ap (λ as'. slice_get as' (declared_place s n)) (sym are.arities) ∙ used.arity)

-- ---- roles

pub used_inside : (all : List Signature) (s : Signed) (n : List ℕ) (count : ℕ) → AreSigned all s → IsUsable s n count
    → declared_place s n < length all
used_inside all s n count are used =
    let inside = slice_get_within s.names (declared_place s n) n (place_holds n s.names used.there) in
    let long : length s.names ≡ length all = ap length are.names ∙ length-map all (λ (g : Signature). g.name) in
    omega arith

number_at : {A : Type 0} (f : ℕ → A) (first count k : ℕ) → k < count
    → slice_get (map f (numbers_from first count)) k ≡ Some (f (first + k))
number_at f first zero k h = absurd (omega arith)
number_at f first (suc count) zero h =
    let e : first ≡ first + 0 = omega arith in ap (λ n. Some (f n)) e
number_at f first (suc count) (suc k) h =
    let e : first + 1 + k ≡ first + suc k = omega arith in number_at f (first + 1) count k (omega arith) ∙ ap (λ n. Some (f n)) e

-- each predicate's role stands at its place
pub role_at : (d : Domain) (k : ℕ)
    → d.roles ≡ map (role_of d) (numbers_from 0 (length d.predicates)) → k < length d.predicates
    → slice_get d.roles k ≡ Some (role_of d k)
role_at d k e h =
    let zeros : 0 + k ≡ k = omega arith in
    ap (λ rs. slice_get rs k) e ∙ number_at (role_of d) 0 (length d.predicates) k h ∙ ap (λ n. Some (role_of d n)) zeros

-- ---- as conditions ask for them

side_by_side : (all : List Signature)
    → signature_list (map (λ (g : Signature). g.name) all) (map (λ (g : Signature). g.arity) all) ≡ all
side_by_side [] = refl
side_by_side (g ∷ gs) = ap (λ hs. g ∷ hs) (side_by_side gs)

pub listed : (all : List Signature) (s : Signed) → AreSigned all s
    → all ≡ signature_list s.names s.arities
listed all s are =
    sym (side_by_side all) ∙ (λ i. signature_list (sym are.names i) (sym are.arities i))

pub knows_from : (d : Domain) (n : ℕ) (v : Vocabulary) → 0 < length v.sorts → AreNamesOf d n v
    → Knows v d n
knows_from d n v some are = record {
  predicates = listed d.predicates v.predicates are.predicates;
  functions = listed d.functions v.functions are.functions;
  sorts = sym are.sorts;
  typed = some;
  objects_long = sym are.long;
}
