-- What a store of facts shows: what is known, with the proof that it is coherent.
use Rattle.std.specs.Prelude.{◌≡◌, ℕ, List, Bool, true, false, refl}
use Rattle.std.specs.Coded.{Coded, Coded-set, code_by, coded×, coded_ℕ, coded_bool, coded_list, le_prop}
use Rattle.std.proofs.Common.{subst}
use Rattle.task_model.specs.Known.{Known, IsCoherent}
use Rattle.task_model.specs.declared.fact.Fact.{Fact}
use Rattle.task_model.specs.declared.fact.Kind.{Kind}
use Rattle.task_model.specs.declared.fact.Kind.TheVariants.{Predicate, Sort}
use Rattle.task_model.specs.declared.task.Valued.{Valued}

-- What is known: names, facts and values. They stand once each, each object of a fact has a name, and values are costs.
pub record Store : Type 0 where
  pub known : Known
  pub coherent : IsCoherent known

-- ---- two stores that know the same are equal

pub coherent_prop : (known : Known) → IsProp (IsCoherent known)
coherent_prop known x y i = record {
  names = λ a b n p q. Coded-set coded_ℕ a b (x.names a b n p q) (y.names a b n p q) i;
  facts = λ a b n p q. Coded-set coded_ℕ a b (x.facts a b n p q) (y.facts a b n p q) i;
  values = λ a b n p q. Coded-set coded_ℕ a b (x.values a b n p q) (y.values a b n p q) i;
  objects =
      λ k f h j d l. Coded-set coded_bool _ _ (x.objects k f h j d l) (y.objects k f h j d l) i;
  costs = λ k v h. le_prop (x.costs k v h) (y.costs k v h) i;
}

pub same_store : (x y : Store) → x.known ≡ y.known → x ≡ y
same_store x y e =
    subst (λ (k : Known). (c : IsCoherent k) → x ≡ record { known = k; coherent = c }) e
    (λ c i. record { known = x.known; coherent = coherent_prop x.known x.coherent c i }) y.coherent

-- ---- how a store is stored, by which proofs tell two of them apart

abbrev is_sort : Kind → Bool
is_sort Predicate = false
is_sort Sort = true

abbrev kind_by : Bool → Kind
kind_by false = Predicate
kind_by true = Sort

pub kind_by-is_sort : (k : Kind) → kind_by (is_sort k) ≡ k
kind_by-is_sort Predicate = refl
kind_by-is_sort Sort = refl

abbrev pub coded_kind : Coded Kind
coded_kind = code_by Bool coded_bool is_sort kind_by kind_by-is_sort

abbrev pub coded_fact : Coded Fact
coded_fact =
    code_by (Kind × (ℕ × List ℕ)) (coded× coded_kind (coded× coded_ℕ (coded_list coded_ℕ)))
    (λ f. (f.kind, (f.name, f.args))) (λ p. record { kind = p.0; name = p.1.0; args = p.1.1 }) (λ _. refl)

abbrev pub coded_valued : Coded Valued
coded_valued =
    code_by (ℕ × (List ℕ × ℕ)) (coded× coded_ℕ (coded× (coded_list coded_ℕ) coded_ℕ))
    (λ v. (v.func, (v.args, v.value))) (λ p. record { func = p.0; args = p.1.0; value = p.1.1 }) (λ _. refl)

abbrev coded_known : Coded Known
coded_known =
    code_by (List (List ℕ) × (List Fact × List Valued))
    (coded× (coded_list (coded_list coded_ℕ)) (coded× (coded_list coded_fact) (coded_list coded_valued)))
    (λ k. (k.names, (k.facts, k.values))) (λ p. record { names = p.0; facts = p.1.0; values = p.1.1 }) (λ _. refl)

abbrev pub coded_store : Coded Store
coded_store = record
    { code = λ s. coded_known.code s.known; inj = λ x y e. same_store x y (coded_known.inj x.known y.known e) }
